-- The parents that count.
use Rattle.std.proofs.Common.{◌≡◌, List, [], ◌∷◌, Option, Some, None, refl, ap, ◌∙◌}
use Rattle.sd_names.specs.declared.id.Id.{Id}
use Rattle.volume_meta.specs.declared.record.VolumeRecord.{VolumeRecord}
use Rattle.chain_model.specs.Records.{Records, parent}
use Rattle.chain_model.specs.Chain.{ComesToRing, IsBelow}
use Rattle.chain_model.specs.Up.{up_of}
use Rattle.chain_model.proofs.Chains.{no_id, one_below, same_id}
use Rattle.chain_model.proofs.Rings.{no_chain, record_behind}
use Rattle.chain_records.specs.declared.volume.Volume.{Volume}
use Rattle.chain_records.specs.Records.{records_in}
use Rattle.chain_records.specs.Settling.{IsNamed, IsOver}
use Rattle.chain_records.proofs.Lists.{AllOf, record_among}

-- the parent that counts is that of the one chain
pub up_is : (r : Records) (v w : Id) (vs : List Id) → IsBelow r v vs → IsOver r v w → up_of r vs ≡ Some w
up_is r v w vs b over = ap (λ (us : List Id). up_of r us) (one_below r v vs over.0 b over.1) ∙ over.2

pub one_up : (r : Records) (v a b : Id) → IsOver r v a → IsOver r v b → a ≡ b
one_up r v a b over other = same_id (up_of r over.0) a b over.2 (up_is r v b over.0 over.1 other)

pub ringed_no_up : (r : Records) (v w : Id) → ComesToRing r v → IsOver r v w → ⊥
ringed_no_up r v w ring over = no_chain r v over.0 ring over.1

pub base_no_up : (r : Records) (v w : Id) (vs : List Id) → IsBelow r v vs → up_of r vs ≡ None → IsOver r v w → ⊥
base_no_up r v w vs b none over = no_id (up_of r vs) w none (up_is r v w vs b over)

over_has_parent : (r : Records) (v w : Id) (vs : List Id) → IsBelow r v vs → up_of r vs ≡ Some w → (p : Id) × (parent r v ≡ Some p)
over_has_parent r v w [] b e = absurd cc
over_has_parent r v w (u ∷ us) b e = (u, b.0)

-- who names a volume is one of the list
pub none_names : (xs : List Volume) (v : Id) → AllOf (λ u. IsOver (records_in xs) u v → ⊥) xs → IsNamed (records_in xs) v → ⊥
none_names xs v all named =
    let up = over_has_parent (records_in xs) named.0 v named.1.0 named.1.1 named.1.2 in
    let has = record_behind (records_in xs named.0) up.0 up.1 in
    all named.0 (record_among xs named.0 has.0 has.1) named.1

pub over_has_record : (r : Records) (v w : Id) → IsOver r v w → (x : VolumeRecord) × (r v ≡ Some x)
over_has_record r v w over = let up = over_has_parent r v w over.0 over.1 over.2 in record_behind (r v) up.0 up.1

pub no_up : (r : Records) (v : Id) (vs : List Id) → IsBelow r v vs → ((w : Id) → IsOver r v w → ⊥) → up_of r vs ≡ None
no_up r v vs b none = go (up_of r vs) refl
  where
    go : (o : Option Id) → up_of r vs ≡ o → o ≡ None
    go None e = refl
    go (Some w) e = absurd (none w (vs, b, e))
