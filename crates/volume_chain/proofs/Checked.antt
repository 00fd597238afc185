-- The refusals that go by records.
use Rattle.std.proofs.Common.{◌≡◌, ◌⊎◌, ◌↔◌, ℕ, List, [], ◌∷◌, Option, Some, None, refl, sym, ap, ◌∙◌, subst, inl, inr, arith}
use Rattle.std.specs.Prelude.{unwrap_or}
use Rattle.sd_names.specs.Id.{zero_id}
use Rattle.sd_names.specs.declared.fault.Key.{Key}
use Rattle.sd_names.specs.declared.fault.VolumeFault.TheVariants.{BadValue}
use Rattle.sd_names.specs.declared.id.Id.{Id}
use Rattle.sd_names.specs.declared.refusal.Refusal.{Refusal}
use Rattle.sd_names.specs.declared.refusal.Refusal.TheVariants.{ChainTooLong, MetaCorrupt, NoReadingVolume, WrongParent}
use Rattle.sd_names.specs.declared.turn.Turn.TheVariants.{Ended}
use Rattle.shared_disk.specs.Content.{Content}
use Rattle.shared_disk.specs.Step.{TurnFaults}
use Rattle.volume_meta.specs.declared.record.VolumeRecord.{VolumeRecord}
use Rattle.chain_model.specs.Chain.{IsBelow}
use Rattle.chain_model.specs.Opening.{Check, capacity, count, format, header, layer, parents, reading, ring, text, there}
use Rattle.chain_model.specs.Records.{Records}
use Rattle.chain_model.specs.Up.{up_of}
use Rattle.chain_model.proofs.Chains.{one_below}
use Rattle.chain_records.specs.Checks.{FirstIs, RefusesBy}
use Rattle.chain_records.specs.Settling.{IsOver}
use Rattle.volume_chain.specs.Chain.{IsExpected}
use Rattle.volume_chain.specs.Checking.{IsRecordRefusal}
use Rattle.volume_chain.specs.Stages.{IsNoFile}
use Rattle.volume_chain.specs.declared.chain.Chain.{Chain}
use Rattle.volume_chain.specs.declared.stages.Stage.{Stage}

-- what holds of each refusal that a check of records gives
one_check : (P : Refusal → Type 0) → ((v p : Id) → P (WrongParent v p)) → P (ChainTooLong 0) → ((v : Id) (k : Key) → P (MetaCorrupt v (BadValue k))) → P NoReadingVolume
    → (r : Records) (c : Check) (e : Refusal) → RefusesBy r c e → P e
one_check P wrong long bad none r count e is = absurd is
one_check P wrong long bad none r (text v) e is = absurd is
one_check P wrong long bad none r (there v) e is = absurd is
one_check P wrong long bad none r (parents v) e is = subst P (sym is.2) (wrong v is.0)
one_check P wrong long bad none r ring e is = subst P (sym is.1) long
one_check P wrong long bad none r (format v) e is = subst P (sym is.4) (bad v _)
one_check P wrong long bad none r (capacity v) e is = subst P (sym is.10) (bad v _)
one_check P wrong long bad none r reading e is = subst P (sym is.1) none
one_check P wrong long bad none r (layer v) e is = absurd is
one_check P wrong long bad none r (header v) e is = absurd is

same_some : (a b : Refusal) (P : Refusal → Type 0) → Some a ≡ Some b → P b → P a
same_some a b P s p = let same : b ≡ a = cc in subst P same p

by_records : (P : Refusal → Type 0) → ((v p : Id) → P (WrongParent v p)) → P (ChainTooLong 0) → ((v : Id) (k : Key) → P (MetaCorrupt v (BadValue k))) → P NoReadingVolume
    → (r : Records) (cs : List Check) (e : Refusal) → FirstIs r cs (Some e) → P e
by_records P wrong long bad none r [] e f = absurd cc
by_records P wrong long bad none r (c ∷ cs) e (inl f) = same_some e f.0 P f.2 (one_check P wrong long bad none r c f.0 f.1)
by_records P wrong long bad none r (c ∷ cs) e (inr f) = by_records P wrong long bad none r cs e f.1

-- none is a fault of the disk
pub records_cause : (r : Records) (cs : List Check) (e : Refusal) (before after : ℕ) → FirstIs r cs (Some e) → after ≡ before → TurnFaults {S = Stage} {T = Chain} {B = Unit {0}} before after (Ended tt e)
records_cause r cs e before after f same =
    by_records (λ (o : Refusal). TurnFaults {S = Stage} {T = Chain} {B = Unit {0}} before after (Ended tt o)) (λ v p. same) same (λ v k. same) same r cs e f

pub records_number : (r : Records) (cs : List Check) (e : Refusal) → FirstIs r cs (Some e) → IsRecordRefusal e
records_number r cs e f = by_records IsRecordRefusal (λ v p. (3, omega arith, refl)) (4, omega arith, refl) (λ v k. (2, omega arith, refl)) (0, omega arith, refl) r cs e f

-- none says that a file is gone
pub records_no_file : (s : Stage) (d : Content) (r : Records) (cs : List Check) (e : Refusal) → FirstIs r cs (Some e) → IsNoFile s d e
records_no_file s d r cs e f = by_records (IsNoFile s d) (λ v p. tt) tt (λ v k. tt) tt r cs e f

-- ---- what a header may name

pub expected_up : (r : Records) (v : Id) (vs : List Id) (named up : Id) (x : VolumeRecord) → r v ≡ Some x → (named ≡ x.parent → ⊥) → IsOver r v up → IsBelow r v vs
    → (named ≡ up) ↔ IsExpected r v vs named
expected_up r v vs named up x is other over below = (to, from)
  where
    up_is : up_of r vs ≡ Some up
    up_is = ap (λ (ws : List Id). up_of r ws) (one_below r v vs over.0 below over.1) ∙ over.2

    to : named ≡ up → IsExpected r v vs named
    to e = (x, is, inr (e ∙ ap (λ (o : Option Id). unwrap_or o zero_id) (sym up_is)))

    same : (y z : VolumeRecord) (o : Option VolumeRecord) → o ≡ Some y → o ≡ Some z → y ≡ z
    same y z o a b = cc

    from : IsExpected r v vs named → named ≡ up
    from e = go e.2
      where
        go : (named ≡ e.0.parent) ⊎ (named ≡ unwrap_or (up_of r vs) zero_id) → named ≡ up
        go (inl a) = absurd (other (a ∙ ap (λ (w : VolumeRecord). w.parent) (same e.0 x (r v) e.1 is)))
        go (inr b) = b ∙ ap (λ (o : Option Id). unwrap_or o zero_id) up_is

pub expected_none : (r : Records) (v : Id) (vs : List Id) (named : Id) (x : VolumeRecord) → r v ≡ Some x → (named ≡ x.parent → ⊥) → ((up : Id) → IsOver r v up → ⊥) → IsBelow r v vs
    → (named ≡ zero_id) ↔ IsExpected r v vs named
expected_none r v vs named x is other none below = (to, from)
  where
    go_up : (o : Option Id) → up_of r vs ≡ o → o ≡ None
    go_up None e = refl
    go_up (Some u) e = absurd (none u (vs, below, e))

    up_is : up_of r vs ≡ None
    up_is = go_up (up_of r vs) refl

    to : named ≡ zero_id → IsExpected r v vs named
    to e = (x, is, inr (e ∙ ap (λ (o : Option Id). unwrap_or o zero_id) (sym up_is)))

    same : (y z : VolumeRecord) (o : Option VolumeRecord) → o ≡ Some y → o ≡ Some z → y ≡ z
    same y z o a b = cc

    from : IsExpected r v vs named → named ≡ zero_id
    from e = go e.2
      where
        go : (named ≡ e.0.parent) ⊎ (named ≡ unwrap_or (up_of r vs) zero_id) → named ≡ zero_id
        go (inl a) = absurd (other (a ∙ ap (λ (w : VolumeRecord). w.parent) (same e.0 x (r v) e.1 is)))
        go (inr b) = b ∙ ap (λ (o : Option Id). unwrap_or o zero_id) up_is

pub none_left : (o : Option Refusal) → ((e : Refusal) → o ≡ Some e → ⊥) → o ≡ None
none_left None f = refl
none_left (Some e) f = absurd (f e refl)
