-- Rings, and who reads through a volume.
use Rattle.std.proofs.Common.{◌≡◌, true, List, Option, Some, None, refl, sym, subst}
use Rattle.std.specs.Prelude.{IfSome}
use Rattle.std.specs.List.{Contains}
use Rattle.std.specs.Option.{is_some}
use Rattle.std.proofs.lemmas.Bool.{false≢true}
use Rattle.sd_names.specs.declared.id.Id.{Id}
use Rattle.volume_meta.specs.declared.record.VolumeRecord.{VolumeRecord}
use Rattle.chain_model.specs.Records.{Records, holds_in, is_legal, legal_in, parent}
use Rattle.chain_model.specs.Chain.{ComesToRing, HasAncestor, HasRing, IsBelow, farther, nearest, path_of}
use Rattle.chain_model.specs.Opening.{IsUsed}
use Rattle.chain_model.specs.Reading.{HasNoReading, IsReading}
use Rattle.chain_model.proofs.Chains.{one_below}
use Rattle.chain_model.proofs.Rings.{no_chain, record_behind}
use Rattle.chain_records.specs.declared.volume.Volume.{Volume}
use Rattle.chain_records.specs.Paths.{HasChain, HaveAllLegal, IsReadingPath, IsReadingPathOf, ReadsThrough}
use Rattle.chain_records.specs.Records.{ids_of, records_in}
use Rattle.chain_records.proofs.Lists.{AllOf, record_among}

has_parent : (r : Records) (v w : Id) → HasAncestor r v w → (p : Id) × (parent r v ≡ Some p)
has_parent r v w (nearest e) = (w, e)
has_parent r v w (farther {w = m} e more) = (m, e)

-- where each volume has a chain, none is its own ancestor
pub no_rings : (xs : List Volume) → AllOf (HasChain (records_in xs)) xs → HasRing (records_in xs) → ⊥
no_rings xs all ring =
    let up = has_parent (records_in xs) ring.0 ring.0 ring.1 in
    let has = record_behind (records_in xs ring.0) up.0 up.1 in
    let chain = all ring.0 (record_among xs ring.0 has.0 has.1) in
    no_chain (records_in xs) ring.0 chain.0 (ring.0, ring.1, ring.1) chain.1

legal_has_record : (o : Option VolumeRecord) → holds_in legal_in o ≡ true → (x : VolumeRecord) × (o ≡ Some x)
legal_has_record None e = absurd (false≢true e)
legal_has_record (Some x) e = (x, refl)

pub legal_among : (xs : List Volume) (u : Id) → is_legal (records_in xs) u ≡ true → Contains (ids_of xs) u
legal_among xs u e = let has = legal_has_record (records_in xs u) e in record_among xs u has.0 has.1

-- who reads through a volume is one of the list
pub none_reads : (xs : List Volume) (v : Id) → AllOf (λ u. ReadsThrough (records_in xs) v u → ⊥) xs → IsUsed (records_in xs) v → ⊥
none_reads xs v all used = all used.0 (legal_among xs used.0 used.2) (used.1, used.2, used.3, used.4)

pub reads_used : (r : Records) (v u : Id) → ReadsThrough r v u → IsUsed r v
reads_used r v u reads = (u, reads.0, reads.1, reads.2, reads.3)

-- a reader's path is that of its one chain
pub reads_by : (r : Records) (v u : Id) (us : List Id) → IsBelow r u us → ReadsThrough r v u → Contains (path_of r u us) v
reads_by r v u us b reads = subst (λ (ws : List Id). Contains (path_of r u ws) v) (one_below r u reads.0 us reads.2 b) reads.3

pub ringed_reads_none : (r : Records) (v u : Id) → ComesToRing r u → ReadsThrough r v u → ⊥
ringed_reads_none r v u ring reads = no_chain r u reads.0 ring reads.2

-- ---- the reading volume

pub all_legal : (xs : List Volume) (path : List Id) → AllOf (λ u. is_legal (records_in xs) u ≡ true → Contains path u) xs → HaveAllLegal (records_in xs) path
all_legal xs path all u legal = all u (legal_among xs u legal) legal

pub no_reading : (xs : List Volume) → AllOf (λ v. (vs : List Id) → IsReading (records_in xs) v vs → ⊥) xs → HasNoReading (records_in xs)
no_reading xs all v vs reads = all v (legal_among xs v reads.legal) vs reads

pub reading_of : (r : Records) (v : Id) (path : List Id) → IsReadingPathOf r v path → IsReadingPath r path
reading_of r v path is = (v, is.0, is.1, is.2)

pub reads_path : (r : Records) (v : Id) (vs path : List Id) → is_legal r v ≡ true → IsBelow r v vs → path ≡ path_of r v vs → HaveAllLegal r path
    → IsReadingPathOf r v path
reads_path r v vs path legal b e all =
    (vs, record { below = b; legal = legal; all = λ u l. subst (λ (ps : List Id). Contains ps u) e (all u l) }, e)

pub misses_legal : (r : Records) (v : Id) (vs path : List Id) → IsBelow r v vs → path ≡ path_of r v vs → (HaveAllLegal r path → ⊥) → (ws : List Id)
    → IsReading r v ws → ⊥
misses_legal r v vs path b e misses ws reads =
    let same = one_below r v ws vs reads.below b in
    misses (λ u l. subst (λ (ps : List Id). Contains ps u) (sym e) (subst (λ (us : List Id). Contains (path_of r v us) u) same (reads.all u l)))

-- ---- what a walk down found

pub chained : (r : Records) (v : Id) (o : Option (List Id)) → IfSome o (λ vs. IsBelow r v vs) → (o ≡ None → ⊥) → HasChain r v
chained r v None b some = absurd (some refl)
chained r v (Some vs) b some = (vs, b)

pub not_none : {A : Type 0} (o : Option A) → is_some o ≡ true → o ≡ None → ⊥
not_none None e f = false≢true e
not_none (Some x) e f = absurd cc
