-- The checks of the path's layers, volume by volume.
use Rattle.std.proofs.Common.{◌≡◌, ◌⊎◌, ℕ, List, [], ◌∷◌, length, slice_get, Option, Some, None, refl, sym, ◌∙◌, subst, inl, inr, arith}
use Rattle.std.specs.List.{Contains}
use Rattle.sd_names.specs.declared.id.Id.{Id}
use Rattle.sd_names.specs.declared.kinds.Format.TheVariants as format
use Rattle.sd_names.specs.declared.refusal.Refusal.{Refusal}
use Rattle.shared_disk.proofs.Outcomes.{nothing_in, cons_cases}
use Rattle.shared_disk.specs.Content.{Content}
use Rattle.volume_meta.specs.declared.record.VolumeRecord.{VolumeRecord}
use Rattle.chain_model.specs.Folder.{Volumes}
use Rattle.chain_model.specs.Opening.{Check, FirstRefusal, IsBadLayer, IsBadName, Refuses, both, header, layer}
use Rattle.chain_model.specs.Records.{Image, Records, records_of}
use Rattle.chain_records.specs.Records.{records_in}
use Rattle.volume_chain.specs.Chain.{IsOpenAs, OnPath, image_in}
use Rattle.volume_chain.specs.Knowing.{IsPassed, KnowsPath}
use Rattle.volume_chain.specs.declared.chain.Chain.{Chain}
use Rattle.volume_chain.specs.declared.chain.Target.{Target}
use Rattle.volume_chain.specs.declared.volumes.OpenVolume.{OpenVolume}
use Rattle.volume_chain.specs.declared.volumes.OpenVolume.TheVariants.{Raw, Cow}
use Rattle.volume_chain.proofs.Along.{along_both}

-- neither check of a volume of the path refuses
abbrev pub IsFine : Image → Volumes → Id → OpenVolume → Type 0
IsFine i x v o = ((e : Refusal) → IsBadLayer x (records_of i x) v e → ⊥) × ((e : Refusal) → IsBadName x (records_of i x) v e → ⊥)

not_cow : (y z : VolumeRecord) (o : Option VolumeRecord) → o ≡ Some y → o ≡ Some z → y.format ≡ format.Raw → z.format ≡ format.Cow → ⊥
not_cow y z o a b raw cow = cc

-- a raw volume has no layer, and its header no name
raw_fine : (i : Image) (x : Volumes) (v : Id) (y : VolumeRecord) (o : OpenVolume) → records_of i x v ≡ Some y → y.format ≡ format.Raw → IsFine i x v o
raw_fine i x v y o is raw = (
  λ e bad. not_cow y bad.0 (records_of i x v) is bad.1 raw bad.2,
  λ e bad. not_cow y bad.0 (records_of i x v) is bad.1 raw bad.2,
)

pub fine_by : (i : Image) (x : Volumes) (t : Target) (r : Records) (v : Id) (o : OpenVolume) → ((u : Id) → records_of i x u ≡ r u) → IsOpenAs t v (r v) o → IsPassed i x v o → IsFine i x v o
fine_by i x t r v (Cow l) same open_as passed = passed
fine_by i x t r v (Raw n) same open_as passed = go (r v) refl open_as
  where
    go : (q : Option VolumeRecord) → r v ≡ q → IsOpenAs t v q (Raw n) → IsFine i x v (Raw n)
    go None e open_as = absurd open_as
    go (Some y) e open_as = raw_fine i x v y (Raw n) (same v ∙ e) open_as

-- the open volumes of the path are fine
pub all_fine : (c : Chain) (host : ℕ) (x : Volumes) (rest : List Id) (d : Content) → KnowsPath c host x rest d → OnPath (IsFine (image_in c.target) x) c.path c.volumes
all_fine c host x rest d knows =
    along_both (λ v o. IsOpenAs c.target v (records_in c.records v) o) (IsPassed (image_in c.target) x) (IsFine (image_in c.target) x)
    (λ v o open_as passed. fine_by (image_in c.target) x c.target (records_in c.records) v o knows.shown.read.records open_as passed) c.path c.volumes knows.shape.each knows.passed

-- where all are fine, no check of them refuses
pub none_refuses : (i : Image) (x : Volumes) (all : List Id) (path : List Id) (os : List OpenVolume) → OnPath (IsFine i x) path os → length os ≡ length path
    → (c : Check) → Contains (both layer header path) c → (e : Refusal) → Refuses i x all c e → ⊥
none_refuses i x all [] os along same c h e is = nothing_in c h
none_refuses i x all (v ∷ vs) [] along same c h e is = omega (arith, same)
none_refuses i x all (v ∷ vs) (o ∷ os) along same c h e is =
    go (cons_cases (layer v) c (header v ∷ both layer header vs) h) (λ g. none_refuses i x all vs os along.1 (omega (arith, same)) c g e is)
  where
    at_header : (header v ≡ c) ⊎ Contains (both layer header vs) c → (Contains (both layer header vs) c → ⊥) → ⊥
    at_header (inl q) rest = along.0.1 e (subst (λ (k : Check). Refuses i x all k e) (sym q) is)
    at_header (inr g) rest = rest g

    go : (layer v ≡ c) ⊎ Contains (header v ∷ both layer header vs) c → (Contains (both layer header vs) c → ⊥) → ⊥
    go (inl q) rest = along.0.0 e (subst (λ (k : Check). Refuses i x all k e) (sym q) is)
    go (inr g) rest = at_header (cons_cases (header v) c (both layer header vs) g) rest

-- the next volume is refused
abbrev pub IsRefusedAt : Image → Volumes → Id → Refusal → Type 0
IsRefusedAt i x v e = IsBadLayer x (records_of i x) v e ⊎ (((other : Refusal) → IsBadLayer x (records_of i x) v other → ⊥) × IsBadName x (records_of i x) v e)

pub first_at : (i : Image) (x : Volumes) (all : List Id) (path : List Id) (os : List OpenVolume) (v : Id) (e : Refusal) → OnPath (IsFine i x) path os → slice_get path (length os) ≡ Some v
    → IsRefusedAt i x v e → FirstRefusal i x all (both layer header path) e
first_at i x all [] [] v e along next is = absurd cc
first_at i x all [] (o ∷ os) v e along next is = absurd along
first_at i x all (w ∷ ws) [] v e along next is = let same : w ≡ v = cc in go (subst (λ (u : Id). IsRefusedAt i x u e) (sym same) is)
  where
    go : IsRefusedAt i x w e → FirstRefusal i x all (both layer header (w ∷ ws)) e
    go (inl bad) = inl bad
    go (inr name) = inr (name.0, inl name.1)
first_at i x all (w ∷ ws) (o ∷ os) v e along next is = inr (along.0.0, inr (along.0.1, first_at i x all ws os v e along.1 next is))
