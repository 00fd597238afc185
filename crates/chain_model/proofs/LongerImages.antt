-- An image whose files get longer with zeros reads as it did, and is opened or refused as it was.
use Rattle.std.proofs.Common.{◌≡◌, ℕ, ◌<◌, ◌≤◌, Bool, true, false, nat_lt, List, [], ◌∷◌, Option, Some, None, refl, sym, ◌∙◌, subst, inl, inr, arith}
use Rattle.std.specs.Prelude.{◌≢◌, if◌then◌else◌, replicate, unwrap_or}
use Rattle.std.proofs.lemmas.Bool.Decides.{nat_tests}
use Rattle.sd_names.specs.Id.{zero_id}
use Rattle.sd_names.specs.declared.fault.LayerFault.{LayerFault}
use Rattle.sd_names.specs.declared.id.Id.{Id}
use Rattle.sd_names.specs.declared.kinds.Format.TheVariants.{Cow}
use Rattle.sd_names.specs.declared.refusal.Refusal.{Refusal}
use Rattle.sd_names.specs.declared.refusal.Refusal.TheVariants.{LayerRefused, WrongParent}
use Rattle.shared_disk.specs.Changes.{grown, raised}
use Rattle.shared_disk.specs.Content.{File, zero_sector}
use Rattle.shared_disk.specs.Crash.{IsAlso}
use Rattle.volume_meta.specs.declared.record.VolumeRecord.{VolumeRecord}
use Rattle.image_model.specs.File.{sector_in}
use Rattle.chain_model.specs.Folder.{Volumes}
use Rattle.chain_model.specs.Records.{Image, Records, records_of}
use Rattle.chain_model.specs.Chain.{IsBelow}
use Rattle.chain_model.specs.Up.{up_of}
use Rattle.chain_model.specs.Own.{own}
use Rattle.chain_model.specs.Flat.{IsFlat}
use Rattle.chain_model.specs.Headers.{backing}
use Rattle.chain_model.specs.Growth.{AreLonger, IsLonger}
use Rattle.chain_model.specs.Opening.{Check, FirstRefusal, IsBadLayer, IsBadName, IsOpenable, OpenFault, Refuses, capacity, checks, count, format, header, layer, parents, reading, ring, text, there}
use Rattle.chain_model.proofs.Flats.{flat_alike}
use Rattle.chain_model.proofs.LongerFiles.{backing_grown, faultless_grown, own_grown}

-- ---- what volumes hold and read as

pub own_kept : (r : Records) (x y : Volumes) (v : Id) (k : ℕ) → AreLonger x y → own r y v k ≡ own r x v k
own_kept r x y v k l = own_grown (r v) (x.file v) (y.file v) k (l.file v)

pub backing_kept : (r : Records) (x y : Volumes) (v : Id) → AreLonger x y → backing r y v ≡ backing r x v
backing_kept r x y v l = backing_grown (r v) (x.file v) (y.file v) (l.file v)

pub flats_kept : (r : Records) (flats : Id → ℕ → List ℕ) (x y : Volumes) → AreLonger x y → IsFlat r flats x → IsFlat r flats y
flats_kept r flats x y l f = λ u us legal below k has. flat_alike r x y u us k (λ w. own_kept r x y w k l) ∙ f u us legal below k has

-- ---- what checks find

-- the same texts, with other files
abbrev with_files : Volumes → (Id → Option File) → Volumes
with_files x file = record { text = x.text; file = file }

missing_kept : (a b : Option File) → IsAlso IsLonger a b → a ≡ None → b ≡ None
missing_kept None None l e = refl
missing_kept None (Some g) l e = absurd l
missing_kept (Some f) b l e = absurd cc

missing_before : (a b : Option File) → IsAlso IsLonger a b → b ≡ None → a ≡ None
missing_before None b l e = refl
missing_before (Some f) None l e = absurd l
missing_before (Some f) (Some g) l e = absurd cc

-- a header's check, by what the header names
abbrev IsOffName : Records → Id → Option Id → Refusal → Type 0
IsOffName r v named e =
    (y : VolumeRecord) × (r v ≡ Some y) × (y.format ≡ Cow) × (vs : List Id) × IsBelow r v vs
    × (unwrap_or named zero_id ≢ y.parent) × (unwrap_or named zero_id ≢ unwrap_or (up_of r vs) zero_id)
    × (e ≡ WrongParent v (unwrap_or named zero_id))

name_kept : (r : Records) (x y : Volumes) (v : Id) (e : Refusal) → AreLonger x y → IsBadName x r v e → IsBadName y r v e
name_kept r x y v e l bad = subst (λ (o : Option Id). IsOffName r v o e) (sym (backing_kept r x y v l)) bad

name_before : (r : Records) (x y : Volumes) (v : Id) (e : Refusal) → AreLonger x y → IsBadName y r v e → IsBadName x r v e
name_before r x y v e l bad = subst (λ (o : Option Id). IsOffName r v o e) (backing_kept r x y v l) bad

-- the file that got longer
before_growth : (a b : Option File) (g : File) → IsAlso IsLonger a b → b ≡ Some g → (f : File) × (a ≡ Some f) × IsLonger f g
before_growth None None g l e = absurd cc
before_growth None (Some h) g l e = absurd l
before_growth (Some f) None g l e = absurd l
before_growth (Some f) (Some h) g l e = let same : h ≡ g = cc in (f, refl, subst (λ (z : File). IsLonger f z) same l)

layer_kept : (r : Records) (x y : Volumes) (v : Id) → AreLonger x y → ((e : Refusal) → IsBadLayer x r v e → ⊥) → (e : Refusal) → IsBadLayer y r v e → ⊥
layer_kept r x y v l none e bad =
    let was = before_growth (x.file v) (y.file v) bad.3 (l.file v) bad.4 in
    faultless_grown was.0 bad.3 bad.0.capacity was.2 (λ fault h. none (LayerRefused v fault) (bad.0, bad.1, bad.2, was.0, was.1, fault, h, refl)) bad.5 bad.6

-- a check that doesn't refuse still doesn't
passes_still : (i : Image) (x : Volumes) (file : Id → Option File) (vs : List Id) (c : Check) → AreLonger x (with_files x file)
    → ((e : Refusal) → Refuses i x vs c e → ⊥) → (e : Refusal) → Refuses i (with_files x file) vs c e → ⊥
passes_still i x file vs count l none = none
passes_still i x file vs (text v) l none = none
passes_still i x file vs (there v) l none = λ e bad. none e (missing_before (x.file v) (file v) (l.file v) bad.0, bad.1)
passes_still i x file vs (parents v) l none = none
passes_still i x file vs ring l none = none
passes_still i x file vs (format v) l none = none
passes_still i x file vs (capacity v) l none = none
passes_still i x file vs reading l none = none
passes_still i x file vs (layer v) l none = layer_kept (records_of i x) x (with_files x file) v l none
passes_still i x file vs (header v) l none = λ e bad. none e (name_before (records_of i x) x (with_files x file) v e l bad)

-- the fault of a layer stays where the refusal is one
abbrev FaultStays : Image → Volumes → Refusal → Type 0
FaultStays i y e = (v : Id) (fault : LayerFault) → e ≡ LayerRefused v fault → IsBadLayer y (records_of i y) v e

refuses_still : (i : Image) (x : Volumes) (file : Id → Option File) (vs : List Id) (c : Check) (e : Refusal) → AreLonger x (with_files x file)
    → FaultStays i (with_files x file) e → Refuses i x vs c e → Refuses i (with_files x file) vs c e
refuses_still i x file vs count e l stays bad = bad
refuses_still i x file vs (text v) e l stays bad = bad
refuses_still i x file vs (there v) e l stays bad = (missing_kept (x.file v) (file v) (l.file v) bad.0, bad.1)
refuses_still i x file vs (parents v) e l stays bad = bad
refuses_still i x file vs ring e l stays bad = bad
refuses_still i x file vs (format v) e l stays bad = bad
refuses_still i x file vs (capacity v) e l stays bad = bad
refuses_still i x file vs reading e l stays bad = bad
refuses_still i x file vs (layer v) e l stays bad = stays v bad.5 bad.7
refuses_still i x file vs (header v) e l stays bad = name_kept (records_of i x) x (with_files x file) v e l bad

first_still : (i : Image) (x : Volumes) (file : Id → Option File) (vs : List Id) (cs : List Check) (e : Refusal) → AreLonger x (with_files x file)
    → FaultStays i (with_files x file) e → FirstRefusal i x vs cs e → FirstRefusal i (with_files x file) vs cs e
first_still i x file vs [] e l stays f = f
first_still i x file vs (c ∷ cs) e l stays (inl bad) = inl (refuses_still i x file vs c e l stays bad)
first_still i x file vs (c ∷ cs) e l stays (inr rest) = inr (passes_still i x file vs c l rest.0, first_still i x file vs cs e l stays rest.1)

same_texts : (x y : Volumes) → AreLonger x y → with_files x y.file ≡ y
same_texts x y l = λ i. record { text = λ v. sym (l.text v) i; file = y.file }

fault_of_files : (i : Image) (x : Volumes) (file : Id → Option File) (e : Refusal) → AreLonger x (with_files x file) → FaultStays i (with_files x file) e → OpenFault i x e → OpenFault i (with_files x file) e
fault_of_files i x file e l stays f = record {
  volumes = f.volumes;
  path = f.path;
  are = record { rising = f.are.rising; each = f.are.each; all = f.are.all };
  opened = f.opened;
  first = first_still i x file f.volumes (checks f.volumes f.path) e l stays f.first;
}

openable_of_files : (i : Image) (x : Volumes) (file : Id → Option File) (v : Id) (vs : List Id) → AreLonger x (with_files x file) → IsOpenable i x v vs → IsOpenable i (with_files x file) v vs
openable_of_files i x file v vs l o = record {
  volumes = o.volumes;
  are = record { rising = o.are.rising; each = o.are.each; all = o.are.all };
  reads = o.reads;
  passes = λ c h e. passes_still i x file o.volumes c l (o.passes c h) e;
}

with_files_longer : (x y : Volumes) → AreLonger x y → AreLonger x (with_files x y.file)
with_files_longer x y l = record { text = λ v. refl; file = l.file }

pub fault_kept : (i : Image) (x y : Volumes) (e : Refusal) → AreLonger x y → FaultStays i y e → OpenFault i x e → OpenFault i y e
fault_kept i x y e l stays f =
    let same = same_texts x y l in
    let theirs = subst (λ (z : Volumes). FaultStays i z e) (sym same) stays in
    subst (λ (z : Volumes). OpenFault i z e) same (fault_of_files i x y.file e (with_files_longer x y l) theirs f)

pub openable_kept : (i : Image) (x y : Volumes) (v : Id) (vs : List Id) → AreLonger x y → IsOpenable i x v vs → IsOpenable i y v vs
openable_kept i x y v vs l o = subst (λ (z : Volumes). IsOpenable i z v vs) (same_texts x y l) (openable_of_files i x y.file v vs (with_files_longer x y l) o)

-- ---- a file that was grown

raised_sector : (size : ℕ) (f : File) (k : ℕ) → f.size ≤ size → sector_in size (raised size f).stable k ≡ sector_in f.size f.stable k
unfolding zero_sector
raised_sector size f k le = go (nat_lt k f.size) refl (nat_lt k size) refl
  where
    go : (a : Bool) → nat_lt k f.size ≡ a → (b : Bool) → nat_lt k size ≡ b → (if b then (if a then f.stable k else zero_sector) else replicate 512 0) ≡ (if a then f.stable k else replicate 512 0)
    go true e true g = refl
    go false e true g = refl
    go false e false g = refl
    go true e false g = let low : k < f.size = grind (arith, nat_tests) in let high : size ≤ k = grind (arith, nat_tests) in absurd (omega (arith, le, low, high))

pub grown_is_longer : (size : ℕ) (f : File) → IsLonger f (grown size f)
grown_is_longer size f = go (nat_lt f.size size) refl
  where
    go : (b : Bool) → nat_lt f.size size ≡ b → IsLonger f (if b then raised size f else f)
    go true e = let le : f.size ≤ size = grind (arith, nat_tests) in record { size = le; sectors = λ k. raised_sector size f k le }
    go false e = record { size = omega arith; sectors = λ k. refl }
