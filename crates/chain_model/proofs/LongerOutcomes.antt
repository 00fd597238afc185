-- An outcome of a file that was made longer is one of the file as it was, made longer.
use Rattle.std.proofs.Common.{◌≡◌, ℕ, ◌<◌, ◌≤◌, Bool, true, false, nat_lt, List, [], replicate, Option, Some, None, refl, ap, ◌∙◌, subst, inl, inr, arith}
use Rattle.std.specs.Prelude.{if◌then◌else◌}
use Rattle.std.proofs.lemmas.Bool.Decides.{nat_tests}
use Rattle.sd_names.specs.declared.id.Id.{Id}
use Rattle.sd_names.specs.declared.place.Name.TheVariants.{Meta, Volume}
use Rattle.shared_disk.specs.Changes.{raised}
use Rattle.shared_disk.specs.Content.{File, zero_sector}
use Rattle.shared_disk.specs.Crash.{IsAlso, IsFileOutcome, IsOutcomeSector}
use Rattle.shared_disk.specs.WellFormed.{IsWellFormedFile}
use Rattle.image_model.specs.File.{sector_in}
use Rattle.chain_model.specs.Folder.{Folder, OnEachFolder, Volumes, volumes_of}
use Rattle.chain_model.specs.Records.{Records}
use Rattle.chain_model.specs.Flat.{IsFlat}
use Rattle.chain_model.specs.Growth.{AreLonger, IsLonger, MayGrow, MayHaveGrown}
use Rattle.chain_model.proofs.LongerImages.{flats_kept}
use Rattle.chain_model.proofs.Outcomes.{volumes_of_with, volumes_outcome, with_volumes}

-- the outcome's sectors, those that the file had
cut : File → File → File
cut f o = record { size = f.size; stable = λ k. if nat_lt k f.size then o.stable k else f.stable k; loose = []; fresh = None }

sector_before : (size : ℕ) (f o : File) (k : ℕ) (b : Bool) → nat_lt k f.size ≡ b → IsOutcomeSector (raised size f) k (o.stable k) → IsOutcomeSector f k (if b then o.stable k else f.stable k)
sector_before size f o k false e w = inl refl
sector_before size f o k true e (inl is) = inl (is ∙ ap (λ (t : Bool). if t then f.stable k else zero_sector) e)
sector_before size f o k true e (inr other) = inr other

cut_outcome : (size : ℕ) (f o : File) → IsFileOutcome (raised size f) o → IsFileOutcome f (cut f o)
unfolding cut
cut_outcome size f o w = record {
  size = refl;
  sectors = λ k. sector_before size f o k (nat_lt k f.size) refl (w.sectors k);
  settled = record { loose = refl; fresh = refl };
}

no_maker : (host : ℕ) (o : Option ℕ) → o ≡ None → o ≡ Some host → ⊥
no_maker host o e f = cc

-- what stands behind the file that was is zeros
zeros_behind : (size : ℕ) (f o : File) (k : ℕ) → f.fresh ≡ None → IsWellFormedFile f → nat_lt k f.size ≡ false → IsOutcomeSector (raised size f) k (o.stable k) → o.stable k ≡ zero_sector
zeros_behind size f o k synced formed e (inl is) = is ∙ ap (λ (t : Bool). if t then f.stable k else zero_sector) e
zeros_behind size f o k synced formed e (inr (inl loose)) =
    let within = (formed.loose loose.0 loose.1).within in
    let here : loose.0.sector ≡ k = loose.2 in
    let past : f.size ≤ k = grind (arith, nat_tests) in
    absurd (omega (arith, within, here, past))
zeros_behind size f o k synced formed e (inr (inr fresh)) = absurd (no_maker fresh.0.0 f.fresh synced fresh.0.1)

same_behind : (size : ℕ) (f o : File) (k : ℕ) → f.fresh ≡ None → IsWellFormedFile f → f.size < size → IsFileOutcome (raised size f) o
    → sector_in o.size o.stable k ≡ (if nat_lt k f.size then (if nat_lt k f.size then o.stable k else f.stable k) else replicate 512 0)
unfolding zero_sector
same_behind size f o k synced formed more w = go (nat_lt k f.size) refl (nat_lt k o.size) refl
  where
    go : (a : Bool) → nat_lt k f.size ≡ a → (b : Bool) → nat_lt k o.size ≡ b → (if b then o.stable k else replicate 512 0) ≡ (if a then (if a then o.stable k else f.stable k) else replicate 512 0)
    go true e true g = refl
    go true e false g =
        let low : k < f.size = grind (arith, nat_tests) in
        let high : o.size ≤ k = grind (arith, nat_tests) in
        let size : o.size ≡ size = w.size in
        absurd (omega (arith, low, high, size, more))
    go false e true g = zeros_behind size f o k synced formed e (w.sectors k)
    go false e false g = refl

cut_longer : (size : ℕ) (f o : File) → f.fresh ≡ None → IsWellFormedFile f → f.size < size → IsFileOutcome (raised size f) o → IsLonger (cut f o) o
unfolding cut
cut_longer size f o synced formed more w =
    let is : o.size ≡ size = w.size in
    record { size = omega (arith, is, more); sectors = λ k. same_behind size f o k synced formed more w }

itself : (f o : File) → IsFileOutcome f o → (h : File) × IsFileOutcome f h × IsLonger h o
itself f o w = (o, w, record { size = omega arith; sectors = λ k. refl })

pub outcome_before : (f g o : File) → MayGrow f g → IsFileOutcome g o → (h : File) × IsFileOutcome f h × IsLonger h o
outcome_before f g o (inl same) w = itself f o (subst (λ (z : File). IsFileOutcome z o) same w)
outcome_before f g o (inr grew) w = go (nat_lt f.size grew.0) refl (subst (λ (z : File). IsFileOutcome z o) grew.3 w)
  where
    go : (b : Bool) → nat_lt f.size grew.0 ≡ b → IsFileOutcome (if b then raised grew.0 f else f) o → (h : File) × IsFileOutcome f h × IsLonger h o
    go false e w = itself f o w
    go true e w = let more : f.size < grew.0 = grind (arith, nat_tests) in (cut f o, cut_outcome grew.0 f o w, cut_longer grew.0 f o grew.1 grew.2 more w)

-- and so of the files of a folder
before_at : (a b c : Option File) → IsAlso MayGrow a b → IsAlso IsFileOutcome b c → (h : Option File) × IsAlso IsFileOutcome a h × IsAlso IsLonger h c
before_at None None None g w = (None, tt, tt)
before_at None None (Some o) g w = absurd w
before_at None (Some f) c g w = absurd g
before_at (Some f) None c g w = absurd g
before_at (Some f) (Some g') None g w = absurd w
before_at (Some f) (Some g') (Some o) g w = let before = outcome_before f g' o g w in (Some before.0, before.1, before.2)

abbrev Before : Folder → Folder → Id → Type 0
Before F O v = (h : Option File) × IsAlso IsFileOutcome (F (Volume v)) h × IsAlso IsLonger h (O (Volume v))

abbrev volumes_before : (F O : Folder) → ((v : Id) → Before F O v) → Volumes
volumes_before F O before = record { text = λ v. O (Meta v); file = λ v. (before v).0 }

flats_after : (r : Records) (flats : Id → ℕ → List ℕ) (F O : Folder) (before : (v : Id) → Before F O v) → ((v : Id) → IsAlso IsFileOutcome (F (Meta v)) (O (Meta v)))
    → OnEachFolder F (λ o. IsFlat r flats (volumes_of o)) → IsFlat r flats (volumes_of O)
flats_after r flats F O before texts each =
    let x = volumes_before F O before in
    let outcome = volumes_outcome F x texts (λ v. (before v).1) in
    let longer : AreLonger x (volumes_of O) = record { text = λ v. refl; file = λ v. (before v).2 } in
    flats_kept r flats x (volumes_of O) longer (subst (λ (y : Volumes). IsFlat r flats y) (volumes_of_with F x) (each (with_volumes F x) outcome))

pub flats_of_longer : (r : Records) (flats : Id → ℕ → List ℕ) (F G : Folder) → MayHaveGrown F G → OnEachFolder F (λ o. IsFlat r flats (volumes_of o)) → OnEachFolder G (λ o. IsFlat r flats (volumes_of o))
flats_of_longer r flats F G grew each O o =
    flats_after r flats F O
    (λ v. before_at (F (Volume v)) (G (Volume v)) (O (Volume v)) (grew.file v) (o (Volume v)))
    (λ v. subst (λ (a : Option File). IsAlso IsFileOutcome a (O (Meta v))) (grew.text v) (o (Meta v))) each
