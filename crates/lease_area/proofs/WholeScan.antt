-- The steps of a scan together.
use Rattle.std.proofs.Common.{◌≡◌, ℕ, zero, suc, ◌+◌, ◌-◌, ◌*◌, ◌/◌, ◌%◌, ◌<◌, ◌≤◌, ◌==◌, min, nat_lt, if◌then◌else◌, Bool, true, false, List, [], length, Option, Some, None, unwrap_or, refl, sym, ap, ◌∙◌, subst, inl, inr, arith}
use Rattle.std.specs.Prelude.{option_map}
use Rattle.std.proofs.lemmas.Option.{none-some}
use Rattle.std.proofs.lemmas.Bool.Decides.{nat_tests}
use Rattle.std.proofs.Math.Decide.{dec_lt}
use Rattle.sd_names.specs.declared.id.Id.{Id}
use Rattle.shared_disk.specs.Content.{Content, File, Sees, sector_of}
use Rattle.shared_disk.specs.Places.{id_is}
use Rattle.shared_disk.proofs.Places.{id_is-itself, id_is-same}
use Rattle.lease_area.specs.Hold.{leases_of}
use Rattle.lease_area.specs.Noted.{empty_at, empty_slot, lease_at, lease_of, noted, unless_role}
use Rattle.lease_area.specs.Scan.{Looks}
use Rattle.lease_area.specs.Sector.{record_bytes, sector_in}
use Rattle.lease_area.specs.WholeScan.{HasLease, IsEmptySector, IsLeast, IsReadIn, IsScan, sector_read, size_in}
use Rattle.lease_area.specs.declared.scanned.Scanned.{Scanned}
use Rattle.lease_area.specs.declared.sector.LeaseRecord.{LeaseRecord}
use Rattle.lease_area.specs.declared.sector.Sector.{Sector}
use Rattle.lease_area.specs.declared.sector.Sector.TheVariants.{Empty, Lease}
use Rattle.lease_area.proofs.Least.{Tells, one_step_more}

-- a sector's number in its step, and the step's
step_of : (i k : ℕ) → k < 128 → (128 * i + k) / 128 ≡ i
step_of i k below = omega (arith, below)

place_of : (i k : ℕ) → k < 128 → (128 * i + k) % 128 ≡ k
place_of i k below = omega (arith, below)

size_here : (sd : Id) (d : Content) (f : File) → d.file (leases_of sd) ≡ Some f → size_in sd d ≡ f.size
size_here sd d f there = ap (λ (o : Option File). unwrap_or (option_map (λ (g : File). g.size) o) 0) there

lt_true : (a b : ℕ) → a < b → nat_lt a b ≡ true
lt_true a b less = grind (arith, nat_tests)

lt_false : (a b : ℕ) → b ≤ a → nat_lt a b ≡ false
lt_false a b above = grind (arith, nat_tests)

-- what stands at a sector of the step that reads it
module _ (sd : Id) (folders : ℕ → Content) (rooms : ℕ → List ℕ) (i : ℕ) (f : File) (there : (folders i).file (leases_of sd) ≡ Some f) where
  read_within : (k : ℕ) → k < 128 → 128 * i + k < f.size → sector_read sd folders rooms (128 * i + k) ≡ sector_of (rooms i) k
  read_within k below within = rw (step_of i k below, place_of i k below, size_here sd (folders i) f there, lt_true (128 * i + k) f.size within) refl

  read_past : (k : ℕ) → k < 128 → f.size ≤ 128 * i + k → sector_read sd folders rooms (128 * i + k) ≡ []
  read_past k below past = rw (step_of i k below, place_of i k below, size_here sd (folders i) f there, lt_false (128 * i + k) f.size past) refl

-- how many sectors a step reads
sectors_of : (i size count : ℕ) → count ≡ min 65536 (512 * (size - 128 * i)) → (k : ℕ) → k < 128 → 128 * i + k < size → 512 * (k + 1) ≤ count
sectors_of i size count is k below within = omega (arith, is, below, within)

below_of : (i size count k : ℕ) → count ≡ min 65536 (512 * (size - 128 * i)) → k < count / 512 → (k < 128) × (128 * i + k < size)
below_of i size count k is below = (omega (arith, is, below), omega (arith, is, below))

few_of : (i size count : ℕ) → count ≡ min 65536 (512 * (size - 128 * i)) → count / 512 ≤ 128
few_of i size count is = omega (arith, is)

within_of : (i size count k : ℕ) → count ≡ min 65536 (512 * (size - 128 * i)) → k < 128 → 128 * i + k < size → k < count / 512
within_of i size count k is below within = omega (arith, is, below, within)

-- the bytes of no sector aren't those of one
nothing_in : (bytes : List ℕ) (s : Sector) → bytes ≡ [] → sector_in bytes ≡ Some s → ⊥
unfolding record_bytes
nothing_in bytes s is has = none-some s (ap sector_in (sym is) ∙ has)

-- sector 0 is no image's
positive : (slot : ℕ) → (slot == 0) ≡ false → 0 < slot
positive slot t = grind (arith, nat_tests, t)

not_role : (slot : ℕ) → 0 < slot → (slot == 0) ≡ false
not_role slot some = grind (arith, nat_tests, some)

role_some : {A : Type 0} (slot : ℕ) (o : Option A) (a : A) (t : Bool) → (slot == 0) ≡ t → unless_role slot o ≡ Some a → (0 < slot) × (o ≡ Some a)
role_some slot o a true t is = absurd (none-some a (rw t at is))
role_some slot o a false t is = (positive slot t, rw t at is)

role_none : {A : Type 0} (slot : ℕ) (o : Option A) → 0 < slot → unless_role slot o ≡ None → o ≡ None
role_none slot o some none = rw (not_role slot some) at none

-- what is noted of a sector: a lease of the image
lease_case : (image : Id) (slot : ℕ) (a : ℕ × LeaseRecord) (t : Bool) (r : LeaseRecord) → id_is r.image image ≡ t
    → option_map (λ (q : LeaseRecord). (slot, q)) (if t then Some r else None) ≡ Some a → (a ≡ (slot, r)) × (r.image ≡ image)
lease_case image slot a true r same is = (sym (ap (λ (x : Option (ℕ × LeaseRecord)). unwrap_or x a) is), id_is-same r.image image same)
lease_case image slot a false r same is = absurd (none-some a is)

noted_lease : (image : Id) (slot : ℕ) (o : Option Sector) (a : ℕ × LeaseRecord) → option_map (λ (q : LeaseRecord). (slot, q)) (lease_of image o) ≡ Some a
    → (a.0 ≡ slot) × (o ≡ Some (Lease a.1)) × (a.1.image ≡ image)
noted_lease image slot None a is = absurd (none-some a is)
noted_lease image slot (Some Empty) a is = absurd (none-some a is)
noted_lease image slot (Some (Lease r)) a is =
    let same = lease_case image slot a (id_is r.image image) r refl is in
    (ap (λ (x : ℕ × LeaseRecord). x.0) same.0, sym (ap (λ (x : ℕ × LeaseRecord). Some (Lease x.1)) same.0), ap (λ (x : ℕ × LeaseRecord). x.1.image) same.0 ∙ same.1)

lease_sound : (image : Id) (slot : ℕ) (o : Option Sector) (a : ℕ × LeaseRecord) → unless_role slot (option_map (λ (q : LeaseRecord). (slot, q)) (lease_of image o)) ≡ Some a
    → (0 < slot) × (a.0 ≡ slot) × (o ≡ Some (Lease a.1)) × (a.1.image ≡ image)
lease_sound image slot o a is =
    let some = role_some slot (option_map (λ (q : LeaseRecord). (slot, q)) (lease_of image o)) a (slot == 0) refl is in
    let noted = noted_lease image slot o a some.1 in
    (some.0, noted.0, noted.1, noted.2)

lease_whole : (image : Id) (slot : ℕ) (o : Option Sector) (r : LeaseRecord) → 0 < slot → o ≡ Some (Lease r) → r.image ≡ image
    → unless_role {A = ℕ × LeaseRecord} slot (option_map (λ (q : LeaseRecord). (slot, q)) (lease_of image o)) ≡ None → ⊥
lease_whole image slot o r some is same none =
    let found : id_is r.image image ≡ true = ap (λ (x : Id). id_is x image) same ∙ id_is-itself image in
    let one : option_map (λ (q : LeaseRecord). (slot, q)) (lease_of image o) ≡ Some (slot, r) = ap (λ (x : Option Sector). option_map (λ (q : LeaseRecord). (slot, q)) (lease_of image x)) is ∙ rw found refl in
    none-some (slot, r) (sym (role_none slot (option_map (λ (q : LeaseRecord). (slot, q)) (lease_of image o)) some none) ∙ one)

-- an empty sector
noted_empty : (slot : ℕ) (o : Option Sector) (a : ℕ) → empty_slot slot o ≡ Some a → (a ≡ slot) × (o ≡ Some Empty)
noted_empty slot None a is = absurd (none-some a is)
noted_empty slot (Some Empty) a is = (sym (ap (λ (x : Option ℕ). unwrap_or x a) is), refl)
noted_empty slot (Some (Lease r)) a is = absurd (none-some a is)

empty_sound : (slot : ℕ) (o : Option Sector) (a : ℕ) → unless_role slot (empty_slot slot o) ≡ Some a → (0 < slot) × (a ≡ slot) × (o ≡ Some Empty)
empty_sound slot o a is =
    let some = role_some slot (empty_slot slot o) a (slot == 0) refl is in
    let noted = noted_empty slot o a some.1 in
    (some.0, noted.0, noted.1)

empty_whole : (slot : ℕ) (o : Option Sector) → 0 < slot → o ≡ Some Empty → unless_role slot (empty_slot slot o) ≡ None → ⊥
empty_whole slot o some is none = none-some slot (sym (role_none slot (empty_slot slot o) some none) ∙ ap (λ (x : Option Sector). empty_slot slot x) is)

-- one step of a scan
module _ (host : ℕ) (sd image : Id) (folders : ℕ → Content) (before rooms : ℕ → List ℕ) (seen : ℕ → Scanned) (i : ℕ) (len : length (before i) ≡ 65536)
    (looks : Looks sd image i host (before i) (rooms i) (seen i) (seen (i + 1)) (folders i)) where
  count_is : looks.2 ≡ min 65536 (512 * (looks.0.size - 128 * i))
  count_is = looks.3 ∙ ap (λ (m : ℕ). min m (512 * (looks.0.size - 128 * i))) len

  -- each of its sectors was read, or the file ended before it
  read_one : (k : ℕ) → k < 128 → IsReadIn host sd (128 * i + k) (sector_read sd folders rooms (128 * i + k)) (folders i)
  read_one k below = elim (dec_lt (128 * i + k) looks.0.size) [
    | yes within ↦ (
      looks.0,
      looks.1,
      inl (within, subst (λ (b : List ℕ). Sees host looks.0 (128 * i + k) b) (sym (read_within sd folders rooms i looks.0 looks.1 k below within)) (looks.4.sectors k (sectors_of i looks.0.size looks.2 count_is k below within))),
    )
    | no past ↦ (looks.0, looks.1, inr (omega (arith), read_past sd folders rooms i looks.0 looks.1 k below (omega arith)))
  ]

  -- a sector that is there was read
  was_read : (k : ℕ) (s : Sector) → k < 128 → sector_in (sector_read sd folders rooms (128 * i + k)) ≡ Some s → 128 * i + k < looks.0.size
  was_read k s below has = elim (dec_lt (128 * i + k) looks.0.size) [
    | yes within ↦ within
    | no past ↦ absurd (nothing_in (sector_read sd folders rooms (128 * i + k)) s (read_past sd folders rooms i looks.0 looks.1 k below (omega arith)) has)
  ]

  bytes_of_step : (k : ℕ) → k < looks.2 / 512 → sector_read sd folders rooms (128 * i + k) ≡ sector_of (rooms i) k
  bytes_of_step k below = let fits = below_of i looks.0.size looks.2 k count_is below in read_within sd folders rooms i looks.0 looks.1 k fits.0 fits.1

  leases_told : Tells (λ (k : ℕ) (a : ℕ × LeaseRecord). HasLease image k (sector_read sd folders rooms k) a) (128 * i) (looks.2 / 512) (lease_at image (128 * i) (rooms i))
  leases_told = record {
    sound = λ k a below is.
        let sound = lease_sound image (128 * i + k) (sector_in (sector_of (rooms i) k)) a is in
        (sound.0, record { number = sound.1; lease = ap sector_in (bytes_of_step k below) ∙ sound.2; image_is = sound.3 });
    whole = λ k a below some has.
        let within = within_of i looks.0.size looks.2 k count_is below (was_read k (Lease a.1) below has.lease) in
        (within, lease_whole image (128 * i + k) (sector_in (sector_of (rooms i) k)) a.1 some (sym (ap sector_in (bytes_of_step k within)) ∙ has.lease) has.image_is);
    few = few_of i looks.0.size looks.2 count_is;
  }

  empties_told : Tells (λ (k a : ℕ). IsEmptySector k (sector_read sd folders rooms k) a) (128 * i) (looks.2 / 512) (empty_at (128 * i) (rooms i))
  empties_told = record {
    sound = λ k a below is.
        let sound = empty_sound (128 * i + k) (sector_in (sector_of (rooms i) k)) a is in
        (sound.0, record { number = sound.1; empty = ap sector_in (bytes_of_step k below) ∙ sound.2 });
    whole = λ k a below some has.
        let within = within_of i looks.0.size looks.2 k count_is below (was_read k Empty below has.empty) in
        (within, empty_whole (128 * i + k) (sector_in (sector_of (rooms i) k)) some (sym (ap sector_in (bytes_of_step k within)) ∙ has.empty));
    few = few_of i looks.0.size looks.2 count_is;
  }

-- the steps together
module _ (host : ℕ) (sd image : Id) (folders : ℕ → Content) (before rooms : ℕ → List ℕ) (seen : ℕ → Scanned) where
  fewer : (n : ℕ) → IsScan (suc n) host sd image folders before rooms seen → IsScan n host sd image folders before rooms seen
  fewer n scan = record { begun = scan.begun; room = λ i below. scan.room i (omega (arith, below)); looks = λ i below. scan.looks i (omega (arith, below)) }

  next_is : (n : ℕ) → n + 1 ≡ suc n
  next_is n = omega arith

  more : (n : ℕ) → 128 * n + 128 ≡ 128 * suc n
  more n = omega arith

  pub all_read : (n : ℕ) → IsScan n host sd image folders before rooms seen → (k : ℕ) → k < 128 * n → IsReadIn host sd k (sector_read sd folders rooms k) (folders (k / 128))
  all_read n scan k below =
      let i : ℕ = k / 128 in
      let within : i < n = omega (arith, below) in
      let whole : 128 * i + k % 128 ≡ k = omega arith in
      subst (λ (j : ℕ). IsReadIn host sd j (sector_read sd folders rooms j) (folders i)) whole
      (read_one host sd image folders before rooms seen i (scan.room i within) (scan.looks i within) (k % 128) (omega arith))

  pub found_least : (n : ℕ) → IsScan n host sd image folders before rooms seen
      → IsLeast (λ (k : ℕ) (a : ℕ × LeaseRecord). HasLease image k (sector_read sd folders rooms k) a) (128 * n) (seen n).found
  found_least zero scan = subst (λ (s : Scanned). IsLeast (λ (k : ℕ) (a : ℕ × LeaseRecord). HasLease image k (sector_read sd folders rooms k) a) 0 s.found) (sym scan.begun) (λ j a some below has. omega (arith, below))
  found_least (suc n) scan =
      let Has : ℕ → ℕ × LeaseRecord → Type 0 = λ k a. HasLease image k (sector_read sd folders rooms k) a in
      let looks = scan.looks n (omega arith) in
      let step = one_step_more Has (128 * n) (looks.2 / 512) (lease_at image (128 * n) (rooms n)) (seen n).found
      (leases_told host sd image folders before rooms seen n (scan.room n (omega arith)) looks) (found_least n (fewer n scan)) in
      subst (λ (s : Scanned). IsLeast Has (128 * suc n) s.found) (sym looks.5 ∙ ap seen (next_is n)) (subst (λ (m : ℕ). IsLeast Has m (noted image (128 * n) (rooms n) (looks.2 / 512) (seen n)).found) (more n) step)

  pub empty_least : (n : ℕ) → IsScan n host sd image folders before rooms seen → IsLeast (λ (k a : ℕ). IsEmptySector k (sector_read sd folders rooms k) a) (128 * n) (seen n).empty
  empty_least zero scan = subst (λ (s : Scanned). IsLeast (λ (k a : ℕ). IsEmptySector k (sector_read sd folders rooms k) a) 0 s.empty) (sym scan.begun) (λ j a some below has. omega (arith, below))
  empty_least (suc n) scan =
      let Has : ℕ → ℕ → Type 0 = λ k a. IsEmptySector k (sector_read sd folders rooms k) a in
      let looks = scan.looks n (omega arith) in
      let step = one_step_more Has (128 * n) (looks.2 / 512) (empty_at (128 * n) (rooms n)) (seen n).empty
      (empties_told host sd image folders before rooms seen n (scan.room n (omega arith)) looks) (empty_least n (fewer n scan)) in
      subst (λ (s : Scanned). IsLeast Has (128 * suc n) s.empty) (sym looks.5 ∙ ap seen (next_is n)) (subst (λ (m : ℕ). IsLeast Has m (noted image (128 * n) (rooms n) (looks.2 / 512) (seen n)).empty) (more n) step)
