-- A step of a scan, over a settled leases file: what was found in its sectors, and in those before.
use Rattle.std.proofs.Common.{◌≡◌, ℕ, ◌+◌, ◌-◌, ◌*◌, ◌/◌, ◌<◌, ◌≤◌, ◌==◌, min, if◌then◌else◌, Bool, true, false, List, length, Option, Some, None, unwrap_or, refl, sym, ap, ◌∙◌, subst, arith}
use Rattle.std.specs.Prelude.{option_map}
use Rattle.std.proofs.lemmas.Option.{none-some}
use Rattle.std.proofs.lemmas.Bool.Decides.{nat_tests}
use Rattle.sd_names.specs.declared.id.Id.{Id}
use Rattle.shared_disk.specs.Content.{Content, File, Sees, sector_of}
use Rattle.shared_disk.specs.Places.{id_is}
use Rattle.shared_disk.proofs.AtPlace.{one_file}
use Rattle.shared_disk.proofs.Places.{id_is-itself, id_is-same}
use Rattle.shared_disk.proofs.Toolkit.{sees_settled}
use Rattle.lease_area.specs.Hold.{leases_of}
use Rattle.lease_area.specs.Noted.{first_of, lease_at, lease_of, or_else, unless_role}
use Rattle.lease_area.specs.Record.{IsImageSlot}
use Rattle.lease_area.specs.Scan.{Looks}
use Rattle.lease_area.specs.Sector.{sector_in}
use Rattle.lease_area.specs.WholeScan.{HasLease, IsLeast}
use Rattle.lease_area.specs.declared.scanned.Scanned.{Scanned}
use Rattle.lease_area.specs.declared.sector.LeaseRecord.{LeaseRecord}
use Rattle.lease_area.specs.declared.sector.Sector.{Sector}
use Rattle.lease_area.specs.declared.sector.Sector.TheVariants.{Empty, Lease}
use Rattle.lease_area.proofs.Least.{Tells, one_step_more}
use Rattle.image_clearing.specs.Knowing.{HasTaskArea, IsFound}
use Rattle.image_clearing.proofs.Spelled.{spelled}

-- ---- what is noted of one sector

positive : (slot : ℕ) → (slot == 0) ≡ false → 0 < slot
positive slot t = grind (arith, nat_tests, t)

not_role : (slot : ℕ) → 0 < slot → (slot == 0) ≡ false
not_role slot some = grind (arith, nat_tests, some)

role_some : {A : Type 0} (slot : ℕ) (o : Option A) (a : A) (t : Bool) → (slot == 0) ≡ t → unless_role slot o ≡ Some a → (0 < slot) × (o ≡ Some a)
role_some slot o a true t is = absurd (none-some a (rw t at is))
role_some slot o a false t is = (positive slot t, rw t at is)

role_none : {A : Type 0} (slot : ℕ) (o : Option A) → 0 < slot → unless_role slot o ≡ None → o ≡ None
role_none slot o some none = rw (not_role slot some) at none

lease_case : (image : Id) (slot : ℕ) (a : ℕ × LeaseRecord) (t : Bool) (r : LeaseRecord) → id_is r.image image ≡ t
    → option_map (λ (q : LeaseRecord). (slot, q)) (if t then Some r else None) ≡ Some a → (a ≡ (slot, r)) × (r.image ≡ image)
lease_case image slot a true r same is = (sym (ap (λ (x : Option (ℕ × LeaseRecord)). unwrap_or x a) is), id_is-same r.image image same)
lease_case image slot a false r same is = absurd (none-some a is)

noted_lease : (image : Id) (slot : ℕ) (o : Option Sector) (a : ℕ × LeaseRecord) → option_map (λ (q : LeaseRecord). (slot, q)) (lease_of image o) ≡ Some a
    → (a.0 ≡ slot) × (o ≡ Some (Lease a.1)) × (a.1.image ≡ image)
noted_lease image slot None a is = absurd (none-some a is)
noted_lease image slot (Some Empty) a is = absurd (none-some a is)
noted_lease image slot (Some (Lease r)) a is =
    let same = lease_case image slot a (id_is r.image image) r refl is in
    (ap (λ (x : ℕ × LeaseRecord). x.0) same.0, sym (ap (λ (x : ℕ × LeaseRecord). Some (Lease x.1)) same.0), ap (λ (x : ℕ × LeaseRecord). x.1.image) same.0 ∙ same.1)

lease_sound : (image : Id) (slot : ℕ) (o : Option Sector) (a : ℕ × LeaseRecord) → unless_role slot (option_map (λ (q : LeaseRecord). (slot, q)) (lease_of image o)) ≡ Some a
    → (0 < slot) × (a.0 ≡ slot) × (o ≡ Some (Lease a.1)) × (a.1.image ≡ image)
lease_sound image slot o a is =
    let some = role_some slot (option_map (λ (q : LeaseRecord). (slot, q)) (lease_of image o)) a (slot == 0) refl is in
    let noted = noted_lease image slot o a some.1 in
    (some.0, noted.0, noted.1, noted.2)

lease_whole : (image : Id) (slot : ℕ) (o : Option Sector) (r : LeaseRecord) → 0 < slot → o ≡ Some (Lease r) → r.image ≡ image
    → unless_role {A = ℕ × LeaseRecord} slot (option_map (λ (q : LeaseRecord). (slot, q)) (lease_of image o)) ≡ None → ⊥
lease_whole image slot o r some is same none =
    let found : id_is r.image image ≡ true = ap (λ (x : Id). id_is x image) same ∙ id_is-itself image in
    let one : option_map (λ (q : LeaseRecord). (slot, q)) (lease_of image o) ≡ Some (slot, r) = ap (λ (x : Option Sector). option_map (λ (q : LeaseRecord). (slot, q)) (lease_of image x)) is ∙ rw found refl in
    none-some (slot, r) (sym (role_none slot (option_map (λ (q : LeaseRecord). (slot, q)) (lease_of image o)) some none) ∙ one)

-- ---- a step

-- a step below the eighth of a file of 1,024 sectors reads 128
whole_piece : (i size count len : ℕ) → i < 8 → size ≡ 1024 → len ≡ 65536 → count ≡ min len (512 * (size - 128 * i)) → count ≡ 65536
whole_piece i size count len below size_is len_is is = omega (arith, below, size_is, len_is, is)

in_piece : (k count : ℕ) → count ≡ 65536 → k < 128 → 512 * (k + 1) ≤ count
in_piece k count is below = omega (arith, is, below)

sectors_read : (count : ℕ) → count ≡ 65536 → count / 512 ≡ 128
sectors_read count is = omega (arith, is)

module _ (host i : ℕ) (sd image : Id) (before room : List ℕ) (last new : Scanned) (f : File) (d : Content) (below : i < 8) (len : length before ≡ 65536) (there : d.file (leases_of sd) ≡ Some f)
    (sectors : HasTaskArea image f) (looks : Looks sd image i host before room last new d) where
  same_file : looks.0 ≡ f
  same_file = one_file looks.0 f (d.file (leases_of sd)) looks.1 there

  count_is : looks.2 ≡ 65536
  count_is = whole_piece i looks.0.size looks.2 (length before) below (ap (λ (g : File). g.size) same_file ∙ sectors.area.size) len looks.3

  bytes_read : (k : ℕ) → k < 128 → sector_of room k ≡ f.stable (128 * i + k)
  bytes_read k within =
      sees_settled host (128 * i + k) f (sector_of room k) sectors.area.settled
      (subst (λ (g : File). Sees host g (128 * i + k) (sector_of room k)) same_file (looks.4.sectors k (in_piece k looks.2 count_is within)))

  abbrev Has : ℕ → ℕ × LeaseRecord → Type 0
  Has k a = HasLease image k (f.stable k) a

  told : Tells Has (128 * i) 128 (lease_at image (128 * i) room)
  told = record {
    sound = λ k a within is.
        let sound = lease_sound image (128 * i + k) (sector_in (sector_of room k)) a is in
        (sound.0, record { number = sound.1; lease = ap sector_in (sym (bytes_read k within)) ∙ sound.2; image_is = sound.3 });
    whole = λ k a within some has.
        (within, lease_whole image (128 * i + k) (sector_in (sector_of room k)) a.1 some (ap sector_in (bytes_read k within) ∙ has.lease) has.image_is);
    few = omega arith;
  }

  as_found : (bound : ℕ) (o : Option (ℕ × LeaseRecord)) → bound ≤ 1024 → IsLeast Has bound o → IsFound image bound o f
  as_found bound None fits none = λ k some within names. none k (k, names.0) some within (record { number = refl; lease = names.1; image_is = names.2 })
  as_found bound (Some a) fits (k, some, within, has, least) =
      let slot : IsImageSlot a.0 = record { low = subst (λ (j : ℕ). 0 < j) (sym has.number) some; high = slot_below k a.0 bound has.number within fits } in
      let lease_is = ap (λ (j : ℕ). sector_in (f.stable j)) has.number ∙ has.lease in
      record {
        slot = slot;
        bytes = spelled (f.stable a.0) a.1 lease_is;
        reads = ap sector_in (sym (spelled (f.stable a.0) a.1 lease_is)) ∙ lease_is;
        image_is = has.image_is;
        held = sectors.tasked a.0 a.1 slot lease_is has.image_is;
      }
    where
      slot_below : (k j bound : ℕ) → j ≡ k → k < bound → bound ≤ 1024 → j < 1024
      slot_below k j bound same less fits = omega (arith, same, less, fits)

  found_more : (o : Option (ℕ × LeaseRecord)) → IsFound image (128 * i) o f → IsFound image (128 * i + 128) (or_else o (first_of (lease_at image (128 * i) room) 128)) f
  found_more (Some a) is = is
  found_more None none =
      as_found (128 * i + 128) (first_of (lease_at image (128 * i) room) 128) (omega (arith, below))
      (one_step_more Has (128 * i) 128 (lease_at image (128 * i) room) None told
      (λ k a some within has. none k some within (a.1, has.lease, has.image_is)))

  now_found : new.found ≡ or_else last.found (first_of (lease_at image (128 * i) room) 128)
  now_found = ap (λ (s : Scanned). s.found) looks.5 ∙ ap (λ (n : ℕ). or_else last.found (first_of (lease_at image (128 * i) room) n)) (sectors_read looks.2 count_is)

  pub read_on : IsFound image (128 * i) last.found f → IsFound image (128 * (i + 1)) new.found f
  read_on is =
      subst (λ (n : ℕ). IsFound image n new.found f) (bound_more i)
      (subst (λ (o : Option (ℕ × LeaseRecord)). IsFound image (128 * i + 128) o f) (sym now_found) (found_more last.found is))
    where
      bound_more : (i : ℕ) → 128 * i + 128 ≡ 128 * (i + 1)
      bound_more i = omega arith
