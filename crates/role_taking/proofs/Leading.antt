-- The master of a pool, as a host finds it on the disk, and its sector 0 once the host has taken it.
use Rattle.std.proofs.Common.{◌≡◌, ℕ, ◌-◌, ◌*◌, ◌^◌, ◌<◌, ◌≤◌, ◌==◌, ◌||◌, not, true, false, Bool, List, [], ◌++◌, length, take, drop, replicate, Option, Some, None, Result, Ok, Err, refl, sym, ap, subst, ◌∙◌, inl, inr, ◌⊎◌, arith, rules}
use Rattle.std.proofs.lemmas.Bool.{eqb-true, false≢true}
use Rattle.std.proofs.lemmas.Bool.Decides.{nat_tests}
use Rattle.std.proofs.Math.ListN.{drop_of_length-le}
use Rattle.std.proofs.lemmas.List.{append-nil, length-replicate, take-append-drop}
use Rattle.std.specs.Prelude.{if◌then◌else◌, min}
use Rattle.sd_names.specs.Id.{IsIdBytes, zero_id}
use Rattle.sd_names.specs.UpSet.{Hosts, is_up}
use Rattle.sd_names.specs.declared.id.Id.{Id}
use Rattle.sd_names.specs.declared.kinds.Role.{Role}
use Rattle.sd_names.specs.declared.kinds.Role.TheVariants.{Master}
use Rattle.sd_names.specs.declared.place.Name.TheVariants as name
use Rattle.sd_names.specs.declared.refusal.Refusal.{Refusal}
use Rattle.sd_names.specs.declared.refusal.Refusal.TheVariants.{DiskFault, WrongVersion}
use Rattle.shared_disk.specs.Calls.{IsSame, ReadAt}
use Rattle.shared_disk.specs.Content.{Content, File, sector_of}
use Rattle.shared_disk.specs.Crash.{IsSettled}
use Rattle.shared_disk.specs.declared.disk.DiskAnswer.{DiskAnswer}
use Rattle.shared_disk.specs.declared.disk.DiskAnswer.TheVariants.{Exists, Failed, NoFile, NotEmpty, OutOfFile}
use Rattle.shared_disk.proofs.AtPlace.{no_file, one_file}
use Rattle.shared_disk.proofs.Places.{id_is-itself}
use Rattle.shared_disk.proofs.Toolkit.{sees_settled}
use Rattle.domain_meta.specs.declared.record.DomainRecord.{DomainRecord}
use Rattle.lease_area.specs.Hold.{IsMoved, Stands as StandsAt, leases_of}
use Rattle.lease_area.specs.Move.{image_of, is_open, next_version, owner_of, taken_by, version_of}
use Rattle.lease_area.specs.Sector.{IsRecord, IsSector, sector_bytes, sector_in}
use Rattle.lease_area.specs.declared.sector.Kind.TheVariants as kind
use Rattle.lease_area.specs.declared.sector.LeaseRecord.{LeaseRecord}
use Rattle.lease_area.specs.declared.sector.Sector.{Sector}
use Rattle.lease_area.specs.declared.sector.Sector.TheVariants.{Empty, Lease}
use Rattle.lease_area.proofs.Fields.{sector_back}
use Rattle.spm_role.specs.Look.{Looks, look_answer, look_of, sector_read}
use Rattle.spm_role.specs.Master.{as_master}
use Rattle.pool_model.specs.Covered.{Keeps}
use Rattle.pool_model.specs.Laws.{with_role}
use Rattle.pool_model.specs.Leases.{Holds, Leads}
use Rattle.pool_model.specs.Owned.{OwnedChange, OwnedPool}
use Rattle.pool_model.specs.Pool.{Pool, at_number}
use Rattle.pool_model.specs.Rules.{text_of}
use Rattle.pool_model.specs.Standing.{LeasesStand, MasterLists, MasterStands, Stands, file_in}
use Rattle.pool_model.proofs.Kept.{standing_keeps}
use Rattle.pool_model.proofs.OneDomain.{listed_here, listed_text}
use Rattle.pool_model.proofs.Roles.{names_stay, role_changed, role_frame, role_owned}
use Rattle.role_taking.specs.Asked.{Asked}
use Rattle.role_taking.specs.Marks.{verb_of}
use Rattle.role_taking.proofs.Texts.{master_read}

module _ (up : Hosts) (d : Content) (p : Pool) (sd : Id) (stands : Stands up d p) (master : p.master ≡ Some sd) where
  pub lists_here : MasterLists p sd
  lists_here = subst (λ (o : Option Id). MasterStands p o) master stands.master

  pub leases_here : LeasesStand (p.sector sd) (file_in sd name.Leases d)
  leases_here = (listed_here up d p sd lists_here.is stands lists_here.listed).leases

  -- the master's text reads as its record
  pub master_reads : (r : DomainRecord) × (master_read (text_of p sd) ≡ Ok r) × (p.domain sd ≡ Some r)
  master_reads = (
    lists_here.is,
    ap master_read (listed_text p sd lists_here.is lists_here.listed) ∙ of_version lists_here.is (listed_here up d p sd lists_here.is stands lists_here.listed).version lists_here.role,
    lists_here.listed,
  )
    where
      eq_test : (m n : ℕ) → m ≡ n → (m == n) ≡ true
      eq_test m n e = grind (arith, nat_tests, e)

      or_true : (m n : Bool) → (m ≡ true) ⊎ (n ≡ true) → (m || n) ≡ true
      or_true true n e = refl
      or_true false n (inl e) = absurd (false≢true e)
      or_true false n (inr e) = e

      tests : (r : DomainRecord) → (r.version ≡ 4) ⊎ (r.version ≡ 5) → ((r.version == 4) ≡ true) ⊎ ((r.version == 5) ≡ true)
      tests r (inl four) = inl (eq_test r.version 4 four)
      tests r (inr five) = inr (eq_test r.version 5 five)

      of_version : (r : DomainRecord) → (r.version ≡ 4) ⊎ (r.version ≡ 5) → r.role ≡ Master → master_read (Some (Ok r)) ≡ Ok r
      of_version r version role =
          ap (λ (b : Bool). if b then as_master r.role r else Err (WrongVersion r.version)) (or_true (r.version == 4) (r.version == 5) (tests r version))
          ∙ ap (λ (o : Role). as_master o r) role

  -- what stands in sector 0
  pub sector_stands : StandsAt d sd 0 (sector_bytes (p.sector sd 0))
  sector_stands = record {
    file = leases_here.file;
    there = leases_here.there;
    within = omega (arith, leases_here.size);
    settled = leases_here.settled;
    bytes_are = leases_here.each 0 (omega arith);
  }

  -- ---- sector 0 is read

  whole : (bytes : List ℕ) → drop 512 bytes ≡ [] → sector_of bytes 0 ≡ bytes
  whole bytes none = sym (append-nil (take 512 bytes)) ∙ ap (λ (ys : List ℕ). take 512 bytes ++ ys) (sym none) ∙ take-append-drop 512 bytes

  read_is : (host count : ℕ) (bytes : List ℕ) (e : Content) → ReadAt d host (leases_of sd) 0 (replicate 512 0) bytes (Ok count) e
      → sector_read count bytes ≡ Some (p.sector sd 0)
  read_is host count bytes e (same, f, there, size, reads) =
      let file : leases_here.file ≡ f = one_file leases_here.file f (d.file (leases_of sd)) leases_here.there there in
      let large : f.size ≡ 1024 = subst (λ (g : File). g.size ≡ 1024) file leases_here.size in
      let count_is : count ≡ 512 = size ∙ of_size f.size large in
      let none : drop 512 bytes ≡ [] = subst (λ (n : ℕ). drop n bytes ≡ drop n (replicate 512 0)) count_is reads.rest
      ∙ zeros_end in
      let settled : IsSettled f = subst (λ (g : File). IsSettled g) file leases_here.settled in
      let first : sector_of bytes 0 ≡ f.stable 0 = sees_settled host 0 f (sector_of bytes 0) settled (reads.sectors 0 (omega (arith, count_is))) in
      let stands : f.stable 0 ≡ sector_bytes (p.sector sd 0) = subst (λ (g : File). g.stable 0 ≡ sector_bytes (p.sector sd 0)) file (leases_here.each 0 (omega arith)) in
      ap (λ (b : Bool). if b then sector_in bytes else None) (is_whole count count_is)
      ∙ ap sector_in (sym (whole bytes none) ∙ first ∙ stands) ∙ sector_back (p.sector sd 0) (leases_here.fits 0)
    where
      of_size : (n : ℕ) → n ≡ 1024 → min (length (replicate {A = ℕ} 512 0)) (512 * (n - 0)) ≡ 512
      of_size n e = omega (arith, e, length-replicate {A = ℕ} 512 0)

      zeros_end : drop 512 (replicate {A = ℕ} 512 0) ≡ []
      zeros_end = drop_of_length-le (replicate 512 0) {i = 512} (omega (arith, length-replicate {A = ℕ} 512 0))

      is_whole : (n : ℕ) → n ≡ 512 → (n == 512) ≡ true
      is_whole n e = grind (arith, nat_tests, e)

  pub look_reads : (host prev lver faults : ℕ) (found : Result Sector Refusal) (e : Content) → Looks host up sd prev lver faults found d e
      → IsSame d e × ((found ≡ look_answer up host prev lver (Some (p.sector sd 0))) ⊎ (found ≡ Err (DiskFault faults)))
  look_reads host prev lver faults found e (bytes, answer, reads, is) = by_answer answer reads is
    where
      by_answer : (answer : Result ℕ DiskAnswer) → ReadAt d host (leases_of sd) 0 (replicate 512 0) bytes answer e
          → found ≡ look_of up host prev lver faults bytes answer
          → IsSame d e × ((found ≡ look_answer up host prev lver (Some (p.sector sd 0))) ⊎ (found ≡ Err (DiskFault faults)))
      by_answer (Ok count) reads is = (reads.0, inl (is ∙ ap (λ (o : Option Sector). look_answer up host prev lver o) (read_is host count bytes e reads)))
      by_answer (Err Failed) reads is = (reads, inr is)
      by_answer (Err NoFile) reads is = absurd (no_file leases_here.file (d.file (leases_of sd)) reads.1 leases_here.there)
      by_answer (Err Exists) reads is = absurd reads
      by_answer (Err OutOfFile) reads is = absurd reads
      by_answer (Err NotEmpty) reads is = absurd reads

-- ---- sector 0 is the host's

-- what is left once it is
pub record Moved (h : ℕ) (up : Hosts) (a : Asked) (d e : Content) (p : Pool) : Type 0 where
  pub stands : Stands up e (with_role p a.sd (taken_by h kind.Guest (p.sector a.sd 0)))
  pub keeps : Keeps up e (with_role p a.sd (taken_by h kind.Guest (p.sector a.sd 0)))
  pub owned : OwnedChange h up (verb_of a) p d e
  pub changes : OwnedPool h up p (with_role p a.sd (taken_by h kind.Guest (p.sector a.sd 0)))

-- the sector that is there then
pub led_sector : (p : Pool) (m : Id) (new : LeaseRecord) → (with_role p m new).sector m 0 ≡ Lease new
led_sector p m new = ap (λ (b : Bool). (if b then at_number (p.sector m) 0 (Lease new) else p.sector m) 0) (id_is-itself m)

guest_is_no_task : kind.Guest ≡ kind.Task → ⊥
guest_is_no_task e = cc

one_master : (o : Option Id) (a b : Id) → o ≡ Some a → o ≡ Some b → a ≡ b
one_master o a b e f = cc

one_lease : (s : Sector) (r : LeaseRecord) → s ≡ Lease r → owner_of s ≡ r.owner
one_lease s r e = ap owner_of e

zeros_are : IsIdBytes zero_id.0
zeros_are = record { sixteen = refl; in_range = search rules }

image_fits : (s : Sector) → IsSector s → IsIdBytes (image_of s).0
image_fits Empty is = zeros_are
image_fits (Lease r) is = is.image

taken_fits : (h : ℕ) (s : Sector) → (1 ≤ h) × (h ≤ 250) → IsSector s → IsRecord (taken_by h kind.Guest s)
taken_fits h s host is = record { owner = host; version = low (version_of s); image = image_fits s is }
  where
    low : (n : ℕ) → next_version n < 2 ^ 63
    low n = omega arith

module _ (h : ℕ) (up : Hosts) (a : Asked) (d e : Content) (p : Pool) (stands : Stands up d p) (host : (1 ≤ h) × (h ≤ 250)) (nobody : is_up up 0 ≡ false)
    (master : p.master ≡ Some a.sd) (may : is_open up h (owner_of (p.sector a.sd 0)) ≡ true) where
  abbrev new : LeaseRecord
  new = taken_by h kind.Guest (p.sector a.sd 0)

  abbrev q : Pool
  q = with_role p a.sd new

  -- a host that is up and led is this one
  by_tests : (g : ℕ) (b c : Bool) → (g == 0) ≡ b → (g == h) ≡ c → is_up up g ≡ true → (b || (c || not (is_up up g))) ≡ true → g ≡ h
  by_tests g true c zero mine alive may = absurd (false≢true (sym nobody ∙ ap (λ (n : ℕ). is_up up n) (sym (eqb-true g 0 zero)) ∙ alive))
  by_tests g false true zero mine alive may = eqb-true g h mine
  by_tests g false false zero mine alive may = absurd (shut (is_up up g) alive may)
    where
      shut : (b : Bool) → b ≡ true → not b ≡ true → ⊥
      shut true e f = false≢true f
      shut false e f = false≢true e

  led_by : (g : ℕ) → is_up up g ≡ true → Leads p g → g ≡ h
  led_by g alive (m, (r, is, sector, owner)) =
      let here : p.sector a.sd 0 ≡ Lease r = subst (λ (i : Id). p.sector i 0 ≡ Lease r) (one_master p.master m a.sd is master) sector in
      let owned : owner_of (p.sector a.sd 0) ≡ g = one_lease (p.sector a.sd 0) r here ∙ owner in
      by_tests g (g == 0) (g == h) refl refl alive (subst (λ (n : ℕ). is_open up h n ≡ true) owned may)

  holds : (sd i : Id) (g : ℕ) → is_up up g ≡ true → Holds p g sd i → Holds q g sd i
  holds sd i g alive (inl (n, (r, names, is, owner))) = inl (n, (r, names_stay p a.sd new sd i n r names, is, owner))
  holds sd i g alive (inr (lead, (n, (r, names, is)))) = inr (
    (a.sd, (new, master, led_sector p a.sd new, sym (led_by g alive lead))),
    (n, (r, names_stay p a.sd new sd i n r names, is)),
  )

  pub moved_to : IsMoved d a.sd 0 (Lease new) e → Moved h up a d e p
  moved_to moved = record {
    stands = frame;
    keeps = standing_keeps up e q frame;
    owned = role_owned up d e p a.sd new stands master moved fits guest_is_no_task holds h (verb_of a) (inl (may, refl));
    changes = role_changed h up p a.sd new (inl (may, refl));
  }
    where
      fits : IsRecord new
      fits = taken_fits h (p.sector a.sd 0) host ((leases_here up d p a.sd stands master).fits 0)

      frame : Stands up e q
      frame = role_frame up d e p a.sd new stands master moved fits guest_is_no_task holds
