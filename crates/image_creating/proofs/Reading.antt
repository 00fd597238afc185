-- The steps of a scan, whose sectors others keep: what they have seen still stands.
use Rattle.std.proofs.Common.{◌≡◌, ◌⊎◌, ℕ, ◌+◌, ◌/◌, ◌<◌, ◌≤◌, ◌==◌, if◌then◌else◌, List, [], length, Option, Some, None, eq-eqb, refl, sym, ap, ◌∙◌, subst, inl, inr, arith}
use Rattle.std.proofs.lemmas.Bool.Decides.{nat_tests}
use Rattle.std.proofs.Math.Decide.{dec_lt}
use Rattle.std.specs.Prelude.{false}
use Rattle.sd_names.specs.declared.id.Id.{Id}
use Rattle.shared_disk.specs.Content.{Content, File, Sees}
use Rattle.shared_disk.proofs.AtPlace.{one_file}
use Rattle.shared_disk.proofs.Toolkit.{sees_settled}
use Rattle.lease_area.specs.Hold.{leases_of}
use Rattle.lease_area.specs.Noted.{nothing_seen}
use Rattle.lease_area.specs.Record.{IsImageSlot}
use Rattle.lease_area.specs.Scan.{Looks}
use Rattle.lease_area.specs.WholeScan.{HasLease, IsEmptySector, IsLeast, IsReadIn, IsScan, sector_read}
use Rattle.lease_area.specs.declared.scanned.Scanned.{Scanned}
use Rattle.lease_area.specs.declared.sector.LeaseRecord.{LeaseRecord}
use Rattle.lease_area.proofs.WholeScan.{all_read, empty_least, found_least}
use Rattle.image_creating.specs.Knowing.{IsReadSince}
use Rattle.image_creating.specs.Sectors.{IsArea, IsEmpty, IsFullFile, IsLeastEmptyIn, IsNamedIn, IsSectorKept, IsUnnamedIn, KeepsSectors, Names}
use Rattle.image_creating.proofs.Sectors.{empty_back, empty_kept, keeps_both, keeps_itself, names_back, names_kept}

-- ---- one more

abbrev put_at : {A : Type 0} → ℕ → A → (ℕ → A) → ℕ → A
put_at n a f i = if i == n then a else f i

put_here : {A : Type 0} (n : ℕ) (a : A) (f : ℕ → A) → put_at n a f n ≡ a
put_here n a f = rw (eq-eqb n n refl) refl

differs : (i n : ℕ) → i < n → (i == n) ≡ false
differs i n below = grind (arith, nat_tests)

put_other : {A : Type 0} (n : ℕ) (a : A) (f : ℕ → A) (i : ℕ) → i < n → put_at n a f i ≡ f i
put_other n a f i below = rw (differs i n below) refl

looks_as : (sd image : Id) (i host : ℕ) (b c r q : List ℕ) (s t u v : Scanned) (d e : Content) → c ≡ b → q ≡ r → t ≡ s → v ≡ u → e ≡ d → Looks sd image i host b r s u d → Looks sd image i host c q t v e
looks_as sd image i host b c r q s t u v d e bs rs ss us ds looks =
    subst (λ (z : List ℕ). Looks sd image i host z q t v e) (sym bs)
    (subst (λ (z : List ℕ). Looks sd image i host b z t v e) (sym rs)
    (subst (λ (z : Scanned). Looks sd image i host b r z v e) (sym ss)
    (subst (λ (z : Scanned). Looks sd image i host b r s z e) (sym us) (subst (λ (z : Content). Looks sd image i host b r s u z) (sym ds) looks))))

-- a scan of one step more
module _ (n host : ℕ) (sd image : Id) (folders : ℕ → Content) (before rooms : ℕ → List ℕ) (seen : ℕ → Scanned) (scan : IsScan n host sd image folders before rooms seen) (d : Content) (b r : List ℕ)
    (new : Scanned) (len : length b ≡ 65536) (looks : Looks sd image n host b r (seen n) new d) where
  room_more : (i : ℕ) → i < n + 1 → length (put_at n b before i) ≡ 65536
  room_more i less = elim (dec_lt i n) [
    | yes below ↦ ap (λ (z : List ℕ). length z) (put_other n b before i below) ∙ scan.room i below
    | no above ↦ (let same : i ≡ n = omega arith in ap (λ (j : ℕ). length (put_at n b before j)) same ∙ ap (λ (z : List ℕ). length z) (put_here n b before) ∙ len)
  ]

  looks_here : Looks sd image n host (put_at n b before n) (put_at n r rooms n) (put_at (n + 1) new seen n) (put_at (n + 1) new seen (n + 1)) (put_at n d folders n)
  looks_here =
      looks_as sd image n host b (put_at n b before n) r (put_at n r rooms n) (seen n) (put_at (n + 1) new seen n) new (put_at (n + 1) new seen (n + 1)) d (put_at n d folders n) (put_here n b before)
      (put_here n r rooms) (put_other (n + 1) new seen n (omega arith)) (put_here (n + 1) new seen) (put_here n d folders) looks

  looks_below : (i : ℕ) → i < n → Looks sd image i host (put_at n b before i) (put_at n r rooms i) (put_at (n + 1) new seen i) (put_at (n + 1) new seen (i + 1)) (put_at n d folders i)
  looks_below i below =
      looks_as sd image i host (before i) (put_at n b before i) (rooms i) (put_at n r rooms i) (seen i) (put_at (n + 1) new seen i) (seen (i + 1)) (put_at (n + 1) new seen (i + 1)) (folders i)
      (put_at n d folders i) (put_other n b before i below) (put_other n r rooms i below) (put_other (n + 1) new seen i (omega (arith, below))) (put_other (n + 1) new seen (i + 1) (omega (arith, below)))
      (put_other n d folders i below) (scan.looks i below)

  looks_more : (i : ℕ) → i < n + 1 → Looks sd image i host (put_at n b before i) (put_at n r rooms i) (put_at (n + 1) new seen i) (put_at (n + 1) new seen (i + 1)) (put_at n d folders i)
  looks_more i less = elim (dec_lt i n) [
    | yes below ↦ looks_below i below
    | no above ↦ (let same : n ≡ i = omega arith in
        subst (λ (j : ℕ). Looks sd image j host (put_at n b before j) (put_at n r rooms j) (put_at (n + 1) new seen j) (put_at (n + 1) new seen (j + 1)) (put_at n d folders j)) same looks_here)
  ]

  scan_more : IsScan (n + 1) host sd image (put_at n d folders) (put_at n b before) (put_at n r rooms) (put_at (n + 1) new seen)
  scan_more = record { begun = put_other (n + 1) new seen 0 (omega arith) ∙ scan.begun; room = room_more; looks = looks_more }

-- ---- what was read so far

abbrev Kept : Id → File → Content → Type 0
Kept sd f d = (g : File) × (d.file (leases_of sd) ≡ Some g) × IsArea g × KeepsSectors g f

pub read_none : (host : ℕ) (sd image : Id) (f : File) (d : Content) → IsReadSince 0 host sd image nothing_seen f
read_none host sd image f d = record {
  folders = λ _. d;
  before = λ _. [];
  rooms = λ _. [];
  seen = λ _. nothing_seen;
  scan = record { begun = refl; room = λ i less. absurd (omega (arith, less)); looks = λ i less. absurd (omega (arith, less)) };
  now = refl;
  kept = λ i less. absurd (omega (arith, less));
}

kept_more : (n : ℕ) (sd : Id) (f : File) (d : Content) (folders : ℕ → Content) → ((i : ℕ) → i < n → Kept sd f (folders i)) → Kept sd f d → (i : ℕ) → i < n + 1 → Kept sd f (put_at n d folders i)
kept_more n sd f d folders kept here i less = elim (dec_lt i n) [
  | yes below ↦ subst (λ (c : Content). Kept sd f c) (sym (put_other n d folders i below)) (kept i below)
  | no above ↦ (let same : n ≡ i = omega arith in
      subst (λ (j : ℕ). Kept sd f (put_at n d folders j)) same (subst (λ (c : Content). Kept sd f c) (sym (put_here n d folders)) here))
]

pub read_more : (n host : ℕ) (sd image : Id) (last new : Scanned) (f : File) (d : Content) (b r : List ℕ) → IsReadSince n host sd image last f → d.file (leases_of sd) ≡ Some f → IsArea f → length b ≡ 65536
    → Looks sd image n host b r last new d → IsReadSince (n + 1) host sd image new f
read_more n host sd image last new f d b r read there area len looks = record {
  folders = put_at n d read.folders;
  before = put_at n b read.before;
  rooms = put_at n r read.rooms;
  seen = put_at (n + 1) new read.seen;
  scan = scan_more n host sd image read.folders read.before read.rooms read.seen read.scan d b r new len (subst (λ (z : Scanned). Looks sd image n host b r z new d) (sym read.now) looks);
  now = put_here (n + 1) new read.seen;
  kept = kept_more n sd f d read.folders read.kept (f, there, area, keeps_itself f);
}

pub read_kept : (n host : ℕ) (sd image : Id) (last : Scanned) (f g : File) → KeepsSectors f g → IsReadSince n host sd image last f → IsReadSince n host sd image last g
read_kept n host sd image last f g keeps read = record {
  folders = read.folders;
  before = read.before;
  rooms = read.rooms;
  seen = read.seen;
  scan = read.scan;
  now = read.now;
  kept = λ i less. let was = read.kept i less in (was.0, was.1, was.2, keeps_both was.0 f g was.3 keeps);
}

-- ---- a whole scan

bytes_read : (host k : ℕ) (sd : Id) (bytes : List ℕ) (c : Content) (g : File) → c.file (leases_of sd) ≡ Some g → IsArea g → k < 1024 → IsReadIn host sd k bytes c → bytes ≡ g.stable k
bytes_read host k sd bytes c g there area below read = by_case read.2
  where
    same : read.0 ≡ g
    same = one_file read.0 g (c.file (leases_of sd)) read.1 there

    by_case : ((k < read.0.size) × Sees host read.0 k bytes) ⊎ ((read.0.size ≤ k) × (bytes ≡ [])) → bytes ≡ g.stable k
    by_case (inl w) = sees_settled host k g bytes area.settled (subst (λ (f : File). Sees host f k bytes) same w.1)
    by_case (inr w) = absurd (too_low read.0.size k (ap (λ (f : File). f.size) same ∙ area.size) w.0 below)
      where
        too_low : (size k : ℕ) → size ≡ 1024 → size ≤ k → k < 1024 → ⊥
        too_low size k is past less = omega (arith, is, past, less)

module _ (host : ℕ) (sd image : Id) (last : Scanned) (f : File) (read : IsReadSince 8 host sd image last f) where
  abbrev bytes_at : ℕ → List ℕ
  bytes_at k = sector_read sd read.folders read.rooms k

  one_kept : (k : ℕ) → k < 1024 → IsSectorKept (bytes_at k) (f.stable k)
  one_kept k below =
      let was = read.kept (k / 128) (omega (arith, below)) in
      let is = bytes_read host k sd (bytes_at k) (read.folders (k / 128)) was.0 was.1 was.2 below (all_read host sd image read.folders read.before read.rooms read.seen 8 read.scan k (omega (arith, below))) in
      subst (λ (b : List ℕ). IsSectorKept b (f.stable k)) (sym is) (was.3.each k)

  abbrev HasFound : ℕ → ℕ × LeaseRecord → Type 0
  HasFound k a = HasLease image k (bytes_at k) a

  found_is : IsLeast HasFound 1024 last.found
  found_is = subst (λ (s : Scanned). IsLeast HasFound 1024 s.found) read.now (found_least host sd image read.folders read.before read.rooms read.seen 8 read.scan)

  abbrev HasEmpty : ℕ → ℕ → Type 0
  HasEmpty k a = IsEmptySector k (bytes_at k) a

  empty_is : IsLeast HasEmpty 1024 last.empty
  empty_is = subst (λ (s : Scanned). IsLeast HasEmpty 1024 s.empty) read.now (empty_least host sd image read.folders read.before read.rooms read.seen 8 read.scan)

  pub none_found : last.found ≡ None → IsUnnamedIn image f
  none_found is k slot names =
      let none = subst (λ (o : Option (ℕ × LeaseRecord)). IsLeast HasFound 1024 o) is found_is in
      let was = names_back image (bytes_at k) (f.stable k) (one_kept k slot.high) names in
      none k (k, was.0) slot.low slot.high (record { number = refl; lease = was.1; image_is = was.2 })

  pub one_found : (a : ℕ × LeaseRecord) → last.found ≡ Some a → IsNamedIn image f
  one_found a is =
      let some = subst (λ (o : Option (ℕ × LeaseRecord)). IsLeast HasFound 1024 o) is found_is in
      (some.0, record { low = some.1; high = some.2 }, names_kept image (bytes_at some.0) (f.stable some.0) (one_kept some.0 some.2) (a.1, some.3.lease, some.3.image_is))

  -- the sector that was found names the image yet, and when it was read it had this lease
  pub found_at : (a : ℕ × LeaseRecord) → last.found ≡ Some a → IsImageSlot a.0 × Names image (f.stable a.0) × (a.1.image ≡ image)
  found_at a is =
      let some = subst (λ (o : Option (ℕ × LeaseRecord)). IsLeast HasFound 1024 o) is found_is in
      let here : some.0 ≡ a.0 = sym some.3.number in (
        subst (λ (k : ℕ). IsImageSlot k) here (record { low = some.1; high = some.2 }),
        subst (λ (k : ℕ). Names image (f.stable k)) here (names_kept image (bytes_at some.0) (f.stable some.0) (one_kept some.0 some.2) (a.1, some.3.lease, some.3.image_is)),
        some.3.image_is,
      )

  pub none_empty : last.empty ≡ None → IsFullFile f
  none_empty is k slot empty =
      let none = subst (λ (o : Option ℕ). IsLeast HasEmpty 1024 o) is empty_is in
      none k k slot.low slot.high (record { number = refl; empty = empty_back (bytes_at k) (f.stable k) (one_kept k slot.high) empty })

  pub one_empty : (slot : ℕ) → last.empty ≡ Some slot → IsLeastEmptyIn slot f
  one_empty slot is =
      let some = subst (λ (o : Option ℕ). IsLeast HasEmpty 1024 o) is empty_is in
      let here : some.0 ≡ slot = sym some.3.number in
      record {
        empty = subst (λ (k : ℕ). IsEmpty (f.stable k)) here (empty_kept (bytes_at some.0) (f.stable some.0) (one_kept some.0 some.2) some.3.empty);
        least = λ k slot_is below empty.
            some.4 k k slot_is.low (omega (arith, here, below)) (record { number = refl; empty = empty_back (bytes_at k) (f.stable k) (one_kept k slot_is.high) empty });
      }
