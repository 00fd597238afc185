-- What the call of a step leaves elsewhere, and the file at its place.
use Rattle.std.proofs.Common.{◌≡◌, ◌≢◌, ◌⊎◌, inl, inr, ℕ, ◌+◌, ◌<◌, Bool, true, List, length, Option, Some, None, Result, Ok, Err, refl, ap, ◌∙◌, subst, arith}
use Rattle.std.proofs.lemmas.List.{take_all}
use Rattle.sd_names.specs.declared.place.Dir.{Dir}
use Rattle.sd_names.specs.declared.place.Place.{Place}
use Rattle.sd_names.specs.declared.refusal.Refusal.TheVariants.{DiskFault}
use Rattle.sd_names.specs.declared.turn.Turn.TheVariants.{Ended}
use Rattle.shared_disk.specs.Content.{Content, File, sector_of}
use Rattle.shared_disk.specs.Calls.{IsPut, IsSame, ReadAt, Syncs, WriteAt, sectors_in, wrote}
use Rattle.shared_disk.specs.Crash.{IsAlone, IsSettled, OnEach}
use Rattle.shared_disk.specs.Step.{TurnFollows}
use Rattle.shared_disk.specs.declared.disk.DiskAnswer.{DiskAnswer}
use Rattle.shared_disk.specs.declared.disk.DiskAnswer.TheVariants.{NoFile, Exists, OutOfFile, NotEmpty, Failed}
use Rattle.shared_disk.proofs.AtPlace.{no_file, one_file}
use Rattle.shared_disk.proofs.Outcomes.{settled_file}
use Rattle.layer_writing.specs.Holding.{IsBetween, IsEither, with_sector}
use Rattle.layer_writing.proofs.Sectors.{alone_writes, between_written, either_on_each}
use Rattle.layer_heading.specs.Writing.{IsWriting, Turned}
use Rattle.qcow_layer.proofs.Knowing.{settled_alone}

-- all other places, and the folders
pub record Elsewhere (place : Place) (d e : Content) : Type 0 where
  pub dirs : (q : Dir) → e.dir q ≡ d.dir q
  pub others : (q : Place) → q ≢ place → e.file q ≡ d.file q

same_elsewhere : (place : Place) (d e : Content) → IsSame d e → Elsewhere place d e
same_elsewhere place d e same = record { dirs = λ q. ap (λ (c : Content). c.dir q) same; others = λ q _. ap (λ (c : Content). c.file q) same }

put_elsewhere : (place : Place) (d e : Content) (new : Option File) → IsPut d place new e → Elsewhere place d e
put_elsewhere place d e new put = record { dirs = put.dirs; others = put.others }

pub write_elsewhere : (d e : Content) (host p : ℕ) (place : Place) (bytes : List ℕ) (answer : Result (Unit {0}) DiskAnswer) → WriteAt d host place p bytes answer e → Elsewhere place d e
write_elsewhere d e host p place bytes (Ok u) is = put_elsewhere place d e _ is.3
write_elsewhere d e host p place bytes (Err NoFile) is = same_elsewhere place d e is.0
write_elsewhere d e host p place bytes (Err OutOfFile) is = same_elsewhere place d e is.0
write_elsewhere d e host p place bytes (Err Failed) (inl same) = same_elsewhere place d e same
write_elsewhere d e host p place bytes (Err Failed) (inr is) = put_elsewhere place d e _ is.4
write_elsewhere d e host p place bytes (Err Exists) is = absurd is
write_elsewhere d e host p place bytes (Err NotEmpty) is = absurd is

pub sync_elsewhere : (d e : Content) (host : ℕ) (place : Place) (answer : Result (Unit {0}) DiskAnswer) → Syncs d host place answer e → Elsewhere place d e
sync_elsewhere d e host place (Ok u) is = put_elsewhere place d e _ is.2
sync_elsewhere d e host place (Err NoFile) is = same_elsewhere place d e is.0
sync_elsewhere d e host place (Err Failed) same = same_elsewhere place d e same
sync_elsewhere d e host place (Err Exists) is = absurd is
sync_elsewhere d e host place (Err OutOfFile) is = absurd is
sync_elsewhere d e host place (Err NotEmpty) is = absurd is

pub read_elsewhere : (d e : Content) (host p : ℕ) (place : Place) (before after : List ℕ) (answer : Result ℕ DiskAnswer) → ReadAt d host place p before after answer e → IsSame d e
read_elsewhere d e host p place before after (Ok n) is = is.0
read_elsewhere d e host p place before after (Err NoFile) is = is.0
read_elsewhere d e host p place before after (Err Failed) same = same
read_elsewhere d e host p place before after (Err Exists) is = absurd is
read_elsewhere d e host p place before after (Err OutOfFile) is = absurd is
read_elsewhere d e host p place before after (Err NotEmpty) is = absurd is

pub at_same : (place : Place) (d e : Content) → IsSame d e → Elsewhere place d e
at_same place d e same = same_elsewhere place d e same

-- ---- one sector is written

-- the write did its work, or the disk failed; on each outcome the sector is there or not
pub record Wrote {S : Type 0} (place : Place) (host p : ℕ) (sector : List ℕ) (faults : ℕ) (next turn : Turned S) (f : File) (e : Content) : Type 0 where
  pub file : File
  pub there : e.file place ≡ Some file
  pub size : file.size ≡ f.size
  pub alone : IsAlone host file
  pub made : file.fresh ≡ None
  pub each : OnEach file (IsEither f.stable (with_sector p sector f.stable))
  pub ends : ((turn ≡ next) × IsWriting host p sector f file) ⊎ (turn ≡ Ended tt (DiskFault faults))

module _ {S : Type 0} (place : Place) (host p : ℕ) (sector : List ℕ) (faults : ℕ) (next turn : Turned S) (f : File) (d e : Content)
    (there : d.file place ≡ Some f) (settled : IsSettled f) (sized : length sector ≡ 512) (inside : p < f.size) where
  one : sectors_in sector ≡ 1
  one = omega (arith, sized)

  whole : sector_of sector 0 ≡ sector
  whole = take_all 512 sector (omega (arith, sized))

  each_of : (did : ℕ → Bool) → OnEach (wrote did host p sector f) (IsEither f.stable (with_sector p sector f.stable))
  each_of did = subst (λ (s : List ℕ). OnEach (wrote did host p sector f) (IsEither f.stable (with_sector p s f.stable))) whole (either_on_each did host p sector f settled one)

  failed : (did : ℕ → Bool) (new : File) → new ≡ wrote did host p sector f → e.file place ≡ Some new → turn ≡ Ended tt (DiskFault faults) → Wrote place host p sector faults next turn f e
  failed did new is here by = record {
    file = wrote did host p sector f;
    there = here ∙ ap (λ (x : File). Some x) is;
    size = refl;
    alone = alone_writes did host p sector f (settled_alone host f settled);
    made = settled.fresh;
    each = each_of did;
    ends = inr by;
  }

  pub wrote_one : (answer : Result (Unit {0}) DiskAnswer) → WriteAt d host place p sector answer e → TurnFollows answer faults turn (λ _. turn ≡ next) → Wrote place host p sector faults next turn f e
  wrote_one (Ok u) is by =
      let same : is.0 ≡ f = one_file is.0 f (d.file place) is.1 there in
      let new = wrote (λ _. true) host p sector f in
      let between : IsBetween host f.stable (with_sector p sector f.stable) new =
      subst (λ (s : List ℕ). IsBetween host f.stable (with_sector p s f.stable) new) whole (between_written host p sector f settled one) in
      record {
        file = new;
        there = is.3.here ∙ ap (λ (x : File). Some (wrote (λ _. true) host p sector x)) same;
        size = refl;
        alone = between.alone;
        made = between.made;
        each = between.each;
        ends = inl (by, record { size = refl; between = between });
      }
  wrote_one (Err NoFile) is by = absurd (no_file f (d.file place) is.1 there)
  wrote_one (Err OutOfFile) is by =
      let same : is.1.size ≡ f.size = ap (λ (x : File). x.size) (one_file is.1 f (d.file place) is.2 there) in
      absurd (beyond is.1.size f.size p (sectors_in sector) same inside one is.3)
    where
      beyond : (a b p n : ℕ) → a ≡ b → p < b → n ≡ 1 → a < p + n → ⊥
      beyond a b p n same within one less = omega (arith, same, within, one, less)
  wrote_one (Err Failed) (inl same) by = record {
    file = f;
    there = ap (λ (c : Content). c.file place) same ∙ there;
    size = refl;
    alone = settled_alone host f settled;
    made = settled.fresh;
    each = λ g out. inl (ap (λ (x : File). x.stable) (settled_file f g settled out));
    ends = inr by;
  }
  wrote_one (Err Failed) (inr is) by =
      let same : is.0 ≡ f = one_file is.0 f (d.file place) is.1 there in
      failed is.3 (wrote is.3 host p sector is.0) (ap (λ (x : File). wrote is.3 host p sector x) same) is.4.here by
  wrote_one (Err Exists) is by = absurd is
  wrote_one (Err NotEmpty) is by = absurd is
