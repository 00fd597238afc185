-- What is done over a disk that holds anything.
use Rattle.std.proofs.Common.{◌≡◌, ℕ, ◌+◌, ◌/◌, ◌≤◌, ◌⊎◌, List, length, true, false, Option, Some, None, Result, Ok, Err, MatchBool, MatchOption, MatchResult, nat_le, refl, sym, ◌∙◌, subst, inl, inr, arith}
use Rattle.std.proofs.lemmas.Bool.{false≢true}
use Rattle.std.proofs.lemmas.Bool.Decides.{nat_tests}
use Rattle.sd_names.specs.declared.place.Dir.{Dir}
use Rattle.sd_names.specs.declared.place.Dir.TheVariants.{Image as ImageDir}
use Rattle.sd_names.specs.declared.place.Place.{Place}
use Rattle.sd_names.specs.declared.refusal.Refusal.{Refusal}
use Rattle.sd_names.specs.declared.refusal.Refusal.TheVariants.{DiskFault}
use Rattle.sd_names.specs.declared.turn.Turn.{Turn}
use Rattle.sd_names.specs.declared.turn.Turn.TheVariants.{More, Done, Ended}
use Rattle.shared_disk.specs.Content.{Content, File}
use Rattle.shared_disk.specs.Calls.{IsCreated, IsDirMade, IsPut, IsSame, MakesDir, PartWritten, Syncs, Told, WriteAt, created, synced}
use Rattle.shared_disk.specs.WellFormed.{IsWellFormed}
use Rattle.shared_disk.specs.Refusal.{refusal_of}
use Rattle.shared_disk.specs.declared.disk.DiskAnswer.{DiskAnswer}
use Rattle.shared_disk.specs.declared.disk.DiskAnswer.TheVariants.{NoFile, Exists, OutOfFile, NotEmpty, Failed}
use Rattle.raw_layer.specs.Raw.{WriteSteps, WritesPart, SyncsFile, AsksLength}
use Rattle.raw_layer.specs.declared.write.RawWrite.{RawWrite}
use Rattle.raw_layer.specs.declared.write.Stage.{Stage}
use Rattle.raw_layer.specs.declared.write.Stage.TheVariants.{Begun, Fits, Written as InFile}
use Rattle.pool_session.specs.Fault.{IsFault, SameOrFault}
use Rattle.pool_session.specs.FileCalls.{DirRefused, FileMade, FilePartlyMade, ImageMade, ImagePartlyMade, PartlyWritten, Written}
use Rattle.pool_session.specs.Image.{file_of}
use Rattle.pool_session.specs.declared.image.Image.{Image}
use Rattle.pool_session.proofs.ImageLemmas.{put_twice, synced_put}

-- a folder that is refused
pub dir_refused : (d e : Content) (dir : Dir) (answer : DiskAnswer) (n : ℕ) → MakesDir d dir (Err answer) e → DirRefused dir (refusal_of answer n) d e
dir_refused d e dir Failed n h = inr (n, refl, h)
dir_refused d e dir NoFile n call = inl (call.0, inl call.1)
dir_refused d e dir Exists n call = inl (call.0, inr call.2)
dir_refused d e dir OutOfFile n call = absurd call
dir_refused d e dir NotEmpty n call = absurd call

-- and with it the image that it was for
pub dir_left : (host : ℕ) (image : Image) (refusal : Refusal) (d e : Content) → DirRefused (ImageDir image.sd image.image) refusal d e → SameOrFault refusal (ImagePartlyMade host image) d e
dir_left host image refusal d e (inl same) = inl same.0
dir_left host image refusal d e (inr (n, is, inl same)) = inl same
dir_left host image refusal d e (inr (n, is, inr made)) = inr (n, is, (e, made, inl refl))

-- a file that is made, and then synced or not
pub file_made : (host : ℕ) (p : Place) (size : ℕ) (d between e : Content) → IsCreated d host p size between → Syncs between host p (Ok tt) e → FileMade host p size d e
file_made host p size d between e made sync = record {
  free = made.free;
  put = put_twice d between e p _ _ made.put (synced_put between e host p (created host size) made.put.here sync);
}

-- no file is in a folder that isn't there
none_in : (d : Content) (p : Place) (o : Option File) → IsWellFormed d → d.file p ≡ o → d.dir p.dir ≡ false → o ≡ None
none_in d p None well is absent = refl
none_in d p (Some f) well is absent = absurd (false≢true (sym absent ∙ well.folders p f is))

file_left : (host : ℕ) (p : Place) (size : ℕ) (d e : Content) → d.file p ≡ None → (e ≡ d) ⊎ IsPut d p (Some (created host size)) e → FilePartlyMade host p size d e
file_left host p size d e free (inl same) = inl same
file_left host p size d e free (inr put) = inr (free, put)

-- an image whose folder was made, and then its file, or not
pub image_made : (before between after : Option Content) (x y host : ℕ) (image : Image) (r : Result (Unit {0}) Refusal) → ((d : Content) → before ≡ Some d → IsWellFormed d)
    → Told before between (λ d e. IsDirMade d (ImageDir image.sd image.image) e)
    → ((d : Content) → between ≡ Some d → d.dir (ImageDir image.sd image.image) ≡ true → d.file (file_of image) ≡ None
    → (e : Content) × (after ≡ Some e)
    × MatchResult r (λ _. IsPut d (file_of image) (Some (synced host (created host (image.capacity / 512)))) e)
    (λ refusal. IsFault x y refusal × ((e ≡ d) ⊎ IsPut d (file_of image) (Some (created host (image.capacity / 512))) e)))
    → MatchResult r (λ _. Told before after (ImageMade host image)) (λ refusal. Told before after (SameOrFault refusal (ImagePartlyMade host image)))
image_made before between after x y host image (Ok t) well first second = λ d tells.
    let folder = first d tells in
    let free = folder.2.put.files (file_of image) ∙ none_in d (file_of image) (d.file (file_of image)) (well d tells) refl folder.2.free in
    let file = second folder.0 folder.1 folder.2.put.here free in
    (file.0, file.1, record { between = folder.0; folder = folder.2; file = record { free = free; put = file.2 } })
image_made before between after x y host image (Err refusal) well first second = λ d tells.
    let folder = first d tells in
    let free = folder.2.put.files (file_of image) ∙ none_in d (file_of image) (d.file (file_of image)) (well d tells) refl folder.2.free in
    let file = second folder.0 folder.1 folder.2.put.here free in
    (file.0, file.1, inr (y, file.2.0.1, (folder.0, folder.2, file_left host (file_of image) (image.capacity / 512) folder.0 file.0 free file.2.1)))

-- a part that fits
pub on_fit : (o p : Option Refusal) (P : Type 0) (R : Refusal → Type 0) → o ≡ p → ((x : Refusal) → o ≡ Some x → ⊥) → P → MatchOption p P R
on_fit None p P R e not h = subst (λ (q : Option Refusal). MatchOption q P R) e h
on_fit (Some x) p P R e not h = absurd (not x refl)

-- what a write has done so far, by its stage
abbrev pub Sofar : Stage → ℕ → ℕ → Place → ℕ → List ℕ → Content → Content → Type 0
Sofar (Begun known) capacity host place at part d m = (known ≡ capacity) × IsSame d m
Sofar Fits capacity host place at part d m = IsSame d m
Sofar InFile capacity host place at part d m = WriteAt d host place at part (Ok tt) m

module _ (w : RawWrite) (host at faults capacity : ℕ) (place : Place) (part : List ℕ) (d m e : Content) (from : w.at ≡ at) (is_place : w.place ≡ place) (within : at + length part ≤ capacity) where
  here : (answer : Result (Unit {0}) DiskAnswer) → IsSame d m → WriteAt m host w.place (w.at / 512) part answer e → WriteAt d host place (at / 512) part answer e
  here answer same h =
      subst (λ (c : Content). WriteAt c host place (at / 512) part answer e) same
      (subst (λ (p : Place). WriteAt m host p (at / 512) part answer e) is_place
      (subst (λ (n : ℕ). WriteAt m host w.place (n / 512) part answer e) from h))

  part_more : (next : RawWrite) → IsSame d m → WritesPart w host faults part (More next) m e → Sofar next.stage capacity host place (at / 512) part d e
  part_more next same (Ok t, is, goes) = subst (λ (s : Stage). Sofar s capacity host place (at / 512) part d e) (sym goes.now_in) (here (Ok t) same is)
  part_more next same (Err a, is, ends) = absurd (cc)

  part_done : WritesPart w host faults part (Done tt) m e → ⊥
  part_done (Ok t, is, goes) = goes
  part_done (Err a, is, ends) = cc

  part_left : (refusal : Refusal) → refusal ≡ DiskFault faults → IsSame d e ⊎ PartWritten d host place (at / 512) part e → SameOrFault refusal (PartlyWritten host place (at / 512) part) d e
  part_left refusal is (inl same) = inl same
  part_left refusal is (inr partly) = inr (faults, is, partly)

  part_ended : (refusal : Refusal) → IsSame d m → WritesPart w host faults part (Ended tt refusal) m e → SameOrFault refusal (PartlyWritten host place (at / 512) part) d e
  part_ended refusal same (Ok t, is, goes) = absurd goes
  part_ended refusal same (Err Failed, is, ends) = part_left refusal (cc) (here (Err Failed) same is)
  part_ended refusal same (Err NoFile, is, ends) = let at_once = here (Err NoFile) same is in inl at_once.0
  part_ended refusal same (Err OutOfFile, is, ends) = let at_once = here (Err OutOfFile) same is in inl at_once.0
  part_ended refusal same (Err Exists, is, ends) = absurd is
  part_ended refusal same (Err NotEmpty, is, ends) = absurd is

  sync_more : (next : RawWrite) → SyncsFile w host faults (More next) m e → ⊥
  sync_more next (Ok t, is, ends) = cc
  sync_more next (Err a, is, ends) = cc

  sync_done : WriteAt d host place (at / 512) part (Ok tt) m → SyncsFile w host faults (Done tt) m e → Written host place (at / 512) part d e
  sync_done wrote (Ok t, is, ends) = record { between = m; wrote = wrote; synced = subst (λ (p : Place). Syncs m host p (Ok tt) e) is_place is }
  sync_done wrote (Err a, is, ends) = absurd (cc)

  unsynced : WriteAt d host place (at / 512) part (Ok tt) m → IsSame m e → PartlyWritten host place (at / 512) part d e
  unsynced wrote same =
      let left = subst (λ (c : Content). WriteAt d host place (at / 512) part (Ok tt) c) (sym same) wrote in
      (left.0, left.1, left.2, (λ _. true), left.3)

  sync_ended : (refusal : Refusal) → WriteAt d host place (at / 512) part (Ok tt) m → SyncsFile w host faults (Ended tt refusal) m e → SameOrFault refusal (PartlyWritten host place (at / 512) part) d e
  sync_ended refusal wrote (Ok t, is, ends) = absurd (cc)
  sync_ended refusal wrote (Err Failed, same, ends) = inr (faults, (cc), unsynced wrote same)
  sync_ended refusal wrote (Err NoFile, is, ends) = absurd (let there = wrote.3.here in let gone = is.1 in let p = is_place in cc)
  sync_ended refusal wrote (Err Exists, is, ends) = absurd is
  sync_ended refusal wrote (Err OutOfFile, is, ends) = absurd is
  sync_ended refusal wrote (Err NotEmpty, is, ends) = absurd is

  chosen : (P Q : Type 0) (a b : ℕ) → a ≤ b → MatchBool (nat_le a b) P Q → P
  chosen P Q a b h match =
      let passes : nat_le a b ≡ true = grind (arith, nat_tests) in
      subst (λ t. MatchBool t P Q) passes match

  begun : (known : ℕ) (turn : Turn RawWrite (Unit {0}) (Unit {0})) → known ≡ capacity → WriteSteps (Begun known) w host faults part turn m e → WritesPart w host faults part turn m e
  begun known turn is steps = chosen (WritesPart w host faults part turn m e) (AsksLength w faults (length part) turn m e) (w.at + length part) known (omega arith) steps

  -- what is so after a step
  pub more_sofar : (s : Stage) (next : RawWrite) → Sofar s capacity host place (at / 512) part d m → WriteSteps s w host faults part (More next) m e → Sofar next.stage capacity host place (at / 512) part d e
  more_sofar (Begun known) next sofar steps = part_more next sofar.1 (begun known (More next) sofar.0 steps)
  more_sofar Fits next sofar steps = part_more next sofar steps
  more_sofar InFile next sofar steps = absurd (sync_more next steps)

  -- a write that is done
  pub done_written : (s : Stage) → Sofar s capacity host place (at / 512) part d m → WriteSteps s w host faults part (Done tt) m e → Written host place (at / 512) part d e
  done_written (Begun known) sofar steps = absurd (part_done (begun known (Done tt) sofar.0 steps))
  done_written Fits sofar steps = absurd (part_done steps)
  done_written InFile sofar steps = sync_done sofar steps

  -- a write that is refused
  pub ended_written : (s : Stage) (refusal : Refusal) → Sofar s capacity host place (at / 512) part d m → WriteSteps s w host faults part (Ended tt refusal) m e → SameOrFault refusal (PartlyWritten host place (at / 512) part) d e
  ended_written (Begun known) refusal sofar steps = part_ended refusal sofar.1 (begun known (Ended tt refusal) sofar.0 steps)
  ended_written Fits refusal sofar steps = part_ended refusal sofar steps
  ended_written InFile refusal sofar steps = sync_ended refusal sofar steps
