-- What the machine does, by what is due.
use Rattle.std.proofs.Common.{◌≡◌, ℕ, ◌/◌, ◌≤◌, ◌++◌, Bool, true, false, List, [], length, take, Option, Some, None, Result, Ok, Err, MatchResult, unwrap_or, if◌then◌else◌, ◌&&◌, refl, sym, ap, ◌∙◌, subst, inl, inr}
use Rattle.std.proofs.Math.Seq.{take-append_seam}
use Rattle.sd_names.specs.declared.id.Id.{Id}
use Rattle.sd_names.specs.declared.refusal.Refusal.{Refusal}
use Rattle.sd_names.specs.declared.refusal.Refusal.TheVariants.{DiskFault}
use Rattle.sd_names.specs.declared.verb.Payload.TheVariants as payload
use Rattle.script_lines.specs.declared.reply.Reply.TheVariants.{Done, Refused}
use Rattle.shared_disk.specs.Content.{Content, own_of}
use Rattle.sd_names.specs.declared.place.Place.{Place}
use Rattle.shared_disk.specs.Calls.{IsSame, Rose, Told}
use Rattle.raw_layer.specs.Raw.{ReadsFile}
use Rattle.pool_session.specs.Answer.{Answer}
use Rattle.pool_session.specs.Image.{HoldsFlat, SeenFlat, ReadsFlat, Mixed, laid}
use Rattle.pool_session.specs.Machine.{State, Acts, Answers, Due, OnPart, Refuses, WritesImage, ReadsImage, Stands, StandsFor, act_of, due_by, due_of, part_refusal, state_after, same_id}
use Rattle.pool_session.specs.Request.{Asked}
use Rattle.pool_session.specs.declared.image.Image.{Image}
use Rattle.pool_session.specs.declared.request.Request.{Request}
use Rattle.pool_session.specs.declared.request.Request.TheVariants as request
use Rattle.pool_session.specs.declared.stage.Act.{Act}
use Rattle.pool_session.specs.declared.stage.Act.TheVariants as act
use Rattle.pool_session.specs.declared.stage.Stage.{Stage}
use Rattle.pool_session.specs.declared.stage.Stage.TheVariants.{Off, Up, Pooled, Managed, Created, Opened, MakePoolStopped, CreateStopped, Stopped}

-- the state in which something is done
abbrev pub state_at : Stage → (ℕ → List ℕ) → ℕ → Bool → State
state_at stage flat faults refusals = record { stage = stage; flat = flat; faults = faults; refusals = refusals }

on_part : (o p : Option Refusal) → o ≡ p → ((x : Refusal) → o ≡ Some x → ⊥) → (s : State) (image : Image) (answer : Answer) (t : State) (P : Type 0) → P → OnPart p s image answer t P
on_part None p e not s image answer t P h = subst (λ (q : Option Refusal). OnPart q s image answer t P) e h
on_part (Some x) p e not s image answer t P h = absurd (not x refl)

module _ (stage : Stage) (flat : ℕ → List ℕ) (faults : ℕ) (refusals : Bool) (image : Image) (at faults' : ℕ) (o : Option Refusal) (not : (x : Refusal) → o ≡ Some x → ⊥) where
  -- a write that is done
  pub write_done : faults' ≡ faults → (bytes read : List ℕ) → o ≡ part_refusal at (length bytes) image.capacity
      → Acts (state_at stage flat faults refusals) (act.Write image at) bytes (Done payload.Write, read)
      (state_after (state_at stage flat faults refusals) (Opened image) (laid (at / 512) bytes flat) faults' (Done payload.Write, read))
  write_done same bytes read is = on_part o (part_refusal at (length bytes) image.capacity) is not (state_at stage flat faults refusals) image (Done payload.Write, read)
      (state_after (state_at stage flat faults refusals) (Opened image) (laid (at / 512) bytes flat) faults' (Done payload.Write, read))
      (WritesImage (state_at stage flat faults refusals) image at bytes (Done payload.Write, read) (state_after (state_at stage flat faults refusals) (Opened image) (laid (at / 512) bytes flat) faults' (Done payload.Write, read)))
      (inl (refl, same, refl))

  -- a write that a fault has cut
  pub write_cut : faults ≤ faults' → (bytes read : List ℕ) (refusal : Refusal) (mixed : ℕ → List ℕ) → o ≡ part_refusal at (length bytes) image.capacity
      → Rose faults faults' → refusal ≡ DiskFault faults' → Mixed (at / 512) bytes flat mixed
      → Acts (state_at stage flat faults refusals) (act.Write image at) bytes (Refused refusal, read)
      (state_after (state_at stage flat faults refusals) (Stopped image) mixed faults' (Refused refusal, read))
  write_cut no_less bytes read refusal mixed is rose told mixes =
      on_part o (part_refusal at (length bytes) image.capacity) is not (state_at stage flat faults refusals) image (Refused refusal, read)
      (state_after (state_at stage flat faults refusals) (Stopped image) mixed faults' (Refused refusal, read))
      (WritesImage (state_at stage flat faults refusals) image at bytes (Refused refusal, read) (state_after (state_at stage flat faults refusals) (Stopped image) mixed faults' (Refused refusal, read)))
      (inr (mixed, mixes, (rose, ap (λ r. Refused r) told, no_less, refl)))

  -- a read that is done
  pub read_done : faults' ≡ faults → (count : ℕ) (bytes read : List ℕ) → o ≡ part_refusal at count image.capacity → length read ≡ count → ReadsFlat (at / 512) flat read
      → Acts (state_at stage flat faults refusals) (act.Read image at count) bytes (Done (payload.Read count), read)
      (state_after (state_at stage flat faults refusals) (Opened image) flat faults' (Done (payload.Read count), read))
  read_done same count bytes read is long reads = on_part o (part_refusal at count image.capacity) is not (state_at stage flat faults refusals) image (Done (payload.Read count), read)
      (state_after (state_at stage flat faults refusals) (Opened image) flat faults' (Done (payload.Read count), read))
      (ReadsImage (state_at stage flat faults refusals) image at count (Done (payload.Read count), read) (state_after (state_at stage flat faults refusals) (Opened image) flat faults' (Done (payload.Read count), read)))
      (inl (long, reads, (refl, same, refl)))

  -- a read that has failed
  pub read_cut : faults ≤ faults' → (count : ℕ) (bytes read : List ℕ) (refusal : Refusal) → o ≡ part_refusal at count image.capacity → Rose faults faults' → refusal ≡ DiskFault faults'
      → Acts (state_at stage flat faults refusals) (act.Read image at count) bytes (Refused refusal, read)
      (state_after (state_at stage flat faults refusals) (Stopped image) flat faults' (Refused refusal, read))
  read_cut no_less count bytes read refusal is rose told = on_part o (part_refusal at count image.capacity) is not (state_at stage flat faults refusals) image (Refused refusal, read)
      (state_after (state_at stage flat faults refusals) (Stopped image) flat faults' (Refused refusal, read))
      (ReadsImage (state_at stage flat faults refusals) image at count (Refused refusal, read) (state_after (state_at stage flat faults refusals) (Stopped image) flat faults' (Refused refusal, read)))
      (inr (rose, ap (λ r. Refused r) told, no_less, refl))

-- a file that is all on the medium is seen as it is
pub holds_seen : (image : Image) (flat : ℕ → List ℕ) (d : Content) → HoldsFlat image flat d → SeenFlat image flat d
holds_seen image flat d holds = record {
  file = holds.file;
  there = holds.there;
  size = holds.size;
  settled = holds.settled;
  sectors = λ k. ap (λ ls. unwrap_or (own_of 1 k ls) (holds.file.stable k)) holds.synced ∙ holds.sectors k;
  alone = holds.alone;
}

-- the front of the room is what was read
pub reads_front : (r : Result (Unit {0}) Refusal) (R : Refusal → Type 0) (at count : ℕ) (flat : ℕ → List ℕ) (part rest : List ℕ) → length part ≡ count
    → MatchResult r (λ _. ReadsFlat at flat part) R → MatchResult r (λ _. ReadsFlat at flat (take count (part ++ rest))) R
reads_front r R at count flat part rest long h =
    let front : part ≡ take count (part ++ rest) = sym (take-append_seam part rest) ∙ ap (λ n. take n (part ++ rest)) long in
    subst (λ (xs : List ℕ). MatchResult r (λ _. ReadsFlat at flat xs) R) front h

pub front_read : (r : Result (Unit {0}) Refusal) (before after : Option Content) (host count : ℕ) (place : Place) (at : ℕ) (part rest : List ℕ) → length part ≡ count
    → MatchResult r (λ _. Told before after (λ d e. IsSame d e × ReadsFile d host place at part)) (λ _. Told before after IsSame)
    → MatchResult r (λ _. Told before after (λ d e. IsSame d e × ReadsFile d host place at (take count (part ++ rest)))) (λ _. Told before after IsSame)
front_read r before after host count place at part rest long h =
    let front : part ≡ take count (part ++ rest) = sym (take-append_seam part rest) ∙ ap (λ n. take n (part ++ rest)) long in
    subst (λ (xs : List ℕ). MatchResult r (λ _. Told before after (λ d e. IsSame d e × ReadsFile d host place at xs)) (λ _. Told before after IsSame)) front h

-- The disk holds what is needed for what is due.
abbrev pub Fits : Stage → Act → Type 0
Fits stage due = (flat : ℕ → List ℕ) (d : Content) → Stands stage flat d → StandsFor due flat d

fits_as : (stage : Stage) (b : Bool) (x due : Act) → Fits stage x → (if b then Some x else None) ≡ Some due → Fits stage due
fits_as stage true x due fits is = let e : x ≡ due = cc in subst (Fits stage) e fits
fits_as stage false x due fits is = absurd (cc)

act_fits : (stage : Stage) (asked : Request) (due : Act) → act_of stage asked ≡ Some due → Fits stage due
act_fits Off request.Boot due is = fits_as Off true act.Boot due (λ flat d h. h) is
act_fits Up (request.MakePool sd) due is = fits_as Up true (act.MakePool sd) due (λ flat d h. h) is
act_fits (Pooled known) (request.SpmStart sd) due is = fits_as (Pooled known) (same_id sd known) (act.SpmStart known) due (λ flat d h. h) is
act_fits (Managed known) (request.Create image) due is =
    fits_as (Managed known) (same_id image.sd known) (act.Create (record image { sd = known })) due (λ flat d h. h) is
act_fits (Created known) (request.Open sd image) due is =
    fits_as (Created known) (same_id sd known.sd && same_id image known.image) (act.Open known) due (λ flat d h. h) is
act_fits (Opened known) (request.Write sd image at) due is =
    fits_as (Opened known) (same_id sd known.sd && same_id image known.image) (act.Write known at) due (λ flat d h. h) is
act_fits (Opened known) (request.Read sd image at count) due is =
    fits_as (Opened known) (same_id sd known.sd && same_id image known.image) (act.Read known at count) due (λ flat d h. h) is
act_fits _ _ due is = absurd (cc)

-- the act of what is due
abbrev act_in : Act → Result Due Refusal → Act
act_in other (Ok due) = due.0
act_in other (Err refusal) = other

due_is : (found : Option Act) (written : List ℕ) (due : Act) (bytes : List ℕ) → due_by found written ≡ Ok (due, bytes) → found ≡ Some due
due_is None written due bytes is = absurd (cc)
due_is (Some x) written due bytes is = ap (λ r. Some (act_in x r)) is

-- what is due at a stage, for a line that may be refused
pub due_fits : (stage : Stage) (asked : Result Asked Refusal) (due : Act) (bytes : List ℕ) → due_of stage asked ≡ Ok (due, bytes) → Fits stage due
due_fits stage (Ok asked) due bytes is = act_fits stage asked.0 due (due_is (act_of stage asked.0) asked.1 due bytes is)
due_fits stage (Err refusal) due bytes is = absurd (cc)

pub answers_due : (s t : State) (asked : Result Asked Refusal) (due : Act) (bytes : List ℕ) (answer : Answer) → due_of s.stage asked ≡ Ok (due, bytes)
    → Acts s due bytes answer t → Answers s asked answer t
answers_due s t asked due bytes answer is h = rw is h

pub answers_refused : (s t : State) (asked : Result Asked Refusal) (refusal : Refusal) (answer : Answer) → due_of s.stage asked ≡ Err refusal
    → Refuses s refusal answer t → Answers s asked answer t
answers_refused s t asked refusal answer is h = rw is h

-- the folders of a domain are made for a `make-pool` of that domain alone
due_pool : (stage : Stage) (sd : Id) (due : Act) (bytes : List ℕ) → due_of stage (Ok (request.MakePool sd, [])) ≡ Ok (due, bytes) → due ≡ act.MakePool sd
due_pool Up sd due bytes is = sym (ap (act_in due) is)
due_pool Off sd due bytes is = absurd (cc)
due_pool (Pooled known) sd due bytes is = absurd (cc)
due_pool (Managed known) sd due bytes is = absurd (cc)
due_pool (Created known) sd due bytes is = absurd (cc)
due_pool (Opened known) sd due bytes is = absurd (cc)
due_pool (MakePoolStopped known) sd due bytes is = absurd (cc)
due_pool (CreateStopped known) sd due bytes is = absurd (cc)
due_pool (Stopped known) sd due bytes is = absurd (cc)

pub asked_pool : (stage : Stage) (asked : Result Asked Refusal) (sd : Id) (due : Act) (bytes : List ℕ) → asked ≡ Ok (request.MakePool sd, []) → due_of stage asked ≡ Ok (due, bytes) → due ≡ act.MakePool sd
asked_pool stage asked sd due bytes is found = due_pool stage sd due bytes (subst (λ (a : Result Asked Refusal). due_of stage a ≡ Ok (due, bytes)) is found)
