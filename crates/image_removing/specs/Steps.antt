-- What a removal knows, the call of each of its steps, and what it leaves.
use Rattle.std.specs.Prelude.{◌≡◌, ◌≢◌, ◌⊎◌, ℕ, false, Option, Some, None, Result, Err}
use Rattle.sd_names.specs.Place.{NameHasIds}
use Rattle.sd_names.specs.Turn.{MatchTurn}
use Rattle.sd_names.specs.declared.id.Id.{Id}
use Rattle.sd_names.specs.declared.place.Dir.{Dir}
use Rattle.sd_names.specs.declared.place.Dir.TheVariants as dir
use Rattle.sd_names.specs.declared.place.Name.{Name}
use Rattle.sd_names.specs.declared.place.Place.{Place}
use Rattle.sd_names.specs.declared.refusal.Refusal.TheVariants.{DiskFault}
use Rattle.sd_names.specs.declared.turn.Turn.TheVariants.{More, Done}
use Rattle.shared_disk.specs.Calls.{IsSame}
use Rattle.shared_disk.specs.Content.{Content}
use Rattle.shared_disk.specs.NameCalls.{IsNameAbove, MovesDir, NextName, Removes, RemovesDir, ShowsName}
use Rattle.shared_disk.specs.Step.{TurnFollows}
use Rattle.shared_disk.specs.declared.disk.DiskAnswer.{DiskAnswer}
use Rattle.shared_disk.specs.declared.disk.DiskAnswer.TheVariants.{NoFile}
use Rattle.image_removing.specs.Removing.{IsBehind, RemovalTurn, at_stage, met_stage, own_folder, own_place, removed_folder, removed_place, stage_of}
use Rattle.image_removing.specs.declared.removing.ImageRemoving.{ImageRemoving}
use Rattle.image_removing.specs.declared.removing.Pass.{Pass}
use Rattle.image_removing.specs.declared.removing.Pass.TheVariants.{Earlier, Moved}
use Rattle.image_removing.specs.declared.removing.Stage.{Stage}
use Rattle.image_removing.specs.declared.removing.Stage.TheVariants.{Listing, Removing, Ending, Moving}

-- ---- the calls

-- the next name of the removed folder; where the folder isn't there, nothing is to be removed in it
abbrev pub ListedBy : ImageRemoving → Pass → ℕ → Result (Option Name) DiskAnswer → RemovalTurn → Type 0
ListedBy r pass faults (Err NoFile) turn = IsBehind r pass turn
ListedBy r pass faults answer turn = TurnFollows answer faults turn (λ next. turn ≡ More (at_stage r (met_stage pass next)))

abbrev pub Lists : ImageRemoving → Pass → Option Name → ℕ → RemovalTurn → Content → Content → Type 0
Lists r pass after faults turn d e =
    (answer : Result (Option Name) DiskAnswer) × NextName d (removed_folder r) after answer e × ListedBy r pass faults answer turn

-- a file is removed, or was gone
abbrev pub RemovedBy : ImageRemoving → Pass → Name → ℕ → Result (Unit {0}) DiskAnswer → RemovalTurn → Type 0
RemovedBy r pass n faults (Err NoFile) turn = turn ≡ More (at_stage r (Listing pass (Some n)))
RemovedBy r pass n faults answer turn = TurnFollows answer faults turn (λ _. turn ≡ More (at_stage r (Listing pass (Some n))))

abbrev pub RemovesFile : ImageRemoving → Pass → Name → ℕ → RemovalTurn → Content → Content → Type 0
RemovesFile r pass n faults turn d e =
    (answer : Result (Unit {0}) DiskAnswer) × Removes d (removed_place r n) answer e × RemovedBy r pass n faults answer turn

-- the removed folder is removed, or was gone
abbrev pub EndedBy : ImageRemoving → Pass → ℕ → Result (Unit {0}) DiskAnswer → RemovalTurn → Type 0
EndedBy r pass faults (Err NoFile) turn = IsBehind r pass turn
EndedBy r pass faults answer turn = TurnFollows answer faults turn (λ _. IsBehind r pass turn)

abbrev pub Ends : ImageRemoving → Pass → ℕ → RemovalTurn → Content → Content → Type 0
Ends r pass faults turn d e =
    (answer : Result (Unit {0}) DiskAnswer) × RemovesDir d (removed_folder r) answer e × EndedBy r pass faults answer turn

-- the image's folder gets the removed name; where it isn't there, nothing is left to do
abbrev pub MovedBy : ImageRemoving → ℕ → Result (Unit {0}) DiskAnswer → RemovalTurn → Type 0
MovedBy r faults (Err NoFile) turn = turn ≡ Done tt
MovedBy r faults answer turn = TurnFollows answer faults turn (λ _. turn ≡ More (at_stage r (Listing Moved None)))

abbrev pub Moves : ImageRemoving → ℕ → RemovalTurn → Content → Content → Type 0
Moves r faults turn d e =
    (answer : Result (Unit {0}) DiskAnswer) × MovesDir d (own_folder r) (removed_folder r) answer e × MovedBy r faults answer turn

abbrev pub CallIn : Stage → ImageRemoving → ℕ → RemovalTurn → Content → Content → Type 0
CallIn (Listing pass after) r faults turn d e = Lists r pass after faults turn d e
CallIn (Removing pass n) r faults turn d e = RemovesFile r pass n faults turn d e
CallIn (Ending pass) r faults turn d e = Ends r pass faults turn d e
CallIn Moving r faults turn d e = Moves r faults turn d e

-- the call of a step, by its stage, whatever stands in the folders
abbrev pub CallOf : ImageRemoving → ℕ → RemovalTurn → Content → Content → Type 0
CallOf r faults turn d e = CallIn (stage_of r) r faults turn d e

-- ---- what is known, of the image's own folder and of the removed one

-- The identifiers of the names in both folders have sixteen bytes, as all of a program have.
abbrev pub HaveIds : Dir → Dir → Content → Type 0
HaveIds own removed d = (n : Name) → ShowsName d own n ⊎ ShowsName d removed n → NameHasIds n

-- the image's own folder isn't there, in the second pass
abbrev pub IsOwnGone : Pass → Dir → Content → Type 0
IsOwnGone Earlier own d = Unit {0}
IsOwnGone Moved own d = d.dir own ≡ false

-- each file that is left in the removed folder has a name above this one, or it is this one or above it
abbrev pub AreAbove : Dir → Option Name → Content → Type 0
AreAbove removed after d = (n : Name) → ShowsName d removed n → IsNameAbove after n

abbrev pub AreAboveBut : Dir → Name → Content → Type 0
AreAboveBut removed next d = (n : Name) → ShowsName d removed n → (n ≡ next) ⊎ IsNameAbove (Some next) n

-- no file is left in the removed folder
abbrev pub IsBare : Dir → Content → Type 0
IsBare removed d = (n : Name) → ShowsName d removed n → ⊥

-- what is known in each stage of the files and of the folders
abbrev pub IsReady : Stage → Dir → Dir → Content → Type 0
IsReady (Listing pass after) own removed d = AreAbove removed after d × IsOwnGone pass own d
IsReady (Removing pass n) own removed d = AreAboveBut removed n d × IsOwnGone pass own d
IsReady (Ending pass) own removed d = IsBare removed d × IsOwnGone pass own d
IsReady Moving own removed d = d.dir removed ≡ false

abbrev pub KnowsIn : Stage → Dir → Dir → Content → Type 0
KnowsIn s own removed d = HaveIds own removed d × IsReady s own removed d

-- Before the first step this says of the identifiers alone.
abbrev pub Knows : ImageRemoving → Content → Type 0
Knows r d = KnowsIn (stage_of r) (own_folder r) (removed_folder r) d

-- ---- what is left

-- the image has no folder, under either name
pub record IsGone (sd image : Id) (d : Content) : Type 0 where
  pub own : d.dir (dir.Image sd image) ≡ false
  pub removed : d.dir (dir.Removed sd image) ≡ false

-- a file of the image's own folder stays or is gone
abbrev pub IsOwnLeft : ImageRemoving → Name → Content → Content → Type 0
IsOwnLeft r n d e = (e.file (own_place r n) ≡ d.file (own_place r n)) ⊎ (e.file (own_place r n) ≡ None)

-- one of the removed folder stays, is gone, or is what stood in the image's own
abbrev pub IsRemovedLeft : ImageRemoving → Name → Content → Content → Type 0
IsRemovedLeft r n d e =
    (e.file (removed_place r n) ≡ d.file (removed_place r n))
    ⊎ ((e.file (removed_place r n) ≡ None) ⊎ ((e.file (removed_place r n) ≡ d.file (own_place r n)) × (e.file (own_place r n) ≡ None)))

abbrev pub After : ImageRemoving → ℕ → RemovalTurn → Content → Type 0
After r faults turn e = MatchTurn turn
    (λ next. Knows next e)
    (λ _. IsGone r.sd r.image e)
    (λ _ refusal. refusal ≡ DiskFault faults)

-- A step changes nothing but the image's two folders and their files, of which it removes or moves some; and nothing at all
-- where the image has no folder.
pub record LeavesIn (s : Stage) (r : ImageRemoving) (faults : ℕ) (turn : RemovalTurn) (d e : Content) : Type 0 where
  pub dirs : (q : Dir) → q ≢ own_folder r → q ≢ removed_folder r → e.dir q ≡ d.dir q
  pub others : (q : Place) → q.dir ≢ own_folder r → q.dir ≢ removed_folder r → e.file q ≡ d.file q
  pub own : (n : Name) → IsOwnLeft r n d e
  pub removed : (n : Name) → IsRemovedLeft r n d e
  pub idle : IsGone r.sd r.image d → IsSame d e
  pub after : KnowsIn s (own_folder r) (removed_folder r) d → After r faults turn e

abbrev pub Removal : ImageRemoving → ℕ → RemovalTurn → Content → Content → Type 0
Removal r faults turn d e = LeavesIn (stage_of r) r faults turn d e
