-- What a making knows, what each of its steps asks the disk, and what it leaves.
use Rattle.std.specs.Prelude.{◌≡◌, ℕ, ◌+◌, ◌-◌, ◌^◌, ◌<◌, min, true, List, Option, Some, None, Result, Ok, Err}
use Rattle.sd_names.specs.Turn.{MatchTurn}
use Rattle.sd_names.specs.declared.id.Id.{Id}
use Rattle.sd_names.specs.declared.place.Dir.{Dir}
use Rattle.sd_names.specs.declared.place.Dir.TheVariants as dir
use Rattle.sd_names.specs.declared.place.Place.{Place}
use Rattle.sd_names.specs.declared.refusal.Refusal.{Refusal}
use Rattle.sd_names.specs.declared.refusal.Refusal.TheVariants.{DiskFault, DomainExists, PoolExists}
use Rattle.sd_names.specs.declared.turn.Turn.{Turn}
use Rattle.sd_names.specs.declared.turn.Turn.TheVariants.{More, Done, Ended}
use Rattle.shared_disk.specs.Calls.{Creates, HasLength, IsSame, MakesDir, Syncs, created}
use Rattle.shared_disk.specs.Content.{Content}
use Rattle.shared_disk.specs.NameCalls.{NextDir, Removes, ShowsDir}
use Rattle.shared_disk.specs.Step.{GoesOn, TurnFollows}
use Rattle.shared_disk.specs.declared.disk.DiskAnswer.{DiskAnswer}
use Rattle.shared_disk.specs.declared.disk.DiskAnswer.TheVariants.{NoFile, Exists}
use Rattle.whole_file.specs.Replace.{CallOf as ReplaceCall, IsSameReplace, Knows as KnowsReplace, Steps as ReplaceSteps, stage_of as replace_stage, target_of, volatile_of}
use Rattle.whole_file.specs.declared.replace.Replace.{Replace}
use Rattle.pool_making.specs.Layout.{IsOwn, IsOwnDir, area_after, area_place, area_size, folder_after, folder_of, metadata_new_of, metadata_of}
use Rattle.pool_making.specs.Listing.{HaveNoneBelow, HaveNoneTo, IsLeastPool, ListsAtMost}
use Rattle.pool_making.specs.Making.{IsAt, IsBehindArea, behind_folder, domain_of, left_of, record_of, stage_of, text_of}
use Rattle.pool_making.specs.Pool.{IsDomain, IsNoneOrWholeOnEach, IsPart, area_rank, folder_rank}
use Rattle.pool_making.specs.declared.layout.Area.{Area}
use Rattle.pool_making.specs.declared.layout.Folder.{Folder}
use Rattle.pool_making.specs.declared.layout.Folder.TheVariants as folder
use Rattle.pool_making.specs.declared.making.MakePool.{MakePool}
use Rattle.pool_making.specs.declared.making.Stage.{Stage}
use Rattle.pool_making.specs.declared.making.Stage.TheVariants.{Listing, Checking, Searching, Making, Clearing, Creating, Syncing, Writing}

-- what is known while the text is written
pub record IsWriting (sd : Id) (text : List ℕ) (host : ℕ) (r : Replace) (d : Content) : Type 0 where
  pub part : IsPart sd 5 3 d
  pub target : target_of r ≡ metadata_of sd
  pub volatile : volatile_of r ≡ metadata_new_of sd
  pub replace : KnowsReplace r host text d

-- what is known of the folder, by the stage
abbrev pub IsReady : Stage → Id → List ℕ → ℕ → Content → Type 0
IsReady (Listing after) sd text host d = HaveNoneTo after d
IsReady (Checking q) sd text host d = HaveNoneBelow q d
IsReady Searching sd text host d = d.file (metadata_of sd) ≡ None
IsReady (Making f) sd text host d = IsPart sd (folder_rank f) 0 d
IsReady (Clearing a) sd text host d = IsPart sd 5 (area_rank a) d
IsReady (Creating a) sd text host d = IsPart sd 5 (area_rank a) d × (d.file (area_place sd a) ≡ None)
IsReady (Syncing a) sd text host d = IsPart sd 5 (area_rank a) d × (d.file (area_place sd a) ≡ Some (created host (area_size a)))
IsReady (Writing r) sd text host d = IsWriting sd text host r d

abbrev pub Knows : MakePool → ℕ → Content → Type 0
Knows m host d = IsReady (stage_of m) (domain_of m) (text_of m) host d

-- Nothing but the domain's own folders and files has changed, and each folder is there still.
pub record IsApart (sd : Id) (d e : Content) : Type 0 where
  pub dirs : (q : Dir) → (IsOwnDir sd q → ⊥) → e.dir q ≡ d.dir q
  pub kept : (q : Dir) → d.dir q ≡ true → e.dir q ≡ true
  pub files : (q : Place) → (IsOwn sd q → ⊥) → e.file q ≡ d.file q

-- While it lists, nothing changes; from then on the domain doesn't count or is there whole, on each outcome.
abbrev pub Counts : Stage → Id → List ℕ → Content → Content → Type 0
Counts (Listing after) sd text d e = IsSame d e
Counts (Checking q) sd text d e = IsSame d e
Counts _ sd text d e = IsNoneOrWholeOnEach sd text e

-- what a refusal tells; none but these comes, and 120 with the disk's count of faults
abbrev pub IsRefused : Refusal → Id → ℕ → Content → Type 0
IsRefused (PoolExists q) sd faults d = IsLeastPool q d
IsRefused DomainExists sd faults d = (q : Dir) × ShowsDir d (dir.Images sd) q
IsRefused refusal sd faults d = refusal ≡ DiskFault faults

-- what a turn tells
abbrev pub After : Turn MakePool (Unit {0}) (Unit {0}) → MakePool → ℕ → ℕ → Content → Content → Type 0
After (More next) m host faults d e = Knows next host e
After (Done _) m host faults d e = IsDomain (domain_of m) (text_of m) e
After (Ended _ refusal) m host faults d e = IsRefused refusal (domain_of m) faults d

-- What a step leaves of a folder of which the making knows what its stage says.
pub record MakeSteps (m : MakePool) (host faults : ℕ) (turn : Turn MakePool (Unit {0}) (Unit {0})) (d e : Content) : Type 0 where
  pub apart : IsApart (domain_of m) d e
  pub counts : Counts (stage_of m) (domain_of m) (text_of m) d e
  pub after : After turn m host faults d e

-- the next folder under the root: it is looked at, or none is left
abbrev pub ListedBy : MakePool → Option Dir → Turn MakePool (Unit {0}) (Unit {0}) → Type 0
ListedBy m None turn = GoesOn (IsAt m Searching) turn
ListedBy m (Some (dir.Domain q)) turn = GoesOn (IsAt m (Checking q)) turn
ListedBy m (Some q) turn = GoesOn (IsAt m (Listing (Some q))) turn

abbrev pub Lists : MakePool → Option Dir → ℕ → Turn MakePool (Unit {0}) (Unit {0}) → Content → Content → Type 0
Lists m after faults turn d e =
    (answer : Result (Option Dir) DiskAnswer) × NextDir d dir.Root after answer e × TurnFollows answer faults turn (λ next. ListedBy m next turn)

-- a text in the folder of a domain: the pool is there already; without one, the listing goes on behind it
abbrev pub CheckedBy : MakePool → Id → ℕ → Result ℕ DiskAnswer → Turn MakePool (Unit {0}) (Unit {0}) → Type 0
CheckedBy m q faults (Err NoFile) turn = GoesOn (IsAt m (Listing (Some (dir.Domain q)))) turn
CheckedBy m q faults answer turn = TurnFollows answer faults turn (λ _. turn ≡ Ended tt (PoolExists q))

abbrev pub Checks : MakePool → Id → ℕ → Turn MakePool (Unit {0}) (Unit {0}) → Content → Content → Type 0
Checks m q faults turn d e = (answer : Result ℕ DiskAnswer) × HasLength d (metadata_of q) answer e × CheckedBy m q faults answer turn

-- the images of the domain: none may have a folder
abbrev pub SearchedBy : MakePool → ℕ → Result (Option Dir) DiskAnswer → Turn MakePool (Unit {0}) (Unit {0}) → Type 0
SearchedBy m faults (Err NoFile) turn = GoesOn (IsAt m (Making folder.Domain)) turn
SearchedBy m faults (Ok None) turn = GoesOn (IsAt m (Making folder.Domain)) turn
SearchedBy m faults answer turn = TurnFollows answer faults turn (λ _. turn ≡ Ended tt DomainExists)

abbrev pub Searches : MakePool → ℕ → Turn MakePool (Unit {0}) (Unit {0}) → Content → Content → Type 0
Searches m faults turn d e =
    (answer : Result (Option Dir) DiskAnswer) × NextDir d (dir.Images (domain_of m)) None answer e × SearchedBy m faults answer turn

-- a folder is made, or was there
abbrev pub MadeBy : MakePool → Folder → ℕ → Result (Unit {0}) DiskAnswer → Turn MakePool (Unit {0}) (Unit {0}) → Type 0
MadeBy m f faults (Err Exists) turn = GoesOn (IsAt m (behind_folder (folder_after f))) turn
MadeBy m f faults answer turn = TurnFollows answer faults turn (λ _. GoesOn (IsAt m (behind_folder (folder_after f))) turn)

abbrev pub Makes : MakePool → Folder → ℕ → Turn MakePool (Unit {0}) (Unit {0}) → Content → Content → Type 0
Makes m f faults turn d e = (answer : Result (Unit {0}) DiskAnswer) × MakesDir d (folder_of (domain_of m) f) answer e × MadeBy m f faults answer turn

-- what an earlier attempt left is removed, or there was nothing
abbrev pub ClearedBy : MakePool → Area → ℕ → Result (Unit {0}) DiskAnswer → Turn MakePool (Unit {0}) (Unit {0}) → Type 0
ClearedBy m a faults (Err NoFile) turn = GoesOn (IsAt m (Creating a)) turn
ClearedBy m a faults answer turn = TurnFollows answer faults turn (λ _. GoesOn (IsAt m (Creating a)) turn)

abbrev pub Clears : MakePool → Area → ℕ → Turn MakePool (Unit {0}) (Unit {0}) → Content → Content → Type 0
Clears m a faults turn d e = (answer : Result (Unit {0}) DiskAnswer) × Removes d (area_place (domain_of m) a) answer e × ClearedBy m a faults answer turn

-- a file of zeros is made, and put onto the medium
abbrev pub CreatesArea : MakePool → Area → ℕ → ℕ → Turn MakePool (Unit {0}) (Unit {0}) → Content → Content → Type 0
CreatesArea m a host faults turn d e =
    (answer : Result (Unit {0}) DiskAnswer) × Creates d host (area_place (domain_of m) a) (area_size a) answer e
    × TurnFollows answer faults turn (λ _. GoesOn (IsAt m (Syncing a)) turn)

-- the same making, behind a file that was put onto the medium
abbrev pub IsBehind : MakePool → Area → MakePool → Type 0
IsBehind m a next = (record_of next ≡ record_of m) × IsBehindArea m (area_after a) (stage_of next)

abbrev pub SyncsArea : MakePool → Area → ℕ → ℕ → Turn MakePool (Unit {0}) (Unit {0}) → Content → Content → Type 0
SyncsArea m a host faults turn d e =
    (answer : Result (Unit {0}) DiskAnswer) × Syncs d host (area_place (domain_of m) a) answer e
    × TurnFollows answer faults turn (λ _. GoesOn (IsBehind m a) turn)

-- a replacement that goes on is one of the same file, which is as it was
abbrev pub IsKept : Replace → Turn Replace (Unit {0}) (Unit {0}) → Content → Content → Type 0
IsKept r step d e = MatchTurn step (λ next. IsSameReplace r next × (e.file (target_of r) ≡ d.file (target_of r))) (λ _. Unit {0}) (λ _ _. Unit {0})

-- a turn of a making that writes its text, as one of the replacement
abbrev pub IsWritten : MakePool → Turn Replace (Unit {0}) (Unit {0}) → Turn MakePool (Unit {0}) (Unit {0}) → Type 0
IsWritten m (More r) turn = GoesOn (IsAt m (Writing r)) turn
IsWritten m (Done _) turn = turn ≡ Done tt
IsWritten m (Ended _ refusal) turn = turn ≡ Ended tt refusal

-- a step of the replacement that gives the domain its text, the last of which is the rename
abbrev pub WritesText : MakePool → Replace → ℕ → ℕ → Turn MakePool (Unit {0}) (Unit {0}) → Content → Content → Type 0
WritesText m r host faults turn d e =
    (step : Turn Replace (Unit {0}) (Unit {0})) × ReplaceCall (replace_stage r) r host faults (text_of m) step d e × IsWritten m step turn

-- the same step, where the replacement knows what its stage says
abbrev pub StepsText : MakePool → Replace → ℕ → ℕ → Turn MakePool (Unit {0}) (Unit {0}) → Content → Content → Type 0
StepsText m r host faults turn d e =
    (step : Turn Replace (Unit {0}) (Unit {0})) × ReplaceSteps r host faults (text_of m) step d e × IsKept r step d e × IsWritten m step turn

-- The call of a step, by its stage, whatever stands in the folder: some answer that fits the call, and the turn that follows.
abbrev pub CallOf : Stage → MakePool → ℕ → ℕ → Turn MakePool (Unit {0}) (Unit {0}) → Content → Content → Type 0
CallOf (Listing after) m host faults turn d e = Lists m after faults turn d e
CallOf (Checking q) m host faults turn d e = Checks m q faults turn d e
CallOf Searching m host faults turn d e = Searches m faults turn d e
CallOf (Making f) m host faults turn d e = Makes m f faults turn d e
CallOf (Clearing a) m host faults turn d e = Clears m a faults turn d e
CallOf (Creating a) m host faults turn d e = CreatesArea m a host faults turn d e
CallOf (Syncing a) m host faults turn d e = SyncsArea m a host faults turn d e
CallOf (Writing r) m host faults turn d e = WritesText m r host faults turn d e

-- the folders that are still to be listed, at most
abbrev pub IsMost : Stage → ℕ → Content → Type 0
IsMost (Listing after) n d = ListsAtMost n d after
IsMost (Checking q) n d = ListsAtMost n d (Some (dir.Domain q))
IsMost _ n d = Unit {0}

-- Where at most so many folders are still to be listed, fewer steps are left than were.
abbrev pub Falls : MakePool → Turn MakePool (Unit {0}) (Unit {0}) → Content → Content → Type 0
Falls m turn d e =
    (n : ℕ) → IsMost (stage_of m) n d
    → MatchTurn turn
    (λ next. (k : ℕ) × IsMost (stage_of next) k e × (left_of k (stage_of next) < left_of n (stage_of m)))
    (λ _. 0 < left_of n (stage_of m))
    (λ _ _. 0 < left_of n (stage_of m))
