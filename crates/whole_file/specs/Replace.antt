-- What a replacement of a file's text knows, and what each of its steps leaves.
use Rattle.std.specs.Prelude.{◌≡◌, ◌≢◌, ◌⊎◌, ℕ, ◌==◌, true, List, length, Some, None, Result, Err, MatchBool}
use Rattle.sd_names.specs.declared.place.Dir.{Dir}
use Rattle.sd_names.specs.declared.place.Place.{Place}
use Rattle.sd_names.specs.declared.refusal.Refusal.TheVariants.{DiskFault}
use Rattle.sd_names.specs.declared.turn.Turn.{Turn}
use Rattle.sd_names.specs.declared.turn.Turn.TheVariants.{More, Done, Ended}
use Rattle.shared_disk.specs.Content.{Content, File}
use Rattle.shared_disk.specs.Calls.{Creates, Syncs, WriteAt, created, wrote}
use Rattle.shared_disk.specs.Crash.{IsAlone, IsOutcome}
use Rattle.shared_disk.specs.NameCalls.{Removes, Renames, place_in}
use Rattle.shared_disk.specs.Step.{GoesOn, TurnFollows}
use Rattle.shared_disk.specs.declared.disk.DiskAnswer.{DiskAnswer}
use Rattle.shared_disk.specs.declared.disk.DiskAnswer.TheVariants.{NoFile}
use Rattle.whole_file.specs.Text.{HasText, padded, sectors_for}
use Rattle.whole_file.specs.declared.replace.Replace.{Replace}
use Rattle.whole_file.specs.declared.replace.Stage.{Stage}
use Rattle.whole_file.specs.declared.replace.Stage.TheVariants.{Begun, Cleared, Created, Written, Synced}

-- a replacement: of which file, by way of which name in its folder, by a text of how many bytes, and how far it is
abbrev pub target_of : Replace → Place
target_of r = r.target

abbrev pub volatile_of : Replace → Place
volatile_of r = place_in r.target.dir r.volatile

abbrev pub length_of : Replace → ℕ
length_of r = r.length

abbrev pub stage_of : Replace → Stage
stage_of r = r.stage

-- what is known of the volatile file, by the stage
abbrev pub IsReady : Stage → ℕ → List ℕ → Place → Content → Type 0
IsReady Begun host text volatile d = Unit {0}
IsReady Cleared host text volatile d = d.file volatile ≡ None
IsReady Created host text volatile d = d.file volatile ≡ Some (created host (sectors_for (length text)))
IsReady Written host text volatile d = d.file volatile ≡ Some (wrote (λ _. true) host 0 (padded text) (created host (sectors_for (length text))))
IsReady Synced host text volatile d = HasText d volatile text

-- what is known of the folder: it is there, and what is known of the volatile file in it
pub record Knows (r : Replace) (host : ℕ) (text : List ℕ) (d : Content) : Type 0 where
  pub folder : d.dir (target_of r).dir ≡ true
  pub ready : IsReady (stage_of r) host text (volatile_of r) d

-- the target is as it was, or it has the text
abbrev pub IsOldOrNew : Place → List ℕ → Content → Content → Type 0
IsOldOrNew target text d e = (e.file target ≡ d.file target) ⊎ HasText e target text

-- What crashes may leave at a place of the second folder: what they may leave there of the first one, or the text.
abbrev pub IsOldOrNewOnEach : Place → List ℕ → Content → Content → Type 0
IsOldOrNewOnEach target text d e =
    (o : Content) → IsOutcome e o → ((p : Content) × IsOutcome d p × (o.file target ≡ p.file target)) ⊎ HasText o target text

-- all but the target and the volatile file is as it was
pub record IsApart (target volatile : Place) (d e : Content) : Type 0 where
  pub dirs : (q : Dir) → e.dir q ≡ d.dir q
  pub files : (q : Place) → q ≢ target → q ≢ volatile → e.file q ≡ d.file q

-- What may stand under the volatile name after a refusal: what stood there before, nothing, or a file in which no other
-- host has anything unsynced.
abbrev pub IsLeft : ℕ → Place → Content → Content → Type 0
IsLeft host volatile d e = (e.file volatile ≡ d.file volatile) ⊎ ((e.file volatile ≡ None) ⊎ ((f : File) × (e.file volatile ≡ Some f) × IsAlone host f))

-- What a step's turn tells; `faults` is the disk's count after the step. No refusal but the fault of the disk can come.
abbrev pub After : Turn Replace (Unit {0}) (Unit {0}) → Replace → ℕ → ℕ → List ℕ → Content → Content → Type 0
After (More next) r host faults text d e = Knows next host text e
After (Done _) r host faults text d e = HasText e (target_of r) text × (e.file (volatile_of r) ≡ None)
After (Ended _ refusal) r host faults text d e = (refusal ≡ DiskFault faults) × IsLeft host (volatile_of r) d e

-- What a step leaves of a folder of which the replacement knows what its stage says.
pub record Steps (r : Replace) (host faults : ℕ) (text : List ℕ) (turn : Turn Replace (Unit {0}) (Unit {0})) (d e : Content) : Type 0 where
  pub apart : IsApart (target_of r) (volatile_of r) d e
  pub target : IsOldOrNew (target_of r) text d e
  pub outcomes : IsOldOrNewOnEach (target_of r) text d e
  pub after : After turn r host faults text d e

-- a replacement of the same file, by the same way and a text of the same length
pub record IsSameReplace (r next : Replace) : Type 0 where
  pub target : target_of next ≡ target_of r
  pub volatile : volatile_of next ≡ volatile_of r
  pub length : length_of next ≡ length_of r

-- the same replacement in another stage
pub record IsAt (r : Replace) (stage : Stage) (next : Replace) : Type 0 where
  pub same : IsSameReplace r next
  pub now_in : stage_of next ≡ stage

-- how many more steps a replacement takes at the most
abbrev pub left_of : Stage → ℕ
left_of Begun = 5
left_of Cleared = 4
left_of Created = 3
left_of Written = 2
left_of Synced = 1

abbrev pub replace_left : Replace → ℕ
replace_left r = left_of (stage_of r)

-- the answer of a step's call decides its turn: Ok leads to a stage
abbrev pub LeadsTo : Stage → Replace → ℕ → Result (Unit {0}) DiskAnswer → Turn Replace (Unit {0}) (Unit {0}) → Type 0
LeadsTo stage r faults answer turn = TurnFollows answer faults turn (λ _. GoesOn (IsAt r stage) turn)

-- a leftover file is removed, or there was none
abbrev pub ClearedBy : Replace → ℕ → Result (Unit {0}) DiskAnswer → Turn Replace (Unit {0}) (Unit {0}) → Type 0
ClearedBy r faults (Err NoFile) turn = GoesOn (IsAt r Cleared) turn
ClearedBy r faults answer turn = LeadsTo Cleared r faults answer turn

-- the step of each stage: one call, whose answer decides the turn
abbrev pub Clears : Replace → ℕ → Turn Replace (Unit {0}) (Unit {0}) → Content → Content → Type 0
Clears r faults turn d e = (answer : Result (Unit {0}) DiskAnswer) × Removes d (volatile_of r) answer e × ClearedBy r faults answer turn

abbrev pub Makes : Replace → ℕ → ℕ → Turn Replace (Unit {0}) (Unit {0}) → Content → Content → Type 0
Makes r host faults turn d e =
    (answer : Result (Unit {0}) DiskAnswer) × Creates d host (volatile_of r) (sectors_for (length_of r)) answer e × LeadsTo Created r faults answer turn

abbrev pub Writes : Replace → ℕ → ℕ → List ℕ → Turn Replace (Unit {0}) (Unit {0}) → Content → Content → Type 0
Writes r host faults text turn d e =
    (answer : Result (Unit {0}) DiskAnswer) × WriteAt d host (volatile_of r) 0 (padded text) answer e × LeadsTo Written r faults answer turn

abbrev pub SyncsText : Replace → ℕ → ℕ → Turn Replace (Unit {0}) (Unit {0}) → Content → Content → Type 0
SyncsText r host faults turn d e =
    (answer : Result (Unit {0}) DiskAnswer) × Syncs d host (volatile_of r) answer e × LeadsTo Synced r faults answer turn

abbrev pub TakesName : Replace → ℕ → Turn Replace (Unit {0}) (Unit {0}) → Content → Content → Type 0
TakesName r faults turn d e =
    (answer : Result (Unit {0}) DiskAnswer) × Renames d (volatile_of r) (target_of r).name answer e × TurnFollows answer faults turn (λ _. turn ≡ Done tt)

-- The call of a step, by its stage, whatever stands in the folder: some answer that fits the call, and the turn that
-- follows from it. A text of no bytes isn't written.
abbrev pub CallOf : Stage → Replace → ℕ → ℕ → List ℕ → Turn Replace (Unit {0}) (Unit {0}) → Content → Content → Type 0
CallOf Begun r host faults text turn d e = Clears r faults turn d e
CallOf Cleared r host faults text turn d e = Makes r host faults turn d e
CallOf Created r host faults text turn d e = MatchBool (length_of r == 0) (SyncsText r host faults turn d e) (Writes r host faults text turn d e)
CallOf Written r host faults text turn d e = SyncsText r host faults turn d e
CallOf Synced r host faults text turn d e = TakesName r faults turn d e
