-- A tidying between its steps, the call that each makes, and what it leaves.
use Rattle.std.specs.Prelude.{◌≡◌, ◌⊎◌, ℕ, ◌+◌, ◌<◌, ◌≤◌, true, Option, Some, None, Result, Ok, Err}
use Rattle.sd_names.specs.Place.{NameHasIds}
use Rattle.sd_names.specs.Turn.{MatchTurn}
use Rattle.sd_names.specs.declared.place.Dir.{Dir}
use Rattle.sd_names.specs.declared.place.Name.{Name}
use Rattle.sd_names.specs.declared.place.Place.{Place}
use Rattle.sd_names.specs.declared.refusal.Refusal.TheVariants.{DiskFault}
use Rattle.sd_names.specs.declared.turn.Turn.{Turn}
use Rattle.sd_names.specs.declared.turn.Turn.TheVariants.{More, Done}
use Rattle.shared_disk.specs.Content.{Content, File}
use Rattle.shared_disk.specs.NameCalls.{IsNameAbove, NextName, Removes, place_in}
use Rattle.shared_disk.specs.Step.{TurnFollows}
use Rattle.shared_disk.specs.declared.disk.DiskAnswer.{DiskAnswer}
use Rattle.shared_disk.specs.declared.disk.DiskAnswer.TheVariants.{NoFile}
use Rattle.settling_steps.specs.Names.{name_of, price, temporary_name}
use Rattle.settling_steps.specs.declared.leftovers.Stage.{Stage}
use Rattle.settling_steps.specs.declared.leftovers.Stage.TheVariants.{Listing, Removing}
use Rattle.settling_steps.specs.declared.leftovers.Tidying.{Tidying}
use Rattle.settling_steps.specs.declared.names.Temporary.{Temporary}

abbrev pub TidyTurn : Type 0
TidyTurn = Turn Tidying (Unit {0}) (Unit {0})

-- a tidying: of which folder, and how far it is
abbrev pub folder_of : Tidying → Dir
folder_of t = t.dir

abbrev pub stage_of : Tidying → Stage
stage_of t = t.stage

abbrev pub at_stage : Tidying → Stage → Tidying
at_stage t s = record t { stage = s }

-- ---- the calls

-- a temporary name is removed, and any other one is passed
abbrev pub met_stage : Name → Option Temporary → Stage
met_stage n None = Listing (Some n)
met_stage n (Some o) = Removing o

abbrev pub ListedNext : Tidying → TidyTurn → Option Name → Type 0
ListedNext t turn None = turn ≡ Done tt
ListedNext t turn (Some n) = NameHasIds n × (turn ≡ More (at_stage t (met_stage n (temporary_name n))))

-- a listing is one call, whose answer decides the turn
abbrev pub Lists : Tidying → Option Name → ℕ → TidyTurn → Content → Content → Type 0
Lists t after faults turn d e = (answer : Result (Option Name) DiskAnswer) × NextName d t.dir after answer e × TurnFollows answer faults turn (ListedNext t turn)

-- a name is removed, or was gone
abbrev pub RemovedBy : Tidying → Temporary → ℕ → Result (Unit {0}) DiskAnswer → TidyTurn → Type 0
RemovedBy t o faults (Err NoFile) turn = turn ≡ More (at_stage t (Listing (Some (name_of o))))
RemovedBy t o faults answer turn = TurnFollows answer faults turn (λ _. turn ≡ More (at_stage t (Listing (Some (name_of o)))))

abbrev pub RemovesName : Tidying → Temporary → ℕ → TidyTurn → Content → Content → Type 0
RemovesName t o faults turn d e = (answer : Result (Unit {0}) DiskAnswer) × Removes d (place_in t.dir (name_of o)) answer e × RemovedBy t o faults answer turn

abbrev pub CallIn : Stage → Tidying → ℕ → TidyTurn → Content → Content → Type 0
CallIn (Listing after) t faults turn d e = Lists t after faults turn d e
CallIn (Removing o) t faults turn d e = RemovesName t o faults turn d e

-- the call of a step, by its stage, whatever stands in the folder
abbrev pub CallOf : Tidying → ℕ → TidyTurn → Content → Content → Type 0
CallOf t faults turn d e = CallIn t.stage t faults turn d e

-- ---- on every disk

-- the steps that are left, `cost after` being what the names above `after` cost
abbrev pub left_of : (Option Name → ℕ) → Stage → ℕ
left_of cost (Listing after) = cost after + 1
left_of cost (Removing o) = cost (Some (name_of o)) + 2

abbrev pub steps_left : (Option Name → ℕ) → Tidying → ℕ
steps_left cost t = left_of cost t.stage

-- where a step lists a name, this holds of the name before it and of that one
abbrev pub MeetsAt : (Option Name → Option Name → Type 0) → Stage → Stage → Type 0
MeetsAt R (Listing before) (Listing after) = R before after
MeetsAt R (Listing before) (Removing o) = R before (Some (name_of o))
MeetsAt R (Removing o) next = Unit {0}

abbrev pub MeetsIn : (Option Name → Option Name → Type 0) → Stage → TidyTurn → Type 0
MeetsIn R s turn = MatchTurn turn (λ next. MeetsAt R s next.stage) (λ _. Unit {0}) (λ _ _. Unit {0})

abbrev pub Meets : (Option Name → Option Name → Type 0) → Tidying → TidyTurn → Type 0
Meets R t turn = MeetsIn R t.stage turn

-- the name that is listed is above the one before it
abbrev pub IsRise : Option Name → Option Name → Type 0
IsRise before None = ⊥
IsRise before (Some n) = IsNameAbove before n

-- what the names above it cost, and it itself, the names above the one before it cost too
abbrev pub IsPaid : (Option Name → ℕ) → Option Name → Option Name → Type 0
IsPaid cost before None = ⊥
IsPaid cost before (Some n) = cost (Some n) + price n ≤ cost before

-- It is of the same folder, and fewer steps are left where the name that was listed is paid for.
pub record IsNearer (cost : Option Name → ℕ) (t : Tidying) (s : Stage) (next : Tidying) : Type 0 where
  pub folder : folder_of next ≡ folder_of t
  pub falls : MeetsAt (IsPaid cost) s next.stage → steps_left cost next < left_of cost s

abbrev pub NearsIn : Tidying → Stage → TidyTurn → Type 0
NearsIn t s turn = (cost : Option Name → ℕ) → MatchTurn turn (IsNearer cost t s) (λ _. 0 < left_of cost s) (λ _ _. 0 < left_of cost s)

abbrev pub Nears : Tidying → TidyTurn → Type 0
Nears t turn = NearsIn t t.stage turn

-- ---- where the content is told

-- the place of a temporary text
abbrev pub temporary_in : Dir → Temporary → Place
temporary_in dir o = place_in dir (name_of o)

abbrev pub IsLeftOver : Dir → Temporary → Content → Type 0
IsLeftOver dir o d = (f : File) × (d.file (temporary_in dir o) ≡ Some f)

-- What is known of a folder that is tidied: it is there, and the identifiers of its temporary names have sixteen bytes, as all
-- of a program have.
pub record KnowsNames (dir : Dir) (d : Content) : Type 0 where
  pub there : d.dir dir ≡ true
  pub ids : (o : Temporary) → IsLeftOver dir o d → NameHasIds (name_of o)

-- each temporary text that is left has a name above this one
abbrev pub AreAbove : Dir → Option Name → Content → Type 0
AreAbove dir after d = (o : Temporary) → IsLeftOver dir o d → IsNameAbove after (name_of o)

-- so it is of those other than this one
abbrev pub AreAboveBut : Dir → Temporary → Content → Type 0
AreAboveBut dir next d = (o : Temporary) → IsLeftOver dir o d → (name_of o ≡ name_of next) ⊎ IsNameAbove (Some (name_of next)) (name_of o)

-- what is known in each stage
abbrev pub KnowsStage : Stage → Dir → Content → Type 0
KnowsStage (Listing after) dir d = KnowsNames dir d × AreAbove dir after d
KnowsStage (Removing o) dir d = KnowsNames dir d × AreAboveBut dir o d

abbrev pub Knows : Tidying → Content → Type 0
Knows t d = KnowsStage t.stage t.dir d

-- no temporary text is left
abbrev pub IsTidy : Dir → Content → Type 0
IsTidy dir d = (o : Temporary) → d.file (temporary_in dir o) ≡ None

abbrev pub After : Tidying → ℕ → TidyTurn → Content → Type 0
After t faults turn e = MatchTurn turn
    (λ next. Knows next e)
    (λ _. IsTidy t.dir e)
    (λ _ refusal. refusal ≡ DiskFault faults)

-- A step changes nothing but a temporary text of the folder, which it may remove.
pub record LeavesIn (s : Stage) (t : Tidying) (faults : ℕ) (turn : TidyTurn) (d e : Content) : Type 0 where
  pub dirs : (q : Dir) → e.dir q ≡ d.dir q
  pub others : (q : Place) → ((o : Temporary) → q ≡ temporary_in t.dir o → ⊥) → e.file q ≡ d.file q
  pub temporary : (o : Temporary) → (e.file (temporary_in t.dir o) ≡ d.file (temporary_in t.dir o)) ⊎ (e.file (temporary_in t.dir o) ≡ None)
  pub after : KnowsStage s t.dir d → After t faults turn e

abbrev pub TidyLeaves : Tidying → ℕ → TidyTurn → Content → Content → Type 0
TidyLeaves t faults turn d e = LeavesIn t.stage t faults turn d e

-- a tidying that was begun
pub record IsBegun (dir : Dir) (t : Tidying) : Type 0 where
  pub folder : folder_of t ≡ dir
  pub left : (cost : Option Name → ℕ) → steps_left cost t ≡ cost None + 1
  pub knows : (d : Content) → KnowsNames dir d → Knows t d
