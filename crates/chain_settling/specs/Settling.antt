-- A settling between its steps, in public words.
use Rattle.std.specs.Prelude.{◌≡◌, ℕ, Option}
use Rattle.sd_names.specs.declared.place.Dir.{Dir}
use Rattle.sd_names.specs.declared.place.Name.{Name}
use Rattle.sd_names.specs.declared.turn.Turn.{Turn}
use Rattle.sd_names.specs.declared.turn.Turn.TheVariants.{More, Done, Ended}
use Rattle.shared_disk.specs.Content.{Content}
use Rattle.chain_model.specs.Folder.{Volumes}
use Rattle.chain_model.specs.Records.{Records}
use Rattle.volume_chain.specs.declared.chain.Chain.{Chain}
use Rattle.settling_steps.specs.Leftovers as tidy
use Rattle.settling_steps.specs.declared.leftovers.Tidying.{Tidying}
use Rattle.chain_settling.specs.Fit.{IsFit, KeepsFit, StageTurn, chain_in}
use Rattle.chain_settling.specs.Left.{FallsIn, MeetsAt, left_of}
use Rattle.chain_settling.specs.Steps.{IsBeforeGrowth, KnowsStage, SettlesIn}
use Rattle.chain_settling.specs.Was.{folder_in}
use Rattle.chain_settling.specs.declared.settling.Settling.{Settling}
use Rattle.chain_settling.specs.declared.stages.Stage.{Stage}
use Rattle.chain_settling.specs.declared.stages.Stage.TheVariants as stages

abbrev pub SettlingTurn : Type 0
SettlingTurn = Turn Settling Chain (Unit {0})

abbrev pub stage_of : Settling → Stage
stage_of s = s.stage

-- the same turn between stages
abbrev pub stage_turn : SettlingTurn → StageTurn
stage_turn (More s) = More s.stage
stage_turn (Done c) = Done c
stage_turn (Ended b refusal) = Ended b refusal

-- the chain that is settled, as it is kept
abbrev pub chain_of : Settling → Chain
chain_of s = chain_in s.stage

-- the image's folder
abbrev pub folder_of : Settling → Dir
folder_of s = folder_in (chain_of s)

-- how many more steps it takes at the most, `cost after` being what the names above `after` cost
abbrev pub steps_left : (Option Name → ℕ) → Settling → ℕ
steps_left cost s = left_of cost s.stage

-- the image, its volumes and the path stay the same, and each record stays valid
abbrev pub Keeps : Settling → SettlingTurn → Type 0
Keeps s turn = KeepsFit s.stage (stage_turn turn)

abbrev pub Nears : Settling → SettlingTurn → Type 0
Nears s turn = FallsIn s.stage (stage_turn turn)

abbrev pub Meets : (Option Name → Option Name → Type 0) → Settling → SettlingTurn → Type 0
Meets R s turn = MeetsAt R s.stage (stage_turn turn)

-- a settling that was begun: it may be stepped
pub record IsBegun (c : Chain) (s : Settling) : Type 0 where
  pub chain : chain_of s ≡ c
  pub fit : IsFit s.stage

-- it begins with the removal of temporary names
pub record BeginsTidying (c : Chain) (s : Settling) : Type 0 where
  pub tidying : Tidying
  pub stage : stage_of s ≡ stages.Tidying c tidying
  pub begun : tidy.IsBegun (folder_in c) tidying

-- what is known in its stage, and what a step leaves of an image that is known
abbrev pub Knows : Settling → ℕ → Records → Volumes → Content → Type 0
Knows s host r x d = KnowsStage s.stage host r x d

-- the file of the layer at a place of the path hasn't got its turn to be grown
abbrev pub IsEarly : Settling → ℕ → Type 0
IsEarly s b = IsBeforeGrowth s.stage b

abbrev pub SettlesOn : Settling → ℕ → ℕ → SettlingTurn → Content → Content → Type 0
SettlesOn s host faults turn d e = SettlesIn s.stage host faults (stage_turn turn) d e
