-- The opening of an image's chain between its steps, in public words.
use Rattle.std.specs.Prelude.{◌≡◌, ℕ, ◌+◌, Option, None}
use Rattle.sd_names.specs.declared.id.Id.{Id}
use Rattle.sd_names.specs.declared.place.Dir.{Dir}
use Rattle.sd_names.specs.declared.place.Dir.TheVariants as dir
use Rattle.sd_names.specs.declared.place.Name.{Name}
use Rattle.sd_names.specs.declared.refusal.Refusal.{Refusal}
use Rattle.sd_names.specs.declared.turn.Turn.{Turn}
use Rattle.sd_names.specs.declared.turn.Turn.TheVariants.{More, Done, Ended}
use Rattle.shared_disk.specs.Content.{Content}
use Rattle.qcow_format.specs.declared.header.Header.{Header}
use Rattle.chain_model.specs.Folder.{Volumes}
use Rattle.chain_model.specs.Records.{Image}
use Rattle.chain_gathering.specs.Knowing.{KnowsFolder}
use Rattle.volume_chain.specs.Chain.{dir_in, image_in}
use Rattle.volume_chain.specs.Checking.{StageTurn}
use Rattle.volume_chain.specs.Knowing.{HaveLengths, StageKnows, StageShaped}
use Rattle.volume_chain.specs.Left.{steps_left}
use Rattle.volume_chain.specs.Stages.{IsStageRefusal, StageMeets, StageSteps, KeepsShape, StageFalls, target_at}
use Rattle.volume_chain.specs.declared.chain.Chain.{Chain}
use Rattle.volume_chain.specs.declared.chain.Target.{Target}
use Rattle.volume_chain.specs.declared.opening.ChainOpening.{ChainOpening}

abbrev pub ChainTurn : Type 0
ChainTurn = Turn ChainOpening Chain (Unit {0})

abbrev pub more : ChainOpening → ChainTurn
more o = More o

-- the same turn between stages
abbrev pub stage_turn : ChainTurn → StageTurn
stage_turn (More o) = More o.stage
stage_turn (Done c) = Done c
stage_turn (Ended b refusal) = Ended b refusal

-- the image that is opened, and its folder
abbrev pub target_kept : ChainOpening → Target
target_kept o = target_at o.stage

abbrev pub image : ChainOpening → Image
image o = image_in (target_at o.stage)

abbrev pub folder : ChainOpening → Dir
folder o = dir_in (target_at o.stage)

-- what an opening knows between its steps: the image's files are these, each as long as it was when its length was asked
abbrev pub Knows : ChainOpening → ℕ → Volumes → Content → Type 0
Knows o host x d = StageKnows o.stage host x d

-- what an opening is made of fits
abbrev pub IsFit : ChainOpening → Type 0
IsFit o = StageShaped o.stage

abbrev pub StaysFit : ChainOpening → ChainTurn → Type 0
StaysFit o turn = KeepsShape o.stage (stage_turn turn)

abbrev pub MayRefuse : ChainOpening → Refusal → Type 0
MayRefuse o refusal = IsStageRefusal o.stage refusal

abbrev pub Nears : ChainOpening → ChainTurn → Type 0
Nears o turn = StageFalls o.stage (stage_turn turn)

abbrev pub Meets : (Option Name → Option Name → Type 0) → ChainOpening → ChainTurn → Type 0
Meets R o turn = StageMeets R o.stage (stage_turn turn)

abbrev pub OpensOn : ChainOpening → ℕ → ChainTurn → Content → Content → Type 0
OpensOn o host turn d e = StageSteps o.stage host (stage_turn turn) d e

-- an opening that was begun: it knows each folder that a host knows
pub record IsBegun (o : ChainOpening) (sd id : Id) (version : ℕ) : Type 0 where
  pub image : image o ≡ record { domain = sd; id = id; version = version }
  pub folder : folder o ≡ dir.Image sd id
  pub fit : IsFit o
  pub left : (cost : Option Name → ℕ) (heads : Id → Header) (tables : Id → ℕ → ℕ) (along : ℕ) → steps_left cost heads tables along o ≡ cost None + 2 + along
  pub knows : (host : ℕ) (x : Volumes) (d : Content) → KnowsFolder (dir.Image sd id) host d → HaveLengths (target_kept o) d → Knows o host x d
