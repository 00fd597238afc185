-- A gathering between its steps.
use Rattle.std.specs.Prelude.{◌≡◌, ℕ, ◌+◌, Option, None}
use Rattle.sd_names.specs.declared.id.Id.{Id}
use Rattle.sd_names.specs.declared.place.Dir.{Dir}
use Rattle.sd_names.specs.declared.place.Dir.TheVariants as dir
use Rattle.sd_names.specs.declared.place.Name.{Name}
use Rattle.sd_names.specs.declared.refusal.Refusal.{Refusal}
use Rattle.shared_disk.specs.Content.{Content}
use Rattle.chain_model.specs.Records.{Image}
use Rattle.chain_gathering.specs.Kept.{AreValid}
use Rattle.chain_gathering.specs.Knowing.{IsGathered, KnowsFolder, KnowsStage}
use Rattle.chain_gathering.specs.Stages.{GatheringTurn, dir_in, image_in}
use Rattle.chain_gathering.specs.Steps.{AreOfFound, IsGatheringRefusal, KeepsOrder, KeepsValid, MeetsBy, NearsBy, left_of}
use Rattle.chain_gathering.specs.declared.gathered.Gathered.{Gathered}
use Rattle.chain_gathering.specs.declared.gathering.Gathering.{Gathering}
use Rattle.chain_gathering.specs.declared.stages.Target.{Target}

abbrev pub target_of : Gathering → Target
target_of g = g.target

-- the image's folder
abbrev pub folder : Gathering → Dir
folder g = dir_in g.target

abbrev pub image : Gathering → Image
image g = image_in g.target

-- what a gathering knows between its steps
abbrev pub Knows : Gathering → ℕ → Content → Type 0
Knows g host d = KnowsStage g.target g.kept host d g.stage

-- what was gathered of the image of a gathering
abbrev pub HasGathered : Gathering → Gathered → Content → Type 0
HasGathered g kept d = IsGathered g.target kept d

-- how many more steps a gathering takes at the most, `cost after` being what the names above `after` cost
abbrev pub steps_left : (Option Name → ℕ) → Gathering → ℕ
steps_left cost g = left_of cost g.kept g.stage

-- where a step lists a name, this holds of the name before it and of that one
abbrev pub Meets : (Option Name → Option Name → Type 0) → Gathering → GatheringTurn → Type 0
Meets R g turn = MeetsBy R g.stage turn

-- the refusals that end a gathering's step
abbrev pub MayRefuse : Gathering → Refusal → Type 0
MayRefuse g refusal = IsGatheringRefusal g.kept g.stage refusal

-- a turn comes nearer to the end
abbrev pub Nears : Gathering → GatheringTurn → Type 0
Nears g turn = NearsBy g g.stage turn

-- the records that a gathering keeps are those of the volumes that it found first
abbrev pub IsInOrder : Gathering → Type 0
IsInOrder g = AreOfFound g.kept

abbrev pub StaysInOrder : Gathering → GatheringTurn → Type 0
StaysInOrder g turn = KeepsOrder g.kept turn

-- each record that a gathering keeps is valid
abbrev pub HasValidRecords : Gathering → Type 0
HasValidRecords g = AreValid g.kept.records

abbrev pub StaysValid : Gathering → GatheringTurn → Type 0
StaysValid g turn = KeepsValid g.kept turn

-- a gathering that was begun: it knows each folder that a host knows
pub record IsBegun (g : Gathering) (sd id : Id) (version : ℕ) : Type 0 where
  pub image : image g ≡ record { domain = sd; id = id; version = version }
  pub folder : folder g ≡ dir.Image sd id
  pub left : (cost : Option Name → ℕ) → steps_left cost g ≡ cost None + 2
  pub order : IsInOrder g
  pub valid : HasValidRecords g
  pub knows : (host : ℕ) (d : Content) → KnowsFolder (dir.Image sd id) host d → Knows g host d
