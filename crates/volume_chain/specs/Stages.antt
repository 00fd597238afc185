-- What a step of an opening does, stage by stage.
use Rattle.std.specs.Prelude.{◌≡◌, ◌⊎◌, ℕ, ◌+◌, ◌*◌, ◌/◌, ◌^◌, ◌<◌, sum_by, false, List, length, drop, Option, None, Result, unwrap_or}
use Rattle.sd_names.specs.Id.{zero_id}
use Rattle.sd_names.specs.Turn.{MatchTurn}
use Rattle.sd_names.specs.declared.absence.Absence.TheVariants as absence
use Rattle.sd_names.specs.declared.id.Id.{Id}
use Rattle.sd_names.specs.declared.place.Dir.{Dir}
use Rattle.sd_names.specs.declared.place.Name.{Name}
use Rattle.sd_names.specs.declared.place.Place.{Place}
use Rattle.sd_names.specs.declared.refusal.Refusal.{Refusal}
use Rattle.sd_names.specs.declared.refusal.Refusal.TheVariants.{DiskFault, Vanished, WrongParent}
use Rattle.sd_names.specs.declared.turn.Turn.TheVariants.{More, Ended}
use Rattle.shared_disk.specs.Content.{Content}
use Rattle.shared_disk.specs.Crash.{IsAlso, IsOutcome}
use Rattle.shared_disk.specs.NameCalls as names
use Rattle.shared_disk.specs.Calls.{HasLength}
use Rattle.shared_disk.specs.Step.{IsDiskRefusal, TurnFollows}
use Rattle.shared_disk.specs.declared.disk.DiskAnswer.{DiskAnswer}
use Rattle.qcow_format.specs.declared.header.Header.{Header}
use Rattle.layer_walk.specs.Left.{Antitone}
use Rattle.qcow_layer.specs.Opening as layer
use Rattle.qcow_layer.specs.Stages.{IsOpeningRefusal}
use Rattle.qcow_layer.specs.declared.layer.Layer as layers
use Rattle.qcow_layer.specs.declared.opening.Opening.{Opening}
use Rattle.chain_model.specs.Chain.{IsBelow, path_of}
use Rattle.chain_model.specs.Folder.{Volumes}
use Rattle.chain_model.specs.Opening.{IsOpenable, OpenFault}
use Rattle.chain_model.specs.Records.{records_of}
use Rattle.chain_records.specs.Records.{records_in}
use Rattle.chain_gathering.specs.Gathering as gather
use Rattle.chain_gathering.specs.Knowing.{AreSettled, volumes_in}
use Rattle.chain_gathering.specs.Names.{name_of}
use Rattle.chain_gathering.specs.Steps.{IsKeptFile, IsPaid}
use Rattle.chain_gathering.specs.declared.names.VolumeName.{VolumeName}
use Rattle.volume_chain.specs.Chain.{IsExpected, IsShaped, dir_in, image_in, opened, place_in, target_of}
use Rattle.volume_chain.specs.Checking.{IsRecordRefusal, StageTurn}
use Rattle.volume_chain.specs.Knowing.{ArePassed, KnowsChain, StageKnows, StageShaped}
use Rattle.volume_chain.specs.Reached.{LacksMemory}
use Rattle.volume_chain.specs.declared.chain.Chain.{Chain}
use Rattle.volume_chain.specs.declared.chain.Target.{Target}
use Rattle.volume_chain.specs.declared.stages.Stage.{Stage}
use Rattle.volume_chain.specs.declared.stages.Stage.TheVariants.{Gathering, Along, Layer}
use Rattle.volume_chain.specs.declared.volumes.OpenVolume.TheVariants.{Cow, Raw}

abbrev pub target_at : Stage → Target
target_at (Gathering t volumes g) = t
target_at (Along c) = c.target
target_at (Layer c o) = c.target

-- A layer that is opened goes to the chain, where its header names what it may; else the volume is refused with what is named.
abbrev pub IsNamed : Chain → layers.Layer → StageTurn → Type 0
IsNamed c l turn = (vs : List Id) → IsBelow (records_in c.records) (layer.volume_kept l) vs
    → (IsExpected (records_in c.records) (layer.volume_kept l) vs (unwrap_or (layer.parent_kept l) zero_id) × (turn ≡ More (Along (opened c (Cow l)))))
    ⊎ ((IsExpected (records_in c.records) (layer.volume_kept l) vs (unwrap_or (layer.parent_kept l) zero_id) → ⊥)
    × (turn ≡ Ended tt (WrongParent (layer.volume_kept l) (unwrap_or (layer.parent_kept l) zero_id))))

-- the length of a raw volume's file was asked, and it is open; the answer decides the turn
abbrev pub LengthOf : Chain → Id → ℕ → StageTurn → Content → Content → Type 0
LengthOf c v faults turn d e =
    (answer : Result ℕ DiskAnswer) × HasLength d (place_in c.target v) answer e × TurnFollows answer faults turn (λ n. turn ≡ More (Along (opened c (Raw n))))

-- whatever the disk answers, a raw volume of some length is open then
abbrev pub AsksLength : Chain → StageTurn → Type 0
AsksLength c turn = MatchTurn turn (λ next. (n : ℕ) × (next ≡ Along (opened c (Raw n)))) (λ _. ⊥) (λ _ _. Unit {0})

-- whatever stands below its volume, this layer is open then
abbrev pub AddsLayer : Chain → layers.Layer → StageTurn → Type 0
AddsLayer c l turn = MatchTurn turn (λ next. next ≡ Along (opened c (Cow l))) (λ _. ⊥) (λ _ _. Unit {0})

-- the opening of a layer begins
abbrev pub BeginsLayer : Chain → Id → ℕ → StageTurn → Type 0
BeginsLayer c v capacity turn = (o : Opening) × layer.IsBegun o v (place_in c.target v) capacity (2 ^ 40) × (turn ≡ More (Layer c o))

-- ---- on every disk

abbrev pub IsWrongParent : Refusal → Type 0
IsWrongParent (WrongParent v named) = Unit {0}
IsWrongParent _ = ⊥

-- the refusals of each stage
abbrev pub IsStageRefusal : Stage → Refusal → Type 0
IsStageRefusal (Gathering t volumes g) e = gather.MayRefuse g e ⊎ IsRecordRefusal e
IsStageRefusal (Along c) e = IsDiskRefusal e
IsStageRefusal (Layer c o) e = IsOpeningRefusal (layer.may_lack_memory o) e ⊎ IsWrongParent e

-- the image stays the same, and what a stage is made of stays fit
abbrev pub KeepsShape : Stage → StageTurn → Type 0
KeepsShape s turn = MatchTurn turn
    (λ next. (target_at next ≡ target_at s) × (StageShaped s → StageShaped next))
    (λ c. (target_of c ≡ target_at s) × (StageShaped s → IsShaped c × (length c.volumes ≡ length c.path)))
    (λ _ _. Unit {0})

-- how many steps a volume of the path takes at the most: its layer has such a header, and its tables are so many
abbrev pub volume_cost : (Id → Header) → (Id → ℕ → ℕ) → Id → ℕ
volume_cost heads tables v = 2 * (2 ^ (heads v).cluster_bits / 512 * tables v 0) + 7

-- the steps that are left along the path
abbrev pub left_along : (Id → Header) → (Id → ℕ → ℕ) → Stage → ℕ
left_along heads tables (Gathering t volumes g) = 0
left_along heads tables (Along c) = sum_by (volume_cost heads tables) (drop (length c.volumes) c.path) + 1
left_along heads tables (Layer c o) =
    layer.steps_left (heads (layer.target_of o).volume) (tables (layer.target_of o).volume) o + 1 + sum_by (volume_cost heads tables) (drop (length c.volumes + 1) c.path) + 1

-- Fewer steps are left. While names are listed they are counted by what the names cost; behind them stands the path, whose
-- volumes cost what their tables do.
abbrev pub Falls : Stage → Stage → Type 0
Falls (Gathering t volumes g) (Gathering u more h) =
    (cost : Option Name → ℕ) → gather.Meets (IsPaid cost) g (More h) → gather.steps_left cost h < gather.steps_left cost g
Falls (Gathering t volumes g) (Along c) = (cost : Option Name → ℕ) → 0 < gather.steps_left cost g
Falls (Gathering t volumes g) (Layer c o) = ⊥
Falls s (Gathering t volumes g) = ⊥
Falls s (Along c) =
    (heads : Id → Header) (tables : Id → ℕ → ℕ) → StageShaped s → left_along heads tables (Along c) < left_along heads tables s
Falls s (Layer c o) =
    (heads : Id → Header) (tables : Id → ℕ → ℕ) → ((v : Id) → Antitone (tables v)) → StageShaped s
    → layer.OpensFile (heads (layer.target_of o).volume) (tables (layer.target_of o).volume) o → left_along heads tables (Layer c o) < left_along heads tables s

abbrev pub StageFalls : Stage → StageTurn → Type 0
StageFalls s turn = MatchTurn turn (λ next. Falls s next) (λ _. Unit {0}) (λ _ _. Unit {0})

-- a step that lists a name: this holds of the name before it and of that one
abbrev pub StageMeets : (Option Name → Option Name → Type 0) → Stage → StageTurn → Type 0
StageMeets R (Gathering t volumes g) (More (Gathering u more h)) = gather.Meets R g (More h)
StageMeets R s turn = Unit {0}

-- ---- where the content is told

-- the files of the volumes, as long as they were when their lengths were asked: at the end of the gathering none was
abbrev pub looked_at : Stage → Volumes → Content → Volumes
looked_at (Gathering t volumes g) x e = volumes_in (dir_in t) e
looked_at (Along c) x e = x
looked_at (Layer c o) x e = x

-- An open chain: the image can be opened, the path is that of its reading volume, nothing is unsynced in its volumes' files
-- and texts, and the chain knows it.
pub record IsOpen (c : Chain) (host : ℕ) (d : Content) : Type 0 where
  pub settled : AreSettled (dir_in c.target) d
  pub volume : Id
  pub below : List Id
  pub openable : IsOpenable (image_in c.target) (volumes_in (dir_in c.target) d) volume below
  pub path : c.path ≡ path_of (records_of (image_in c.target) (volumes_in (dir_in c.target) d)) volume below
  pub knows : KnowsChain c host d

-- The disk failed, or nothing is unsynced and the refusal is the image's first, or there was no memory where none came before.
abbrev pub IsRefused : Target → Volumes → Refusal → Content → Type 0
IsRefused t x refusal e = ((n : ℕ) × (refusal ≡ DiskFault n)) ⊎ (AreSettled (dir_in t) e × (LacksMemory (image_in t) x refusal ⊎ OpenFault (image_in t) x refusal))

-- A chain that is open has the length of each raw volume's file when that was asked.
abbrev pub StageAfter : Target → ℕ → Volumes → StageTurn → Content → Type 0
StageAfter t host x turn e = MatchTurn turn
    (λ next. StageKnows next host x e)
    (λ c. IsOpen c host e × ArePassed (image_in t) x c.path c.volumes)
    (λ _ refusal. IsRefused t x refusal e)

-- an image's folder isn't there, or in it the file or the text of a volume
abbrev pub IsMissing : Dir → Content → Type 0
IsMissing dir d = (d.dir dir ≡ false) ⊎ ((o : VolumeName) × (d.file (names.place_in dir (name_of o)) ≡ None))

-- 122 comes only where the image's folder or one of its files isn't there
abbrev pub IsNoFile : Stage → Content → Refusal → Type 0
IsNoFile s d (Vanished a) = (a ≡ absence.NoFile) × (StageShaped s → IsMissing (dir_in (target_at s)) d)
IsNoFile s d _ = Unit {0}

-- A step changes nothing but that what this host had not synced of one of the volumes' files and texts reaches the medium.
-- What crashes may leave then they might have left before.
pub record StageSteps (s : Stage) (host : ℕ) (turn : StageTurn) (d e : Content) : Type 0 where
  pub dirs : (q : Dir) → e.dir q ≡ d.dir q
  pub files : StageShaped s → (o : VolumeName) → IsAlso (IsKeptFile host) (d.file (names.place_in (dir_in (target_at s)) (name_of o))) (e.file (names.place_in (dir_in (target_at s)) (name_of o)))
  pub others : StageShaped s → (q : Place) → ((o : VolumeName) → q ≡ names.place_in (dir_in (target_at s)) (name_of o) → ⊥) → e.file q ≡ d.file q
  pub outcomes : (o : Content) → IsOutcome e o → IsOutcome d o
  pub gone : MatchTurn turn (λ _. Unit {0}) (λ _. Unit {0}) (λ _ refusal. IsNoFile s d refusal)
  pub after : (x : Volumes) → StageKnows s host x d → StageAfter (target_at s) host (looked_at s x e) turn e
