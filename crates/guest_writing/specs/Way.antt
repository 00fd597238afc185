-- A write on every disk: where its volume stands open, how far it is, and how much nearer its end each step brings it.
use Rattle.std.specs.Prelude.{◌≡◌, ℕ, ◌+◌, ◌^◌, ◌<◌, ◌≤◌, slice_get, Some}
use Rattle.sd_names.specs.Turn.{MatchTurn}
use Rattle.sd_names.specs.declared.id.Id.{Id}
use Rattle.sd_names.specs.declared.refusal.Refusal.{Refusal}
use Rattle.sd_names.specs.declared.turn.Turn.{Turn}
use Rattle.shared_disk.specs.Calls.{IsAligned}
use Rattle.shared_disk.specs.Step.{IsDiskRefusal}
use Rattle.qcow_layer.specs.declared.layer.Layer.{Layer}
use Rattle.layer_placing.specs.Stages.{pieces_of}
use Rattle.volume_chain.specs.Chain.{open_in, path_in}
use Rattle.volume_chain.specs.Layers.{IsLayerAt}
use Rattle.volume_chain.specs.declared.chain.Chain.{Chain}
use Rattle.volume_chain.specs.declared.volumes.OpenVolume.{OpenVolume}
use Rattle.volume_chain.specs.declared.volumes.OpenVolume.TheVariants.{Cow}
use Rattle.chain_reading.specs.Knowing.{place_on}
use Rattle.raw_writing.specs.Writing as raw
use Rattle.write_planning.specs.Span.{at_of, length_of}
use Rattle.write_preparing.specs.Preparing.{preparing_left, span_in}
use Rattle.write_preparing.specs.declared.preparing.Preparing as preparings
use Rattle.write_filling.specs.Left.{fillings_left}
use Rattle.write_linking.specs.Linking.{linking_left}
use Rattle.guest_steps.specs.Preparing.{IsLent, IsStepRefusal}
use Rattle.guest_writing.specs.declared.stage.Stage.{Stage}
use Rattle.guest_writing.specs.declared.stage.Stage.TheVariants.{Begun, Raw, Preparing, Filling, Linking}

abbrev pub StageTurn : Type 0
StageTurn = Turn Stage (Unit {0}) (Unit {0})

-- ---- what each stage needs

-- The volume stands open on the chain's path, and a part of so many bytes from this byte on ends at 2^62 at the latest.
pub record StandsOpen (c : Chain) (v : Id) (at count : ℕ) : Type 0 where
  pub opened : OpenVolume
  pub there : slice_get (open_in c) (place_on v (path_in c)) ≡ Some opened
  pub ends : at + count ≤ 2 ^ 62

-- a part of so many bytes is prepared in the layer with this index
pub record IsPreparingAt (c : Chain) (index : ℕ) (p : preparings.Preparing) (count : ℕ) : Type 0 where
  pub layer : IsLayerAt (open_in c) index
  pub low : index < 2 ^ 63
  pub length : length_of (span_in p) ≡ count
  pub at : IsAligned (at_of (span_in p))

abbrev pub StageOnWay : Stage → Id → ℕ → Chain → ℕ → Type 0
StageOnWay Begun v at c count = StandsOpen c v at count
StageOnWay (Raw w) v at c count = raw.from_of w + count ≤ 2 ^ 62
StageOnWay (Preparing i p) v at c count = IsPreparingAt c i p count
StageOnWay (Filling i s) v at c count = IsLayerAt (open_in c) i
StageOnWay (Linking i s) v at c count = IsLayerAt (open_in c) i

abbrev pub KeepsWay : Id → ℕ → Chain → ℕ → StageTurn → Type 0
KeepsWay v at c count turn = MatchTurn turn (λ s. StageOnWay s v at c count) (λ _. Unit {0}) (λ _ _. Unit {0})

-- ---- what a step leaves

-- The chain is the same, but for the layer that is prepared, which is one of the same volume still.
abbrev pub StageKeeps : Stage → Chain → Chain → Type 0
StageKeeps (Preparing i p) c next = IsLent c next i
StageKeeps stage c next = next ≡ c

-- 71 with the volume, 120 and 122 alone
abbrev pub StageRefusal : Stage → Chain → ℕ → Refusal → Type 0
StageRefusal Begun c count e = ⊥
StageRefusal (Raw w) c count e = raw.IsWritingRefusal w count e
StageRefusal (Preparing i p) c count e = IsStepRefusal c i e
StageRefusal stage c count e = IsDiskRefusal e

-- A stage behind this one, or the same one with fewer steps left in it.
abbrev pub IsBehind : Stage → Chain → Stage → Type 0
IsBehind Begun c (Raw w) = Unit {0}
IsBehind Begun c (Preparing j q) = Unit {0}
IsBehind (Raw w) c (Raw v) = raw.steps_left v < raw.steps_left w
IsBehind (Preparing i p) c (Preparing j q) = (w : Layer) → slice_get (open_in c) i ≡ Some (Cow w) → preparing_left (pieces_of w) q < preparing_left (pieces_of w) p
IsBehind (Preparing i p) c (Filling j t) = Unit {0}
IsBehind (Filling i s) c (Filling j t) = fillings_left t c < fillings_left s c
IsBehind (Filling i s) c (Linking j t) = Unit {0}
IsBehind (Linking i s) c (Linking j t) = (w : Layer) → slice_get (open_in c) i ≡ Some (Cow w) → linking_left w t < linking_left w s
IsBehind stage c next = ⊥

abbrev pub StageFalls : Stage → Chain → StageTurn → Type 0
StageFalls stage c turn = MatchTurn turn (IsBehind stage c) (λ _. Unit {0}) (λ _ _. Unit {0})
