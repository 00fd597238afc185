-- A clearing between its steps, the call that each makes, and what it leaves.
use Rattle.std.specs.Prelude.{◌≡◌, ◌≢◌, ◌⊎◌, ℕ, List}
use Rattle.sd_names.specs.Turn.{MatchTurn}
use Rattle.sd_names.specs.declared.turn.Turn.TheVariants.{More, Done, Ended}
use Rattle.shared_disk.specs.Content.{Content, File}
use Rattle.shared_disk.specs.Calls.{IsSame}
use Rattle.qcow_layer.specs.Mapping.{IsWithHeader}
use Rattle.qcow_layer.specs.Opening.{capacity_kept, header_kept, parent_kept}
use Rattle.qcow_layer.specs.declared.layer.Layer.{Layer}
use Rattle.layer_heading.specs.Cleared.{IsOldOrCleared, cleared, cleared_sector}
use Rattle.layer_heading.specs.Writing.{IsQuiet, IsWriting, LeavesFile, ReadsThen, SyncsThen, Turned, WritesThen}
use Rattle.layer_heading.specs.declared.clearing.Clearing.{Clearing}
use Rattle.layer_heading.specs.declared.clearing_stage.ClearingStage.{ClearingStage}
use Rattle.layer_heading.specs.declared.clearing_stage.ClearingStage.TheVariants.{Begun, Laid, Headed}

-- the steps that are left
abbrev pub stage_left : ClearingStage → ℕ
stage_left Begun = 3
stage_left (Laid sector) = 2
stage_left Headed = 1

-- a layer whose header has features that a writer clears
abbrev pub HasFeatures : Layer → Type 0
HasFeatures layer = (header_kept layer).autoclear_features ≢ 0

-- when it is done the layer's header has none of them, and before that the layer stays
abbrev pub KeepsCleared : Layer → Layer → Turned ClearingStage → Type 0
KeepsCleared layer after turn = MatchTurn turn
    (λ _. after ≡ layer)
    (λ _. IsWithHeader layer (cleared (header_kept layer)) (parent_kept layer) after)
    (λ _ _. after ≡ layer)

-- the new first sector is at hand
abbrev pub IsLaid : ClearingStage → Type 0
IsLaid c = (sector : List ℕ) × (c ≡ Laid sector)

abbrev pub laid_next : List ℕ → Turned ClearingStage
laid_next first = More (Laid (cleared_sector first))

-- The call of a step, whatever stands in the file. A layer without such features needs none.
abbrev pub StageCalls : ClearingStage → Layer → ℕ → ℕ → Turned ClearingStage → Content → Content → Type 0
StageCalls Begun layer host faults turn d e =
    (((header_kept layer).autoclear_features ≡ 0) × IsSame d e × (turn ≡ Done tt)) ⊎ (HasFeatures layer × ReadsThen layer host faults laid_next turn d e)
StageCalls (Laid sector) layer host faults turn d e = WritesThen layer host 0 sector faults (More Headed) turn d e
StageCalls Headed layer host faults turn d e = SyncsThen layer host faults (Done tt) turn d e

-- ---- what is known

abbrev pub KnowsStage : Layer → ℕ → ClearingStage → File → Type 0
KnowsStage layer host Begun f = IsQuiet layer host f
KnowsStage layer host (Laid sector) f = IsQuiet layer host f × HasFeatures layer × (sector ≡ cleared_sector (f.stable 0))
KnowsStage layer host Headed f = (g : File) × IsQuiet layer host g × HasFeatures layer × IsWriting host 0 (cleared_sector (g.stable 0)) g f

-- Each outcome is one from before, or one from before in which the header has no features that a writer clears.
abbrev pub StageClears : ClearingStage → Layer → Layer → ℕ → ℕ → Turned ClearingStage → Content → Content → Type 0
StageClears c layer after host faults turn d e =
    LeavesFile (IsOldOrCleared (header_kept layer) (capacity_kept layer)) (KnowsStage layer host) c layer after host faults turn d e

-- ---- in public words: how far a clearing is

abbrev pub stage_of : Clearing → ClearingStage
stage_of c = c.stage

-- the same turn between stages
abbrev pub stage_turn : Turned Clearing → Turned ClearingStage
stage_turn (More c) = More c.stage
stage_turn (Done b) = Done b
stage_turn (Ended b refusal) = Ended b refusal

abbrev pub clearing_left : Clearing → ℕ
clearing_left c = stage_left c.stage

abbrev pub ClearsBy : Clearing → Layer → ℕ → ℕ → Turned Clearing → Content → Content → Type 0
ClearsBy c layer host faults turn d e = StageCalls c.stage layer host faults (stage_turn turn) d e

abbrev pub KnowsClearing : Layer → ℕ → Clearing → File → Type 0
KnowsClearing layer host c f = KnowsStage layer host c.stage f

abbrev pub Clears : Clearing → Layer → Layer → ℕ → ℕ → Turned Clearing → Content → Content → Type 0
Clears c layer after host faults turn d e = StageClears c.stage layer after host faults (stage_turn turn) d e
