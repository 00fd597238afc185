-- A rebasing between its steps, the call that each makes, and what it leaves.
use Rattle.std.specs.Prelude.{◌≡◌, ℕ, ◌/◌, List, Option, Some, None}
use Rattle.sd_names.specs.Turn.{MatchTurn}
use Rattle.sd_names.specs.declared.absence.Absence.TheVariants as absence
use Rattle.sd_names.specs.declared.refusal.Refusal.TheVariants.{Vanished}
use Rattle.sd_names.specs.declared.turn.Turn.TheVariants.{More, Done, Ended}
use Rattle.shared_disk.specs.Content.{Content, File}
use Rattle.qcow_format.specs.Written.{written}
use Rattle.layer_creating.specs.New.{name_sector}
use Rattle.layer_creating.specs.declared.backing.Backing.{Backing}
use Rattle.qcow_layer.specs.Mapping.{IsWithHeader}
use Rattle.qcow_layer.specs.Opening.{capacity_kept, header_kept}
use Rattle.qcow_layer.specs.declared.layer.Layer.{Layer}
use Rattle.layer_heading.specs.Rebased.{IsOldOrOver, laid, name_place, rebased}
use Rattle.layer_heading.specs.Writing.{IsQuiet, IsWriting, LeavesFile, ReadsThen, SyncsThen, Turned, WritesThen}
use Rattle.layer_heading.specs.declared.rebasing.Rebasing.{Rebasing}
use Rattle.layer_heading.specs.declared.rebasing.Stage.{Stage}
use Rattle.layer_heading.specs.declared.rebasing.Stage.TheVariants.{Begun, Named, Synced, Laid, Headed}

-- a rebasing: to which backing file, and how far it is
abbrev pub backing_of : Rebasing → Backing
backing_of r = r.backing

abbrev pub stage_of : Rebasing → Stage
stage_of r = r.stage

abbrev pub at_stage : Rebasing → Stage → Rebasing
at_stage r stage = record r { stage = stage }

abbrev pub IsSameRebasing : Rebasing → Rebasing → Type 0
IsSameRebasing r next = backing_of next ≡ backing_of r

-- the steps that are left
abbrev pub left_of : Stage → ℕ
left_of Begun = 5
left_of Named = 4
left_of Synced = 3
left_of (Laid sector) = 2
left_of Headed = 1

abbrev pub rebasing_left : Rebasing → ℕ
rebasing_left r = left_of (stage_of r)

-- the new header is laid over some sector
abbrev pub IsAt : Rebasing → Rebasing → Type 0
IsAt r next = (sector : List ℕ) × (next ≡ at_stage r (Laid sector))

-- when it is done the layer has the new header and parent, and before that it stays
abbrev pub KeepsLayer : Rebasing → Layer → Layer → Turned Rebasing → Type 0
KeepsLayer r layer after turn = MatchTurn turn
    (λ _. after ≡ layer)
    (λ _. IsWithHeader layer (rebased (header_kept layer) (backing_of r)) (Some (backing_of r).parent) after)
    (λ _ _. after ≡ layer)

-- ---- the calls

-- a header that doesn't fit the first sector isn't that of a layer
abbrev pub laid_turn : Rebasing → Option (List ℕ) → Turned Rebasing
laid_turn r (Some sector) = More (at_stage r (Laid sector))
laid_turn r None = Ended tt (Vanished absence.OutOfFile)

abbrev pub LaysHeader : Rebasing → Layer → ℕ → ℕ → Turned Rebasing → Content → Content → Type 0
LaysHeader r layer host faults turn d e = ReadsThen layer host faults (λ first. laid_turn r (laid (rebased (header_kept layer) (backing_of r)) first)) turn d e

-- The call of a step, by its stage, whatever stands in the file: some answer that fits the call, and the turn that follows.
abbrev pub CallIn : Stage → Rebasing → Layer → ℕ → ℕ → Turned Rebasing → Content → Content → Type 0
CallIn Begun r layer host faults turn d e = WritesThen layer host (name_place (header_kept layer) / 512) (name_sector (Some (backing_of r))) faults (More (at_stage r Named)) turn d e
CallIn Named r layer host faults turn d e = SyncsThen layer host faults (More (at_stage r Synced)) turn d e
CallIn Synced r layer host faults turn d e = LaysHeader r layer host faults turn d e
CallIn (Laid sector) r layer host faults turn d e = WritesThen layer host 0 sector faults (More (at_stage r Headed)) turn d e
CallIn Headed r layer host faults turn d e = SyncsThen layer host faults (Done tt) turn d e

abbrev pub CallOf : Rebasing → Layer → ℕ → ℕ → Turned Rebasing → Content → Content → Type 0
CallOf r layer host faults turn d e = CallIn (stage_of r) r layer host faults turn d e

-- ---- what is known

-- the sector of the next name
abbrev pub name_at : Layer → ℕ
name_at layer = name_place (header_kept layer) / 512

-- so it is, and the next name is on the medium
pub record HasName (backing : Backing) (layer : Layer) (host : ℕ) (f : File) : Type 0 where
  pub quiet : IsQuiet layer host f
  pub name : f.stable (name_at layer) ≡ name_sector (Some backing)

abbrev pub header_sector : Backing → Layer → File → List ℕ
header_sector backing layer f = written (rebased (header_kept layer) backing) (f.stable 0)

abbrev pub KnowsIn : Stage → Backing → Layer → ℕ → File → Type 0
KnowsIn Begun backing layer host f = IsQuiet layer host f
KnowsIn Named backing layer host f = (g : File) × IsQuiet layer host g × IsWriting host (name_at layer) (name_sector (Some backing)) g f
KnowsIn Synced backing layer host f = HasName backing layer host f
KnowsIn (Laid sector) backing layer host f = HasName backing layer host f × (sector ≡ header_sector backing layer f)
KnowsIn Headed backing layer host f = (g : File) × HasName backing layer host g × IsWriting host 0 (header_sector backing layer g) g f

abbrev pub KnowsFile : Rebasing → Layer → ℕ → File → Type 0
KnowsFile r layer host f = KnowsIn (stage_of r) (backing_of r) layer host f

-- Each outcome is one from before, or one from before in which the layer is as it was or lies over the new backing file. At
-- `Done` the writer knows the layer over the new one.
abbrev pub Steps : Rebasing → Layer → Layer → ℕ → ℕ → Turned Rebasing → Content → Content → Type 0
Steps r layer after host faults turn d e =
    LeavesFile (IsOldOrOver (header_kept layer) (backing_of r) (capacity_kept layer)) (λ next. KnowsFile next layer host) r layer after host faults turn d e
