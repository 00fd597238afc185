-- What is known between the steps of a sizing, the call that each makes, and what it leaves.
use Rattle.std.specs.Prelude.{◌≡◌, ◌≢◌, ◌⊎◌, ℕ, ◌+◌, ◌-◌, ◌*◌, ◌/◌, ◌%◌, ◌<◌, ◌≤◌, List, length, replicate, Some, Result}
use Rattle.sd_names.specs.declared.turn.Turn.{Turn}
use Rattle.sd_names.specs.declared.turn.Turn.TheVariants.{More, Done, Ended}
use Rattle.shared_disk.specs.Content.{Content, File, seen}
use Rattle.shared_disk.specs.Calls.{IsSame, ReadAt}
use Rattle.shared_disk.specs.Step.{TurnFollows}
use Rattle.shared_disk.specs.declared.disk.DiskAnswer.{DiskAnswer}
use Rattle.qcow_format.specs.declared.entry.Entry.TheVariants.{Data}
use Rattle.image_model.specs.Layer.{Tables, entry_at}
use Rattle.layer_laws.specs.Laws as laws
use Rattle.qcow_layer.specs.Looking as looks
use Rattle.qcow_layer.specs.Looking.{KnowsTable, cluster_of, table_of}
use Rattle.qcow_layer.specs.Opening.{capacity_kept, header_kept, place_kept}
use Rattle.qcow_layer.specs.declared.layer.Layer.{Layer}
use Rattle.qcow_layer.specs.declared.looking.Looked.{Looked}
use Rattle.qcow_layer.specs.declared.looking.Looking.{Looking}
use Rattle.layer_writing.specs.Holding.{on_medium}
use Rattle.layer_heading.specs.Writing.{IsQuiet, IsWriting, LeavesFile, ReadsThen, SyncsThen, Turned, WritesThen}
use Rattle.layer_sizing.specs.Blanks.{AreBlank, IsBlanking}
use Rattle.layer_sizing.specs.Sized.{AreFree, IsEmptyPast, IsOldOrSized, bound, l1_size_for, sized_sector}
use Rattle.layer_sizing.specs.Stages.{MayGet, after_looking, after_zeros, asked_of, going, larger_of, last_cluster, moved, piece, rest_range, stage_of, table_range, zeros_from}
use Rattle.layer_sizing.specs.declared.raising.Part.{Part}
use Rattle.layer_sizing.specs.declared.raising.Part.TheVariants.{Tables as InTables, Rest as InRest}
use Rattle.layer_sizing.specs.declared.raising.Range.{Range}
use Rattle.layer_sizing.specs.declared.raising.Raising.{Raising}
use Rattle.layer_sizing.specs.declared.raising.Stage.{Stage}
use Rattle.layer_sizing.specs.declared.raising.Stage.TheVariants.{Seeking, Zeroing, Edge, Ready, Laid, Headed}
use Rattle.layer_sizing.specs.declared.sizing.Sizing.{Sizing}
use Rattle.layer_sizing.specs.declared.sizing.Sizing.TheVariants.{Begun, Going}

-- ---- what is known

-- the layer in a file with nothing unsynced
abbrev pub tables_on : Layer → File → Tables
tables_on layer f = laws.layer (header_kept layer) (on_medium f)

-- where a range begins and ends, in the quiet file; while the table's entries get zeros, there is nothing past the capacity
abbrev pub IsRangeOf : Part → ℕ → ℕ → Layer → ℕ → File → Type 0
IsRangeOf InRest low end layer larger g =
    (place : ℕ) × (entry_at (tables_on layer g) (last_cluster layer) ≡ Data place)
    × (low ≡ (rest_range (header_kept layer) (capacity_kept layer) place).at) × (end ≡ (rest_range (header_kept layer) (capacity_kept layer) place).end)
IsRangeOf InTables low end layer larger g =
    (low ≡ (table_range (header_kept layer) larger).at) × (end ≡ (table_range (header_kept layer) larger).end) × IsEmptyPast (tables_on layer g) (capacity_kept layer)

-- a place rounded up to whole sectors
abbrev pub whole : ℕ → ℕ
whole end = (end + 511) / 512 * 512

-- A range is being zeroed: over the quiet file zeros are written from its begin on, up to a place behind which whole sectors
-- follow.
pub record KnowsRange (range : Range) (layer : Layer) (larger host : ℕ) (f : File) : Type 0 where
  pub quiet : File
  pub low : ℕ
  pub may : MayGet layer larger
  pub of : IsRangeOf range.part low range.end layer larger quiet
  pub some : low < range.end
  pub blanking : IsBlanking layer host low (whole range.end) quiet f
  pub at : (range.at ≡ low) ⊎ ((range.at % 512 ≡ 0) × (low ≤ range.at))
  pub blank : AreBlank low range.at (seen host f)

-- the zeros are on the medium, and nothing is unsynced
pub record IsReady (layer : Layer) (larger host : ℕ) (f : File) : Type 0 where
  pub quiet : IsQuiet layer host f
  pub may : MayGet layer larger
  pub tables : AreFree (tables_on layer f) (l1_size_for (header_kept layer) larger)
  pub rest : IsEmptyPast (tables_on layer f) (capacity_kept layer)

abbrev pub header_sector : Layer → ℕ → File → List ℕ
header_sector layer larger f = sized_sector (header_kept layer) larger (f.stable 0)

abbrev pub KnowsIn : Stage → ℕ → Layer → ℕ → File → Type 0
KnowsIn (Seeking looking) larger layer host f =
    IsQuiet layer host f × MayGet layer larger × (cluster_of looking ≡ last_cluster layer) × KnowsTable (tables_on layer f) (last_cluster layer) (table_of looking)
KnowsIn (Zeroing range) larger layer host f = KnowsRange range layer larger host f
KnowsIn (Edge range sector) larger layer host f =
    KnowsRange range layer larger host f × (range.at < range.end) × (range.at % 512 ≢ 0) × (sector ≡ zeros_from (range.at % 512) (seen host f (range.at / 512)))
KnowsIn Ready larger layer host f = IsReady layer larger host f
KnowsIn (Laid sector) larger layer host f = IsReady layer larger host f × (sector ≡ header_sector layer larger f)
KnowsIn Headed larger layer host f = (g : File) × IsReady layer larger host g × IsWriting host 0 (header_sector layer larger g) g f

abbrev pub KnowsSizing : Layer → ℕ → Sizing → File → Type 0
KnowsSizing layer host (Begun larger) f = IsQuiet layer host f × (larger ≤ bound (header_kept layer))
KnowsSizing layer host (Going r) f = KnowsIn (stage_of r) (asked_of r) layer host f

-- so it is of the file at the layer's place
abbrev pub KnowsSizingOn : Layer → ℕ → Sizing → Content → Type 0
KnowsSizingOn layer host s d = (f : File) × (d.file (place_kept layer) ≡ Some f) × KnowsSizing layer host s f

-- Each outcome is one from before, or one from before with zeros past the capacity, or the layer of the larger one. At `Done`
-- the writer knows the layer of the larger capacity.
abbrev pub Sizes : Sizing → Layer → Layer → ℕ → ℕ → Turned Sizing → Content → Content → Type 0
Sizes s layer after host faults turn d e =
    LeavesFile (IsOldOrSized (header_kept layer) (capacity_kept layer) (larger_of s)) (KnowsSizing layer host) s layer after host faults turn d e

-- ---- the calls

-- the turn behind a look
abbrev pub looked_turn : Raising → Layer → Turn Looking Looked (Unit {0}) → Turned Sizing
looked_turn r layer (More next) = going r (Seeking next)
looked_turn r layer (Done looked) = going r (after_looking layer (asked_of r) looked.entry)
looked_turn r layer (Ended back refusal) = Ended back refusal

abbrev pub LooksOn : Raising → Looking → Layer → ℕ → Turned Sizing → Content → Content → Type 0
LooksOn r looking layer host turn d e = (looked : Turn Looking Looked (Unit {0})) × looks.LooksOn looking layer host looked d e × (turn ≡ looked_turn r layer looked)

abbrev pub SyncsZeros : Raising → Range → Layer → ℕ → ℕ → Turned Sizing → Content → Content → Type 0
SyncsZeros r range layer host faults turn d e = SyncsThen layer host faults (going r (after_zeros (header_kept layer) (asked_of r) range.part)) turn d e

abbrev pub ReadsEdge : Raising → Range → Layer → ℕ → ℕ → Turned Sizing → Content → Content → Type 0
ReadsEdge r range layer host faults turn d e =
    (answer : Result ℕ DiskAnswer) × (sector : List ℕ) × (length sector ≡ 512) × ReadAt d host (place_kept layer) (range.at / 512) (replicate 512 0) sector answer e
    × TurnFollows answer faults turn (λ _. turn ≡ going r (Edge range (zeros_from (range.at % 512) sector)))

abbrev pub WritesZeros : Raising → Range → Layer → ℕ → ℕ → Turned Sizing → Content → Content → Type 0
WritesZeros r range layer host faults turn d e = WritesThen layer host (range.at / 512) (replicate (piece range) 0) faults (going r (Zeroing (moved range (piece range)))) turn d e

abbrev pub WritesEdge : Raising → Range → List ℕ → Layer → ℕ → ℕ → Turned Sizing → Content → Content → Type 0
WritesEdge r range sector layer host faults turn d e = WritesThen layer host (range.at / 512) sector faults (going r (Zeroing (moved range (512 - range.at % 512)))) turn d e

-- a range with nothing left is synced; one that begins within a sector is read there; else zeros are written
abbrev pub Zeroes : Raising → Range → Layer → ℕ → ℕ → Turned Sizing → Content → Content → Type 0
Zeroes r range layer host faults turn d e =
    ((range.end ≤ range.at) × SyncsZeros r range layer host faults turn d e)
    ⊎ (((range.at < range.end) × (range.at % 512 ≢ 0) × ReadsEdge r range layer host faults turn d e)
    ⊎ ((range.at < range.end) × (range.at % 512 ≡ 0) × WritesZeros r range layer host faults turn d e))

abbrev pub LaysHeader : Raising → Layer → ℕ → ℕ → Turned Sizing → Content → Content → Type 0
LaysHeader r layer host faults turn d e = ReadsThen layer host faults (λ first. going r (Laid (sized_sector (header_kept layer) (asked_of r) first))) turn d e

-- the call of a step, by its stage, whatever stands in the file: some answer that fits the call, and the turn that follows
abbrev pub CallIn : Stage → Raising → Layer → ℕ → ℕ → Turned Sizing → Content → Content → Type 0
CallIn (Seeking looking) r layer host faults turn d e = LooksOn r looking layer host turn d e
CallIn (Zeroing range) r layer host faults turn d e = Zeroes r range layer host faults turn d e
CallIn (Edge range sector) r layer host faults turn d e = WritesEdge r range sector layer host faults turn d e
CallIn Ready r layer host faults turn d e = LaysHeader r layer host faults turn d e
CallIn (Laid sector) r layer host faults turn d e = WritesThen layer host 0 sector faults (going r Headed) turn d e
CallIn Headed r layer host faults turn d e = SyncsThen layer host faults (Done tt) turn d e

abbrev pub CallOf : Sizing → Layer → ℕ → ℕ → Turned Sizing → Content → Content → Type 0
CallOf (Begun larger) layer host faults turn d e = IsSame d e
CallOf (Going r) layer host faults turn d e = CallIn (stage_of r) r layer host faults turn d e
