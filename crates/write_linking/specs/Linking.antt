-- The end of a write to a layer: what is known between the steps, and what each step leaves.
use Rattle.std.specs.Prelude.{◌≡◌, ◌⊎◌, ℕ, ◌+◌, ◌-◌, ◌*◌, ◌^◌, ◌<◌, ◌≤◌, min, true, length, slice_index, Option, Some, None, Ok}
use Rattle.sd_names.specs.Turn.{MatchTurn}
use Rattle.sd_names.specs.declared.kinds.Format.TheVariants.{Cow}
use Rattle.sd_names.specs.declared.refusal.Refusal.TheVariants.{DiskFault}
use Rattle.sd_names.specs.declared.turn.Turn.{Turn}
use Rattle.sd_names.specs.declared.turn.Turn.TheVariants.{More, Done, Ended}
use Rattle.shared_disk.specs.Calls.{IsPut}
use Rattle.shared_disk.specs.Content.{Content, File, seen}
use Rattle.shared_disk.specs.Crash.{IsSettled, OnEach}
use Rattle.shared_disk.specs.Step.{NearsEnd}
use Rattle.shared_disk.specs.WellFormed.{IsWellFormedFile}
use Rattle.volume_meta.specs.declared.record.VolumeRecord.{VolumeRecord}
use Rattle.image_model.specs.File.{sector_in}
use Rattle.image_model.specs.Layer.{Tables, l1_entry}
use Rattle.link_laws.specs.Links.{row_of}
use Rattle.qcow_layer.specs.Opening.{capacity_kept, header_kept, place_kept}
use Rattle.qcow_layer.specs.declared.layer.Layer.{Layer}
use Rattle.layer_writing.specs.Holding.{IsSpare}
use Rattle.layer_writing.specs.Writer.{KnowsWriter}
use Rattle.layer_linking.specs.Calls.{first_stage, links_of, pieces, stage_of, steps_left, table_given, table_of}
use Rattle.layer_linking.specs.Linking.{KnowsLinking, tables_on}
use Rattle.layer_linking.specs.declared.linking.Linking.{Linking}
use Rattle.layer_linking.specs.declared.links.Links as parts
use Rattle.chain_model.specs.Own.{own_in}
use Rattle.chain_model.specs.Own as own
use Rattle.own_laws.specs.Sectors.{cluster_of, sector_at}
use Rattle.chain_laws.specs.Laid.{IsInPart, Laying, sector_in_part}
use Rattle.chain_laws.specs.Written.{FileWritten}
use Rattle.part_laws.specs.Steps.{HoldsIn, StandsFor}
use Rattle.write_planning.specs.Linked.{AreLinks, end_in, group_in, place_at, sectors_of, start_in, table_with}
use Rattle.write_planning.specs.Plan.{span_of}
use Rattle.write_planning.specs.Span.{at_of, count_of, first_of, length_of, width_of}
use Rattle.write_planning.specs.declared.span.Span.{Span}
use Rattle.plan_laws.specs.Given.{MayGetPlaces}
use Rattle.write_preparing.specs.Filled.{IsFilled}
use Rattle.write_preparing.specs.Placed.{clusters_of, plan_of}
use Rattle.write_preparing.specs.declared.placed.Placed.{Placed}
use Rattle.write_linking.specs.declared.linking.WriteLinking.{WriteLinking}
use Rattle.write_linking.specs.declared.stage.Stage.{Stage}
use Rattle.write_linking.specs.declared.stage.Stage.TheVariants.{Syncing, Next, Links}

abbrev pub LinkingTurn : Type 0
LinkingTurn = Turn WriteLinking (Unit {0}) (Unit {0})

abbrev pub StageTurn : Type 0
StageTurn = Turn Stage (Unit {0}) (Unit {0})

-- ---- on every disk

-- the clusters that were placed, with their plan
abbrev pub placed_at : Stage → Placed
placed_at (Syncing p) = p
placed_at (Next p sector) = p
placed_at (Links p next k) = p

-- the part, and the clusters that it meets
abbrev pub span_in : Placed → Span
span_in p = span_of (plan_of p)

-- the entries of a sector take so many steps at the most, with the one in which they are found
abbrev pub sector_left : Layer → ℕ
sector_left w = 7 + pieces (header_kept w)

-- how many more steps it takes at the most
abbrev pub stage_left : Layer → Stage → ℕ
stage_left w (Syncing p) = sectors_of (span_in p) * sector_left w + 2
stage_left w (Next p sector) = (sectors_of (span_in p) - sector) * sector_left w + 1
stage_left w (Links p next k) = (sectors_of (span_in p) - next) * sector_left w + 1 + steps_left w k

abbrev pub IsOfPlaced : Placed → Stage → Type 0
IsOfPlaced p stage = placed_at stage ≡ p

abbrev pub StageFalls : Layer → Stage → StageTurn → Type 0
StageFalls w stage turn = NearsEnd (IsOfPlaced (placed_at stage)) (stage_left w) (stage_left w stage) turn

-- the links of a sector, by its index
abbrev pub AreLinksIn : Placed → ℕ → Option parts.Links → Type 0
AreLinksIn p sector links = AreLinks (plan_of p) (clusters_of p) (group_in (span_in p) sector) (start_in (span_in p) sector) (end_in (span_in p) sector) links

-- the place of the L2 table that is made with a sector, or 0 where none is
abbrev pub given_table : Placed → Option ℕ → ℕ
given_table p None = 0
given_table p (Some m) = min (slice_index (clusters_of p) m * width_of (span_in p)) (2 ^ 64 - 1)

-- which table the linking of a sector makes
abbrev pub MakesTable : Placed → ℕ → Linking → Type 0
MakesTable p sector k = table_of k ≡ table_given (given_table p (table_with (plan_of p) sector))

-- a sector is passed over where none of its clusters gets an entry; else its linking begins
abbrev pub FollowsIn : Placed → ℕ → Stage → Type 0
FollowsIn p sector (Syncing q) = ⊥
FollowsIn p sector (Next q next) = (q ≡ p) × (next ≡ sector + 1) × (sector < sectors_of (span_in p)) × AreLinksIn p sector None
FollowsIn p sector (Links q next k) = (q ≡ p) × (next ≡ sector + 1) × (sector < sectors_of (span_in p)) × AreLinksIn p sector (Some (links_of k))
    × MakesTable p sector k × (stage_of k ≡ first_stage (given_table p (table_with (plan_of p) sector)))

abbrev pub PassesOn : Placed → ℕ → StageTurn → Type 0
PassesOn p sector turn = MatchTurn turn (FollowsIn p sector) (λ _. sectors_of (span_in p) ≤ sector) (λ _ _. ⊥)

-- ---- what is known

-- The L2 table of a sector isn't there where it is made with it; else it is there, or is made with a sector before it that is
-- still to come, `from` being the next one.
abbrev pub IsTableInTime : Placed → ℕ → ℕ → Tables → Option ℕ → Type 0
IsTableInTime p from sector t (Some m) = l1_entry t (row_of t (group_in (span_in p) sector)) ≡ Ok None
IsTableInTime p from sector t None =
    ((place : ℕ) × (l1_entry t (row_of t (group_in (span_in p) sector)) ≡ Ok (Some place)))
    ⊎ ((early : ℕ) × (m : ℕ) × (from ≤ early) × (early < sector) × (table_with (plan_of p) early ≡ Some m)
    × (row_of t (group_in (span_in p) early) ≡ row_of t (group_in (span_in p) sector)))

-- the place that a cluster gets, by its index
abbrev pub place_of : Placed → ℕ → Option ℕ
place_of p j = place_at (plan_of p) (clusters_of p) j

-- a sector of the virtual disk that lies in the cluster with an index
pub record IsSectorIn (p : Placed) (w : Layer) (x : VolumeRecord) (j k : ℕ) : Type 0 where
  pub index : j < count_of (span_in p)
  pub cluster : cluster_of (header_kept w) k ≡ first_of (span_in p) + j
  pub inside : k < own.sectors_of x

-- Nothing in the file is unsynced, and its writer knows it. The volume holds the part's sectors in clusters that were data, and in
-- those whose entries stand in a sector before this one. The others may get their places, where stands what they are to be.
pub record IsReady (p : Placed) (sector : ℕ) (w : Layer) (l : Laying) (x : VolumeRecord) (host : ℕ) (f : File) : Type 0 where
  pub says : l.records l.volume ≡ Some x
  pub cow : x.format ≡ Cow
  pub capacity : x.capacity ≡ capacity_kept w
  pub at : at_of (span_in p) ≡ 512 * l.part.at
  pub length : length_of (span_in p) ≡ length l.part.bytes
  pub within : at_of (span_in p) + length_of (span_in p) ≤ capacity_kept w
  pub writer : KnowsWriter w host f
  pub settled : IsSettled f
  pub well : IsWellFormedFile f
  pub given : MayGetPlaces (plan_of p) (clusters_of p) (tables_on w f) (capacity_kept w) (start_in (span_in p) sector) (count_of (span_in p))
  pub spare : (t m : ℕ) → sector ≤ t → t < sectors_of (span_in p) → table_with (plan_of p) t ≡ Some m
      → IsSpare (tables_on w f) (capacity_kept w) (slice_index (clusters_of p) m * width_of (span_in p)) × (slice_index (clusters_of p) m * width_of (span_in p) < 2 ^ 56)
  pub tables : (t : ℕ) → sector ≤ t → t < sectors_of (span_in p) → IsTableInTime p sector t (tables_on w f) (table_with (plan_of p) t)
  pub stands : (j place k : ℕ) → start_in (span_in p) sector ≤ j → IsSectorIn p w x j k → place_of p j ≡ Some place
      → StandsFor l k (own_in x f k) (sector_in f.size f.stable (sector_at (header_kept w) place k))
  pub part : (j place k : ℕ) → start_in (span_in p) sector ≤ j → IsSectorIn p w x j k → place_of p j ≡ Some place → IsInPart l.part k
      → sector_in f.size f.stable (sector_at (header_kept w) place k) ≡ sector_in_part l.part k
  pub holds : (j k : ℕ) → IsSectorIn p w x j k → (j < start_in (span_in p) sector) ⊎ (place_of p j ≡ None) → IsInPart l.part k
      → own_in x f k ≡ Some (sector_in_part l.part k)

-- The entries of a sector are made, from a file on in which they may be.
pub record KnowsLinks (p : Placed) (next : ℕ) (k : Linking) (w : Layer) (l : Laying) (x : VolumeRecord) (host : ℕ) (begun f : File) : Type 0 where
  pub sector : ℕ
  pub start : File
  pub here : next ≡ sector + 1
  pub inside : sector < sectors_of (span_in p)
  pub ready : IsReady p sector w l x host start
  pub written : FileWritten l begun start
  pub links : AreLinksIn p sector (Some (links_of k))
  pub table : MakesTable p sector k
  pub knows : (d : Content) → d.file (place_kept w) ≡ Some f → KnowsLinking k w host start d

-- `begun` is the file in which it began
abbrev pub KnowsStage : Stage → Layer → Laying → VolumeRecord → ℕ → File → File → Type 0
KnowsStage (Syncing p) w l x host begun f = IsFilled p w l x host f × FileWritten l begun f
KnowsStage (Next p sector) w l x host begun f = IsReady p sector w l x host f × FileWritten l begun f
KnowsStage (Links p next k) w l x host begun f = KnowsLinks p next k w l x host begun f

-- The volume holds the part on each outcome, nothing is unsynced, and the writer knows the file.
pub record IsLinkedAll (w : Layer) (l : Laying) (x : VolumeRecord) (host : ℕ) (f : File) : Type 0 where
  pub writer : KnowsWriter w host f
  pub settled : IsSettled f
  pub holds : OnEach f (HoldsIn l x (λ _. true))

-- ---- what a step leaves

-- A step changes the layer's file alone, and each outcome of it comes from one of the file in which all began, and from one of the
-- file before the step, over which sectors of the part may be laid.
pub record LinksStep (w : Layer) (l : Laying) (x : VolumeRecord) (host faults : ℕ) (turn : StageTurn) (begun : File) (d e : Content) : Type 0 where
  pub now : File
  pub put : IsPut d (place_kept w) (Some now) e
  pub written : FileWritten l begun now
  pub on : (f : File) → d.file (place_kept w) ≡ Some f → FileWritten l f now
  pub after : MatchTurn turn
      (λ s. KnowsStage s w l x host begun now)
      (λ _. IsLinkedAll w l x host now)
      (λ _ refusal. refusal ≡ DiskFault faults)

abbrev pub LinksAt : Stage → Layer → ℕ → ℕ → StageTurn → Content → Content → Type 0
LinksAt stage w host faults turn d e =
    (l : Laying) (x : VolumeRecord) (begun f : File) → d.file (place_kept w) ≡ Some f → KnowsStage stage w l x host begun f → LinksStep w l x host faults turn begun d e

-- ---- in public words

abbrev pub stage_turn : LinkingTurn → StageTurn
stage_turn (More s) = More s.stage
stage_turn (Done t) = Done t
stage_turn (Ended b refusal) = Ended b refusal

abbrev pub placed_in : WriteLinking → Placed
placed_in s = placed_at s.stage

abbrev pub linking_left : Layer → WriteLinking → ℕ
linking_left w s = stage_left w s.stage

abbrev pub IsSamePlaced : WriteLinking → WriteLinking → Type 0
IsSamePlaced s next = placed_in next ≡ placed_in s

abbrev pub Knows : WriteLinking → Layer → Laying → VolumeRecord → ℕ → File → File → Type 0
Knows s w l x host begun f = KnowsStage s.stage w l x host begun f

abbrev pub LinksOn : WriteLinking → Layer → ℕ → ℕ → LinkingTurn → Content → Content → Type 0
LinksOn s w host faults turn d e = LinksAt s.stage w host faults (stage_turn turn) d e

-- a linking that was begun
pub record IsBegun (p : Placed) (s : WriteLinking) : Type 0 where
  pub placed : placed_in s ≡ p
  pub left : (w : Layer) → linking_left w s ≡ sectors_of (span_in p) * sector_left w + 2
  pub knows : (w : Layer) (l : Laying) (x : VolumeRecord) (host : ℕ) (begun f : File) → IsFilled p w l x host f → FileWritten l begun f → Knows s w l x host begun f
