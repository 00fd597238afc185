-- A part that is written over a layer's clusters of data: what is known between the steps, and what each step leaves.
use Rattle.std.specs.Prelude.{◌≡◌, ℕ, ◌+◌, ◌-◌, ◌*◌, ◌/◌, ◌^◌, ◌<◌, min, List, length, take, drop, Some, Result}
use Rattle.sd_names.specs.Turn.{MatchTurn}
use Rattle.sd_names.specs.declared.kinds.Format.TheVariants.{Cow}
use Rattle.sd_names.specs.declared.refusal.Refusal.TheVariants.{DiskFault}
use Rattle.sd_names.specs.declared.turn.Turn.{Turn}
use Rattle.shared_disk.specs.Calls.{IsPut, WriteAt, synced}
use Rattle.shared_disk.specs.Content.{Content, File}
use Rattle.shared_disk.specs.Step.{TurnFollows}
use Rattle.shared_disk.specs.declared.disk.DiskAnswer.{DiskAnswer}
use Rattle.image_model.specs.Layer.{count_of}
use Rattle.volume_meta.specs.declared.record.VolumeRecord.{VolumeRecord}
use Rattle.layer_laws.specs.Laws.{SameLayer, layer}
use Rattle.qcow_layer.specs.Opening.{capacity_kept, header_kept, place_kept}
use Rattle.qcow_layer.specs.declared.layer.Layer.{Layer}
use Rattle.layer_writing.specs.Holding.{as_seen}
use Rattle.layer_writing.specs.Writer.{KnowsWriter, seen_tables}
use Rattle.chain_model.specs.Own.{own_in, sectors_of}
use Rattle.own_laws.specs.Sectors.{cluster_of}
use Rattle.chain_laws.specs.Laid.{IsInPart, Laying, sector_in_part}
use Rattle.chain_laws.specs.Written.{FileWritten}
use Rattle.write_planning.specs.Part.{IsPieceOf}
use Rattle.write_planning.specs.Plan.{looked_up, span_of, target_at}
use Rattle.write_planning.specs.Span as spans
use Rattle.write_planning.specs.declared.plan.Target.TheVariants.{InPlace}
use Rattle.write_planning.specs.declared.plan.WritePlan.{WritePlan}
use Rattle.write_planning.specs.declared.span.Piece.{Piece}
use Rattle.part_survey.specs.Survey.{HasFound}
use Rattle.place_writing.specs.declared.places.PlaceWriting.{PlaceWriting}

abbrev pub PlaceTurn : Type 0
PlaceTurn = Turn PlaceWriting (Unit {0}) (Unit {0})

-- the plan, and which of its clusters comes next
abbrev pub plan_of : PlaceWriting → WritePlan
plan_of s = s.plan

abbrev pub index_of : PlaceWriting → ℕ
index_of s = s.index

-- a step for each cluster that is left
abbrev pub places_left : PlaceWriting → ℕ
places_left s = spans.count_of (span_of s.plan) - s.index

-- ---- on every disk

abbrev pub IsSamePlan : PlaceWriting → PlaceWriting → Type 0
IsSamePlan s next = plan_of next ≡ plan_of s

pub record IsBegun (p : WritePlan) (s : PlaceWriting) : Type 0 where
  pub plan : plan_of s ≡ p
  pub index : index_of s ≡ 0

-- the next cluster, or the end behind the last one
abbrev pub PassesOn : PlaceWriting → PlaceTurn → Type 0
PassesOn s turn = MatchTurn turn
    (λ next. (plan_of next ≡ plan_of s) × (index_of next ≡ index_of s + 1))
    (λ _. index_of s + 1 ≡ spans.count_of (span_of s.plan))
    (λ _ _. ⊥)

-- some bytes of a part
abbrev pub between : ℕ → ℕ → List ℕ → List ℕ
between from end part = take (end - from) (drop from part)

-- one write of the part's bytes that lie in the cluster, at the cluster's place
abbrev pub WritesPiece : PlaceWriting → ℕ → Layer → ℕ → ℕ → List ℕ → PlaceTurn → Content → Content → Type 0
WritesPiece s place w host faults part turn d e =
    (q : Piece) × (answer : Result (Unit {0}) DiskAnswer)
    × IsPieceOf (spans.at_of (span_of s.plan)) (spans.length_of (span_of s.plan)) (spans.width_of (span_of s.plan)) s.index q
    × WriteAt d host (place_kept w) (min (place + q.offset) (2 ^ 64 - 1) / 512) (between q.from q.end part) answer e
    × TurnFollows answer faults turn (λ _. PassesOn s turn)

-- ---- where the disk tells what it holds

-- The layer is that of the part's volume, whose clusters were looked up as the host sees them.
pub record IsOver (p : WritePlan) (w : Layer) (l : Laying) (x : VolumeRecord) (host : ℕ) (f : File) : Type 0 where
  pub says : l.records l.volume ≡ Some x
  pub cow : x.format ≡ Cow
  pub capacity : x.capacity ≡ capacity_kept w
  pub at : spans.at_of (span_of p) ≡ 512 * l.part.at
  pub length : spans.length_of (span_of p) ≡ length l.part.bytes
  pub writer : KnowsWriter w host f
  pub all : looked_up p ≡ spans.count_of (span_of p)
  pub found : HasFound p (seen_tables w host f)

-- the volume holds the part's sectors that lie in the plan's first clusters of data, so many, once the host has synced the file
abbrev pub HoldsPlaces : WritePlan → Layer → Laying → VolumeRecord → ℕ → ℕ → File → Type 0
HoldsPlaces p w l x count host f =
    (j place k : ℕ) → j < count → target_at p j ≡ InPlace place → cluster_of (header_kept w) k ≡ spans.first_of (span_of p) + j → IsInPart l.part k → k < sectors_of x
    → own_in x (synced host f) k ≡ Some (sector_in_part l.part k)

pub record Knows (s : PlaceWriting) (w : Layer) (l : Laying) (x : VolumeRecord) (host : ℕ) (f : File) : Type 0 where
  pub over : IsOver (plan_of s) w l x host f
  pub holds : HoldsPlaces (plan_of s) w l x (index_of s) host f

-- What a step leaves, one that failed too: only the layer's file is changed, each outcome of it comes from one before, over which
-- sectors of the part may be laid, and the layer is the same as its host sees it, but for bytes of its data.
pub record Places (s : PlaceWriting) (w : Layer) (l : Laying) (x : VolumeRecord) (host faults : ℕ) (turn : PlaceTurn) (f : File) (d e : Content) : Type 0 where
  pub now : File
  pub put : IsPut d (place_kept w) (Some now) e
  pub size : now.size ≡ f.size
  pub written : FileWritten l f now
  pub same : SameLayer (header_kept w) (capacity_kept w) (as_seen host f) (as_seen host now)
  pub counts : (c : ℕ) → count_of (layer (header_kept w) (as_seen host now)) c ≡ count_of (layer (header_kept w) (as_seen host f)) c
  pub over : IsOver (plan_of s) w l x host now
  pub after : MatchTurn turn
      (λ next. Knows next w l x host now)
      (λ _. HoldsPlaces (plan_of s) w l x (spans.count_of (span_of (plan_of s))) host now)
      (λ _ refusal. refusal ≡ DiskFault faults)

abbrev pub PlacesOn : PlaceWriting → Layer → ℕ → ℕ → List ℕ → PlaceTurn → Content → Content → Type 0
PlacesOn s w host faults part turn d e = (l : Laying) (x : VolumeRecord) (f : File) → d.file (place_kept w) ≡ Some f → Knows s w l x host f → l.part.bytes ≡ part
    → Places s w l x host faults turn f d e
