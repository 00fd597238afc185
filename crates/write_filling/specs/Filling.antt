-- The filling of a part's new clusters: what is known between the steps, and what each step leaves.
use Rattle.std.specs.Prelude.{◌≡◌, ◌⊎◌, ℕ, ◌+◌, ◌*◌, ◌<◌, ◌≤◌, List, slice_get, Option, Some, None}
use Rattle.sd_names.specs.Turn.{MatchTurn}
use Rattle.sd_names.specs.declared.id.Id.{Id}
use Rattle.sd_names.specs.declared.refusal.Refusal.TheVariants.{DiskFault}
use Rattle.sd_names.specs.declared.turn.Turn.{Turn}
use Rattle.shared_disk.specs.Calls.{IsPut}
use Rattle.shared_disk.specs.Content.{Content, File}
use Rattle.shared_disk.specs.Crash.{OnEach}
use Rattle.volume_meta.specs.declared.record.VolumeRecord.{VolumeRecord}
use Rattle.qcow_layer.specs.Opening.{capacity_kept, header_kept, place_kept}
use Rattle.qcow_layer.specs.declared.layer.Layer.{Layer}
use Rattle.layer_writing.specs.Holding.{ComesBy, HoldSame}
use Rattle.chain_model.specs.Chain.{IsBelow}
use Rattle.chain_model.specs.Folder.{Volumes}
use Rattle.chain_model.specs.Own.{own, own_in, sectors_of}
use Rattle.chain_laws.specs.Laid.{Laying, Reads}
use Rattle.chain_laws.specs.Written.{FileWritten, IsHeld}
use Rattle.volume_chain.specs.Chain.{IsShaped, path_in, place_in, target_of}
use Rattle.volume_chain.specs.declared.chain.Chain.{Chain}
use Rattle.chain_reading.specs.Knowing.{KnowsImage, records_of}
use Rattle.cluster_filling.specs.Cluster.{IsClusterOf}
use Rattle.cluster_filling.specs.Filling as filling
use Rattle.cluster_filling.specs.declared.cluster.NewCluster.{NewCluster}
use Rattle.cluster_filling.specs.declared.filling.Filling as one
use Rattle.write_planning.specs.Linked.{place_at}
use Rattle.write_planning.specs.Plan.{span_of}
use Rattle.write_planning.specs.Span.{at_of, count_of, length_of}
use Rattle.write_preparing.specs.Filled.{AreFilled, IsFilled}
use Rattle.write_preparing.specs.Placed.{clusters_of, plan_of}
use Rattle.write_preparing.specs.Preparing.{IsPrepared}
use Rattle.write_preparing.specs.declared.placed.Placed.{Placed}
use Rattle.write_filling.specs.Cluster.{IsNewCluster}
use Rattle.write_filling.specs.Left.{clusters_left, fillings_left}
use Rattle.write_filling.specs.declared.fillings.Fillings.{Fillings}
use Rattle.write_filling.specs.declared.stage.Stage.{Stage}
use Rattle.write_filling.specs.declared.stage.Stage.TheVariants.{Next, Fills}

abbrev pub FillingsTurn : Type 0
FillingsTurn = Turn Fillings Placed (Unit {0})

-- the volume, its index on the path, and the byte with which the part begins
abbrev pub volume_of : Fillings → Id
volume_of s = s.volume

abbrev pub index_of : Fillings → ℕ
index_of s = s.index

abbrev pub start_of : Fillings → ℕ
start_of s = s.at

-- the plan with its clusters, and how many clusters of the part are behind
abbrev pub placed_of : Fillings → Placed
placed_of s = s.placed

abbrev pub done_of : Fillings → ℕ
done_of s = s.done

-- how many clusters the part meets
abbrev pub many_of : Fillings → ℕ
many_of s = count_of (span_of (plan_of (placed_of s)))

-- the place that the next cluster gets, where it gets one
abbrev pub next_place : Fillings → Option ℕ
next_place s = place_at (plan_of (placed_of s)) (clusters_of (placed_of s)) (done_of s)

-- ---- what is known

-- The volume is one of the chain's path, and reads as it is said, by the files as they were when the write began.
pub record IsInImage (s : Fillings) (c : Chain) (w : Layer) (l : Laying) (old : Volumes) : Type 0 where
  pub file : place_kept w ≡ place_in (target_of c) (volume_of s)
  pub volume : l.volume ≡ volume_of s
  pub records : l.records ≡ records_of c
  pub shape : IsShaped c
  pub path : slice_get (path_in c) (index_of s) ≡ Some (volume_of s)
  pub below : IsBelow l.records l.volume l.below
  pub reads : Reads l l.reads old
  pub at : start_of s ≡ 512 * l.part.at
  pub within : at_of (span_of (plan_of (placed_of s))) + length_of (span_of (plan_of (placed_of s))) ≤ capacity_kept w

-- On each outcome of its file the volume holds each sector as when the write began, or more of the part.
abbrev pub HoldsSince : Laying → VolumeRecord → Volumes → File → Type 0
HoldsSince l x old f = OnEach f (λ o. (k : ℕ) → k < sectors_of x → IsHeld l k (own l.records old l.volume k) (own_in x o k))

-- The clusters behind are written whole, and the volumes below can be read.
pub record IsSoFar (s : Fillings) (c : Chain) (w : Layer) (l : Laying) (x : VolumeRecord) (old : Volumes) (host : ℕ) (f : File) (d : Content) : Type 0 where
  pub image : IsInImage s c w l old
  pub prepared : IsPrepared (placed_of s) w l x host f
  pub filled : AreFilled (placed_of s) (done_of s) w l x host f
  pub since : HoldsSince l x old f
  pub below : (u : Id) → slice_get (path_in c) (index_of s + 1) ≡ Some u → KnowsImage c u host old d

-- the next cluster is written into its place, so far
pub record KnowsWork (s : Fillings) (work : one.Filling) (c : Chain) (l : Laying) (old : Volumes) (host : ℕ) (room : List ℕ) (d : Content) : Type 0 where
  pub place : ℕ
  pub gets : next_place s ≡ Some place
  pub new : NewCluster
  pub is : IsNewCluster s place c new
  pub cluster : IsClusterOf new (filling.cluster_of work)
  pub knows : filling.Knows work c host old l.part.bytes room d

abbrev pub KnowsStage : Stage → Fillings → Chain → Laying → Volumes → ℕ → List ℕ → Content → Type 0
KnowsStage Next s c l old host room d = Unit {0}
KnowsStage (Fills work) s c l old host room d = KnowsWork s work c l old host room d

pub record Knows (s : Fillings) (c : Chain) (w : Layer) (l : Laying) (x : VolumeRecord) (old : Volumes) (host : ℕ) (room : List ℕ) (f : File) (d : Content) : Type 0 where
  pub so_far : IsSoFar s c w l x old host f d
  pub stage : KnowsStage s.stage s c l old host room d

-- a filling that was begun
pub record IsBegun (volume : Id) (index at : ℕ) (placed : Placed) (s : Fillings) : Type 0 where
  pub volume_is : volume_of s ≡ volume
  pub index_is : index_of s ≡ index
  pub start_is : start_of s ≡ at
  pub placed_is : placed_of s ≡ placed
  pub none : done_of s ≡ 0
  pub left : (c : Chain) → fillings_left s c ≡ clusters_left c index placed (count_of (span_of (plan_of placed))) 0
  pub knows : (c : Chain) (w : Layer) (l : Laying) (x : VolumeRecord) (old : Volumes) (host : ℕ) (room : List ℕ) (f : File) (d : Content) → IsSoFar s c w l x old host f d → Knows s c w l x old host room f d

-- ---- what a step leaves

-- A step changes the layer's file alone, in clusters that hold nothing yet: each outcome of it holds what one from before held, a
-- step that failed too, and what was prepared stays so.
pub record FillsOne (s : Fillings) (c : Chain) (w : Layer) (l : Laying) (x : VolumeRecord) (old : Volumes) (host faults : ℕ) (room : List ℕ) (turn : FillingsTurn) (f : File) (d e : Content) : Type 0 where
  pub now : File
  pub put : IsPut d (place_kept w) (Some now) e
  pub size : now.size ≡ f.size
  pub comes : ComesBy (HoldSame (header_kept w) (capacity_kept w)) f now
  pub written : FileWritten l f now
  pub prepared : IsPrepared (placed_of s) w l x host now
  pub after : MatchTurn turn
      (λ next. Knows next c w l x old host room now e)
      (λ placed. (placed ≡ placed_of s) × IsFilled placed w l x host now)
      (λ _ refusal. refusal ≡ DiskFault faults)

abbrev pub FillsOn : Fillings → Chain → ℕ → ℕ → List ℕ → List ℕ → List ℕ → FillingsTurn → Content → Content → Type 0
FillsOn s c host faults part before after turn d e = (w : Layer) (l : Laying) (x : VolumeRecord) (old : Volumes) (f : File) → d.file (place_kept w) ≡ Some f → Knows s c w l x old host before f d → l.part.bytes ≡ part
    → FillsOne s c w l x old host faults after turn f d e

-- ---- on every disk

-- the plan and its clusters stay the same
abbrev pub KeepsPlaced : Fillings → FillingsTurn → Type 0
KeepsPlaced s turn = MatchTurn turn (λ next. placed_of next ≡ placed_of s) (λ placed. placed ≡ placed_of s) (λ _ _. Unit {0})

-- ---- of its parts

pub record IsSameWork (s next : Fillings) : Type 0 where
  pub volume : next.volume ≡ s.volume
  pub index : next.index ≡ s.index
  pub at : next.at ≡ s.at
  pub placed : next.placed ≡ s.placed

-- the next cluster is behind
pub record IsPassed (s next : Fillings) : Type 0 where
  pub same : IsSameWork s next
  pub done : next.done ≡ s.done + 1
  pub stage_is : next.stage ≡ Next

-- it is written, so far
pub record IsAtWork (s : Fillings) (work : one.Filling) (next : Fillings) : Type 0 where
  pub same : IsSameWork s next
  pub done : next.done ≡ s.done
  pub stage_is : next.stage ≡ Fills work

-- the next cluster gets a place, and its filling is begun
pub record BeginsOne (s : Fillings) (c : Chain) (next : Fillings) : Type 0 where
  pub place : ℕ
  pub gets : next_place s ≡ Some place
  pub new : NewCluster
  pub is : IsNewCluster s place c new
  pub work : one.Filling
  pub begun : filling.IsBegun new work
  pub next_is : IsAtWork s work next

abbrev pub GoesNext : Fillings → Chain → FillingsTurn → Type 0
GoesNext s c turn = MatchTurn turn
    (λ next. (s.done < many_of s) × (((next_place s ≡ None) × IsPassed s next) ⊎ BeginsOne s c next))
    (λ placed. (placed ≡ s.placed) × (many_of s ≤ s.done))
    (λ _ _. ⊥)
