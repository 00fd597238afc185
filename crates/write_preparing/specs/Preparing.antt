-- The preparing of a write to a layer: what is known between its steps, and what each step leaves.
use Rattle.std.specs.Prelude.{◌≡◌, ◌⊎◌, ℕ, ◌+◌, ◌*◌, ◌<◌, ◌≤◌, List, [], length, Some}
use Rattle.sd_names.specs.Turn.{MatchTurn}
use Rattle.sd_names.specs.declared.kinds.Format.TheVariants.{Cow}
use Rattle.sd_names.specs.declared.refusal.Refusal.{Refusal}
use Rattle.sd_names.specs.declared.refusal.Refusal.TheVariants.{DiskFault, NoRoom}
use Rattle.sd_names.specs.declared.turn.Turn.{Turn}
use Rattle.sd_names.specs.declared.turn.Turn.TheVariants.{More, Done, Ended}
use Rattle.shared_disk.specs.Calls.{IsPut, IsSame}
use Rattle.shared_disk.specs.Content.{Content, File}
use Rattle.shared_disk.specs.Crash.{OnEach}
use Rattle.shared_disk.specs.Step.{IsDiskRefusal, NearsEnd}
use Rattle.shared_disk.specs.WellFormed.{IsWellFormedFile}
use Rattle.image_model.specs.File as image
use Rattle.image_model.specs.Layer.{cluster_size, entry_at, has_table}
use Rattle.image_model.specs.Room.{Need, end_of_room, room_of}
use Rattle.volume_meta.specs.declared.record.VolumeRecord.{VolumeRecord}
use Rattle.layer_laws.specs.Laws.{layer}
use Rattle.qcow_layer.specs.Opening.{capacity_kept, header_kept, place_kept, target_kept, volume_kept}
use Rattle.qcow_layer.specs.declared.layer.Layer.{Layer}
use Rattle.qcow_layer.specs.declared.looking.Looked.{Looked}
use Rattle.layer_writing.specs.Holding.{on_medium}
use Rattle.layer_writing.specs.Writer.{seen_tables}
use Rattle.layer_heading.specs.Clearing as heading
use Rattle.layer_heading.specs.Clearing.{KnowsClearing, clearing_left}
use Rattle.layer_heading.specs.declared.clearing_stage.ClearingStage.TheVariants.{Begun}
use Rattle.layer_heading.specs.Writing.{IsQuiet}
use Rattle.layer_heading.specs.declared.clearing.Clearing as headings
use Rattle.layer_placing.specs.Chosen.{AreLeast, IsShort}
use Rattle.layer_placing.specs.Knows.{ArePlaced}
use Rattle.layer_placing.specs.Placing as placing
use Rattle.layer_placing.specs.declared.stage.Asked.{Asked}
use Rattle.layer_placing.specs.declared.stage.Stage.TheVariants as stages
use Rattle.chain_laws.specs.Laid.{Laying}
use Rattle.chain_laws.specs.Written.{FileWritten}
use Rattle.part_laws.specs.Steps.{AreLayers}
use Rattle.write_planning.specs.Linked.{sectors_of}
use Rattle.write_planning.specs.Plan.{Tells, found_at, looked_up, span_of, wanted_of}
use Rattle.write_planning.specs.Span.{at_of, count_of, first_of, length_of, width_of}
use Rattle.write_planning.specs.declared.plan.WritePlan.{WritePlan}
use Rattle.write_planning.specs.declared.span.Span.{Span}
use Rattle.part_survey.specs.Survey as survey
use Rattle.part_survey.specs.declared.survey.Survey.{Survey}
use Rattle.part_survey.specs.Survey.{HasFound, KnowsSurvey, survey_left}
use Rattle.clearing_laws.specs.Either.{AreEither, IsFoundOnEach}
use Rattle.place_writing.specs.Places as places
use Rattle.place_writing.specs.Places.{HoldsPlaces, IsOver}
use Rattle.place_writing.specs.declared.places.PlaceWriting.{PlaceWriting}
use Rattle.write_preparing.specs.Placed.{clusters_of, plan_of}
use Rattle.write_preparing.specs.declared.placed.Placed.{Placed}
use Rattle.write_preparing.specs.declared.preparing.Preparing.{Preparing}
use Rattle.write_preparing.specs.declared.stage.Stage.{Stage}
use Rattle.write_preparing.specs.declared.stage.Taking.{Taking}
use Rattle.write_preparing.specs.declared.stage.Stage.TheVariants.{Surveying, Asking, Clearing, Placing, InPlace}

abbrev pub StageTurn : Type 0
StageTurn = Turn Stage Placed (Unit {0})

abbrev pub PreparingTurn : Type 0
PreparingTurn = Turn Preparing Placed (Unit {0})

-- ---- on every disk

-- the part, and the clusters that it meets
abbrev pub span_at : Stage → Span
span_at (Surveying s) = span_of (survey.plan_of s)
span_at (Asking a) = span_of a.plan
span_at (Clearing p c) = span_of p
span_at (Placing t) = span_of t.plan
span_at (InPlace p s) = span_of (places.plan_of s)

-- The taking of clusters takes so many steps at the most, with the writing over data behind it: one for each cluster that the
-- part meets, and a table for each of their sectors of entries, are taken.
abbrev pub taking_left : Span → ℕ → ℕ
taking_left s pieces = 1 + count_of s + (count_of s + sectors_of s) * (7 + pieces)

-- how many more steps it takes at the most, where a cluster has so many pieces of 65,536 bytes
abbrev pub stage_left : ℕ → Stage → ℕ
stage_left pieces (Surveying s) = survey_left s + 5 + taking_left (span_of (survey.plan_of s)) pieces
stage_left pieces (Asking a) = 5 + taking_left (span_of a.plan) pieces
stage_left pieces (Clearing p c) = clearing_left c + 1 + taking_left (span_of p) pieces
stage_left pieces (Placing t) = placing.placing_left pieces t.work + count_of (span_of t.plan)
stage_left pieces (InPlace p s) = places.places_left s

-- the part stays the same
abbrev pub IsOfSpan : Span → Stage → Type 0
IsOfSpan s stage = span_at stage ≡ s

abbrev pub StageFalls : ℕ → Stage → StageTurn → Type 0
StageFalls pieces stage turn = NearsEnd (IsOfSpan (span_at stage)) (stage_left pieces) (stage_left pieces stage) turn

-- the part of the plan for which clusters are taken
abbrev pub planned_at : Stage → Span
planned_at (InPlace p s) = span_of (plan_of p)
planned_at stage = span_at stage

-- it stays the same, and is that of what is placed at the end
abbrev pub StagePlans : Stage → StageTurn → Type 0
StagePlans stage turn = MatchTurn turn (λ s. planned_at s ≡ planned_at stage) (λ placed. span_of (plan_of placed) ≡ planned_at stage) (λ _ _. Unit {0})

-- The layer stays one of the same volume, with clusters as large.
pub record IsSameLayer (w next : Layer) : Type 0 where
  pub target : target_kept next ≡ target_kept w
  pub bits : (header_kept next).cluster_bits ≡ (header_kept w).cluster_bits

-- room is asked for where clusters are wanted
abbrev pub AsksNext : WritePlan → Stage → Type 0
AsksNext p (Asking a) = a.plan ≡ p
AsksNext p (Clearing q c) = (q ≡ p) × (heading.stage_of c ≡ Begun) × (wanted_of p ≡ 0)
AsksNext p _ = ⊥

-- the part is written over data, with these clusters
pub record IsFirst (p : WritePlan) (clusters : List ℕ) (placed : Placed) (s : PlaceWriting) : Type 0 where
  pub plan : plan_of placed ≡ p
  pub clusters_are : clusters_of placed ≡ clusters
  pub begun : places.IsBegun p s

abbrev pub WritesFirst : WritePlan → List ℕ → Stage → Type 0
WritesFirst p clusters (InPlace placed s) = IsFirst p clusters placed s
WritesFirst p clusters _ = ⊥

-- clusters are taken where some are wanted
abbrev pub TakesNext : WritePlan → Stage → Type 0
TakesNext p (Placing t) = (t.plan ≡ p) × (wanted_of p ≤ count_of (span_of p) + sectors_of (span_of p)) × placing.IsBegun (wanted_of p) t.work
TakesNext p stage = (wanted_of p ≡ 0) × WritesFirst p [] stage

-- want of room comes where it is asked for, and where clusters are chosen
abbrev pub IsWantOfRoom : Layer → Refusal → Type 0
IsWantOfRoom w (NoRoom v room wanted) = v ≡ volume_kept w
IsWantOfRoom w _ = ⊥

abbrev pub IsPreparingRefusal : Layer → Refusal → Type 0
IsPreparingRefusal w refusal = IsDiskRefusal refusal ⊎ IsWantOfRoom w refusal

-- ---- what is known

-- the part of the volume's layer that is written
pub record IsOf (s : Span) (w : Layer) (l : Laying) (x : VolumeRecord) : Type 0 where
  pub says : l.records l.volume ≡ Some x
  pub cow : x.format ≡ Cow
  pub capacity : x.capacity ≡ capacity_kept w
  pub at : at_of s ≡ 512 * l.part.at
  pub length : length_of s ≡ length l.part.bytes

-- as many clusters are free as are wanted, in a file of so many sectors
pub record HasRoom (w : Layer) (sectors wanted : ℕ) : Type 0 where
  pub chosen : List ℕ
  pub least : (file : image.File) → file.size ≡ 512 * sectors → AreLeast w (end_of_room (room_of (layer (header_kept w) file))) wanted chosen
  pub all : length chosen ≡ wanted

-- What was found of one cluster: its entry is so on each outcome of the file, and the host sees its table so.
pub record IsFoundAt (looked : Looked) (k : ℕ) (w : Layer) (host : ℕ) (f : File) : Type 0 where
  pub entry : OnEach f (λ o. looked.entry ≡ entry_at (layer (header_kept w) (on_medium o)) k)
  pub table : looked.table ≡ has_table (seen_tables w host f) k

-- of all clusters
pub record IsFound (p : WritePlan) (w : Layer) (host : ℕ) (f : File) : Type 0 where
  pub width : width_of (span_of p) ≡ cluster_size (seen_tables w host f)
  pub all : looked_up p ≡ count_of (span_of p)
  pub each : (j : ℕ) → j < looked_up p → (looked : Looked) × (found_at p j ≡ Some looked) × IsFoundAt looked (first_of (span_of p) + j) w host f

pub record KnowsSurveying (s : Survey) (w : Layer) (l : Laying) (x : VolumeRecord) (host : ℕ) (f : File) : Type 0 where
  pub of : IsOf (span_of (survey.plan_of s)) w l x
  pub quiet : IsQuiet w host f
  pub looks : KnowsSurvey s (seen_tables w host f)

pub record KnowsAsking (p : WritePlan) (w : Layer) (l : Laying) (x : VolumeRecord) (host : ℕ) (f : File) : Type 0 where
  pub of : IsOf (span_of p) w l x
  pub quiet : IsQuiet w host f
  pub all : looked_up p ≡ count_of (span_of p)
  pub found : HasFound p (seen_tables w host f)
  pub tells : Tells p (room_of (seen_tables w host f))

pub record KnowsClearingOf (p : WritePlan) (c : headings.Clearing) (w : Layer) (l : Laying) (x : VolumeRecord) (host : ℕ) (f : File) : Type 0 where
  pub of : IsOf (span_of p) w l x
  pub all : looked_up p ≡ count_of (span_of p)
  pub room : 0 < wanted_of p → HasRoom w f.size (wanted_of p)
  pub knows : KnowsClearing w host c f
  pub well : IsWellFormedFile f
  pub either : AreEither x (header_kept w) f
  pub found : IsFoundOnEach p (header_kept w) f

-- a placing that is still to choose finds as much room as it asks for
pub record FindsRoom (w : Layer) (sectors wanted : ℕ) (asked : Asked) : Type 0 where
  pub count : asked.count ≡ wanted
  pub room : HasRoom w sectors wanted

pub record KnowsTaking (t : Taking) (w : Layer) (l : Laying) (x : VolumeRecord) (host : ℕ) (f : File) : Type 0 where
  pub of : IsOf (span_of t.plan) w l x
  pub room : (asked : Asked) → placing.stage_of t.work ≡ stages.Begun asked → FindsRoom w f.size (wanted_of t.plan) asked
  pub knows : placing.KnowsFile t.work w host f
  pub layers : AreLayers x (header_kept w) f
  pub found : IsFound t.plan w host f

-- the part over data, and the clusters that were taken
pub record KnowsPlaces (p : Placed) (s : PlaceWriting) (w : Layer) (l : Laying) (x : VolumeRecord) (host : ℕ) (f : File) : Type 0 where
  pub same : places.plan_of s ≡ plan_of p
  pub places : places.Knows s w l x host f
  pub placed : ArePlaced w host f (clusters_of p)

abbrev pub KnowsStage : Stage → Layer → Laying → VolumeRecord → ℕ → File → Type 0
KnowsStage (Surveying s) w l x host f = KnowsSurveying s w l x host f
KnowsStage (Asking a) w l x host f = KnowsAsking a.plan w l x host f
KnowsStage (Clearing p c) w l x host f = KnowsClearingOf p c w l x host f
KnowsStage (Placing t) w l x host f = KnowsTaking t w l x host f
KnowsStage (InPlace p s) w l x host f = KnowsPlaces p s w l x host f

-- The clusters are taken, and what lies of the part in clusters of data is the volume's own once the host has synced the file.
pub record IsPrepared (p : Placed) (w : Layer) (l : Laying) (x : VolumeRecord) (host : ℕ) (f : File) : Type 0 where
  pub over : IsOver (plan_of p) w l x host f
  pub holds : HoldsPlaces (plan_of p) w l x (count_of (span_of (plan_of p))) host f
  pub placed : ArePlaced w host f (clusters_of p)

-- ---- what a step leaves

-- until room is found nothing is changed
abbrev pub IsEarly : Stage → Type 0
IsEarly (Surveying s) = Unit {0}
IsEarly (Asking a) = Unit {0}
IsEarly stage = ⊥

-- Want of room: it is short of as many clusters as the part's write needs, and nothing is changed.
pub record LacksRoom (s : Span) (w next : Layer) (host : ℕ) (refusal : Refusal) (f : File) (d e : Content) : Type 0 where
  pub same : IsSame d e
  pub layer : next ≡ w
  pub room : ℕ
  pub wanted : ℕ
  pub says : refusal ≡ NoRoom (volume_kept w) room wanted
  pub short : IsShort w (room_of (seen_tables w host f)) (Need (room_of (seen_tables w host f)) (first_of s) (first_of s + count_of s)) room wanted

abbrev pub MayEnd : Stage → Layer → Layer → ℕ → ℕ → Refusal → File → Content → Content → Type 0
MayEnd (Asking a) w next host faults refusal f d e = (refusal ≡ DiskFault faults) ⊎ LacksRoom (span_of a.plan) w next host refusal f d e
MayEnd stage w next host faults refusal f d e = refusal ≡ DiskFault faults

-- A step changes the layer's file alone, and each outcome of it comes from one before, over which sectors of the part may be laid.
pub record Prepares (stage : Stage) (w next : Layer) (l : Laying) (x : VolumeRecord) (host faults : ℕ) (turn : StageTurn) (f : File) (d e : Content) : Type 0 where
  pub now : File
  pub put : IsPut d (place_kept w) (Some now) e
  pub early : IsEarly stage → IsSame d e
  pub written : FileWritten l f now
  pub after : MatchTurn turn
      (λ s. KnowsStage s next l x host now)
      (λ placed. IsPrepared placed next l x host now)
      (λ _ refusal. MayEnd stage w next host faults refusal f d e)

abbrev pub PreparesAt : Stage → Layer → Layer → ℕ → ℕ → StageTurn → Content → Content → Type 0
PreparesAt stage w next host faults turn d e = (l : Laying) (x : VolumeRecord) (f : File) → d.file (place_kept w) ≡ Some f → KnowsStage stage w l x host f → Prepares stage w next l x host faults turn f d e

-- so it is with the part that is laid
abbrev pub PreparesIn : Stage → Layer → Layer → ℕ → ℕ → List ℕ → StageTurn → Content → Content → Type 0
PreparesIn stage w next host faults part turn d e = (l : Laying) (x : VolumeRecord) (f : File) → d.file (place_kept w) ≡ Some f → KnowsStage stage w l x host f → l.part.bytes ≡ part
    → Prepares stage w next l x host faults turn f d e

-- ---- whether the header has lost the features that a writer clears

abbrev pub IsPlain : Layer → Type 0
IsPlain w = (header_kept w).autoclear_features ≡ 0

-- so it has in each stage that changes anything but the header
abbrev pub StagePlain : Stage → Layer → Type 0
StagePlain (Placing t) w = IsPlain w
StagePlain (InPlace p s) w = IsPlain w
StagePlain stage w = Unit {0}

abbrev pub KeepsPlain : Stage → Layer → Layer → StageTurn → Type 0
KeepsPlain stage w next turn = StagePlain stage w → MatchTurn turn (λ s. StagePlain s next) (λ _. IsPlain next) (λ _ _. Unit {0})

-- ---- room was asked for

-- the header is cleared next, for the same plan
abbrev pub ClearsNext : WritePlan → Stage → Type 0
ClearsNext p (Clearing q c) = (q ≡ p) × (heading.stage_of c ≡ Begun)
ClearsNext p _ = ⊥

-- where room was asked for and is there, the header is cleared next
abbrev pub GoesBehind : Stage → StageTurn → Type 0
GoesBehind (Asking a) turn = MatchTurn turn (ClearsNext a.plan) (λ _. ⊥) (λ _ _. Unit {0})
GoesBehind _ turn = Unit {0}

-- ---- in public words

abbrev pub stage_of : Preparing → Stage
stage_of p = p.stage

abbrev pub stage_turn : PreparingTurn → StageTurn
stage_turn (More p) = More p.stage
stage_turn (Done placed) = Done placed
stage_turn (Ended b refusal) = Ended b refusal

abbrev pub span_in : Preparing → Span
span_in p = span_at p.stage

abbrev pub planned_in : Preparing → Span
planned_in p = planned_at p.stage

abbrev pub Plans : Preparing → PreparingTurn → Type 0
Plans p turn = StagePlans p.stage (stage_turn turn)

abbrev pub preparing_left : ℕ → Preparing → ℕ
preparing_left pieces p = stage_left pieces p.stage

abbrev pub IsSamePart : Preparing → Preparing → Type 0
IsSamePart p next = span_in next ≡ span_in p

abbrev pub Knows : Preparing → Layer → Laying → VolumeRecord → ℕ → File → Type 0
Knows p w l x host f = KnowsStage p.stage w l x host f

abbrev pub PreparesOn : Preparing → Layer → Layer → ℕ → ℕ → List ℕ → PreparingTurn → Content → Content → Type 0
PreparesOn p w next host faults part turn d e = PreparesIn p.stage w next host faults part (stage_turn turn) d e

abbrev pub IsPlainIn : Preparing → Layer → Type 0
IsPlainIn p w = StagePlain p.stage w

abbrev pub StaysPlain : Preparing → Layer → Layer → PreparingTurn → Type 0
StaysPlain p w next turn = KeepsPlain p.stage w next (stage_turn turn)

abbrev pub GoesOnWithRoom : Preparing → PreparingTurn → Type 0
GoesOnWithRoom p turn = GoesBehind p.stage (stage_turn turn)

-- a preparing that was begun
pub record IsBegun (s : Span) (p : Preparing) : Type 0 where
  pub span : span_in p ≡ s
  pub planned : planned_in p ≡ s
  pub left : (pieces : ℕ) → preparing_left pieces p ≡ 2 * count_of s + 5 + taking_left s pieces
  pub early : IsEarly p.stage
  pub plain : (w : Layer) → IsPlainIn p w
  pub knows : (w : Layer) (l : Laying) (x : VolumeRecord) (host : ℕ) (f : File) → IsOf s w l x → IsQuiet w host f → width_of s ≡ cluster_size (seen_tables w host f) → Knows p w l x host f
