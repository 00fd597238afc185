-- What an opening knows between its steps, and what a step does.
use Rattle.std.specs.Prelude.{◌≡◌, ◌⊎◌, ℕ, ◌+◌, ◌-◌, ◌*◌, ◌/◌, ◌^◌, ◌<◌, ◌≤◌, min, max, Bool, true, false, not, List, Option, None, Ok}
use Rattle.sd_names.specs.declared.id.Id.{Id}
use Rattle.sd_names.specs.declared.refusal.Refusal.{Refusal}
use Rattle.sd_names.specs.declared.refusal.Refusal.TheVariants.{DiskFault, Vanished, LayerRefused, OutOfMemory}
use Rattle.sd_names.specs.declared.absence.Absence.TheVariants as absence
use Rattle.sd_names.specs.declared.turn.Turn.{Turn}
use Rattle.sd_names.specs.declared.turn.Turn.TheVariants.{More, Done, Ended}
use Rattle.sd_names.specs.Turn.{MatchTurn}
use Rattle.shared_disk.specs.Content.{Content}
use Rattle.shared_disk.specs.Calls.{IsSame}
use Rattle.shared_disk.specs.Step.{IsDiskRefusal}
use Rattle.qcow_format.specs.declared.header.Header.{Header}
use Rattle.qcow_format.specs.Header.{header_of}
use Rattle.qcow_format.specs.Name.{backing_id}
use Rattle.image_model.specs.File.{File, file_of}
use Rattle.image_model.specs.Layer.{is_used}
use Rattle.image_model.specs.Soundness.{layer_header, HasFault, IsSound}
use Rattle.layer_walk.specs.Bits.{room_of}
use Rattle.layer_walk.specs.Known.{WalkKnows, tables_of, work_of}
use Rattle.layer_walk.specs.Marks.{MarksFile, free_by, map_size}
use Rattle.layer_walk.specs.declared.walk.Passed.{Passed}
use Rattle.layer_walk.specs.declared.walk.Passed.TheVariants as passed
use Rattle.layer_walk.specs.declared.work.Work.{Work}
use Rattle.qcow_layer.specs.Seen.{IsSeen, head_of}
use Rattle.qcow_layer.specs.declared.stages.Target.{Target}
use Rattle.qcow_layer.specs.declared.stages.Stage.{Stage}
use Rattle.qcow_layer.specs.declared.stages.Stage.TheVariants.{Begun, Sized, Walking}

-- How long a file becomes for a volume of a capacity, in bytes: what the capacity, an eighth of it and 2 MiB come to, in
-- whole units of 65,536 bytes. No file has a length that 64 bits can't hold.
abbrev pub roof : ℕ → ℕ
roof capacity = min (capacity + capacity / 8 + 2_097_152) (2 ^ 64 - 1) / 65_536 * 65_536

-- the header is that of the file, and the parent the identifier with which the backing file's name in it ends
abbrev pub HasHeader : ℕ → File → Work → Type 0
HasHeader capacity file work = (layer_header file capacity ≡ Ok work.header) × (work.parent ≡ backing_id work.header file.head)

-- so it is, and the map has the clusters of the file, and those that it gets
pub record IsWork (target : Target) (file : File) (work : Work) : Type 0 where
  pub header : HasHeader target.capacity file work
  pub marks : MarksFile work.marks (tables_of work file)
  pub room : room_of work.marks.free ≡ map_size (max file.size (roof target.greatest)) (2 ^ work.header.cluster_bits)

-- What is known in a stage of a file that has, or had when it was asked, so many sectors. `now` is how many it has.
abbrev pub StageKnows : Target → ℕ → ℕ → (ℕ → List ℕ) → Stage → Type 0
StageKnows target now count sectors Begun = count ≡ now
StageKnows target now count sectors (Sized length) = (length ≡ 512 * count) × (512 ≤ length)
StageKnows target now count sectors (Walking w) =
    IsWork target (file_of count sectors) (work_of w) × WalkKnows (tables_of (work_of w) (file_of count sectors)) target.capacity w

pub record Knows (target : Target) (host count : ℕ) (sectors : ℕ → List ℕ) (stage : Stage) (d : Content) : Type 0 where
  pub seen : IsSeen host target.place count sectors d
  pub holds : StageKnows target seen.file.size count sectors stage

-- A layer that was opened: its file is sound, and in its map those clusters are free that aren't used.
pub record IsOpened (target : Target) (file : File) (work : Work) : Type 0 where
  pub sound : IsSound file target.capacity
  pub is_work : IsWork target file work
  pub free : (c : ℕ) → c < room_of work.marks.free → free_by work.marks c ≡ not (is_used (tables_of work file) c)

-- A refusal is the layer's first fault, or want of memory where its header is fine. `Vanished` never comes for a file that
-- is there.
abbrev pub IsRefused : Target → File → Refusal → Type 0
IsRefused target file (LayerRefused v fault) = (v ≡ target.volume) × HasFault file target.capacity fault
IsRefused target file (DiskFault n) = Unit {0}
IsRefused target file OutOfMemory = (h : Header) × (layer_header file target.capacity ≡ Ok h)
IsRefused target file _ = ⊥

-- what a step leaves where the file is known
abbrev pub After : Target → ℕ → ℕ → (ℕ → List ℕ) → Turn Stage Work (Unit {0}) → Content → Type 0
After target host count sectors turn e = MatchTurn turn
    (λ next. Knows target host count sectors next e)
    (λ work. IsOpened target (file_of count sectors) work)
    (λ _ refusal. IsRefused target (file_of count sectors) refusal)

-- it isn't there, where a step says so
abbrev pub IsGone : Target → Refusal → Content → Type 0
IsGone target (Vanished a) d = (a ≡ absence.NoFile) × (d.file target.place ≡ None)
IsGone target _ d = Unit {0}

-- a step changes nothing on the disk
pub record Steps (target : Target) (host : ℕ) (stage : Stage) (turn : Turn Stage Work (Unit {0})) (d e : Content) : Type 0 where
  pub same : IsSame d e
  pub gone : MatchTurn turn (λ _. Unit {0}) (λ _. Unit {0}) (λ _ refusal. IsGone target refusal d)
  pub after : (count : ℕ) (sectors : ℕ → List ℕ) → Knows target host count sectors stage d → After target host count sectors turn e

-- where a file of this length has this header, of which the profile's rules hold, the next stage is as it has to be
abbrev pub BeginsWork : Target → ℕ → Header → Option Id → Turn Stage Work (Unit {0}) → Type 0
BeginsWork target length header parent turn = (host count : ℕ) (sectors : ℕ → List ℕ) (d : Content) → IsSeen host target.place count sectors d
    → length ≡ 512 * count → 512 ≤ length → header_of (head_of count sectors) ≡ Ok header → parent ≡ backing_id header (head_of count sectors) → After target host count sectors turn d

-- what a sector of the tables leaves: the next stage, the layer, or its first fault
abbrev pub turn_of : Target → Passed → Turn Stage Work (Unit {0})
turn_of target (passed.More w) = More (Walking w)
turn_of target (passed.Sound work) = Done work
turn_of target (passed.Fault fault) = Ended tt (LayerRefused target.volume fault)

-- the step that takes the map of clusters, which alone may want for memory
abbrev pub takes_map : Stage → Bool
takes_map Begun = false
takes_map (Sized length) = true
takes_map (Walking w) = false

-- a refusal of the layer itself, or want of memory where a step takes some
abbrev pub IsOwnRefusal : Bool → Refusal → Type 0
IsOwnRefusal takes (LayerRefused v fault) = Unit {0}
IsOwnRefusal takes OutOfMemory = takes ≡ true
IsOwnRefusal takes _ = ⊥

-- the refusals that end a step of an opening
abbrev pub IsOpeningRefusal : Bool → Refusal → Type 0
IsOpeningRefusal takes refusal = IsDiskRefusal refusal ⊎ IsOwnRefusal takes refusal
