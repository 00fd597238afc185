-- A lengthening between its steps, and what each leaves.
use Rattle.std.specs.Prelude.{◌≡◌, ◌≢◌, ◌⊎◌, ℕ, ◌+◌, ◌*◌, ◌/◌, ◌%◌, ◌^◌, ◌<◌, ◌≤◌, Option, Some, None, Result}
use Rattle.sd_names.specs.Turn.{MatchTurn}
use Rattle.sd_names.specs.declared.absence.Absence.TheVariants as absence
use Rattle.sd_names.specs.declared.place.Dir.{Dir}
use Rattle.sd_names.specs.declared.place.Place.{Place}
use Rattle.sd_names.specs.declared.refusal.Refusal.TheVariants.{DiskFault, Vanished}
use Rattle.sd_names.specs.declared.turn.Turn.{Turn}
use Rattle.sd_names.specs.declared.turn.Turn.TheVariants.{More, Done, Ended}
use Rattle.shared_disk.specs.Calls.{HasLength}
use Rattle.shared_disk.specs.Changes.{grown}
use Rattle.shared_disk.specs.Content.{Content, File}
use Rattle.shared_disk.specs.SectorCalls.{Grows}
use Rattle.shared_disk.specs.Step.{TurnFollows}
use Rattle.shared_disk.specs.declared.disk.DiskAnswer.{DiskAnswer}
use Rattle.qcow_layer.specs.Knowing.{KnowsLayer}
use Rattle.qcow_layer.specs.Opening.{header_kept, place_kept}
use Rattle.qcow_layer.specs.declared.layer.Layer.{Layer}
use Rattle.settling_steps.specs.declared.lengthening.Lengthening.{Lengthening}
use Rattle.settling_steps.specs.declared.lengthening.Lengthening.TheVariants.{Asking, Growing}

abbrev pub LengthTurn : Type 0
LengthTurn = Turn Lengthening (Unit {0}) (Unit {0})

-- the size of the layer's clusters, in bytes
abbrev pub width_of : Layer → ℕ
width_of layer = 2 ^ (header_kept layer).cluster_bits

-- the least multiple of a size that isn't below a length
pub record IsNextMultiple (size length next : ℕ) : Type 0 where
  pub whole : next % size ≡ 0
  pub above : length ≤ next
  pub least : next < length + size

-- that multiple, where 64 bits hold it
abbrev pub IsWholeLength : ℕ → ℕ → Option ℕ → Type 0
IsWholeLength size length None = 2 ^ 64 < length + size
IsWholeLength size length (Some next) = IsNextMultiple size length next

-- how many steps are left
abbrev pub steps_left : Lengthening → ℕ
steps_left Asking = 2
steps_left (Growing length) = 1

-- ---- the calls

-- a file of whole clusters stays, and any other one is grown, where it can be
abbrev pub TurnsBy : ℕ → LengthTurn → Option ℕ → Type 0
TurnsBy length turn None = turn ≡ Ended tt (Vanished absence.OutOfFile)
TurnsBy length turn (Some next) = ((next ≡ length) × (turn ≡ Done tt)) ⊎ ((next ≢ length) × (turn ≡ More (Growing next)))

abbrev pub AsksLength : Layer → ℕ → LengthTurn → Content → Content → Type 0
AsksLength layer faults turn d e =
    (answer : Result ℕ DiskAnswer) × HasLength d (place_kept layer) answer e
    × TurnFollows answer faults turn (λ n. (next : Option ℕ) × IsWholeLength (width_of layer) n next × TurnsBy n turn next)

abbrev pub GrowsFile : ℕ → Layer → ℕ → LengthTurn → Content → Content → Type 0
GrowsFile length layer faults turn d e =
    (answer : Result (Unit {0}) DiskAnswer) × Grows d (place_kept layer) (length / 512) answer e × TurnFollows answer faults turn (λ _. turn ≡ Done tt)

-- the call of a step, whatever stands in the file
abbrev pub CallOf : Lengthening → Layer → ℕ → LengthTurn → Content → Content → Type 0
CallOf Asking layer faults turn d e = AsksLength layer faults turn d e
CallOf (Growing length) layer faults turn d e = GrowsFile length layer faults turn d e

-- ---- where the content is told

-- The layer knows its file, and 64 bits hold the next whole length.
pub record KnowsLong (layer : Layer) (host : ℕ) (d : Content) : Type 0 where
  pub file : File
  pub there : d.file (place_kept layer) ≡ Some file
  pub knows : KnowsLayer layer host file
  pub room : 512 * file.size + width_of layer ≤ 2 ^ 64

-- so it is, and the file has whole clusters
pub record IsWhole (layer : Layer) (host : ℕ) (d : Content) : Type 0 where
  pub file : File
  pub there : d.file (place_kept layer) ≡ Some file
  pub knows : KnowsLayer layer host file
  pub whole : 512 * file.size % width_of layer ≡ 0

-- the file is to get a whole length, and isn't longer
pub record IsToGrow (layer : Layer) (host length : ℕ) (d : Content) : Type 0 where
  pub long : KnowsLong layer host d
  pub whole : length % width_of layer ≡ 0
  pub above : 512 * long.file.size ≤ length
  pub fits : length < 2 ^ 64

abbrev pub Knows : Lengthening → Layer → ℕ → Content → Type 0
Knows Asking layer host d = KnowsLong layer host d
Knows (Growing length) layer host d = IsToGrow layer host length d

-- a file as it was, or made longer with zeros
abbrev pub IsGrownFile : File → File → Type 0
IsGrownFile f g = (g ≡ f) ⊎ ((size : ℕ) × (g ≡ grown size f))

-- A step changes nothing but the length of the layer's file. A refusal is the disk's fault, where the file is known.
pub record Lengthens (self : Lengthening) (layer : Layer) (host faults : ℕ) (turn : LengthTurn) (d e : Content) : Type 0 where
  pub dirs : (q : Dir) → e.dir q ≡ d.dir q
  pub others : (q : Place) → q ≢ place_kept layer → e.file q ≡ d.file q
  pub here : (f : File) → d.file (place_kept layer) ≡ Some f → (g : File) × (e.file (place_kept layer) ≡ Some g) × IsGrownFile f g
  pub none : d.file (place_kept layer) ≡ None → e.file (place_kept layer) ≡ None
  pub after : Knows self layer host d → MatchTurn turn
      (λ next. Knows next layer host e)
      (λ _. IsWhole layer host e)
      (λ _ refusal. refusal ≡ DiskFault faults)
