-- What a step of a read does.
use Rattle.std.specs.Prelude.{◌≡◌, ◌⊎◌, ℕ, ◌+◌, ◌*◌, ◌/◌, ◌^◌, ◌<◌, ◌≤◌, Bool, true, List, length, slice_get, Contains, Some, None}
use Rattle.sd_names.specs.Turn.{MatchTurn}
use Rattle.sd_names.specs.declared.absence.Absence.TheVariants as absence
use Rattle.sd_names.specs.declared.id.Id.{Id}
use Rattle.sd_names.specs.declared.place.Place.{Place}
use Rattle.sd_names.specs.declared.refusal.Refusal.{Refusal}
use Rattle.sd_names.specs.declared.refusal.Refusal.TheVariants.{Vanished}
use Rattle.sd_names.specs.declared.turn.Turn.{Turn}
use Rattle.shared_disk.specs.Calls.{IsSame}
use Rattle.shared_disk.specs.Content.{Content, File}
use Rattle.shared_disk.specs.Crash.{IsSettled}
use Rattle.qcow_layer.specs.Looking.{IsFault}
use Rattle.qcow_layer.specs.Opening.{place_kept}
use Rattle.qcow_layer.specs.Seen.{IsReadRefusal}
use Rattle.qcow_layer.specs.declared.layer.Layer.{Layer}
use Rattle.chain_model.specs.Folder.{Volumes}
use Rattle.volume_chain.specs.Chain.{IsShaped, open_in, path_in, place_in, target_of}
use Rattle.volume_chain.specs.declared.chain.Chain.{Chain}
use Rattle.volume_chain.specs.declared.volumes.OpenVolume.TheVariants.{Cow}
use Rattle.chain_reading.specs.Knowing.{IsReadAs, Knows, KnowsImage, KnowsIn, place_on}
use Rattle.chain_reading.specs.Laying.{IsLaid, LaysZeros, is_missing}
use Rattle.chain_reading.specs.Left.{steps_from, steps_left}
use Rattle.chain_reading.specs.Running.{HasSectors}
use Rattle.chain_reading.specs.declared.part.ReadPart.{ReadPart}
use Rattle.chain_reading.specs.declared.part.Stage.{Stage}
use Rattle.chain_reading.specs.declared.part.Stage.TheVariants.{Asking}
use Rattle.chain_reading.specs.declared.running.Run.{Run}

abbrev pub PartTurn : Type 0
PartTurn = Turn ReadPart (Unit {0}) (Unit {0})

-- the volume that is read, and the sector of it with which the part begins
abbrev pub volume_of : ReadPart → Id
volume_of p = p.volume

abbrev pub first_sector : ReadPart → ℕ
first_sector p = p.first

-- a read of the same part
pub record IsSamePart (p next : ReadPart) : Type 0 where
  pub volume : next.volume ≡ p.volume
  pub first : next.first ≡ p.first

abbrev pub KeepsPart : ReadPart → PartTurn → Type 0
KeepsPart p turn = MatchTurn turn (IsSamePart p) (λ _. Unit {0}) (λ _ _. Unit {0})

-- a read that was begun: it knows each image that a chain knows, where its volume is one of the chain's path
pub record IsBegun (p : ReadPart) (v : Id) (at : ℕ) : Type 0 where
  pub volume : volume_of p ≡ v
  pub first : first_sector p ≡ at / 512
  pub left : (c : Chain) (count : ℕ) → steps_left p c count ≡ steps_from c (at / 512) count (place_on v (path_in c)) + 2
  pub knows : (c : Chain) (host : ℕ) (x : Volumes) (part : List ℕ) (d : Content) → KnowsImage c v host x d → Contains (path_in c) v
      → at + length part ≤ 2 ^ 64 → Knows p c host x part d

-- a volume of the path that is asked for this one: this one or one below it
abbrev pub IsAskedFrom : Chain → Id → Id → Type 0
IsAskedFrom c v w = (i : ℕ) × (place_on v (path_in c) ≤ i) × (slice_get (path_in c) i ≡ Some w)

-- a second chain of the same path, with the same volumes open from this one on
pub record IsAlikeFrom (c b : Chain) (v : Id) : Type 0 where
  pub shape : IsShaped b
  pub target : target_of b ≡ target_of c
  pub path : path_in b ≡ path_in c
  pub all : length (open_in b) ≡ length (open_in c)
  pub opened : (i : ℕ) → place_on v (path_in c) ≤ i → slice_get (open_in b) i ≡ slice_get (open_in c) i

-- the place of a volume of the path, or the one that its layer keeps
abbrev pub IsOnPath : Chain → Place → Type 0
IsOnPath c q = (k : ℕ) × (((v : Id) × (slice_get (path_in c) k ≡ Some v) × (q ≡ place_in (target_of c) v))
    ⊎ ((l : Layer) × (slice_get (open_in c) k ≡ Some (Cow l)) × (q ≡ place_kept l)))

-- 122 comes only where the file of a volume of the path isn't there
abbrev pub IsGone : Chain → Refusal → Content → Type 0
IsGone c (Vanished a) d = (a ≡ absence.NoFile) × ((q : Place) × IsOnPath c q × (d.file q ≡ None))
IsGone c _ d = Unit {0}

-- What a step does in a stage: it changes nothing. Where the read knows its image and what the part has so far, it knows
-- it still, the part is read, or the disk failed.
pub record ReadsIn (stage : Stage) (p : ReadPart) (c : Chain) (host : ℕ) (before after : List ℕ) (turn : PartTurn) (d e : Content) : Type 0 where
  pub same : IsSame d e
  pub gone : MatchTurn turn (λ _. Unit {0}) (λ _. Unit {0}) (λ _ refusal. IsGone c refusal d)
  pub leaves : (x : Volumes) → KnowsIn stage p c host x before d → MatchTurn turn
      (λ next. Knows next c host x after e)
      (λ _. IsReadAs p c x after)
      (λ _ refusal. IsFault refusal)

abbrev pub ReadsOn : ReadPart → Chain → ℕ → List ℕ → List ℕ → PartTurn → Content → Content → Type 0
ReadsOn p c host before after turn d e = ReadsIn p.stage p c host before after turn d e

-- ---- of its parts

-- the volume was found on the path, and each sector is missing
pub record IsFoundOn (p : ReadPart) (c : Chain) (next : ReadPart) : Type 0 where
  pub part : IsSamePart p next
  pub stage : next.stage ≡ Asking
  pub index : next.index ≡ place_on p.volume (path_in c)
  pub from : next.run.from ≡ 0
  pub to : next.run.to ≡ 0
  pub all : (j : ℕ) → j < 128 → is_missing next.missing j ≡ true

-- the same read in a stage, with no run but behind sector `at`
pub record IsBehind (p : ReadPart) (at : ℕ) (stage : Stage) (next : ReadPart) : Type 0 where
  pub part : IsSamePart p next
  pub stage_is : next.stage ≡ stage
  pub index : next.index ≡ p.index
  pub from : next.run.from ≡ at
  pub to : next.run.to ≡ at

abbrev pub IsBehindThen : ReadPart → PartTurn → Type 0
IsBehindThen p turn = MatchTurn turn (IsBehind p p.run.to p.stage) (λ _. ⊥) (λ _ _. Unit {0})

-- the same read with this run and in this stage
pub record RunsOn (p : ReadPart) (r : Run) (stage : Stage) (next : ReadPart) : Type 0 where
  pub part : IsSamePart p next
  pub stage_is : next.stage ≡ stage
  pub index : next.index ≡ p.index
  pub missing : next.missing ≡ p.missing
  pub run : next.run ≡ r

-- the next volume is asked
pub record IsPassed (p next : ReadPart) : Type 0 where
  pub part : IsSamePart p next
  pub stage_is : next.stage ≡ Asking
  pub index : next.index ≡ p.index + 1
  pub missing : next.missing ≡ p.missing
  pub from : next.run.from ≡ 0
  pub to : next.run.to ≡ 0

-- the run was read from this file, or the read failed
pub record FillsIn (p : ReadPart) (place : Place) (before after : List ℕ) (faults : ℕ) (turn : PartTurn) (d e : Content) : Type 0 where
  pub same : IsSame d e
  pub leaves : MatchTurn turn
      (λ next. (f : File) → d.file place ≡ Some f → IsSettled f → p.run.sector < 2 ^ 55 → 512 * p.run.to ≤ length before
      → (bytes : List ℕ) × HasSectors p.run f bytes × IsLaid p.missing next.missing before after p.run.from p.run.to bytes)
      (λ _. ⊥)
      (λ _ refusal. IsReadRefusal place faults refusal d)

-- each sector of the part that was missing is zeros, and all others are as they were
abbrev pub IsFinished : ReadPart → List ℕ → List ℕ → Type 0
IsFinished p before after =
    (missing : List Bool) × LaysZeros p.missing missing before after 0 (length before / 512)
