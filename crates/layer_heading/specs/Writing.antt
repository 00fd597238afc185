-- A step that reads, writes or syncs one sector of a layer's file: its call, what is known of the file, and what it leaves.
use Rattle.std.specs.Prelude.{◌≡◌, ◌≢◌, ℕ, List, length, replicate, Some, Result}
use Rattle.sd_names.specs.Turn.{MatchTurn}
use Rattle.sd_names.specs.declared.place.Dir.{Dir}
use Rattle.sd_names.specs.declared.place.Place.{Place}
use Rattle.sd_names.specs.declared.refusal.Refusal.TheVariants.{DiskFault}
use Rattle.sd_names.specs.declared.turn.Turn.{Turn}
use Rattle.shared_disk.specs.Content.{Content, File}
use Rattle.shared_disk.specs.Calls.{ReadAt, Syncs, WriteAt}
use Rattle.shared_disk.specs.Crash.{IsSettled}
use Rattle.shared_disk.specs.Step.{TurnFollows}
use Rattle.shared_disk.specs.WellFormed.{IsWellFormedFile}
use Rattle.shared_disk.specs.declared.disk.DiskAnswer.{DiskAnswer}
use Rattle.image_model.specs.File as image
use Rattle.qcow_layer.specs.Opening.{place_kept}
use Rattle.qcow_layer.specs.declared.layer.Layer.{Layer}
use Rattle.layer_writing.specs.Holding.{ComesBy, IsBetween, with_sector}
use Rattle.layer_writing.specs.Writer.{IsLeft, KnowsWriter}

-- a turn of work on a layer's head, which answers nothing
abbrev pub Turned : Type 0 → Type 0
Turned S = Turn S (Unit {0}) (Unit {0})

-- ---- the calls

abbrev pub WritesThen : {S : Type 0} → Layer → ℕ → ℕ → List ℕ → ℕ → Turned S → Turned S → Content → Content → Type 0
WritesThen layer host p sector faults next turn d e =
    (answer : Result (Unit {0}) DiskAnswer) × WriteAt d host (place_kept layer) p sector answer e × TurnFollows answer faults turn (λ _. turn ≡ next)

abbrev pub SyncsThen : {S : Type 0} → Layer → ℕ → ℕ → Turned S → Turned S → Content → Content → Type 0
SyncsThen layer host faults next turn d e =
    (answer : Result (Unit {0}) DiskAnswer) × Syncs d host (place_kept layer) answer e × TurnFollows answer faults turn (λ _. turn ≡ next)

-- the first sector is read, and says how it goes on
abbrev pub ReadsThen : {S : Type 0} → Layer → ℕ → ℕ → (List ℕ → Turned S) → Turned S → Content → Content → Type 0
ReadsThen layer host faults next turn d e =
    (answer : Result ℕ DiskAnswer) × (first : List ℕ) × (length first ≡ 512) × ReadAt d host (place_kept layer) 0 (replicate 512 0) first answer e
    × TurnFollows answer faults turn (λ _. turn ≡ next first)

-- ---- what is known

-- the file is known to its writer, and nothing in it is unsynced
pub record IsQuiet (layer : Layer) (host : ℕ) (f : File) : Type 0 where
  pub writer : KnowsWriter layer host f
  pub settled : IsSettled f
  pub formed : IsWellFormedFile f

-- one sector of a quiet file was written: each outcome is the quiet file or has the sector
pub record IsWriting (host p : ℕ) (sector : List ℕ) (g f : File) : Type 0 where
  pub size : f.size ≡ g.size
  pub between : IsBetween host g.stable (with_sector p sector g.stable) f

-- What a step makes of the file: each outcome comes by R from one that the file had before. Where there is more to do the
-- file is known; at `Done` the writer knows it, and it has nothing unsynced. A refusal is the disk's fault.
pub record Leaves {S : Type 0} (R : image.File → image.File → Type 0) (Knows : S → File → Type 0) (layer after : Layer) (host faults : ℕ) (turn : Turned S) (f f' : File) : Type 0 where
  pub size : f'.size ≡ f.size
  pub comes : ComesBy R f f'
  pub next : MatchTurn turn
      (λ next. Knows next f')
      (λ _. KnowsWriter after host f' × IsSettled f')
      (λ _ refusal. (refusal ≡ DiskFault faults) × IsLeft layer host f')

-- No other place and no folder is changed, and so much is left of the layer's file where it was known.
pub record LeavesFile {S : Type 0} (R : image.File → image.File → Type 0) (Knows : S → File → Type 0) (self : S) (layer after : Layer) (host faults : ℕ) (turn : Turned S) (d e : Content) : Type 0 where
  pub dirs : (q : Dir) → e.dir q ≡ d.dir q
  pub others : (q : Place) → q ≢ place_kept layer → e.file q ≡ d.file q
  pub here : (f : File) → d.file (place_kept layer) ≡ Some f → Knows self f → (f' : File) × (e.file (place_kept layer) ≡ Some f') × Leaves R Knows layer after host faults turn f f'
