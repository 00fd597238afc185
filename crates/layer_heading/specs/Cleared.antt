-- A layer without the features that a writer clears (qcow2 specification, "Header": autoclear_features, bytes 88 to 95).
use Rattle.std.specs.Prelude.{◌≡◌, ◌⊎◌, ℕ, ◌<◌, ◌≤◌, List, replicate, Ok}
use Rattle.qcow_format.specs.Bytes.{put}
use Rattle.qcow_format.specs.Name.{backing_id}
use Rattle.qcow_format.specs.declared.header.Header.{Header}
use Rattle.image_model.specs.File.{File}
use Rattle.image_model.specs.Soundness.{layer_header}
use Rattle.layer_laws.specs.Laws as laws

-- the header without them
abbrev pub cleared : Header → Header
cleared h = record h { autoclear_features = 0 }

-- the first sector without them, in which all other bytes are as they were
abbrev pub cleared_sector : List ℕ → List ℕ
cleared_sector first = put 88 (replicate 8 0) first

-- A second file is the layer without them: its header says so, and all other bytes, the parent and all else that the layer
-- says are as they were.
pub record IsCleared (h : Header) (capacity : ℕ) (f g : File) : Type 0 where
  pub header : layer_header g capacity ≡ Ok (cleared h)
  pub parent : backing_id (cleared h) g.head ≡ backing_id h f.head
  pub others : (i : ℕ) → (i < 88) ⊎ (96 ≤ i) → g.byte i ≡ f.byte i
  pub rest : laws.Rebased h (cleared h) capacity f g

-- what a step may make of a file: nothing, or the layer without them
abbrev pub IsOldOrCleared : Header → ℕ → File → File → Type 0
IsOldOrCleared h capacity f g = (g ≡ f) ⊎ IsCleared h capacity f g
