-- Zeros that are written over a part of a file in which nothing is unsynced.
use Rattle.std.specs.Prelude.{◌≡◌, ◌⊎◌, ℕ, ◌+◌, ◌*◌, ◌<◌, ◌≤◌, slice_index, List, None}
use Rattle.shared_disk.specs.Content.{File, seen}
use Rattle.shared_disk.specs.Crash.{IsAlone, OnEach}
use Rattle.shared_disk.specs.WellFormed.{IsWellFormedFile}
use Rattle.qcow_layer.specs.declared.layer.Layer.{Layer}
use Rattle.layer_heading.specs.Writing.{IsQuiet}

-- By sectors: each byte is as it was, or it stands from one place up to another and is 0.
abbrev pub IsBlanked : ℕ → ℕ → (ℕ → List ℕ) → (ℕ → List ℕ) → Type 0
IsBlanked low high s s' = (k i : ℕ) → i < 512 → (slice_index (s' k) i ≡ slice_index (s k) i) ⊎ ((low ≤ 512 * k + i) × (512 * k + i < high) × (slice_index (s' k) i ≡ 0))

-- from one place up to another all bytes are 0
abbrev pub AreBlank : ℕ → ℕ → (ℕ → List ℕ) → Type 0
AreBlank low high s = (k i : ℕ) → i < 512 → low ≤ 512 * k + i → 512 * k + i < high → slice_index (s k) i ≡ 0

-- Zeros were written over a part of a quiet file, and may be unsynced: on each outcome, and as the host sees it, the file is the
-- quiet one with zeros there.
pub record IsBlanking (layer : Layer) (host low high : ℕ) (g f : File) : Type 0 where
  pub quiet : IsQuiet layer host g
  pub size : f.size ≡ g.size
  pub alone : IsAlone host f
  pub made : f.fresh ≡ None
  pub formed : IsWellFormedFile f
  pub sees : IsBlanked low high g.stable (seen host f)
  pub each : OnEach f (λ o. IsBlanked low high g.stable o.stable)
