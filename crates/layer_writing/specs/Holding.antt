-- What two files of a layer have in common, and how the outcomes of a file come from those that it had before.
use Rattle.std.specs.Prelude.{◌≡◌, ◌⊎◌, ℕ, ◌+◌, ◌*◌, ◌/◌, ◌%◌, ◌<◌, ◌≤◌, ◌==◌, if◌then◌else◌, Bool, List, None, Ok}
use Rattle.shared_disk.specs.Calls.{sectors_in}
use Rattle.shared_disk.specs.Content.{File, sector_of, seen}
use Rattle.shared_disk.specs.Crash.{IsAlone, IsFileOutcome, IsLaidOver, OnEach}
use Rattle.qcow_format.specs.Bytes.{number}
use Rattle.qcow_format.specs.Name.{backing_id}
use Rattle.qcow_format.specs.declared.header.Header.{Header}
use Rattle.image_model.specs.File as image
use Rattle.image_model.specs.File.{file_of}
use Rattle.image_model.specs.Layer.{Tables, cluster_size, count_of, entry_at, own_byte}
use Rattle.image_model.specs.Soundness.{layer_header}
use Rattle.layer_laws.specs.Laws.{IsUnnamed, Overwritten, SameLayer, layer}

-- a file by its numbers: what is on the medium, as on an outcome, and what a host sees
abbrev pub on_medium : File → image.File
on_medium f = file_of f.size f.stable

abbrev pub as_seen : ℕ → File → image.File
as_seen host f = file_of f.size (seen host f)

-- The layer is the same: header, backing file, names, entries, tables and blocks. Counts and bytes may differ.
pub record IsLike (h : Header) (capacity : ℕ) (f g : image.File) : Type 0 where
  pub same : SameLayer h capacity f g
  pub parent : backing_id h g.head ≡ backing_id h f.head

-- so it is, and it holds the same bytes of the virtual disk
pub record IsKept (h : Header) (capacity : ℕ) (f g : image.File) : Type 0 where
  pub like : IsLike h capacity f g
  pub bytes : (i : ℕ) → own_byte (layer h g) i ≡ own_byte (layer h f) i

-- The layer holds the same of the virtual disk, over the same backing file. Tables and blocks may be others.
pub record HoldSame (h : Header) (capacity : ℕ) (f g : image.File) : Type 0 where
  pub header : layer_header g capacity ≡ layer_header f capacity
  pub parent : backing_id h g.head ≡ backing_id h f.head
  pub entries : (k : ℕ) → entry_at (layer h g) k ≡ entry_at (layer h f) k
  pub bytes : (i : ℕ) → own_byte (layer h g) i ≡ own_byte (layer h f) i

-- each outcome of the second file comes by R from an outcome of the first
abbrev pub ComesBy : (image.File → image.File → Type 0) → File → File → Type 0
ComesBy R f f' = OnEach f' (λ g. (o : File) × IsFileOutcome f o × R (on_medium o) (on_medium g))

-- A place that an entry may name: it begins a cluster that lies whole in the file, has a count, and that no position names.
pub record IsSpare (t : Tables) (capacity place : ℕ) : Type 0 where
  pub begins : place % cluster_size t ≡ 0
  pub inside : place + cluster_size t ≤ t.file.size
  pub counted : 0 < count_of t (place / cluster_size t)
  pub unnamed : IsUnnamed t capacity place

-- ---- one sector is written, and not yet synced

-- the sectors of a file with this one in place of one
abbrev pub with_sector : ℕ → List ℕ → (ℕ → List ℕ) → ℕ → List ℕ
with_sector at bytes sectors k = if k == at then bytes else sectors k

-- what is on the medium is the one or the other
abbrev pub IsEither : (ℕ → List ℕ) → (ℕ → List ℕ) → File → Type 0
IsEither old new g = (g.stable ≡ old) ⊎ (g.stable ≡ new)

-- No other host writes in the file. Each outcome has the old sectors or the new ones, and the host sees the new ones.
pub record IsBetween (host : ℕ) (old new : ℕ → List ℕ) (f : File) : Type 0 where
  pub alone : IsAlone host f
  pub made : f.fresh ≡ None
  pub sees : seen host f ≡ new
  pub each : OnEach f (IsEither old new)

-- ---- a cluster of data is written

-- An outcome comes from one from before, over which the piece is laid, wholly or in part. The layer is the same but for bytes of
-- cluster k of the virtual disk, which are those that stand at its place now.
pub record IsRewritten (h : Header) (capacity k place : ℕ) (did : ℕ → Bool) (at : ℕ) (bytes : List ℕ) (f g : File) : Type 0 where
  pub old : File
  pub outcome : IsFileOutcome f old
  pub laid : IsLaidOver did at bytes old g
  pub header : layer_header (on_medium old) capacity ≡ Ok h
  pub parent : backing_id h (on_medium g).head ≡ backing_id h (on_medium old).head
  pub over : Overwritten h capacity k place (on_medium old) (on_medium g)

-- ---- counts are written

-- each number of 2 bytes in a piece that is written from the sector `at` on is as the sectors had it, or above 0
abbrev pub RaisesCounts : (ℕ → List ℕ) → ℕ → List ℕ → Type 0
RaisesCounts sectors at bytes = (j m : ℕ) → j < sectors_in bytes → m < 256
    → (number 2 (m * 2) (sector_of bytes j) ≡ number 2 (m * 2) (sectors (at + j))) ⊎ (0 < number 2 (m * 2) (sector_of bytes j))

-- a piece that is written from the sector `at` on lies in the cluster of this size at a place, and in the file
pub record IsInCluster (size place at : ℕ) (bytes : List ℕ) : Type 0 where
  pub begins : place % size ≡ 0
  pub low : place ≤ 512 * at
  pub high : 512 * (at + sectors_in bytes) ≤ place + size
