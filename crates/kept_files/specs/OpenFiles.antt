-- The files that are kept open.
use Rattle.std.specs.Prelude.{◌≡◌, ◌≢◌, ◌⊎◌, ◌<◌, ℕ, List, length, get_or, remove, map, vec_len, vec_capacity}
use Rattle.kept_files.specs.declared.kept.Kept.{Kept}
use Rattle.kept_files.specs.declared.kept.State.{State}
use Rattle.kept_files.specs.declared.kept.State.TheVariants.{Flushed}
use Rattle.kept_files.specs.declared.node.Node.{Node}
use Rattle.kept_files.specs.declared.open_files.OpenFiles.{OpenFiles}
use Rattle.kept_files.specs.Kept.{kept_descriptor, kept_node, kept_state}

-- one more can be kept
abbrev pub HasRoom : OpenFiles → Type 0
HasRoom files = vec_len files.kept < vec_capacity files.kept

-- the kept files, the one that was used last at the end
abbrev pub kept_files : OpenFiles → List Kept
kept_files files = files.kept.items

-- at k a file of the system is kept
abbrev pub IsKeptAt : Node → List Kept → ℕ → Type 0
IsKeptAt node files k = (k < length files) × ((d : Kept) → kept_node (get_or files k d) ≡ node)

-- at k a file is kept that stands so to its medium
abbrev pub IsInStateAt : State → List Kept → ℕ → Type 0
IsInStateAt state files k = (k < length files) × ((d : Kept) → kept_state (get_or files k d) ≡ state)

-- a file of the system is kept
abbrev pub IsKept : Node → List Kept → Type 0
IsKept node files = (k : ℕ) × IsKeptAt node files k

-- a file of the system can be taken: it is kept, one more can be, or one that is flushed can be closed for it
abbrev pub IsReady : Node → OpenFiles → Type 0
IsReady node files = IsKept node (kept_files files) ⊎ HasRoom files ⊎ ((k : ℕ) × IsInStateAt Flushed (kept_files files) k)

-- a file of the system isn't kept
abbrev pub HasNone : Node → List Kept → Type 0
HasNone node files = (k : ℕ) (d : Kept) → k < length files → kept_node (get_or files k d) ≢ node

-- the same files are kept, each through the same descriptor
abbrev pub KeepsSame : List Kept → List Kept → Type 0
KeepsSame before after = (map kept_descriptor after ≡ map kept_descriptor before) × (map kept_node after ≡ map kept_node before)

-- all stay, or one is closed that was flushed
abbrev pub ClosesFlushed : List Kept → List Kept → Type 0
ClosesFlushed before after = (after ≡ before) ⊎ ((k : ℕ) × IsInStateAt Flushed before k × (after ≡ remove before k))

-- the kept file of the system, through the same descriptor and as it stands to its medium, is taken out; or where none
-- is kept of it, what comes was given nothing
abbrev pub IsTaken : Node → List Kept → List Kept → Kept → Type 0
IsTaken node before after kept =
    ((k : ℕ) × IsKeptAt node before k × (after ≡ remove before k)
    × (kept_descriptor kept ≡ kept_descriptor (get_or before k kept)) × (kept_state kept ≡ kept_state (get_or before k kept)))
    ⊎ (HasNone node before × (kept_state kept ≡ Flushed) × ClosesFlushed before after)

-- the kept file of the system is taken out, or none is kept of it
abbrev pub IsForgotten : Node → List Kept → List Kept → Type 0
IsForgotten node before after = ((k : ℕ) × IsKeptAt node before k × (after ≡ remove before k)) ⊎ (HasNone node before × (after ≡ before))
