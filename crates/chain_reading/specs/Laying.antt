-- The sectors of a part that are still missing, and how some are laid over it.
use Rattle.std.specs.Prelude.{◌≡◌, ℕ, ◌-◌, ◌<◌, ◌≤◌, max, Bool, true, false, List, get_or, length}
use Rattle.shared_disk.specs.Content.{sector_of, zero_sector}

-- whether a sector of the part is missing
abbrev pub is_missing : List Bool → ℕ → Bool
is_missing missing j = get_or missing j false

-- the first missing one from `from` on below `end`, or the greater of the two
pub record IsFirstMissing (missing : List Bool) (from end first : ℕ) : Type 0 where
  pub low : from ≤ first
  pub high : first ≤ max from end
  pub none : (j : ℕ) → from ≤ j → j < first → is_missing missing j ≡ false
  pub some : first < end → is_missing missing first ≡ true

-- The missing sectors from `from` to `to` are the first ones of these bytes, and none of them is missing then. All others
-- are as they were.
pub record IsLaid (missing missing' : List Bool) (part part' : List ℕ) (from to : ℕ) (bytes : List ℕ) : Type 0 where
  pub len : length part' ≡ length part
  pub found : (j : ℕ) → from ≤ j → j < to → is_missing missing' j ≡ false
  pub below : (j : ℕ) → j < from → is_missing missing' j ≡ is_missing missing j
  pub above : (j : ℕ) → to ≤ j → is_missing missing' j ≡ is_missing missing j
  pub laid : (j : ℕ) → from ≤ j → j < to → is_missing missing j ≡ true → sector_of part' j ≡ sector_of bytes (j - from)
  pub kept : (j : ℕ) → is_missing missing j ≡ false → sector_of part' j ≡ sector_of part j

-- bytes of zeros
abbrev pub AreZeros : List ℕ → Type 0
AreZeros bytes = (j : ℕ) → j < 128 → sector_of bytes j ≡ zero_sector

-- and so they are zeros
abbrev pub LaysZeros : List Bool → List Bool → List ℕ → List ℕ → ℕ → ℕ → Type 0
LaysZeros missing missing' part part' from to = (bytes : List ℕ) × AreZeros bytes × IsLaid missing missing' part part' from to bytes
