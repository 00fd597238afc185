-- The volumes that a listing comes to.
use Rattle.std.specs.Prelude.{◌≡◌, ℕ, ◌-◌, ◌^◌, min, List, length, take}
use Rattle.sd_names.specs.declared.id.Id.{Id}

-- the first 32 of these volumes, and their number, which stands still at the end of 64 bits
abbrev pub AreFound : List Id → List Id × ℕ → Type 0
AreFound vs f = (f.0 ≡ take 32 vs) × (f.1 ≡ min (length vs) (2 ^ 64 - 1))
