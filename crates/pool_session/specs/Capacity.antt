-- The capacity of an image.
use Rattle.std.specs.Prelude.{◌≡◌, ℕ, ◌%◌, ◌≤◌, ◌^◌}

-- a capacity that an image may have, in bytes
pub record IsCapacity (capacity : ℕ) : Type 0 where
  pub whole : capacity % 512 ≡ 0
  pub least : 512 ≤ capacity
  pub most : capacity ≤ 2 ^ 40
