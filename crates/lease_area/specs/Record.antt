-- What a lease holds, and what a scan saw, as contracts see them.
use Rattle.std.specs.Prelude.{◌≡◌, ℕ, ◌<◌, ◌≤◌, Option, Some, None}
use Rattle.sd_names.specs.declared.id.Id.{Id}
use Rattle.lease_area.specs.declared.sector.Kind.{Kind}
use Rattle.lease_area.specs.declared.sector.Kind.TheVariants.{Free}

-- a lease: what it is held for, by which host, how often it was taken, and of which image
pub record Fields : Type 0 where
  pub kind : Kind
  pub owner : ℕ
  pub version : ℕ
  pub image : Id

-- nobody's number, or that of a host
abbrev pub IsOwner : Kind → ℕ → Type 0
IsOwner Free owner = owner ≡ 0
IsOwner _ owner = (1 ≤ owner) × (owner ≤ 250)

-- what a scan saw: the least sector that names the image, with its lease, and the least empty sector
pub record Seen : Type 0 where
  pub found : Option (ℕ × Fields)
  pub empty : Option ℕ

-- the number of an image's sector
pub record IsImageSlot (slot : ℕ) : Type 0 where
  pub low : 0 < slot
  pub high : slot < 1024

-- what was seen is an image's sector
abbrev pub FoundInArea : Option (ℕ × Fields) → Type 0
FoundInArea None = Unit {0}
FoundInArea (Some a) = IsImageSlot a.0

abbrev pub EmptyInArea : Option ℕ → Type 0
EmptyInArea None = Unit {0}
EmptyInArea (Some slot) = IsImageSlot slot
