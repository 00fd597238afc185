-- The sector that a start keeps between its steps.
use Rattle.std.specs.Prelude.{ℕ}
use Rattle.lease_area.specs.Move.{owner_of, version_of}
use Rattle.spm_role.specs.declared.start.Stage.{Stage}
use Rattle.spm_role.specs.declared.start.Stage.TheVariants.{Begun, Known, Seen, Listed}

-- the owner and the version of the sector that is kept; where none is, these
abbrev pub owner_kept : Stage → ℕ → ℕ
owner_kept Begun owner = owner
owner_kept Known owner = owner
owner_kept (Seen s) owner = owner_of s
owner_kept (Listed s pool) owner = owner_of s

abbrev pub version_kept : Stage → ℕ → ℕ
version_kept Begun version = version
version_kept Known version = version
version_kept (Seen s) version = version_of s
version_kept (Listed s pool) version = version_of s
