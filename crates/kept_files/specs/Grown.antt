-- A file that has so many bytes at least, on the medium.
use Rattle.std.specs.Prelude.{◌≡◌, ℕ, ℤ}
use Rattle.sd_names.specs.declared.place.Place.{Place}
use Rattle.kept_files.specs.Flushed.{flushed_descriptor, flushed_place}
use Rattle.kept_files.specs.Opened.{Raises}
use Rattle.kept_files.specs.declared.kept.Grown.{Grown}

-- a file of so many bytes was given a greater length where it had fewer, and flushed, both through the descriptor
abbrev pub IsGrown : ℤ → Place → ℕ → ℕ → Grown → Type 0
IsGrown descriptor place stored size grown =
    Raises descriptor stored size grown.raised × (flushed_descriptor grown.flushed ≡ descriptor) × (flushed_place grown.flushed ≡ place)

-- the same of a file that was made, and had no bytes
abbrev pub IsMade : Place → ℕ → Grown → Type 0
IsMade place size made = (descriptor : ℤ) × IsGrown descriptor place 0 size made
