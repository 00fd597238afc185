-- What an exchange of a sector has done.
use Rattle.std.specs.Prelude.{◌≡◌, ◌≢◌, ℕ, ℤ, ◌*◌, List}
use Rattle.sd_names.specs.declared.place.Place.{Place}
use Rattle.kept_files.specs.Flushed.{flushed_descriptor, flushed_place}
use Rattle.kept_files.specs.Opened.{seen_at, seen_bytes, seen_descriptor, written_at, written_bytes, written_descriptor}
use Rattle.kept_files.specs.declared.flushed.FlushedFile.{FlushedFile}
use Rattle.kept_files.specs.declared.kept.Swapped.{Swapped}
use Rattle.kept_files.specs.declared.kept.Swapped.TheVariants.{Done, Found}
use Rattle.kept_files.specs.declared.written.Seen.{Seen}
use Rattle.kept_files.specs.declared.written.Written.{Written}

-- this sector was read through the descriptor
abbrev pub IsSeen : ℤ → ℕ → Seen → Type 0
IsSeen descriptor sector seen = (seen_descriptor seen ≡ descriptor) × (seen_at seen ≡ sector * 512)

-- these bytes were written to this sector, and the file of this place was flushed, both through the descriptor
abbrev pub IsPut : ℤ → Place → ℕ → List ℕ → Written → FlushedFile → Type 0
IsPut descriptor place sector next written flushed =
    (written_descriptor written ≡ descriptor) × (written_at written ≡ sector * 512) × (written_bytes written ≡ next)
    × (flushed_descriptor flushed ≡ descriptor) × (flushed_place flushed ≡ place)

-- through the descriptor the sector was read: it held the bytes that were expected, and the next ones were put there; or
-- it holds others
abbrev pub IsSwapped : ℤ → Place → ℕ → List ℕ → List ℕ → Swapped → Type 0
IsSwapped descriptor place sector expect next (Done seen written flushed) =
    IsSeen descriptor sector seen × (seen_bytes seen ≡ expect) × IsPut descriptor place sector next written flushed
IsSwapped descriptor place sector expect next (Found seen) = IsSeen descriptor sector seen × (seen_bytes seen ≢ expect)
