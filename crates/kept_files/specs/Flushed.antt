-- Which folder and which file were flushed.
use Rattle.std.specs.Prelude.{ℤ}
use Rattle.sd_names.specs.declared.place.Dir.{Dir}
use Rattle.sd_names.specs.declared.place.Place.{Place}
use Rattle.kept_files.specs.declared.flushed.FlushedDir.{FlushedDir}
use Rattle.kept_files.specs.declared.flushed.FlushedFile.{FlushedFile}

-- the folder whose names are on the medium
abbrev pub flushed_dir : FlushedDir → Dir
flushed_dir flushed = flushed.dir

-- the file whose bytes and length are on the medium, and through which descriptor of the system they were flushed
abbrev pub flushed_place : FlushedFile → Place
flushed_place flushed = flushed.place

abbrev pub flushed_descriptor : FlushedFile → ℤ
flushed_descriptor flushed = flushed.descriptor
