-- The length of the text that is written.
use Rattle.std.specs.Prelude.{ℕ}
use Rattle.whole_file.specs.Replace.{length_of}
use Rattle.image_making.specs.declared.making.Stage.{Stage}
use Rattle.image_making.specs.declared.making.Stage.TheVariants.{Begun, Filling, Syncing, Layering, Writing}

-- where none is written, this one
abbrev pub length_kept : Stage → ℕ → ℕ
length_kept Begun length = length
length_kept Filling length = length
length_kept Syncing length = length
length_kept (Layering c) length = length
length_kept (Writing r) length = length_of r
