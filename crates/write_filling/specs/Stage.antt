-- How far the filling of a cluster is.
use Rattle.std.specs.Prelude.{ℕ}
use Rattle.write_filling.specs.declared.stage.Stage.{Stage}
use Rattle.write_filling.specs.declared.stage.Stage.TheVariants.{Next, Fills}

-- how many clusters are being written
abbrev pub under_way : Stage → ℕ
under_way Next = 0
under_way (Fills work) = 1
