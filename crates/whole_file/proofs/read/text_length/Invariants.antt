use Rattle.std.proofs.Common.{◌≡◌, ◌++◌, take, drop}
use Rattle.whole_file.specs.Text.{before_zero}
use Rattle.whole_file.proofs.read.text_length.Given as goal

abbrev pub invariant-loop-i : goal.invariant-loop-i
invariant-loop-i l = before_zero l.bytes ≡ take l.i l.bytes ++ before_zero (drop l.i l.bytes)
