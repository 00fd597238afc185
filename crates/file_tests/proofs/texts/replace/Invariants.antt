use Rattle.std.proofs.Common.{◌≡◌, length}
use Rattle.whole_file.specs.Replace.{length_of}
use Rattle.file_tests.proofs.texts.replace.Given as goal

abbrev pub invariant-loop-step : goal.invariant-loop-step
invariant-loop-step l = length l.fn.text ≡ length_of l.work
