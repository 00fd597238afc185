use Rattle.std.proofs.Common.{◌≡◌, ◌++◌, List, ℕ, length}
use Rattle.script_loop.specs.Stream.{Gave}
use Rattle.script_loop.proofs.give.give.Given as goal

-- what was given and what is left are the text
abbrev pub invariant-loop-rest : goal.invariant-loop-rest
invariant-loop-rest g l =
    (g.K.Sink.faults l.sink ≡ g.K.Sink.faults l.fn.sink)
    × ((front : List ℕ) × (l.fn.text ≡ front ++ l.rest) × Gave (g.K.Sink.given l.fn.sink) (g.K.Sink.given l.sink) front)

abbrev pub decreases-loop-rest : goal.decreases-loop-rest
decreases-loop-rest g l = length l.rest
