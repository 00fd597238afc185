use Rattle.std.proofs.Common.{◌≡◌, ◌+◌, ◌-◌, ◌≤◌, ◌++◌, min, ℕ, List, length}
use Rattle.script_loop.specs.Ends.{most_input}
use Rattle.script_loop.specs.Progress.{Progress}
use Rattle.script_loop.specs.Stream.{Took}
use Rattle.script_loop.proofs.run.run_pieces.Given as goal

-- of the bytes that were taken, but for one past the bound, the lines that an LF ended have run
abbrev pub invariant-loop-session : goal.invariant-loop-session
invariant-loop-session g l =
    (l.session.taken ≤ most_input + 1) × (l.session.answered ≡ min l.session.taken most_input) × (l.session.tally.lines ≤ l.session.answered)
    × (length l.piece ≡ 65536) × (g.S.Source.faults l.source ≡ g.S.Source.faults l.fn.source) × (g.K.Sink.faults l.sink ≡ g.K.Sink.faults l.fn.sink)
    × ((bytes : List ℕ) × (extra : List ℕ) × (length bytes ≡ l.session.answered) × (length bytes + length extra ≡ l.session.taken)
    × Took (g.S.Source.left l.fn.source) (g.S.Source.left l.source) (bytes ++ extra)
    × Progress g.L.LineRunner.says g.L.LineRunner.reply_of l.fn.runner l.fn.disk bytes (g.K.Sink.given l.fn.sink) (g.K.Sink.given l.sink) l.session.line l.session.tally l.runner l.disk)

abbrev pub decreases-loop-session : goal.decreases-loop-session
decreases-loop-session g l = most_input + 1 - l.session.taken
