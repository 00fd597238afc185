use Rattle.std.proofs.Common.{◌≡◌, ◌+◌, ◌≤◌, ◌++◌, ℕ, List, Option, length}
use Rattle.script_loop.specs.Progress.{Progress}
use Rattle.script_loop.proofs.session.Session.feed.Given as goal

-- the lines so far have run
abbrev pub invariant-loop-first : goal.invariant-loop-first
invariant-loop-first g l =
    let says = g.L.LineRunner.says in
    let reply_of = g.L.LineRunner.reply_of in
    (l.self.tally.lines + length l.rest ≤ l.fn.self.tally.lines + length l.fn.piece)
    × (l.self.taken ≡ l.fn.self.taken) × (l.self.answered ≡ l.fn.self.answered)
    × (g.K.Sink.faults l.sink ≡ g.K.Sink.faults l.fn.sink)
    × ((front : List ℕ) × (l.fn.piece ≡ front ++ l.rest)
    × ((m : g.row.L.Denot) (d : g.row.D.Denot) (bytes : List ℕ) (given : Option (List ℕ)) → Progress says reply_of m d bytes given (g.K.Sink.given l.fn.sink) l.fn.self.line l.fn.self.tally l.fn.runner l.fn.disk
    → Progress says reply_of m d (bytes ++ front) given (g.K.Sink.given l.sink) l.self.line l.self.tally l.runner l.disk))

abbrev pub decreases-loop-first : goal.decreases-loop-first
decreases-loop-first g l = length l.rest
