use Rattle.std.proofs.Common.{subst, arith}
use Rattle.image_model.specs.File.{file_of}
use Rattle.layer_walk.specs.Known.{ThenKnows, tables_of}
use Rattle.layer_walk.proofs.Asks.{entry_next, entry_turns, head_more}
use Rattle.layer_walk.proofs.lookup.with_count.Goals as goal

pub returns-then-next-eq0-clause-next : goal.returns-then-next-eq0-clause-next
returns-then-next-eq0-clause-next c capacity count sectors fits known =
    let t = tables_of c.args.work (file_of count sectors) in
    let here = subst (λ x. ThenKnows t capacity c.args.work.marks c.args.ask.place x) c.in-Entries.is known.known in
    c.next_entries.ensures.next capacity count sectors fits (entry_turns t capacity c.args.work.marks c.args.ask.place c.in-Entries.k c.in-Entries.row here known.some c.if-next-eq0.true)

pub returns-in-Head-clause-next : goal.returns-in-Head-clause-next
returns-in-Head-clause-next c capacity count sectors fits known =
    let t = tables_of c.args.work (file_of count sectors) in
    let here = subst (λ x. ThenKnows t capacity c.args.work.marks c.args.ask.place x) c.in-Head.is known.known in
    c.ask_next.ensures.next capacity count sectors fits (head_more t capacity c.in-Head.n c.in-Head.end c.args.ask.place c.in-Head.fault here.0 here.2 known.some, here.1)

pub returns-else-next-eq0-clause-next : goal.returns-else-next-eq0-clause-next
returns-else-next-eq0-clause-next c capacity count sectors fits known =
    let t = tables_of c.args.work (file_of count sectors) in
    let here = subst (λ x. ThenKnows t capacity c.args.work.marks c.args.ask.place x) c.in-Entries.is known.known in
    c.pass_entries.ensures.next capacity count sectors fits
    (entry_next t capacity c.args.work.marks c.args.ask.place c.in-Entries.k c.in-Entries.row c.args.work.low here known.some (omega (arith, c.if-next-eq0.false)))
