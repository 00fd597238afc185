use Rattle.std.proofs.Common.{◌+◌, ◌*◌, None, Some, subst, sym, ◌∙◌, arith}
use Rattle.layer_walk.specs.Bits.{IsMissing}
use Rattle.layer_walk.specs.Counting.{Notes, Uses}
use Rattle.layer_walk.proofs.Ranges.{none_is, range_noted, range_uncounted, range_used}
use Rattle.layer_walk.proofs.Spans.{times_whole}
use Rattle.layer_walk.proofs.counted.pass_range.Goals as goal

pub returns-then-is_some : goal.returns-then-is_some
returns-then-is_some c = range_noted c.args.header.now c.args.entry c.args.marks.now c.args.marks.now (sym c.is_some.ensures ∙ c.if-is_some.true)

pub missing-requires-clause-first : goal.missing-requires-clause-first
missing-requires-clause-first c = let e = times_whole c.args.entry c.block_span-span.result c.block_span-span.ensures.whole in omega (arith, e)

pub missing-requires-clause-end : goal.missing-requires-clause-end
missing-requires-clause-end c = let e = times_whole c.args.entry c.block_span-span.result c.block_span-span.ensures.whole in omega (arith, e, c.block_span-span.ensures.whole)

pub note-requires : goal.note-requires
note-requires c = let e = times_whole c.args.entry c.block_span-span.result c.block_span-span.ensures.whole in omega (arith, e)

pub returns-in-Some : goal.returns-in-Some
returns-in-Some c =
    range_uncounted c.args.header.now c.args.entry c.args.marks.now c.note.new.self c.in-Some.c (none_is c.args.marks.now.noted (sym c.is_some.ensures ∙ c.if-is_some.false))
    (subst (λ n. IsMissing (c.args.entry * n) (c.args.entry * n + n) c.args.marks.now.free (Some c.in-Some.c)) c.block_span-span.ensures.value c.in-Some.ensures)
    (subst (λ n. Notes (c.args.entry * n) c.in-Some.c c.args.marks.now c.note.new.self) c.block_span-span.ensures.value c.note.ensures)

pub returns-in-None : goal.returns-in-None
returns-in-None c =
    range_used c.args.header.now c.args.entry c.args.marks.now c.use_cluster.new.self c.requires.low (none_is c.args.marks.now.noted (sym c.is_some.ensures ∙ c.if-is_some.false))
    (subst (λ n. IsMissing (c.args.entry * n) (c.args.entry * n + n) c.args.marks.now.free None) c.block_span-span.ensures.value c.in-None.ensures)
    (subst (λ n. Uses (c.args.entry * n) c.args.marks.now c.use_cluster.new.self) c.block_span-span.ensures.value c.use_cluster.ensures)
