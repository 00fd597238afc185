use Rattle.std.proofs.Common.{sym}
use Rattle.std.proofs.lemmas.Result.{err_from_is_err_and}
use Rattle.qcow_format.proofs.Formats.{ends_more, finds_more, walk_fails, walk_ends}
use Rattle.qcow_format.proofs.format.walk.Goals as goal

pub returns-in_err-found : goal.returns-in_err-found
returns-in_err-found c =
    let met = c.in-Some.ensures in
    let h = rw (met.kind, met.body) at c.in_err-found.ensures in
    let all = walk_fails c.args.head.now c.loop-met.at c.args.start c.loop-met.found c.in_err-found.field-0.0 met.some (sym h) c.loop-met.invariant.finds in
    let p = err_from_is_err_and c.from_residual.result c.from_residual.ensures.1 in
    cc

pub loop-met-preserved : goal.loop-met-preserved
loop-met-preserved c =
    let met = c.in-Some.ensures in
    let h = rw (met.kind, met.body) at c.in_ok-found.ensures in
    rw met.end (record {
      ends = ends_more c.args.head.now c.loop-met.at c.args.start met.some c.loop-met.invariant.ends;
      finds = finds_more c.args.head.now c.loop-met.at c.args.start c.loop-met.found c.in_ok-found.found met.some (sym h) c.loop-met.invariant.finds;
    })

pub returns : goal.returns
returns c =
    sym (walk_ends c.args.head.now c.loop-met.at c.args.start c.loop-met.found c.in_default.ensures.none c.loop-met.invariant.ends c.loop-met.invariant.finds)
