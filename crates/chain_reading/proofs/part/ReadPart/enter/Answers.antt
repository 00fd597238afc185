use Rattle.std.proofs.Common.{◌∙◌, sym}
use Rattle.chain_reading.proofs.Steps.{lost, reads_found, skips, takes, zeros}
use Rattle.chain_reading.proofs.part.ReadPart.enter.Goals as goal

pub returns-in-None-clause-content : goal.returns-in-None-clause-content
returns-in-None-clause-content g c d tells =
    (d, tells, lost c.args.self c.with-lost.result c.args.entry c.args.chain.now c.args.host c.args.part.now d (sym c.asked_at.ensures.is ∙ c.in-None.is) c.with-lost.ensures)

pub returns-in-Read-clause-content : goal.returns-in-Read-clause-content
returns-in-Read-clause-content g c d tells =
    let t = c.read.ensures.content d tells in (
      t.0,
      t.1,
      reads_found c.args.self c.args.entry c.args.chain.now c.args.host c.in-Some.asked c.args.part.now c.read.new.part _ c.read.result d t.0 (sym c.asked_at.ensures.is ∙ c.in-Some.is) c.requires.stage c.in-Read.ensures c.read.ensures.behind t.2,
    )

pub returns-in-Take-clause-content : goal.returns-in-Take-clause-content
returns-in-Take-clause-content g c d tells =
    (d, tells, takes c.args.self c.with-taken.result c.in-Take.taking c.args.entry c.args.chain.now c.args.host c.in-Some.asked c.args.part.now d (sym c.asked_at.ensures.is ∙ c.in-Some.is) c.in-Take.ensures c.with-taken.ensures)

pub returns-in-Zeros-clause-content : goal.returns-in-Zeros-clause-content
returns-in-Zeros-clause-content g c d tells = (
  d,
  tells,
  zeros c.args.self c.zero-zeroed.result c.args.entry c.in-Zeros.past c.args.chain.now c.args.host c.in-Some.asked c.args.part.now c.zero-zeroed.new.part d c.requires.piece.2 c.zero-zeroed.auto.part
      (sym c.asked_at.ensures.is ∙ c.in-Some.is) c.in-Zeros.ensures c.zero-zeroed.ensures.behind c.zero-zeroed.ensures.zeros,
)

pub returns-in-Skip-clause-content : goal.returns-in-Skip-clause-content
returns-in-Skip-clause-content g c d tells = (
  d,
  tells,
  skips c.args.self c.with-skipped.result c.none-behind.result c.args.entry c.in-Skip.past c.args.chain.now c.args.host c.in-Some.asked c.args.part.now d (sym c.asked_at.ensures.is ∙ c.in-Some.is) c.in-Skip.ensures
      c.none-behind.ensures.from c.none-behind.ensures.to c.with-skipped.ensures,
)
