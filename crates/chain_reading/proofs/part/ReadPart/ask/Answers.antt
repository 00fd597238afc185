use Rattle.std.proofs.Common.{◌∙◌, ◌/◌, length, sym}
use Rattle.chain_reading.proofs.Fewer.{look_falls, pass_falls}
use Rattle.chain_reading.proofs.Steps.{finishes, looks, passes, reads_asking, takes_raw}
use Rattle.chain_reading.proofs.part.ReadPart.ask.Goals as goal

pub returns-in-None-clause-content : goal.returns-in-None-clause-content
returns-in-None-clause-content g c d tells =
    (d, tells, finishes c.args.self c.args.chain.now c.args.host c.args.part.now c.finish.new.part d c.requires.piece.2 (sym c.asked_at.ensures.is ∙ c.in-None.is) c.finish.ensures)

pub returns-in-Read-clause-content : goal.returns-in-Read-clause-content
returns-in-Read-clause-content g c d tells =
    let t = c.read.ensures.content d tells in (
      t.0,
      t.1,
      reads_asking c.args.self c.args.chain.now c.args.host c.in-Some.asked c.args.part.now c.read.new.part _ c.read.result d t.0 (sym c.asked_at.ensures.is ∙ c.in-Some.is) c.requires.stage c.in-Read.ensures c.read.ensures.behind t.2,
    )

pub returns-in-Pass-clause-falls : goal.returns-in-Pass-clause-falls
returns-in-Pass-clause-falls g c =
    pass_falls c.args.self c.pass.result c.args.chain.now (length c.args.part.now / 512) c.in-Some.asked (sym c.asked_at.ensures.is ∙ c.in-Some.is) c.pass.ensures

pub returns-in-Pass-clause-content : goal.returns-in-Pass-clause-content
returns-in-Pass-clause-content g c d tells =
    (d, tells, passes c.args.self c.pass.result c.args.chain.now c.args.host c.in-Some.asked c.args.part.now d (sym c.asked_at.ensures.is ∙ c.in-Some.is) c.in-Pass.ensures c.pass.ensures)

pub returns-in-Take-clause-content : goal.returns-in-Take-clause-content
returns-in-Take-clause-content g c d tells =
    (d, tells, takes_raw c.args.self c.with-taken.result c.in-Take.taking c.args.chain.now c.args.host c.in-Some.asked c.args.part.now d (sym c.asked_at.ensures.is ∙ c.in-Some.is) c.in-Take.ensures c.with-taken.ensures)

pub returns-in-Look-clause-falls : goal.returns-in-Look-clause-falls
returns-in-Look-clause-falls g c =
    look_falls c.args.self c.with-looked.result c.in-Look.waiting c.begin-looking.result c.args.chain.now _ c.in-Some.asked (sym c.asked_at.ensures.is ∙ c.in-Some.is) c.in-Look.ensures c.begin-looking.ensures.table c.with-looked.ensures

pub returns-in-Look-clause-content : goal.returns-in-Look-clause-content
returns-in-Look-clause-content g c d tells = (
  d,
  tells,
  looks c.args.self c.with-looked.result c.in-Look.waiting c.begin-looking.result c.args.chain.now c.args.host c.in-Some.asked c.args.part.now d (sym c.asked_at.ensures.is ∙ c.in-Some.is) c.in-Look.ensures
      (c.begin-looking.ensures.cluster ∙ c.cluster_number.ensures) c.begin-looking.ensures.table c.with-looked.ensures,
)
