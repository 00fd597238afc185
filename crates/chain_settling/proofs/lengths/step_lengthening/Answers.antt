use Rattle.sd_names.specs.declared.turn.Turn.TheVariants.{More, Done, Ended}
use Rattle.chain_settling.proofs.Grows.{lengthening_settles}
use Rattle.chain_settling.proofs.lengths.step_lengthening.Goals as goal

pub returns-in-More-clause-content : goal.returns-in-More-clause-content
returns-in-More-clause-content g c d tells =
    let call = c.in-More.ensures.content d tells in
    (call.0, call.1, lengthening_settles c.args.chain c.args.at c.args.lengthening c.args.host _ (More c.in-More.next) d call.0 (g.met.D.SharedDisk.well_formed c.args.disk.now d tells) (g.met.D.SharedDisk.well_formed c.lengthen.new.disk call.0 call.1) call.2)

pub returns-in-Done-clause-content : goal.returns-in-Done-clause-content
returns-in-Done-clause-content g c d tells =
    let call = c.in-Done.ensures.content d tells in
    (call.0, call.1, lengthening_settles c.args.chain c.args.at c.args.lengthening c.args.host _ (Done tt) d call.0 (g.met.D.SharedDisk.well_formed c.args.disk.now d tells) (g.met.D.SharedDisk.well_formed c.lengthen.new.disk call.0 call.1) call.2)

pub returns-in-Ended-clause-content : goal.returns-in-Ended-clause-content
returns-in-Ended-clause-content g c d tells =
    let call = c.in-Ended.ensures.content d tells in
    (call.0, call.1, lengthening_settles c.args.chain c.args.at c.args.lengthening c.args.host _ (Ended tt c.in-Ended.refusal) d call.0 (g.met.D.SharedDisk.well_formed c.args.disk.now d tells) (g.met.D.SharedDisk.well_formed c.lengthen.new.disk call.0 call.1) call.2)
