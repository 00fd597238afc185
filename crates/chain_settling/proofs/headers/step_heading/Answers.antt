use Rattle.std.proofs.Common.{◌+◌}
use Rattle.sd_names.specs.declared.turn.Turn.TheVariants.{More, Done, Ended}
use Rattle.chain_settling.proofs.Heads.{heading_settles}
use Rattle.chain_settling.proofs.Fits.{heading_fits, headers_fits}
use Rattle.chain_settling.proofs.headers.step_heading.Goals as goal

pub returns-in-More-clause-fit : goal.returns-in-More-clause-fit
returns-in-More-clause-fit g c = (heading_fits c.args.chain c.rebase.new.chain c.args.at c.args.rebasing c.in-More.next c.in-More.ensures.same c.in-More.ensures.records c.requires, c.in-More.ensures.same)

pub returns-in-Done-clause-fit : goal.returns-in-Done-clause-fit
returns-in-Done-clause-fit g c = (headers_fits c.args.chain c.rebase.new.chain c.args.at (c.args.at + 1) c.args.rebasing c.in-Done.ensures.same c.in-Done.ensures.records c.requires, c.in-Done.ensures.same)

pub returns-in-More-clause-content : goal.returns-in-More-clause-content
returns-in-More-clause-content g c d tells =
    let call = c.in-More.ensures.content d tells in
    (call.0, call.1, heading_settles c.args.chain c.rebase.new.chain c.args.at c.args.rebasing c.args.host _ (More c.in-More.next) d call.0 (g.met.D.SharedDisk.well_formed c.rebase.new.disk call.0 call.1) c.in-More.ensures.falls.0 call.2)

pub returns-in-Done-clause-content : goal.returns-in-Done-clause-content
returns-in-Done-clause-content g c d tells =
    let call = c.in-Done.ensures.content d tells in
    (call.0, call.1, heading_settles c.args.chain c.rebase.new.chain c.args.at c.args.rebasing c.args.host _ (Done tt) d call.0 (g.met.D.SharedDisk.well_formed c.rebase.new.disk call.0 call.1) tt call.2)

pub returns-in-Ended-clause-content : goal.returns-in-Ended-clause-content
returns-in-Ended-clause-content g c d tells =
    let call = c.in-Ended.ensures.content d tells in
    (call.0, call.1, heading_settles c.args.chain c.rebase.new.chain c.args.at c.args.rebasing c.args.host _ (Ended tt c.in-Ended.refusal) d call.0 (g.met.D.SharedDisk.well_formed c.rebase.new.disk call.0 call.1) tt call.2)
