use Rattle.sd_names.specs.declared.turn.Turn.TheVariants.{More, Done, Ended}
use Rattle.chain_settling.proofs.Costs.{tidying_shows}
use Rattle.chain_settling.proofs.Grows.{tidying_settles}
use Rattle.chain_settling.proofs.settling.tidy.Goals as goal

pub returns-in-More-clause-content : goal.returns-in-More-clause-content
returns-in-More-clause-content g c d tells =
    let call = c.in-More.ensures.content d tells in
    let shows = let made = c.in-More.ensures.call d tells in tidying_shows c.args.tidying _ (More c.in-More.next) d made.0 made.2 in
    (call.0, call.1, tidying_settles c.args.chain c.args.tidying c.args.host _ (More c.in-More.next) d call.0 (g.met.D.SharedDisk.well_formed c.step.new.disk call.0 call.1) call.2 shows (c.in-More.ensures.falls (λ _. 0)).folder)

pub returns-in-Done-clause-content : goal.returns-in-Done-clause-content
returns-in-Done-clause-content g c d tells =
    let call = c.in-Done.ensures.content d tells in
    let shows = let made = c.in-Done.ensures.call d tells in tidying_shows c.args.tidying _ (Done tt) d made.0 made.2 in
    (call.0, call.1, tidying_settles c.args.chain c.args.tidying c.args.host _ (Done tt) d call.0 (g.met.D.SharedDisk.well_formed c.step.new.disk call.0 call.1) call.2 shows tt)

pub returns-in-Ended-clause-content : goal.returns-in-Ended-clause-content
returns-in-Ended-clause-content g c d tells =
    let call = c.in-Ended.ensures.content d tells in
    let shows = let made = c.in-Ended.ensures.call d tells in tidying_shows c.args.tidying _ (Ended tt c.in-Ended.refusal) d made.0 made.2 in
    (call.0, call.1, tidying_settles c.args.chain c.args.tidying c.args.host _ (Ended tt c.in-Ended.refusal) d call.0 (g.met.D.SharedDisk.well_formed c.step.new.disk call.0 call.1) call.2 shows tt)
