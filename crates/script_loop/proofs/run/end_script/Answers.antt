use Rattle.std.proofs.Common.{◌∙◌}
use Rattle.script_loop.proofs.EndLemmas.{finishes_told}
use Rattle.script_loop.proofs.run.end_script.Goals as goal

pub returns-in-Ok-clause-finished : goal.returns-in-Ok-clause-finished
returns-in-Ok-clause-finished g c m d bytes given came =
    let tally = c.finish.new.self.tally in
    finishes_told g.L.LineRunner.says g.L.LineRunner.reply_of m c.finish.new.runner d c.finish.new.disk c.told.result.status tally.refused c.told.result.refused tally.short bytes given (g.K.Sink.given c.finish.new.sink)
    (c.told.ensures.status ∙ c.status.ensures) c.told.ensures.refused (c.in-Ok.ensures.finished m d bytes given came)
