use Rattle.std.proofs.Common.{length, sym, ◌∙◌}
use Rattle.chain_write.proofs.AllOpen.{reading_stands, written_all}
use Rattle.chain_write.proofs.parts.write_part.Goals as goal

pub loop-init : goal.loop-init
loop-init g c = (
  c.begin-work.ensures.way c.args.chain.now (length c.args.part.now) (reading_stands c.args.chain.now c.in-Some.volume c.args.at (length c.args.part.now) c.requires.open (sym c.reading.ensures ∙ c.in-Some.is) c.requires.end),
  c.requires.open,
  c.requires.room,
)

pub returns-in-Ended-clause-open : goal.returns-in-Ended-clause-open
returns-in-Ended-clause-open g c = written_all c.loop.work c.loop.chain c.step.new.chain c.step.ensures.chain c.loop.invariant.1
