use Rattle.write_filling.proofs.Counts.{next_falls}
use Rattle.write_filling.proofs.Steps.{done_on, ended_on, goes_next, more_on}
use Rattle.write_filling.proofs.fillings.Fillings.step.Goals as goal

pub returns-in-Next-clause-falls : goal.returns-in-Next-clause-falls
returns-in-Next-clause-falls g c = next_falls c.args.self c.args.chain.now c.next.result c.in-Next.is c.next.ensures

pub returns-in-Next-clause-content : goal.returns-in-Next-clause-content
returns-in-Next-clause-content g c d tells =
    (d, tells, λ w l x old f there knows same. goes_next c.args.self c.args.chain.now w l x old c.args.host _ c.args.room.now f d there knows.so_far c.next.result c.next.ensures)

pub returns-in-More-clause-content : goal.returns-in-More-clause-content
returns-in-More-clause-content g c d tells =
    let call = c.in-More.ensures.content d tells in (
      call.0,
      call.1,
      λ w l x old f there knows same.
          more_on c.args.self c.args.chain.now w l x old c.args.host _ c.step.new.room f d there knows.so_far c.in-Fills.work c.in-Fills.is c.args.room.now c.args.part.now knows.stage same call.0
          (g.met.D.SharedDisk.well_formed c.args.disk.now d tells) (g.met.D.SharedDisk.well_formed c.step.new.disk call.0 call.1) c.in-More.next c.at_work.result c.in-More.ensures.keeps c.at_work.ensures call.2,
    )

pub returns-in-Done-clause-content : goal.returns-in-Done-clause-content
returns-in-Done-clause-content g c d tells =
    let call = c.in-Done.ensures.content d tells in (
      call.0,
      call.1,
      λ w l x old f there knows same.
          done_on c.args.self c.args.chain.now w l x old c.args.host _ c.step.new.room f d there knows.so_far c.in-Fills.work c.in-Fills.is c.args.room.now c.args.part.now knows.stage same call.0
          (g.met.D.SharedDisk.well_formed c.args.disk.now d tells) (g.met.D.SharedDisk.well_formed c.step.new.disk call.0 call.1) c.passed.result c.passed.ensures call.2,
    )

pub returns-in-Ended-clause-content : goal.returns-in-Ended-clause-content
returns-in-Ended-clause-content g c d tells =
    let call = c.in-Ended.ensures.content d tells in (
      call.0,
      call.1,
      λ w l x old f there knows same.
          ended_on c.args.self c.args.chain.now w l x old c.args.host _ c.step.new.room f d there knows.so_far c.in-Fills.work c.in-Fills.is c.args.room.now c.args.part.now knows.stage same call.0
          (g.met.D.SharedDisk.well_formed c.args.disk.now d tells) (g.met.D.SharedDisk.well_formed c.step.new.disk call.0 call.1) c.in-Ended.refusal _ c.in-Ended.ensures.counts.cause call.2,
    )
