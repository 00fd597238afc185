use Rattle.std.proofs.Common.{◌∙◌, subst, arith}
use Rattle.sd_names.specs.declared.turn.Turn.TheVariants.{More, Done, Ended}
use Rattle.raw_layer.specs.Raw.{WriteSteps}
use Rattle.shared_disk.specs.Refusal.{IsRisen}
use Rattle.pool_session.proofs.FaultLemmas.{rose_since}
use Rattle.pool_session.proofs.TurnLemmas.{more_knows, done_holds, ended_mixed}
use Rattle.pool_session.specs.Image.{file_of}
use Rattle.pool_session.proofs.AnyLemmas.{more_sofar, done_written, ended_written}
use Rattle.pool_session.proofs.image.Image.write.Goals as goal

pub loop-next-preserved : goal.loop-next-preserved
loop-next-preserved g c =
    let nears = c.in-More.ensures.keeps in
    let counts = c.in-More.ensures.counts in (
      nears.0.from ∙ c.loop-next.invariant.0,
      nears.0.place ∙ c.loop-next.invariant.1,
      counts.cause ∙ c.loop-next.invariant.2,
      λ d flat one tells holds.
          let knows = c.loop-next.invariant.3 d flat one tells holds in
          let step = c.in-More.ensures.content knows.0 knows.1 in
          let steps = subst (λ h. WriteSteps c.loop-next.write.stage c.loop-next.write h (g.D.SharedDisk.faults c.step.new.disk) c.args.part.now (More c.in-More.next) knows.0 step.0) one step.2 in (
            step.0,
            step.1,
            more_knows c.args.self.now flat c.loop-next.write c.args.at (g.D.SharedDisk.faults c.step.new.disk) c.args.part.now knows.0 step.0 c.loop-next.invariant.0 c.loop-next.invariant.1
                c.requires.aligned c.requires.piece.0 c.requires.within c.loop-next.write.stage c.in-More.next knows.2 steps,
          ),
      λ d tells.
          let sofar = c.loop-next.invariant.4 d tells in
          let step = c.in-More.ensures.content sofar.0 sofar.1 in (
            step.0,
            step.1,
            more_sofar c.loop-next.write c.args.host c.args.at (g.D.SharedDisk.faults c.step.new.disk) c.args.self.now.capacity (file_of c.args.self.now) c.args.part.now d sofar.0 step.0
                c.loop-next.invariant.0 c.loop-next.invariant.1 c.requires.within c.loop-next.write.stage c.in-More.next sofar.2 step.2,
          ),
    )

pub returns-in-Done-clause-content : goal.returns-in-Done-clause-content
returns-in-Done-clause-content g c d flat one tells holds =
    let knows = c.loop-next.invariant.3 d flat one tells holds in
    let step = c.in-Done.ensures.content knows.0 knows.1 in
    let steps = subst (λ h. WriteSteps c.loop-next.write.stage c.loop-next.write h (g.D.SharedDisk.faults c.step.new.disk) c.args.part.now (Done tt) knows.0 step.0) one step.2 in (
      step.0,
      step.1,
      done_holds c.args.self.now flat c.loop-next.write c.args.at (g.D.SharedDisk.faults c.step.new.disk) c.args.part.now knows.0 step.0 c.loop-next.invariant.0 c.loop-next.invariant.1
          c.requires.aligned c.requires.piece.0 c.requires.within c.loop-next.write.stage knows.2 steps,
    )

pub returns-in-Ended-clause-content : goal.returns-in-Ended-clause-content
returns-in-Ended-clause-content g c d flat one tells holds =
    let knows = c.loop-next.invariant.3 d flat one tells holds in
    let step = c.in-Ended.ensures.content knows.0 knows.1 in
    let steps = subst (λ h. WriteSteps c.loop-next.write.stage c.loop-next.write h (g.D.SharedDisk.faults c.step.new.disk) c.args.part.now (Ended tt c.in-Ended.refusal) knows.0 step.0) one step.2 in
    let mixed = ended_mixed c.args.self.now flat c.loop-next.write c.args.at (g.D.SharedDisk.faults c.step.new.disk) c.args.part.now knows.0 step.0 c.loop-next.invariant.0 c.loop-next.invariant.1
    c.requires.aligned c.requires.piece.0 c.requires.within c.loop-next.write.stage c.in-Ended.refusal knows.2 steps in
    let cause = subst (IsRisen (g.D.SharedDisk.faults c.loop-next.disk) (g.D.SharedDisk.faults c.step.new.disk)) mixed.0 c.in-Ended.ensures.counts.cause in
    (step.0, step.1, ((rose_since (g.D.SharedDisk.faults c.args.disk.now) (g.D.SharedDisk.faults c.loop-next.disk) (g.D.SharedDisk.faults c.step.new.disk) (omega (arith, c.loop-next.invariant.2)) cause.0, mixed.0), mixed.1.0, mixed.1.1, mixed.1.2))

pub returns-in-Done-clause-written : goal.returns-in-Done-clause-written
returns-in-Done-clause-written g c d tells =
    let sofar = c.loop-next.invariant.4 d tells in
    let step = c.in-Done.ensures.content sofar.0 sofar.1 in (
      step.0,
      step.1,
      done_written c.loop-next.write c.args.host c.args.at (g.D.SharedDisk.faults c.step.new.disk) c.args.self.now.capacity (file_of c.args.self.now) c.args.part.now d sofar.0 step.0
          c.loop-next.invariant.0 c.loop-next.invariant.1 c.requires.within c.loop-next.write.stage sofar.2 step.2,
    )

pub returns-in-Ended-clause-written : goal.returns-in-Ended-clause-written
returns-in-Ended-clause-written g c d tells =
    let sofar = c.loop-next.invariant.4 d tells in
    let step = c.in-Ended.ensures.content sofar.0 sofar.1 in (
      step.0,
      step.1,
      ended_written c.loop-next.write c.args.host c.args.at (g.D.SharedDisk.faults c.step.new.disk) c.args.self.now.capacity (file_of c.args.self.now) c.args.part.now d sofar.0 step.0
          c.loop-next.invariant.0 c.loop-next.invariant.1 c.requires.within c.loop-next.write.stage c.in-Ended.refusal sofar.2 step.2,
    )

pub returns-in-Done-clause-faults : goal.returns-in-Done-clause-faults
returns-in-Done-clause-faults g c = c.in-Done.ensures.counts.cause ∙ c.loop-next.invariant.2

pub returns-in-Ended-clause-faults : goal.returns-in-Ended-clause-faults
returns-in-Ended-clause-faults g c = subst (λ n. IsRisen n (g.D.SharedDisk.faults c.step.new.disk) c.in-Ended.refusal) c.loop-next.invariant.2 c.in-Ended.ensures.counts.cause
