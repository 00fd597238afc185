use Rattle.std.proofs.Common.{◌/◌, length, take, refl, subst, inl, inr}
use Rattle.pool_session.specs.Image.{file_of, laid}
use Rattle.pool_session.proofs.MachineLemmas.{write_done, write_cut}
use Rattle.shared_disk.specs.Calls.{Told}
use Rattle.pool_session.specs.Fault.{SameOrFault}
use Rattle.pool_session.specs.FileCalls.{PartlyWritten, Written}
use Rattle.pool_session.specs.Machine.{part_refusal}
use Rattle.pool_session.proofs.AnyLemmas.{on_fit}
use Rattle.pool_session.proofs.machine.Machine.write.Goals as goal

pub returns-in-Ok-clause-content : goal.returns-in-Ok-clause-content
returns-in-Ok-clause-content g c room d flat refusals tells stands =
    let done = c.in-Ok.ensures.content d flat c.args.self.now.first tells stands in (
      done.0,
      laid (c.args.at / 512) c.args.part.now flat,
      done.1,
      done.2,
      write_done c.args.self.now.stage flat (g.D.SharedDisk.faults c.args.disk.now) refusals c.args.image c.args.at (g.D.SharedDisk.faults c.write.new.disk)
          c.part_refusal.result c.in_default.not-Some c.in-Ok.ensures.faults c.args.part.now (take 0 room) c.part_refusal.ensures.refusal,
    )

pub returns-in-Err-clause-content : goal.returns-in-Err-clause-content
returns-in-Err-clause-content g c room d flat refusals tells stands =
    let done = c.in-Err.ensures.content d flat c.args.self.now.first tells stands in (
      done.0,
      done.2.1,
      done.1,
      done.2.3,
      write_cut c.args.self.now.stage flat (g.D.SharedDisk.faults c.args.disk.now) refusals c.args.image c.args.at (g.D.SharedDisk.faults c.write.new.disk)
          c.part_refusal.result c.in_default.not-Some c.in-Err.ensures.count c.args.part.now (take 0 room) c.in-Err.refusal done.2.1 c.part_refusal.ensures.refusal done.2.0.0 done.2.0.1 done.2.2,
    )

pub returns-in-Ok-clause-any : goal.returns-in-Ok-clause-any
returns-in-Ok-clause-any g c room =
    let content = g.D.SharedDisk.content in
    let image = c.args.image in
    let part = c.args.part.now in
    on_fit c.part_refusal.result (part_refusal c.args.at (length part) image.capacity) _ _ c.part_refusal.ensures.refusal c.in_default.not-Some
    (inl ((refl, refl), subst (λ host. Told (content c.args.disk.now) (content c.write.new.disk) (Written host (file_of image) (c.args.at / 512) part)) c.args.self.now.first c.in-Ok.ensures.written))

pub returns-in-Err-clause-any : goal.returns-in-Err-clause-any
returns-in-Err-clause-any g c room =
    let content = g.D.SharedDisk.content in
    let image = c.args.image in
    let part = c.args.part.now in
    on_fit c.part_refusal.result (part_refusal c.args.at (length part) image.capacity) _ _ c.part_refusal.ensures.refusal c.in_default.not-Some
    (inr (c.in-Err.refusal, refl, refl, subst (λ host. Told (content c.args.disk.now) (content c.write.new.disk) (SameOrFault c.in-Err.refusal (PartlyWritten host (file_of image) (c.args.at / 512) part))) c.args.self.now.first c.in-Err.ensures.written))
