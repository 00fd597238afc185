use Rattle.std.proofs.Common.{◌≡◌, ◌/◌, length, take, refl, subst, inl, inr, arith, length-take}
use Rattle.pool_session.proofs.MachineLemmas.{read_done, read_cut, holds_seen}
use Rattle.shared_disk.specs.Calls.{IsSame, Told}
use Rattle.raw_layer.specs.Raw.{ReadsFile}
use Rattle.pool_session.specs.Image.{file_of}
use Rattle.pool_session.specs.Machine.{part_refusal}
use Rattle.pool_session.specs.Fault.{SameOrFault}
use Rattle.pool_session.proofs.AnyLemmas.{on_fit}
use Rattle.pool_session.proofs.ToldLemmas.{told_as}
use Rattle.pool_session.proofs.machine.Machine.read.Goals as goal

pub returns-in-Ok-clause-content : goal.returns-in-Ok-clause-content
returns-in-Ok-clause-content g c bytes d flat refusals tells stands =
    let read = c.in-Ok.ensures.content d flat tells stands in
    let long : length (take c.args.count c.read_front.new.room) ≡ c.args.count = omega (arith, length-take c.args.count c.read_front.new.room) in (
      d,
      flat,
      read.0,
      stands,
      read_done c.args.self.now.stage flat (g.D.SharedDisk.faults c.args.disk.now) refusals c.args.image c.args.at (g.D.SharedDisk.faults c.read_front.new.disk)
          c.part_refusal.result c.in_default.not-Some c.in-Ok.ensures.faults c.args.count bytes (take c.args.count c.read_front.new.room) c.part_refusal.ensures.refusal long read.1,
    )

pub returns-in-Err-clause-content : goal.returns-in-Err-clause-content
returns-in-Err-clause-content g c bytes d flat refusals tells stands =
    let read = c.in-Err.ensures.content d flat tells stands in (
      d,
      flat,
      read.0,
      holds_seen c.args.image flat d stands,
      read_cut c.args.self.now.stage flat (g.D.SharedDisk.faults c.args.disk.now) refusals c.args.image c.args.at (g.D.SharedDisk.faults c.read_front.new.disk)
          c.part_refusal.result c.in_default.not-Some c.in-Err.ensures.count c.args.count bytes (take 0 c.read_front.new.room) c.in-Err.refusal c.part_refusal.ensures.refusal read.1.0 read.1.1,
    )

pub returns-in-Ok-clause-any : goal.returns-in-Ok-clause-any
returns-in-Ok-clause-any g c bytes =
    let content = g.D.SharedDisk.content in
    let image = c.args.image in
    let count = c.args.count in
    let read = take count c.read_front.new.room in
    let long : length read ≡ count = omega (arith, length-take count c.read_front.new.room) in
    on_fit c.part_refusal.result (part_refusal c.args.at count image.capacity) _ _ c.part_refusal.ensures.refusal c.in_default.not-Some
    (inl ((refl, refl), long, subst (λ host. Told (content c.args.disk.now) (content c.read_front.new.disk) (λ d e. IsSame d e × ReadsFile d host (file_of image) (c.args.at / 512) read)) c.args.self.now.first c.in-Ok.ensures.read))

pub returns-in-Err-clause-any : goal.returns-in-Err-clause-any
returns-in-Err-clause-any g c bytes =
    let content = g.D.SharedDisk.content in
    on_fit c.part_refusal.result (part_refusal c.args.at c.args.count c.args.image.capacity) _ _ c.part_refusal.ensures.refusal c.in_default.not-Some
    (inr (c.in-Err.refusal, refl, refl, told_as (content c.args.disk.now) (content c.read_front.new.disk) IsSame (SameOrFault c.in-Err.refusal IsSame) (λ d e same. inl same) c.in-Err.ensures.read))
