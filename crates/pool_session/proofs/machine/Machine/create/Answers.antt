use Rattle.std.proofs.Common.{ap, refl, subst, inl, inr}
use Rattle.script_lines.specs.declared.reply.Reply.TheVariants.{Refused}
use Rattle.pool_session.specs.Image.{HasPartOfImage}
use Rattle.shared_disk.specs.Calls.{Told}
use Rattle.pool_session.specs.Fault.{SameOrFault}
use Rattle.pool_session.specs.FileCalls.{ImageMade, ImagePartlyMade}
use Rattle.pool_session.proofs.machine.Machine.create.Goals as goal

pub returns-in-Err-clause-content : goal.returns-in-Err-clause-content
returns-in-Err-clause-content g c bytes room d flat refusals tells stands =
    let made = c.in-Err.ensures.content d tells stands in
    (made.0, flat, made.1, subst (λ host. HasPartOfImage host c.args.image made.0) c.args.self.now.first made.2.1, inr (made.2.0.0, ap (λ r. Refused r) made.2.0.1, c.in-Err.ensures.count, refl))

pub returns-in-Ok-clause-any : goal.returns-in-Ok-clause-any
returns-in-Ok-clause-any g c bytes room =
    let content = g.D.SharedDisk.content in
    inl ((refl, refl), subst (λ host. Told (content c.args.disk.now) (content c.create.new.disk) (ImageMade host c.args.image)) c.args.self.now.first c.in-Ok.ensures.made)

pub returns-in-Err-clause-any : goal.returns-in-Err-clause-any
returns-in-Err-clause-any g c bytes room =
    let content = g.D.SharedDisk.content in
    inr (c.in-Err.refusal, refl, refl, subst (λ host. Told (content c.args.disk.now) (content c.create.new.disk) (SameOrFault c.in-Err.refusal (ImagePartlyMade host c.args.image))) c.args.self.now.first c.in-Err.ensures.made)
