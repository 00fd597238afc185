use Rattle.std.proofs.Common.{ap, refl, inl, inr}
use Rattle.script_lines.specs.declared.reply.Reply.TheVariants.{Refused}
use Rattle.pool_session.proofs.machine.Machine.make_pool.Goals as goal

pub returns-in-Ok-clause-content : goal.returns-in-Ok-clause-content
returns-in-Ok-clause-content g c bytes room d flat refusals tells stands =
    let made = c.in-Ok.ensures.content d tells stands in
    (made.0, flat, made.1, made.2, inl (refl, c.in-Ok.ensures.faults, refl))

pub returns-in-Err-clause-content : goal.returns-in-Err-clause-content
returns-in-Err-clause-content g c bytes room d flat refusals tells stands =
    let made = c.in-Err.ensures.content d tells stands in
    (made.0, flat, made.1, made.2.1, inr (made.2.0.0, ap (λ r. Refused r) made.2.0.1, c.in-Err.ensures.count, refl))

pub returns-in-Ok-clause-any : goal.returns-in-Ok-clause-any
returns-in-Ok-clause-any g c bytes room = inl ((refl, refl), c.in-Ok.ensures.made)

pub returns-in-Err-clause-any : goal.returns-in-Err-clause-any
returns-in-Err-clause-any g c bytes room = inr (c.in-Err.refusal, refl, refl, c.in-Err.ensures.made)
