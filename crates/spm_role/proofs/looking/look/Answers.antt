use Rattle.std.proofs.Common.{◌≡◌, Option, Ok, subst}
use Rattle.lease_area.specs.declared.sector.Sector.{Sector}
use Rattle.spm_role.specs.Look.{look_answer}
use Rattle.spm_role.proofs.looking.look.Goals as goal

pub returns-in-Ok-clause-content : goal.returns-in-Ok-clause-content
returns-in-Ok-clause-content g c d tells =
    let call = c.in-Ok.ensures.call d tells in
    (call.0, call.1, (c.read_at.new.into, Ok c.in-Ok.count, call.2, subst (λ (o : Option Sector). c.asked_in.result ≡ look_answer c.args.up.now c.args.host c.args.prev c.args.lver o) c.sector_read.ensures c.asked_in.ensures.exact))
