use Rattle.std.proofs.Common.{Err, ap, sym, ◌∙◌}
use Rattle.sd_names.specs.declared.refusal.Refusal.{Refusal}
use Rattle.lease_area.specs.Hold.{role_refusal}
use Rattle.lease_area.specs.Move.{role_taken}
use Rattle.lease_area.specs.declared.attempt.NotTaken.{NotTaken}
use Rattle.lease_area.proofs.ByExchange.{finish, leaves, taking}
use Rattle.lease_area.proofs.taking.take_role.Goals as goal

pub returns-in-Err-Found-clause-content : goal.returns-in-Err-Found-clause-content
returns-in-Err-Found-clause-content g c d tells =
    let call = c.in-Err-Found.ensures.exchange d tells in
    let by = taking c.args.host 0 (g.D.SharedDisk.faults c.attempt.new.disk) c.args.sd (role_refusal c.args.up.now c.args.host c.args.expect.now) c.args.expect.now c.role_taken-new.result (role_taken c.args.up.now c.args.host c.args.expect.now) (Err c.in-Err-Found.field-0) (Err c.role_refusal.result) d call.0 c.role_taken-new.ensures.exact call.2
    (ap (λ (r : Refusal). Err r) c.role_refusal.ensures.exact ∙ ap (λ (n : NotTaken). finish (role_refusal c.args.up.now c.args.host c.args.expect.now) (Err n)) (sym c.in-Err-Found.field-0-is)) in
    (call.0, call.1, λ bytes stands. leaves c.args.host 0 (g.D.SharedDisk.faults c.attempt.new.disk) c.args.sd (role_refusal c.args.up.now c.args.host c.args.expect.now) c.args.expect.now (role_taken c.args.up.now c.args.host c.args.expect.now) (Err c.role_refusal.result) bytes d call.0 by stands)

pub returns-in-Err-Found-clause-exchange : goal.returns-in-Err-Found-clause-exchange
returns-in-Err-Found-clause-exchange g c d tells =
    let call = c.in-Err-Found.ensures.exchange d tells in
    let by = taking c.args.host 0 (g.D.SharedDisk.faults c.attempt.new.disk) c.args.sd (role_refusal c.args.up.now c.args.host c.args.expect.now) c.args.expect.now c.role_taken-new.result (role_taken c.args.up.now c.args.host c.args.expect.now) (Err c.in-Err-Found.field-0) (Err c.role_refusal.result) d call.0 c.role_taken-new.ensures.exact call.2
    (ap (λ (r : Refusal). Err r) c.role_refusal.ensures.exact ∙ ap (λ (n : NotTaken). finish (role_refusal c.args.up.now c.args.host c.args.expect.now) (Err n)) (sym c.in-Err-Found.field-0-is)) in
    (call.0, call.1, by)

pub returns-in-Err-Refused-clause-content : goal.returns-in-Err-Refused-clause-content
returns-in-Err-Refused-clause-content g c d tells =
    let call = c.in-Err-Refused.ensures.exchange d tells in
    let by = taking c.args.host 0 (g.D.SharedDisk.faults c.attempt.new.disk) c.args.sd (role_refusal c.args.up.now c.args.host c.args.expect.now) c.args.expect.now c.role_taken-new.result (role_taken c.args.up.now c.args.host c.args.expect.now) (Err c.in-Err-Refused.field-0) (Err c.in-Err-Refused.refusal) d call.0 c.role_taken-new.ensures.exact call.2
    (ap (λ (n : NotTaken). finish (role_refusal c.args.up.now c.args.host c.args.expect.now) (Err n)) (sym c.in-Err-Refused.field-0-is)) in
    (call.0, call.1, λ bytes stands. leaves c.args.host 0 (g.D.SharedDisk.faults c.attempt.new.disk) c.args.sd (role_refusal c.args.up.now c.args.host c.args.expect.now) c.args.expect.now (role_taken c.args.up.now c.args.host c.args.expect.now) (Err c.in-Err-Refused.refusal) bytes d call.0 by stands)
