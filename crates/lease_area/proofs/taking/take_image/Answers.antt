use Rattle.std.proofs.Common.{Err, ap, sym, ◌∙◌}
use Rattle.sd_names.specs.declared.refusal.Refusal.{Refusal}
use Rattle.lease_area.specs.Hold.{image_refusal}
use Rattle.lease_area.specs.Move.{image_taken}
use Rattle.lease_area.specs.declared.attempt.NotTaken.{NotTaken}
use Rattle.lease_area.proofs.ByExchange.{finish, leaves, taking}
use Rattle.lease_area.proofs.taking.take_image.Goals as goal

pub returns-in-Err-Found-clause-content : goal.returns-in-Err-Found-clause-content
returns-in-Err-Found-clause-content g c d tells =
    let call = c.in-Err-Found.ensures.exchange d tells in
    let by = taking c.args.host c.args.slot (g.D.SharedDisk.faults c.attempt.new.disk) c.args.sd (image_refusal c.args.up.now c.args.host c.args.image) c.args.expect.now c.image_taken-new.result (image_taken c.args.up.now c.args.host c.args.kind c.args.image c.args.expect.now) (Err c.in-Err-Found.field-0) (Err c.image_refusal.result) d call.0 c.image_taken-new.ensures.exact call.2
    (ap (λ (r : Refusal). Err r) c.image_refusal.ensures.exact ∙ ap (λ (n : NotTaken). finish (image_refusal c.args.up.now c.args.host c.args.image) (Err n)) (sym c.in-Err-Found.field-0-is)) in
    (call.0, call.1, λ bytes stands. leaves c.args.host c.args.slot (g.D.SharedDisk.faults c.attempt.new.disk) c.args.sd (image_refusal c.args.up.now c.args.host c.args.image) c.args.expect.now (image_taken c.args.up.now c.args.host c.args.kind c.args.image c.args.expect.now) (Err c.image_refusal.result) bytes d call.0 by stands)

pub returns-in-Err-Refused-clause-content : goal.returns-in-Err-Refused-clause-content
returns-in-Err-Refused-clause-content g c d tells =
    let call = c.in-Err-Refused.ensures.exchange d tells in
    let by = taking c.args.host c.args.slot (g.D.SharedDisk.faults c.attempt.new.disk) c.args.sd (image_refusal c.args.up.now c.args.host c.args.image) c.args.expect.now c.image_taken-new.result (image_taken c.args.up.now c.args.host c.args.kind c.args.image c.args.expect.now) (Err c.in-Err-Refused.field-0) (Err c.in-Err-Refused.refusal) d call.0 c.image_taken-new.ensures.exact call.2
    (ap (λ (n : NotTaken). finish (image_refusal c.args.up.now c.args.host c.args.image) (Err n)) (sym c.in-Err-Refused.field-0-is)) in
    (call.0, call.1, λ bytes stands. leaves c.args.host c.args.slot (g.D.SharedDisk.faults c.attempt.new.disk) c.args.sd (image_refusal c.args.up.now c.args.host c.args.image) c.args.expect.now (image_taken c.args.up.now c.args.host c.args.kind c.args.image c.args.expect.now) (Err c.in-Err-Refused.refusal) bytes d call.0 by stands)
