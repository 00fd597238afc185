use Rattle.std.proofs.Common.{refl}
use Rattle.pool_session.proofs.FaultLemmas.{fault_told}
use Rattle.pool_session.proofs.ImageLemmas.{sync_failed, synced_put}
use Rattle.pool_session.proofs.image.sync_file.Goals as goal

pub returns-in-Ok-clause-content : goal.returns-in-Ok-clause-content
returns-in-Ok-clause-content g c d f tells there =
    let call = c.in-Ok.ensures.call d tells in
    (call.0, call.1, synced_put d call.0 c.args.host c.args.place f there call.2)

pub returns-in-Err-clause-content : goal.returns-in-Err-clause-content
returns-in-Err-clause-content g c d f tells there =
    let call = c.in-Err.ensures.call d tells in
    let failed = sync_failed d call.0 c.args.host c.args.place f c.in-Err.answer there call.2 in
    let fault = fault_told (g.D.SharedDisk.faults c.args.disk.now) (g.D.SharedDisk.faults c.sync.new.self) _ c.in-Err.answer c.refusal_for.result refl c.in-Err.ensures.cause failed.0 c.refusal_for.ensures in
    (call.0, call.1, (fault, failed.1))
