use Rattle.std.proofs.Common.{refl}
use Rattle.pool_session.proofs.FaultLemmas.{fault_told}
use Rattle.pool_session.proofs.FolderLemmas.{dir_failed, just_made}
use Rattle.pool_session.proofs.AnyLemmas.{dir_refused}
use Rattle.pool_session.proofs.folders.make_dir.Goals as goal

pub returns-in-Err-clause-refused : goal.returns-in-Err-clause-refused
returns-in-Err-clause-refused g c d tells =
    let call = c.in-Err.ensures.call d tells in
    (call.0, call.1, rw (c.refusal_for.ensures) (dir_refused d call.0 c.args.dir c.in-Err.answer (g.D.SharedDisk.faults c.make_dir.new.self) call.2))

pub returns-in-Ok-clause-content : goal.returns-in-Ok-clause-content
returns-in-Ok-clause-content g c d dirs tells has above new =
    let call = c.in-Ok.ensures.call d tells in
    (call.0, call.1, just_made dirs c.args.dir d call.0 has new call.2)

pub returns-in-Err-clause-content : goal.returns-in-Err-clause-content
returns-in-Err-clause-content g c d dirs tells has above new =
    let call = c.in-Err.ensures.call d tells in
    let failed = dir_failed dirs c.args.dir d call.0 c.in-Err.answer has above new call.2 in
    let fault = fault_told (g.D.SharedDisk.faults c.args.disk.now) (g.D.SharedDisk.faults c.make_dir.new.self) _ c.in-Err.answer c.refusal_for.result refl c.in-Err.ensures.cause failed.0 c.refusal_for.ensures in
    (call.0, call.1, (fault, failed.1))
