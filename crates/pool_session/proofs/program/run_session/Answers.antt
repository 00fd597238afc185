use Rattle.std.proofs.Common.{false, refl, sym, ap, subst}
use Rattle.script_loop.specs.Ends.{Ends}
use Rattle.script_loop.specs.declared.status.Status.{Status}
use Rattle.shared_disk.specs.Content.{zero_sector}
use Rattle.pool_session.specs.Machine.{Stands}
use Rattle.pool_session.specs.Program.{start}
use Rattle.pool_session.specs.Run.{off}
use Rattle.pool_session.specs.RunsAt.{Reached, state_at}
use Rattle.pool_session.specs.Session.{SessionSays, kept_reply}
use Rattle.pool_session.specs.declared.stage.Stage.{Stage}
use Rattle.pool_session.proofs.BoundLemmas.{none_taken, ends_bounded}
use Rattle.pool_session.proofs.SessionLemmas.{never_short, some_ends, flat_ends, if_ran}
use Rattle.pool_session.proofs.program.run_session.Goals as goal

pub returns-in-Ok-Ok-clause-untouched : goal.returns-in-Ok-Ok-clause-untouched
returns-in-Ok-Ok-clause-untouched g c is =
    let content = g.D.SharedDisk.content in
    let faults = g.D.SharedDisk.faults in
    let left = g.S.Source.left in
    let given = g.K.Sink.given in
    let ended = c.run_script-ended in
    let session = c.in-Ok-Ok.session in
    absurd (never_short content faults ended.result.refused session ended.new.runner c.args.disk.now ended.new.disk (left c.args.source.now) (left ended.new.source) (given c.args.sink.now) (given ended.new.sink)
    (subst (λ (status : Status). Ends (SessionSays content faults) kept_reply status ended.result.refused session c.args.disk.now (left c.args.source.now) (left ended.new.source) (given c.args.sink.now) (given ended.new.sink) ended.new.runner ended.new.disk) is ended.ensures.ends))

pub returns-in-Ok-Ok-clause-runs : goal.returns-in-Ok-Ok-clause-runs
returns-in-Ok-Ok-clause-runs g c =
    let left = g.S.Source.left in
    let given = g.K.Sink.given in
    let ended = c.run_script-ended in
    let ran = some_ends g.D.SharedDisk.content g.D.SharedDisk.faults ended.result.status ended.result.refused c.in-Ok-Ok.session ended.new.runner c.args.disk.now ended.new.disk (left c.args.source.now) (left ended.new.source) (given c.args.sink.now) (given ended.new.sink)
    ended.ensures.ends off c.in-Ok-Ok.ensures.reply c.in-Ok-Ok.ensures.stage in
    if_ran ended.result.status _ (ended.result.refused, ran.0, ran.1)

pub returns-in-Ok-Ok-clause-ends : goal.returns-in-Ok-Ok-clause-ends
returns-in-Ok-Ok-clause-ends g c d tells empty =
    let content = g.D.SharedDisk.content in
    let faults = g.D.SharedDisk.faults in
    let left = g.S.Source.left in
    let given = g.K.Sink.given in
    let ended = c.run_script-ended in
    let session = c.in-Ok-Ok.session in
    let begins = sym c.in-Ok-Ok.ensures.stage in
    let reached : Reached session.machine.stage (content c.args.disk.now) (λ n. zero_sector) = record { disk = d; tells = tells; stands = subst (λ (stage : Stage). Stands stage (λ n. zero_sector) d) begins empty } in
    let ran = flat_ends content faults ended.result.status ended.result.refused session ended.new.runner c.args.disk.now ended.new.disk (left c.args.source.now) (left ended.new.source) (given c.args.sink.now) (given ended.new.sink)
    ended.ensures.ends (start (faults c.args.disk.now)) (λ n. zero_sector) false reached
    (ap (λ (stage : Stage). state_at stage (λ n. zero_sector) (faults c.args.disk.now) false) begins) c.in-Ok-Ok.ensures.reply in
    if_ran ended.result.status _ (ended.result.refused, ran.0, ran.1, ran.2, ran.3, ran.4, ran.5)

pub returns-in-Ok-Ok-clause-bounded : goal.returns-in-Ok-Ok-clause-bounded
returns-in-Ok-Ok-clause-bounded g c =
    let left = g.S.Source.left in
    let given = g.K.Sink.given in
    let ended = c.run_script-ended in
    ends_bounded (SessionSays g.D.SharedDisk.content g.D.SharedDisk.faults) kept_reply ended.result.status ended.result.refused c.in-Ok-Ok.session c.args.disk.now (left c.args.source.now) (left ended.new.source) (given c.args.sink.now) (given ended.new.sink)
    ended.new.runner ended.new.disk ended.ensures.ends

pub returns-in_default-clause-bounded : goal.returns-in_default-clause-bounded
returns-in_default-clause-bounded g c input tells = none_taken (g.S.Source.left c.args.source.now) (g.S.Source.left c.args.source.now) input refl tells
