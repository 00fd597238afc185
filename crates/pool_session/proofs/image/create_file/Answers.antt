use Rattle.std.proofs.Common.{◌≡◌, ◌⊎◌, ◌/◌, Ok, Some, refl, subst, sym, inr, arith}
use Rattle.shared_disk.specs.Content.{Content}
use Rattle.shared_disk.specs.Calls.{IsCreated, IsPut, Syncs, created, synced}
use Rattle.shared_disk.specs.Step.{ResultFaults}
use Rattle.pool_session.proofs.FaultLemmas.{ends_since, fault_told}
use Rattle.pool_session.proofs.ImageLemmas.{create_failed, put_twice}
use Rattle.pool_session.specs.FileCalls.{FileMade}
use Rattle.pool_session.proofs.AnyLemmas.{file_made}
use Rattle.pool_session.proofs.ToldLemmas.{ok_since}
use Rattle.pool_session.proofs.image.create_file.Goals as goal

pub returns-in-Ok-clause-content : goal.returns-in-Ok-clause-content
returns-in-Ok-clause-content g c d tells folder free =
    let place = c.args.place in
    let fresh = created c.args.host (c.args.size / 512) in
    let made = c.in-Ok.ensures.call d tells in
    let put = made.2.put in
    let done = c.sync_file.ensures.content made.0 fresh made.1 put.here in (
      done.0,
      done.1,
      ends_since (λ _. IsPut made.0 place (Some (synced c.args.host fresh)) done.0) (λ _. IsPut d place (Some (synced c.args.host fresh)) done.0)
          (done.0 ≡ made.0) ((done.0 ≡ d) ⊎ IsPut d place (Some fresh) done.0)
          (g.D.SharedDisk.faults c.args.disk.now) (g.D.SharedDisk.faults c.create.new.self) (g.D.SharedDisk.faults c.sync_file.new.disk) c.sync_file.result (omega arith)
          (λ _ twice. put_twice d made.0 done.0 place (Some fresh) (Some (synced c.args.host fresh)) put twice)
          (λ same. inr (subst (λ (e : Content). IsPut d place (Some fresh) e) (sym same) put)) done.2,
    )

pub returns-in-Err-clause-content : goal.returns-in-Err-clause-content
returns-in-Err-clause-content g c d tells folder free =
    let call = c.in-Err.ensures.call d tells in
    let failed = create_failed d call.0 c.args.host c.args.place (c.args.size / 512) c.in-Err.answer folder free call.2 in
    let fault = fault_told (g.D.SharedDisk.faults c.args.disk.now) (g.D.SharedDisk.faults c.create.new.self) _ c.in-Err.answer c.refusal_for.result refl c.in-Err.ensures.cause failed.0 c.refusal_for.ensures in
    (call.0, call.1, (fault, failed.1))

pub returns-in-Ok-clause-made : goal.returns-in-Ok-clause-made
returns-in-Ok-clause-made g c =
    let content = g.D.SharedDisk.content in
    let host = c.args.host in
    let place = c.args.place in
    let size = c.args.size / 512 in
    ok_since c.sync_file.result (content c.args.disk.now) (content c.create.new.self) (content c.sync_file.new.disk)
    (λ d e. IsCreated d host place size e) (λ d e. Syncs d host place (Ok tt) e) (FileMade host place size)
    (file_made host place size) c.in-Ok.ensures.call c.sync_file.ensures.synced

pub returns-in-Ok-clause-faults : goal.returns-in-Ok-clause-faults
returns-in-Ok-clause-faults g c = subst (λ n. ResultFaults n (g.D.SharedDisk.faults c.sync_file.new.disk) c.sync_file.result) (c.in-Ok.ensures.cause.uncounted (λ e. cc)) c.sync_file.ensures.faults
