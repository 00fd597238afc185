use Rattle.std.proofs.Common.{refl}
use Rattle.pool_session.proofs.machine.Machine.run.Goals as goal

pub returns-in-Boot-clause-content : goal.returns-in-Boot-clause-content
returns-in-Boot-clause-content g c = rw c.in-Boot.is (λ d flat refusals tells stands. (d, flat, tells, stands, (refl, refl, refl)))

pub returns-in-SpmStart-clause-content : goal.returns-in-SpmStart-clause-content
returns-in-SpmStart-clause-content g c = rw c.in-SpmStart.is (λ d flat refusals tells stands. (d, flat, tells, stands, (refl, refl, refl)))

pub returns-in-MakePool-clause-content : goal.returns-in-MakePool-clause-content
returns-in-MakePool-clause-content g c = rw c.in-MakePool.is (λ d flat refusals tells stands. c.make_pool.ensures.content c.args.bytes.now c.args.room.now d flat refusals tells stands)

pub returns-in-Create-clause-content : goal.returns-in-Create-clause-content
returns-in-Create-clause-content g c = rw c.in-Create.is (λ d flat refusals tells stands. c.create.ensures.content c.args.bytes.now c.args.room.now d flat refusals tells stands)

pub returns-in-Write-clause-content : goal.returns-in-Write-clause-content
returns-in-Write-clause-content g c = rw c.in-Write.is (λ d flat refusals tells stands. c.write.ensures.content c.args.room.now d flat refusals tells stands)

pub returns-in-Read-clause-content : goal.returns-in-Read-clause-content
returns-in-Read-clause-content g c = rw c.in-Read.is (λ d flat refusals tells stands. c.read.ensures.content c.args.bytes.now d flat refusals tells stands)

pub returns-in-Boot-clause-any : goal.returns-in-Boot-clause-any
returns-in-Boot-clause-any g c = rw c.in-Boot.is ((refl, refl), refl)

pub returns-in-SpmStart-clause-any : goal.returns-in-SpmStart-clause-any
returns-in-SpmStart-clause-any g c = rw c.in-SpmStart.is ((refl, refl), refl)

pub returns-in-Open-clause-any : goal.returns-in-Open-clause-any
returns-in-Open-clause-any g c = rw c.in-Open.is ((refl, refl), refl)

pub returns-in-MakePool-clause-any : goal.returns-in-MakePool-clause-any
returns-in-MakePool-clause-any g c = rw c.in-MakePool.is (c.make_pool.ensures.any c.args.bytes.now c.args.room.now)

pub returns-in-Create-clause-any : goal.returns-in-Create-clause-any
returns-in-Create-clause-any g c = rw c.in-Create.is (c.create.ensures.any c.args.bytes.now c.args.room.now)

pub returns-in-Write-clause-any : goal.returns-in-Write-clause-any
returns-in-Write-clause-any g c = rw c.in-Write.is (c.write.ensures.any c.args.room.now)

pub returns-in-Read-clause-any : goal.returns-in-Read-clause-any
returns-in-Read-clause-any g c = rw c.in-Read.is (c.read.ensures.any c.args.bytes.now)
