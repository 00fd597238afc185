use Rattle.std.proofs.Common.{ℕ, ap, subst}
use Rattle.shared_disk.specs.Crash.{DownLeaves}
use Rattle.host_core.specs.Memory.{Memory}
use Rattle.host_core.proofs.Knowing.{goes_down}
use Rattle.host_core.proofs.host.Host.down.Goals as goal

pub returns-in-Some-clause-content : goal.returns-in-Some-clause-content
returns-in-Some-clause-content g c d tells =
    let call = c.down.ensures.call d tells in
    (call.0, call.1, goes_down c.args.self d call.0 (subst (λ (n : ℕ). DownLeaves d n call.0) (ap (λ (m : Memory). m.id) c.self.view_is) call.2))

pub returns-in-None-clause-content : goal.returns-in-None-clause-content
returns-in-None-clause-content g c d tells =
    let call = c.down.ensures.call d tells in
    (call.0, call.1, goes_down c.args.self d call.0 (subst (λ (n : ℕ). DownLeaves d n call.0) (ap (λ (m : Memory). m.id) c.self.view_is) call.2))
