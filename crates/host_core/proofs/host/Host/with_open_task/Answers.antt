use Rattle.std.proofs.Common.{◌≡◌, Option, Some, refl, sym, ap, ◌∙◌}
use Rattle.std.specs.Option.{option_map}
use Rattle.host_core.specs.Memory.{Leader, Memory, leader_of}
use Rattle.host_core.specs.State.{role_by}
use Rattle.host_core.specs.declared.leading.Leading.{Leading}
use Rattle.host_core.proofs.host.Host.with_open_task.Goals as goal

pub returns-in-Some-begun : goal.returns-in-Some-begun
returns-in-Some-begun c k p up =
    let l : Leader = leader_of c.in-Some.leading in
    let held : c.args.self.now.leading ≡ Some l =
    sym (ap (λ (m : Memory). m.leading) c.self.view_is) ∙ ap (λ (o : Option Leading). option_map leader_of o) c.in-Some.is in
    (record { master = l.master; version = l.lease.version; begun = l.begun }, (c.in-Some-begun.task, ap (λ (o : Option Leader). role_by o) held, c.in-Some-begun.is, refl))
