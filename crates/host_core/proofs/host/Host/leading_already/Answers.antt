use Rattle.std.proofs.Common.{◌≡◌, ℕ, Option, Some, sym, ap, ◌∙◌}
use Rattle.std.specs.Option.{option_map}
use Rattle.sd_names.specs.declared.refusal.Refusal.TheVariants.{SpmHeld}
use Rattle.host_core.specs.Memory.{Leader, Memory, leader_of}
use Rattle.host_core.specs.State.{role_by}
use Rattle.host_core.specs.declared.leading.Leading.{Leading}
use Rattle.host_core.proofs.host.Host.leading_already.Goals as goal

pub returns-in-Some : goal.returns-in-Some
returns-in-Some c k p up =
    let l : Leader = leader_of c.in-Some.leading in
    let held : c.args.self.now.leading ≡ Some l =
    sym (ap (λ (m : Memory). m.leading) c.self.view_is) ∙ ap (λ (o : Option Leading). option_map leader_of o) c.in-Some.is in (
      record { master = l.master; version = l.lease.version; begun = l.begun },
      ap (λ (o : Option Leader). role_by o) held,
      ap (λ (n : ℕ). SpmHeld n c.version.result) (c.get.ensures.value ∙ ap (λ (m : Memory). m.id) c.self.view_is)
          ∙ ap (λ (n : ℕ). SpmHeld c.args.self.now.id n) c.version.ensures,
    )
