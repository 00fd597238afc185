use Rattle.std.proofs.Common.{subst, Result, Ok, Err}
use Rattle.sd_names.specs.declared.refusal.Refusal.{Refusal}
use Rattle.spm_role.specs.List.{ListsPool}
use Rattle.spm_role.specs.Spm.{domains_of, master_of}
use Rattle.role_taking.proofs.Listing.{list_steps}
use Rattle.role_taking.proofs.taking.list_behind.Goals as goal

pub returns-in-Ok-clause-content : goal.returns-in-Ok-clause-content
returns-in-Ok-clause-content g c up d tells =
    let call = c.read_list.ensures.content d tells in (
      call.0,
      call.1,
      list_steps c.args.host up c.args.spm c.read_list.new.self (Ok c.in-Ok.field-0) (g.D.SharedDisk.faults c.read_list.new.disk) d call.0 c.read_list.ensures.same c.in-Ok.ensures.rising
          (subst (λ (r : Result (Unit {0}) Refusal). ListsPool c.args.host (master_of c.args.spm) (g.D.SharedDisk.faults c.read_list.new.disk) r (domains_of c.args.spm) (domains_of c.read_list.new.self) d call.0) c.in-Ok.is call.2),
    )

pub returns-in-Err-clause-content : goal.returns-in-Err-clause-content
returns-in-Err-clause-content g c up d tells =
    let call = c.read_list.ensures.content d tells in (
      call.0,
      call.1,
      list_steps c.args.host up c.args.spm c.read_list.new.self (Err c.in-Err.refusal) (g.D.SharedDisk.faults c.read_list.new.disk) d call.0 c.read_list.ensures.same tt
          (subst (λ (r : Result (Unit {0}) Refusal). ListsPool c.args.host (master_of c.args.spm) (g.D.SharedDisk.faults c.read_list.new.disk) r (domains_of c.args.spm) (domains_of c.read_list.new.self) d call.0) c.in-Err.is call.2),
    )
