use Rattle.std.proofs.Common.{Result, Err, subst, ap, ◌∙◌}
use Rattle.kv_text.specs.Gives.{Gives}
use Rattle.sd_names.specs.declared.fault.DomainFault.{DomainFault}
use Rattle.sd_names.specs.declared.fault.DomainFault.TheVariants.{Memory}
use Rattle.domain_meta.specs.Read.{read_domain}
use Rattle.domain_meta.specs.declared.record.DomainRecord.{DomainRecord}
use Rattle.spm_role.proofs.Faults.{out_of_memory}
use Rattle.spm_role.proofs.master.master_in.Goals as goal

pub returns-in-Err-Memory-clause-told : goal.returns-in-Err-Memory-clause-told
returns-in-Err-Memory-clause-told c =
    out_of_memory c.args.sd c.args.text.now (subst (λ (r : Result DomainRecord DomainFault). Gives Memory r (read_domain c.args.sd c.args.text.now)) (c.in-Err-Memory.is ∙ ap (λ (f : DomainFault). Err f) c.in-Err-Memory.field-0-is) c.read.ensures.read)
