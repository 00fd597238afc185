use Rattle.std.proofs.Common.{sym, ap, ◌∙◌, subst, inl, inr}
use Rattle.sd_names.specs.declared.id.Id.{Id}
use Rattle.chain_records.specs.Records.{records_in}
use Rattle.chain_records.specs.Settling.{IsOver}
use Rattle.chain_settling.proofs.Plans.{over_one}
use Rattle.chain_settling.proofs.headers.backing_for.Goals as goal

pub returns-in-None : goal.returns-in-None
returns-in-None c up over =
    let here = subst (λ (v : Id). IsOver (records_in c.args.records.now) v up) (sym c.volume.ensures) over in
    inl (sym c.parent.ensures ∙ c.in-None.ensures.none up here)

pub returns-in-None-get : goal.returns-in-None-get
returns-in-None-get c up over =
    let found = subst (λ (v : Id). IsOver (records_in c.args.records.now) v c.in-Some.up) c.volume.ensures c.in-Some.ensures.some in
    let same = over_one (records_in c.args.records.now) _ up c.in-Some.up over found in
    inr (ap (λ (v : Id). records_in c.args.records.now v) same ∙ sym c.in-None-get.ensures)
