use Rattle.std.proofs.Common.{Option, refl, subst}
use Rattle.sd_names.specs.declared.refusal.Refusal.{Refusal}
use Rattle.sd_names.specs.declared.refusal.Refusal.TheVariants.{NoReadingVolume}
use Rattle.chain_model.specs.Opening.{reading}
use Rattle.chain_records.specs.Checks.{FirstIs, record_checks}
use Rattle.chain_records.specs.Records.{ids_of, records_in}
use Rattle.chain_records.proofs.Short.{asks_reading, passes}
use Rattle.volume_chain.proofs.Checked.{none_left, records_cause, records_number}
use Rattle.volume_chain.proofs.checking.checked.Goals as goal

pub returns-in-Some-first_refusal-clause-cause : goal.returns-in-Some-first_refusal-clause-cause
returns-in-Some-first_refusal-clause-cause c before after same =
    records_cause (records_in c.args.records) (record_checks (ids_of c.args.records)) c.in-Some-first_refusal.refusal before after
    (subst (λ (o : Option Refusal). FirstIs (records_in c.args.records) (record_checks (ids_of c.args.records)) o) c.in-Some-first_refusal.is c.first_refusal.ensures) same

pub returns-in-Some-first_refusal-clause-refusals : goal.returns-in-Some-first_refusal-clause-refusals
returns-in-Some-first_refusal-clause-refusals c =
    records_number (records_in c.args.records) (record_checks (ids_of c.args.records)) c.in-Some-first_refusal.refusal
    (subst (λ (o : Option Refusal). FirstIs (records_in c.args.records) (record_checks (ids_of c.args.records)) o) c.in-Some-first_refusal.is c.first_refusal.ensures)

pub returns-in-None-clause-turn : goal.returns-in-None-clause-turn
returns-in-None-clause-turn c =
    let none = none_left c.first_refusal.result c.in_default-first_refusal.not-Some in
    let passed = subst (λ (o : Option Refusal). FirstIs (records_in c.args.records) (record_checks (ids_of c.args.records)) o) none c.first_refusal.ensures in
    absurd (passes (records_in c.args.records) (record_checks (ids_of c.args.records)) passed reading (asks_reading (ids_of c.args.records)) NoReadingVolume (c.in-None.ensures, refl))
