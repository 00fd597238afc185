use Rattle.std.proofs.Common.{◌≡◌, ◌∙◌, Option, Some, None, sym, refl}
use Rattle.std.specs.Prelude.{IfNone}
use Rattle.sd_names.specs.declared.id.Id.{Id}
use Rattle.chain_records.specs.Records.{records_in}
use Rattle.chain_records.proofs.Ups.{base_no_up, ringed_no_up}
use Rattle.chain_records.proofs.records.VolumeRecords.up.Goals as goal

pub returns-in_default-clause-none : goal.returns-in_default-clause-none
returns-in_default-clause-none c = λ up over. ringed_no_up (records_in c.args.self.now) c.args.id.now up c.in_default.ensures.none over

none_if : (o : Option Id) (P : Type 0) → (o ≡ None → P) → IfNone o P
none_if None P is = is refl
none_if (Some x) P is = tt

pub returns-clause-none : goal.returns-clause-none
returns-clause-none c =
    none_if c.first_that_counts.result _
    (λ none up over. base_no_up (records_in c.args.self.now) c.args.id.now up c.in-Some.below c.in-Some.ensures.some
    (sym c.first_that_counts.ensures ∙ none) over)
