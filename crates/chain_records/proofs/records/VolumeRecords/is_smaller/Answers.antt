use Rattle.std.proofs.Common.{◌∙◌, sym}
use Rattle.std.proofs.lemmas.Bool.{false≢true}
use Rattle.std.proofs.lemmas.Bool.Decides.{Decides-ltb}
use Rattle.chain_records.specs.Records.{records_in}
use Rattle.chain_records.proofs.Capacities.{base_not_smaller, ringed_not_smaller, smaller_than, without_other}
use Rattle.chain_records.proofs.records.VolumeRecords.is_smaller.Goals as goal

pub returns-in_default : goal.returns-in_default
returns-in_default c = (
  (λ t. absurd (false≢true t)),
  (λ s. absurd (ringed_not_smaller
      (records_in c.args.self.now) c.args.id.now c.in_default.ensures.none s)),
)

pub returns-in_default-first_that_counts : goal.returns-in_default-first_that_counts
returns-in_default-first_that_counts c = (
  (λ t. absurd (false≢true t)),
  (λ s. absurd (base_not_smaller (records_in c.args.self.now) c.args.id.now c.in-Some.below c.in-Some.ensures.some
      (sym c.first_that_counts.ensures ∙ c.in_default-first_that_counts.is) s)),
)

pub returns-in_default-capacity-2 : goal.returns-in_default-capacity-2
returns-in_default-capacity-2 c =
    let up = sym c.first_that_counts.ensures ∙ c.in-Some-first_that_counts.is in
    let none = sym c.capacity-2.ensures ∙ c.in_default-capacity-2.is in (
      (λ t. absurd (false≢true t)),
      (λ s. absurd (without_other
          (records_in c.args.self.now) c.args.id.now c.in-Some-first_that_counts.up c.in-Some.below c.in-Some.ensures.some up none s)),
    )

pub returns : goal.returns
returns c =
    let up = sym c.first_that_counts.ensures ∙ c.in-Some-first_that_counts.is in
    let own = sym c.capacity.ensures ∙ c.in-Some-capacity.is in
    let other = sym c.capacity-2.ensures ∙ c.in-Some-capacity-2.is in
    let test = Decides-ltb c.in-Some-capacity.own c.in-Some-capacity-2.other in (
      (λ t. (
        c.in-Some.below,
        c.in-Some.ensures.some,
        c.in-Some-first_that_counts.up,
        up,
        c.in-Some-capacity.own,
        c.in-Some-capacity-2.other,
        own,
        other,
        test.0 t,
      )),
      (λ s. test.1 (smaller_than
          (records_in c.args.self.now) c.args.id.now c.in-Some-first_that_counts.up c.in-Some.below c.in-Some-capacity.own c.in-Some-capacity-2.other
          c.in-Some.ensures.some up own other s)),
    )
