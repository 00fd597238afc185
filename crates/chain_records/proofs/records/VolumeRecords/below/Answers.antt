use Rattle.std.proofs.Common.{◌≡◌, ◌∙◌, ◌+◌, List, length, ap, sym, subst, arith, length-append}
use Rattle.sd_names.specs.declared.id.Id.{Id}
use Rattle.chain_records.specs.declared.volume.Volume.{Volume}
use Rattle.chain_records.specs.Records.{ids_of, records_in}
use Rattle.chain_records.proofs.Lists.{length_ids, record_among}
use Rattle.chain_records.proofs.Walks.{Goes, goes_end, goes_on, long_walk}
use Rattle.chain_records.proofs.records.VolumeRecords.below.Goals as goal

pub returns-then-len-as_slice-clause-none : goal.returns-then-len-as_slice-clause-none
returns-then-len-as_slice-clause-none c =
    let as_many : length c.loop-parent.below ≡ length (ids_of c.args.self.now) =
    sym c.len.ensures ∙ c.if-len-as_slice.true ∙ ap (λ (xs : List Volume). length xs) c.as_slice.ensures.list ∙ sym (length_ids c.args.self.now) in
    long_walk (records_in c.args.self.now) (ids_of c.args.self.now)
    (record_among c.args.self.now) c.args.id.now c.loop-parent.last c.in-Some.parent c.loop-parent.below c.loop-parent.invariant.0
    (sym c.parent.ensures ∙ c.in-Some.is) as_many

pub loop-parent-preserved : goal.loop-parent-preserved
loop-parent-preserved c =
    let on = goes_on (records_in c.args.self.now) c.args.id.now c.loop-parent.last c.in-Some.parent c.loop-parent.below c.loop-parent.invariant.0
    (sym c.parent.ensures ∙ c.in-Some.is) in
    let items : length c.as_slice.result.now ≡ length c.args.self.now = ap (λ (xs : List Volume). length xs) c.as_slice.ensures.list in
    let longer : length c.push.new.self ≡ length c.loop-parent.below + 1 = ap (λ (xs : List Id). length xs) c.push.ensures ∙ omega
    (arith, length-append {A = Id}) in (
      subst (λ (us : List Id). Goes (records_in c.args.self.now) c.args.id.now us c.in-Some.parent) (sym c.push.ensures) on,
      omega (arith, c.loop-parent.invariant.1, c.if-len-as_slice.false, c.len.ensures, items, longer),
      omega (arith, c.loop-parent.invariant.1, c.if-len-as_slice.false, c.len.ensures, items, longer, c.as_slice.ensures.few),
    )

pub returns-clause-some : goal.returns-clause-some
returns-clause-some c = goes_end (records_in c.args.self.now) c.args.id.now c.loop-parent.last c.loop-parent.below c.loop-parent.invariant.0
    (sym c.parent.ensures ∙ c.in_default.is)
