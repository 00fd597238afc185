use Rattle.std.proofs.Common.{Some, subst}
use Rattle.chain_records.specs.Records.{records_in}
use Rattle.chain_records.proofs.Firsts.{Values, values_here, values_on}
use Rattle.chain_records.proofs.records.VolumeRecords.first_bad_value.Goals as goal

pub returns-in-Some : goal.returns-in-Some
returns-in-Some c =
    subst (Values (records_in c.args.self.now) (Some c.in-Some.refusal)) c.as_slice-volume-items.ensures.list
    (values_here (records_in c.args.self.now) c.as_slice-volume-items.result.now c.loop-volume.volume-index c.volume-item.result c.in-Some.refusal
    c.loop-volume-test.true c.volume-item.is c.loop-volume.invariant c.in-Some.ensures)

pub loop-volume-preserved : goal.loop-volume-preserved
loop-volume-preserved c = λ o more.
    values_on (records_in c.args.self.now) c.as_slice-volume-items.result.now c.loop-volume.volume-index c.volume-item.result o c.loop-volume-test.true
    c.volume-item.is c.loop-volume.invariant c.in_default.ensures more
