use Rattle.std.proofs.Common.{sym}
use Rattle.qcow_format.proofs.Kept.{cluster_range, tables_aligned}
use Rattle.qcow_layer.proofs.Starts.{sized_faulted}
use Rattle.qcow_layer.proofs.starting.step_sized.Goals as goal

pub begin_work-requires-clause-low : goal.begin_work-requires-clause-low
begin_work-requires-clause-low g c = (cluster_range c.in-Ok-read.header c.in-Ok-read.ensures.sound.no_fault).0

pub begin_work-requires-clause-high : goal.begin_work-requires-clause-high
begin_work-requires-clause-high g c = (cluster_range c.in-Ok-read.header c.in-Ok-read.ensures.sound.no_fault).1

pub begin_work-requires-clause-l1_aligned : goal.begin_work-requires-clause-l1_aligned
begin_work-requires-clause-l1_aligned g c = (tables_aligned c.in-Ok.head c.in-Ok-read.header (sym c.in-Ok-read.ensures.value)).0

pub begin_work-requires-clause-table_aligned : goal.begin_work-requires-clause-table_aligned
begin_work-requires-clause-table_aligned g c = (tables_aligned c.in-Ok.head c.in-Ok-read.header (sym c.in-Ok-read.ensures.value)).1

pub returns-in-Err-read-clause-content : goal.returns-in-Err-read-clause-content
returns-in-Err-read-clause-content g c d tells =
    let call = c.in-Ok.ensures.content d tells in
    (call.0, call.1, sized_faulted c.args.target c.args.host c.args.length c.in-Ok.head c.in-Err-read.fault d call.0 call.2.0 call.2.1 c.in-Err-read.ensures.value)

pub returns-in-Ok-read-clause-counts : goal.returns-in-Ok-read-clause-counts
returns-in-Ok-read-clause-counts g c = record { one_call = c.in-Ok.ensures.counts.one_call; no_less = c.in-Ok.ensures.counts.no_less; cause = c.begin_work.ensures.cause _ _ c.in-Ok.ensures.counts.cause }
