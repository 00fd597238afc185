use Rattle.std.proofs.Common.{[]}
use Rattle.std.proofs.lemmas.List.{take_more, map-append, append-nil}
use Rattle.std.proofs.lemmas.List.Folds.{concat-append}
use Rattle.domain_meta.proofs.checksum.digest_of.Goals as goal

pub loop-line-preserved : goal.loop-line-preserved
loop-line-preserved c =
    rw (take_more c.args.lines.now c.loop-line.line-index (record { ref_ptr = (0, 0); now = [] }) c.loop-line-test.true, map-append, concat-append, append-nil)
    (c.update.ensures _ c.loop-line.invariant)
