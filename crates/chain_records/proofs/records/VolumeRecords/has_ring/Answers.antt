use Rattle.std.proofs.Common.{subst}
use Rattle.std.proofs.lemmas.Bool.{false≢true}
use Rattle.chain_records.specs.Paths.{HasChain}
use Rattle.chain_records.specs.Records.{records_in}
use Rattle.chain_records.proofs.Lists.{AllOf, all_end, all_on}
use Rattle.chain_records.proofs.Readers.{chained, no_rings, not_none}
use Rattle.chain_records.proofs.records.VolumeRecords.has_ring.Goals as goal

pub loop-volume-preserved : goal.loop-volume-preserved
loop-volume-preserved c =
    all_on (HasChain (records_in c.args.self.now)) c.as_slice-volume-items.result.now c.loop-volume.volume-index c.volume-item.result
    c.loop-volume-test.true c.volume-item.is c.loop-volume.invariant
    (chained (records_in c.args.self.now) c.volume-item.result.id c.below.result c.below.ensures.some (not_none c.below.result c.if-is_none.ensures))

pub returns : goal.returns
returns c =
    let all = all_end (HasChain
    (records_in c.args.self.now)) c.as_slice-volume-items.result.now c.loop-volume.volume-index c.loop-volume-test.false c.loop-volume.invariant in (
      (λ t. absurd (false≢true t)),
      (λ ring. absurd (no_rings c.args.self.now (subst (AllOf (HasChain (records_in c.args.self.now))) c.as_slice-volume-items.ensures.list all) ring)),
    )
