use Rattle.std.proofs.Common.{List, refl, subst}
use Rattle.std.proofs.lemmas.Bool.{false≢true}
use Rattle.chain_records.specs.declared.volume.Volume.{Volume}
use Rattle.chain_records.specs.Rewriting.{IsAt}
use Rattle.chain_records.proofs.Changed.{at_here, at_later}
use Rattle.chain_records.proofs.Lists.{look_on}
use Rattle.chain_records.proofs.records.VolumeRecords.position.Goals as goal

pub returns-then-is-clause-some : goal.returns-then-is-clause-some
returns-then-is-clause-some c =
    subst (λ (xs : List Volume). IsAt xs c.args.id.now c.loop-at.at) c.as_slice-volume-items.ensures.list
    (at_here c.as_slice-volume-items.result.now c.loop-at.at c.volume-item.result c.args.id.now c.loop-at-test.true c.volume-item.is c.loop-at.invariant.0 (c.if-is.ensures.0 refl))

pub loop-at-preserved : goal.loop-at-preserved
loop-at-preserved c = (
  (λ j at. at_later c.as_slice-volume-items.result.now c.loop-at.at c.volume-item.result c.args.id.now j c.loop-at-test.true c.volume-item.is c.loop-at.invariant.0 (λ e. false≢true (c.if-is.ensures.1 e)) at),
  look_on c.as_slice-volume-items.result.now c.loop-at.at c.volume-item.result c.args.id.now c.loop-at-test.true c.volume-item.is c.loop-at.invariant.1 (λ e. false≢true (c.if-is.ensures.1 e)),
)
