use Rattle.chain_reading.specs.Laying.{IsLaid}
use Rattle.chain_reading.proofs.laying.lay_within.Given as goal

abbrev pub invariant-loop-k : goal.invariant-loop-k
invariant-loop-k l = IsLaid l.initial.missing l.missing l.initial.part l.part l.from l.k l.bytes
