use Rattle.kv_text.specs.Lookup.{value_of}
use Rattle.kv_text.proofs.OneLine.{value_one_line, lent_one_line}
use Rattle.kv_text.proofs.lookup.value_of.Goals as goal

-- nothing is left, so the value so far is the value
pub returns-clause-value : goal.returns-clause-value
unfolding value_of
returns-clause-value c = rw c.in-None.ensures.steps.0 at c.loop-item.invariant

pub returns-clause-one_line : goal.returns-clause-one_line
unfolding value_of
returns-clause-one_line c =
    let found = rw c.in-None.ensures.steps.0 at c.loop-item.invariant in
    lent_one_line c.loop-item.found (rw found (value_one_line c.args.key.now c.args.text.now))
