use Rattle.std.proofs.Common.{Option, sym, subst, ◌∙◌}
use Rattle.pool_making.specs.Making.{IsBehindArea, stage_of}
use Rattle.pool_making.specs.declared.layout.Area.{Area}
use Rattle.pool_making.proofs.making.MakePool.behind_area.Goals as goal

pub returns-in-None : goal.returns-in-None
returns-in-None c = (
  c.at-in-None.ensures.same,
  subst (λ (a : Option Area). IsBehindArea c.args.self a (stage_of c.at-in-None.result)) (sym c.in-None.is ∙ c.next.ensures) (
    c.begin-replace.result,
    c.at-in-None.ensures.now_in,
    record {
      target = c.begin-replace.ensures.target;
      volatile = c.begin-replace.ensures.volatile;
      length = sym (c.begin-replace.ensures.length ∙ c.write_into-length.ensures.len);
      stage = c.begin-replace.ensures.stage;
    },
  ),
)
