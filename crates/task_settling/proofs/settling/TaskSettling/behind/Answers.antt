use Rattle.std.proofs.Common.{List, refl, sym, ap, ◌∙◌, take}
use Rattle.task_store.specs.declared.undo.Undo.{Undo}
use Rattle.task_settling.proofs.Lists.{last_among}
use Rattle.task_settling.proofs.settling.TaskSettling.behind.Goals as goal

pub returns-in-Some-cleared_by-clause-next : goal.returns-in-Some-cleared_by-clause-next
returns-in-Some-cleared_by-clause-next c = record {
  master_is = refl;
  task_is = refl;
  stage = (
    refl,
    record {
      step = c.in-Some.step.now;
      last = (c.in-Some.field-0-1.now, ap (λ (l : List Undo). take c.args.count l) (sym c.as_slice.ensures) ∙ c.in-Some.ensures.cases.0);
      sd = c.in-Some-cleared_by.sd;
      image = c.in-Some-cleared_by.image;
      clears = sym c.cleared_by.ensures ∙ c.in-Some-cleared_by.is;
      begun = c.begin.ensures;
    },
  );
}

pub returns-in-None-cleared_by-clause-next : goal.returns-in-None-cleared_by-clause-next
returns-in-None-cleared_by-clause-next c = record {
  is = refl;
  step = c.in-Some.step.now;
  among = last_among c.args.task.steps c.in-Some.field-0-1.now c.args.count c.in-Some.step.now (ap (λ (l : List Undo). take c.args.count l) (sym c.as_slice.ensures) ∙ c.in-Some.ensures.cases.0);
  clears = sym c.cleared_by.ensures ∙ c.in-None-cleared_by.is;
}
