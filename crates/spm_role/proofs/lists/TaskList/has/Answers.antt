use Rattle.std.proofs.Common.{List, ap, rules, tests, ◌∙◌}
use Rattle.std.proofs.lemmas.Iterator.{YieldsList-from_slice}
use Rattle.std.proofs.lemmas.Iterator.Search.{any_from_yields_List}
use Rattle.std.specs.List.{list_any}
use Rattle.sd_names.specs.declared.id.Id.{Id}
use Rattle.sd_names.specs.declared.task_state.TaskState.{TaskState}
use Rattle.shared_disk.specs.Places.{id_is}
use Rattle.spm_role.proofs.lists.TaskList.has.Goals as goal

pub returns : goal.returns
returns c =
    any_from_yields_List (λ (a : Id × TaskState). id_is a.0 c.args.task.now) _ _ c.any.result c.any.ensures.ran
    (YieldsList-from_slice c.deref.result.now cc) (λ x b q k. search (rules, tests))
    ∙ ap (λ (ts : List (Id × TaskState)). list_any (λ (a : Id × TaskState). id_is a.0 c.args.task.now) ts) (c.deref.ensures.value ∙ c.self.view_is)
