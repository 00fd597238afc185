use Rattle.std.proofs.Common.{List, not, ap, rules, ◌∙◌}
use Rattle.std.proofs.lemmas.Fn.{filter_same}
use Rattle.std.specs.List.{filter}
use Rattle.sd_names.specs.declared.id.Id.{Id}
use Rattle.sd_names.specs.declared.task_state.TaskState.{TaskState}
use Rattle.shared_disk.specs.Places.{id_is}
use Rattle.spm_role.proofs.lists.TaskList.remove.Goals as goal

pub returns : goal.returns
returns c =
    filter_same _ (λ (a : Id × TaskState). not (id_is a.0 c.args.task.now)) _ (λ x b f' k. search rules) _ _ c.retain.ensures.filtered
    ∙ ap (λ (ts : List (Id × TaskState)). filter (λ (a : Id × TaskState). not (id_is a.0 c.args.task.now)) ts) c.self.view_is
