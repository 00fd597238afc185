use Rattle.std.proofs.Common.{◌≡◌, ◌≤◌, take, length, rules, sym, ap, ◌∙◌, arith}
use Rattle.std.proofs.lemmas.List.{length-take-le}
use Rattle.task_store.specs.TaskText.{text_of}
use Rattle.task_store.proofs.task.Task.write_into.Goals as goal

pub returns-clause-len : goal.returns-clause-len
unfolding text_of
returns-clause-len c =
    let text : take c.put.result c.put.new.into ≡ text_of c.args.self.now = search rules in
    let long : c.put.result ≤ length c.put.new.into = omega arith in
    sym (length-take-le c.put.result c.put.new.into long) ∙ ap length text
