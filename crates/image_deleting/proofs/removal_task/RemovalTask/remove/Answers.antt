use Rattle.std.proofs.Common.{ap, ◌∙◌}
use Rattle.sd_names.specs.declared.id.Id.{Id}
use Rattle.sd_names.specs.declared.place.Dir.TheVariants as dir
use Rattle.sd_names.specs.declared.turn.Turn.TheVariants.{More}
use Rattle.image_deleting.proofs.removal_task.RemovalTask.remove.Goals as goal

pub returns-in-More-clause-steps : goal.returns-in-More-clause-steps
returns-in-More-clause-steps g c d tells =
    let leaves = c.in-More.ensures.content d tells in
    let near = c.in-More.ensures.falls (λ pass after. 0) in
    let next = c.in-More.next in
    let was = c.args.removing in (
      leaves.0,
      leaves.1,
      (
        More next,
        leaves.2,
        record {
          own = ap (λ (sd : Id). dir.Image sd next.image) near.domain ∙ ap (λ (i : Id). dir.Image was.sd i) near.image_is;
          removed = ap (λ (sd : Id). dir.Removed sd next.image) near.domain ∙ ap (λ (i : Id). dir.Removed was.sd i) near.image_is;
        },
        c.at.ensures,
      ),
    )
