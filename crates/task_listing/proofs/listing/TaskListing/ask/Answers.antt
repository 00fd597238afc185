use Rattle.std.proofs.Common.{Option, Ok, ap, ◌∙◌}
use Rattle.sd_names.specs.declared.place.Name.{Name}
use Rattle.task_listing.proofs.Steps.{ask_none, ask_some, asked}
use Rattle.task_listing.proofs.listing.TaskListing.ask.Goals as goal

pub returns-in-Ok-Some-clause-content : goal.returns-in-Ok-Some-clause-content
returns-in-Ok-Some-clause-content g c d tells =
    let call = c.next_name.ensures.call d tells in
    let got = asked d call.0 c.args.self.sd c.args.after _ c.next_name.result (c.in-Ok-Some.is ∙ ap (λ (o : Option Name). Ok o) c.in-Ok-Some.field-0-is) call.2 in (
      call.0,
      call.1,
      (
        got.0,
        λ up p stands ids knows. ask_some up d p c.args.self stands ids knows c.at.result c.args.after c.in-Ok-Some.name c.stage_for.result
            c.requires.stage got.1 c.stage_for.ensures c.at.ensures,
      ),
    )

pub returns-in-Ok-None-clause-content : goal.returns-in-Ok-None-clause-content
returns-in-Ok-None-clause-content g c d tells =
    let call = c.next_name.ensures.call d tells in
    let got = asked d call.0 c.args.self.sd c.args.after _ c.next_name.result (c.in-Ok-None.is ∙ ap (λ (o : Option Name). Ok o) c.in-Ok-None.field-0-is) call.2 in
    (call.0, call.1, (got.0, λ up p stands ids knows. ask_none up d p c.args.self stands ids knows c.args.after c.requires.stage got.1))
