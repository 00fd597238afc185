use Rattle.std.proofs.Common.{sym, ap, ◌∙◌, Ok}
use Rattle.image_model.specs.Soundness.{l1_item_of}
use Rattle.layer_walk.specs.Items.{layer_of}
use Rattle.layer_walk.proofs.item.l1_item.Goals as goal

pub returns-in-Ok-Some-clause-item : goal.returns-in-Ok-Some-clause-item
returns-in-Ok-Some-clause-item c file =
    c.placed.ensures.item file
    ∙ ap (λ x. l1_item_of (layer_of c.args.header.now file) c.args.at (Ok x)) (sym c.in-Ok-Some.field-0-is)
    ∙ ap (l1_item_of (layer_of c.args.header.now file) c.args.at) c.in-Ok-Some.ensures
