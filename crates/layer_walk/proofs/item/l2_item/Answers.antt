use Rattle.std.proofs.Common.{sym, ap, ◌∙◌, Ok}
use Rattle.image_model.specs.Soundness.{l2_item_of, beyond}
use Rattle.layer_walk.specs.Items.{layer_of}
use Rattle.layer_walk.proofs.Entries.{zero_placed}
use Rattle.layer_walk.proofs.item.l2_item.Goals as goal

pub returns-in-Ok-Zero-clause-item : goal.returns-in-Ok-Zero-clause-item
returns-in-Ok-Zero-clause-item c file capacity start e =
    c.tailed-in-Ok-Zero.ensures.item capacity start e
    ∙ ap (beyond capacity start) (c.placed.ensures.item file)
    ∙ zero_placed (layer_of c.args.header.now file) capacity start c.args.at c.in-Ok-Zero.place c.in-Ok-Zero.place-test.1
    ∙ ap (λ x. l2_item_of (layer_of c.args.header.now file) capacity start c.args.at (Ok x)) (sym c.in-Ok-Zero.field-0-is)
    ∙ ap (l2_item_of (layer_of c.args.header.now file) capacity start c.args.at) c.in-Ok-Zero.ensures

pub returns-in-Ok-Data-clause-item : goal.returns-in-Ok-Data-clause-item
returns-in-Ok-Data-clause-item c file capacity start e =
    c.tailed-in-Ok-Data.ensures.item capacity start e
    ∙ ap (beyond capacity start) (c.placed-in-Ok-Data.ensures.item file)
    ∙ ap (λ x. l2_item_of (layer_of c.args.header.now file) capacity start c.args.at (Ok x)) (sym c.in-Ok-Data.field-0-is)
    ∙ ap (l2_item_of (layer_of c.args.header.now file) capacity start c.args.at) c.in-Ok-Data.ensures
