use Rattle.std.proofs.Common.{sym, subst, ◌∙◌}
use Rattle.sd_names.specs.declared.kinds.Format.{Format}
use Rattle.image_making.specs.Making.{IsFileStage, stage_of}
use Rattle.image_making.proofs.making.ImageMaking.behind_folder.Goals as goal

pub returns-in-Cow-clause-folder : goal.returns-in-Cow-clause-folder
returns-in-Cow-clause-folder c = (
  c.at-in-Cow.ensures.same,
  subst (λ (f : Format). IsFileStage f c.args.self (stage_of c.at-in-Cow.result)) (sym c.in-Cow.is) (
    c.begin-creating.result,
    c.at-in-Cow.ensures.now_in,
    record {
      place_is = c.begin-creating.ensures.place_is ∙ c.file.ensures;
      capacity_is = c.begin-creating.ensures.capacity_is;
      backing_is = c.begin-creating.ensures.backing_is;
      length_is = c.begin-creating.ensures.length_is;
      made_is = c.begin-creating.ensures.made_is;
    },
  ),
)
