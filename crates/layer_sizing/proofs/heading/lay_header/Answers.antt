use Rattle.std.proofs.Common.{ℕ, List, replicate, Ok, ap, ◌∙◌, subst}
use Rattle.sd_names.specs.declared.place.Place.{Place}
use Rattle.sd_names.specs.declared.turn.Turn.TheVariants.{More}
use Rattle.shared_disk.specs.Calls.{ReadAt}
use Rattle.qcow_format.specs.declared.header.Header.{Header}
use Rattle.layer_heading.specs.Writing.{Turned}
use Rattle.layer_sizing.specs.Sized.{sized_sector}
use Rattle.layer_sizing.specs.Stages.{asked_of, going}
use Rattle.layer_sizing.specs.declared.raising.Raising.{Raising}
use Rattle.layer_sizing.specs.declared.raising.Stage.TheVariants.{Laid}
use Rattle.layer_sizing.specs.declared.sizing.Sizing.{Sizing}
use Rattle.layer_sizing.specs.declared.sizing.Sizing.TheVariants.{Going}
use Rattle.layer_sizing.proofs.heading.lay_header.Goals as goal

pub returns-in-Ok-clause-content : goal.returns-in-Ok-clause-content
returns-in-Ok-clause-content g c d tells =
    let call = c.in-Ok.ensures.call d tells in (
      call.0,
      call.1,
      (
        Ok c.in-Ok.field-0,
        c.read_at.new.into,
        search,
        subst (λ (p : Place). ReadAt d c.args.host p 0 (replicate 512 0) c.read_at.new.into (Ok c.in-Ok.field-0) call.0) c.place.ensures call.2,
        ap more c.at.ensures ∙ ap laid (c.sized_sector-sector.ensures ∙ ap (λ (h : Header). sized_sector h (asked_of c.args.raising) c.read_at.new.into) c.header.ensures),
      ),
    )
  where
    more : Raising → Turned Sizing
    more r = More (Going r)

    laid : List ℕ → Turned Sizing
    laid s = going c.args.raising (Laid s)
