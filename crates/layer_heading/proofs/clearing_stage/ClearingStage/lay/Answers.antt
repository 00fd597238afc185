use Rattle.std.proofs.Common.{◌≡◌, ℕ, List, replicate, Ok, ap, subst}
use Rattle.sd_names.specs.declared.place.Place.{Place}
use Rattle.sd_names.specs.declared.turn.Turn.TheVariants.{More}
use Rattle.shared_disk.specs.Calls.{ReadAt}
use Rattle.layer_heading.specs.Cleared.{cleared_sector}
use Rattle.layer_heading.specs.Clearing.{laid_next}
use Rattle.layer_heading.specs.Writing.{Turned}
use Rattle.layer_heading.specs.declared.clearing_stage.ClearingStage.{ClearingStage}
use Rattle.layer_heading.specs.declared.clearing_stage.ClearingStage.TheVariants.{Laid}
use Rattle.layer_heading.proofs.clearing_stage.ClearingStage.lay.Goals as goal

more_laid : (sector first : List ℕ) → sector ≡ cleared_sector first → ◌≡◌ {A = Turned ClearingStage} (More (Laid sector)) (laid_next first)
more_laid sector first same = ap laid same
  where
    laid : List ℕ → Turned ClearingStage
    laid s = More (Laid s)

pub returns-in-Ok-clause-content : goal.returns-in-Ok-clause-content
returns-in-Ok-clause-content g c d tells =
    let call = c.in-Ok.ensures.call d tells in (
      call.0,
      call.1,
      (
        Ok c.in-Ok.field-0,
        c.read_at.new.into,
        search,
        subst (λ (p : Place). ReadAt d c.args.host p 0 (replicate 512 0) c.read_at.new.into (Ok c.in-Ok.field-0) call.0) c.place.ensures call.2,
        more_laid c.cleared_sector.result c.read_at.new.into c.cleared_sector.ensures,
      ),
    )
