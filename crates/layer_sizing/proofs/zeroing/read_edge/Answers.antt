use Rattle.std.proofs.Common.{◌≡◌, ℕ, ◌*◌, ◌/◌, List, replicate, Ok, ap, ◌∙◌, subst, arith}
use Rattle.sd_names.specs.declared.place.Place.{Place}
use Rattle.sd_names.specs.declared.turn.Turn.TheVariants.{More}
use Rattle.shared_disk.specs.Calls.{ReadAt}
use Rattle.qcow_layer.specs.Opening.{place_kept}
use Rattle.layer_heading.specs.Writing.{Turned}
use Rattle.layer_sizing.specs.Stages.{going}
use Rattle.layer_sizing.specs.declared.raising.Raising.{Raising}
use Rattle.layer_sizing.specs.declared.raising.Stage.TheVariants.{Edge}
use Rattle.layer_sizing.specs.declared.sizing.Sizing.{Sizing}
use Rattle.layer_sizing.specs.declared.sizing.Sizing.TheVariants.{Going}
use Rattle.layer_sizing.proofs.zeroing.read_edge.Goals as goal

sector_back : (at : ℕ) → at / 512 * 512 / 512 ≡ at / 512
sector_back at = omega arith

pub returns-in-Ok-clause-content : goal.returns-in-Ok-clause-content
returns-in-Ok-clause-content g c d tells =
    let call = c.in-Ok.ensures.call d tells in (
      call.0,
      call.1,
      (
        Ok c.in-Ok.field-0,
        c.read_at.new.into,
        search,
        subst (λ (k : ℕ). ReadAt d c.args.host (place_kept c.args.layer.now) k (replicate 512 0) c.read_at.new.into (Ok c.in-Ok.field-0) call.0) (sector_back c.args.range.at)
            (subst (λ (p : Place). ReadAt d c.args.host p (c.args.range.at / 512 * 512 / 512) (replicate 512 0) c.read_at.new.into (Ok c.in-Ok.field-0) call.0) c.place.ensures call.2),
        ap more c.at.ensures ∙ ap edge c.zeros_from-edge.ensures,
      ),
    )
  where
    more : Raising → Turned Sizing
    more r = More (Going r)

    edge : List ℕ → Turned Sizing
    edge s = going c.args.raising (Edge c.args.range s)
