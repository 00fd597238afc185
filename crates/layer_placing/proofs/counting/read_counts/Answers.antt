use Rattle.std.proofs.Common.{ℕ, ◌≡◌, ◌+◌, ◌-◌, ◌*◌, ◌/◌, ◌%◌, ◌^◌, min, List, ap, ◌∙◌, subst}
use Rattle.image_model.specs.File.{sector_in}
use Rattle.qcow_layer.specs.Seen.{IsSeen}
use Rattle.sd_names.specs.declared.place.Place.{Place}
use Rattle.layer_placing.specs.Stages.{current_of}
use Rattle.layer_placing.proofs.Finds.{counts_known}
use Rattle.layer_placing.proofs.counting.read_counts.Goals as goal

pub returns-in-Ok-clause-content : goal.returns-in-Ok-clause-content
returns-in-Ok-clause-content g c d tells =
    let call = c.in-Ok.ensures.content d tells in (
      call.0,
      call.1,
      λ f there has. counts_known c.args.layer.now c.args.host _ f _ c.args.block d call.0 c.in-Ok.sector has there call.2.0
          (ap (λ x. x / 512 * 512) (c.saturating_add.ensures ∙ ap (λ a. min (c.args.block + 2 * (a % c.block_span.result)) (2 ^ 64 - 1)) c.current.ensures
          ∙ ap (λ s. min (c.args.block + 2 * (current_of c.args.work % s)) (2 ^ 64 - 1)) c.block_span.ensures.value))
          (subst (λ (p : Place). (count : ℕ) (sectors : ℕ → List ℕ) → IsSeen c.args.host p count sectors d → c.in-Ok.sector ≡ sector_in count sectors (c.saturating_add.result / 512 * 512 / 512)) c.place.ensures call.2.1)
          c.raised-upto.ensures,
    )
