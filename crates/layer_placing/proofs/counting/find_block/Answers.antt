use Rattle.std.proofs.Common.{ℕ, ◌≡◌, ◌*◌, ◌/◌, List, ap, ◌∙◌, subst}
use Rattle.image_model.specs.File.{sector_in}
use Rattle.qcow_layer.specs.Seen.{IsSeen}
use Rattle.sd_names.specs.declared.place.Place.{Place}
use Rattle.layer_placing.specs.Stages.{entry_place_of}
use Rattle.layer_placing.proofs.Finds.{has, lacks}
use Rattle.layer_placing.proofs.counting.find_block.Goals as goal

pub returns-then-block-eq0-clause-content : goal.returns-then-block-eq0-clause-content
returns-then-block-eq0-clause-content g c d tells =
    let call = c.in-Ok.ensures.content d tells in (
      call.0,
      call.1,
      λ f there ready. lacks c.args.layer.now c.args.host f c.args.work ready _ c.entry_place-at.result d call.0 c.in-Ok.table there call.2.0
          (c.entry_place-at.ensures ∙ ap (entry_place_of c.args.layer.now) c.current.ensures)
          (subst (λ (p : Place). (count : ℕ) (sectors : ℕ → List ℕ) → IsSeen c.args.host p count sectors d → c.in-Ok.table ≡ sector_in count sectors (c.entry_place-at.result / 512 * 512 / 512)) c.place.ensures call.2.1)
          c.word_at.result c.word_at.ensures c.if-block-eq0.true,
    )

pub returns-else-block-eq0-clause-content : goal.returns-else-block-eq0-clause-content
returns-else-block-eq0-clause-content g c d tells =
    let call = c.in-Ok.ensures.content d tells in (
      call.0,
      call.1,
      λ f there ready. has c.args.layer.now c.args.host f c.args.work ready _ c.entry_place-at.result d call.0 c.in-Ok.table there call.2.0
          (c.entry_place-at.ensures ∙ ap (entry_place_of c.args.layer.now) c.current.ensures)
          (subst (λ (p : Place). (count : ℕ) (sectors : ℕ → List ℕ) → IsSeen c.args.host p count sectors d → c.in-Ok.table ≡ sector_in count sectors (c.entry_place-at.result / 512 * 512 / 512)) c.place.ensures call.2.1)
          c.word_at.result c.word_at.ensures c.if-block-eq0.false,
    )
