use Rattle.std.proofs.Common.{◌≡◌, ℕ, ◌/◌, ◌≤◌, List, take, replicate, Result, Ok, Err, ap, ◌∙◌, subst}
use Rattle.std.proofs.lemmas.List.{take-replicate}
use Rattle.sd_names.specs.declared.place.Place.{Place}
use Rattle.sd_names.specs.declared.refusal.Refusal.{Refusal}
use Rattle.sd_names.specs.declared.turn.Turn.TheVariants.{Ended, More}
use Rattle.shared_disk.specs.Calls.{WriteAt}
use Rattle.shared_disk.specs.Content.{Content}
use Rattle.shared_disk.specs.declared.disk.DiskAnswer.{DiskAnswer}
use Rattle.layer_heading.specs.Writing.{Turned}
use Rattle.layer_sizing.specs.Stages.{going, moved, piece}
use Rattle.layer_sizing.specs.declared.raising.Raising.{Raising}
use Rattle.layer_sizing.specs.declared.raising.Range.{Range}
use Rattle.layer_sizing.specs.declared.raising.Stage.TheVariants.{Zeroing}
use Rattle.layer_sizing.specs.declared.sizing.Sizing.{Sizing}
use Rattle.layer_sizing.specs.declared.sizing.Sizing.TheVariants.{Going}
use Rattle.layer_sizing.proofs.zeroing.write_zeros.Goals as goal

-- the write of so many zeros
written_at : (d e : Content) (host k size wanted : ℕ) (p q : Place) (answer : Result (Unit {0}) DiskAnswer) → p ≡ q → size ≤ 65536 → size ≡ wanted
    → WriteAt d host p k (take size (replicate 65536 0)) answer e → WriteAt d host q k (replicate wanted 0) answer e
written_at d e host k size wanted p q answer at most same is =
    subst (λ (x : List ℕ). WriteAt d host q k x answer e) (take-replicate size 65536 0 most ∙ ap (λ n. replicate n 0) same) (subst (λ (x : Place). WriteAt d host x k (take size (replicate 65536 0)) answer e) at is)

pub returns-in-Err-clause-content : goal.returns-in-Err-clause-content
returns-in-Err-clause-content g c d tells =
    let call = c.in-Err.ensures.call d tells in (
      call.0,
      call.1,
      (
        Err c.in-Err.answer,
        written_at d call.0 c.args.host (c.args.range.at / 512) c.piece-size.result (piece c.args.range) _ _ (Err c.in-Err.answer) c.place.ensures c.piece-size.ensures.most c.piece-size.ensures.value call.2,
        ap (λ (r : Refusal). Ended tt r) c.refusal_for.ensures,
      ),
    )

pub returns-in-Ok-clause-content : goal.returns-in-Ok-clause-content
returns-in-Ok-clause-content g c d tells =
    let call = c.in-Ok.ensures.call d tells in (
      call.0,
      call.1,
      (
        Ok c.in-Ok.field-0,
        written_at d call.0 c.args.host (c.args.range.at / 512) c.piece-size.result (piece c.args.range) _ _ (Ok c.in-Ok.field-0) c.place.ensures c.piece-size.ensures.most c.piece-size.ensures.value call.2,
        ap more c.at.ensures ∙ ap zeroing (c.moved.ensures ∙ ap (λ n. moved c.args.range n) c.piece-size.ensures.value),
      ),
    )
  where
    more : Raising → Turned Sizing
    more r = More (Going r)

    zeroing : Range → Turned Sizing
    zeroing range = going c.args.raising (Zeroing range)
