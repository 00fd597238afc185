use Rattle.std.proofs.Common.{◌≡◌, inr, refl, sym, ap, ◌∙◌, subst, arith}
use Rattle.qcow_format.specs.declared.header.Header.{Header}
use Rattle.qcow_layer.specs.Opening.{header_kept}
use Rattle.layer_sizing.specs.Sized.{bound}
use Rattle.layer_sizing.specs.Stages.{IsFirst}
use Rattle.layer_sizing.specs.declared.raising.Stage.{Stage}
use Rattle.layer_sizing.proofs.sizing.Sizing.check.Goals as goal

pub returns-clause-bounded : goal.returns-clause-bounded
returns-clause-bounded c =
    let most : c.bound-most.result ≡ bound (header_kept c.args.layer.now) = c.bound-most.ensures.value ∙ ap (λ (h : Header). bound h) c.header.ensures in
    inr (inr (
      (omega (arith, c.capacity.ensures, c.if-capacity.false), omega (arith, most, c.if-capacity-most.false)),
      c.new.result,
      refl,
      c.new.ensures.capacity,
      subst (λ (s : Stage). IsFirst c.args.layer.now c.args.capacity s) (sym c.new.ensures.stage) c.first_stage-stage.ensures,
    ))
