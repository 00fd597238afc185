use Rattle.std.proofs.Common.{ℕ, ◌+◌, List, length, sym, ap, ◌∙◌, subst, arith}
use Rattle.std.proofs.lemmas.List.{length_push}
use Rattle.layer_placing.proofs.Least.{Collects, begins, collected, complete, enough_found}
use Rattle.layer_placing.proofs.choosing.least_free.Goals as goal

pub loop-init : goal.loop-init
loop-init c = (
  subst (λ (xs : List ℕ). Collects c.args.layer.now c.args.end 0 xs) (sym c.none-chosen.ensures) (begins c.args.layer.now c.args.end),
  ap length c.none-chosen.ensures,
  omega arith,
)

pub returns-in-None : goal.returns-in-None
returns-in-None c = complete c.args.layer.now c.args.end c.args.count c.loop.next _ c.loop.invariant.0 (omega (arith, c.loop.invariant.1, c.loop.invariant.2)) c.in-None.ensures

pub loop-preserved : goal.loop-preserved
loop-preserved c =
    let found = c.in-Some.ensures in (
      subst (λ (xs : List ℕ). Collects c.args.layer.now c.args.end (c.in-Some.cluster + 1) xs) (sym c.push.ensures)
          (collected c.args.layer.now c.args.end c.loop.next c.in-Some.cluster _ c.loop.invariant.0 found.0 found.1 found.2 found.3 found.4),
      ap length c.push.ensures ∙ length_push _ c.in-Some.cluster ∙ ap (λ n. n + 1) c.loop.invariant.1,
      omega (arith, c.loop-test.true),
    )

pub returns : goal.returns
returns c = enough_found c.args.layer.now c.args.end c.args.count c.loop.next _ c.loop.invariant.0 (omega (arith, c.loop.invariant.1, c.loop.invariant.2, c.loop-test.false))
