use Rattle.std.proofs.Common.{◌≡◌, ◌+◌, ◌-◌, ◌∙◌, sym, ap, arith, is_ge}
use Rattle.domain_meta.proofs.Domains.{not_rising, still_rising, last_rises}
use Rattle.domain_meta.proofs.listed.is_rising.Goals as goal

pub returns-then-is_ge : goal.returns-then-is_ge
returns-then-is_ge c =
    let ge = sym (c.is_ge.ensures ∙ ap is_ge c.cmp.ensures) ∙ c.if-is_ge.true in
    sym (not_rising c.args.ids.now (c.loop-next.next - 1) c.loop-next.next _ _ (omega arith) c.loop-next-test.true ge) ∙ c.loop-next.invariant

pub loop-next-preserved : goal.loop-next-preserved
loop-next-preserved c =
    let lt = sym (c.is_ge.ensures ∙ ap is_ge c.cmp.ensures) ∙ c.if-is_ge.false in
    let here : c.loop-next.next + 1 - 1 ≡ c.loop-next.next = omega arith in
    rw here (still_rising c.args.ids.now (c.loop-next.next - 1) c.loop-next.next _ _ (omega arith) c.loop-next-test.true lt ∙ c.loop-next.invariant)

pub returns : goal.returns
returns c = sym (last_rises c.args.ids.now (c.loop-next.next - 1) (omega arith)) ∙ c.loop-next.invariant
