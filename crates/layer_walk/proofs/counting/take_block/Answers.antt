use Rattle.std.proofs.Common.{ℕ, ◌≡◌, ◌+◌, ◌*◌, ◌^◌, ◌-◌, ◌<◌, ◌≤◌, min, refl, arith, subst}
use Rattle.std.proofs.Math.Nat.{mul-le-mul_left}
use Rattle.layer_walk.specs.Counting.{PassesCounts}
use Rattle.layer_walk.proofs.Spans.{times_whole}
use Rattle.layer_walk.proofs.Takes.{took_part, took_rest, took_turn}
use Rattle.layer_walk.proofs.counting.take_block.Goals as goal

-- by the size of a block that was computed, and the room
inside_end : (k p s s' r r' e : ℕ) → s ≡ s' → r ≡ r' → e ≡ min ((k + 1) * s) r → k * s + 256 * p + 256 < e → k * s' + 256 * p + 256 < min ((k + 1) * s') r'
inside_end k p s s' r r' e is is' at lt =
    subst (λ n. k * s' + 256 * p + 256 < min ((k + 1) * s') n) is' (subst (λ n. k * n + 256 * p + 256 < min ((k + 1) * n) r) is (subst (λ n. k * s + 256 * p + 256 < n) at lt))

at_end : (k p s s' r r' e : ℕ) → s ≡ s' → r ≡ r' → e ≡ min ((k + 1) * s) r → e ≤ k * s + 256 * p + 256 → min ((k + 1) * s') r' ≤ k * s' + 256 * p + 256
at_end k p s s' r r' e is is' at le =
    subst (λ n. min ((k + 1) * s') n ≤ k * s' + 256 * p + 256) is' (subst (λ n. min ((k + 1) * n) r ≤ k * n + 256 * p + 256) is (subst (λ n. n ≤ k * s + 256 * p + 256) at le))

small : (k s : ℕ) → k < 2 ^ 43 → s ≤ 2 ^ 20 → k * s ≤ 2 ^ 63 - 2 ^ 20
small k s lt le =
    let wide : k * s ≤ k * 2 ^ 20 = mul-le-mul_left k le in
    omega (arith, wide, lt)

pub pass_counts-requires-clause-few : goal.pass_counts-requires-clause-few
pass_counts-requires-clause-few c =
    let few = small c.args.spot.entry c.block_span-span.result c.args.spot.near c.block_span-span.ensures.most in
    omega (arith, few, c.args.spot.low)

pub pass_counts-requires-clause-whole : goal.pass_counts-requires-clause-whole
pass_counts-requires-clause-whole c = let e = times_whole c.args.spot.entry c.block_span-span.result c.block_span-span.ensures.whole in omega (arith, e)

pub returns-then-first-end : goal.returns-then-first-end
returns-then-first-end c =
    took_part c.args.header.now c.args.spot c.args.sector.now c.args.marks.now c.pass_counts.new.marks c.requires.low
    (subst (λ n. PassesCounts (c.args.spot.entry * n + 256 * c.args.spot.part) c.args.sector.now c.args.marks.now c.pass_counts.new.marks) c.block_span-span.ensures.value c.pass_counts.ensures)
    _ refl refl refl refl
    (inside_end c.args.spot.entry c.args.spot.part c.block_span-span.result _ c.room.result _ c.min-end.result c.block_span-span.ensures.value c.room.ensures c.min-end.ensures c.if-first-end.true)

pub returns-then-entry-eq0 : goal.returns-then-entry-eq0
returns-then-entry-eq0 c =
    took_turn c.args.header.now c.args.spot c.args.sector.now c.args.marks.now c.pass_counts.new.marks c.requires.low
    (subst (λ n. PassesCounts (c.args.spot.entry * n + 256 * c.args.spot.part) c.args.sector.now c.args.marks.now c.pass_counts.new.marks) c.block_span-span.ensures.value c.pass_counts.ensures)
    c.turn.new.marks c.turn.result
    (at_end c.args.spot.entry c.args.spot.part c.block_span-span.result _ c.room.result _ c.min-end.result c.block_span-span.ensures.value c.room.ensures c.min-end.ensures c.if-first-end.false)
    c.if-entry-eq0.true c.turn.ensures

pub returns : goal.returns
returns c =
    took_rest c.args.header.now c.args.spot c.args.sector.now c.args.marks.now c.pass_counts.new.marks c.requires.low
    (subst (λ n. PassesCounts (c.args.spot.entry * n + 256 * c.args.spot.part) c.args.sector.now c.args.marks.now c.pass_counts.new.marks) c.block_span-span.ensures.value c.pass_counts.ensures)
    c.scan.new.marks c.scan.result
    (at_end c.args.spot.entry c.args.spot.part c.block_span-span.result _ c.room.result _ c.min-end.result c.block_span-span.ensures.value c.room.ensures c.min-end.ensures c.if-first-end.false)
    c.if-entry-eq0.false c.scan.ensures
