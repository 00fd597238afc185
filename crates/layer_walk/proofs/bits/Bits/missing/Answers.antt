use Rattle.std.proofs.Common.{◌+◌, ◌*◌, ap, sym, ◌∙◌, arith}
use Rattle.std.proofs.lemmas.List.{get_or_default}
use Rattle.layer_walk.proofs.Words.{gap_at, in_ones}
use Rattle.layer_walk.proofs.bits.Bits.missing.Goals as goal

pub returns-then-word : goal.returns-then-word
returns-then-word c =
    let word = c.index-word.result.now in
    let items = c.args.self.now.words.items in
    let gap =
    gap_at items c.loop-k.k word (64 * c.loop-k.k + c.from.result)
    (sym (c.index-word.ensures ∙ get_or_default items c.loop-k.k word 0 (omega (arith, c.len.ensures, c.min-last.ensures, c.loop-k-test.true))))
    (omega arith) c.if-word.true (ap (λ n. 64 * c.loop-k.k + n) (c.from.ensures ∙ c.trailing_ones.ensures)) in
    (omega (arith, gap.0, c.requires.first, c.loop-k.auto.k), omega (arith, gap.1, c.requires.end, c.min-last.ensures, c.loop-k-test.true), omega (arith, gap.1, c.len.ensures, c.min-last.ensures, c.loop-k-test.true), gap.2)

pub returns : goal.returns
returns c n low high within =
    in_ones c.args.self.now.words.items n (c.loop-k.invariant _ (omega (arith, low)) (omega (arith, high, within, c.requires.end, c.len.ensures, c.min-last.ensures, c.loop-k-test.false, c.args.self.now.words.ok.0)))
