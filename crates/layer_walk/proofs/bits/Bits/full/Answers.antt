use Rattle.std.proofs.Common.{◌/◌, ◌^◌, ◌-◌, ap, ◌∙◌, get_or, arith}
use Rattle.std.proofs.lemmas.List.{get_or-replicate}
use Rattle.layer_walk.proofs.Words.{in_ones}
use Rattle.layer_walk.proofs.bits.Bits.full.Goals as goal

pub returns-in-Ok-clause-full : goal.returns-in-Ok-clause-full
returns-in-Ok-clause-full c n within =
    in_ones c.in-Ok.words.items n (ap (λ xs. get_or xs (n / 64) 0) (c.in-Ok.ensures.items_if_clones_equal (λ y is. is)) ∙ get_or-replicate _ (n / 64) (2 ^ 64 - 1) 0 (omega (arith, within, c.in-Ok.ensures.len, c.in-Ok.words.ok.0)))
