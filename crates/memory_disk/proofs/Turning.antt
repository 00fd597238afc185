-- Picks that are taken in turn.
use Rattle.std.proofs.Common.{◌≡◌, ℕ, zero, suc, ◌+◌, List, ◌++◌, take, drop, suc-add, zero-add, sym, ap, ◌∙◌}
use Rattle.memory_disk.specs.Turns.{AreTaken, turned}
use Rattle.memory_disk.specs.declared.picks.Pick.{Pick}

turned_more : (m n : ℕ) (picks : List Pick) → turned n (turned m picks) ≡ turned (m + n) picks
turned_more zero n picks = ap (λ k. turned k picks) (sym (zero-add n))
turned_more (suc m) n picks = turned_more m n (drop 1 picks ++ take 1 picks) ∙ ap (λ k. turned k picks) (sym (suc-add m n))

-- some are taken, then some more
pub taken_more : (before mid after : List Pick) → AreTaken before mid → AreTaken mid after → AreTaken before after
taken_more before mid after first second = (first.0 + second.0, second.1 ∙ ap (turned second.0) first.1 ∙ turned_more first.0 second.0 before)
