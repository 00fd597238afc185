-- Lists of bytes that agree between two places.
use Rattle.std.proofs.Common.{◌≡◌, ℕ, ◌+◌, ◌-◌, ◌*◌, ◌^◌, ◌<◌, ◌≤◌, min, List, length, get_or, take, drop, sym, ap, ◌∙◌, arith}
use Rattle.std.proofs.lemmas.List.{ext_get_or, get_or-drop, get_or-take, length-drop, length-take}
use Rattle.qcow_format.specs.Bytes.{number}
use Rattle.qcow_format.proofs.Put.{number-same}

abbrev pub Agree : List ℕ → List ℕ → ℕ → ℕ → Type 0
Agree xs ys from to = (k : ℕ) → from ≤ k → k < to → get_or ys k 0 ≡ get_or xs k 0

pub number_agrees : (xs ys : List ℕ) (from to w at : ℕ) → Agree xs ys from to → from ≤ at → at + w ≤ to → number w at ys ≡ number w at xs
number_agrees xs ys from to w at agree low high = number-same w at ys xs (λ k ge lt. agree k (omega (arith, low, ge)) (omega (arith, high, lt)))

-- a part of both
pub part_agrees : (xs ys : List ℕ) (from to at size : ℕ) → length ys ≡ length xs → Agree xs ys from to → from ≤ at → at + size ≤ to → take size (drop at ys) ≡ take size (drop at xs)
part_agrees xs ys from to at size same agree low high =
    ext_get_or 0 (take size (drop at ys)) (take size (drop at xs)) (length-take size (drop at ys) ∙ ap (λ n. min size n) lengths ∙ sym (length-take size (drop at xs)))
    (λ i lt. bytes i (short i lt))
  where
    lengths : length (drop at ys) ≡ length (drop at xs)
    lengths = length-drop at ys ∙ ap (λ n. n - at) same ∙ sym (length-drop at xs)

    short : (i : ℕ) → i < length (take size (drop at ys)) → i < size
    short i lt = omega (arith, lt, length-take size (drop at ys))

    bytes : (i : ℕ) → i < size → get_or (take size (drop at ys)) i 0 ≡ get_or (take size (drop at xs)) i 0
    bytes i lt =
        get_or-take size (drop at ys) i 0 lt ∙ get_or-drop at ys i 0 ∙ agree (at + i) (omega (arith, low)) (omega (arith, high, lt))
        ∙ sym (get_or-take size (drop at xs) i 0 lt ∙ get_or-drop at xs i 0)

-- a byte is a number of one byte
pub byte_number : (at : ℕ) (xs : List ℕ) → number 1 at xs ≡ get_or xs at 0
unfolding number
byte_number at xs = one (get_or (drop at xs) 0 0) ∙ get_or-drop at xs 0 0 ∙ ap (λ n. get_or xs n 0) (plain at)
  where
    one : (b : ℕ) → b * 256 ^ 0 + 0 ≡ b
    one b = omega arith

    plain : (n : ℕ) → n + 0 ≡ n
    plain n = omega arith

pub narrower : (xs ys : List ℕ) (from to a b : ℕ) → Agree xs ys from to → from ≤ a → b ≤ to → Agree xs ys a b
narrower xs ys from to a b agree low high k ge lt = agree k (omega (arith, low, ge)) (omega (arith, lt, high))
