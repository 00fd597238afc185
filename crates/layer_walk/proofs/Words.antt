-- Bits that are set and cleared in words, and words of ones.
use Rattle.std.proofs.Common.{◌≡◌, ◌≢◌, ℕ, ◌+◌, ◌-◌, ◌≤◌, ◌*◌, ◌/◌, ◌%◌, ◌^◌, ◌<◌, ◌⊎◌, inl, inr, List, length, get_or, set, ap, sym, ◌∙◌, arith, w64, ◌==◌, true, false, eq-eqb, ne_eqb}
use Rattle.std.specs.Prelude.{bit_and, bit_or}
use Rattle.std.specs.Int.{bit_at, bit_not, trailing_ones}
use Rattle.std.proofs.lemmas.Bool.{cases_eq}
use Rattle.std.proofs.lemmas.Nat.Bits.{bit_at_clear_same, bit_at_clear_other, bit_at_set_same, bit_at_set_other, bit_at_ones, bit_at-trailing_ones}
use Rattle.std.proofs.Math.ListN.{length-set}
use Rattle.std.proofs.lemmas.List.{get_or-set_same, get_or-set_other, get_or_default}

-- the words with bit n set
abbrev pub put_bit : List ℕ → ℕ → ℕ → List ℕ
put_bit words n word = set words (n / 64) (bit_or word (1 * 2 ^ (n % 64) % 2 ^ 64))

pub put_here : (words : List ℕ) (n word : ℕ) → n < 64 * length words → bit_at (get_or (put_bit words n word) (n / 64) 0) (n % 64) == 1 ≡ true
put_here words n word within =
    eq-eqb _ 1 (ap (λ x. bit_at x (n % 64)) (get_or-set_same words (n / 64) _ 0 (omega arith)) ∙ bit_at_set_same w64 word (n % 64) (omega arith))

-- another word at a bit's place, which has the other bits as they were, leaves the other bits of the words
others : (words : List ℕ) (n word new k : ℕ) → n < 64 * length words → word ≡ get_or words (n / 64) word → k ≢ n
    → ((i : ℕ) → i < 64 → i ≢ n % 64 → bit_at new i ≡ bit_at word i)
    → bit_at (get_or (set words (n / 64) new) (k / 64) 0) (k % 64) == 1 ≡ (bit_at (get_or words (k / 64) 0) (k % 64) == 1)
others words n word new k within read apart kept = ap (λ x. x == 1) (go (cases_eq (k / 64) (n / 64)))
  where
    go : (k / 64 ≡ n / 64) ⊎ (k / 64 ≢ n / 64) → bit_at (get_or (set words (n / 64) new) (k / 64) 0) (k % 64) ≡ bit_at (get_or words (k / 64) 0) (k % 64)
    go (inr other) = ap (λ x. bit_at x (k % 64)) (get_or-set_other words (n / 64) (k / 64) _ 0 other)
    go (inl same) =
        ap (λ i. bit_at (get_or (set words (n / 64) new) i 0) (k % 64)) same
        ∙ ap (λ x. bit_at x (k % 64)) (get_or-set_same words (n / 64) _ 0 (omega arith))
        ∙ kept (k % 64) (omega arith) (omega arith)
        ∙ ap (λ x. bit_at x (k % 64)) (read ∙ get_or_default words (n / 64) word 0 (omega arith) ∙ ap (λ i. get_or words i 0) (sym same))

pub put_other : (words : List ℕ) (n word k : ℕ) → n < 64 * length words → word ≡ get_or words (n / 64) word → k ≢ n
    → bit_at (get_or (put_bit words n word) (k / 64) 0) (k % 64) == 1 ≡ (bit_at (get_or words (k / 64) 0) (k % 64) == 1)
put_other words n word k within read apart = others words n word _ k within read apart (λ i lt ne. bit_at_set_other w64 word (n % 64) (omega arith) i ne)

-- the words with bit n cleared
abbrev pub take_bit : List ℕ → ℕ → ℕ → List ℕ
take_bit words n word = set words (n / 64) (bit_and word (bit_not w64 (1 * 2 ^ (n % 64) % 2 ^ 64)))

pub take_here : (words : List ℕ) (n word : ℕ) → n < 64 * length words → bit_at (get_or (take_bit words n word) (n / 64) 0) (n % 64) == 1 ≡ false
take_here words n word within =
    ne_eqb _ 1 (λ e. zero_one (sym (ap (λ x. bit_at x (n % 64)) (get_or-set_same words (n / 64) _ 0 (omega arith)) ∙ bit_at_clear_same w64 word (n % 64) (omega arith)) ∙ e))
  where
    zero_one : ◌≡◌ {A = ℕ} 0 1 → ⊥
    zero_one e = absurd cc

pub take_other : (words : List ℕ) (n word k : ℕ) → n < 64 * length words → word ≡ get_or words (n / 64) word → k ≢ n
    → bit_at (get_or (take_bit words n word) (k / 64) 0) (k % 64) == 1 ≡ (bit_at (get_or words (k / 64) 0) (k % 64) == 1)
take_other words n word k within read apart = others words n word _ k within read apart (λ i lt ne. bit_at_clear_other w64 word (n % 64) (omega arith) i lt ne)

-- ---- words of ones

pub in_ones : (words : List ℕ) (n : ℕ) → get_or words (n / 64) 0 ≡ 2 ^ 64 - 1 → bit_at (get_or words (n / 64) 0) (n % 64) == 1 ≡ true
in_ones words n is = eq-eqb _ 1 (ap (λ x. bit_at x (n % 64)) is ∙ bit_at_ones 64 (n % 64) (omega arith))

-- the words below k are filled, and those from k on are as they were
pub record IsFilled (before after : List ℕ) (k : ℕ) : Type 0 where
  pub len : length after ≡ length before
  pub below : (w : ℕ) → w < k → get_or after w 0 ≡ 2 ^ 64 - 1
  pub above : (w : ℕ) → k ≤ w → get_or after w 0 ≡ get_or before w 0

pub fill_more : (before after : List ℕ) (k : ℕ) → k < length before → IsFilled before after k → IsFilled before (set after k (2 ^ 64 - 1)) (k + 1)
fill_more before after k lt f = record {
  len = length-set after k (2 ^ 64 - 1) ∙ f.len;
  below = λ w le. go w le (cases_eq w k);
  above = λ w le. get_or-set_other after k w (2 ^ 64 - 1) 0 (λ e. omega (arith, le, e)) ∙ f.above w (omega (arith, le));
}
  where
    go : (w : ℕ) → w < k + 1 → (w ≡ k) ⊎ (w ≢ k) → get_or (set after k (2 ^ 64 - 1)) w 0 ≡ 2 ^ 64 - 1
    go w le (inl same) = ap (λ i. get_or (set after k (2 ^ 64 - 1)) i 0) same ∙ get_or-set_same after k (2 ^ 64 - 1) 0 (omega (arith, lt, f.len))
    go w le (inr other) = get_or-set_other after k w (2 ^ 64 - 1) 0 other ∙ f.below w (omega (arith, le, other))

-- a word that isn't all ones has a bit that is 0
pub gap_at : (words : List ℕ) (k word n : ℕ) → get_or words k 0 ≡ word → word < 2 ^ 64 → word ≢ 2 ^ 64 - 1 → n ≡ 64 * k + trailing_ones w64 word
    → (64 * k ≤ n) × (n < 64 * (k + 1)) × (bit_at (get_or words (n / 64) 0) (n % 64) == 1 ≡ false)
gap_at words k word n is fits some at =
    let t = bit_at-trailing_ones w64 word (omega (arith, fits, some)) in
    let low : trailing_ones w64 word < 64 = t.0 in
    let high : n / 64 ≡ k = omega (arith, at, low) in
    let rest : n % 64 ≡ trailing_ones w64 word = omega (arith, at, low) in (
      omega (arith, at),
      omega (arith, at, low),
      ne_eqb _ 1 (λ e. zero_one (sym (ap (λ i. bit_at (get_or words (n / 64) 0) i) rest ∙ ap (λ i. bit_at (get_or words i 0) (trailing_ones w64 word)) high ∙ ap (λ x. bit_at x (trailing_ones w64 word)) is ∙ t.1) ∙ e)),
    )
  where
    zero_one : ◌≡◌ {A = ℕ} 0 1 → ⊥
    zero_one e = absurd cc
