-- The walk over extensions in two heads that agree where they stand.
use Rattle.std.proofs.Common.{◌≡◌, ℕ, zero, suc, ◌+◌, ◌≤◌, Bool, true, false, cond, List, [], ◌∷◌, length, Some, Ok, refl, sym, ap, ◌∙◌, arith}
use Rattle.std.specs.Prelude.{◌==◌, ◌&&◌, not, nat_le, if◌then◌else◌, unwrap_or}
use Rattle.qcow_format.specs.Bytes.{number}
use Rattle.qcow_format.specs.Numbers.{backing_format}
use Rattle.qcow_format.specs.Extension.{Placed, data_of, end_after, end_of, extensions_up_to, is_extension, placed_at}
use Rattle.qcow_format.specs.Format.{◌>>=◌, format_at, last_format}
use Rattle.qcow_format.proofs.Walk.{up_to-none}
use Rattle.layer_heading.proofs.Bytes.{Agree, narrower, number_agrees, part_agrees}

pub up_to-some : (n : ℕ) (head : List ℕ) (at : ℕ) → is_extension head at ≡ true → extensions_up_to (suc n) head at ≡ placed_at head at ∷ extensions_up_to n head (end_of (placed_at head at))
unfolding extensions_up_to
up_to-some n head at e = rw e refl

-- where the extensions end comes behind where they begin
pub end_behind : (n : ℕ) (head : List ℕ) (at : ℕ) → at ≤ end_after at (extensions_up_to n head at)
unfolding extensions_up_to
end_behind zero head at = omega arith
end_behind (suc n) head at = go (is_extension head at) (end_behind n head (end_of (placed_at head at)))
  where
    go : (b : Bool) → end_of (placed_at head at) ≤ end_after (end_of (placed_at head at)) (extensions_up_to n head (end_of (placed_at head at)))
        → at ≤ end_after at (cond b (placed_at head at ∷ extensions_up_to n head (end_of (placed_at head at))) [])
    go true rest = omega (arith, rest)
    go false rest = omega arith

-- an extension reads the same
pub placed_same : (xs ys : List ℕ) (at : ℕ) → number 4 at ys ≡ number 4 at xs → number 4 (at + 4) ys ≡ number 4 (at + 4) xs → placed_at ys at ≡ placed_at xs at
placed_same xs ys at kind size = λ i. record { at = at; kind = kind i; size = size i }

pub is_same : (xs ys : List ℕ) (at : ℕ) → length ys ≡ length xs → number 4 at ys ≡ number 4 at xs → number 4 (at + 4) ys ≡ number 4 (at + 4) xs → is_extension ys at ≡ is_extension xs at
is_same xs ys at long kind size =
    ap (λ k. not (k == 0) && nat_le (end_of (placed_at ys at)) (length ys)) kind
    ∙ ap (λ p. not (number 4 at xs == 0) && nat_le (end_of p) (length ys)) (placed_same xs ys at kind size)
    ∙ ap (λ n. not (number 4 at xs == 0) && nat_le (end_of (placed_at xs at)) n) long

-- ---- heads that agree

pub record Walked (n : ℕ) (xs ys : List ℕ) (at : ℕ) : Type 0 where
  pub same : extensions_up_to n ys at ≡ extensions_up_to n xs at
  pub formats : last_format ys (extensions_up_to n xs at) ≡ last_format xs (extensions_up_to n xs at)

-- one extension, and those behind it
one_more : (xs ys : List ℕ) (e : Placed) (es : List Placed) → data_of ys e ≡ data_of xs e → last_format ys es ≡ last_format xs es → last_format ys (e ∷ es) ≡ last_format xs (e ∷ es)
unfolding last_format
one_more xs ys e es lent rest =
    ap (λ d. if e.kind == backing_format then (format_at e.at d >>= λ f. last_format ys es >>= λ later. Ok (Some (unwrap_or later f))) else last_format ys es) lent
    ∙ ap (λ r. if e.kind == backing_format then (format_at e.at (data_of xs e) >>= λ f. r >>= λ later. Ok (Some (unwrap_or later f))) else r) rest

pub within : (e : Placed) → e.at + 8 + e.size ≤ end_of e
within e = omega arith

module _ (xs ys : List ℕ) (long : length ys ≡ length xs) where
  -- where an extension stands in both
  step : (n at : ℕ) → is_extension xs at ≡ true → placed_at ys at ≡ placed_at xs at → is_extension ys at ≡ is_extension xs at → data_of ys (placed_at xs at) ≡ data_of xs (placed_at xs at)
      → Walked n xs ys (end_of (placed_at xs at)) → Walked (suc n) xs ys at
  step n at is same also lent rest =
      let e : Placed = placed_at xs at in
      let here = up_to-some n xs at is in
      let there = up_to-some n ys at (also ∙ is) in
      record {
        same = there ∙ ap (λ p. p ∷ extensions_up_to n ys (end_of p)) same ∙ ap (λ (es : List Placed). e ∷ es) rest.same ∙ sym here;
        formats = ap (last_format ys) here ∙ one_more xs ys e (extensions_up_to n xs (end_of e)) lent rest.formats ∙ sym (ap (last_format xs) here);
      }

  pub walk_same : (n at : ℕ) → Agree xs ys at (end_after at (extensions_up_to n xs at) + 8) → Walked n xs ys at
  unfolding extensions_up_to last_format
  walk_same zero at agree = record { same = refl; formats = refl }
  walk_same (suc n) at agree = go (is_extension xs at) refl (walk_same n (end_of (placed_at xs at)))
    where
      e : Placed
      e = placed_at xs at

      end : ℕ
      end = end_after at (extensions_up_to (suc n) xs at)

      low : at ≤ end
      low = end_behind (suc n) xs at

      kind : number 4 at ys ≡ number 4 at xs
      kind = number_agrees xs ys at (end + 8) 4 at agree (omega arith) (omega (arith, low))

      size : number 4 (at + 4) ys ≡ number 4 (at + 4) xs
      size = number_agrees xs ys at (end + 8) 4 (at + 4) agree (omega arith) (omega (arith, low))

      also : is_extension ys at ≡ is_extension xs at
      also = is_same xs ys at long kind size

      go : (b : Bool) → is_extension xs at ≡ b → (Agree xs ys (end_of e) (end_after (end_of e) (extensions_up_to n xs (end_of e)) + 8) → Walked n xs ys (end_of e)) → Walked (suc n) xs ys at
      go true is rest =
          let ends : end ≡ end_after (end_of e) (extensions_up_to n xs (end_of e)) = ap (end_after at) (up_to-some n xs at is) in
          let behind = end_behind n xs (end_of e) in
          let inside = within e in
          step n at is (placed_same xs ys at kind size) also
          (part_agrees xs ys at (end + 8) (e.at + 8) e.size long agree (omega arith) (omega (arith, ends, behind, inside)))
          (rest (narrower xs ys at (end + 8) (end_of e) (end_after (end_of e) (extensions_up_to n xs (end_of e)) + 8) agree (omega (arith, inside)) (omega (arith, ends))))
      go false is rest =
          let none = up_to-none (suc n) xs at is in
          let other = up_to-none (suc n) ys at (also ∙ is) in
          record { same = other ∙ sym none; formats = ap (last_format ys) none ∙ sym (ap (last_format xs) none) }
