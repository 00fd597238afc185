-- What reads as zeros, and numbers where they are asked for.
use Rattle.std.proofs.Common.{◌≡◌, ◌⊎◌, inl, inr, ℕ, zero, suc, ◌+◌, ◌-◌, ◌*◌, ◌/◌, ◌%◌, ◌^◌, ◌<◌, ◌≤◌, false, List, replicate, refl, sym, ap, ◌∙◌, subst, arith, nat_lt}
use Rattle.std.specs.Prelude.{slice_index}
use Rattle.std.proofs.lemmas.Bool.{cases_lt}
use Rattle.std.proofs.lemmas.Bool.Decides.{nat_tests}
use Rattle.std.proofs.lemmas.List.{drop-replicate, length-replicate, get_or-replicate, get_or_past}
use Rattle.byteorder.specs.Endian.{big_from, big_number}
use Rattle.qcow_format.specs.Bytes.{number}
use Rattle.image_model.specs.File.{file_of, sector_in}
use Rattle.layer_walk.specs.Walking.{IsNear}

pub past_end : (count k : ℕ) (sectors : ℕ → List ℕ) → count ≤ k → sector_in count sectors k ≡ replicate 512 0
past_end count k sectors le = let e : nat_lt k count ≡ false = grind (arith, nat_tests) in rw e refl

no_byte : (n i : ℕ) → slice_index (replicate n 0) i ≡ 0
no_byte n i = go (cases_lt i n)
  where
    go : (i < n) ⊎ (n ≤ i) → slice_index (replicate n 0) i ≡ 0
    go (inl lt) = get_or-replicate n i 0 0 lt
    go (inr le) = get_or_past (replicate n 0) i 0 (subst (λ m. m ≤ i) (sym (length-replicate n 0)) le)

no_number : (i w n : ℕ) → big_from i w (replicate n 0) ≡ 0
no_number i zero n = refl
no_number i (suc w) n =
    let e = no_byte n i in
    let f = no_number (suc i) w n in
    ap (λ x. x * 256 ^ w + big_from (suc i) w (replicate n 0)) e ∙ no_sum (256 ^ w) (big_from (suc i) w (replicate n 0)) f
  where
    no_sum : (a b : ℕ) → b ≡ 0 → 0 * a + b ≡ 0
    no_sum a b e = omega (arith, e)

zero_number : (w at : ℕ) → number w at (replicate 512 0) ≡ 0
unfolding number
zero_number w at = ap (λ xs. big_number w xs) (drop-replicate at 512 0) ∙ no_number 0 w (512 - at)

-- the sector of a place that 64 bits can't hold is past the file's end, as is the last that they can
pub same_sector : (count place at : ℕ) (sectors : ℕ → List ℕ) → 512 * count < 2 ^ 64 → IsNear place at → sector_in count sectors (at / 512 * 512 / 512) ≡ sector_in count sectors (place / 512)
same_sector count place at sectors small is = go (cases_lt place (2 ^ 64))
  where
    same : (a b : ℕ) → a ≡ b → a / 512 * 512 / 512 ≡ b / 512
    same a b e = omega (arith, e)

    last : (at : ℕ) → at ≡ 2 ^ 64 - 1 → count ≤ at / 512 * 512 / 512
    last at e = omega (arith, small, e)

    go : (place < 2 ^ 64) ⊎ (2 ^ 64 ≤ place) → sector_in count sectors (at / 512 * 512 / 512) ≡ sector_in count sectors (place / 512)
    go (inl lt) = ap (sector_in count sectors) (same at place (is.near lt))
    go (inr le) = past_end count (at / 512 * 512 / 512) sectors (last at (is.far le)) ∙ sym (past_end count (place / 512) sectors (omega (arith, small, le)))

module _ (count place at : ℕ) (sectors : ℕ → List ℕ) (sector : List ℕ) (small : 512 * count < 2 ^ 64) (near : IsNear place at) (read : sector ≡ sector_in count sectors (place / 512)) where
  nothing : 2 ^ 64 ≤ place → (w i : ℕ) → number w i sector ≡ 0
  nothing le w i = ap (number w i) (read ∙ past_end count (place / 512) sectors (omega (arith, small, le))) ∙ zero_number w i

  pub asked_word : place % 8 ≡ 0 → (file_of count sectors).word (place / 8) ≡ number 8 (8 * (at % 512 / 8)) sector
  unfolding file_of
  asked_word even = ap (λ k. number 8 (place / 8 % 64 * 8) (sector_in count sectors k)) high ∙ ap (number 8 (place / 8 % 64 * 8)) (sym read) ∙ go (cases_lt place (2 ^ 64))
    where
      high : place / 8 / 64 ≡ place / 512
      high = omega arith

      index : at ≡ place → place / 8 % 64 * 8 ≡ 8 * (at % 512 / 8)
      index e = omega (arith, even, e)

      go : (place < 2 ^ 64) ⊎ (2 ^ 64 ≤ place) → number 8 (place / 8 % 64 * 8) sector ≡ number 8 (8 * (at % 512 / 8)) sector
      go (inl lt) = ap (λ k. number 8 k sector) (index (near.near lt))
      go (inr le) = nothing le 8 _ ∙ sym (nothing le 8 _)

  pub asked_half : place % 2 ≡ 0 → (file_of count sectors).half (place / 2) ≡ number 2 (at % 512 / 2 * 2) sector
  unfolding file_of
  asked_half even = ap (λ k. number 2 (place / 2 % 256 * 2) (sector_in count sectors k)) high ∙ ap (number 2 (place / 2 % 256 * 2)) (sym read) ∙ go (cases_lt place (2 ^ 64))
    where
      high : place / 2 / 256 ≡ place / 512
      high = omega arith

      index : at ≡ place → place / 2 % 256 * 2 ≡ at % 512 / 2 * 2
      index e = omega (arith, even, e)

      go : (place < 2 ^ 64) ⊎ (2 ^ 64 ≤ place) → number 2 (place / 2 % 256 * 2) sector ≡ number 2 (at % 512 / 2 * 2) sector
      go (inl lt) = ap (λ k. number 2 k sector) (index (near.near lt))
      go (inr le) = nothing le 2 _ ∙ sym (nothing le 2 _)
