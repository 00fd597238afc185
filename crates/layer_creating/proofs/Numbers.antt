-- The numbers in a new layer's file.
use Rattle.std.proofs.Common.{◌≡◌, ◌≢◌, ◌⊎◌, inl, inr, ℕ, zero, suc, ◌+◌, ◌*◌, ◌/◌, ◌%◌, ◌<◌, ◌≤◌, Bool, true, false, List, ◌++◌, length, replicate, Option, refl, ap, ◌∙◌, arith, ne_eqb, nat_lt}
use Rattle.std.specs.Prelude.{◌==◌, if◌then◌else◌}
use Rattle.std.proofs.lemmas.Bool.Decides.{nat_tests}
use Rattle.std.proofs.lemmas.Bool.{cases_lt}
use Rattle.std.proofs.lemmas.List.{length-replicate}
use Rattle.qcow_format.specs.Bytes.{bytes_of, number, put}
use Rattle.qcow_format.proofs.New.{number-zeros}
use Rattle.qcow_format.proofs.Put.{number-put_behind}
use Rattle.shared_disk.specs.Content.{zero_sector}
use Rattle.image_model.specs.File.{file_of, sector_in}
use Rattle.layer_creating.specs.New.{beginning, block_sector, new_sector, table_sector}
use Rattle.layer_creating.specs.declared.backing.Backing.{Backing}

-- ---- sectors

zero_number : (w at : ℕ) → number w at zero_sector ≡ 0
unfolding zero_sector
zero_number w at = number-zeros w at 512

behind : (w at : ℕ) (bytes : List ℕ) → length bytes ≤ at → number w at (beginning bytes) ≡ 0
unfolding zero_sector
behind w at bytes le = number-put_behind w at 0 bytes (replicate 512 0) (omega (arith, length-replicate {A = ℕ} 512 0)) (omega (arith, le)) ∙ number-zeros w at 512

pub first_entry : number 8 0 table_sector ≡ 131_072
unfolding number put bytes_of zero_sector
first_entry = refl

pub later_entry : (j : ℕ) → j ≢ 0 → number 8 (j * 8) table_sector ≡ 0
unfolding bytes_of
later_entry j some = behind 8 (j * 8) (bytes_of 8 131_072) (omega (arith, some))

pub first_counts : (j : ℕ) → j < 4 → number 2 (j * 2) block_sector ≡ 1
unfolding number put bytes_of zero_sector
first_counts zero lt = refl
first_counts (suc zero) lt = refl
first_counts (suc (suc zero)) lt = refl
first_counts (suc (suc (suc zero))) lt = refl
first_counts (suc (suc (suc (suc j)))) lt = absurd (omega (arith, lt))

pub later_counts : (j : ℕ) → 4 ≤ j → number 2 (j * 2) block_sector ≡ 0
unfolding bytes_of
later_counts j le = behind 2 (j * 2) (bytes_of 2 1 ++ (bytes_of 2 1 ++ (bytes_of 2 1 ++ bytes_of 2 1))) (omega (arith, le))

-- ---- the file's sectors

abbrev picked : ℕ → List ℕ → List ℕ → List ℕ → List ℕ → List ℕ → List ℕ
picked k a b c d e = if k == 0 then a else if k == 126 then b else if k == 128 then c else if k == 256 then d else e

picked_none : (k : ℕ) (a b c d e : List ℕ) → k ≢ 0 → k ≢ 126 → k ≢ 128 → k ≢ 256 → picked k a b c d e ≡ e
picked_none k a b c d e p q r s = rw (ne_eqb k 0 p, ne_eqb k 126 q, ne_eqb k 128 r, ne_eqb k 256 s) refl

module _ (capacity n : ℕ) (backing : Option Backing) (long : 2560 ≤ n) where
  abbrev here : ℕ → List ℕ
  here k = sector_in n (new_sector capacity backing) k

  in_file : (k : ℕ) → k < n → here k ≡ new_sector capacity backing k
  in_file k lt = let e : nat_lt k n ≡ true = grind (arith, nat_tests) in rw e refl

  pub sector_128 : here 128 ≡ table_sector
  unfolding new_sector
  sector_128 = in_file 128 (omega (arith, long))

  pub sector_256 : here 256 ≡ block_sector
  unfolding new_sector
  sector_256 = in_file 256 (omega (arith, long))

  pub sector_else : (k : ℕ) → k ≢ 0 → k ≢ 126 → k ≢ 128 → k ≢ 256 → here k ≡ zero_sector
  unfolding new_sector zero_sector
  sector_else k p q r s = go (nat_lt k n)
    where
      go : (b : Bool) → (if b then new_sector capacity backing k else replicate 512 0) ≡ replicate 512 0
      go true = picked_none k _ _ _ _ (replicate 512 0) p q r s
      go false = refl

  pub word_at : (w : ℕ) → (file_of n (new_sector capacity backing)).word w ≡ number 8 (w % 64 * 8) (here (w / 64))
  unfolding file_of
  word_at w = refl

  pub half_at : (x : ℕ) → (file_of n (new_sector capacity backing)).half x ≡ number 2 (x % 256 * 2) (here (x / 256))
  unfolding file_of
  half_at x = refl

  -- entry k of the refcount table
  pub entry_word : (k : ℕ) → k < 8192 → k ≢ 0 → (file_of n (new_sector capacity backing)).word (8192 + k) ≡ 0
  entry_word k lt some = word_at (8192 + k) ∙ go (cases_lt k 64)
    where
      go : (k < 64) ⊎ (64 ≤ k) → number 8 ((8192 + k) % 64 * 8) (here ((8192 + k) / 64)) ≡ 0
      go (inl low) =
          let at : (8192 + k) / 64 ≡ 128 = omega (arith, low) in
          let index : (8192 + k) % 64 ≡ k = omega (arith, low) in
          ap (λ s. number 8 ((8192 + k) % 64 * 8) s) (ap here at ∙ sector_128) ∙ ap (λ j. number 8 (j * 8) table_sector) index ∙ later_entry k some
      go (inr high) =
          ap (λ s. number 8 ((8192 + k) % 64 * 8) s) (sector_else ((8192 + k) / 64) (omega (arith, high)) (omega (arith, high)) (omega (arith, high)) (omega (arith, high, lt)))
          ∙ zero_number 8 ((8192 + k) % 64 * 8)

  pub entry_first : (file_of n (new_sector capacity backing)).word 8192 ≡ 131_072
  entry_first = word_at 8192 ∙ ap (λ s. number 8 0 s) sector_128 ∙ first_entry

  -- an L1 entry
  pub l1_word : (i : ℕ) → (file_of n (new_sector capacity backing)).word (24_576 + i) ≡ 0
  l1_word i =
      let s = sector_else ((24_576 + i) / 64) (omega arith) (omega arith) (omega arith) (omega arith) in
      word_at (24_576 + i) ∙ ap (λ s. number 8 ((24_576 + i) % 64 * 8) s) s ∙ zero_number 8 ((24_576 + i) % 64 * 8)

  -- a count
  pub count_first : (c : ℕ) → c < 4 → (file_of n (new_sector capacity backing)).half (65_536 + c) ≡ 1
  count_first c lt =
      let at : (65_536 + c) / 256 ≡ 256 = omega (arith, lt) in
      let index : (65_536 + c) % 256 ≡ c = omega (arith, lt) in
      half_at (65_536 + c) ∙ ap (λ s. number 2 ((65_536 + c) % 256 * 2) s) (ap here at ∙ sector_256) ∙ ap (λ j. number 2 (j * 2) block_sector) index ∙ first_counts c lt

  pub count_later : (c : ℕ) → 4 ≤ c → c < 32_768 → (file_of n (new_sector capacity backing)).half (65_536 + c) ≡ 0
  count_later c le lt = half_at (65_536 + c) ∙ go (cases_lt c 256)
    where
      go : (c < 256) ⊎ (256 ≤ c) → number 2 ((65_536 + c) % 256 * 2) (here ((65_536 + c) / 256)) ≡ 0
      go (inl low) =
          let at : (65_536 + c) / 256 ≡ 256 = omega (arith, low) in
          let index : (65_536 + c) % 256 ≡ c = omega (arith, low) in
          ap (λ s. number 2 ((65_536 + c) % 256 * 2) s) (ap here at ∙ sector_256) ∙ ap (λ j. number 2 (j * 2) block_sector) index ∙ later_counts c le
      go (inr high) =
          ap (λ s. number 2 ((65_536 + c) % 256 * 2) s) (sector_else ((65_536 + c) / 256) (omega (arith, high)) (omega (arith, high)) (omega (arith, high)) (omega (arith, high)))
          ∙ zero_number 2 ((65_536 + c) % 256 * 2)
