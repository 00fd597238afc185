-- Files that agree outside one cluster.
use Rattle.std.proofs.Common.{◌≡◌, ◌≢◌, ℕ, ◌+◌, ◌*◌, ◌/◌, ◌%◌, ◌<◌, List, refl, sym, ap, ◌∙◌, arith, nat_lt}
use Rattle.std.specs.Prelude.{slice_index, replicate, if◌then◌else◌}
use Rattle.qcow_format.specs.Bytes.{number}
use Rattle.image_model.specs.File.{File, file_of, sector_in}
use Rattle.layer_laws.specs.Laws.{SameOutside}
use Rattle.layer_laws.proofs.Numbers.{apart, cluster_of, half_cluster, same_place, word_cluster}

pub record Agrees (c p : ℕ) (f g : File) : Type 0 where
  pub size : g.size ≡ f.size
  pub words : (w : ℕ) → 8 * w / c ≢ p / c → g.word w ≡ f.word w
  pub halves : (w : ℕ) → 2 * w / c ≢ p / c → g.half w ≡ f.half w
  pub bytes : (i : ℕ) → i / c ≢ p / c → g.byte i ≡ f.byte i

pub sector_same : (n k : ℕ) (s s' : ℕ → List ℕ) → s' k ≡ s k → sector_in n s' k ≡ sector_in n s k
sector_same n k s s' same = ap (λ x. if nat_lt k n then x else replicate 512 0) same

pub agrees : (n p c q : ℕ) (s s' : ℕ → List ℕ) → c ≡ 512 * q → 0 < c → p % c ≡ 0 → SameOutside p c s s' → Agrees c p (file_of n s) (file_of n s')
unfolding file_of
agrees n p c q s s' is pos even same = record {
  size = refl;
  words = λ w other.
      let at : 8 * w / 512 ≡ w / 64 = omega arith in
      ap (number 8 (w % 64 * 8)) (ap (λ k. sector_in n s' k) (sym at) ∙ here (8 * w) other ∙ ap (λ k. sector_in n s k) at);
  halves = λ w other.
      let at : 2 * w / 512 ≡ w / 256 = omega arith in
      ap (number 2 (w % 256 * 2)) (ap (λ k. sector_in n s' k) (sym at) ∙ here (2 * w) other ∙ ap (λ k. sector_in n s k) at);
  bytes = λ i other. ap (λ x. slice_index x (i % 512)) (here i other);
}
  where
    here : (b : ℕ) → b / c ≢ p / c → sector_in n s' (b / 512) ≡ sector_in n s (b / 512)
    here b other = sector_same n (b / 512) s s' (same (b / 512) (apart b p c q is pos even other))

-- what stands in another cluster
module _ (c q p : ℕ) (f g : File) (is : c ≡ 512 * q) (even : p % c ≡ 0) (a : Agrees c p f g) where
  pub other_word : (place j at : ℕ) → place % c ≡ 0 → j < c / 8 → at ≡ place + 8 * j → (place ≡ p → ⊥) → g.word (at / 8) ≡ f.word (at / 8)
  other_word place j at whole lt e other = a.words (at / 8) (λ same.
      other (same_place place p c whole even (sym (ap (λ n. 8 * (n / 8) / c) e ∙ word_cluster place j c q is whole lt) ∙ same)))

  pub other_half : (place j at : ℕ) → place % c ≡ 0 → j < c / 2 → at ≡ place / 2 + j → (place ≡ p → ⊥) → g.half at ≡ f.half at
  other_half place j at whole lt e other = a.halves at (λ same.
      other (same_place place p c whole even (sym (ap (λ n. 2 * n / c) e ∙ half_cluster place j c q is whole lt) ∙ same)))

  pub other_byte : (place j : ℕ) → place % c ≡ 0 → j < c → (place ≡ p → ⊥) → g.byte (place + j) ≡ f.byte (place + j)
  other_byte place j whole lt other = a.bytes (place + j) (λ same.
      other (same_place place p c whole even (sym (cluster_of place j c whole lt) ∙ same)))
