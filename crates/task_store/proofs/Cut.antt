-- The first part of a text that is cut at a byte.
use Rattle.std.proofs.Common.{◌≡◌, ℕ, ◌≤◌, Bool, true, false, cond, List, [], ◌∷◌, length, refl, is_some, Some, None, arith, ltb}
use Rattle.std.specs.List.{slice_split, before_first, after_first, position, position_or_len}
use Rattle.std.proofs.lemmas.List.Splits.{slice_split_first, slice_split_none}
use Rattle.std.proofs.lemmas.List.Sums.{fails_before_first}
use Rattle.std.proofs.lemmas.Bool.{ltb-true, ltb-false}
use Rattle.task_store.specs.Parts.{is_byte}

found_if : (b : Bool) (n : ℕ) → is_some (cond b (Some n) None) ≡ b
found_if true n = refl
found_if false n = refl

module _ (byte : ℕ) (text : List ℕ) where
  test : is_some (position (is_byte byte) text) ≡ ltb (position_or_len (is_byte byte) text) (length text)
  test = found_if (ltb (position_or_len (is_byte byte) text) (length text)) (position_or_len (is_byte byte) text)

  pub cut_first : is_some (position (is_byte byte) text) ≡ true → slice_split (is_byte byte) text ≡ before_first (is_byte byte) text ∷ slice_split (is_byte byte) (after_first (is_byte byte) text)
  cut_first found =
      slice_split_first (is_byte byte) text 0 (ltb-true (position_or_len (is_byte byte) text) (length text) (rw test at found))

  pub cut_none : is_some (position (is_byte byte) text) ≡ false → slice_split (is_byte byte) text ≡ text ∷ []
  cut_none none =
      let past : length text ≤ position_or_len (is_byte byte) text = ltb-false (position_or_len (is_byte byte) text) (length text) (rw test at none) in
      slice_split_none (is_byte byte) text (λ k d below. fails_before_first (is_byte byte) text k d (omega arith))
