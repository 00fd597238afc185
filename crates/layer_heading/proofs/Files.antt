-- Files of a layer in which one sector is written: the bytes of the head.
use Rattle.std.proofs.Common.{◌≡◌, ◌≢◌, ◌⊎◌, inl, inr, ℕ, zero, suc, ◌+◌, ◌-◌, ◌*◌, ◌/◌, ◌%◌, ◌<◌, ◌≤◌, Bool, true, false, List, ◌++◌, length, get_or, replicate, refl, sym, ap, ◌∙◌, arith, nat_lt, ne_eqb, eq-eqb}
use Rattle.std.specs.Prelude.{◌==◌, if◌then◌else◌}
use Rattle.std.specs.List.{flat_map, range_with_len}
use Rattle.std.proofs.Math.Seq.{get_or-append_right}
use Rattle.std.proofs.lemmas.Bool.{cases_lt}
use Rattle.std.proofs.lemmas.Bool.Decides.{nat_tests}
use Rattle.std.proofs.lemmas.List.{get_or_append_left, get_or_past, length-append, length-replicate}
use Rattle.image_model.specs.File.{file_of, sector_in}
use Rattle.layer_laws.specs.Laws.{SameOutside}
use Rattle.layer_writing.specs.Holding.{with_sector}

module _ (sector : ℕ → List ℕ) (long : (k : ℕ) → length (sector k) ≡ 512) where
  pub head_long : (a m : ℕ) → length (flat_map sector (range_with_len a m)) ≡ 512 * m
  head_long a zero = omega arith
  head_long a (suc m) =
      let here = long a in
      let rest = head_long (a + 1) m in
      let sum = length-append (sector a) (flat_map sector (range_with_len (a + 1) m)) in
      omega (arith, here, rest, sum)

  -- a byte of the head stands in its sector
  pub head_byte : (a m k : ℕ) → k < 512 * m → get_or (flat_map sector (range_with_len a m)) k 0 ≡ get_or (sector (a + k / 512)) (k % 512) 0
  head_byte a zero k lt = absurd (omega (arith, lt))
  head_byte a (suc m) k lt = go (cases_lt k 512) (head_byte (a + 1) m (k - 512))
    where
      go : (k < 512) ⊎ (512 ≤ k) → (k - 512 < 512 * m → get_or (flat_map sector (range_with_len (a + 1) m)) (k - 512) 0 ≡ get_or (sector (a + 1 + (k - 512) / 512)) ((k - 512) % 512) 0)
          → get_or (sector a ++ flat_map sector (range_with_len (a + 1) m)) k 0 ≡ get_or (sector (a + k / 512)) (k % 512) 0
      go (inl low) rest =
          let at : a ≡ a + k / 512 = omega (arith, low) in
          let index : k ≡ k % 512 = omega (arith, low) in
          get_or_append_left (sector a) (flat_map sector (range_with_len (a + 1) m)) 0 k (omega (arith, long a, low))
          ∙ ap (λ i. get_or (sector a) i 0) index ∙ ap (λ j. get_or (sector j) (k % 512) 0) at
      go (inr high) rest =
          let at : a + 1 + (k - 512) / 512 ≡ a + k / 512 = omega (arith, high) in
          let index : (k - 512) % 512 ≡ k % 512 = omega (arith, high) in
          get_or-append_right (sector a) (flat_map sector (range_with_len (a + 1) m)) k 0 (omega (arith, long a, high))
          ∙ ap (λ j. get_or (flat_map sector (range_with_len (a + 1) m)) (k - j) 0) (long a)
          ∙ rest (omega (arith, lt, high))
          ∙ ap (λ j. get_or (sector j) ((k - 512) % 512) 0) at ∙ ap (λ i. get_or (sector (a + k / 512)) i 0) index

-- ---- a file in which one sector is another

module _ (n p : ℕ) (b : List ℕ) (s : ℕ → List ℕ) (sized : length b ≡ 512) (long : (k : ℕ) → length (s k) ≡ 512) where
  pub in_long : (k : ℕ) → length (sector_in n s k) ≡ 512
  in_long k = go (nat_lt k n)
    where
      go : (t : Bool) → length (if t then s k else replicate 512 0) ≡ 512
      go true = long k
      go false = length-replicate {A = ℕ} 512 0

  pub new_long : (k : ℕ) → length (with_sector p b s k) ≡ 512
  new_long k = go (k == p)
    where
      go : (t : Bool) → length (if t then b else s k) ≡ 512
      go true = sized
      go false = long k

  pub in_new_long : (k : ℕ) → length (sector_in n (with_sector p b s) k) ≡ 512
  in_new_long k = go (nat_lt k n)
    where
      go : (t : Bool) → length (if t then with_sector p b s k else replicate 512 0) ≡ 512
      go true = new_long k
      go false = length-replicate {A = ℕ} 512 0

  pub other : (k : ℕ) → k ≢ p → with_sector p b s k ≡ s k
  other k apart = ap (λ t. if t then b else s k) (ne_eqb k p apart)

  pub other_in : (k : ℕ) → k ≢ p → sector_in n (with_sector p b s) k ≡ sector_in n s k
  other_in k apart = ap (λ x. if nat_lt k n then x else replicate 512 0) (other k apart)

  pub here : with_sector p b s p ≡ b
  here = ap (λ t. if t then b else s p) (eq-eqb p p refl)

  pub here_in : p < n → sector_in n (with_sector p b s) p ≡ b
  here_in lt = let e : nat_lt p n ≡ true = grind (arith, nat_tests) in ap (λ t. if t then with_sector p b s p else replicate 512 0) e ∙ here

  pub file_head : (r : ℕ → List ℕ) → (file_of n r).head ≡ flat_map (sector_in n r) (range_with_len 0 128)
  unfolding file_of
  file_head r = refl

  pub head_length : length (file_of n s).head ≡ 65_536
  head_length = ap length (file_head s) ∙ head_long (sector_in n s) in_long 0 128

  pub new_head_length : length (file_of n (with_sector p b s)).head ≡ 65_536
  new_head_length = ap length (file_head (with_sector p b s)) ∙ head_long (sector_in n (with_sector p b s)) in_new_long 0 128

  -- the head outside the sector
  pub head_same : (k : ℕ) → (k < 512 * p) ⊎ (512 * p + 512 ≤ k) → get_or (file_of n (with_sector p b s)).head k 0 ≡ get_or (file_of n s).head k 0
  head_same k side = go (cases_lt k 65_536)
    where
      apart : (k p : ℕ) → (k < 512 * p) ⊎ (512 * p + 512 ≤ k) → k / 512 ≢ p
      apart k p (inl lt) e = omega (arith, lt, e)
      apart k p (inr le) e = omega (arith, le, e)

      go : (k < 65_536) ⊎ (65_536 ≤ k) → get_or (file_of n (with_sector p b s)).head k 0 ≡ get_or (file_of n s).head k 0
      go (inl lt) =
          ap (λ xs. get_or xs k 0) (file_head (with_sector p b s)) ∙ head_byte (sector_in n (with_sector p b s)) in_new_long 0 128 k (omega (arith, lt))
          ∙ ap (λ xs. get_or xs (k % 512) 0) (other_in (0 + k / 512) (λ e. apart k p side (sym zero_plus ∙ e)))
          ∙ sym (ap (λ xs. get_or xs k 0) (file_head s) ∙ head_byte (sector_in n s) in_long 0 128 k (omega (arith, lt)))
        where
          zero_plus : 0 + k / 512 ≡ k / 512
          zero_plus = omega arith
      go (inr le) =
          get_or_past (file_of n (with_sector p b s)).head k 0 (omega (arith, new_head_length, le)) ∙ sym (get_or_past (file_of n s).head k 0 (omega (arith, head_length, le)))

  -- a sector of the first cluster
  pub outside_cluster : (size : ℕ) → 512 * p + 512 ≤ size → SameOutside 0 size s (with_sector p b s)
  outside_cluster size within k side = other k (apart side)
    where
      apart : (k < 0 / 512) ⊎ ((0 + size) / 512 ≤ k) → k ≢ p
      apart (inl lt) e = omega (arith, lt)
      apart (inr le) e = omega (arith, le, e, within)

-- ---- the first sector, and the rest of the head

flat_same : (f g : ℕ → List ℕ) (a m : ℕ) → ((k : ℕ) → a ≤ k → g k ≡ f k) → flat_map g (range_with_len a m) ≡ flat_map f (range_with_len a m)
flat_same f g a zero same = refl
flat_same f g a (suc m) same =
    ap (λ xs. xs ++ flat_map g (range_with_len (a + 1) m)) (same a (omega arith)) ∙ ap (λ xs. f a ++ xs) (flat_same f g (a + 1) m (λ k le. same k (omega (arith, le))))

module _ (n : ℕ) (b : List ℕ) (s : ℕ → List ℕ) (sized : length b ≡ 512) (long : (k : ℕ) → length (s k) ≡ 512) (some : 0 < n) where
  abbrev pub rest : List ℕ
  rest = flat_map (sector_in n s) (range_with_len 1 127)

  pub old_split : (file_of n s).head ≡ s 0 ++ rest
  old_split =
      file_head n 0 b s sized long s
      ∙ ap (λ t. (if t then s 0 else replicate 512 0) ++ rest) (let e : nat_lt 0 n ≡ true = grind (arith, nat_tests) in e)

  pub new_split : (file_of n (with_sector 0 b s)).head ≡ b ++ rest
  new_split =
      file_head n 0 b s sized long (with_sector 0 b s)
      ∙ ap (λ xs. xs ++ flat_map (sector_in n (with_sector 0 b s)) (range_with_len 1 127)) (here_in n 0 b s sized long some)
      ∙ ap (λ xs. b ++ xs) (flat_same (sector_in n s) (sector_in n (with_sector 0 b s)) 1 127 (λ k le. other_in n 0 b s sized long k (omega (arith, le))))
