-- A new layer's file is sound, position by position.
use Rattle.std.proofs.Common.{◌≡◌, ◌≢◌, ◌⊎◌, inl, inr, ℕ, zero, suc, ◌+◌, ◌-◌, ◌*◌, ◌/◌, ◌%◌, ◌^◌, ◌<◌, ◌≤◌, Bool, true, false, Option, Some, None, Ok, unwrap_or, refl, sym, ap, ◌∙◌, arith, ne_eqb, nat_lt, nat_le}
use Rattle.std.specs.Prelude.{◌==◌, ◌&&◌, ◌||◌, not, if◌then◌else◌}
use Rattle.std.proofs.lemmas.Bool.Decides.{nat_tests}
use Rattle.std.proofs.lemmas.Bool.{cases_lt}
use Rattle.sd_names.specs.declared.fault.LayerFault.TheVariants.{MixedBits}
use Rattle.qcow_format.specs.declared.entry.Entry.TheVariants.{Absent}
use Rattle.qcow_format.specs.Entry.{table_in}
use Rattle.image_model.specs.File.{File, file_of}
use Rattle.image_model.specs.Layer.{Tables, block_at, block_place, block_word, count_of, entry_at, entry_behind, is_used, l1_at, l1_clusters, l1_entry}
use Rattle.image_model.specs.Soundness.{IsClean, Item, block_item, faulty, item, placed, l1_item_of, l2_item, mapping_item, named_by, names, nothing, own_fault}
use Rattle.layer_laws.specs.Laws.{layer}
use Rattle.layer_laws.proofs.Items.{Part, part_of, header, l1_cluster, table_cluster, block, mapping}
use Rattle.layer_laws.proofs.Places.{item_block, item_header, item_l1_cluster, item_mapping, item_table_cluster}
use Rattle.layer_creating.specs.New.{is_used_new, l1_size_for, new_header, new_sector}
use Rattle.layer_creating.specs.declared.backing.Backing.{Backing}
use Rattle.layer_creating.proofs.Numbers.{count_first, count_later, entry_first, entry_word, l1_word}

-- what stands at each position
abbrev new_item : ℕ → Item
new_item zero = named_by 0 0
new_item (suc zero) = named_by 40 196_608
new_item (suc (suc zero)) = named_by 48 65_536
new_item (suc (suc (suc zero))) = named_by 65_536 131_072
new_item (suc (suc (suc (suc n)))) = nothing

l1_few : (capacity : ℕ) → capacity ≤ 2 ^ 40 → (1 ≤ l1_size_for capacity) × (l1_size_for capacity ≤ 2048)
l1_few capacity le = (omega arith, omega (arith, le))

module _ (capacity n : ℕ) (backing : Option Backing) (high : capacity ≤ 2 ^ 40) (long : 2560 ≤ n) where
  abbrev F : File
  F = file_of n (new_sector capacity backing)

  abbrev T : Tables
  T = layer (new_header capacity backing) F

  size_is : F.size ≡ 512 * n
  unfolding file_of
  size_is = refl

  one_l1 : l1_clusters T ≡ 1
  one_l1 = let few = l1_few capacity high in omega (arith, few.0, few.1)

  -- ---- the refcount table

  word_first : block_word T 0 ≡ 131_072
  word_first = entry_first capacity n backing long

  word_later : (k : ℕ) → k ≢ 0 → block_word T k ≡ 0
  word_later k some = go (cases_lt k 8192)
    where
      go : (k < 8192) ⊎ (8192 ≤ k) → block_word T k ≡ 0
      go (inl lt) =
          let e : nat_lt k 8192 ≡ true = grind (arith, nat_tests) in
          let at : (65_536 + 8 * k) / 8 ≡ 8192 + k = omega arith in
          ap (λ b. if b then F.word ((65_536 + 8 * k) / 8) else 0) e ∙ ap F.word at ∙ entry_word capacity n backing long k lt some
      go (inr le) = let e : nat_lt k 8192 ≡ false = grind (arith, nat_tests) in ap (λ b. if b then F.word ((65_536 + 8 * k) / 8) else 0) e

  place_first : block_place T 0 ≡ 131_072
  place_first = ap (λ w. w / 512 * 512) word_first

  place_later : (k : ℕ) → k ≢ 0 → block_place T k ≡ 0
  place_later k some = ap (λ w. w / 512 * 512) (word_later k some)

  -- ---- counts

  abbrev counted : ℕ → ℕ → ℕ
  counted c p = if p == 0 then 0 else F.half (p / 2 + c % 32_768)

  count_low : (c : ℕ) → c < 32_768 → count_of T c ≡ F.half (65_536 + c)
  count_low c lt =
      let range : c / 32_768 ≡ 0 = omega (arith, lt) in
      let index : c % 32_768 ≡ c = omega (arith, lt) in
      ap (counted c) (ap (λ k. block_place T k) range ∙ place_first) ∙ ap (λ x. F.half (65_536 + x)) index

  count_four : (c : ℕ) → c < 4 → count_of T c ≡ 1
  count_four c lt = count_low c (omega (arith, lt)) ∙ count_first capacity n backing long c lt

  count_none : (c : ℕ) → 4 ≤ c → count_of T c ≡ 0
  count_none c le = go (cases_lt c 32_768)
    where
      go : (c < 32_768) ⊎ (32_768 ≤ c) → count_of T c ≡ 0
      go (inl lt) = count_low c lt ∙ count_later capacity n backing long c le lt
      go (inr over) = ap (counted c) (place_later (c / 32_768) (omega (arith, over)))

  -- ---- L1 entries

  no_table : (i : ℕ) → l1_entry T i ≡ Ok None
  no_table i =
      let at : (196_608 + 8 * i) / 8 ≡ 24_576 + i = omega arith in
      ap (λ w. table_in w (l1_at T i)) (ap F.word at ∙ l1_word capacity n backing long i)

  -- ---- positions

  block_first : block_item T 0 ≡ named_by 65_536 131_072
  block_first = by (block_word T 0) word_first
    where
      by : (w : ℕ) → w ≡ 131_072
          → (if not (w % 512 == 0) then faulty (block_at T 0) (MixedBits (block_at T 0)) else (if w / 512 * 512 == 0 then nothing else placed T (block_at T 0) (w / 512 * 512))) ≡ named_by 65_536 131_072
      by w is = rw is refl

  block_later : (k : ℕ) → k ≢ 0 → block_item T k ≡ nothing
  block_later k some = by (block_word T k) (word_later k some)
    where
      by : (w : ℕ) → w ≡ 0
          → (if not (w % 512 == 0) then faulty (block_at T k) (MixedBits (block_at T k)) else (if w / 512 * 512 == 0 then nothing else placed T (block_at T k) (w / 512 * 512))) ≡ nothing
      by w is = rw is refl

  unmapped : (i r : ℕ) → mapping_item T capacity i r ≡ nothing
  unmapped i r = go (nat_le (l1_size_for capacity) i) (r == 0)
    where
      go : (a b : Bool) → (if a then nothing else (if b then l1_item_of T (l1_at T i) (l1_entry T i) else l2_item T capacity i (r - 1) (l1_entry T i))) ≡ nothing
      go true b = refl
      go false true = ap (l1_item_of T (l1_at T i)) (no_table i)
      go false false = ap (l2_item T capacity i (r - 1)) (no_table i)

  past_three : (k n : ℕ) → n ≡ 3 + k → k ≢ 0 → new_item n ≡ nothing
  past_three zero n is some = absurd (some refl)
  past_three (suc k) n is some = let at : n ≡ suc (suc (suc (suc k))) = is ∙ omega arith in ap new_item at

  item_is : (m : ℕ) → item T capacity m ≡ new_item m
  item_is m = go (part_of T m)
    where
      go : Part T m → item T capacity m ≡ new_item m
      go (header e) = ap (item T capacity) e ∙ item_header T capacity ∙ ap new_item (sym e)
      go (l1_cluster k lt e) =
          let first : k ≡ 0 = omega (arith, lt, one_l1) in
          let at : m ≡ 1 = e ∙ ap (λ k. 1 + k) first in
          ap (item T capacity) e ∙ item_l1_cluster T capacity k lt ∙ ap (λ k. named_by 40 (196_608 + k * 65_536)) first ∙ ap new_item (sym at)
      go (table_cluster k lt e) =
          let first : k ≡ 0 = omega (arith, lt) in
          let at : m ≡ 2 = e ∙ omega (arith, one_l1, first) in
          ap (item T capacity) e ∙ item_table_cluster T capacity k lt ∙ ap (λ k. named_by 48 (65_536 + k * 65_536)) first ∙ ap new_item (sym at)
      go (block k lt e) =
          let at : m ≡ 3 + k = e ∙ omega (arith, one_l1) in
          ap (item T capacity) e ∙ item_block T capacity k lt ∙ which (cases_lt 0 k) at
        where
          which : (0 < k) ⊎ (k ≤ 0) → m ≡ 3 + k → block_item T k ≡ new_item m
          which (inl some) at = block_later k (omega (arith, some)) ∙ sym (past_three k m at (omega (arith, some)))
          which (inr none) at =
              let first : k ≡ 0 = omega (arith, none) in
              ap (block_item T) first ∙ block_first ∙ ap new_item (sym (at ∙ ap (λ k. 3 + k) first))
      go (mapping i r lt e) =
          let at : m ≡ 3 + (8192 + i * 8193 + r) = e ∙ omega (arith, one_l1) in
          ap (item T capacity) e ∙ item_mapping T capacity i r lt ∙ unmapped i r ∙ sym (past_three (8192 + i * 8193 + r) m at (omega arith))

  -- ---- each is clean

  abbrev new_name : ℕ → Option ℕ
  new_name m = (new_item m).name

  name_is : (m : ℕ) → names T capacity m ≡ new_name m
  name_is m = ap (λ (x : Item). x.name) (item_is m)

  inside : (place at : ℕ) → place < 1_310_720 → own_fault F.size (named_by at place) ≡ None
  inside place at lt =
      let size = size_is in
      let e : nat_le F.size place ≡ false = grind (arith, nat_tests) in
      rw e refl

  fine_at : (m : ℕ) → own_fault F.size (new_item m) ≡ None
  fine_at zero = inside 0 0 (omega arith)
  fine_at (suc zero) = inside 196_608 40 (omega arith)
  fine_at (suc (suc zero)) = inside 65_536 48 (omega arith)
  fine_at (suc (suc (suc zero))) = inside 131_072 65_536 (omega arith)
  fine_at (suc (suc (suc (suc m)))) = refl

  differ : (a b : ℕ) → ◌≡◌ {A = Option ℕ} (Some a) (Some b) → a ≢ b → ⊥
  differ a b same apart = apart (ap (λ (o : Option ℕ). unwrap_or o 0) same)

  no_place : (place : ℕ) → ◌≡◌ {A = Option ℕ} None (Some place) → ⊥
  no_place place e = absurd cc

  -- where a position below the fourth stands, its place is no other's
  once_at : (m k place : ℕ) → k < m → new_name m ≡ Some place → new_name k ≡ Some place → ⊥
  once_at m k place lt is before = apart m k lt is before
    where
      apart : (m k : ℕ) → k < m → new_name m ≡ Some place → new_name k ≡ Some place → ⊥
      apart zero k lt is before = absurd (omega (arith, lt))
      apart (suc zero) zero lt is before = differ 0 196608 (before ∙ sym is) (omega arith)
      apart (suc zero) (suc k) lt is before = absurd (omega (arith, lt))
      apart (suc (suc zero)) zero lt is before = differ 0 65536 (before ∙ sym is) (omega arith)
      apart (suc (suc zero)) (suc zero) lt is before = differ 196608 65536 (before ∙ sym is) (omega arith)
      apart (suc (suc zero)) (suc (suc k)) lt is before = absurd (omega (arith, lt))
      apart (suc (suc (suc zero))) zero lt is before = differ 0 131072 (before ∙ sym is) (omega arith)
      apart (suc (suc (suc zero))) (suc zero) lt is before = differ 196608 131072 (before ∙ sym is) (omega arith)
      apart (suc (suc (suc zero))) (suc (suc zero)) lt is before = differ 65536 131072 (before ∙ sym is) (omega arith)
      apart (suc (suc (suc zero))) (suc (suc (suc k))) lt is before = absurd (omega (arith, lt))
      apart (suc (suc (suc (suc m)))) k lt is before = absurd (no_place place is)

  some_is : (a b : ℕ) → Some a ≡ Some b → a ≡ b
  some_is a b same = ap (λ (o : Option ℕ). unwrap_or o 0) same

  counted_by : (c p place : ℕ) → p / 65_536 ≡ c → c < 4 → Some p ≡ Some place → 0 < count_of T (place / 65_536)
  counted_by c p place at lt same =
      let one : count_of T (place / 65_536) ≡ 1 = ap (λ x. count_of T (x / 65_536)) (sym (some_is p place same)) ∙ ap (count_of T) at ∙ count_four c lt in
      omega (arith, one)

  counted_at : (m place : ℕ) → new_name m ≡ Some place → 0 < count_of T (place / 65_536)
  counted_at zero place is = counted_by 0 0 place refl (omega arith) is
  counted_at (suc zero) place is = counted_by 3 196_608 place refl (omega arith) is
  counted_at (suc (suc zero)) place is = counted_by 1 65_536 place refl (omega arith) is
  counted_at (suc (suc (suc zero))) place is = counted_by 2 131_072 place refl (omega arith) is
  counted_at (suc (suc (suc (suc m)))) place is = absurd (no_place place is)

  pub clean : (m : ℕ) → IsClean T capacity m
  clean m = record {
    fine = ap (own_fault F.size) (item_is m) ∙ fine_at m;
    once = λ place is before. once_at m before.0 place before.1 (sym (name_is m) ∙ is) (sym (name_is before.0) ∙ before.2);
    counted = λ place is. counted_at m place (sym (name_is m) ∙ is);
  }

  pub nothing_held : (k : ℕ) → entry_at T k ≡ Absent
  unfolding entry_at
  nothing_held k = go (nat_lt (k / 8192) (l1_size_for capacity))
    where
      go : (b : Bool) → (if b then entry_behind T (k % 8192) (l1_entry T (k / 8192)) else Absent) ≡ Absent
      go true = ap (entry_behind T (k % 8192)) (no_table (k / 8192))
      go false = refl

  abbrev used_by : ℕ → Bool → Bool
  used_by count rest = nat_lt 0 count || rest

  pub used_is : (c : ℕ) → is_used T c ≡ is_used_new c
  unfolding is_used
  used_is c = go (cases_lt c 4) (cases_lt c 32_768)
    where
      and_true : (b x : Bool) → x ≡ true → (b && x) ≡ b
      and_true true x e = e
      and_true false x e = refl

      go : (c < 4) ⊎ (4 ≤ c) → (c < 32_768) ⊎ (32_768 ≤ c) → used_by (count_of T c) (c % 32_768 == 0 && block_place T (c / 32_768) == 0) ≡ is_used_new c
      go (inl lt) range =
          let e : nat_lt c 4 ≡ true = grind (arith, nat_tests) in
          ap (λ n. used_by n (c % 32_768 == 0 && block_place T (c / 32_768) == 0)) (count_four c lt) ∙ sym (ap (λ b. b || c % 32_768 == 0) e)
      go (inr le) (inl lt) =
          let e : nat_lt c 4 ≡ false = grind (arith, nat_tests) in
          let other : (c % 32_768 == 0) ≡ false = ne_eqb (c % 32_768) 0 (omega (arith, le, lt)) in
          ap (λ n. used_by n (c % 32_768 == 0 && block_place T (c / 32_768) == 0)) (count_none c le)
          ∙ ap (λ b. b && block_place T (c / 32_768) == 0) other
          ∙ sym (ap (λ b. b || c % 32_768 == 0) e ∙ other)
      go (inr le) (inr over) =
          let e : nat_lt c 4 ≡ false = grind (arith, nat_tests) in
          let none : (block_place T (c / 32_768) == 0) ≡ true = ap (λ p. p == 0) (place_later (c / 32_768) (omega (arith, over))) in
          ap (λ n. used_by n (c % 32_768 == 0 && block_place T (c / 32_768) == 0)) (count_none c le)
          ∙ and_true (c % 32_768 == 0) (block_place T (c / 32_768) == 0) none
          ∙ sym (ap (λ b. b || c % 32_768 == 0) e)
