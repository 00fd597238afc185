-- Cells that an index finds, after each change of either.
use Rattle.std.proofs.Common.{◌≡◌, ◌≢◌, ◌⊎◌, ℕ, ◌+◌, ◌-◌, ◌<◌, ◌≤◌, ◌==◌, ◌&&◌, ltb, Bool, true, false, if◌then◌else◌, List, [], ◌∷◌, ◌++◌, length, set, Option, Some, None, eq-eqb, eqb-true, refl, sym, ap, subst, ◌∙◌, inl, inr, arith}
use Rattle.std.proofs.lemmas.Bool.{false≢true, ltb-true, lt-ltb, cases_eq, cases_lt, and_parts}
use Rattle.std.proofs.lemmas.List.{get_or-set_other, get_or-set_same, get_or_append_left, length-append}
use Rattle.std.proofs.lemmas.Option.{same_Some}
use Rattle.std.proofs.Math.Seq.{get_or-append_seam}
use Rattle.memory_disk.specs.Cells.{IsIndexed, cell_at, is_cell, kept_at, key_eq}
use Rattle.memory_disk.specs.declared.cell.Cell.{Cell}
use Rattle.shared_disk.proofs.Places.{not_false}

-- two keys that pass the test are one
pub key_same : (x y : ℕ × ℕ × ℕ) → key_eq x y ≡ true → x ≡ y
key_same x y e =
    let w = and_parts _ _ e in
    let u = and_parts _ _ w.0 in
    let o : x.0 ≡ y.0 = eqb-true x.0 y.0 u.0 in
    let f : x.1 ≡ y.1 = eqb-true x.1 y.1 u.1 in
    let k : x.2 ≡ y.2 = eqb-true x.2 y.2 w.1 in
    λ i. (o i, f i, k i)

pub key_itself : (x : ℕ × ℕ × ℕ) → key_eq x x ≡ true
key_itself x = rw (eq-eqb x.0 x.0 refl, eq-eqb x.1 x.1 refl, eq-eqb x.2 x.2 refl) refl

pub key_apart : (x y : ℕ × ℕ × ℕ) → x ≢ y → key_eq x y ≡ false
key_apart x y h = not_false (key_eq x y) (λ t. h (key_same x y t))

-- the test is the same both ways
pub key_back : (x y : ℕ × ℕ × ℕ) (t : Bool) → key_eq x y ≡ t → key_eq y x ≡ t
key_back x y true e = subst (λ (z : ℕ × ℕ × ℕ). key_eq z x ≡ true) (key_same x y e) (key_itself x)
key_back x y false e = not_false (key_eq y x) (λ t. false≢true (sym e ∙ subst (λ (z : ℕ × ℕ × ℕ). key_eq z y ≡ true) (key_same y x t) (key_itself y)))

apart_key : (x y : ℕ × ℕ × ℕ) → key_eq x y ≡ false → x ≢ y
apart_key x y t e = false≢true (sym t ∙ subst (λ (z : ℕ × ℕ × ℕ). key_eq x z ≡ true) e (key_itself x))

-- a cell of the key
pub is_there : (cells : List Cell) (i : ℕ) (key : ℕ × ℕ × ℕ) → i < length cells → (cell_at cells i).key ≡ key → is_cell cells i key ≡ true
is_there cells i key within is = rw (lt-ltb i (length cells) within) (subst (λ (k : ℕ × ℕ × ℕ). key_eq (cell_at cells i).key k ≡ true) is (key_itself (cell_at cells i).key))

named_is : (cells : List Cell) (i : ℕ) (key : ℕ × ℕ × ℕ) → is_cell cells i key ≡ true → (i < length cells) × ((cell_at cells i).key ≡ key)
named_is cells i key t = let w = and_parts _ _ t in (ltb-true i (length cells) w.0, key_same _ _ w.1)

not_there : (cells : List Cell) (i : ℕ) (key : ℕ × ℕ × ℕ) → (i < length cells → (cell_at cells i).key ≢ key) → is_cell cells i key ≡ false
not_there cells i key h = not_false (is_cell cells i key) (λ t. let w = named_is cells i key t in h w.0 w.1)

pub kept_here : (cells : List Cell) (o : Option ℕ) (i : ℕ) (key : ℕ × ℕ × ℕ) → o ≡ Some i → i < length cells → (cell_at cells i).key ≡ key → kept_at cells o key ≡ Some (cell_at cells i).bytes
kept_here cells o i key named within is = ap (λ (n : Option ℕ). kept_at cells n key) named ∙ rw (is_there cells i key within is) refl

kept_not : (cells : List Cell) (o : Option ℕ) (i : ℕ) (key : ℕ × ℕ × ℕ) → o ≡ Some i → is_cell cells i key ≡ false → kept_at cells o key ≡ None
kept_not cells o i key named t = ap (λ (n : Option ℕ). kept_at cells n key) named ∙ rw t refl

-- a cell serves a key as another does
record IsSameFor (cells cells1 : List Cell) (key : ℕ × ℕ × ℕ) (i : ℕ) : Type 0 where
  there : is_cell cells1 i key ≡ is_cell cells i key
  bytes : is_cell cells i key ≡ true → (cell_at cells1 i).bytes ≡ (cell_at cells i).bytes

if_same : (b b1 : Bool) (x x1 : List ℕ) → b1 ≡ b → (b ≡ true → x1 ≡ x) → ◌≡◌ {A = Option (List ℕ)} (if b1 then Some x1 else None) (if b then Some x else None)
if_same true b1 x x1 e h = rw e (ap (λ (v : List ℕ). Some v) (h refl))
if_same false b1 x x1 e h = rw e refl

same_kept : (cells cells1 : List Cell) (o : Option ℕ) (key : ℕ × ℕ × ℕ) → ((i : ℕ) → o ≡ Some i → IsSameFor cells cells1 key i) → kept_at cells1 o key ≡ kept_at cells o key
same_kept cells cells1 None key h = refl
same_kept cells cells1 (Some i) key h = let w = h i refl in if_same (is_cell cells i key) (is_cell cells1 i key) (cell_at cells i).bytes (cell_at cells1 i).bytes w.there w.bytes

both_there : (cells cells1 : List Cell) (key : ℕ × ℕ × ℕ) (i : ℕ) → i < length cells → i < length cells1 → cell_at cells1 i ≡ cell_at cells i → IsSameFor cells cells1 key i
both_there cells cells1 key i within within1 same = record {
  there = rw (lt-ltb i (length cells) within, lt-ltb i (length cells1) within1) (ap (λ (c : Cell). key_eq c.key key) same);
  bytes = λ _. ap (λ (c : Cell). c.bytes) same;
}

neither_there : (cells cells1 : List Cell) (key : ℕ × ℕ × ℕ) (i : ℕ) → is_cell cells1 i key ≡ false → is_cell cells i key ≡ false → IsSameFor cells cells1 key i
neither_there cells cells1 key i t1 t = record { there = t1 ∙ sym t; bytes = λ u. absurd (false≢true (sym t ∙ u)) }

-- an index names one cell a key
pub one_cell : (cells : List Cell) (g : ℕ × ℕ × ℕ → Option ℕ) (i j : ℕ) → IsIndexed cells g → i < length cells → j < length cells → (cell_at cells i).key ≡ (cell_at cells j).key → i ≡ j
one_cell cells g i j indexed a b e = same_Some i j (sym (indexed i a) ∙ ap g e ∙ indexed j b)

-- two such indexes find the same
found_same : (cells : List Cell) (g h : ℕ × ℕ × ℕ → Option ℕ) (key : ℕ × ℕ × ℕ) (o p : Option ℕ) → IsIndexed cells g → IsIndexed cells h → g key ≡ o → h key ≡ p → kept_at cells o key ≡ kept_at cells p key
found_same cells g h key None None ig ih eg eh = refl
found_same cells g h key (Some i) p ig ih eg eh = go (is_cell cells i key) refl where
  other : (q : Option ℕ) → h key ≡ q → is_cell cells i key ≡ false → None ≡ kept_at cells q key
  other None e t = refl
  other (Some j) e t = sym (kept_not cells (Some j) j key refl (not_there cells j key (λ within is.
      let same : i ≡ j = same_Some i j (sym eg ∙ ap g (sym is) ∙ ig j within) in
      false≢true (sym t ∙ subst (λ (n : ℕ). is_cell cells n key ≡ true) (sym same) (is_there cells j key within is)))))

  go : (t : Bool) → is_cell cells i key ≡ t → kept_at cells (Some i) key ≡ kept_at cells p key
  go true t =
      let w = named_is cells i key t in
      ap (λ (n : Option ℕ). kept_at cells n key) (sym (ih i w.0) ∙ ap h w.1 ∙ eh)
  go false t = kept_not cells (Some i) i key refl t ∙ other p eh t
found_same cells g h key None (Some j) ig ih eg eh =
    sym (kept_not cells (Some j) j key refl (not_there cells j key (λ within is. none_some_step (sym eg ∙ ap g (sym is) ∙ ig j within)))) where
      none_some_step : ◌≡◌ {A = Option ℕ} None (Some j) → ⊥
      none_some_step e = cc

pub same_index : (cells : List Cell) (g h : ℕ × ℕ × ℕ → Option ℕ) (key : ℕ × ℕ × ℕ) → IsIndexed cells g → IsIndexed cells h → kept_at cells (g key) key ≡ kept_at cells (h key) key
same_index cells g h key ig ih = found_same cells g h key (g key) (h key) ig ih refl refl

-- nothing has changed
pub indexed_same : (cells cells1 : List Cell) (g g1 : ℕ × ℕ × ℕ → Option ℕ) → IsIndexed cells g → cells1 ≡ cells → ((q : ℕ × ℕ × ℕ) → g1 q ≡ g q) → IsIndexed cells1 g1
indexed_same cells cells1 g g1 indexed same names i within =
    names (cell_at cells1 i).key ∙ ap (λ (cs : List Cell). g (cell_at cs i).key) same ∙ indexed i (rw (← ap length same) within)

-- one more cell is named
pub named_more : (cells : List Cell) (g g1 : ℕ × ℕ × ℕ → Option ℕ) (i : ℕ) → ((m j : ℕ) → m < length cells → j < length cells → (cell_at cells m).key ≡ (cell_at cells j).key → m ≡ j) → i < length cells
    → ((q : ℕ × ℕ × ℕ) → g1 q ≡ (if key_eq (cell_at cells i).key q then Some i else g q)) → ((j : ℕ) → j < i → g (cell_at cells j).key ≡ Some j) → (j : ℕ) → j < i + 1 → g1 (cell_at cells j).key ≡ Some j
named_more cells g g1 i apart within names before j below = elim (cases_lt j i) [
  | inl less ↦
      let other : key_eq (cell_at cells i).key (cell_at cells j).key ≡ false = key_apart _ _ (λ e. let same = apart i j within (omega (arith, less, within)) e in omega (arith, same, less)) in
      names (cell_at cells j).key ∙ rw other (before j less)
  | inr more ↦
      let same : j ≡ i = omega (arith, more, below) in
      subst (λ (n : ℕ). g1 (cell_at cells n).key ≡ Some n) (sym same) (names (cell_at cells i).key ∙ rw (key_itself (cell_at cells i).key) refl)
]

-- a cell's bytes are replaced
pub replaced : (cells cells1 : List Cell) (g : ℕ × ℕ × ℕ → Option ℕ) (i : ℕ) (key q : ℕ × ℕ × ℕ) (bytes : List ℕ) → i < length cells → (cell_at cells i).key ≡ key → g key ≡ Some i → length cells1 ≡ length cells
    → cell_at cells1 i ≡ record { key = key; bytes = bytes } → ((j : ℕ) → j ≢ i → cell_at cells1 j ≡ cell_at cells j) → kept_at cells1 (g q) q ≡ (if key_eq key q then Some bytes else kept_at cells (g q) q)
replaced cells cells1 g i key q bytes within is named len here others = go (key_eq key q) refl where
  away : key ≢ q → (j : ℕ) → IsSameFor cells cells1 q j
  away h j = elim (cases_lt j i) [
    | inl less ↦ record { there = (λ m. ltb j (len m) && key_eq (others j (λ e. omega (arith, less, e)) m).key q); bytes = λ _. ap (λ (c : Cell). c.bytes) (others j (λ e. omega (arith, less, e))) }
    | inr more ↦ elim (cases_lt i j) [
      | inl less ↦ record { there = (λ m. ltb j (len m) && key_eq (others j (λ e. omega (arith, less, e)) m).key q); bytes = λ _. ap (λ (c : Cell). c.bytes) (others j (λ e. omega (arith, less, e))) }
      | inr no_more ↦
          let same : j ≡ i = omega (arith, more, no_more) in
          neither_there cells cells1 q j
          (not_there cells1 j q (λ _ e. h (sym (ap (λ (c : Cell). c.key) here) ∙ ap (λ (n : ℕ). (cell_at cells1 n).key) (sym same) ∙ e)))
          (not_there cells j q (λ _ e. h (sym is ∙ ap (λ (n : ℕ). (cell_at cells n).key) (sym same) ∙ e)))
    ]
  ]

  go : (t : Bool) → key_eq key q ≡ t → kept_at cells1 (g q) q ≡ (if t then Some bytes else kept_at cells (g q) q)
  go true t =
      let e : key ≡ q = key_same key q t in
      kept_here cells1 (g q) i q (ap g (sym e) ∙ named) (omega (arith, within, len)) (ap (λ (c : Cell). c.key) here ∙ e) ∙ ap (λ (c : Cell). Some c.bytes) here
  go false t = same_kept cells cells1 (g q) q (λ j _. away (apart_key key q t) j)

-- a cell is added at the end
pub added : (cells cells1 : List Cell) (g g1 : ℕ × ℕ × ℕ → Option ℕ) (key q : ℕ × ℕ × ℕ) (bytes : List ℕ) → length cells1 ≡ length cells + 1 → cell_at cells1 (length cells) ≡ record { key = key; bytes = bytes }
    → ((j : ℕ) → j < length cells → cell_at cells1 j ≡ cell_at cells j) → g1 q ≡ (if key_eq key q then Some (length cells) else g q) → kept_at cells1 (g1 q) q ≡ (if key_eq key q then Some bytes else kept_at cells (g q) q)
added cells cells1 g g1 key q bytes len here others names = go (key_eq key q) refl where
  beyond : key ≢ q → (j : ℕ) → length cells ≤ j → IsSameFor cells cells1 q j
  beyond h j past = neither_there cells cells1 q j
      (not_there cells1 j q (λ within e. let same : length cells ≡ j = omega (arith, past, within, len) in
      h (sym (ap (λ (c : Cell). c.key) here) ∙ ap (λ (n : ℕ). (cell_at cells1 n).key) same ∙ e)))
      (not_there cells j q (λ within _. absurd (omega (arith, past, within))))

  go : (t : Bool) → key_eq key q ≡ t → kept_at cells1 (g1 q) q ≡ (if t then Some bytes else kept_at cells (g q) q)
  go true t = kept_here cells1 (g1 q) (length cells) q (rw t at names) (omega (arith, len)) (ap (λ (c : Cell). c.key) here ∙ key_same key q t) ∙ ap (λ (c : Cell). Some c.bytes) here
  go false t = ap (λ (o : Option ℕ). kept_at cells1 o q) (rw t at names)
      ∙ same_kept cells cells1 (g q) q (λ j _. elim (cases_lt j (length cells)) [
        | inl within ↦ both_there cells cells1 q j within (omega (arith, within, len)) (others j within)
        | inr past ↦ beyond (apart_key key q t) j past
      ])

pub indexed_more : (cells cells1 : List Cell) (g g1 : ℕ × ℕ × ℕ → Option ℕ) (key : ℕ × ℕ × ℕ) (bytes : List ℕ) → IsIndexed cells g → kept_at cells (g key) key ≡ None → length cells1 ≡ length cells + 1
    → cell_at cells1 (length cells) ≡ record { key = key; bytes = bytes } → ((j : ℕ) → j < length cells → cell_at cells1 j ≡ cell_at cells j)
    → ((q : ℕ × ℕ × ℕ) → g1 q ≡ (if key_eq key q then Some (length cells) else g q)) → IsIndexed cells1 g1
indexed_more cells cells1 g g1 key bytes indexed none len here others names j within = elim (cases_lt j (length cells)) [
  | inl less ↦
      let e = ap (λ (c : Cell). c.key) (others j less) in
      let apart : key_eq key (cell_at cells j).key ≡ false = key_apart key (cell_at cells j).key (λ same. some_none (sym (kept_here cells (g key) j key (ap g same ∙ indexed j less) less (sym same)) ∙ none)) in
      ap g1 e ∙ names (cell_at cells j).key ∙ rw apart (indexed j less)
  | inr more ↦
      let same : j ≡ length cells = omega (arith, within, len, more) in
      let e : (cell_at cells1 j).key ≡ key = ap (λ (n : ℕ). (cell_at cells1 n).key) same ∙ ap (λ (c : Cell). c.key) here in
      ap g1 e ∙ names key ∙ rw (key_itself key) (ap (λ (n : ℕ). Some n) (sym same))
] where
  some_none : {x : List ℕ} → ◌≡◌ {A = Option (List ℕ)} (Some x) None → ⊥
  some_none e = cc

-- the last cell comes in the place of one that is taken away
pub record IsTaken (cells cells1 : List Cell) (g g1 : ℕ × ℕ × ℕ → Option ℕ) (i : ℕ) : Type 0 where
  pub within : i < length cells
  pub len : length cells1 + 1 ≡ length cells
  pub moved : i + 1 < length cells → cell_at cells1 i ≡ cell_at cells (length cells - 1)
  pub others : (j : ℕ) → j ≢ i → j + 1 < length cells → cell_at cells1 j ≡ cell_at cells j
  pub names : (q : ℕ × ℕ × ℕ) → g1 q ≡ (if key_eq (cell_at cells (length cells - 1)).key q then Some i else g q)

-- the last cell is moved and named again, or it is the one that is taken away
pub taken_moved : (cells cells1 : List Cell) (g g1 : ℕ × ℕ × ℕ → Option ℕ) (i : ℕ) (key : ℕ × ℕ × ℕ) → length cells1 + 1 ≡ length cells → i < length cells1 → (i + 1 < length cells → cell_at cells1 i ≡ cell_at cells (length cells - 1))
    → ((j : ℕ) → j ≢ i → j + 1 < length cells → cell_at cells1 j ≡ cell_at cells j) → key ≡ (cell_at cells1 i).key → ((q : ℕ × ℕ × ℕ) → g1 q ≡ (if key_eq key q then Some i else g q)) → IsTaken cells cells1 g g1 i
taken_moved cells cells1 g g1 i key len within moved others is names =
    let last : key ≡ (cell_at cells (length cells - 1)).key = is ∙ ap (λ (c : Cell). c.key) (moved (omega (arith, len, within))) in record {
      within = omega (arith, len, within);
      len = len;
      moved = moved;
      others = others;
      names = λ q. names q ∙ ap (λ (x : ℕ × ℕ × ℕ). if key_eq x q then Some i else g q) last;
    }

named_last : (cells : List Cell) (g : ℕ × ℕ × ℕ → Option ℕ) (i : ℕ) (q : ℕ × ℕ × ℕ) (b : Bool) → i < length cells → IsIndexed cells g → key_eq (cell_at cells i).key q ≡ b → g q ≡ (if b then Some i else g q)
named_last cells g i q true within indexed t = ap g (sym (key_same _ _ t)) ∙ indexed i within
named_last cells g i q false within indexed t = refl

pub taken_last : (cells cells1 : List Cell) (g : ℕ × ℕ × ℕ → Option ℕ) (i : ℕ) → length cells1 + 1 ≡ length cells → i ≡ length cells1 → (i + 1 < length cells → cell_at cells1 i ≡ cell_at cells (length cells - 1))
    → ((j : ℕ) → j ≢ i → j + 1 < length cells → cell_at cells1 j ≡ cell_at cells j) → IsIndexed cells g → IsTaken cells cells1 g g i
taken_last cells cells1 g i len end moved others indexed =
    let last : length cells - 1 ≡ i = omega (arith, len, end) in record {
      within = omega (arith, len, end);
      len = len;
      moved = moved;
      others = others;
      names = λ q. rw last (named_last cells g i q (key_eq (cell_at cells i).key q) (omega (arith, len, end)) indexed refl);
    }

-- the cell of any other key
taken_other : (cells cells1 : List Cell) (g g1 : ℕ × ℕ × ℕ → Option ℕ) (i : ℕ) (q : ℕ × ℕ × ℕ) → IsTaken cells cells1 g g1 i → (cell_at cells (length cells - 1)).key ≢ q → (cell_at cells i).key ≢ q → (j : ℕ) → IsSameFor cells cells1 q j
taken_other cells cells1 g g1 i q w last own j = elim (cases_lt (j + 1) (length cells)) [
  | inl less ↦ go (cases_eq j i) less
  | inr more ↦ neither_there cells cells1 q j
      (not_there cells1 j q (λ within _. absurd (omega (arith, within, more, w.len))))
      (not_there cells j q (λ within e. let same : j ≡ length cells - 1 = omega (arith, within, more) in last (ap (λ (n : ℕ). (cell_at cells n).key) (sym same) ∙ e)))
] where
  go : (j ≡ i) ⊎ (j ≢ i) → j + 1 < length cells → IsSameFor cells cells1 q j
  go (inl e) less = neither_there cells cells1 q j
      (not_there cells1 j q (λ _ h. last (sym (ap (λ (c : Cell). c.key) (w.moved (omega (arith, e, less)))) ∙ ap (λ (n : ℕ). (cell_at cells1 n).key) (sym e) ∙ h)))
      (not_there cells j q (λ _ h. own (ap (λ (n : ℕ). (cell_at cells n).key) (sym e) ∙ h)))
  go (inr n) less = both_there cells cells1 q j (omega (arith, less)) (omega (arith, less, w.len)) (w.others j n less)

pub taken : (cells cells1 : List Cell) (g g1 : ℕ × ℕ × ℕ → Option ℕ) (i : ℕ) (q : ℕ × ℕ × ℕ) → IsIndexed cells g → IsTaken cells cells1 g g1 i
    → kept_at cells1 (g1 q) q ≡ (if key_eq (cell_at cells i).key q then None else kept_at cells (g q) q)
taken cells cells1 g g1 i q indexed w = go (key_eq (cell_at cells (length cells - 1)).key q) (key_eq (cell_at cells i).key q) refl refl where
  end : length cells - 1 < length cells
  end = omega (arith, w.within)

  gone : (cell_at cells i).key ≡ q → g1 q ≡ Some i → kept_at cells1 (g1 q) q ≡ None
  gone own named = kept_not cells1 (g1 q) i q named (not_there cells1 i q (λ within e.
      let less : i + 1 < length cells = omega (arith, within, w.len) in
      let same : i ≡ length cells - 1 = one_cell cells g i (length cells - 1) indexed w.within end (own ∙ sym e ∙ ap (λ (c : Cell). c.key) (w.moved less)) in
      absurd (omega (arith, same, less))))

  go : (a b : Bool) → key_eq (cell_at cells (length cells - 1)).key q ≡ a → key_eq (cell_at cells i).key q ≡ b → kept_at cells1 (g1 q) q ≡ (if b then None else kept_at cells (g q) q)
  go true true s t = gone (key_same _ _ t) (rw s at (w.names q))
  go false true s t = gone (key_same _ _ t) (rw s at (w.names q) ∙ ap g (sym (key_same _ _ t)) ∙ indexed i w.within)
  go true false s t =
      let last : (cell_at cells (length cells - 1)).key ≡ q = key_same _ _ s in
      let apart : i ≢ length cells - 1 = λ e. apart_key _ _ t (ap (λ (n : ℕ). (cell_at cells n).key) e ∙ last) in
      let less : i + 1 < length cells = omega (arith, w.within, apart) in
      kept_here cells1 (g1 q) i q (rw s at (w.names q)) (omega (arith, less, w.len)) (ap (λ (c : Cell). c.key) (w.moved less) ∙ last)
      ∙ ap (λ (c : Cell). Some c.bytes) (w.moved less)
      ∙ sym (kept_here cells (g q) (length cells - 1) q (ap g (sym last) ∙ indexed (length cells - 1) end) end last)
  go false false s t = ap (λ (o : Option ℕ). kept_at cells1 o q) (rw s at (w.names q))
      ∙ same_kept cells cells1 (g q) q (λ j _. taken_other cells cells1 g g1 i q w (apart_key _ _ s) (apart_key _ _ t) j)

pub indexed_less : (cells cells1 : List Cell) (g g1 : ℕ × ℕ × ℕ → Option ℕ) (i : ℕ) → IsIndexed cells g → IsTaken cells cells1 g g1 i → IsIndexed cells1 g1
indexed_less cells cells1 g g1 i indexed w j within = go (cases_eq j i) where
  end : length cells - 1 < length cells
  end = omega (arith, w.within)

  go : (j ≡ i) ⊎ (j ≢ i) → g1 (cell_at cells1 j).key ≡ Some j
  go (inl e) =
      let is : (cell_at cells1 j).key ≡ (cell_at cells (length cells - 1)).key = ap (λ (n : ℕ). (cell_at cells1 n).key) e ∙ ap (λ (c : Cell). c.key) (w.moved (omega (arith, within, w.len, e))) in
      ap g1 is ∙ w.names (cell_at cells (length cells - 1)).key ∙ rw (key_itself (cell_at cells (length cells - 1)).key) (ap (λ (n : ℕ). Some n) (sym e))
  go (inr n) =
      let less : j + 1 < length cells = omega (arith, within, w.len) in
      let is = ap (λ (c : Cell). c.key) (w.others j n less) in
      let apart : key_eq (cell_at cells (length cells - 1)).key (cell_at cells j).key ≡ false = key_apart _ _ (λ e. let same : length cells - 1 ≡ j = one_cell cells g (length cells - 1) j indexed end (omega (arith, less)) e in omega (arith, less, same)) in
      ap g1 is ∙ w.names (cell_at cells j).key ∙ rw apart (indexed j (omega (arith, less)))

pub at_most_one : (b : Bool) → (if b then 0 else 1) ≤ 1
at_most_one true = omega arith
at_most_one false = omega arith

pub key_parts : (number k n j : ℕ) → (number == n && k == j) ≡ true → (number ≡ n) × (k ≡ j)
key_parts number k n j t = let w = and_parts (number == n) (k == j) t in (eqb-true number n w.0, eqb-true k j w.1)

pub indexed_replaced : (cells cells1 : List Cell) (g : ℕ × ℕ × ℕ → Option ℕ) (i : ℕ) (key : ℕ × ℕ × ℕ) (bytes : List ℕ) → IsIndexed cells g → (cell_at cells i).key ≡ key → length cells1 ≡ length cells
    → cell_at cells1 i ≡ record { key = key; bytes = bytes } → ((j : ℕ) → j ≢ i → cell_at cells1 j ≡ cell_at cells j) → IsIndexed cells1 g
indexed_replaced cells cells1 g i key bytes indexed is len here others j within = go (cases_eq j i) where
  go : (j ≡ i) ⊎ (j ≢ i) → g (cell_at cells1 j).key ≡ Some j
  go (inl e) = ap g (ap (λ (n : ℕ). (cell_at cells1 n).key) e ∙ ap (λ (c : Cell). c.key) here ∙ sym is ∙ ap (λ (n : ℕ). (cell_at cells n).key) (sym e)) ∙ indexed j (omega (arith, within, len))
  go (inr n) = ap (λ (c : Cell). g c.key) (others j n) ∙ indexed j (omega (arith, within, len))

-- a cell is put in the place of another, or behind all
pub set_here : (cells : List Cell) (i : ℕ) (cell : Cell) → i < length cells → cell_at (set cells i cell) i ≡ cell
set_here cells i cell within = get_or-set_same cells i cell (record { key = (0, 0, 0); bytes = [] }) within

pub set_others : (cells : List Cell) (i : ℕ) (cell : Cell) (j : ℕ) → j ≢ i → cell_at (set cells i cell) j ≡ cell_at cells j
set_others cells i cell j apart = get_or-set_other cells i j cell (record { key = (0, 0, 0); bytes = [] }) apart

pub pushed_here : (cells cells1 : List Cell) (cell : Cell) → cells1 ≡ cells ++ cell ∷ [] → cell_at cells1 (length cells) ≡ cell
pushed_here cells cells1 cell is = ap (λ (cs : List Cell). cell_at cs (length cells)) is ∙ get_or-append_seam cells cell [] (record { key = (0, 0, 0); bytes = [] })

pub pushed_others : (cells cells1 : List Cell) (cell : Cell) → cells1 ≡ cells ++ cell ∷ [] → (j : ℕ) → j < length cells → cell_at cells1 j ≡ cell_at cells j
pushed_others cells cells1 cell is j within = ap (λ (cs : List Cell). cell_at cs j) is ∙ get_or_append_left cells (cell ∷ []) (record { key = (0, 0, 0); bytes = [] }) j within

pub pushed_len : (cells cells1 : List Cell) (cell : Cell) → cells1 ≡ cells ++ cell ∷ [] → length cells1 ≡ length cells + 1
pushed_len cells cells1 cell is = ap length is ∙ length-append cells (cell ∷ [])
