-- The clusters that are named, by which the sectors are counted that a walk wants.
use Rattle.std.proofs.Common.{subst, ◌≡◌, ◌⊎◌, inl, inr, ℕ, zero, suc, ◌+◌, ◌-◌, ◌*◌, ◌%◌, ◌<◌, ◌≤◌, Bool, true, false, Option, Some, None, Result, Ok, refl, sym, ap, ◌∙◌, arith, nat_lt, eq-eqb, ne_eqb}
use Rattle.std.specs.Prelude.{◌==◌, ◌||◌, ◌&&◌, not, if◌then◌else◌}
use Rattle.std.specs.Option.{is_some}
use Rattle.std.proofs.Math.Bool.{or-true}
use Rattle.std.proofs.Math.Nat.{mul-mod_left, mul-le-mul_right}
use Rattle.std.proofs.lemmas.Bool.{cases_lt}
use Rattle.std.proofs.lemmas.Bool.Decides.{nat_tests}
use Rattle.sd_names.specs.declared.fault.LayerFault.{LayerFault}
use Rattle.sd_names.specs.declared.fault.LayerFault.TheVariants.{MixedBits}
use Rattle.image_model.specs.Layer.{Tables, block_at, block_place, block_word, entries, l1_at, l1_entry}
use Rattle.image_model.specs.Soundness.{item, Item, before_mapping, block_item, faulty, l1_item_of, names, nothing, own_fault, placed, NamedBefore}
use Rattle.image_model.proofs.Faults.{named_before}
use Rattle.layer_walk.specs.Checked.{IsOnce}
use Rattle.layer_walk.specs.Counting.{CountsBlock}
use Rattle.layer_walk.specs.Known.{CountsKnown, ThenKnows, WalkKnows}
use Rattle.layer_walk.specs.Left.{Antitone, Fits, HeadFits, ThenFits, block_start, blocks_of, l1_start}
use Rattle.layer_walk.specs.Positions.{block_position, head_end, l1_position}
use Rattle.layer_walk.specs.Steps.{IsStop, is_table, named_from, named_in, one_named}
use Rattle.layer_walk.specs.declared.count.Count.{Count}
use Rattle.layer_walk.specs.declared.count.Count.TheVariants as count
use Rattle.layer_walk.specs.declared.marks.Marks.{Marks}
use Rattle.layer_walk.specs.declared.walk.Then.{Then}
use Rattle.layer_walk.specs.declared.walk.Then.TheVariants as then
use Rattle.layer_walk.specs.declared.walk.Walk.{Walk}
use Rattle.layer_walk.specs.declared.walk.Walk.TheVariants as walk
use Rattle.layer_walk.proofs.L1Walks.{once_below}
use Rattle.layer_walk.proofs.Places.{item_block, item_l1}
use Rattle.layer_walk.proofs.TableWalks.{head_named}

-- ---- how many

module _ (t : Tables) (capacity stop : ℕ) where
  one_more : (n : ℕ) → n < stop → named_from t capacity stop n ≡ one_named t capacity n + named_from t capacity stop (n + 1)
  unfolding named_in
  one_more n lt = let e : stop - n ≡ suc (stop - (n + 1)) = omega (arith, lt) in ap (λ k. named_in t capacity k n) e

  no_more : (n : ℕ) → stop ≤ n → named_from t capacity stop n ≡ 0
  unfolding named_in
  no_more n le = let e : stop - n ≡ zero = omega (arith, le) in ap (λ k. named_in t capacity k n) e

  fewer_next : (n : ℕ) → named_from t capacity stop (n + 1) ≤ named_from t capacity stop n
  fewer_next n = go (cases_lt n stop)
    where
      go : (n < stop) ⊎ (stop ≤ n) → named_from t capacity stop (n + 1) ≤ named_from t capacity stop n
      go (inl lt) = let e = one_more n lt in omega (arith, e)
      go (inr le) = let e = no_more (n + 1) (omega (arith, le)) in omega (arith, e)

  fewer_by : (d a : ℕ) → named_from t capacity stop (a + d) ≤ named_from t capacity stop a
  fewer_by zero a = let e : named_from t capacity stop (a + zero) ≡ named_from t capacity stop a = ap (named_from t capacity stop) (omega arith) in omega (arith, e)
  fewer_by (suc d) a =
      let e : named_from t capacity stop (a + suc d) ≡ named_from t capacity stop (a + d + 1) = ap (named_from t capacity stop) (omega arith) in
      let f = fewer_next (a + d) in
      let g = fewer_by d a in
      omega (arith, e, f, g)

  pub fewer_from : Antitone (named_from t capacity stop)
  fewer_from a b le =
      let e : named_from t capacity stop (a + (b - a)) ≡ named_from t capacity stop b = ap (named_from t capacity stop) (omega (arith, le)) in
      let f = fewer_by (b - a) a in
      omega (arith, e, f)

  -- a table's position that names a cluster is one
  counted_one : (n place : ℕ) → is_table t n ≡ true → names t capacity n ≡ Some place → one_named t capacity n ≡ 1
  counted_one n place table named =
      ap (λ (b : Bool). if b && is_some (names t capacity n) then 1 else 0) table ∙ ap (λ (o : Option ℕ). if is_some o then 1 else 0) named

  less_from : (n place : ℕ) → n < stop → is_table t n ≡ true → names t capacity n ≡ Some place → named_from t capacity stop (n + 1) < named_from t capacity stop n
  less_from n place lt table named = let e = one_more n lt in let f = counted_one n place table named in omega (arith, e, f)

-- ---- positions of tables

early_table : (t : Tables) (n : ℕ) → n < before_mapping t → is_table t n ≡ true
early_table t n lt = ap (λ b. b || (n - before_mapping t) % (1 + entries t) == 0) (below n (before_mapping t) lt)
  where
    below : (a b : ℕ) → a < b → nat_lt a b ≡ true
    below a b lt = grind (arith, nat_tests)

l1_table : (t : Tables) (i : ℕ) → is_table t (l1_position t i) ≡ true
l1_table t i =
    let e : (l1_position t i - before_mapping t) % (1 + entries t) ≡ 0 = ap (λ n. n % (1 + entries t)) (behind (before_mapping t) (i * (1 + entries t))) ∙ mul-mod_left i (1 + entries t) in
    ap (λ b. nat_lt (l1_position t i) (before_mapping t) || b) (eq-eqb _ 0 e) ∙ or-true _
  where
    behind : (a b : ℕ) → a + b - a ≡ b
    behind a b = omega arith

is_named : (o : Option ℕ) → (o ≡ None → ⊥) → (place : ℕ) × (o ≡ Some place)
is_named None never = absurd (never refl)
is_named (Some place) never = (place, refl)

-- the header's clusters
head_all : (t : Tables) (capacity stop n : ℕ) → n ≤ head_end t → n ≤ stop → n + named_from t capacity stop n ≤ named_from t capacity stop 0
head_all t capacity stop zero le within = omega arith
head_all t capacity stop (suc n) le within =
    let before = head_all t capacity stop n (omega (arith, le)) (omega (arith, within)) in
    let name = is_named (names t capacity n) (λ e. head_named t capacity n (omega (arith, le)) e) in
    let less = less_from t capacity stop n name.0 (omega (arith, within)) (early_table t n (early t n (omega (arith, le)))) name.1 in
    let same : named_from t capacity stop (suc n) ≡ named_from t capacity stop (n + 1) = ap (named_from t capacity stop) (omega arith) in
    omega (arith, before, less, same)
  where
    early : (t : Tables) (n : ℕ) → n < head_end t → n < before_mapping t
    early t n lt = let split : t.header.refcount_table_clusters * (1 + entries t) ≡ t.header.refcount_table_clusters + t.header.refcount_table_clusters * entries t = omega arith in omega (arith, lt, split)

-- what an entry of the refcount table is, by whether its reserved bits are fine
abbrev block_shape : Tables → ℕ → Bool → Item
block_shape t k b = if not b then faulty (block_at t k) (MixedBits (block_at t k)) else (if block_place t k == 0 then nothing else placed t (block_at t k) (block_place t k))

-- ---- what is known below a position is below the stop

module _ (t : Tables) (capacity stop : ℕ) (is : IsStop t capacity stop) where
  pub reached : (n p : ℕ) → ((m : ℕ) → m < n → IsOnce t capacity m) → p < n → p < l1_position t t.header.l1_size → p < stop
  reached n p once lt within = go (cases_lt p stop)
    where
      never : (IsOnce t capacity stop → ⊥) ⊎ (l1_position t t.header.l1_size ≤ stop) → stop ≤ p → ⊥
      never (inl wrong) le = wrong (once stop (omega (arith, le, lt)))
      never (inr past) le = omega (arith, past, le, within)

      go : (p < stop) ⊎ (stop ≤ p) → p < stop
      go (inl less) = less
      go (inr le) = absurd (never is.end le)

  -- the position is below the mapping, as those of the header and of the refcount table are
  early : (n p : ℕ) → ((m : ℕ) → m < n → IsOnce t capacity m) → p < n → p < before_mapping t → p < stop
  early n p once lt within = reached n p once lt (omega (arith, within))

  head_within : (n : ℕ) → ((m : ℕ) → m < n → IsOnce t capacity m) → head_end t ≤ n → head_end t ≤ stop
  head_within n once le =
      let split : t.header.refcount_table_clusters * (1 + entries t) ≡ t.header.refcount_table_clusters + t.header.refcount_table_clusters * entries t = omega arith in
      let last = early n (head_end t - 1) once (omega (arith, le)) (omega (arith, split)) in
      omega (arith, last)

  head_fits : (n : ℕ) → ((m : ℕ) → m < n → IsOnce t capacity m) → head_end t ≤ n → HeadFits t.header (named_from t capacity stop)
  head_fits n once le = head_all t capacity stop (head_end t) (omega arith) (head_within n once le)

  -- an entry of the refcount table that names a block
  block_less : (n k place : ℕ) → ((m : ℕ) → m < n → IsOnce t capacity m) → block_position t k < n → k < t.header.refcount_table_clusters * entries t
      → names t capacity (block_position t k) ≡ Some place → named_from t capacity stop (block_start t.header (k + 1)) < named_from t capacity stop (block_start t.header k)
  block_less n k place once lt inside name =
      let split : t.header.refcount_table_clusters * (1 + entries t) ≡ t.header.refcount_table_clusters + t.header.refcount_table_clusters * entries t = omega arith in
      let low : block_position t k < before_mapping t = omega (arith, split, inside) in
      let less = less_from t capacity stop (block_position t k) place (early n (block_position t k) once lt low) (early_table t (block_position t k) low) name in
      let same : named_from t capacity stop (block_start t.header (k + 1)) ≡ named_from t capacity stop (block_position t k + 1) = ap (named_from t capacity stop) (omega arith) in
      omega (arith, less, same)

  then_fits : (m : Marks) (place : ℕ) (x : Then) → ThenKnows t capacity m place x → ThenFits t.header (named_from t capacity stop) x
  then_fits m place (then.Entries k row) known = (
    block_less (block_position t (k + 1)) k place known.checked.once (omega arith) known.inside known.name,
    head_fits (block_position t (k + 1)) known.checked.once (omega arith),
  )
  then_fits m place (then.Head n end fault) known =
      let within : end ≤ stop = ends n end known.0.at known.0.once known.0.low known.0.head known.1 in
      let all = head_all t capacity stop end known.0.head within in
      omega (arith, all)
    where
      ends : (n end at : ℕ) → ((m : ℕ) → m < at → IsOnce t capacity m) → end ≤ at → end ≤ head_end t → n < end → end ≤ stop
      ends n end at once low head lt =
          let split : t.header.refcount_table_clusters * (1 + entries t) ≡ t.header.refcount_table_clusters + t.header.refcount_table_clusters * entries t = omega arith in
          let last = early at (end - 1) once (omega (arith, low, lt)) (omega (arith, head, lt, split)) in
          omega (arith, last, lt)

  -- an L1 entry that names a table
  l1_name : (i table : ℕ) → i < t.header.l1_size → l1_entry t i ≡ Ok (Some table) → names t capacity (l1_position t i) ≡ Some table
  l1_name i table lt named = ap (λ (x : Item). x.name) (item_l1 t capacity i lt) ∙ ap (λ (r : Result (Option ℕ) LayerFault). (l1_item_of t (l1_at t i) r).name) named

  l1_less : (n i table : ℕ) → ((m : ℕ) → m < n → IsOnce t capacity m) → l1_position t i < n → i < t.header.l1_size → l1_entry t i ≡ Ok (Some table)
      → named_from t capacity stop (l1_start t.header (i + 1)) < named_from t capacity stop (l1_start t.header i)
  l1_less n i table once lt inside named =
      let rows : (i + 1) * (1 + entries t) ≤ t.header.l1_size * (1 + entries t) = mul-le-mul_right (1 + entries t) (omega (arith, inside)) in
      let split : (i + 1) * (1 + entries t) ≡ i * (1 + entries t) + (1 + entries t) = one_row i (entries t) in
      let low = reached n (l1_position t i) once lt (omega (arith, rows, split)) in
      let less = less_from t capacity stop (l1_position t i) table low (l1_table t i) (l1_name i table inside named) in
      let later = fewer_from t capacity stop (l1_position t i + 1) (l1_position t (i + 1)) (omega (arith, split)) in
      omega (arith, less, later)
    where
      one_row : (i e : ℕ) → (i + 1) * (1 + e) ≡ i * (1 + e) + (1 + e)
      one_row i e = omega arith

  -- an entry of the refcount table whose block is there
  block_name : (k place : ℕ) → own_fault t.file.size (block_item t k) ≡ None → block_place t k ≡ place → 0 < place → (p : ℕ) × ((block_item t k).name ≡ Some p)
  block_name k place fine is some = go (block_word t k % 512 == 0) refl fine
    where
      there : (block_place t k == 0) ≡ false
      there = ap (λ n. n == 0) is ∙ ne_eqb place 0 (λ e. omega (arith, some, e))

      go : (b : Bool) → (block_word t k % 512 == 0) ≡ b → own_fault t.file.size (block_item t k) ≡ None → (p : ℕ) × ((block_item t k).name ≡ Some p)
      go false e fine = let f : own_fault t.file.size (block_item t k) ≡ Some (MixedBits (block_at t k)) = ap (λ b. own_fault t.file.size (block_shape t k b)) e in absurd cc
      go true e fine = (
        block_place t k,
        ap (λ (b : Bool). (block_shape t k b).name) e ∙ ap (λ (b : Bool). (if b then nothing else placed t (block_at t k) (block_place t k)).name) there,
      )

  counts_fit : (m : Marks) (fault : Option LayerFault) (next : Count) → CountsKnown t capacity m fault (Some next)
      → CountsBlock t.header (blocks_of t.header (named_from t capacity stop)) next × HeadFits t.header (named_from t capacity stop)
  counts_fit m fault (count.Row k) known = (tt, head_fits known.at known.walked.checked.once (behind known.at known.walked.low))
    where
      behind : (at : ℕ) → before_mapping t ≤ at → head_end t ≤ at
      behind at low = let split : t.header.refcount_table_clusters * (1 + entries t) ≡ t.header.refcount_table_clusters + t.header.refcount_table_clusters * entries t = omega arith in omega (arith, low, split)
  counts_fit m fault (count.Block spot) known =
      let split : t.header.refcount_table_clusters * (1 + entries t) ≡ t.header.refcount_table_clusters + t.header.refcount_table_clusters * entries t = omega arith in
      let k : ℕ = spot.entry in
      let inside : k < t.header.refcount_table_clusters * entries t = known.counting.inside in
      let lt : block_position t k < known.at = omega (arith, known.walked.low, split, inside) in
      let once = known.walked.checked.once (block_position t k) lt in
      let is = item_block t capacity k inside in
      let name = block_name k spot.place (ap (own_fault t.file.size) (sym is) ∙ once.fine) known.counting.block known.counting.some in
      let less = block_less known.at k name.0 known.walked.checked.once lt inside (ap (λ (x : Item). x.name) is ∙ name.1) in
      let later = fewer_from t capacity stop (block_start t.header (k + 1)) (l1_start t.header 0) (omega (arith, split, inside)) in
      (λ within. omega (arith, less, later), head_fits known.at known.walked.checked.once (omega (arith, known.walked.low, split)))

  pub walk_fits : (w : Walk) → WalkKnows t capacity w → Fits t.header (named_from t capacity stop) w
  walk_fits (walk.Blocks work k) known = head_fits (block_position t k) known.0.blocks.checked.once (omega arith)
  walk_fits (walk.Ask work ask) known = then_fits work.marks ask.place ask.then known.0
  walk_fits (walk.L1 work i) known =
      head_fits (l1_position t i) (λ m lt. once_below t capacity (l1_position t i) m work.marks known.0.tables.holds lt) (head_before i)
    where
      head_before : (i : ℕ) → head_end t ≤ l1_position t i
      head_before i = let split : t.header.refcount_table_clusters * (1 + entries t) ≡ t.header.refcount_table_clusters + t.header.refcount_table_clusters * entries t = omega arith in omega (arith, split)
  walk_fits (walk.L2 work i table j row) known = (
    l1_less _ i table (λ m lt. once_below t capacity _ m work.marks known.tables.holds lt) (omega arith) known.inside known.entry,
    head_fits _ (λ m lt. once_below t capacity _ m work.marks known.tables.holds lt) (head_before i j),
  )
    where
      head_before : (i j : ℕ) → head_end t ≤ l1_position t i + 1 + j
      head_before i j = let split : t.header.refcount_table_clusters * (1 + entries t) ≡ t.header.refcount_table_clusters + t.header.refcount_table_clusters * entries t = omega arith in omega (arith, split)
  walk_fits (walk.Counts work fault next) known = counts_fit work.marks fault next known

-- ---- which clusters they are

pub names_differ : (t : Tables) (capacity stop a b place : ℕ) → IsStop t capacity stop → a < b → b < stop → names t capacity a ≡ Some place → names t capacity b ≡ Some place → ⊥
names_differ t capacity stop a b place is lt within here there = (is.once b within).once place there (a, lt, here)

-- ---- there is a stop

once_or_not : (t : Tables) (capacity n : ℕ) → IsOnce t capacity n ⊎ (IsOnce t capacity n → ⊥)
once_or_not t capacity n = by_itself (own_fault t.file.size (item t capacity n)) refl
  where
    same_place : (p q : ℕ) (o : Option ℕ) → o ≡ Some p → o ≡ Some q → p ≡ q
    same_place p q o e f = cc

    no_place : (p : ℕ) (o : Option ℕ) → o ≡ None → o ≡ Some p → ⊥
    no_place p o e f = cc

    by_name : own_fault t.file.size (item t capacity n) ≡ None → (o : Option ℕ) → names t capacity n ≡ o → IsOnce t capacity n ⊎ (IsOnce t capacity n → ⊥)
    by_name fine None e = inl (record { fine = fine; once = λ p f before. no_place p (names t capacity n) e f })
    by_name fine (Some place) e = go (named_before t capacity n place)
      where
        go : NamedBefore t capacity n place ⊎ (NamedBefore t capacity n place → ⊥) → IsOnce t capacity n ⊎ (IsOnce t capacity n → ⊥)
        go (inl before) = inr (λ o. o.once place e before)
        go (inr first) = inl (record { fine = fine; once = λ p f before. first (subst (λ x. NamedBefore t capacity n x) (same_place p place (names t capacity n) f e) before) })

    by_itself : (o : Option LayerFault) → own_fault t.file.size (item t capacity n) ≡ o → IsOnce t capacity n ⊎ (IsOnce t capacity n → ⊥)
    by_itself None e = by_name e (names t capacity n) refl
    by_itself (Some fault) e = inr (λ o. let f = o.fine in absurd cc)

abbrev IsFirst : Tables → ℕ → ℕ → Type 0
IsFirst t capacity stop = ((n : ℕ) → n < stop → IsOnce t capacity n) × (IsOnce t capacity stop → ⊥)

first_stop : (t : Tables) (capacity end : ℕ) → ((n : ℕ) → n < end → IsOnce t capacity n) ⊎ ((stop : ℕ) × IsFirst t capacity stop)
first_stop t capacity zero = inl (λ n lt. absurd (omega (arith, lt)))
first_stop t capacity (suc end) = go (first_stop t capacity end) (once_or_not t capacity end)
  where
    more : ((n : ℕ) → n < end → IsOnce t capacity n) → IsOnce t capacity end → (n : ℕ) → n < suc end → (n < end) ⊎ (end ≤ n) → IsOnce t capacity n
    more once here n lt (inl less) = once n less
    more once here n lt (inr le) = let same : end ≡ n = omega (arith, lt, le) in subst (IsOnce t capacity) same here

    go : ((n : ℕ) → n < end → IsOnce t capacity n) ⊎ ((stop : ℕ) × IsFirst t capacity stop) → IsOnce t capacity end ⊎ (IsOnce t capacity end → ⊥)
        → ((n : ℕ) → n < suc end → IsOnce t capacity n) ⊎ ((stop : ℕ) × IsFirst t capacity stop)
    go (inr found) here = inr found
    go (inl once) (inr wrong) = inr (end, (once, wrong))
    go (inl once) (inl here) = inl (λ n lt. more once here n lt (cases_lt n end))

pub some_stop : (t : Tables) (capacity : ℕ) → (stop : ℕ) × IsStop t capacity stop
some_stop t capacity = go (first_stop t capacity (l1_position t t.header.l1_size))
  where
    go : ((n : ℕ) → n < l1_position t t.header.l1_size → IsOnce t capacity n) ⊎ ((stop : ℕ) × IsFirst t capacity stop) → (stop : ℕ) × IsStop t capacity stop
    go (inl once) = (l1_position t t.header.l1_size, record { once = once; end = inr (omega arith) })
    go (inr found) = (found.0, record { once = found.1.0; end = inl found.1.1 })
