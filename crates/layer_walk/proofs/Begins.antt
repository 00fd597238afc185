-- The begin of a walk, where no cluster is named.
use Rattle.std.proofs.Common.{◌≡◌, ◌⊎◌, inl, inr, ℕ, ◌+◌, ◌-◌, ◌*◌, ◌/◌, ◌^◌, ◌<◌, ◌≤◌, Bool, true, false, Option, Some, None, refl, sym, ap, ◌∙◌, subst, arith, nat_lt}
use Rattle.std.specs.Prelude.{◌&&◌, not}
use Rattle.std.proofs.Math.Nat.{mul-le-mul_left, mul-le-mul_right}
use Rattle.std.proofs.lemmas.Bool.Decides.{nat_tests}
use Rattle.std.proofs.lemmas.Nat.{pow_pos}
use Rattle.qcow_format.specs.declared.header.Header.{Header}
use Rattle.image_model.specs.File.{File}
use Rattle.image_model.specs.Layer.{Tables}
use Rattle.layer_walk.specs.Bits.{room_of}
use Rattle.layer_walk.specs.Checked.{Checked}
use Rattle.layer_walk.specs.Counting.{block_parts, table_rows}
use Rattle.layer_walk.specs.Known.{HeadKnown, RowKnown, tables_of}
use Rattle.layer_walk.specs.Left.{Antitone, BelowBy, Fits, HeadFits, ThenFits, asks_left, begin_left, block_start, blocks_of, first_left, l1_start, then_left, walk_left}
use Rattle.layer_walk.specs.Marks.{MarksFile, free_by, used_by}
use Rattle.layer_walk.specs.Positions.{PassesHead, ReachedHead, StopsBy, head_count, head_end, l1_count}
use Rattle.layer_walk.specs.Walking.{StartKnown}
use Rattle.layer_walk.specs.declared.head.Stop.{Stop}
use Rattle.layer_walk.specs.declared.marks.Marks.{Marks}
use Rattle.layer_walk.specs.declared.walk.Ask.{Ask}
use Rattle.layer_walk.specs.declared.walk.Passed.{Passed}
use Rattle.layer_walk.specs.declared.walk.Passed.TheVariants.{Fault, More, Sound}
use Rattle.layer_walk.specs.declared.walk.Then.{Then}
use Rattle.layer_walk.specs.declared.walk.Then.TheVariants as then
use Rattle.layer_walk.specs.declared.walk.Walk.{Walk}
use Rattle.layer_walk.specs.declared.walk.Walk.TheVariants as walk
use Rattle.layer_walk.specs.declared.work.Work.{Work}
use Rattle.layer_walk.proofs.Ends.{small_file}
use Rattle.layer_walk.proofs.Sizes.{parts_of, rounded}
use Rattle.layer_walk.proofs.Spans.{pages}
use Rattle.layer_walk.proofs.TableWalks.{of_naming, to_naming}

-- ---- nothing is named

nothing_named : (t : Tables) (capacity : ℕ) (m : Marks) → StartKnown m → Checked t capacity 0 (used_by m)
nothing_named t capacity m known = record {
  once = λ n lt. absurd (omega (arith, lt));
  aligned = λ n place lt is. absurd (omega (arith, lt));
  marked = λ c e. absurd (go c (nat_lt c (room_of m.free)) refl e);
  unmarked = λ c b. absurd (omega (arith, b.1));
}
  where
    within : (c : ℕ) → nat_lt c (room_of m.free) ≡ true → c < room_of m.free
    within c e = grind (arith, nat_tests)

    never : (b : Bool) → b ≡ true → not b ≡ true → ⊥
    never true e f = cc
    never false e f = cc

    go : (c : ℕ) (b : Bool) → nat_lt c (room_of m.free) ≡ b → (b && not (free_by m c)) ≡ true → ⊥
    go c false e f = cc
    go c true e f = never (free_by m c) (known.free c (within c e)) f

module _ (work : Work) (file : File) (capacity : ℕ) (after : Marks) (fits : MarksFile work.marks (tables_of work file)) (known : StartKnown work.marks) where
  reached : (result : Option Stop) → PassesHead work.header (head_count work.header) work.marks after result → ReachedHead (tables_of work file) capacity (head_end (tables_of work file)) after result
  reached result passes =
      passes.reaches file capacity (omega arith) work.l1_aligned work.table_aligned (small_file work file fits) fits
      (of_naming (tables_of work file) capacity 0 work.marks known.naming (nothing_named (tables_of work file) capacity work.marks known))

  pub begin_stops : (stop : Stop) → PassesHead work.header (head_count work.header) work.marks after (Some stop) → HeadKnown (tables_of work file) capacity 0 stop.at stop.fault
  begin_stops stop passes =
      let t : Tables = tables_of work file in
      let found = reached (Some stop) passes in
      let here = subst (λ o. StopsBy o t capacity stop.at after stop.fault) (passes.keeps.noted ∙ known.naming) found.1 in
      record {
        at = stop.at;
        once = here.checked.once;
        here = here.here;
        low = omega arith;
        head = omega (arith, found.0);
        counted = λ n p lt which is. absurd (never n lt which);
      }
    where
      never : (n : ℕ) → n < stop.at → (n < 0) ⊎ (stop.at ≤ n) → ⊥
      never n lt (inl zero) = omega (arith, zero)
      never n lt (inr past) = omega (arith, lt, past)

  pub begin_passes : PassesHead work.header (head_count work.header) work.marks after None → RowKnown (tables_of work file) capacity after 0
  begin_passes passes =
      let t : Tables = tables_of work file in
      let mode : after.noted ≡ None = passes.keeps.noted ∙ known.naming in
      record {
        blocks = record {
          naming = mode;
          checked = subst (λ n. Checked t capacity n (used_by after)) (omega arith) (to_naming t capacity (head_end t) after mode (reached None passes));
          counted = λ n p low lt is. absurd (omega (arith, low, lt));
        };
        whole = refl;
        within = omega arith;
      }

-- ---- how many sectors

many_parts : (h : Header) → 12 ≤ h.cluster_bits → 8 ≤ block_parts h
many_parts h low = let p = pages h.cluster_bits low in let q = pow_pos (h.cluster_bits - 12) in omega (arith, p, q)

some_parts : (h : Header) → 12 ≤ h.cluster_bits → 1 ≤ block_parts h
some_parts h low = let many = many_parts h low in omega (arith, many)

-- the sectors of the refcount table, and of the L1 table
table_sectors : (h : Header) → 12 ≤ h.cluster_bits → table_rows h ≤ block_parts h * h.refcount_table_clusters
table_sectors h low =
    let parts = parts_of h.cluster_bits low in
    let all : h.refcount_table_clusters * (2 ^ h.cluster_bits / 8) ≡ 64 * (block_parts h * h.refcount_table_clusters) = ap (λ n. h.refcount_table_clusters * n) parts ∙ swap h.refcount_table_clusters (block_parts h) in
    omega (arith, all)
  where
    swap : (r q : ℕ) → r * (64 * q) ≡ 64 * (q * r)
    swap r q = omega arith

l1_sectors : (h : Header) → 12 ≤ h.cluster_bits → (h.l1_size + 63) / 64 ≤ block_parts h * l1_count h
l1_sectors h low =
    let full : 8 * h.l1_size ≤ l1_count h * 2 ^ h.cluster_bits = rounded (8 * h.l1_size) (2 ^ h.cluster_bits) (pow_pos h.cluster_bits) in
    let wide : 2 ^ h.cluster_bits ≡ 512 * block_parts h = omega (arith, pages h.cluster_bits low) in
    let all : l1_count h * 2 ^ h.cluster_bits ≡ 512 * (block_parts h * l1_count h) = ap (λ n. l1_count h * n) wide ∙ swap (l1_count h) (block_parts h) in
    omega (arith, full, all)
  where
    swap : (r q : ℕ) → r * (512 * q) ≡ 512 * (q * r)
    swap r q = omega arith

-- all sectors of the tables that are there, twice
pub all_fewer : (h : Header) (tables : ℕ → ℕ) → Antitone tables → 12 ≤ h.cluster_bits → HeadFits h tables
    → 1 + (table_rows h - 0 / 64) + 2 * blocks_of h tables 0 + first_left h tables ≤ begin_left h tables
all_fewer h tables rule low head =
    let q : ℕ = block_parts h in
    let l : ℕ = l1_count h in
    let r : ℕ = h.refcount_table_clusters in
    let m : ℕ = tables (l1_start h 0) in
    let n : ℕ = tables (block_start h 0) in
    let many = many_parts h low in
    let rows = table_sectors h low in
    let rows' = l1_sectors h low in
    let same : n ≡ tables (head_count h) = ap tables (omega arith) in
    let order : m ≤ n = rule (block_start h 0) (l1_start h 0) (later l r (2 ^ h.cluster_bits / 8)) in
    let all : q * (1 + l + r + n) ≤ q * tables 0 = mul-le-mul_left q (omega (arith, head, same)) in
    let split : q * (1 + l + r + n) ≡ q + q * l + q * r + q * n = omega arith in
    let parts : q * n ≡ q * m + q * (n - m) = ap (λ x. q * x) (omega (arith, order)) ∙ spread q m (n - m) in
    let blocks : 2 * (n - m) ≤ q * (n - m) = mul-le-mul_right (n - m) (omega (arith, many)) in
    omega (arith, many, rows, rows', all, split, parts, blocks)
  where
    later : (l r e : ℕ) → 1 + l + r + 0 ≤ 1 + l + r * (1 + e) + 0 * (1 + e)
    later l r e = let s : r * (1 + e) ≡ r + r * e = omega arith in omega (arith, s)

    spread : (q a b : ℕ) → q * (a + b) ≡ q * a + q * b
    spread q a b = omega arith

-- the counts of what the header names, up to a position
pub stops_fewer : (h : Header) (tables : ℕ → ℕ) (at : ℕ) → 12 ≤ h.cluster_bits → HeadFits h tables → at < head_count h → 1 + 2 * (at - 0) ≤ begin_left h tables
stops_fewer h tables at low head lt =
    let more : 1 * tables 0 ≤ block_parts h * tables 0 = mul-le-mul_right (tables 0) (some_parts h low) in omega (arith, more, head, lt)

-- from a bound that holds where the header's clusters are among those that are counted
pub begins_below : (h : Header) (bound : Header → (ℕ → ℕ) → ℕ) (passed : Passed) → 12 ≤ h.cluster_bits
    → ((tables : ℕ → ℕ) → Antitone tables → HeadFits h tables → bound h tables ≤ begin_left h tables) → BelowBy h bound passed → BelowBy h begin_left passed
begins_below h bound (Sound work) low le below = tt
begins_below h bound (Fault fault) low le below = tt
begins_below h bound (More next) low le below = λ tables rule fits. go next tables rule fits (below tables rule fits)
  where
    by_head : (next : Walk) (tables : ℕ → ℕ) → Antitone tables → HeadFits h tables → walk_left h tables next < bound h tables → walk_left h tables next < begin_left h tables
    by_head next tables rule head lt = let high = le tables rule head in omega (arith, lt, high)

    few : (end n left parts all : ℕ) → end ≤ all → 1 ≤ parts → left ≤ 2 → left + 2 * (end - (n + 1)) < 2 * (parts * all) + 3
    few end n left parts all within some most = let more : 1 * all ≤ parts * all = mul-le-mul_right all some in omega (arith, within, most, more)

    asked : (block : Option ℕ) (n end : ℕ) (tables : ℕ → ℕ) → end ≤ tables 0 → asks_left block + 2 * (end - (n + 1)) < begin_left h tables
    asked None n end tables within = few end n 2 (block_parts h) (tables 0) within (some_parts h low) (omega arith)
    asked (Some b) n end tables within = few end n 1 (block_parts h) (tables 0) within (some_parts h low) (omega arith)

    by_then : (work : Work) (ask : Ask) (x : Then) → ask.then ≡ x → (tables : ℕ → ℕ) → Antitone tables → ThenFits h tables ask.then
        → walk_left h tables (walk.Ask work ask) < bound h tables → walk_left h tables (walk.Ask work ask) < begin_left h tables
    by_then work ask (then.Entries k row) is tables rule fits lt = by_head (walk.Ask work ask) tables rule (subst (λ x. ThenFits h tables x) is fits).1 lt
    by_then work ask (then.Head n end fault) is tables rule fits lt =
        let here = subst (λ x. ThenFits h tables x) is fits in
        subst (λ x. asks_left ask.block + then_left h tables x < begin_left h tables) (sym is) (asked ask.block n end tables here)

    go : (next : Walk) (tables : ℕ → ℕ) → Antitone tables → Fits h tables next → walk_left h tables next < bound h tables → walk_left h tables next < begin_left h tables
    go (walk.Blocks work k) tables rule fits lt = by_head (walk.Blocks work k) tables rule fits lt
    go (walk.Ask work ask) tables rule fits lt = by_then work ask ask.then refl tables rule fits lt
    go (walk.L1 work i) tables rule fits lt = by_head (walk.L1 work i) tables rule fits lt
    go (walk.L2 work i table j row) tables rule fits lt = by_head (walk.L2 work i table j row) tables rule fits.1 lt
    go (walk.Counts work fault count) tables rule fits lt = by_head (walk.Counts work fault count) tables rule fits.1 lt
