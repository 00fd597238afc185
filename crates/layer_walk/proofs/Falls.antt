-- Fewer sectors are left.
use Rattle.std.proofs.Common.{◌≡◌, ℕ, ◌+◌, ◌-◌, ◌*◌, ◌/◌, ◌^◌, ◌<◌, ◌≤◌, min, max, arith, ap}
use Rattle.std.proofs.Math.Nat.{div-lt_iff_lt-mul, mul-le-mul_left, mul-le-mul_right}
use Rattle.std.proofs.lemmas.Nat.{pow_pos}
use Rattle.qcow_format.specs.declared.header.Header.{Header}
use Rattle.layer_walk.specs.Counting.{block_parts, table_rows}
use Rattle.layer_walk.specs.Left.{Antitone, BelowBy, blocks_of, block_start, first_left, l1_left, l1_rows, l1_start, rows_behind, rows_from}
use Rattle.layer_walk.specs.Positions.{head_count, l1_count, row_end}
use Rattle.layer_walk.specs.declared.walk.Passed.{Passed}
use Rattle.layer_walk.specs.declared.walk.Passed.TheVariants.{Fault, More, Sound}
use Rattle.layer_walk.proofs.Sizes.{parts_of}
use Rattle.layer_walk.proofs.Spans.{pages}

-- what is below a bound is below a higher one
pub below_more : (h : Header) (bound more : Header → (ℕ → ℕ) → ℕ) (passed : Passed) → ((tables : ℕ → ℕ) → Antitone tables → bound h tables ≤ more h tables)
    → BelowBy h bound passed → BelowBy h more passed
below_more h bound more (More next) le below = λ tables rule fits. let high = le tables rule in let low = below tables rule fits in omega (arith, low, high)
below_more h bound more (Sound x) le below = tt
below_more h bound more (Fault fault) le below = tt

-- ---- the refcount table

few_rows : (size c : ℕ) → 512 ≤ c → (8 * size + (c - 1)) / c ≤ (size + 63) / 64
few_rows size c wide =
    let m : ℕ = (size + 63) / 64 in
    let more : 512 * m ≤ c * m = mul-le-mul_right m wide in
    let split : (m + 1) * c ≡ c * m + c = omega arith in
    let lt : 8 * size + (c - 1) < (m + 1) * c = omega (arith, more, split, wide) in
    let fewer : (8 * size + (c - 1)) / c < m + 1 = (div-lt_iff_lt-mul (omega (arith, wide))).1 lt in
    omega (arith, fewer)

many_rows : (clusters e : ℕ) → 512 ≤ e → 2 * clusters ≤ (clusters * e + 63) / 64
many_rows clusters e wide =
    let more : clusters * 512 ≤ clusters * e = mul-le-mul_left clusters wide in
    omega (arith, more)

-- the counts of what the header names take fewer steps than what comes behind the refcount table
pub asks_fewer : (h : Header) (tables : ℕ → ℕ) → 12 ≤ h.cluster_bits → 1 + 2 * (head_count h - 0) ≤ first_left h tables
asks_fewer h tables low =
    let p = pages h.cluster_bits low in
    let q = pow_pos (h.cluster_bits - 12) in
    let a : l1_count h ≤ (h.l1_size + 63) / 64 = few_rows h.l1_size (2 ^ h.cluster_bits) (omega (arith, p, q)) in
    let b : 2 * h.refcount_table_clusters ≤ table_rows h = many_rows h.refcount_table_clusters (2 ^ h.cluster_bits / 8) (omega (arith, p, q)) in
    omega (arith, a, b)

pub blocks_fewer : (h : Header) (tables : ℕ → ℕ) (k n : ℕ) → Antitone tables → k ≤ n → blocks_of h tables n ≤ blocks_of h tables k
blocks_fewer h tables k n rule le = let e = rule (block_start h k) (block_start h n) (omega (arith, le)) in omega (arith, e)

pub entries_fewer : (h : Header) (tables : ℕ → ℕ) (k : ℕ) → Antitone tables
    → 1 + (table_rows h - (k / 64 * 64 + 64) / 64) + 2 * blocks_of h tables (k / 64 * 64 + 64) + first_left h tables ≤ rows_from h k + 2 * blocks_of h tables k + first_left h tables
entries_fewer h tables k rule =
    let fewer = blocks_fewer h tables k (k / 64 * 64 + 64) rule (omega arith) in
    let row : (k / 64 * 64 + 64) / 64 ≡ k / 64 + 1 = omega arith in
    omega (arith, fewer, row)

-- a block that entry n names, in the row of entry k
pub block_fewer : (h : Header) (tables : ℕ → ℕ) (k n : ℕ) → Antitone tables → k ≤ n → n / 64 ≡ k / 64 → n < h.refcount_table_clusters * (2 ^ h.cluster_bits / 8)
    → tables (block_start h (n + 1)) < tables (block_start h n)
    → 2 + (rows_from h n - 1 + 2 * blocks_of h tables (n + 1) + first_left h tables) < rows_from h k + 2 * blocks_of h tables k + first_left h tables
block_fewer h tables k n rule le same lt named =
    let end = rule (block_start h (n + 1)) (l1_start h 0) (later (l1_count h) h.refcount_table_clusters (2 ^ h.cluster_bits / 8) n lt) in
    let fewer = blocks_fewer h tables k n rule le in
    let rows : rows_from h n ≡ rows_from h k = ap (λ r. max 1 (table_rows h - r)) same in
    omega (arith, end, fewer, rows, named)
  where
    later : (l r e n : ℕ) → n < r * e → 1 + l + r + (n + 1) ≤ 1 + l + r * (1 + e) + 0 * (1 + e)
    later l r e n lt = let s : r * (1 + e) ≡ r + r * e = omega arith in omega (arith, s, lt)

-- ---- the L1 table

starts : (a b : ℕ) (h : Header) → a ≤ b → l1_start h a ≤ l1_start h b
starts a b h le = let e : a * (1 + 2 ^ h.cluster_bits / 8) ≤ b * (1 + 2 ^ h.cluster_bits / 8) = mul-le-mul_right (1 + 2 ^ h.cluster_bits / 8) le in omega (arith, e)

tables_fewer : (h : Header) (tables : ℕ → ℕ) (i k : ℕ) → Antitone tables → i ≤ k → block_parts h * tables (l1_start h k) ≤ block_parts h * tables (l1_start h i)
tables_fewer h tables i k rule le = mul-le-mul_left (block_parts h) (rule (l1_start h i) (l1_start h k) (starts i k h le))

-- behind the row of entry i
pub row_fewer : (h : Header) (tables : ℕ → ℕ) (i end behind : ℕ) → Antitone tables → i < h.l1_size → end ≡ row_end h i
    → 1 + rows_behind h end + block_parts h * tables (l1_start h end) + behind ≤ l1_left h tables i + behind
row_fewer h tables i end behind rule lt is =
    let fewer = tables_fewer h tables i end rule (later h.l1_size lt is) in
    let rows = rows_of h.l1_size is in
    omega (arith, fewer, rows)
  where
    later : (size : ℕ) → i < size → end ≡ min size (i / 64 * 64 + 64) → i ≤ end
    later size lt e = omega (arith, lt, e)

    rows_of : (size : ℕ) → end ≡ min size (i / 64 * 64 + 64) → 1 + ((size + 63) / 64 - (end + 63) / 64) ≤ max 1 ((size + 63) / 64 - i / 64)
    rows_of size e = omega (arith, e)

-- a table that entry k names, in the row of entry i
pub table_fewer : (h : Header) (tables : ℕ → ℕ) (i k behind : ℕ) → Antitone tables → 12 ≤ h.cluster_bits → i ≤ k → k / 64 ≡ i / 64
    → tables (l1_start h (k + 1)) < tables (l1_start h k)
    → max 1 (block_parts h - 0 / 64) + (l1_rows h k - 1) + block_parts h * tables (l1_start h (k + 1)) + behind < l1_left h tables i + behind
table_fewer h tables i k behind rule low le same named =
    let p = pages h.cluster_bits low in
    let q = pow_pos (h.cluster_bits - 12) in
    let some : 1 ≤ block_parts h = omega (arith, p, q) in
    let here : block_parts h * (tables (l1_start h (k + 1)) + 1) ≤ block_parts h * tables (l1_start h k) = mul-le-mul_left (block_parts h) (omega (arith, named)) in
    let split : block_parts h * (tables (l1_start h (k + 1)) + 1) ≡ block_parts h * tables (l1_start h (k + 1)) + block_parts h = omega arith in
    let fewer = tables_fewer h tables i k rule le in
    omega (arith, some, here, split, fewer, same)

-- the next sector of a table
pub sector_fewer : (bits j next rest : ℕ) → 12 ≤ bits → next ≡ j + 64 → next < 2 ^ bits / 8 → max 1 (2 ^ bits / 512 - next / 64) + rest < max 1 (2 ^ bits / 512 - j / 64) + rest
sector_fewer bits j next rest low is lt = let e = parts_of bits low in omega (arith, e, is, lt)
