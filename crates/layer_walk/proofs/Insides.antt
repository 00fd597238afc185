-- A walk that stays inside its tables goes by the count that has each position.
use Rattle.std.proofs.Common.{◌≡◌, ℕ, ◌+◌, ◌-◌, ◌*◌, ◌/◌, ◌^◌, ◌<◌, ◌≤◌, arith}
use Rattle.std.proofs.Math.Nat.{mul-le-mul_right}
use Rattle.qcow_format.specs.declared.header.Header.{Header}
use Rattle.layer_walk.specs.Counting.{CountsBlock}
use Rattle.layer_walk.specs.Left.{Antitone, Fits, HeadFits, IsInside, ThenFits, ThenInside, block_start, blocks_of, l1_start, positions_from}
use Rattle.layer_walk.specs.declared.count.Count.{Count}
use Rattle.layer_walk.specs.declared.count.Count.TheVariants as count
use Rattle.layer_walk.specs.declared.walk.Then.{Then}
use Rattle.layer_walk.specs.declared.walk.Then.TheVariants as then
use Rattle.layer_walk.specs.declared.walk.Walk.{Walk}
use Rattle.layer_walk.specs.declared.walk.Walk.TheVariants as walk

pub fewer_positions : (h : Header) → Antitone (positions_from h)
fewer_positions h a b le = omega (arith, le)

-- the entries of the refcount table come before the L1 entries
entries_before : (h : Header) → block_start h (h.refcount_table_clusters * (2 ^ h.cluster_bits / 8)) ≡ l1_start h 0
entries_before h = whole ((8 * h.l1_size + (2 ^ h.cluster_bits - 1)) / 2 ^ h.cluster_bits) h.refcount_table_clusters (2 ^ h.cluster_bits / 8)
  where
    whole : (l r e : ℕ) → 1 + l + r + r * e ≡ 1 + l + r * (1 + e) + 0 * (1 + e)
    whole l r e = omega arith

l1_rise : (h : Header) (i j : ℕ) → i ≤ j → l1_start h i ≤ l1_start h j
l1_rise h i j le = let e : i * (1 + 2 ^ h.cluster_bits / 8) ≤ j * (1 + 2 ^ h.cluster_bits / 8) = mul-le-mul_right (1 + 2 ^ h.cluster_bits / 8) le in omega (arith, e)

head_fits : (h : Header) → HeadFits h (positions_from h)
head_fits h = let e = entries_before h in let f = l1_rise h 0 h.l1_size (omega arith) in omega (arith, e, f)

-- an entry of the refcount table
entry_fits : (h : Header) (k : ℕ) → k < h.refcount_table_clusters * (2 ^ h.cluster_bits / 8) → positions_from h (block_start h (k + 1)) < positions_from h (block_start h k)
entry_fits h k lt = let e = entries_before h in let f = l1_rise h 0 h.l1_size (omega arith) in omega (arith, e, f, lt)

blocks_fit : (h : Header) (k : ℕ) → k < h.refcount_table_clusters * (2 ^ h.cluster_bits / 8) → blocks_of h (positions_from h) (k + 1) < blocks_of h (positions_from h) k
blocks_fit h k lt = let e = entries_before h in let f = l1_rise h 0 h.l1_size (omega arith) in omega (arith, e, f, lt)

-- an L1 entry
row_fits : (h : Header) (i : ℕ) → i < h.l1_size → positions_from h (l1_start h (i + 1)) < positions_from h (l1_start h i)
row_fits h i lt =
    let e = l1_rise h (i + 1) h.l1_size (omega (arith, lt)) in
    let width : (i + 1) * (1 + 2 ^ h.cluster_bits / 8) ≡ i * (1 + 2 ^ h.cluster_bits / 8) + (1 + 2 ^ h.cluster_bits / 8) = one_more i (2 ^ h.cluster_bits / 8) in
    omega (arith, e, width)
  where
    one_more : (i e : ℕ) → (i + 1) * (1 + e) ≡ i * (1 + e) + (1 + e)
    one_more i e = omega arith

then_fits : (h : Header) (next : Then) → ThenInside h next → ThenFits h (positions_from h) next
then_fits h (then.Entries k row) is = (entry_fits h k is, head_fits h)
then_fits h (then.Head n end fault) is = let e = head_fits h in omega (arith, e, is)

count_fits : (h : Header) (next : Count) → CountsBlock h (blocks_of h (positions_from h)) next
count_fits h (count.Row k) = tt
count_fits h (count.Block spot) = λ within. blocks_fit h spot.entry within

pub inside_fits : (h : Header) (w : Walk) → IsInside h w → Fits h (positions_from h) w
inside_fits h (walk.Blocks work k) is = head_fits h
inside_fits h (walk.Ask work ask) is = then_fits h ask.then is
inside_fits h (walk.L1 work i) is = head_fits h
inside_fits h (walk.L2 work i table j row) is = (row_fits h i is, head_fits h)
inside_fits h (walk.Counts work fault next) is = (count_fits h next, head_fits h)
