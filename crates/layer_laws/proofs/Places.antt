-- What stands at the position of each entry.
use Rattle.std.proofs.Common.{Ok, None, ◌≡◌, ◌≢◌, ℕ, ◌+◌, ◌-◌, ◌*◌, ◌/◌, ◌%◌, ◌<◌, ◌≤◌, true, false, refl, ap, ◌∙◌, arith, ne_eqb, nat_lt, nat_le}
use Rattle.std.specs.Prelude.{◌==◌, if◌then◌else◌}
use Rattle.std.proofs.lemmas.Bool.Decides.{nat_tests}
use Rattle.std.proofs.Math.Nat.{div-add-mod, mod-lt, mul_comm}
use Rattle.std.proofs.lemmas.Nat.{div-mul-add, mod-mul-add, le-div}
use Rattle.image_model.specs.Layer.{Tables, cluster_size, entries, l1_clusters, l1_at, l1_entry}
use Rattle.image_model.specs.Soundness.{Item, nothing, named_by, item, block_item, mapping_item, before_mapping, l1_item_of, l2_item}
use Rattle.layer_laws.specs.Laws.{block_position, l1_position, l2_position}

abbrev pick : ℕ → ℕ → ℕ → ℕ → Item → Item → Item → Item → Item → Item
pick n a b c v w x y z = if n == 0 then v else if nat_lt n a then w else if nat_lt n b then x else if nat_lt n c then y else z

pick_first : (n a b c : ℕ) (v w x y z : Item) → n ≢ 0 → n < a → pick n a b c v w x y z ≡ w
pick_first n a b c v w x y z some lt =
    let e : (n == 0) ≡ false = ne_eqb n 0 some in
    let f : nat_lt n a ≡ true = grind (arith, nat_tests) in
    rw e (rw f refl)

pick_second : (n a b c : ℕ) (v w x y z : Item) → n ≢ 0 → a ≤ n → n < b → pick n a b c v w x y z ≡ x
pick_second n a b c v w x y z some le lt =
    let e : (n == 0) ≡ false = ne_eqb n 0 some in
    let f : nat_lt n a ≡ false = grind (arith, nat_tests) in
    let g : nat_lt n b ≡ true = grind (arith, nat_tests) in
    rw e (rw f (rw g refl))

pick_third : (n a b c : ℕ) (v w x y z : Item) → n ≢ 0 → a ≤ n → b ≤ n → n < c → pick n a b c v w x y z ≡ y
pick_third n a b c v w x y z some le le' lt =
    let e : (n == 0) ≡ false = ne_eqb n 0 some in
    let f : nat_lt n a ≡ false = grind (arith, nat_tests) in
    let g : nat_lt n b ≡ false = grind (arith, nat_tests) in
    let h : nat_lt n c ≡ true = grind (arith, nat_tests) in
    rw e (rw f (rw g (rw h refl)))

pick_last : (n a b c : ℕ) (v w x y z : Item) → n ≢ 0 → a ≤ n → b ≤ n → c ≤ n → pick n a b c v w x y z ≡ z
pick_last n a b c v w x y z some le le' le'' =
    let e : (n == 0) ≡ false = ne_eqb n 0 some in
    let f : nat_lt n a ≡ false = grind (arith, nat_tests) in
    let g : nat_lt n b ≡ false = grind (arith, nat_tests) in
    let h : nat_lt n c ≡ false = grind (arith, nat_tests) in
    rw e (rw f (rw g (rw h refl)))

abbrev picked : Tables → ℕ → ℕ → Item
picked t capacity n =
    pick n (1 + l1_clusters t) (1 + l1_clusters t + t.header.refcount_table_clusters) (before_mapping t)
    (named_by 0 0)
    (named_by 40 (t.header.l1_table_offset + (n - 1) * cluster_size t))
    (named_by 48 (t.header.refcount_table_offset + (n - 1 - l1_clusters t) * cluster_size t))
    (block_item t (n - 1 - l1_clusters t - t.header.refcount_table_clusters))
    (mapping_item t capacity ((n - before_mapping t) / (1 + entries t)) ((n - before_mapping t) % (1 + entries t)))

item_picked : (t : Tables) (capacity n : ℕ) → item t capacity n ≡ picked t capacity n
unfolding item
item_picked t capacity n = refl

pub item_header : (t : Tables) (capacity : ℕ) → item t capacity 0 ≡ named_by 0 0
item_header t capacity = item_picked t capacity 0

-- the cluster with index k of the L1 table
pub item_l1_cluster : (t : Tables) (capacity k : ℕ) → k < l1_clusters t → item t capacity (1 + k) ≡ named_by 40 (t.header.l1_table_offset + k * cluster_size t)
item_l1_cluster t capacity k lt =
    item_picked t capacity (1 + k)
    ∙ pick_first (1 + k) (1 + l1_clusters t) _ _ _ _ _ _ _ (omega arith) (omega arith)
    ∙ ap (λ x. named_by 40 (t.header.l1_table_offset + x * cluster_size t)) (omega arith)

-- the cluster with index k of the refcount table
pub item_table_cluster : (t : Tables) (capacity k : ℕ) → k < t.header.refcount_table_clusters
    → item t capacity (1 + l1_clusters t + k) ≡ named_by 48 (t.header.refcount_table_offset + k * cluster_size t)
item_table_cluster t capacity k lt =
    item_picked t capacity (1 + l1_clusters t + k)
    ∙ pick_second (1 + l1_clusters t + k) (1 + l1_clusters t) (1 + l1_clusters t + t.header.refcount_table_clusters) _ _ _ _ _ _ (omega arith) (omega arith) (omega arith)
    ∙ ap (λ x. named_by 48 (t.header.refcount_table_offset + x * cluster_size t)) (omega arith)

ahead : (r e : ℕ) → r * (1 + e) ≡ r + r * e
ahead r e = omega arith

pub item_block : (t : Tables) (capacity k : ℕ) → k < t.header.refcount_table_clusters * entries t → item t capacity (block_position t k) ≡ block_item t k
item_block t capacity k lt =
    let e = ahead t.header.refcount_table_clusters (entries t) in
    item_picked t capacity (block_position t k)
    ∙ pick_third (block_position t k) (1 + l1_clusters t) (1 + l1_clusters t + t.header.refcount_table_clusters) (before_mapping t) _ _ _ _ _ (omega arith) (omega arith) (omega arith) (omega arith)
    ∙ ap (block_item t) (omega arith)

quotient : (i e r : ℕ) → r < 1 + e → (i * (1 + e) + r) / (1 + e) ≡ i
quotient i e r lt = div-mul-add i (1 + e) r lt

remainder : (i e r : ℕ) → r < 1 + e → (i * (1 + e) + r) % (1 + e) ≡ r
remainder i e r lt = mod-mul-add i (1 + e) r lt

pub item_mapping : (t : Tables) (capacity i r : ℕ) → r < 1 + entries t → item t capacity (l1_position t i + r) ≡ mapping_item t capacity i r
item_mapping t capacity i r lt =
    let n = l1_position t i + r in
    let off : n - before_mapping t ≡ i * (1 + entries t) + r = omega arith in
    item_picked t capacity n
    ∙ pick_last n (1 + l1_clusters t) (1 + l1_clusters t + t.header.refcount_table_clusters) (before_mapping t) _ _ _ _ _ (omega arith) (omega arith) (omega arith) (omega arith)
    ∙ ap (λ x. mapping_item t capacity (x / (1 + entries t)) (x % (1 + entries t))) off
    ∙ ap (λ x. mapping_item t capacity x ((i * (1 + entries t) + r) % (1 + entries t))) (quotient i (entries t) r lt)
    ∙ ap (mapping_item t capacity i) (remainder i (entries t) r lt)

le_false : (a b : ℕ) → b < a → nat_le a b ≡ false
le_false a b lt = grind (arith, nat_tests)

le_true : (a b : ℕ) → a ≤ b → nat_le a b ≡ true
le_true a b le = grind (arith, nat_tests)

mapped_none : (t : Tables) (capacity i r : ℕ) → nat_le t.header.l1_size i ≡ true → mapping_item t capacity i r ≡ nothing
mapped_none t capacity i r e = rw e refl

mapped_first : (t : Tables) (capacity i : ℕ) → nat_le t.header.l1_size i ≡ false → mapping_item t capacity i 0 ≡ l1_item_of t (l1_at t i) (l1_entry t i)
mapped_first t capacity i e = rw e refl

mapped_next : (t : Tables) (capacity i r : ℕ) → nat_le t.header.l1_size i ≡ false → r ≢ 0 → mapping_item t capacity i r ≡ l2_item t capacity i (r - 1) (l1_entry t i)
mapped_next t capacity i r e some = let f : (r == 0) ≡ false = ne_eqb r 0 some in rw e (rw f refl)

-- an entry of the L2 table behind L1 entry i
pub mapped_behind : (t : Tables) (capacity i r : ℕ) → i < t.header.l1_size → r ≢ 0 → mapping_item t capacity i r ≡ l2_item t capacity i (r - 1) (l1_entry t i)
mapped_behind t capacity i r lt some = mapped_next t capacity i r (le_false t.header.l1_size i lt) some

pub parts : (before n e : ℕ) → before ≤ n → n ≡ before + (n - before) / (1 + e) * (1 + e) + (n - before) % (1 + e)
parts before n e le = let f = div-add-mod (n - before) (1 + e) in let g = mul_comm ((n - before) / (1 + e)) (1 + e) in omega arith

quotient_past : (before n e size : ℕ) → before + size * (1 + e) ≤ n → size ≤ (n - before) / (1 + e)
quotient_past before n e size le = le-div size (n - before) (1 + e) (omega arith) (omega arith)

pub item_l1 : (t : Tables) (capacity i : ℕ) → i < t.header.l1_size → item t capacity (l1_position t i) ≡ l1_item_of t (l1_at t i) (l1_entry t i)
item_l1 t capacity i lt =
    let e : nat_le t.header.l1_size i ≡ false = le_false t.header.l1_size i lt in
    ap (item t capacity) (omega arith) ∙ item_mapping t capacity i 0 (omega arith) ∙ mapped_first t capacity i e

pub item_l2 : (t : Tables) (capacity i j : ℕ) → i < t.header.l1_size → j < entries t → item t capacity (l2_position t i j) ≡ l2_item t capacity i j (l1_entry t i)
item_l2 t capacity i j lt lt' =
    let e : nat_le t.header.l1_size i ≡ false = le_false t.header.l1_size i lt in
    let one : l2_position t i j ≡ l1_position t i + (1 + j) = omega arith in
    ap (item t capacity) one ∙ item_mapping t capacity i (1 + j) (omega arith) ∙ mapped_next t capacity i (1 + j) e (omega arith) ∙ ap (λ x. l2_item t capacity i x (l1_entry t i)) (omega arith)

pub item_past : (t : Tables) (capacity n : ℕ) → l1_position t t.header.l1_size ≤ n → item t capacity n ≡ nothing
item_past t capacity n le =
    let split : n ≡ l1_position t ((n - before_mapping t) / (1 + entries t)) + (n - before_mapping t) % (1 + entries t) = parts (before_mapping t) n (entries t) (omega arith) in
    let big : t.header.l1_size ≤ (n - before_mapping t) / (1 + entries t) = quotient_past (before_mapping t) n (entries t) t.header.l1_size le in
    ap (item t capacity) split
    ∙ item_mapping t capacity ((n - before_mapping t) / (1 + entries t)) ((n - before_mapping t) % (1 + entries t)) (mod-lt (n - before_mapping t) (omega arith))
    ∙ mapped_none t capacity ((n - before_mapping t) / (1 + entries t)) ((n - before_mapping t) % (1 + entries t)) (le_true _ _ big)

-- where an L1 entry names no table, nothing stands behind it
pub item_behind : (t : Tables) (capacity i m : ℕ) → i < t.header.l1_size → l1_entry t i ≡ Ok None
    → l1_position t i < m → m < l1_position t (i + 1) → item t capacity m ≡ nothing
item_behind t capacity i m lt none above below =
    let e : nat_le t.header.l1_size i ≡ false = le_false t.header.l1_size i lt in
    let width : (i + 1) * (1 + entries t) ≡ i * (1 + entries t) + (1 + entries t) = one_row i (entries t) in
    let r : ℕ = m - l1_position t i in
    ap (item t capacity) (omega arith)
    ∙ item_mapping t capacity i r (omega arith)
    ∙ mapped_next t capacity i r e (omega arith)
    ∙ ap (l2_item t capacity i (r - 1)) none
  where
    one_row : (i e : ℕ) → (i + 1) * (1 + e) ≡ i * (1 + e) + (1 + e)
    one_row i e = omega arith
