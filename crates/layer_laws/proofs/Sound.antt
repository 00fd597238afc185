-- What a sound layer's positions say: each place has one position, and each begins a cluster.
use Rattle.std.proofs.Common.{◌≡◌, ◌≢◌, ◌⊎◌, inl, inr, ℕ, ◌+◌, ◌-◌, ◌*◌, ◌/◌, ◌%◌, ◌^◌, ◌<◌, ◌≤◌, Bool, true, false, Option, Some, None, Result, Ok, Err, refl, sym, ap, ◌∙◌, subst, arith, nat_lt, nat_le, ne_eqb, eqb-true}
use Rattle.std.specs.Prelude.{MatchResult, ◌==◌, not, if◌then◌else◌}
use Rattle.std.proofs.lemmas.Bool.{cases_lt}
use Rattle.std.proofs.lemmas.Bool.Decides.{nat_tests}
use Rattle.std.proofs.Math.Nat.{mod-lt}
use Rattle.std.proofs.lemmas.Nat.{pow_pos}
use Rattle.sd_names.specs.declared.fault.LayerFault.{LayerFault}
use Rattle.sd_names.specs.declared.fault.LayerFault.TheVariants.{MixedBits, Short, Size, Tail}
use Rattle.qcow_format.specs.declared.header.Header.{Header}
use Rattle.qcow_format.specs.declared.entry.Entry.{Entry}
use Rattle.qcow_format.specs.declared.entry.Entry.TheVariants.{Absent, Data, Zero}
use Rattle.qcow_format.specs.Header.{header_of}
use Rattle.qcow_format.proofs.Kept.{cluster_range, read_without_fault, tables_aligned}
use Rattle.image_model.specs.File.{File}
use Rattle.image_model.specs.Layer.{Tables, block_at, block_place, block_word, cluster_size, entries, entry_at, entry_behind, entry_or_absent, l1_at, l1_clusters, l1_entry, l2_at, l2_entry}
use Rattle.image_model.specs.Soundness.{IsClean, IsSound, Item, beyond, block_item, faulty, item, l1_item_of, l2_item, l2_item_of, layer_header, layer_header_of, names, nothing, outside, own_fault, placed}
use Rattle.layer_laws.specs.Laws.{block_position, entry_position, l1_position, l2_position, layer}
use Rattle.layer_laws.proofs.Numbers.{cluster_sectors}
use Rattle.layer_laws.proofs.Places.{item_block, item_header, item_l1, item_l1_cluster, item_l2, item_table_cluster}

-- ---- headers

size_only : (capacity : ℕ) (r : Result Header LayerFault) (h : Header) → layer_header_of capacity r ≡ Ok h → r ≡ Ok h
size_only capacity (Err fault) h e = absurd cc
size_only capacity (Ok x) h e = go (nat_lt x.size capacity) e
  where
    go : (b : Bool) → ◌≡◌ {A = Result Header LayerFault} (if b then Err (Size x.size) else Ok x) (Ok h) → ◌≡◌ {A = Result Header LayerFault} (Ok x) (Ok h)
    go true e = absurd cc
    go false e = e

pub header_read : (f : File) (capacity : ℕ) (h : Header) → layer_header f capacity ≡ Ok h → header_of f.head ≡ Ok h
unfolding layer_header
header_read f capacity h e = go (nat_lt f.size 512) e
  where
    go : (b : Bool) → (if b then Err Short else layer_header_of capacity (header_of f.head)) ≡ Ok h → header_of f.head ≡ Ok h
    go true e = absurd cc
    go false e = size_only capacity (header_of f.head) h e

-- what a layer's header says of its clusters
pub record Shape (h : Header) : Type 0 where
  pub low : 12 ≤ h.cluster_bits
  pub high : h.cluster_bits ≤ 21
  pub l1 : h.l1_table_offset % 2 ^ h.cluster_bits ≡ 0
  pub table : h.refcount_table_offset % 2 ^ h.cluster_bits ≡ 0

pub shape_of : (f : File) (capacity : ℕ) (h : Header) → layer_header f capacity ≡ Ok h → Shape h
shape_of f capacity h e =
    let is = header_read f capacity h e in
    let range = cluster_range h (read_without_fault f.head h is) in
    let tables = tables_aligned f.head h is in
    record { low = range.0; high = range.1; l1 = tables.0; table = tables.1 }

pub clean_of : (f : File) (capacity : ℕ) (h : Header) → layer_header f capacity ≡ Ok h → IsSound f capacity → (n : ℕ) → IsClean (layer h f) capacity n
clean_of f capacity h is sound = subst (λ (r : Result Header LayerFault). MatchResult r (λ h. (n : ℕ) → IsClean (record { header = h; file = f }) capacity n) (λ e. ⊥)) is sound

pub sound_of : (f : File) (capacity : ℕ) (h : Header) → layer_header f capacity ≡ Ok h → ((n : ℕ) → IsClean (layer h f) capacity n) → IsSound f capacity
sound_of f capacity h is clean = subst (λ (r : Result Header LayerFault). MatchResult r (λ h. (n : ℕ) → IsClean (record { header = h; file = f }) capacity n) (λ e. ⊥)) (sym is) clean

-- ---- items

-- an item without a fault of its own has no wrong bits
pub not_wrong : (size : ℕ) (x : Item) → own_fault size x ≡ None → x.wrong ≡ None
not_wrong size x = go x.wrong refl
  where
    go : (wrong : Option LayerFault) → x.wrong ≡ wrong → own_fault size x ≡ None → x.wrong ≡ None
    go None e fine = e
    go (Some fault) e fine =
        let bad : Some fault ≡ None = sym (ap (λ o. elim o as (λ _. Option LayerFault) [ None ↦ outside size x.at x.name | Some fault ↦ Some fault ]) e) ∙ fine in
        absurd cc

whole_by : (place c at : ℕ) → (if place % c == 0 then None else Some (MixedBits at)) ≡ None → place % c ≡ 0
whole_by place c at = go (place % c == 0) refl
  where
    go : (b : Bool) → (place % c == 0) ≡ b → (if b then None else Some (MixedBits at)) ≡ None → place % c ≡ 0
    go true e is = eqb-true (place % c) 0 e
    go false e is = absurd cc

pub beyond_name : (capacity start : ℕ) (x : Item) → (beyond capacity start x).name ≡ x.name
beyond_name capacity start x = by (nat_le capacity start)
  where
    by : (b : Bool) → (if b then record x { wrong = (elim x.wrong [ None ↦ Some (Tail x.at) | Some fault ↦ Some fault ]) } else x).name ≡ x.name
    by true = refl
    by false = refl

abbrev tailed : Item → Option LayerFault → Option LayerFault
tailed x wrong = elim wrong [ None ↦ Some (Tail x.at) | Some fault ↦ Some fault ]

-- an entry that is fine by the capacity is fine by itself, and stands in front of the capacity
pub beyond_fine : (capacity start : ℕ) (x : Item) → (beyond capacity start x).wrong ≡ None → (x.wrong ≡ None) × (start < capacity)
beyond_fine capacity start x = by (nat_le capacity start) refl
  where
    never : (wrong : Option LayerFault) → tailed x wrong ≡ None → ⊥
    never None e = absurd cc
    never (Some fault) e = absurd cc

    by : (b : Bool) → nat_le capacity start ≡ b → (if b then record x { wrong = (elim x.wrong [ None ↦ Some (Tail x.at) | Some fault ↦ Some fault ]) } else x).wrong ≡ None → (x.wrong ≡ None) × (start < capacity)
    by true e is = absurd (never x.wrong is)
    by false e is = (is, grind (arith, nat_tests))

module _ (h : Header) (f : File) (capacity : ℕ) (shape : Shape h) (clean : (n : ℕ) → IsClean (layer h f) capacity n) where
  abbrev T : Tables
  T = layer h f

  abbrev c : ℕ
  c = 2 ^ h.cluster_bits

  pub sectors : c ≡ 512 * 2 ^ (h.cluster_bits - 9)
  sectors = cluster_sectors h.cluster_bits shape.low

  eights : (c q : ℕ) → c ≡ 512 * q → c ≡ 8 * (c / 8)
  eights c q is = omega (arith, is)

  pub entry_width : c ≡ 8 * entries T
  entry_width = eights c (2 ^ (h.cluster_bits - 9)) sectors

  -- each place has one position
  pub unique : (n m p : ℕ) → names T capacity n ≡ Some p → names T capacity m ≡ Some p → n ≡ m
  unique n m p e e' = go (cases_lt n m) (cases_lt m n)
    where
      go : (n < m) ⊎ (m ≤ n) → (m < n) ⊎ (n ≤ m) → n ≡ m
      go (inl lt) rest = absurd ((clean m).once p e' (n, lt, e))
      go (inr le) (inl lt) = absurd ((clean n).once p e (m, lt, e'))
      go (inr le) (inr le') = omega (arith, le, le')

  -- ---- the header's clusters

  pub header_name : names T capacity 0 ≡ Some 0
  header_name = ap (λ (x : Item). x.name) (item_header T capacity)

  pub l1_cluster_name : (k : ℕ) → k < l1_clusters T → names T capacity (1 + k) ≡ Some (h.l1_table_offset + k * c)
  l1_cluster_name k lt = ap (λ (x : Item). x.name) (item_l1_cluster T capacity k lt)

  pub table_cluster_name : (k : ℕ) → k < h.refcount_table_clusters → names T capacity (1 + l1_clusters T + k) ≡ Some (h.refcount_table_offset + k * c)
  table_cluster_name k lt = ap (λ (x : Item). x.name) (item_table_cluster T capacity k lt)

  -- ---- blocks

  abbrev block_shape : ℕ → Bool → Bool → Item
  block_shape k b d = if not b then faulty (block_at T k) (MixedBits (block_at T k)) else (if d then nothing else placed T (block_at T k) (block_place T k))

  pub block_there : (k : ℕ) → block_place T k ≢ 0 → k < h.refcount_table_clusters * entries T
  block_there k some = go (cases_lt k (h.refcount_table_clusters * entries T))
    where
      go : (k < h.refcount_table_clusters * entries T) ⊎ (h.refcount_table_clusters * entries T ≤ k) → k < h.refcount_table_clusters * entries T
      go (inl lt) = lt
      go (inr le) =
          let e : nat_lt k (h.refcount_table_clusters * entries T) ≡ false = grind (arith, nat_tests) in
          absurd (some (ap (λ b. (if b then f.word (block_at T k / 8) else 0) / 512 * 512) e))

  pub block_name : (k : ℕ) → block_place T k ≢ 0 → (names T capacity (block_position T k) ≡ Some (block_place T k)) × (block_place T k % c ≡ 0)
  block_name k some = go (block_word T k % 512 == 0) refl
    where
      fine : own_fault f.size (block_item T k) ≡ None
      fine = ap (own_fault f.size) (sym (item_block T capacity k (block_there k some))) ∙ (clean (block_position T k)).fine

      there : (block_place T k == 0) ≡ false
      there = ne_eqb (block_place T k) 0 some

      go : (b : Bool) → (block_word T k % 512 == 0) ≡ b → (names T capacity (block_position T k) ≡ Some (block_place T k)) × (block_place T k % c ≡ 0)
      go false e = let bad : Some (MixedBits (block_at T k)) ≡ None = sym (ap (λ b. own_fault f.size (block_shape k b (block_place T k == 0))) e) ∙ fine in absurd cc
      go true e =
          let is : block_item T k ≡ placed T (block_at T k) (block_place T k) = ap (λ b. block_shape k b (block_place T k == 0)) e ∙ ap (λ b. block_shape k true b) there in (
            ap (λ (x : Item). x.name) (item_block T capacity k (block_there k some)) ∙ ap (λ (x : Item). x.name) is,
            whole_by (block_place T k) c (block_at T k) (not_wrong f.size (placed T (block_at T k) (block_place T k)) (ap (own_fault f.size) (sym is) ∙ fine)),
          )

  -- ---- L2 tables

  pub table_name : (i table : ℕ) → i < h.l1_size → l1_entry T i ≡ Ok (Some table) → (names T capacity (l1_position T i) ≡ Some table) × (table % c ≡ 0)
  table_name i table lt is =
      let e : item T capacity (l1_position T i) ≡ placed T (l1_at T i) table = item_l1 T capacity i lt ∙ ap (λ r. l1_item_of T (l1_at T i) r) is in (
        ap (λ (x : Item). x.name) e,
        whole_by table c (l1_at T i) (not_wrong f.size (placed T (l1_at T i) table) (ap (own_fault f.size) (sym e) ∙ (clean (l1_position T i)).fine)),
      )

  -- ---- clusters of data

  pub entry_lt : (k : ℕ) → k % entries T < entries T
  entry_lt k = mod-lt k (pos c (2 ^ (h.cluster_bits - 9)) sectors (pow_pos h.cluster_bits))
    where
      pos : (c q : ℕ) → c ≡ 512 * q → 0 < c → 0 < c / 8
      pos c q is some = omega (arith, is, some)

  -- an entry with a place stands in a table, and its position names the place
  pub record PlacedAt (k place : ℕ) (entry : Entry) : Type 0 where
    pub low : k / entries T < h.l1_size
    pub table : ℕ
    pub l1 : l1_entry T (k / entries T) ≡ Ok (Some table)
    pub l2 : l2_entry T table (k % entries T) ≡ Ok entry
    pub name : names T capacity (entry_position T k) ≡ Some place
    pub whole : place % c ≡ 0

  placed_at : (k place : ℕ) (entry : Entry) → ((start at : ℕ) → l2_item_of T capacity start at (Ok entry) ≡ beyond capacity start (placed T at place)) → entry ≢ Absent
      → entry_at T k ≡ entry → PlacedAt k place entry
  unfolding entry_at
  placed_at k place entry names_it there is = go (cases_lt (k / entries T) h.l1_size)
    where
      i : ℕ
      i = k / entries T

      j : ℕ
      j = k % entries T

      named : (table : ℕ) → i < h.l1_size → l1_entry T i ≡ Ok (Some table) → l2_entry T table j ≡ Ok entry → PlacedAt k place entry
      named table lt l1 l2 =
          let start : ℕ = (i * entries T + j) * cluster_size T in
          let e : item T capacity (l2_position T i j) ≡ beyond capacity start (placed T (l2_at table j) place) =
          item_l2 T capacity i j lt (entry_lt k) ∙ ap (λ r. l2_item T capacity i j r) l1 ∙ ap (λ r. l2_item_of T capacity start (l2_at table j) r) l2 ∙ names_it start (l2_at table j) in
          let fine = not_wrong f.size (beyond capacity start (placed T (l2_at table j) place)) (ap (own_fault f.size) (sym e) ∙ (clean (l2_position T i j)).fine) in record {
            low = lt;
            table = table;
            l1 = l1;
            l2 = l2;
            name = ap (λ (x : Item). x.name) e ∙ beyond_name capacity start (placed T (l2_at table j) place);
            whole = whole_by place c (l2_at table j) (beyond_fine capacity start (placed T (l2_at table j) place) fine).0;
          }

      second : (table : ℕ) (r : Result Entry LayerFault) → l2_entry T table j ≡ r → i < h.l1_size → l1_entry T i ≡ Ok (Some table) → entry_or_absent r ≡ entry → PlacedAt k place entry
      second table (Ok found) l2 lt l1 e = named table lt l1 (l2 ∙ ap (λ (x : Entry). Ok x) e)
      second table (Err fault) l2 lt l1 e = absurd (there (sym e))

      first : (r : Result (Option ℕ) LayerFault) → l1_entry T i ≡ r → i < h.l1_size → entry_behind T j r ≡ entry → PlacedAt k place entry
      first (Ok (Some table)) l1 lt e = second table (l2_entry T table j) refl lt l1 e
      first (Ok None) l1 lt e = absurd (there (sym e))
      first (Err fault) l1 lt e = absurd (there (sym e))

      go : (i < h.l1_size) ⊎ (h.l1_size ≤ i) → PlacedAt k place entry
      go (inr le) =
          let e : nat_lt i h.l1_size ≡ false = grind (arith, nat_tests) in
          let bad : Absent ≡ entry = sym (ap (λ b. if b then entry_behind T j (l1_entry T i) else Absent) e) ∙ is in
          absurd (there (sym bad))
      go (inl lt) =
          let e : nat_lt i h.l1_size ≡ true = grind (arith, nat_tests) in
          first (l1_entry T i) refl lt (sym (ap (λ b. if b then entry_behind T j (l1_entry T i) else Absent) e) ∙ is)

  pub data_at : (k place : ℕ) → entry_at T k ≡ Data place → PlacedAt k place (Data place)
  data_at k place is = placed_at k place (Data place) (λ start at. refl) (λ e. absurd cc) is

  -- one that reads as zeros, and for which a cluster is kept
  pub zero_at : (k place : ℕ) → place ≢ 0 → entry_at T k ≡ Zero place → PlacedAt k place (Zero place)
  zero_at k place some is =
      placed_at k place (Zero place)
      (λ start at. ap (λ (b : Bool). beyond capacity start (if b then record { at = at; wrong = None; name = None } else placed T at place)) (ne_eqb place 0 some))
      (λ e. absurd cc)
      is
