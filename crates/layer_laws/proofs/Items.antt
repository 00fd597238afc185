-- What stands at a position, by the numbers that it reads.
use Rattle.std.proofs.Common.{◌≡◌, ◌≢◌, ◌⊎◌, inl, inr, ℕ, ◌+◌, ◌-◌, ◌*◌, ◌/◌, ◌%◌, ◌^◌, ◌<◌, ◌≤◌, Bool, true, false, Option, Some, None, Result, Ok, Err, refl, sym, ap, ◌∙◌, arith, nat_lt, nat_le}
use Rattle.std.specs.Prelude.{◌==◌, not, if◌then◌else◌}
use Rattle.std.proofs.Math.Nat.{mod-lt}
use Rattle.std.proofs.lemmas.Bool.{cases_lt}
use Rattle.std.proofs.lemmas.Bool.Decides.{nat_tests}
use Rattle.sd_names.specs.declared.fault.LayerFault.{LayerFault}
use Rattle.sd_names.specs.declared.fault.LayerFault.TheVariants.{MixedBits}
use Rattle.qcow_format.specs.declared.header.Header.{Header}
use Rattle.qcow_format.specs.Entry.{entry_in, table_in}
use Rattle.image_model.specs.File.{File}
use Rattle.image_model.specs.Layer.{Tables, block_at, block_word, cluster_size, entries, entry_at, entry_behind, entry_or_absent, l1_at, l1_clusters, l1_entry, l2_at, l2_entry}
use Rattle.image_model.specs.Soundness.{Item, before_mapping, block_item, faulty, item, l1_item_of, l2_item, l2_item_of, mapping_item, nothing}
use Rattle.layer_laws.specs.Laws.{block_position, l1_position, layer}
use Rattle.layer_laws.proofs.Places.{item_block, item_header, item_l1_cluster, item_mapping, item_table_cluster, parts}

-- which part of the positions one is in
pub data Part (t : Tables) (n : ℕ) : Type 0 where
  header : n ≡ 0 → Part t n
  l1_cluster : (k : ℕ) → k < l1_clusters t → n ≡ 1 + k → Part t n
  table_cluster : (k : ℕ) → k < t.header.refcount_table_clusters → n ≡ 1 + l1_clusters t + k → Part t n
  block : (k : ℕ) → k < t.header.refcount_table_clusters * entries t → n ≡ block_position t k → Part t n
  mapping : (i r : ℕ) → r < 1 + entries t → n ≡ l1_position t i + r → Part t n

pub part_of : (t : Tables) (n : ℕ) → Part t n
part_of t n = first (cases_lt n 1)
  where
    last : before_mapping t ≤ n → Part t n
    last le = mapping ((n - before_mapping t) / (1 + entries t)) ((n - before_mapping t) % (1 + entries t)) (mod-lt (n - before_mapping t) (omega arith)) (parts (before_mapping t) n (entries t) le)

    fourth : 1 + l1_clusters t + t.header.refcount_table_clusters ≤ n → (n < before_mapping t) ⊎ (before_mapping t ≤ n) → Part t n
    fourth low (inl lt) =
        let split : t.header.refcount_table_clusters * (1 + entries t) ≡ t.header.refcount_table_clusters + t.header.refcount_table_clusters * entries t = omega arith in
        block (n - (1 + l1_clusters t + t.header.refcount_table_clusters)) (omega (arith, low, lt, split)) (omega (arith, low))
    fourth low (inr le) = last le

    third : 1 + l1_clusters t ≤ n → (n < 1 + l1_clusters t + t.header.refcount_table_clusters) ⊎ (1 + l1_clusters t + t.header.refcount_table_clusters ≤ n) → Part t n
    third low (inl lt) = table_cluster (n - (1 + l1_clusters t)) (omega (arith, low, lt)) (omega (arith, low))
    third low (inr le) = fourth le (cases_lt n (before_mapping t))

    second : 1 ≤ n → (n < 1 + l1_clusters t) ⊎ (1 + l1_clusters t ≤ n) → Part t n
    second low (inl lt) = l1_cluster (n - 1) (omega (arith, low, lt)) (omega (arith, low))
    second low (inr le) = third le (cases_lt n (1 + l1_clusters t + t.header.refcount_table_clusters))

    first : (n < 1) ⊎ (1 ≤ n) → Part t n
    first (inl lt) = header (omega (arith, lt))
    first (inr le) = second le (cases_lt n (1 + l1_clusters t))

-- an entry of the refcount table by its number
abbrev pub block_item_by : Header → ℕ → ℕ → Item
block_item_by h at word =
    if not (word % 512 == 0) then faulty at (MixedBits at)
    else (if word / 512 * 512 == 0 then nothing else record { at = at; wrong = if word / 512 * 512 % 2 ^ h.cluster_bits == 0 then None else Some (MixedBits at); name = Some (word / 512 * 512) })

module _ (h : Header) (f g : File) (capacity : ℕ) where
  abbrev T : Tables
  T = layer h f

  abbrev U : Tables
  U = layer h g

  pub block_word_same : (k : ℕ) → (k < h.refcount_table_clusters * entries T → g.word (block_at T k / 8) ≡ f.word (block_at T k / 8)) → block_word U k ≡ block_word T k
  block_word_same k same = go (nat_lt k (h.refcount_table_clusters * entries T)) refl
    where
      go : (b : Bool) → nat_lt k (h.refcount_table_clusters * entries T) ≡ b → block_word U k ≡ block_word T k
      go true e = ap (λ x. if nat_lt k (h.refcount_table_clusters * entries T) then x else 0) (same (grind (arith, nat_tests)))
      go false e = ap (λ b. if b then g.word (block_at T k / 8) else 0) e ∙ sym (ap (λ b. if b then f.word (block_at T k / 8) else 0) e)

  pub block_item_same : (k : ℕ) → block_word U k ≡ block_word T k → block_item U k ≡ block_item T k
  block_item_same k same = ap (λ w. block_item_by h (block_at T k) w) same

  pub l1_entry_same : (i : ℕ) → g.word (l1_at T i / 8) ≡ f.word (l1_at T i / 8) → l1_entry U i ≡ l1_entry T i
  l1_entry_same i same = ap (λ w. table_in w (l1_at T i)) same

  pub l2_entry_same : (table j : ℕ) → g.word (l2_at table j / 8) ≡ f.word (l2_at table j / 8) → l2_entry U table j ≡ l2_entry T table j
  l2_entry_same table j same = ap (λ w. entry_in w h.version (l2_at table j)) same

  l2_item_same : (i j : ℕ) (r : Result (Option ℕ) LayerFault) → ((table : ℕ) → r ≡ Ok (Some table) → l2_entry U table j ≡ l2_entry T table j) → l2_item U capacity i j r ≡ l2_item T capacity i j r
  l2_item_same i j (Err fault) same = refl
  l2_item_same i j (Ok None) same = refl
  l2_item_same i j (Ok (Some table)) same = ap (λ e. l2_item_of T capacity ((i * entries T + j) * cluster_size T) (l2_at table j) e) (same table refl)

  pub mapping_item_same : (i r : ℕ) → r < 1 + entries T → (i < h.l1_size → l1_entry U i ≡ l1_entry T i)
      → ((table : ℕ) → i < h.l1_size → l1_entry T i ≡ Ok (Some table) → r ≢ 0 → l2_entry U table (r - 1) ≡ l2_entry T table (r - 1))
      → mapping_item U capacity i r ≡ mapping_item T capacity i r
  mapping_item_same i r lt first rest = go (cases_lt i h.l1_size) (cases_lt 0 r)
    where
      go : (i < h.l1_size) ⊎ (h.l1_size ≤ i) → (0 < r) ⊎ (r ≤ 0) → mapping_item U capacity i r ≡ mapping_item T capacity i r
      go (inr le) some = let e : nat_le h.l1_size i ≡ true = grind (arith, nat_tests) in rw e refl
      go (inl lt) (inr none) =
          let e : nat_le h.l1_size i ≡ false = grind (arith, nat_tests) in
          let z : (r == 0) ≡ true = grind (arith, nat_tests) in
          rw e (rw z (ap (λ x. l1_item_of T (l1_at T i) x) (first lt)))
      go (inl lt) (inl some) =
          let e : nat_le h.l1_size i ≡ false = grind (arith, nat_tests) in
          let z : (r == 0) ≡ false = grind (arith, nat_tests) in
          rw e (rw z (
          ap (λ x. l2_item U capacity i (r - 1) x) (first lt)
          ∙ l2_item_same i (r - 1) (l1_entry T i) (λ table is. rest table lt is (omega (arith, some)))
          ))

  -- a position, by what it reads
  pub item_by : (n : ℕ) → ((k : ℕ) → k < h.refcount_table_clusters * entries T → n ≡ block_position T k → block_item U k ≡ block_item T k)
      → ((i r : ℕ) → r < 1 + entries T → n ≡ l1_position T i + r → mapping_item U capacity i r ≡ mapping_item T capacity i r)
      → item U capacity n ≡ item T capacity n
  item_by n blocks mappings = go (part_of T n)
    where
      go : Part T n → item U capacity n ≡ item T capacity n
      go (header e) = ap (item U capacity) e ∙ item_header U capacity ∙ sym (item_header T capacity) ∙ ap (item T capacity) (sym e)
      go (l1_cluster k lt e) = ap (item U capacity) e ∙ item_l1_cluster U capacity k lt ∙ sym (item_l1_cluster T capacity k lt) ∙ ap (item T capacity) (sym e)
      go (table_cluster k lt e) = ap (item U capacity) e ∙ item_table_cluster U capacity k lt ∙ sym (item_table_cluster T capacity k lt) ∙ ap (item T capacity) (sym e)
      go (block k lt e) = ap (item U capacity) e ∙ item_block U capacity k lt ∙ blocks k lt e ∙ sym (item_block T capacity k lt) ∙ ap (item T capacity) (sym e)
      go (mapping i r lt e) = ap (item U capacity) e ∙ item_mapping U capacity i r lt ∙ mappings i r lt e ∙ sym (item_mapping T capacity i r lt) ∙ ap (item T capacity) (sym e)

  -- what the layer says of a cluster of the virtual disk
  pub entry_same : (k : ℕ) → (k / entries T < h.l1_size → l1_entry U (k / entries T) ≡ l1_entry T (k / entries T))
      → ((table : ℕ) → k / entries T < h.l1_size → l1_entry T (k / entries T) ≡ Ok (Some table) → l2_entry U table (k % entries T) ≡ l2_entry T table (k % entries T))
      → entry_at U k ≡ entry_at T k
  unfolding entry_at
  entry_same k first rest = go (cases_lt (k / entries T) h.l1_size)
    where
      behind : (r : Result (Option ℕ) LayerFault) → ((table : ℕ) → r ≡ Ok (Some table) → l2_entry U table (k % entries T) ≡ l2_entry T table (k % entries T))
          → entry_behind U (k % entries T) r ≡ entry_behind T (k % entries T) r
      behind (Err fault) same = refl
      behind (Ok None) same = refl
      behind (Ok (Some table)) same = ap entry_or_absent (same table refl)

      go : (k / entries T < h.l1_size) ⊎ (h.l1_size ≤ k / entries T) → entry_at U k ≡ entry_at T k
      go (inl lt) =
          let e : nat_lt (k / entries T) h.l1_size ≡ true = grind (arith, nat_tests) in
          rw e (ap (λ x. entry_behind U (k % entries T) x) (first lt) ∙ behind (l1_entry T (k / entries T)) (λ table is. rest table lt is))
      go (inr le) = let e : nat_lt (k / entries T) h.l1_size ≡ false = grind (arith, nat_tests) in rw e refl
