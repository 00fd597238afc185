-- One entry of a table was looked at, and entries one after the other.
use Rattle.std.proofs.Common.{◌≡◌, ◌⊎◌, inl, inr, ℕ, suc, ◌+◌, ◌*◌, ◌/◌, ◌%◌, ◌^◌, ◌<◌, ◌≤◌, min, List, Option, Some, None, Result, Ok, Err, refl, sym, ap, ◌∙◌, subst, arith, Bool, nat_le}
use Rattle.std.proofs.Math.Nat.{mul-le-mul_right}
use Rattle.std.proofs.lemmas.Bool.{cases_lt}
use Rattle.sd_names.specs.declared.fault.LayerFault.{LayerFault}
use Rattle.qcow_format.specs.declared.header.Header.{Header}
use Rattle.qcow_format.specs.Bytes.{number}
use Rattle.qcow_format.specs.Entry.{entry_in, table_in}
use Rattle.image_model.specs.File.{File}
use Rattle.image_model.specs.Layer.{Tables, cluster_size, count_of, entries, block_at, block_word, l1_at, l1_entry, l2_at}
use Rattle.image_model.specs.Soundness.{Item, item, names, block_item, l1_item_of, l2_item_of, l2_item, before_mapping, own_fault}
use Rattle.layer_walk.specs.Items.{layer_of, NamesCluster}
use Rattle.layer_walk.specs.Marks.{Admits, MarksFile}
use Rattle.layer_walk.specs.Positions.{Counted, HasBlocks, Holds, Reached, ReachedAt, ReachedBlock, ReachedL1, Stops, PassesBlock, PassesBlocks, PassesEntry, PassesEntries, PassesL1, PassesRow, HasRow, row_end, block_position, l1_position, l2_position}
use Rattle.layer_walk.specs.declared.marks.Marks.{Marks}
use Rattle.layer_walk.specs.declared.walk.Block.{Block}
use Rattle.layer_walk.specs.declared.walk.Table.{Table}
use Rattle.layer_walk.proofs.Moves.{admitted_fine, moved, fits_after, keeps_same, keeps_both, same_item}
use Rattle.layer_walk.proofs.Places.{item_block, item_l1, item_l2, item_behind}
use Rattle.layer_walk.proofs.Skip.{skipped}

-- ---- the refcount table

module _ (header : Header) (k at bits : ℕ) (before after : Marks) (x : Item)
    (same : (file : File) (n : ℕ) → block_at (layer_of header file) n ≡ at → block_word (layer_of header file) n ≡ bits → x ≡ block_item (layer_of header file) n)
    (near : header.refcount_table_offset + 8 * k < 2 ^ 64 → header.refcount_table_offset + 8 * k ≡ at)
    (aligned : NamesCluster (2 ^ header.cluster_bits) x) where
  block_is : (file : File) (capacity : ℕ) → k < header.refcount_table_clusters * entries (layer_of header file) → block_at (layer_of header file) k < 2 ^ 64
      → block_word (layer_of header file) k ≡ bits → x ≡ item (layer_of header file) capacity (block_position (layer_of header file) k)
  block_is file capacity lt low word = same file k (near low) word ∙ sym (item_block (layer_of header file) capacity k lt)

  pub block_admitted : Admits before after x None → PassesBlock header k bits before after (Ok x.name)
  block_admitted admits = record {
    keeps = admits.keeps;
    reaches = λ file capacity lt low word fits known.
        let t : Tables = layer_of header file in
        let is = block_is file capacity lt low word in
        let here = moved t capacity (block_position t k) before after x None admits fits (same_item t.file.size x (item t capacity (block_position t k)) is) aligned known in
        (ap (λ (y : Item). y.name) (sym is), subst (λ n. Holds t capacity n after) (omega arith) here);
  }

  pub block_refused : (fault : LayerFault) → Admits before after x (Some fault) → PassesBlock header k bits before after (Err fault)
  block_refused fault admits = record {
    keeps = admits.keeps;
    reaches = λ file capacity lt low word fits known.
        let t : Tables = layer_of header file in
        let is = block_is file capacity lt low word in
        moved t capacity (block_position t k) before after x (Some fault) admits fits (same_item t.file.size x (item t capacity (block_position t k)) is) aligned known;
  }

counted_next : (t : Tables) (capacity n : ℕ) → Counted t capacity n → names t capacity n ≡ None → Counted t capacity (n + 1)
counted_next t capacity n known none m place low lt is = go (cases_lt m n)
  where
    go : (m < n) ⊎ (n ≤ m) → 0 < count_of t (place / cluster_size t)
    go (inl less) = known m place low less is
    go (inr more) = let same : n ≡ m = omega (arith, lt, more) in let e : names t capacity n ≡ Some place = ap (names t capacity) same ∙ is in absurd cc

pub no_blocks : (header : Header) (k : ℕ) (row : List ℕ) (m : Marks) → PassesBlocks header k k row m m (Ok None)
no_blocks header k row m = record { keeps = keeps_same m; inside = λ block e. absurd cc; reaches = λ file capacity room low has fits known counted. (known, counted) }

module _ (header : Header) (k n : ℕ) (row : List ℕ) (a b c : Marks) (above : k ≤ n) (below : n < k / 64 * 64 + 64) (p : PassesBlocks header k n row a b (Ok None)) where
  block_here : (result : Result (Option ℕ) LayerFault) → PassesBlock header n (number 8 (8 * (n % 64)) row) b c result
      → (file : File) (capacity : ℕ) → k / 64 * 64 + 64 ≤ header.refcount_table_clusters * entries (layer_of header file)
      → block_at (layer_of header file) (k / 64 * 64 + 64) ≤ 2 ^ 64 → HasBlocks (layer_of header file) k row → MarksFile a (layer_of header file)
      → Holds (layer_of header file) capacity (block_position (layer_of header file) k) a → Counted (layer_of header file) capacity (block_position (layer_of header file) k)
      → ReachedBlock (layer_of header file) capacity n c result × Counted (layer_of header file) capacity (block_position (layer_of header file) n)
  block_here result q file capacity room low has fits known counted =
      let t : Tables = layer_of header file in
      let before = p.reaches file capacity room low has fits known counted in
      let same : n / 64 ≡ k / 64 = omega (arith, above, below) in
      (q.reaches file capacity (omega (arith, below, room)) (omega (arith, below, low)) (sym (has n same)) (fits_after t a b p.keeps fits) before.0, before.1)

  pub block_next : PassesBlock header n (number 8 (8 * (n % 64)) row) b c (Ok None) → PassesBlocks header k (n + 1) row a c (Ok None)
  block_next q = record {
    keeps = keeps_both a b c p.keeps q.keeps;
    inside = λ block e. absurd cc;
    reaches = λ file capacity room low has fits known counted.
        let t : Tables = layer_of header file in
        let here = block_here (Ok None) q file capacity room low has fits known counted in
        (here.0.1, subst (Counted t capacity) (omega arith) (counted_next t capacity (block_position t n) here.1 here.0.0));
  }

  pub block_found : (end place : ℕ) → PassesBlock header n (number 8 (8 * (n % 64)) row) b c (Ok (Some place))
      → PassesBlocks header k end row a c (Ok (Some (record { index = n; place = place })))
  block_found end place q = record {
    keeps = keeps_both a b c p.keeps q.keeps;
    inside = λ block e.
        let same : record { index = n; place = place } ≡ block = cc in
        subst (λ (x : Block). (k ≤ x.index) × (x.index < k / 64 * 64 + 64)) same (above, below);
    reaches = λ file capacity room low has fits known counted.
        let here = block_here (Ok (Some place)) q file capacity room low has fits known counted in
        (here.0.1, here.1, here.0.0);
  }

  pub block_faulted : (end : ℕ) (fault : LayerFault) → PassesBlock header n (number 8 (8 * (n % 64)) row) b c (Err fault) → PassesBlocks header k end row a c (Err fault)
  block_faulted end fault q = record {
    keeps = keeps_both a b c p.keeps q.keeps;
    inside = λ block e. absurd cc;
    reaches = λ file capacity room low has fits known counted.
        let t : Tables = layer_of header file in
        let here = block_here (Err fault) q file capacity room low has fits known counted in
        (block_position t n, omega arith, here.0, here.1);
  }

-- ---- an L2 table

pub one_entry : (header : Header) (capacity i table j at bits : ℕ) (past : Bool) (before after : Marks) (x : Item) (result : Option LayerFault)
    → Admits before after x result → past ≡ nat_le capacity ((i * (2 ^ header.cluster_bits / 8) + j) * 2 ^ header.cluster_bits)
    → ((file : File) (capacity start : ℕ) → past ≡ nat_le capacity start → x ≡ l2_item_of (layer_of header file) capacity start at (entry_in bits header.version at))
    → (table + 8 * j < 2 ^ 64 → table + 8 * j ≡ at)
    → NamesCluster (2 ^ header.cluster_bits) x → PassesEntry header capacity i table j bits before after result
one_entry header capacity i table j at bits past before after x result admits is_past same near aligned = record {
  keeps = admits.keeps;
  reaches = λ file lt lt' low named word fits known.
      let t : Tables = layer_of header file in
      let start : ℕ = (i * (2 ^ header.cluster_bits / 8) + j) * 2 ^ header.cluster_bits in
      let is : x ≡ item t capacity (l2_position t i j) =
      same file capacity start is_past
      ∙ ap (λ n. l2_item_of t capacity start n (entry_in bits header.version n)) (sym (near low))
      ∙ ap (λ w. l2_item_of t capacity start (l2_at table j) (entry_in w header.version (l2_at table j))) (sym word)
      ∙ ap (l2_item t capacity i j) (sym named)
      ∙ sym (item_l2 t capacity i j lt lt') in
      moved t capacity (l2_position t i j) before after x result admits fits (same_item t.file.size x (item t capacity (l2_position t i j)) is) aligned known;
}

pub no_entries : (header : Header) (capacity i table j : ℕ) (sector : List ℕ) (m : Marks) → PassesEntries header capacity i table j 0 sector m m None
no_entries header capacity i table j sector m = record {
  keeps = keeps_same m;
  reaches = λ file lt room low named has fits known.
      subst (λ n. Holds (layer_of header file) capacity (l2_position (layer_of header file) i n) m) (omega arith) known;
}

-- a walk that stops at a position stops from a lower one on
pub stops_from : (t : Tables) (capacity n n' : ℕ) (m : Marks) (fault : LayerFault) → n ≤ n' → Stops t capacity n' m fault → Stops t capacity n m fault
stops_from t capacity n n' m fault le stop = record { at = stop.at; low = omega (arith, le, stop.low); stops = stop.stops }

reached_at : (t : Tables) (capacity start n : ℕ) (m : Marks) (result : Option LayerFault) → start ≤ n → ReachedAt t capacity n m result → Reached t capacity start (n + 1) m result
reached_at t capacity start n m None le here = subst (λ k. Holds t capacity k m) (omega arith) here
reached_at t capacity start n m (Some fault) le here = record { at = n; low = le; stops = here }

pub next_entries : (header : Header) (capacity i table j m : ℕ) (sector : List ℕ) (a b c : Marks) (result : Option LayerFault) → m < 64
    → PassesEntries header capacity i table j m sector a b None → PassesEntry header capacity i table (j + m) (number 8 (8 * m) sector) b c result
    → PassesEntries header capacity i table j (m + 1) sector a c result
next_entries header capacity i table j m sector a b c result lt p q = record {
  keeps = keeps_both a b c p.keeps q.keeps;
  reaches = λ file few room low named has fits known.
      let t : Tables = layer_of header file in
      let here = p.reaches file few room low named has fits known in
      subst (λ n. Reached t capacity (l2_position t i j) n c result) (omega arith)
      (reached_at t capacity (l2_position t i j) (l2_position t i (j + m)) c result (omega arith)
      (q.reaches file few (omega (arith, room)) (omega (arith, low)) named (sym (has m lt)) (fits_after t a b p.keeps fits) here));
}

pub last_entries : (header : Header) (capacity i table j m : ℕ) (sector : List ℕ) (a c : Marks) (fault : LayerFault)
    → PassesEntries header capacity i table j m sector a c (Some fault) → PassesEntries header capacity i table j 64 sector a c (Some fault)
last_entries header capacity i table j m sector a c fault p = record { keeps = p.keeps; reaches = p.reaches }

-- ---- an L1 entry

-- where nothing stands behind an entry that names no table, the next entry comes
l1_none : (t : Tables) (capacity i : ℕ) (after : Marks) → i < t.header.l1_size → l1_entry t i ≡ Ok None → Holds t capacity (suc (l1_position t i)) after → Holds t capacity (l1_position t (i + 1)) after
l1_none t capacity i after lt e known =
    skipped t capacity (suc (l1_position t i)) (l1_position t (i + 1)) after known (wide (before_mapping t) i (entries t))
    (λ m above below. item_behind t capacity i m lt e above below)
  where
    wide : (before i e : ℕ) → suc (before + i * (1 + e)) ≤ before + (i + 1) * (1 + e)
    wide before i e = omega arith

faulty_entry : (t : Tables) (at : ℕ) (fault : LayerFault) → own_fault t.file.size (l1_item_of t at (Err fault)) ≡ None → ⊥
faulty_entry t at fault e = cc

l1_named : (t : Tables) (capacity i : ℕ) (after : Marks) (r : Result (Option ℕ) LayerFault) → i < t.header.l1_size → l1_entry t i ≡ r
    → own_fault t.file.size (l1_item_of t (l1_at t i) r) ≡ None → Holds t capacity (suc (l1_position t i)) after → ReachedL1 t capacity i after (Ok (l1_item_of t (l1_at t i) r).name)
l1_named t capacity i after (Err fault) lt e fine known = absurd (faulty_entry t (l1_at t i) fault fine)
l1_named t capacity i after (Ok (Some table)) lt e fine known = (e, subst (λ n. Holds t capacity n after) (omega arith) known)
l1_named t capacity i after (Ok None) lt e fine known = l1_none t capacity i after lt e known

module _ (header : Header) (i at bits : ℕ) (before after : Marks) (x : Item)
    (same : (file : File) → x ≡ l1_item_of (layer_of header file) at (table_in bits at))
    (near : header.l1_table_offset + 8 * i < 2 ^ 64 → header.l1_table_offset + 8 * i ≡ at)
    (aligned : NamesCluster (2 ^ header.cluster_bits) x) where
  entry_is : (file : File) → l1_at (layer_of header file) i < 2 ^ 64 → file.word (l1_at (layer_of header file) i / 8) ≡ bits
      → x ≡ l1_item_of (layer_of header file) (l1_at (layer_of header file) i) (l1_entry (layer_of header file) i)
  entry_is file low word =
      let t : Tables = layer_of header file in
      same file ∙ ap (λ n. l1_item_of t n (table_in bits n)) (sym (near low)) ∙ ap (λ w. l1_item_of t (l1_at t i) (table_in w (l1_at t i))) (sym word)

  l1_is : (file : File) (capacity : ℕ) → i < header.l1_size → l1_at (layer_of header file) i < 2 ^ 64 → file.word (l1_at (layer_of header file) i / 8) ≡ bits
      → x ≡ item (layer_of header file) capacity (l1_position (layer_of header file) i)
  l1_is file capacity lt low word = entry_is file low word ∙ sym (item_l1 (layer_of header file) capacity i lt)

  pub l1_refused : (fault : LayerFault) → Admits before after x (Some fault) → PassesL1 header i bits before after (Err fault)
  l1_refused fault admits = record {
    keeps = admits.keeps;
    reaches = λ file capacity lt low word fits known.
        let t : Tables = layer_of header file in
        moved t capacity (l1_position t i) before after x (Some fault) admits fits (same_item t.file.size x (item t capacity (l1_position t i)) (l1_is file capacity lt low word)) aligned known;
  }

  pub l1_admitted : Admits before after x None → PassesL1 header i bits before after (Ok x.name)
  l1_admitted admits = record {
    keeps = admits.keeps;
    reaches = λ file capacity lt low word fits known.
        let t : Tables = layer_of header file in
        let is = same_item t.file.size x (item t capacity (l1_position t i)) (l1_is file capacity lt low word) in
        let here = moved t capacity (l1_position t i) before after x None admits fits is aligned known in
        let fine = ap (own_fault t.file.size) (sym (item_l1 t capacity i lt)) ∙ admitted_fine t capacity (l1_position t i) before after x admits fits is known in
        subst (λ (y : Item). ReachedL1 t capacity i after (Ok y.name)) (sym (entry_is file low word)) (l1_named t capacity i after (l1_entry t i) lt refl fine here);
  }

-- ---- the L1 entries of a sector

pub l1_later : (t : Tables) (i k : ℕ) → i ≤ k → l1_position t i ≤ l1_position t k
l1_later t i k le = let more : i * (1 + entries t) ≤ k * (1 + entries t) = mul-le-mul_right (1 + entries t) le in omega (arith, more)

pub min_below : (k a b : ℕ) → k < min a b → (k < a) × (k < b)
min_below k a b lt = (omega (arith, lt), omega (arith, lt))

pub no_row : (header : Header) (i : ℕ) (row : List ℕ) (m : Marks) → PassesRow header i i row m m (Ok None)
no_row header i row m = record { keeps = keeps_same m; inside = λ table e. absurd cc; reaches = λ file capacity lt low has fits known. known }

module _ (header : Header) (i k : ℕ) (row : List ℕ) (a b c : Marks) (above : i ≤ k) (below : k < row_end header i) (p : PassesRow header i k row a b (Ok None)) where
  here : (result : Result (Option ℕ) LayerFault) → PassesL1 header k (number 8 (8 * (k % 64)) row) b c result
      → (file : File) (capacity : ℕ) → i < header.l1_size → l1_at (layer_of header file) header.l1_size ≤ 2 ^ 64 → HasRow (layer_of header file) i row → MarksFile a (layer_of header file)
      → Holds (layer_of header file) capacity (l1_position (layer_of header file) i) a
      → ReachedL1 (layer_of header file) capacity k c result
  here result q file capacity lt low has fits known =
      let both = min_below k header.l1_size (i / 64 * 64 + 64) below in
      let same : k / 64 ≡ i / 64 = omega (arith, above, both.1) in
      q.reaches file capacity both.0 (omega (arith, low, both.0)) (sym (has k same)) (fits_after (layer_of header file) a b p.keeps fits) (p.reaches file capacity lt low has fits known)

  pub row_next : PassesL1 header k (number 8 (8 * (k % 64)) row) b c (Ok None) → PassesRow header i (k + 1) row a c (Ok None)
  row_next q = record { keeps = keeps_both a b c p.keeps q.keeps; inside = λ table e. absurd cc; reaches = λ file capacity lt low has fits known. here (Ok None) q file capacity lt low has fits known }

  pub row_faulted : (end : ℕ) (fault : LayerFault) → PassesL1 header k (number 8 (8 * (k % 64)) row) b c (Err fault) → PassesRow header i end row a c (Err fault)
  row_faulted end fault q = record { keeps = keeps_both a b c p.keeps q.keeps; inside = λ table e. absurd cc; reaches = λ file capacity lt low has fits known. record { at = l1_position (layer_of header file) k; low = l1_later (layer_of header file) i k above; stops = here (Err fault) q file capacity lt low has fits known } }

  pub row_found : (end place : ℕ) → PassesL1 header k (number 8 (8 * (k % 64)) row) b c (Ok (Some place))
      → PassesRow header i end row a c (Ok (Some (record { index = k; place = place })))
  row_found end place q = record {
    keeps = keeps_both a b c p.keeps q.keeps;
    inside = λ table e.
        let same : record { index = k; place = place } ≡ table = cc in
        subst (λ (x : Table). (i ≤ x.index) × (x.index < row_end header i)) same (above, below);
    reaches = λ file capacity lt low has fits known. here (Ok (Some place)) q file capacity lt low has fits known;
  }

-- the row is over; nothing is said where its first entry isn't there
pub row_over : (header : Header) (i k : ℕ) (row : List ℕ) (a b : Marks) → row_end header i ≤ k → (i ≤ row_end header i → k ≤ row_end header i)
    → PassesRow header i k row a b (Ok None) → PassesRow header i (row_end header i) row a b (Ok None)
row_over header i k row a b high low p = record {
  keeps = p.keeps;
  inside = λ table e. absurd cc;
  reaches = λ file capacity lt fits has marks known.
      subst (λ n. Holds (layer_of header file) capacity (l1_position (layer_of header file) n) b) (same header.l1_size lt high low) (p.reaches file capacity lt fits has marks known);
}
  where
    same : (size : ℕ) → i < size → min size (i / 64 * 64 + 64) ≤ k → (i ≤ min size (i / 64 * 64 + 64) → k ≤ min size (i / 64 * 64 + 64)) → k ≡ min size (i / 64 * 64 + 64)
    same size lt high low = let le : i ≤ min size (i / 64 * 64 + 64) = omega (arith, lt) in let f = low le in omega (arith, high, f)
