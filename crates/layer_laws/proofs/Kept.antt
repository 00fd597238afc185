-- What stays of a sound layer where its file agrees with another outside one cluster.
use Rattle.std.proofs.Common.{◌≡◌, ◌≢◌, ℕ, ◌+◌, ◌-◌, ◌*◌, ◌/◌, ◌%◌, ◌^◌, ◌<◌, Bool, true, false, Some, Ok, refl, sym, ap, ◌∙◌, subst, arith}
use Rattle.std.specs.Prelude.{◌==◌, if◌then◌else◌}
use Rattle.std.proofs.lemmas.Bool.{eqb-false}
use Rattle.std.proofs.lemmas.Nat.{div_below, pow_pos}
use Rattle.std.proofs.Math.Nat.{mod-lt}
use Rattle.qcow_format.specs.declared.header.Header.{Header}
use Rattle.qcow_format.specs.declared.entry.Entry.{Entry}
use Rattle.qcow_format.specs.declared.entry.Entry.TheVariants.{Absent, Zero, Data}
use Rattle.image_model.specs.File.{File}
use Rattle.image_model.specs.Layer.{Tables, block_at, block_place, block_span, block_word, byte_behind, count_of, entries, entry_at, l1_at, l1_clusters, l1_entry, l2_at, own_byte}
use Rattle.image_model.specs.Soundness.{IsClean, Item, item, layer_header, names, own_fault}
use Rattle.layer_laws.specs.Laws.{SameLayer, block_position, entry_position, l1_position, layer}
use Rattle.layer_laws.proofs.Clusters.{Agrees, other_byte, other_half, other_word}
use Rattle.layer_laws.proofs.Items.{block_item_same, block_word_same, entry_same, item_by, l1_entry_same, l2_entry_same, mapping_item_same}
use Rattle.layer_laws.proofs.Numbers.{behind, l1_inside, row_of}
use Rattle.layer_laws.proofs.Sound.{Shape, block_name, data_at, entry_lt, entry_width, l1_cluster_name, sectors, sound_of, table_cluster_name, table_name}

some_same : (a b : ℕ) → a ≡ b → Some a ≡ Some b
some_same a b e = ap (λ (x : ℕ). Some x) e

module _ (h : Header) (f g : File) (capacity p : ℕ) (shape : Shape h) (clean : (n : ℕ) → IsClean (layer h f) capacity n)
    (whole : p % 2 ^ h.cluster_bits ≡ 0) (agrees : Agrees (2 ^ h.cluster_bits) p f g) where
  abbrev T : Tables
  T = layer h f

  abbrev U : Tables
  U = layer h g

  abbrev c : ℕ
  c = 2 ^ h.cluster_bits

  abbrev q : ℕ
  q = 2 ^ (h.cluster_bits - 9)

  -- a position doesn't name the cluster in which the files may differ
  abbrev pub Elsewhere : ℕ → Type 0
  Elsewhere n = names T capacity n ≡ Some p → ⊥

  entry_of : (n place : ℕ) → Elsewhere n → names T capacity n ≡ Some place → place ≡ p → ⊥
  entry_of n place other named same = other (named ∙ some_same place p same)

  width : c ≡ 8 * entries T
  width = entry_width h f capacity shape clean

  whole_sectors : c ≡ 512 * q
  whole_sectors = sectors h f capacity shape clean

  within : (i : ℕ) → i % entries T < c / 8
  within i = entry_lt h f capacity shape clean i

  pub block_word_kept : (k : ℕ) → k < h.refcount_table_clusters * entries T → Elsewhere (1 + l1_clusters T + k / entries T) → g.word (block_at T k / 8) ≡ f.word (block_at T k / 8)
  block_word_kept k lt other =
      let low : k / entries T < h.refcount_table_clusters = div_below k (entries T) h.refcount_table_clusters (some (within k)) lt in
      let place : ℕ = h.refcount_table_offset + k / entries T * c in
      other_word c q p f g whole_sectors whole agrees place (k % entries T) (block_at T k)
      (behind h.refcount_table_offset (k / entries T) c (pow_pos h.cluster_bits) shape.table) (within k)
      (row_of h.refcount_table_offset k (entries T) c width)
      (entry_of (1 + l1_clusters T + k / entries T) place other (table_cluster_name h f capacity shape clean (k / entries T) low))
    where
      some : k % entries T < entries T → 0 < entries T
      some lt = omega (arith, lt)

  pub l1_word_kept : (i : ℕ) → i < h.l1_size → Elsewhere (1 + i / entries T) → g.word (l1_at T i / 8) ≡ f.word (l1_at T i / 8)
  l1_word_kept i lt other =
      let low : i / entries T < l1_clusters T = l1_inside i h.l1_size (entries T) c width (pow_pos h.cluster_bits) lt in
      let place : ℕ = h.l1_table_offset + i / entries T * c in
      other_word c q p f g whole_sectors whole agrees place (i % entries T) (l1_at T i)
      (behind h.l1_table_offset (i / entries T) c (pow_pos h.cluster_bits) shape.l1) (within i)
      (row_of h.l1_table_offset i (entries T) c width)
      (entry_of (1 + i / entries T) place other (l1_cluster_name h f capacity shape clean (i / entries T) low))

  pub l2_word_kept : (i j table : ℕ) → i < h.l1_size → j < entries T → l1_entry T i ≡ Ok (Some table) → Elsewhere (l1_position T i) → g.word (l2_at table j / 8) ≡ f.word (l2_at table j / 8)
  l2_word_kept i j table lt lt' is other =
      let named = table_name h f capacity shape clean i table lt is in
      other_word c q p f g whole_sectors whole agrees table j (l2_at table j) named.1 lt' refl (entry_of (l1_position T i) table other named.0)

  pub half_kept : (k j : ℕ) → block_place T k ≢ 0 → j < block_span T → Elsewhere (block_position T k) → g.half (block_place T k / 2 + j) ≡ f.half (block_place T k / 2 + j)
  half_kept k j some lt other =
      let named = block_name h f capacity shape clean k some in
      other_half c q p f g whole_sectors whole agrees (block_place T k) j (block_place T k / 2 + j) named.1 lt refl (entry_of (block_position T k) (block_place T k) other named.0)

  -- ---- the words of all tables are the same

  pub record SameWords : Type 0 where
    pub blocks : (k : ℕ) → k < h.refcount_table_clusters * entries T → g.word (block_at T k / 8) ≡ f.word (block_at T k / 8)
    pub l1 : (i : ℕ) → i < h.l1_size → g.word (l1_at T i / 8) ≡ f.word (l1_at T i / 8)
    pub l2 : (i j table : ℕ) → i < h.l1_size → j < entries T → l1_entry T i ≡ Ok (Some table) → g.word (l2_at table j / 8) ≡ f.word (l2_at table j / 8)

  span_some : 0 < block_span T
  span_some = half c q whole_sectors (pow_pos h.cluster_bits)
    where
      half : (c q : ℕ) → c ≡ 512 * q → 0 < c → 0 < c / 2
      half c q is pos = omega (arith, is, pos)

  pub span_lt : (x : ℕ) → x % block_span T < block_span T
  span_lt x = mod-lt x span_some

  -- a count of the same block
  pub count_by : (x : ℕ) → block_place U (x / block_span T) ≡ block_place T (x / block_span T)
      → (block_place T (x / block_span T) ≢ 0 → g.half (block_place T (x / block_span T) / 2 + x % block_span T) ≡ f.half (block_place T (x / block_span T) / 2 + x % block_span T))
      → count_of U x ≡ count_of T x
  count_by x place half = ap (λ b. if b == 0 then 0 else g.half (b / 2 + x % block_span T)) place ∙ go (block_place T (x / block_span T) == 0) refl
    where
      go : (b : Bool) → (block_place T (x / block_span T) == 0) ≡ b → (if b then 0 else g.half (block_place T (x / block_span T) / 2 + x % block_span T)) ≡ (if b then 0 else f.half (block_place T (x / block_span T) / 2 + x % block_span T))
      go true e = refl
      go false e = half (eqb-false (block_place T (x / block_span T)) 0 e)

  pub count_by_kept : (x : ℕ) → block_place U (x / block_span T) ≡ block_place T (x / block_span T) → Elsewhere (block_position T (x / block_span T)) → count_of U x ≡ count_of T x
  count_by_kept x place other = count_by x place (λ some. half_kept (x / block_span T) (x % block_span T) some (span_lt x) other)

  -- a byte of a cluster with the same entry
  pub byte_by : (i : ℕ) → entry_at U (i / c) ≡ entry_at T (i / c) → ((place : ℕ) → entry_at T (i / c) ≡ Data place → Elsewhere (entry_position T (i / c))) → own_byte U i ≡ own_byte T i
  unfolding own_byte
  byte_by i entry other = ap (λ e. byte_behind U (i % c) e) entry ∙ go (entry_at T (i / c)) refl
    where
      go : (e : Entry) → entry_at T (i / c) ≡ e → byte_behind U (i % c) e ≡ byte_behind T (i % c) e
      go Absent is = refl
      go (Zero place) is = refl
      go (Data place) is =
          let at = data_at h f capacity shape clean (i / c) place is in
          some_same _ _ (other_byte c q p f g whole_sectors whole agrees place (i % c) at.whole (mod-lt i (pow_pos h.cluster_bits)) (entry_of (entry_position T (i / c)) place (other place is) at.name))

  module _ (same : SameWords) where
    pub word_still : (k : ℕ) → block_word U k ≡ block_word T k
    word_still k = block_word_same h f g capacity k (same.blocks k)

    pub place_still : (k : ℕ) → block_place U k ≡ block_place T k
    place_still k = ap (λ w. w / 512 * 512) (word_still k)

    pub l1_still : (i : ℕ) → i < h.l1_size → l1_entry U i ≡ l1_entry T i
    l1_still i lt = l1_entry_same h f g capacity i (same.l1 i lt)

    pub item_still : (n : ℕ) → item U capacity n ≡ item T capacity n
    item_still n =
        item_by h f g capacity n (λ k lt e. block_item_same h f g capacity k (word_still k)) (λ i r lt e.
        mapping_item_same h f g capacity i r lt (l1_still i) (λ table low is some. l2_entry_same h f g capacity table (r - 1) (same.l2 i (r - 1) table low (omega (arith, lt, some)) is)))

    pub entry_still : (k : ℕ) → entry_at U k ≡ entry_at T k
    entry_still k =
        entry_same h f g capacity k (l1_still (k / entries T)) (λ table low is.
        l2_entry_same h f g capacity table (k % entries T) (same.l2 (k / entries T) (k % entries T) table low (entry_lt h f capacity shape clean k) is))

    -- the counts of a block that may be another are given
    pub count_still : (x : ℕ) → (block_place T (x / block_span T) ≢ 0 → g.half (block_place T (x / block_span T) / 2 + x % block_span T) ≡ f.half (block_place T (x / block_span T) / 2 + x % block_span T))
        → count_of U x ≡ count_of T x
    count_still x half = count_by x (place_still (x / block_span T)) half

    pub count_kept : (x : ℕ) → Elsewhere (block_position T (x / block_span T)) → count_of U x ≡ count_of T x
    count_kept x other = count_by_kept x (place_still (x / block_span T)) other

    pub clean_still : ((m place : ℕ) → names T capacity m ≡ Some place → 0 < count_of U (place / c)) → (n : ℕ) → IsClean U capacity n
    clean_still counted n = record {
      fine = ap (λ size. own_fault size (item U capacity n)) agrees.size ∙ ap (own_fault f.size) (item_still n) ∙ (clean n).fine;
      once = λ place is before. (clean n).once place (sym (name n) ∙ is) (before.0, before.1, sym (name before.0) ∙ before.2);
      counted = λ place is. counted n place (sym (name n) ∙ is);
    }
      where
        name : (n : ℕ) → names U capacity n ≡ names T capacity n
        name n = ap (λ (x : Item). x.name) (item_still n)

    pub same_layer : layer_header g capacity ≡ Ok h → ((m place : ℕ) → names T capacity m ≡ Some place → 0 < count_of U (place / c)) → SameLayer h capacity f g
    same_layer header counted = record {
      header = header;
      sound = sound_of g capacity h header (clean_still counted);
      named = λ m. ap (λ (x : Item). x.name) (item_still m);
      entries = entry_still;
      tables = l1_still;
      blocks = place_still;
    }

    pub counted_still : ((x : ℕ) → count_of U x ≡ count_of T x) → (m place : ℕ) → names T capacity m ≡ Some place → 0 < count_of U (place / c)
    counted_still counts m place named = subst (λ n. 0 < n) (sym (counts (place / c))) ((clean m).counted place named)

    -- ---- the layer's own bytes

    pub byte_kept : (i : ℕ) → ((place : ℕ) → entry_at T (i / c) ≡ Data place → Elsewhere (entry_position T (i / c))) → own_byte U i ≡ own_byte T i
    byte_kept i other = byte_by i (entry_still (i / c)) other
