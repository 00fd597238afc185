-- The sectors of one cluster change.
use Rattle.std.proofs.Common.{◌≡◌, ◌≢◌, ℕ, ◌+◌, ◌-◌, ◌*◌, ◌/◌, ◌%◌, ◌^◌, ◌<◌, ◌≤◌, List, Some, Ok, sym, ap, ◌∙◌, arith}
use Rattle.std.proofs.lemmas.Nat.{div_below, pow_pos}
use Rattle.qcow_format.specs.declared.header.Header.{Header}
use Rattle.qcow_format.specs.declared.entry.Entry.{Entry}
use Rattle.qcow_format.specs.declared.entry.Entry.TheVariants.{Data, Zero}
use Rattle.image_model.specs.File.{File, file_of}
use Rattle.image_model.specs.Layer.{Tables, block_at, l1_at, byte_behind, entries, entry_at, block_span, count_of, l1_clusters, own_byte}
use Rattle.image_model.specs.Soundness.{IsClean, IsSound, before_mapping, layer_header, names}
use Rattle.layer_laws.specs.Laws.{AreSectors, IsUnnamed, Overwritten, SameContent, SameLayer, SameOutside, block_position, entry_position, l1_position, layer}
use Rattle.layer_laws.proofs.Clusters.{Agrees, agrees}
use Rattle.layer_laws.proofs.Heads.{header_kept}
use Rattle.layer_laws.proofs.Kept.{SameWords, block_word_kept, byte_kept, count_kept, count_still, counted_still, entry_still, l1_word_kept, l2_word_kept, same_layer, half_kept, span_lt}
use Rattle.layer_laws.proofs.Numbers.{cluster_sectors, l1_inside}
use Rattle.layer_laws.proofs.Positions.{block_early, entry_once, l1_not_l2, l2_late}
use Rattle.layer_laws.proofs.Sound.{Shape, block_there, clean_of, entry_lt, entry_width, header_name, shape_of, unique}

-- a layer, and a file that differs in one cluster
module _ (n capacity p : ℕ) (s s' : ℕ → List ℕ) (h : Header) (are : AreSectors n s) (is : layer_header (file_of n s) capacity ≡ Ok h) (sound : IsSound (file_of n s) capacity)
    (whole : p % 2 ^ h.cluster_bits ≡ 0) (same : SameOutside p (2 ^ h.cluster_bits) s s') where
  abbrev pub F : File
  F = file_of n s

  abbrev pub G : File
  G = file_of n s'

  abbrev pub T : Tables
  T = layer h (file_of n s)

  pub shape : Shape h
  shape = shape_of (file_of n s) capacity h is

  pub clean : (n' : ℕ) → IsClean (layer h (file_of n s)) capacity n'
  clean = clean_of (file_of n s) capacity h is sound

  pub agree : Agrees (2 ^ h.cluster_bits) p (file_of n s) (file_of n s')
  agree = agrees n p (2 ^ h.cluster_bits) (2 ^ (h.cluster_bits - 9)) s s' (cluster_sectors h.cluster_bits shape.low) (pow_pos h.cluster_bits) whole same

  pub per_some : 0 < entries T
  per_some = let lt = entry_lt h F capacity shape clean 0 in omega (arith, lt)

  abbrev pub Words : Type 0
  Words = SameWords h F G capacity p shape clean whole agree

  -- the words of the refcount table and of the L1 table, where the cluster is none of theirs
  pub blocks_by : ((m : ℕ) → m < h.refcount_table_clusters → names T capacity (1 + l1_clusters T + m) ≡ Some p → ⊥)
      → (k : ℕ) → k < h.refcount_table_clusters * entries T → G.word (block_at T k / 8) ≡ F.word (block_at T k / 8)
  blocks_by other k lt =
      let low : k / entries T < h.refcount_table_clusters = div_below k (entries T) h.refcount_table_clusters per_some lt in
      block_word_kept h F G capacity p shape clean whole agree k lt (other (k / entries T) low)

  pub l1_by : ((m : ℕ) → m < l1_clusters T → names T capacity (1 + m) ≡ Some p → ⊥) → (i : ℕ) → i < h.l1_size → G.word (l1_at T i / 8) ≡ F.word (l1_at T i / 8)
  l1_by other i lt =
      let low : i / entries T < l1_clusters T = l1_inside i h.l1_size (entries T) (2 ^ h.cluster_bits) (entry_width h F capacity shape clean) (pow_pos h.cluster_bits) lt in
      l1_word_kept h F G capacity p shape clean whole agree i lt (other (i / entries T) low)

  -- the words of all tables, where it is named by no table's position
  pub words_by : ((m : ℕ) → m < 1 + l1_clusters T + h.refcount_table_clusters → names T capacity m ≡ Some p → ⊥) → ((i : ℕ) → names T capacity (l1_position T i) ≡ Some p → ⊥) → Words
  words_by early tables = record {
    blocks = blocks_by (λ m lt. early (1 + l1_clusters T + m) (omega (arith, lt)));
    l1 = l1_by (λ m lt. early (1 + m) (omega (arith, lt)));
    l2 = λ i j table lt lt' e. l2_word_kept h F G capacity p shape clean whole agree i j table lt lt' e (tables i);
  }

  -- nothing names it
  pub frame : IsUnnamed T capacity p → SameContent h capacity F G
  frame unnamed =
      let words : Words = words_by (λ m lt. unnamed m) (λ i. unnamed (l1_position T i)) in
      let counts : (x : ℕ) → count_of (layer h G) x ≡ count_of T x = λ x. count_kept h F G capacity p shape clean whole agree words x (unnamed (block_position T (x / block_span T))) in
      let some : p ≢ 0 = λ e. unnamed 0 (header_name h F capacity shape clean ∙ ap (λ (x : ℕ). Some x) (sym e)) in record {
        same = same_layer h F G capacity p shape clean whole agree words (header_kept n p capacity s s' h are is whole some same) (counted_still h F G capacity p shape clean whole agree words counts);
        counts = counts;
        bytes = λ i. byte_kept h F G capacity p shape clean whole agree words i (λ place e. unnamed (entry_position T (i / 2 ^ h.cluster_bits)));
      }

  -- one position names it
  module _ (here : ℕ) (named : names T capacity here ≡ Some p) where
    pub other_than : (m : ℕ) → (m ≡ here → ⊥) → names T capacity m ≡ Some p → ⊥
    other_than m other e = other (unique h F capacity shape clean m here p e named)

    pub not_first : (here ≡ 0 → ⊥) → p ≢ 0
    not_first late e = late (unique h F capacity shape clean here 0 p named (header_name h F capacity shape clean ∙ ap (λ (x : ℕ). Some x) (sym e)))

  -- the byte of a cluster of data
  pub held : (place i : ℕ) → entry_at (layer h G) (i / 2 ^ h.cluster_bits) ≡ Data place → own_byte (layer h G) i ≡ Some (G.byte (place + i % 2 ^ h.cluster_bits))
  unfolding own_byte
  held place i e = ap (λ (x : Entry). byte_behind (layer h G) (i % 2 ^ h.cluster_bits) x) e

  -- an entry of an L2 table names it
  module _ (k : ℕ) (named : names T capacity (entry_position T k) ≡ Some p) where
    abbrev here : ℕ
    here = entry_position T k

    late : before_mapping T ≤ here
    late = l2_late T (k / entries T) (k % entries T)

    early : (m : ℕ) → m < 1 + l1_clusters T + h.refcount_table_clusters → before_mapping T ≤ m → ⊥
    early m lt le = before (1 + l1_clusters T) h.refcount_table_clusters (entries T) lt le
      where
        before : (a r e : ℕ) → m < a + r → a + r * (1 + e) ≤ m → ⊥
        before a r e lt le = let more : r * (1 + e) ≡ r + r * e = omega arith in omega (arith, lt, le, more)

    words : Words
    words = words_by
        (λ m lt. other_than here named m (λ e. early m lt (omega (arith, e, late))))
        (λ i. other_than here named (l1_position T i) (λ e. l1_not_l2 T i (k / entries T) (k % entries T) (entry_lt h F capacity shape clean k) e))

    counts : (x : ℕ) → count_of (layer h G) x ≡ count_of T x
    counts x = count_still h F G capacity p shape clean whole agree words x (λ some.
        half_kept h F G capacity p shape clean whole agree (x / block_span T) (x % block_span T) some (span_lt h F G capacity p shape clean whole agree x)
        (other_than here named (block_position T (x / block_span T)) (λ e. let low = block_early T (x / block_span T) (block_there h F capacity shape clean (x / block_span T) some) in omega (arith, low, e, late))))

    same_as : SameLayer h capacity F G
    same_as = same_layer h F G capacity p shape clean whole agree words
        (header_kept n p capacity s s' h are is whole (not_first here named (λ e. omega (arith, e, late))) same) (counted_still h F G capacity p shape clean whole agree words counts)

    bytes_elsewhere : (i : ℕ) → ((place : ℕ) → entry_at T (i / 2 ^ h.cluster_bits) ≡ Data place → i / 2 ^ h.cluster_bits ≡ k → ⊥) → own_byte (layer h G) i ≡ own_byte T i
    bytes_elsewhere i other = byte_kept h F G capacity p shape clean whole agree words i (λ place e.
        other_than here named (entry_position T (i / 2 ^ h.cluster_bits)) (λ same. other place e (entry_once T (i / 2 ^ h.cluster_bits) k per_some same)))

    -- as data
    pub overwrite : entry_at T k ≡ Data p → Overwritten h capacity k p F G
    overwrite data_here = record {
      same = same_as;
      counts = counts;
      bytes_kept = λ i other. bytes_elsewhere i (λ place e. other);
      bytes = λ i same. held p i (entry_still h F G capacity p shape clean whole agree words (i / 2 ^ h.cluster_bits) ∙ ap (entry_at T) same ∙ data_here);
    }

    -- kept, while the entry reads as zeros
    pub refill : entry_at T k ≡ Zero p → SameContent h capacity F G
    refill zero_here = record {
      same = same_as;
      counts = counts;
      bytes = λ i. bytes_elsewhere i (λ place e same. differ place (sym e ∙ ap (entry_at T) same ∙ zero_here));
    }
      where
        differ : (place : ℕ) → Data place ≡ Zero p → ⊥
        differ place e = absurd cc
