-- A layer's file in which a part of one cluster is zeros: the rest of the L1 table's last cluster, or of a cluster of data in
-- which the capacity ends.
use Rattle.std.proofs.Common.{◌≡◌, ◌≢◌, ◌⊎◌, inl, inr, ℕ, ◌+◌, ◌-◌, ◌*◌, ◌/◌, ◌%◌, ◌^◌, ◌<◌, ◌≤◌, Bool, true, false, List, length, get_or, slice_index, replicate, Some, Ok, refl, sym, ap, ◌∙◌, arith, nat_lt}
use Rattle.std.specs.Prelude.{if◌then◌else◌}
use Rattle.std.proofs.Math.Nat.{div-add-mod}
use Rattle.std.proofs.lemmas.List.{ext_get_or}
use Rattle.std.proofs.lemmas.Nat.{pow_pos}
use Rattle.qcow_format.specs.declared.header.Header.{Header}
use Rattle.qcow_format.specs.declared.entry.Entry.{Entry}
use Rattle.qcow_format.specs.declared.entry.Entry.TheVariants.{Data}
use Rattle.qcow_format.proofs.Put.{number-same}
use Rattle.image_model.specs.File.{File, file_of, sector_in}
use Rattle.image_model.specs.Layer.{Tables, block_span, byte_behind, count_of, entries, entry_at, l1_clusters, own_byte}
use Rattle.image_model.specs.Soundness.{IsClean, IsSound, layer_header, names}
use Rattle.layer_laws.specs.Laws.{Overwritten, SameLayer, SameOutside, block_position, entry_position, l1_position, layer}
use Rattle.layer_laws.proofs.Clusters.{Agrees, agrees}
use Rattle.layer_laws.proofs.Frames.{overwrite}
use Rattle.layer_laws.proofs.Heads.{header_kept, parent_kept}
use Rattle.layer_laws.proofs.Kept.{SameWords, block_word_kept, byte_kept, count_kept, counted_still, l2_word_kept, same_layer}
use Rattle.layer_laws.proofs.Numbers.{behind, cluster_sectors, whole_sector}
use Rattle.layer_laws.proofs.Positions.{l1_late, l2_late, same_or_not}
use Rattle.layer_laws.proofs.Sound.{PlacedAt, Shape, clean_of, data_at, header_name, l1_cluster_name, shape_of, unique}
use Rattle.layer_sizing.specs.Blanks.{IsBlanked}
use Rattle.layer_sizing.specs.Sized.{IsZeroing}
use Rattle.layer_sizing.proofs.Spans.{ceil_below, next_row}

-- ---- the bytes of a file

module _ (n low high : ℕ) (s s' : ℕ → List ℕ) (long : (k : ℕ) → length (s k) ≡ 512) (long' : (k : ℕ) → length (s' k) ≡ 512) (blanked : IsBlanked low high s s') where
  in_blanked : (k i : ℕ) → i < 512 → (get_or (sector_in n s' k) i 0 ≡ get_or (sector_in n s k) i 0) ⊎ ((low ≤ 512 * k + i) × (512 * k + i < high) × (get_or (sector_in n s' k) i 0 ≡ 0))
  in_blanked k i lt = go (nat_lt k n)
    where
      go : (b : Bool) → (get_or (if b then s' k else replicate 512 0) i 0 ≡ get_or (if b then s k else replicate 512 0) i 0)
          ⊎ ((low ≤ 512 * k + i) × (512 * k + i < high) × (get_or (if b then s' k else replicate 512 0) i 0 ≡ 0))
      go true = blanked k i lt
      go false = inl refl

  pub byte_blanked : (b : ℕ) → ((file_of n s').byte b ≡ (file_of n s).byte b) ⊎ ((low ≤ b) × (b < high) × ((file_of n s').byte b ≡ 0))
  unfolding file_of
  byte_blanked b = go (in_blanked (b / 512) (b % 512) (omega arith))
    where
      go : (get_or (sector_in n s' (b / 512)) (b % 512) 0 ≡ get_or (sector_in n s (b / 512)) (b % 512) 0)
          ⊎ ((low ≤ 512 * (b / 512) + b % 512) × (512 * (b / 512) + b % 512 < high) × (get_or (sector_in n s' (b / 512)) (b % 512) 0 ≡ 0))
          → (slice_index (sector_in n s' (b / 512)) (b % 512) ≡ slice_index (sector_in n s (b / 512)) (b % 512)) ⊎ ((low ≤ b) × (b < high) × (slice_index (sector_in n s' (b / 512)) (b % 512) ≡ 0))
      go (inl e) = inl e
      go (inr z) = inr (omega (arith, z.0), omega (arith, z.1), z.2)

  pub word_before : (w : ℕ) → 8 * w + 8 ≤ low → (file_of n s').word w ≡ (file_of n s).word w
  unfolding file_of
  word_before w le = number-same 8 (w % 64 * 8) (sector_in n s' (w / 64)) (sector_in n s (w / 64)) (λ k ge lt. go k lt (in_blanked (w / 64) k (omega (arith, lt))))
    where
      go : (k : ℕ) → k < w % 64 * 8 + 8
          → (get_or (sector_in n s' (w / 64)) k 0 ≡ get_or (sector_in n s (w / 64)) k 0) ⊎ ((low ≤ 512 * (w / 64) + k) × (512 * (w / 64) + k < high) × (get_or (sector_in n s' (w / 64)) k 0 ≡ 0))
          → get_or (sector_in n s' (w / 64)) k 0 ≡ get_or (sector_in n s (w / 64)) k 0
      go k lt (inl e) = e
      go k lt (inr z) = absurd (omega (arith, z.0, lt, le))

  pub sector_outside : (k : ℕ) → (512 * k + 512 ≤ low) ⊎ (high ≤ 512 * k) → s' k ≡ s k
  sector_outside k out = ext_get_or 0 (s' k) (s k) (long' k ∙ sym (long k)) (λ i lt. go i (omega (arith, lt, long' k)) out (blanked k i (omega (arith, lt, long' k))))
    where
      go : (i : ℕ) → i < 512 → (512 * k + 512 ≤ low) ⊎ (high ≤ 512 * k) → (get_or (s' k) i 0 ≡ get_or (s k) i 0) ⊎ ((low ≤ 512 * k + i) × (512 * k + i < high) × (get_or (s' k) i 0 ≡ 0))
          → get_or (s' k) i 0 ≡ get_or (s k) i 0
      go i lt out (inl e) = e
      go i lt (inl before) (inr z) = absurd (omega (arith, z.0, lt, before))
      go i lt (inr after) (inr z) = absurd (omega (arith, z.1, after))

  pub outside_blanked : (p c : ℕ) → p % 512 ≡ 0 → c % 512 ≡ 0 → p ≤ low → high ≤ p + c → SameOutside p c s s'
  outside_blanked p c even even' ge le k out = sector_outside k (go out)
    where
      go : (k < p / 512) ⊎ ((p + c) / 512 ≤ k) → (512 * k + 512 ≤ low) ⊎ (high ≤ 512 * k)
      go (inl lt) = inl (omega (arith, lt, ge))
      go (inr past) = inr (omega (arith, past, le, even, even'))

-- ---- a layer

module _ (n capacity low high : ℕ) (s s' : ℕ → List ℕ) (h : Header) (long : (k : ℕ) → length (s k) ≡ 512) (long' : (k : ℕ) → length (s' k) ≡ 512)
    (is : layer_header (file_of n s) capacity ≡ Ok h) (sound : IsSound (file_of n s) capacity) (blanked : IsBlanked low high s s') where
  abbrev F : File
  F = file_of n s

  abbrev G : File
  G = file_of n s'

  abbrev T : Tables
  T = layer h (file_of n s)

  abbrev c : ℕ
  c = 2 ^ h.cluster_bits

  shape : Shape h
  shape = shape_of F capacity h is

  clean : (m : ℕ) → IsClean T capacity m
  clean = clean_of F capacity h is sound

  sectors : c ≡ 512 * 2 ^ (h.cluster_bits - 9)
  sectors = cluster_sectors h.cluster_bits shape.low

  even_c : c % 512 ≡ 0
  even_c = by c (2 ^ (h.cluster_bits - 9)) sectors
    where
      by : (c q : ℕ) → c ≡ 512 * q → c % 512 ≡ 0
      by c q is = omega (arith, is)

  -- ---- in the last cluster of the L1 table, behind its entries

  module _ (some : 0 < l1_clusters T) (begins : h.l1_table_offset + 8 * h.l1_size ≤ low) (ends : high ≤ h.l1_table_offset + l1_clusters T * c) where
    abbrev last : ℕ
    last = l1_clusters T - 1

    abbrev p : ℕ
    p = h.l1_table_offset + last * c

    row : last * c + c ≡ l1_clusters T * c
    row = next_row (l1_clusters T) c some

    whole : p % c ≡ 0
    whole = behind h.l1_table_offset last c (pow_pos h.cluster_bits) shape.l1

    within : p ≤ low
    within = let b = ceil_below (8 * h.l1_size) c (pow_pos h.cluster_bits) in omega (arith, b, row, begins)

    named : names T capacity (1 + last) ≡ Some p
    named = l1_cluster_name h F capacity shape clean last (omega (arith, some))

    other : (m : ℕ) → (m ≡ 1 + last → ⊥) → names T capacity m ≡ Some p → ⊥
    other m ne e = ne (unique h F capacity shape clean m (1 + last) p e named)

    not_first : p ≢ 0
    not_first e =
        let first : 1 + last ≡ 0 = unique h F capacity shape clean (1 + last) 0 0 (named ∙ ap (λ (x : ℕ). Some x) e) (header_name h F capacity shape clean) in
        omega (arith, first)

    outside : SameOutside p c s s'
    outside = outside_blanked n low high s s' long long' blanked p c (whole_sector p c (2 ^ (h.cluster_bits - 9)) sectors whole) even_c within (omega (arith, ends, row))

    agree : Agrees c p F G
    agree = agrees n p c (2 ^ (h.cluster_bits - 9)) s s' sectors (pow_pos h.cluster_bits) whole outside

    words : SameWords h F G capacity p shape clean whole agree
    words = record {
      blocks = λ k lt. block_word_kept h F G capacity p shape clean whole agree k lt (other (1 + l1_clusters T + k / entries T) (λ e. omega (arith, e, some)));
      l1 = λ i lt. word_before n low high s s' long long' blanked ((h.l1_table_offset + 8 * i) / 8) (omega (arith, lt, begins));
      l2 = λ i j table lt lt' e. l2_word_kept h F G capacity p shape clean whole agree i j table lt lt' e (other (l1_position T i) (λ e. let late = l1_late T i in omega (arith, e, late, some)));
    }

    counts : (x : ℕ) → count_of (layer h G) x ≡ count_of T x
    counts x = count_kept h F G capacity p shape clean whole agree words x (other (block_position T (x / block_span T)) (λ e. omega (arith, e, some)))

    same_as : SameLayer h capacity F G
    same_as = same_layer h F G capacity p shape clean whole agree words (header_kept n p capacity s s' h (λ k lt. long k) is whole not_first outside) (counted_still h F G capacity p shape clean whole agree words counts)

    bytes : (i : ℕ) → own_byte (layer h G) i ≡ own_byte T i
    bytes i = byte_kept h F G capacity p shape clean whole agree words i (λ place e.
        other (entry_position T (i / c)) (λ e. let late = l2_late T (i / c / entries T) (i / c % entries T) in omega (arith, e, late, some)))

    pub table_zeroing : IsZeroing h capacity F G
    table_zeroing = record {
      header = same_as.header;
      parent = parent_kept n p capacity s s' h (λ k lt. long k) is whole not_first outside;
      sound = same_as.sound;
      named = same_as.named;
      entries = same_as.entries;
      blocks = same_as.blocks;
      counts = counts;
      below = λ i lt. bytes i;
      rest = λ i le. inl (bytes i);
    }

  -- ---- in a cluster of data, behind the capacity

  module _ (place : ℕ) (held : entry_at T (capacity / c) ≡ Data place) (begins : place + capacity % c ≤ low) (ends : high ≤ place + c) where
    abbrev k : ℕ
    k = capacity / c

    at : PlacedAt h F capacity shape clean k place (Data place)
    at = data_at h F capacity shape clean k place held

    outside_data : SameOutside place c s s'
    outside_data = outside_blanked n low high s s' long long' blanked place c (whole_sector place c (2 ^ (h.cluster_bits - 9)) sectors at.whole) even_c (omega (arith, begins)) ends

    over : Overwritten h capacity k place F G
    over = overwrite n capacity place s s' h (λ k lt. long k) is sound at.whole outside_data k at.name held

    not_header : place ≢ 0
    not_header e =
        let first : entry_position T k ≡ 0 = unique h F capacity shape clean (entry_position T k) 0 0 (at.name ∙ ap (λ (x : ℕ). Some x) e) (header_name h F capacity shape clean) in
        let late = l2_late T (k / entries T) (k % entries T) in
        omega (arith, first, late)

    old : (i : ℕ) → i / c ≡ k → own_byte T i ≡ Some (F.byte (place + i % c))
    unfolding own_byte
    old i e = ap (λ (x : Entry). byte_behind T (i % c) x) (ap (entry_at T) e ∙ held)

    below : (i : ℕ) → i < capacity → own_byte (layer h G) i ≡ own_byte T i
    below i lt = go (same_or_not (i / c) k)
      where
        order : (q r r' : ℕ) → q + r < q + r' → r < r'
        order q r r' lt = omega (arith, lt)

        before : i / c ≡ k → i % c < capacity % c
        before e =
            let a = div-add-mod i c in
            let b = div-add-mod capacity c in
            let q : c * (i / c) ≡ c * (capacity / c) = ap (λ x. c * x) e in
            order (c * (capacity / c)) (i % c) (capacity % c) (omega (arith, a, b, q, lt))

        kept : (j : ℕ) → j < capacity % c → (G.byte (place + j) ≡ F.byte (place + j)) ⊎ ((low ≤ place + j) × (place + j < high) × (G.byte (place + j) ≡ 0)) → G.byte (place + j) ≡ F.byte (place + j)
        kept j lt (inl e) = e
        kept j lt (inr z) = absurd (omega (arith, z.0, lt, begins))

        go : (i / c ≡ k) ⊎ (i / c ≢ k) → own_byte (layer h G) i ≡ own_byte T i
        go (inl e) =
            over.bytes i e ∙ ap (λ (x : ℕ). Some x) (kept (i % c) (before e) (byte_blanked n low high s s' long long' blanked (place + i % c))) ∙ sym (old i e)
        go (inr ne) = over.bytes_kept i ne

    rest : (i : ℕ) → capacity ≤ i → (own_byte (layer h G) i ≡ own_byte T i) ⊎ (own_byte (layer h G) i ≡ Some 0)
    rest i le = go (same_or_not (i / c) k)
      where
        by : i / c ≡ k → (G.byte (place + i % c) ≡ F.byte (place + i % c)) ⊎ ((low ≤ place + i % c) × (place + i % c < high) × (G.byte (place + i % c) ≡ 0))
            → (own_byte (layer h G) i ≡ own_byte T i) ⊎ (own_byte (layer h G) i ≡ Some 0)
        by e (inl same) = inl (over.bytes i e ∙ ap (λ (x : ℕ). Some x) same ∙ sym (old i e))
        by e (inr z) = inr (over.bytes i e ∙ ap (λ (x : ℕ). Some x) z.2)

        go : (i / c ≡ k) ⊎ (i / c ≢ k) → (own_byte (layer h G) i ≡ own_byte T i) ⊎ (own_byte (layer h G) i ≡ Some 0)
        go (inl e) = by e (byte_blanked n low high s s' long long' blanked (place + i % c))
        go (inr ne) = inl (over.bytes_kept i ne)

    pub data_zeroing : IsZeroing h capacity F G
    data_zeroing = record {
      header = over.same.header;
      parent = parent_kept n place capacity s s' h (λ k lt. long k) is at.whole not_header outside_data;
      sound = over.same.sound;
      named = over.same.named;
      entries = over.same.entries;
      blocks = over.same.blocks;
      counts = over.counts;
      below = below;
      rest = rest;
    }
