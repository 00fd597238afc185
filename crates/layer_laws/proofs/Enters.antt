-- The entry of a cluster of the virtual disk becomes data.
use Rattle.std.proofs.Common.{◌≡◌, ◌≢◌, ◌⊎◌, inl, inr, ℕ, ◌+◌, ◌-◌, ◌*◌, ◌/◌, ◌%◌, ◌^◌, ◌<◌, ◌≤◌, true, List, Option, Some, None, Result, Ok, refl, sym, ap, ◌∙◌, subst, arith, nat_lt}
use Rattle.std.proofs.Math.Nat.{div-add-mod, mod-lt, mul_comm}
use Rattle.std.proofs.lemmas.Nat.{pow_pos}
use Rattle.std.proofs.lemmas.Bool.Decides.{nat_tests}
use Rattle.sd_names.specs.declared.fault.LayerFault.{LayerFault}
use Rattle.qcow_format.specs.declared.header.Header.{Header}
use Rattle.qcow_format.specs.declared.entry.Entry.TheVariants.{Data}
use Rattle.image_model.specs.File.{File, file_of}
use Rattle.image_model.specs.Layer.{Tables, block_span, block_word, count_of, entries, entry_at, entry_behind, entry_or_absent, l1_clusters, l1_entry, l2_at, l2_entry}
use Rattle.image_model.specs.Soundness.{IsClean, IsSound, Item, before_mapping, item, l2_item, l2_item_of, layer_header, names, own_fault, placed}
use Rattle.layer_laws.specs.Laws.{AreSectors, Entered, IsNamedOnlyAt, OnlyWord, SameOutside, block_position, entry_position, l1_position, layer}
use Rattle.layer_laws.proofs.Capacities.{beyond_inside}
use Rattle.layer_laws.proofs.Clusters.{Agrees, other_byte}
use Rattle.layer_laws.proofs.Frames as frames
use Rattle.layer_laws.proofs.Heads.{header_kept}
use Rattle.layer_laws.proofs.Items.{block_item_same, block_word_same, entry_same, item_by, l1_entry_same, l2_entry_same, mapping_item_same}
use Rattle.layer_laws.proofs.Kept.{byte_by, count_by, half_kept, l2_word_kept, span_lt}
use Rattle.layer_laws.proofs.Numbers.{cluster_sectors}
use Rattle.layer_laws.proofs.Places.{item_l2}
use Rattle.layer_laws.proofs.Positions.{block_early, l1_cluster_early, l1_late, l1_not_l2, l1_once, same_or_not, same_parts, table_cluster_early}
use Rattle.layer_laws.proofs.Recounts.{other_word_kept, word_outside}
use Rattle.layer_laws.proofs.Renamed.{clean_with, placed_fine}
use Rattle.layer_laws.proofs.Sound.{Shape, block_there, clean_of, entry_lt, shape_of, sound_of, table_name}

same_table : (a b : ℕ) (r : Result (Option ℕ) LayerFault) → r ≡ Ok (Some a) → r ≡ Ok (Some b) → a ≡ b
same_table a b r e f = cc

module _ (n capacity k table place : ℕ) (s s' : ℕ → List ℕ) (h : Header) (are : AreSectors n s) (is : layer_header (file_of n s) capacity ≡ Ok h) (sound : IsSound (file_of n s) capacity)
    (low : k / entries (layer h (file_of n s)) < h.l1_size) (l1 : l1_entry (layer h (file_of n s)) (k / entries (layer h (file_of n s))) ≡ Ok (Some table))
    (inside : k * 2 ^ h.cluster_bits < capacity) (only : OnlyWord (l2_at table (k % entries (layer h (file_of n s))) / 8) s s')
    (new : l2_entry (layer h (file_of n s')) table (k % entries (layer h (file_of n s))) ≡ Ok (Data place))
    (begins : place % 2 ^ h.cluster_bits ≡ 0) (fits : place < 512 * n) (some : 0 < count_of (layer h (file_of n s)) (place / 2 ^ h.cluster_bits))
    (free : IsNamedOnlyAt (layer h (file_of n s)) capacity (entry_position (layer h (file_of n s)) k) place) where
  abbrev F : File
  F = file_of n s

  abbrev G : File
  G = file_of n s'

  abbrev T : Tables
  T = layer h (file_of n s)

  abbrev U : Tables
  U = layer h (file_of n s')

  abbrev c : ℕ
  c = 2 ^ h.cluster_bits

  abbrev i : ℕ
  i = k / entries T

  abbrev j : ℕ
  j = k % entries T

  j_lt : j < entries T
  j_lt = entry_lt h F capacity (shape_of F capacity h is) (clean_of F capacity h is sound) k

  named : (names T capacity (l1_position T i) ≡ Some table) × (table % c ≡ 0)
  named = table_name h F capacity (shape_of F capacity h is) (clean_of F capacity h is sound) i table low l1

  outside : SameOutside table c s s'
  outside = word_outside table c (2 ^ (h.cluster_bits - 9)) j (l2_at table j / 8) s s' (cluster_sectors h.cluster_bits (shape_of F capacity h is).low) named.1 j_lt refl only

  abbrev shape : Shape h
  shape = frames.shape n capacity table s s' h are is sound named.1 outside

  abbrev clean : (m : ℕ) → IsClean T capacity m
  clean = frames.clean n capacity table s s' h are is sound named.1 outside

  abbrev agree : Agrees c table F G
  agree = frames.agree n capacity table s s' h are is sound named.1 outside

  not_here : (m : ℕ) → (m ≡ l1_position T i → ⊥) → names T capacity m ≡ Some table → ⊥
  not_here = frames.other_than n capacity table s s' h are is sound named.1 outside (l1_position T i) named.0

  late : before_mapping T ≤ l1_position T i
  late = l1_late T i

  block_still : (b : ℕ) → block_word U b ≡ block_word T b
  block_still b = block_word_same h F G capacity b (frames.blocks_by n capacity table s s' h are is sound named.1 outside (λ m lt. not_here (1 + l1_clusters T + m) (λ e. omega (arith, table_cluster_early T m lt, e, late))) b)

  l1_still : (m : ℕ) → m < h.l1_size → l1_entry U m ≡ l1_entry T m
  l1_still m lt = l1_entry_same h F G capacity m (frames.l1_by n capacity table s s' h are is sound named.1 outside (λ m lt. not_here (1 + m) (λ e. omega (arith, l1_cluster_early T m lt, e, late))) m lt)

  l2_other : (i' j' table' : ℕ) → i' < h.l1_size → j' < entries T → l1_entry T i' ≡ Ok (Some table') → (i' ≡ i → j' ≡ j → ⊥) → l2_entry U table' j' ≡ l2_entry T table' j'
  l2_other i' j' table' lt lt' e other = go (same_or_not i' i)
    where
      apart : table' ≡ table → j' ≢ j → l2_at table' j' / 8 ≢ l2_at table j / 8
      apart same ne e = equal table' table j' j same e ne
        where
          equal : (a b x y : ℕ) → a ≡ b → (a + 8 * x) / 8 ≡ (b + 8 * y) / 8 → x ≢ y → ⊥
          equal a b x y same e ne = ne (omega (arith, same, e))

      go : (i' ≡ i) ⊎ (i' ≢ i) → l2_entry U table' j' ≡ l2_entry T table' j'
      go (inl same) =
          let tables : table' ≡ table = same_table table' table (l1_entry T i) (sym (ap (l1_entry T) same) ∙ e) l1 in
          l2_entry_same h F G capacity table' j' (other_word_kept n (l2_at table' j' / 8) (l2_at table j / 8) s s' only (apart tables (other same)))
      go (inr ne) = l2_entry_same h F G capacity table' j' (l2_word_kept h F G capacity table shape clean named.1 agree i' j' table' lt lt' e (not_here (l1_position T i') (λ same. ne (l1_once T i' i same))))

  abbrev here : ℕ
  here = entry_position T k

  others : (m : ℕ) → m ≢ here → item U capacity m ≡ item T capacity m
  others m ne = item_by h F G capacity m (λ b lt e. block_item_same h F G capacity b (block_still b)) (λ i' r lt e.
      mapping_item_same h F G capacity i' r lt (l1_still i') (λ table' low' is some.
      l2_other i' (r - 1) table' low' (omega (arith, lt, some)) is (λ a b. ne (e ∙ at i' r (before_mapping T) a b some))))
    where
      at : (i' r b : ℕ) → i' ≡ i → r - 1 ≡ j → r ≢ 0 → b + i' * (1 + entries T) + r ≡ b + i * (1 + entries T) + 1 + j
      at i' r b same e some = let f : i' * (1 + entries T) ≡ i * (1 + entries T) = ap (λ x. x * (1 + entries T)) same in go (i' * (1 + entries T)) (i * (1 + entries T)) j f e
        where
          go : (x y j : ℕ) → x ≡ y → r - 1 ≡ j → b + x + r ≡ b + y + 1 + j
          go x y j f e = omega (arith, f, e, some)

  item_here : item U capacity here ≡ placed U (l2_at table j) place
  item_here =
      let start : ℕ = (i * entries T + j) * c in
      let same : start ≡ k * c = ap (λ x. x * c) (whole k (entries T)) in
      item_l2 U capacity i j low j_lt ∙ ap (λ r. l2_item U capacity i j r) (l1_still i low ∙ l1) ∙ ap (λ r. l2_item_of U capacity start (l2_at table j) r) new
      ∙ beyond_inside capacity start (placed U (l2_at table j) place) (omega (arith, same, inside))
    where
      whole : (k e : ℕ) → k / e * e + k % e ≡ k
      whole k e = let f = div-add-mod k e in let g = mul_comm (k / e) e in omega (arith, f, g)

  name_here : names U capacity here ≡ Some place
  name_here = ap (λ (x : Item). x.name) item_here

  size_of : F.size ≡ 512 * n
  unfolding file_of
  size_of = refl

  fine : own_fault F.size (item U capacity here) ≡ None
  fine = ap (own_fault F.size) item_here ∙ placed_fine U (l2_at table j) place F.size begins (omega (arith, fits, size_of))

  count_still : (x : ℕ) → count_of U x ≡ count_of T x
  count_still x =
      count_by h F G capacity table shape clean named.1 agree x (ap (λ w. w / 512 * 512) (block_still (x / block_span T))) (λ there.
      half_kept h F G capacity table shape clean named.1 agree (x / block_span T) (x % block_span T) there
      (span_lt h F G capacity table shape clean named.1 agree x)
      (not_here (block_position T (x / block_span T)) (λ e. omega (arith, block_early T (x / block_span T) (block_there h F capacity shape clean (x / block_span T) there), e, late))))

  counted : (m p : ℕ) → names U capacity m ≡ Some p → 0 < count_of U (p / c)
  counted m p e = go (same_or_not m here)
    where
      same_some : (a b : ℕ) (o : Option ℕ) → o ≡ Some a → o ≡ Some b → a ≡ b
      same_some a b o e f = cc

      go : (m ≡ here) ⊎ (m ≢ here) → 0 < count_of U (p / c)
      go (inl at) =
          let same : place ≡ p = same_some place p (names U capacity here) name_here (sym (ap (names U capacity) at) ∙ e) in
          subst (λ x. 0 < count_of U (x / c)) same (subst (λ x. 0 < x) (sym (count_still (place / c))) some)
      go (inr ne) = subst (λ x. 0 < x) (sym (count_still (p / c))) ((clean m).counted p (sym (ap (λ (x : Item). x.name) (others m ne)) ∙ e))

  header : layer_header G capacity ≡ Ok h
  header = header_kept n table capacity s s' h are is named.1 (frames.not_first n capacity table s s' h are is sound named.1 outside (l1_position T i) named.0 (λ e. omega (arith, e, late))) outside

  entry_here : entry_at U k ≡ Data place
  unfolding entry_at
  entry_here =
      let e : nat_lt i h.l1_size ≡ true = grind (arith, nat_tests) in
      rw e (ap (λ r. entry_behind U j r) (l1_still i low ∙ l1) ∙ ap entry_or_absent new)

  entry_other : (m : ℕ) → m ≢ k → entry_at U m ≡ entry_at T m
  entry_other m ne = entry_same h F G capacity m (l1_still (m / entries T)) (λ table' low' is.
      l2_other (m / entries T) (m % entries T) table' low' (entry_lt h F capacity shape clean m) is (λ a b. ne (same_parts m k (entries T) a b)))

  -- the cluster of data is another than the table's
  data_byte : (o : ℕ) → o < c → G.byte (place + o) ≡ F.byte (place + o)
  data_byte o lt =
      other_byte c (2 ^ (h.cluster_bits - 9)) table F G (cluster_sectors h.cluster_bits shape.low) named.1 agree place o begins lt (λ same.
      l1_not_l2 T i i j j_lt (free (l1_position T i) (named.0 ∙ ap (λ (x : ℕ). Some x) (sym same))))

  pub entered : Entered h capacity k place F G
  entered = record {
    header = header;
    sound = sound_of G capacity h header (clean_with h F G capacity here place clean agree.size fine name_here others free counted);
    named = name_here;
    names_kept = λ m ne. ap (λ (x : Item). x.name) (others m ne);
    entry = entry_here;
    entries_kept = entry_other;
    tables = l1_still;
    blocks = λ b. ap (λ w. w / 512 * 512) (block_still b);
    counts_kept = count_still;
    bytes_kept = λ x ne. byte_by h F G capacity table shape clean named.1 agree x (entry_other (x / c) ne) (λ place e.
        not_here (entry_position T (x / c)) (λ same. l1_not_l2 T i (x / c / entries T) (x / c % entries T) (entry_lt h F capacity shape clean (x / c)) (sym same)));
    bytes = λ x same. frames.held n capacity table s s' h are is sound named.1 outside place x (ap (entry_at U) same ∙ entry_here) ∙ ap (λ (b : ℕ). Some b) (data_byte (x % c) (mod-lt x (pow_pos h.cluster_bits)));
  }
