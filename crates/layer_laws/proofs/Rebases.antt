-- The header's cluster changes.
use Rattle.std.proofs.Common.{◌≡◌, ◌≢◌, ◌⊎◌, inl, inr, ℕ, ◌+◌, ◌-◌, ◌*◌, ◌/◌, ◌%◌, ◌^◌, ◌<◌, ◌≤◌, Bool, true, false, List, Some, None, Ok, refl, sym, ap, ◌∙◌, subst, arith, nat_lt, nat_le}
use Rattle.std.specs.Prelude.{◌==◌, if◌then◌else◌}
use Rattle.std.proofs.Math.Nat.{zero-mod}
use Rattle.std.proofs.lemmas.Bool.{cases_lt}
use Rattle.std.proofs.lemmas.Bool.Decides.{nat_tests}
use Rattle.std.proofs.lemmas.Nat.{pow_pos}
use Rattle.qcow_format.specs.declared.header.Header.{Header}
use Rattle.image_model.specs.File.{File, file_of}
use Rattle.image_model.specs.Layer.{Tables, block_place, block_span, byte_behind, cluster_size, count_of, entries, entry_at, entry_behind, l1_at, l1_clusters, l1_entry, own_byte}
use Rattle.image_model.specs.Soundness.{IsClean, IsSound, Item, before_mapping, item, l1_item_of, l2_item, layer_header, mapping_item, names, nothing, own_fault}
use Rattle.layer_laws.specs.Laws.{Rebased, SameOutside, block_position, entry_position, l1_position, layer, plain, with_l1}
use Rattle.layer_laws.proofs.Clusters.{Agrees, agrees}
use Rattle.layer_laws.proofs.Items.{Part, block, header, l1_cluster, mapping, part_of, table_cluster}
use Rattle.layer_laws.proofs.Kept.{SameWords, block_word_kept, byte_kept, clean_still, count_kept, counted_still, entry_still, item_still, l1_word_kept, l2_word_kept, place_still}
use Rattle.layer_laws.proofs.Numbers.{cluster_sectors}
use Rattle.layer_laws.proofs.Places.{item_block, item_header, item_l1_cluster, item_mapping, item_table_cluster}
use Rattle.layer_laws.proofs.Positions.{l1_late, l2_late}
use Rattle.layer_laws.proofs.Sound.{Shape, clean_of, header_name, shape_of, sound_of, unique}

-- what is said of a layer doesn't look at its backing file
item_plain : (h : Header) (f : File) (capacity n : ℕ) → item (layer (plain h) f) capacity n ≡ item (layer h f) capacity n
unfolding item
item_plain h f capacity n = refl

item_rebased : (h h' : Header) (f : File) (capacity n : ℕ) → plain h' ≡ plain h → item (layer h' f) capacity n ≡ item (layer h f) capacity n
item_rebased h h' f capacity n same = sym (item_plain h' f capacity n) ∙ ap (λ (x : Header). item (layer x f) capacity n) same ∙ item_plain h f capacity n

entry_plain : (h : Header) (f : File) (k : ℕ) → entry_at (layer (plain h) f) k ≡ entry_at (layer h f) k
unfolding entry_at
entry_plain h f k = refl

entry_rebased : (h h' : Header) (f : File) (k : ℕ) → plain h' ≡ plain h → entry_at (layer h' f) k ≡ entry_at (layer h f) k
entry_rebased h h' f k same = sym (entry_plain h' f k) ∙ ap (λ (x : Header). entry_at (layer x f) k) same ∙ entry_plain h f k

byte_plain : (h : Header) (f : File) (i : ℕ) → own_byte (layer (plain h) f) i ≡ own_byte (layer h f) i
unfolding entry_at own_byte
byte_plain h f i = refl

byte_rebased : (h h' : Header) (f : File) (i : ℕ) → plain h' ≡ plain h → own_byte (layer h' f) i ≡ own_byte (layer h f) i
byte_rebased h h' f i same = sym (byte_plain h' f i) ∙ ap (λ (x : Header). own_byte (layer x f) i) same ∙ byte_plain h f i

count_rebased : (h h' : Header) (f : File) (x : ℕ) → plain h' ≡ plain h → count_of (layer h' f) x ≡ count_of (layer h f) x
count_rebased h h' f x same = ap (λ (y : Header). count_of (layer y f) x) same

clean_rebased : (h h' : Header) (f : File) (capacity n : ℕ) → plain h' ≡ plain h → IsClean (layer h f) capacity n → IsClean (layer h' f) capacity n
clean_rebased h h' f capacity n same clean = record {
  fine = ap (own_fault f.size) (item_rebased h h' f capacity n same) ∙ clean.fine;
  once = λ place e before. clean.once place (sym (name n) ∙ e) (before.0, before.1, sym (name before.0) ∙ before.2);
  counted = λ place e. subst (λ x. 0 < x) (sym (count_rebased h h' f (place / 2 ^ h'.cluster_bits) same ∙ ap (λ (y : Header). count_of (layer h f) (place / 2 ^ y.cluster_bits)) same)) (clean.counted place (sym (name n) ∙ e));
}
  where
    name : (n : ℕ) → names (layer h' f) capacity n ≡ names (layer h f) capacity n
    name n = ap (λ (x : Item). x.name) (item_rebased h h' f capacity n same)

-- ---- the first cluster

module _ (n capacity : ℕ) (s s' : ℕ → List ℕ) (h : Header) (is : layer_header (file_of n s) capacity ≡ Ok h) (sound : IsSound (file_of n s) capacity)
    (outside : SameOutside 0 (2 ^ h.cluster_bits) s s') where
  abbrev F : File
  F = file_of n s

  abbrev G : File
  G = file_of n s'

  abbrev T : Tables
  T = layer h (file_of n s)

  abbrev c : ℕ
  c = 2 ^ h.cluster_bits

  shape : Shape h
  shape = shape_of F capacity h is

  clean : (m : ℕ) → IsClean T capacity m
  clean = clean_of F capacity h is sound

  whole : 0 % c ≡ 0
  whole = zero-mod c

  agree : Agrees c 0 F G
  agree = agrees n 0 c (2 ^ (h.cluster_bits - 9)) s s' (cluster_sectors h.cluster_bits shape.low) (pow_pos h.cluster_bits) whole outside

  not_here : (m : ℕ) → m ≢ 0 → names T capacity m ≡ Some 0 → ⊥
  not_here m ne e = ne (unique h F capacity shape clean m 0 0 e (header_name h F capacity shape clean))

  behind_header : (m : ℕ) → 1 ≤ m → m ≢ 0
  behind_header m le e = omega (arith, le, e)

  late : (m : ℕ) → before_mapping T ≤ m → m ≢ 0
  late m le e = omega (arith, le, e)

  words : SameWords h F G capacity 0 shape clean whole agree
  words = record {
    blocks = λ k lt. block_word_kept h F G capacity 0 shape clean whole agree k lt (not_here (1 + l1_clusters T + k / entries T) (behind_header _ (omega arith)));
    l1 = λ i lt. l1_word_kept h F G capacity 0 shape clean whole agree i lt (not_here (1 + i / entries T) (behind_header _ (omega arith)));
    l2 = λ i j table lt lt' e. l2_word_kept h F G capacity 0 shape clean whole agree i j table lt lt' e (not_here (l1_position T i) (late _ (l1_late T i)));
  }

  pub counts : (x : ℕ) → count_of (layer h G) x ≡ count_of T x
  counts x = count_kept h F G capacity 0 shape clean whole agree words x (not_here (block_position T (x / block_span T)) (behind_header _ (omega arith)))

  pub clean_first : (m : ℕ) → IsClean (layer h G) capacity m
  clean_first = clean_still h F G capacity 0 shape clean whole agree words (counted_still h F G capacity 0 shape clean whole agree words counts)

  pub item_first : (m : ℕ) → item (layer h G) capacity m ≡ item T capacity m
  item_first = item_still h F G capacity 0 shape clean whole agree words

  pub entry_first : (k : ℕ) → entry_at (layer h G) k ≡ entry_at T k
  entry_first = entry_still h F G capacity 0 shape clean whole agree words

  pub place_first : (k : ℕ) → block_place (layer h G) k ≡ block_place T k
  place_first = place_still h F G capacity 0 shape clean whole agree words

  pub byte_first : (i : ℕ) → own_byte (layer h G) i ≡ own_byte T i
  byte_first i = byte_kept h F G capacity 0 shape clean whole agree words i (λ place e. not_here (entry_position T (i / c)) (late _ (l2_late T (i / c / entries T) (i / c % entries T))))

  pub rebased : (h' : Header) → layer_header G capacity ≡ Ok h' → plain h' ≡ plain h → Rebased h h' capacity F G
  rebased h' is' same = record {
    sound = sound_of G capacity h' is' (λ m. clean_rebased h h' G capacity m same (clean_first m));
    named = λ m. ap (λ (x : Item). x.name) (item_rebased h h' G capacity m same ∙ item_first m);
    entries = λ k. entry_rebased h h' G k same ∙ entry_first k;
    blocks = λ k. ap (λ (y : Header). block_place (layer y G) k) same ∙ place_first k;
    counts = λ x. count_rebased h h' G x same ∙ counts x;
    bytes = λ i. byte_rebased h h' G i same ∙ byte_first i;
  }

-- ---- a longer L1 table

-- more entries that name no table say nothing
module _ (h : Header) (g : File) (capacity size l : ℕ) (le : h.l1_size ≤ l) (clusters : l1_clusters (layer (with_l1 h size l) g) ≡ l1_clusters (layer h g))
    (absent : (i : ℕ) → h.l1_size ≤ i → i < l → l1_entry (layer h g) i ≡ Ok None) where
  abbrev V : Tables
  V = layer (with_l1 h size l) g

  abbrev W : Tables
  W = layer h g

  shifted : (k : ℕ) → 1 + l1_clusters V + k ≡ 1 + l1_clusters W + k
  shifted k = ap (λ x. 1 + x + k) clusters

  block_shifted : (k : ℕ) → block_position V k ≡ block_position W k
  block_shifted k = ap (λ x. 1 + x + h.refcount_table_clusters + k) clusters

  l1_shifted : (i r : ℕ) → l1_position V i + r ≡ l1_position W i + r
  l1_shifted i r = ap (λ x. 1 + x + h.refcount_table_clusters * (1 + entries W) + i * (1 + entries W) + r) clusters

  blank : (i r : ℕ) → l1_entry W i ≡ Ok None → (if r == 0 then l1_item_of W (l1_at W i) (l1_entry W i) else l2_item W capacity i (r - 1) (l1_entry W i)) ≡ nothing
  blank i r none = go (r == 0)
    where
      go : (b : Bool) → (if b then l1_item_of W (l1_at W i) (l1_entry W i) else l2_item W capacity i (r - 1) (l1_entry W i)) ≡ nothing
      go true = ap (λ x. l1_item_of W (l1_at W i) x) none
      go false = ap (λ x. l2_item W capacity i (r - 1) x) none

  mapping_longer : (i r : ℕ) → mapping_item V capacity i r ≡ mapping_item W capacity i r
  mapping_longer i r = go (cases_lt i h.l1_size) (cases_lt i l)
    where
      go : (i < h.l1_size) ⊎ (h.l1_size ≤ i) → (i < l) ⊎ (l ≤ i) → mapping_item V capacity i r ≡ mapping_item W capacity i r
      go (inl lt) rest =
          let e : nat_le l i ≡ false = grind (arith, nat_tests) in
          let f : nat_le h.l1_size i ≡ false = grind (arith, nat_tests) in
          rw e (rw f refl)
      go (inr ge) (inr ge') =
          let e : nat_le l i ≡ true = grind (arith, nat_tests) in
          let f : nat_le h.l1_size i ≡ true = grind (arith, nat_tests) in
          rw e (rw f refl)
      go (inr ge) (inl lt) =
          let e : nat_le l i ≡ false = grind (arith, nat_tests) in
          let f : nat_le h.l1_size i ≡ true = grind (arith, nat_tests) in
          rw e (rw f (blank i r (absent i ge lt)))

  pub item_longer : (n : ℕ) → item V capacity n ≡ item W capacity n
  item_longer n = go (part_of W n)
    where
      go : Part W n → item V capacity n ≡ item W capacity n
      go (header e) = ap (item V capacity) e ∙ item_header V capacity ∙ sym (item_header W capacity) ∙ ap (item W capacity) (sym e)
      go (l1_cluster k lt e) = ap (item V capacity) e ∙ item_l1_cluster V capacity k (subst (λ x. k < x) (sym clusters) lt) ∙ sym (item_l1_cluster W capacity k lt) ∙ ap (item W capacity) (sym e)
      go (table_cluster k lt e) = ap (item V capacity) (e ∙ sym (shifted k)) ∙ item_table_cluster V capacity k lt ∙ sym (item_table_cluster W capacity k lt) ∙ ap (item W capacity) (sym e)
      go (block k lt e) = ap (item V capacity) (e ∙ sym (block_shifted k)) ∙ item_block V capacity k lt ∙ sym (item_block W capacity k lt) ∙ ap (item W capacity) (sym e)
      go (mapping i r lt e) = ap (item V capacity) (e ∙ sym (l1_shifted i r)) ∙ item_mapping V capacity i r lt ∙ mapping_longer i r ∙ sym (item_mapping W capacity i r lt) ∙ ap (item W capacity) (sym e)

  pub entry_longer : (k : ℕ) → entry_at V k ≡ entry_at W k
  unfolding entry_at
  entry_longer k = go (cases_lt (k / entries W) h.l1_size) (cases_lt (k / entries W) l)
    where
      go : (k / entries W < h.l1_size) ⊎ (h.l1_size ≤ k / entries W) → (k / entries W < l) ⊎ (l ≤ k / entries W) → entry_at V k ≡ entry_at W k
      go (inl lt) rest =
          let e : nat_lt (k / entries W) l ≡ true = grind (arith, nat_tests) in
          let f : nat_lt (k / entries W) h.l1_size ≡ true = grind (arith, nat_tests) in
          rw e (rw f refl)
      go (inr ge) (inr ge') =
          let e : nat_lt (k / entries W) l ≡ false = grind (arith, nat_tests) in
          let f : nat_lt (k / entries W) h.l1_size ≡ false = grind (arith, nat_tests) in
          rw e (rw f refl)
      go (inr ge) (inl lt) =
          let e : nat_lt (k / entries W) l ≡ true = grind (arith, nat_tests) in
          let f : nat_lt (k / entries W) h.l1_size ≡ false = grind (arith, nat_tests) in
          rw e (rw f (ap (λ r. entry_behind W (k % entries W) r) (absent (k / entries W) ge lt)))

  pub byte_longer : (i : ℕ) → own_byte V i ≡ own_byte W i
  unfolding own_byte
  byte_longer i = ap (λ e. byte_behind W (i % cluster_size W) e) (entry_longer (i / cluster_size W))

  pub clean_longer : (n : ℕ) → IsClean W capacity n → IsClean V capacity n
  clean_longer n clean = record {
    fine = ap (own_fault g.size) (item_longer n) ∙ clean.fine;
    once = λ place e before. clean.once place (sym (name n) ∙ e) (before.0, before.1, sym (name before.0) ∙ before.2);
    counted = λ place e. clean.counted place (sym (name n) ∙ e);
  }
    where
      name : (n : ℕ) → names V capacity n ≡ names W capacity n
      name n = ap (λ (x : Item). x.name) (item_longer n)

pub resized : (n capacity size l : ℕ) (s s' : ℕ → List ℕ) (h : Header) → layer_header (file_of n s) capacity ≡ Ok h → layer_header (file_of n s') capacity ≡ Ok (with_l1 h size l)
    → h.l1_size ≤ l → l1_clusters (layer (with_l1 h size l) (file_of n s)) ≡ l1_clusters (layer h (file_of n s))
    → ((i : ℕ) → h.l1_size ≤ i → i < l → l1_entry (layer h (file_of n s')) i ≡ Ok None)
    → SameOutside 0 (2 ^ h.cluster_bits) s s' → IsSound (file_of n s) capacity → Rebased h (with_l1 h size l) capacity (file_of n s) (file_of n s')
resized n capacity size l s s' h is is' le clusters absent outside sound =
    let g = file_of n s' in record {
      sound = sound_of g capacity (with_l1 h size l) is' (λ m. clean_longer h g capacity size l le clusters absent m (clean_first n capacity s s' h is sound outside m));
      named = λ m. ap (λ (x : Item). x.name) (item_longer h g capacity size l le clusters absent m ∙ item_first n capacity s s' h is sound outside m);
      entries = λ k. entry_longer h g capacity size l le clusters absent k ∙ entry_first n capacity s s' h is sound outside k;
      blocks = place_first n capacity s s' h is sound outside;
      counts = counts n capacity s s' h is sound outside;
      bytes = λ i. byte_longer h g capacity size l le clusters absent i ∙ byte_first n capacity s s' h is sound outside i;
    }
