-- An L1 entry that named no table names one.
use Rattle.std.proofs.Common.{◌≡◌, ◌≢◌, ◌⊎◌, inl, inr, ℕ, ◌+◌, ◌-◌, ◌*◌, ◌/◌, ◌%◌, ◌^◌, ◌<◌, Bool, true, false, List, Option, Some, None, Ok, refl, sym, ap, ◌∙◌, subst, arith, nat_lt}
use Rattle.std.specs.Prelude.{if◌then◌else◌}
use Rattle.std.proofs.lemmas.Nat.{pow_pos}
use Rattle.qcow_format.specs.declared.header.Header.{Header}
use Rattle.qcow_format.specs.declared.entry.Entry.{Entry}
use Rattle.qcow_format.specs.declared.entry.Entry.TheVariants.{Absent}
use Rattle.qcow_format.specs.Entry.{entry_in}
use Rattle.image_model.specs.File.{File, file_of}
use Rattle.image_model.specs.Layer.{Tables, block_place, block_span, block_word, cluster_size, count_of, entries, entry_at, entry_behind, entry_or_absent, l1_at, l1_clusters, l1_entry, l2_at, l2_entry}
use Rattle.image_model.specs.Soundness.{IsClean, IsSound, Item, before_mapping, item, l1_item_of, l2_item, l2_item_of, layer_header, mapping_item, names, own_fault, placed}
use Rattle.layer_laws.specs.Laws.{AreSectors, IsUnnamed, OnlyWord, Placed, SameOutside, block_position, entry_position, l1_position, layer}
use Rattle.layer_laws.proofs.Clusters.{Agrees, other_word}
use Rattle.layer_laws.proofs.Frames as frames
use Rattle.layer_laws.proofs.Heads.{header_kept}
use Rattle.layer_laws.proofs.Items.{block_item_same, block_word_same, entry_same, item_by, l1_entry_same, l2_entry_same, mapping_item_same}
use Rattle.layer_laws.proofs.Kept.{byte_by, count_by, half_kept, l2_word_kept, span_lt}
use Rattle.layer_laws.proofs.Numbers.{behind, cluster_sectors, l1_inside, row_of}
use Rattle.layer_laws.proofs.Places.{item_l1, mapped_behind}
use Rattle.layer_laws.proofs.Positions.{l1_cluster_early, l1_late, l2_late, same_or_not}
use Rattle.layer_laws.proofs.Recounts.{other_word_kept, word_outside}
use Rattle.layer_laws.proofs.Renamed.{clean_with, placed_fine}
use Rattle.layer_laws.proofs.Sound.{Shape, clean_of, entry_lt, entry_width, l1_cluster_name, shape_of, sound_of}

abbrev behind_of : Tables → ℕ → Bool → Entry
behind_of t k b = if b then entry_behind t (k % entries t) (l1_entry t (k / entries t)) else Absent

-- what an absent entry says, and an entry behind no table
entry_none : (t : Tables) (k i table : ℕ) → k / entries t ≡ i → l1_entry t i ≡ Ok (Some table) → l2_entry t table (k % entries t) ≡ Ok Absent → entry_at t k ≡ Absent
unfolding entry_at
entry_none t k i table same l1 l2 = go (nat_lt (k / entries t) t.header.l1_size)
  where
    go : (b : Bool) → behind_of t k b ≡ Absent
    go false = refl
    go true = ap (λ r. entry_behind t (k % entries t) r) (ap (l1_entry t) same ∙ l1) ∙ ap entry_or_absent l2

entry_missing : (t : Tables) (k i : ℕ) → k / entries t ≡ i → l1_entry t i ≡ Ok None → entry_at t k ≡ Absent
unfolding entry_at
entry_missing t k i same l1 = go (nat_lt (k / entries t) t.header.l1_size)
  where
    go : (b : Bool) → behind_of t k b ≡ Absent
    go false = refl
    go true = ap (λ r. entry_behind t (k % entries t) r) (ap (l1_entry t) same ∙ l1)

module _ (n capacity i table : ℕ) (s s' : ℕ → List ℕ) (h : Header) (are : AreSectors n s) (is : layer_header (file_of n s) capacity ≡ Ok h) (sound : IsSound (file_of n s) capacity)
    (low : i < h.l1_size) (none : l1_entry (layer h (file_of n s)) i ≡ Ok None) (only : OnlyWord (l1_at (layer h (file_of n s)) i / 8) s s')
    (new : l1_entry (layer h (file_of n s')) i ≡ Ok (Some table)) (begins : table % 2 ^ h.cluster_bits ≡ 0) (fits : table < 512 * n)
    (some : 0 < count_of (layer h (file_of n s)) (table / 2 ^ h.cluster_bits))
    (empty : (j : ℕ) → j < entries (layer h (file_of n s)) → (file_of n s).word (l2_at table j / 8) ≡ 0) (free : IsUnnamed (layer h (file_of n s)) capacity table) where
  abbrev F : File
  F = file_of n s

  abbrev G : File
  G = file_of n s'

  abbrev T : Tables
  T = layer h (file_of n s)

  abbrev U : Tables
  U = layer h (file_of n s')

  abbrev c : ℕ
  c = 2 ^ h.cluster_bits

  -- the cluster of the L1 table in which the entry stands
  abbrev m0 : ℕ
  m0 = i / entries T

  abbrev p : ℕ
  p = h.l1_table_offset + i / entries (layer h (file_of n s)) * 2 ^ h.cluster_bits

  width : c ≡ 8 * entries T
  width = entry_width h F capacity (shape_of F capacity h is) (clean_of F capacity h is sound)

  m0_lt : m0 < l1_clusters T
  m0_lt = l1_inside i h.l1_size (entries T) c width (pow_pos h.cluster_bits) low

  named : names T capacity (1 + m0) ≡ Some p
  named = l1_cluster_name h F capacity (shape_of F capacity h is) (clean_of F capacity h is sound) m0 m0_lt

  whole : p % c ≡ 0
  whole = behind h.l1_table_offset m0 c (pow_pos h.cluster_bits) (shape_of F capacity h is).l1

  outside : SameOutside p c s s'
  outside = word_outside p c (2 ^ (h.cluster_bits - 9)) (i % entries T) (l1_at T i / 8) s s' (cluster_sectors h.cluster_bits (shape_of F capacity h is).low) whole
      (entry_lt h F capacity (shape_of F capacity h is) (clean_of F capacity h is sound) i) (ap (λ x. x / 8) (row_of h.l1_table_offset i (entries T) c width)) only

  abbrev shape : Shape h
  shape = frames.shape n capacity p s s' h are is sound whole outside

  abbrev clean : (m : ℕ) → IsClean T capacity m
  clean = frames.clean n capacity p s s' h are is sound whole outside

  abbrev agree : Agrees c p F G
  agree = frames.agree n capacity p s s' h are is sound whole outside

  not_here : (m : ℕ) → (m ≡ 1 + m0 → ⊥) → names T capacity m ≡ Some p → ⊥
  not_here = frames.other_than n capacity p s s' h are is sound whole outside (1 + m0) named

  early : 1 + m0 < before_mapping T
  early = l1_cluster_early T m0 m0_lt

  block_still : (b : ℕ) → block_word U b ≡ block_word T b
  block_still b = block_word_same h F G capacity b (frames.blocks_by n capacity p s s' h are is sound whole outside (λ m lt. not_here (1 + l1_clusters T + m) (λ e. omega (arith, e, m0_lt))) b)

  pub place_still : (b : ℕ) → block_place U b ≡ block_place T b
  place_still b = ap (λ w. w / 512 * 512) (block_still b)

  pub l1_other : (m : ℕ) → m ≢ i → l1_entry U m ≡ l1_entry T m
  l1_other m ne = l1_entry_same h F G capacity m (other_word_kept n (l1_at T m / 8) (l1_at T i / 8) s s' only (λ e. apart h.l1_table_offset m i ne e))
    where
      apart : (o a b : ℕ) → a ≢ b → (o + 8 * a) / 8 ≡ (o + 8 * b) / 8 → ⊥
      apart o a b ne e = ne (omega (arith, e))

  l2_still : (i' j' table' : ℕ) → i' < h.l1_size → j' < entries T → l1_entry T i' ≡ Ok (Some table') → l2_entry U table' j' ≡ l2_entry T table' j'
  l2_still i' j' table' lt lt' e = l2_entry_same h F G capacity table' j' (l2_word_kept h F G capacity p shape clean whole agree i' j' table' lt lt' e (not_here (l1_position T i') (λ same. omega (arith, l1_late T i', same, early))))

  -- the new table's entries are absent
  absent : (j : ℕ) → j < entries T → l2_entry U table j ≡ Ok Absent
  absent j lt =
      let same : G.word (l2_at table j / 8) ≡ F.word (l2_at table j / 8) =
      other_word c (2 ^ (h.cluster_bits - 9)) p F G (cluster_sectors h.cluster_bits shape.low) whole agree table j (l2_at table j) begins lt refl (λ e. free (1 + m0) (named ∙ ap (λ (x : ℕ). Some x) (sym e))) in
      ap (λ w. entry_in w h.version (l2_at table j)) (same ∙ empty j lt)

  abbrev here : ℕ
  here = l1_position T i

  others : (m : ℕ) → m ≢ here → item U capacity m ≡ item T capacity m
  others m ne = item_by h F G capacity m (λ b lt e. block_item_same h F G capacity b (block_still b)) (λ i' r lt e. go i' r lt e (same_or_not i' i))
    where
      at : (b w a x r : ℕ) → a ≡ x → r ≡ 0 → b + a * w + r ≡ b + x * w
      at b w a x r same e = let f : a * w ≡ x * w = ap (λ y. y * w) same in omega (arith, f, e)

      go : (i' r : ℕ) → r < 1 + entries T → m ≡ l1_position T i' + r → (i' ≡ i) ⊎ (i' ≢ i) → mapping_item U capacity i' r ≡ mapping_item T capacity i' r
      go i' r lt e (inr other) = mapping_item_same h F G capacity i' r lt (λ _. l1_other i' other) (λ table' low' is some. l2_still i' (r - 1) table' low' (omega (arith, lt, some)) is)
      go i' r lt e (inl same) = ap (λ x. mapping_item U capacity x r) same ∙ blank r lt (λ z. ne (e ∙ at (before_mapping T) (1 + entries T) i' i r same z)) ∙ ap (λ x. mapping_item T capacity x r) (sym same)
        where
          blank : (r : ℕ) → r < 1 + entries T → r ≢ 0 → mapping_item U capacity i r ≡ mapping_item T capacity i r
          blank r lt some = mapped_behind U capacity i r low some ∙ ap (λ x. l2_item U capacity i (r - 1) x) new ∙ ap (λ x. l2_item_of U capacity ((i * entries T + (r - 1)) * cluster_size T) (l2_at table (r - 1)) x) (absent (r - 1) (omega (arith, lt, some)))
              ∙ sym (mapped_behind T capacity i r low some ∙ ap (λ x. l2_item T capacity i (r - 1) x) none)

  item_here : item U capacity here ≡ placed U (l1_at T i) table
  item_here = item_l1 U capacity i low ∙ ap (λ r. l1_item_of U (l1_at T i) r) new

  name_here : names U capacity here ≡ Some table
  name_here = ap (λ (x : Item). x.name) item_here

  size_of : F.size ≡ 512 * n
  unfolding file_of
  size_of = refl

  fine : own_fault F.size (item U capacity here) ≡ None
  fine = ap (own_fault F.size) item_here ∙ placed_fine U (l1_at T i) table F.size begins (omega (arith, fits, size_of))

  pub count_still : (x : ℕ) → count_of U x ≡ count_of T x
  count_still x =
      count_by h F G capacity p shape clean whole agree x (ap (λ w. w / 512 * 512) (block_still (x / block_span T))) (λ there.
      half_kept h F G capacity p shape clean whole agree (x / block_span T) (x % block_span T) there (span_lt h F G capacity p shape clean whole agree x)
      (not_here (block_position T (x / block_span T)) (λ e. omega (arith, e, m0_lt))))

  counted : (m q : ℕ) → names U capacity m ≡ Some q → 0 < count_of U (q / c)
  counted m q e = go (same_or_not m here)
    where
      same_some : (a b : ℕ) (o : Option ℕ) → o ≡ Some a → o ≡ Some b → a ≡ b
      same_some a b o e f = cc

      go : (m ≡ here) ⊎ (m ≢ here) → 0 < count_of U (q / c)
      go (inl at) =
          let same : table ≡ q = same_some table q (names U capacity here) name_here (sym (ap (names U capacity) at) ∙ e) in
          subst (λ x. 0 < count_of U (x / c)) same (subst (λ x. 0 < x) (sym (count_still (table / c))) some)
      go (inr ne) = subst (λ x. 0 < x) (sym (count_still (q / c))) ((clean m).counted q (sym (ap (λ (x : Item). x.name) (others m ne)) ∙ e))

  header : layer_header G capacity ≡ Ok h
  header = header_kept n p capacity s s' h are is whole (frames.not_first n capacity p s s' h are is sound whole outside (1 + m0) named (λ e. omega (arith, e))) outside

  -- behind the entry all was absent, and is
  entry_still : (m : ℕ) → entry_at U m ≡ entry_at T m
  entry_still m = go (same_or_not (m / entries T) i)
    where
      go : (m / entries T ≡ i) ⊎ (m / entries T ≢ i) → entry_at U m ≡ entry_at T m
      go (inr ne) = entry_same h F G capacity m (λ _. l1_other (m / entries T) ne) (λ table' low' is. l2_still (m / entries T) (m % entries T) table' low' (entry_lt h F capacity shape clean m) is)
      go (inl e) = entry_none U m i table e new (absent (m % entries T) (entry_lt h F capacity shape clean m)) ∙ sym (entry_missing T m i e none)

  pub linked : Placed h capacity here table F G
  linked = record {
    header = header;
    sound = sound_of G capacity h header (clean_with h F G capacity here table clean agree.size fine name_here others (λ m e. absurd (free m e)) counted);
    named = name_here;
    names_kept = λ m ne. ap (λ (x : Item). x.name) (others m ne);
    entries = entry_still;
    bytes = λ x. byte_by h F G capacity p shape clean whole agree x (entry_still (x / c)) (λ place e.
        not_here (entry_position T (x / c)) (λ same. omega (arith, l2_late T (x / c / entries T) (x / c % entries T), same, early)));
  }
