-- An L1 entry names a table in which several entries stand already: the same as one that names an empty table, in which they
-- are made then.
use Rattle.std.proofs.Common.{◌≡◌, ◌≢◌, ◌⊎◌, inl, inr, ℕ, zero, suc, ◌+◌, ◌-◌, ◌*◌, ◌/◌, ◌%◌, ◌^◌, ◌<◌, ◌≤◌, Bool, true, false, List, length, Option, Some, None, Ok, refl, sym, ap, ◌∙◌, subst, arith, nat_lt, nat_le}
use Rattle.std.specs.Prelude.{◌&&◌, if◌then◌else◌, replicate}
use Rattle.std.proofs.Math.Nat.{mod-lt}
use Rattle.std.proofs.lemmas.List.{length-replicate}
use Rattle.std.proofs.lemmas.Nat.{pow_pos}
use Rattle.std.proofs.lemmas.Bool.{cases_lt, eq-eqb, ne_eqb}
use Rattle.std.proofs.lemmas.Bool.Decides.{nat_tests}
use Rattle.qcow_format.specs.Bytes.{number}
use Rattle.qcow_format.specs.Entry.{table_in}
use Rattle.qcow_format.specs.declared.header.Header.{Header}
use Rattle.image_model.specs.File.{File, file_of}
use Rattle.image_model.specs.Layer.{Tables, block_place, count_of, entries, l1_at, l1_clusters, l1_entry, l2_at, own_byte}
use Rattle.image_model.specs.Soundness.{IsClean, IsSound, layer_header, names}
use Rattle.layer_laws.specs.Laws.{AreSectors, IsNamedOnlyAt, IsUnnamed, OnlyWord, Placed, SameContent, SameOutside, entry_position, l1_position, layer}
use Rattle.layer_laws.proofs.Clusters.{Agrees, agrees, other_byte, other_word}
use Rattle.layer_laws.proofs.Frames as frames
use Rattle.layer_laws.proofs.Heads.{parent_kept}
use Rattle.layer_laws.proofs.Links as links_law
use Rattle.layer_laws.proofs.Numbers.{behind, cluster_sectors, l1_inside, row_of as l1_row_of, whole_sector}
use Rattle.layer_laws.proofs.Positions.{l1_cluster_early, l2_late, same_or_not}
use Rattle.layer_laws.proofs.Recounts.{word_outside}
use Rattle.layer_laws.proofs.Sound.{Shape, clean_of, entry_lt, entry_width, header_name, l1_cluster_name, shape_of, unique}
use Rattle.link_laws.specs.Links.{AreLinks, IsAmong, IsCounted, IsFilled, IsLaid, Linked, byte_with, entry_with, l1_word, laid, no_table, one_table, row_of, sector_at, table_with}
use Rattle.link_laws.proofs.Many as many
use Rattle.link_laws.proofs.Rows as rows
use Rattle.link_laws.proofs.Rows.{other_cluster}
use Rattle.link_laws.proofs.Words.{table_read, zero_word}

-- an entry of a table stands in a sector of its cluster
at_low : (table c e j : ℕ) → c ≡ 512 * e → table % 512 ≡ 0 → j < c / 8 → table / 512 ≤ (table + 8 * j) / 8 / 64
at_low table c e j is even lt = omega (arith, is, even, lt)

at_high : (table c e j : ℕ) → c ≡ 512 * e → table % 512 ≡ 0 → j < c / 8 → (table + 8 * j) / 8 / 64 < (table + c) / 512
at_high table c e j is even lt = omega (arith, is, even, lt)

module _ (n capacity group table : ℕ) (to : ℕ → Option ℕ) (s s' : ℕ → List ℕ) (h : Header) (are : AreSectors n s) (are' : AreSectors n s') (is : layer_header (file_of n s) capacity ≡ Ok h)
    (sound : IsSound (file_of n s) capacity) (whole : 512 * n % 2 ^ h.cluster_bits ≡ 0) (low : row_of (layer h (file_of n s)) group < h.l1_size)
    (none : l1_entry (layer h (file_of n s)) (row_of (layer h (file_of n s)) group) ≡ Ok None) (links : AreLinks (layer h (file_of n s)) capacity group to)
    (counted : IsCounted (layer h (file_of n s)) table) (free : IsUnnamed (layer h (file_of n s)) capacity table) (other : (k : ℕ) → to k ≡ Some table → ⊥)
    (full : IsFilled to (64 * group) (sector_at (layer h (file_of n s)) table group) table (2 ^ h.cluster_bits) s)
    (only : OnlyWord (l1_at (layer h (file_of n s)) (row_of (layer h (file_of n s)) group) / 8) s s')
    (word : (file_of n s').word (l1_at (layer h (file_of n s)) (row_of (layer h (file_of n s)) group) / 8) ≡ l1_word table) where
  abbrev F : File
  F = file_of n s

  abbrev G : File
  G = file_of n s'

  abbrev T : Tables
  T = layer h (file_of n s)

  abbrev c : ℕ
  c = 2 ^ h.cluster_bits

  abbrev e : ℕ
  e = 2 ^ (h.cluster_bits - 9)

  abbrev i : ℕ
  i = row_of T group

  abbrev w : ℕ
  w = l1_at T i / 8

  abbrev sector : ℕ
  sector = sector_at T table group

  -- the cluster of the L1 table in which the entry stands
  abbrev p : ℕ
  p = h.l1_table_offset + i / entries T * c

  shape : Shape h
  shape = shape_of F capacity h is

  clean : (m : ℕ) → IsClean T capacity m
  clean = clean_of F capacity h is sound

  sectors : c ≡ 512 * e
  sectors = cluster_sectors h.cluster_bits shape.low

  width : c ≡ 8 * entries T
  width = entry_width h F capacity shape clean

  p_whole : p % c ≡ 0
  p_whole = behind h.l1_table_offset (i / entries T) c (pow_pos h.cluster_bits) shape.l1

  p_named : names T capacity (1 + i / entries T) ≡ Some p
  p_named = l1_cluster_name h F capacity shape clean (i / entries T) (l1_inside i h.l1_size (entries T) c width (pow_pos h.cluster_bits) low)

  differ : table ≢ p
  differ same = free (1 + i / entries T) (p_named ∙ ap (λ (x : ℕ). Some x) (sym same))

  not_first : table ≢ 0
  not_first same = free 0 (header_name h F capacity shape clean ∙ ap (λ (x : ℕ). Some x) (sym same))

  outside_l1 : SameOutside p c s s'
  outside_l1 = word_outside p c e (i % entries T) w s s' sectors p_whole (entry_lt h F capacity shape clean i) (ap (λ x. x / 8) (l1_row_of h.l1_table_offset i (entries T) c width)) only

  sector_low : table / 512 ≤ sector
  sector_low = omega arith

  sector_high : sector < (table + c) / 512
  sector_high =
      let a = rows.sector_high group e 0 (pow_pos (h.cluster_bits - 9)) (omega arith) table (whole_sector table c e sectors counted.begins) in
      let b : sector ≡ (table + 8 * (64 * group % (64 * e))) / 512 = ap (λ (x : ℕ). (table + 8 * (64 * group % x)) / 512) per in
      let d = sectors in
      omega (arith, a, b, d)
    where
      per : entries T ≡ 64 * e
      per = let a = sectors in omega (arith, a)

  m0_lt : i / entries T < l1_clusters T
  m0_lt = l1_inside i h.l1_size (entries T) c width (pow_pos h.cluster_bits) low

  p_not_first : p ≢ 0
  p_not_first same = first (unique h F capacity shape clean (1 + i / entries T) 0 p p_named (header_name h F capacity shape clean ∙ ap (λ (x : ℕ). Some x) (sym same)))
    where
      first : 1 + i / entries T ≡ 0 → ⊥
      first e = omega (arith, e)

  fits_in : (place : ℕ) → place < F.size → place < 512 * n
  unfolding file_of
  fits_in place lt = lt

  -- ---- the same files with an empty table

  abbrev inside : ℕ → Bool
  inside k = nat_le (table / 512) k && nat_lt k ((table + c) / 512)

  abbrev emptied : (ℕ → List ℕ) → ℕ → List ℕ
  emptied t k = if inside k then replicate 512 0 else t k

  abbrev s0 : ℕ → List ℕ
  s0 = emptied s

  abbrev s1 : ℕ → List ℕ
  s1 = emptied s'

  abbrev F0 : File
  F0 = file_of n (emptied s)

  abbrev G0 : File
  G0 = file_of n (emptied s')

  is_inside : (k : ℕ) → table / 512 ≤ k → k < (table + c) / 512 → inside k ≡ true
  is_inside k le lt =
      let a : nat_le (table / 512) k ≡ true = grind (arith, nat_tests) in
      let b : nat_lt k ((table + c) / 512) ≡ true = grind (arith, nat_tests) in
      ap (λ (x : Bool). x && nat_lt k ((table + c) / 512)) a ∙ b

  is_outside : (k : ℕ) → (k < table / 512) ⊎ ((table + c) / 512 ≤ k) → inside k ≡ false
  is_outside k (inl lt) = let a : nat_le (table / 512) k ≡ false = grind (arith, nat_tests) in ap (λ (x : Bool). x && nat_lt k ((table + c) / 512)) a
  is_outside k (inr le) =
      let b : nat_lt k ((table + c) / 512) ≡ false = grind (arith, nat_tests) in
      ap (λ (x : Bool). nat_le (table / 512) k && x) b ∙ nothing (nat_le (table / 512) k)
    where
      nothing : (a : Bool) → (a && false) ≡ false
      nothing true = refl
      nothing false = refl

  where_is : (k : ℕ) → ((table / 512 ≤ k) × (k < (table + c) / 512)) ⊎ ((k < table / 512) ⊎ ((table + c) / 512 ≤ k))
  where_is k = go (cases_lt k (table / 512)) (cases_lt k ((table + c) / 512))
    where
      go : (k < table / 512) ⊎ (table / 512 ≤ k) → (k < (table + c) / 512) ⊎ ((table + c) / 512 ≤ k)
          → ((table / 512 ≤ k) × (k < (table + c) / 512)) ⊎ ((k < table / 512) ⊎ ((table + c) / 512 ≤ k))
      go (inl lt) rest = inr (inl lt)
      go (inr le) (inl lt) = inl (le, lt)
      go (inr le) (inr high) = inr (inr high)

  emptied_in : (t : ℕ → List ℕ) (k : ℕ) → table / 512 ≤ k → k < (table + c) / 512 → emptied t k ≡ replicate 512 0
  emptied_in t k le lt = ap (λ (b : Bool). if b then replicate 512 0 else t k) (is_inside k le lt)

  emptied_out : (t : ℕ → List ℕ) (k : ℕ) → (k < table / 512) ⊎ ((table + c) / 512 ≤ k) → emptied t k ≡ t k
  emptied_out t k out = ap (λ (b : Bool). if b then replicate 512 0 else t k) (is_outside k out)

  are_emptied : (t : ℕ → List ℕ) → AreSectors n t → AreSectors n (emptied t)
  are_emptied t are k lt = go (inside k)
    where
      go : (b : Bool) → length (if b then replicate 512 0 else t k) ≡ 512
      go true = length-replicate {A = ℕ} 512 0
      go false = are k lt

  framed : SameContent h capacity F F0
  framed = frames.frame n capacity table s s0 h are is sound counted.begins (λ k out. emptied_out s k out) free

  agree0 : Agrees c table F F0
  agree0 = agrees n table c e s s0 sectors (pow_pos h.cluster_bits) counted.begins (λ k out. emptied_out s k out)

  agree1 : Agrees c table G G0
  agree1 = agrees n table c e s' s1 sectors (pow_pos h.cluster_bits) counted.begins (λ k out. emptied_out s' k out)

  only0 : OnlyWord w s0 s1
  only0 = record {
    others = λ k ne. ap (λ (x : List ℕ). if inside k then replicate 512 0 else x) (only.others k ne);
    rest = λ m lt ne. go m lt ne (inside (w / 64));
  }
    where
      go : (m : ℕ) → m < 64 → m ≢ w % 64 → (b : Bool) → number 8 (m * 8) (if b then replicate 512 0 else s' (w / 64)) ≡ number 8 (m * 8) (if b then replicate 512 0 else s (w / 64))
      go m lt ne true = refl
      go m lt ne false = only.rest m lt ne

  agree_l1 : Agrees c p F0 G0
  agree_l1 = agrees n p c e s0 s1 sectors (pow_pos h.cluster_bits) p_whole (λ k out. ap (λ (x : List ℕ). if inside k then replicate 512 0 else x) (outside_l1 k out))

  word0 : G0.word w ≡ l1_word table
  word0 = other_word c e table G G0 sectors counted.begins agree1 p (i % entries T) (l1_at T i) p_whole (entry_lt h F capacity shape clean i)
      (l1_row_of h.l1_table_offset i (entries T) c width) (λ same. differ (sym same)) ∙ word

  some_table : 0 < table
  some_table = go table refl
    where
      go : (p : ℕ) → table ≡ p → 0 < table
      go zero is = absurd (not_first is)
      go (suc below) is = omega (arith, is)

  new : l1_entry (layer h G0) i ≡ Ok (Some table)
  new = ap (λ (x : ℕ). table_in x (l1_at T i)) word0 ∙ table_read table (l1_at T i) (whole_sector table c e sectors counted.begins) counted.low some_table

  empty : (j : ℕ) → j < entries T → F0.word (l2_at table j / 8) ≡ 0
  unfolding file_of
  empty j lt = ap (λ (x : List ℕ). number 8 (x0 % 64 * 8) x) (out_or_zero (nat_lt (x0 / 64) n)) ∙ zero_word (x0 % 64)
    where
      x0 : ℕ
      x0 = l2_at table j / 8

      out_or_zero : (b : Bool) → (if b then s0 (x0 / 64) else replicate 512 0) ≡ replicate 512 0
      out_or_zero true = emptied_in s (x0 / 64) (at_low table c e j sectors (whole_sector table c e sectors counted.begins) lt) (at_high table c e j sectors (whole_sector table c e sectors counted.begins) lt)
      out_or_zero false = refl

  free0 : IsUnnamed (layer h F0) capacity table
  free0 m named = free m (sym (framed.same.named m) ∙ named)

  linked_empty : Placed h capacity (l1_position T i) table F0 G0
  linked_empty = links_law.linked n capacity i table s0 s1 h (are_emptied s are) framed.same.header framed.same.sound low (framed.same.tables i low ∙ none) only0 new
      counted.begins (fits_in table counted.fits) (subst (λ (x : ℕ). 0 < x) (sym (framed.counts (table / c))) counted.counted) empty free0

  -- ---- and the entries

  size0 : G0.size ≡ F.size
  unfolding file_of
  size0 = refl

  counts0 : (x : ℕ) → count_of (layer h G0) x ≡ count_of T x
  counts0 x = links_law.count_still n capacity i table s0 s1 h (are_emptied s are) framed.same.header framed.same.sound low (framed.same.tables i low ∙ none) only0 new
      counted.begins (fits_in table counted.fits) (subst (λ (x : ℕ). 0 < x) (sym (framed.counts (table / c))) counted.counted) empty free0 x ∙ framed.counts x

  blocks0 : (b : ℕ) → block_place (layer h G0) b ≡ block_place T b
  blocks0 b = links_law.place_still n capacity i table s0 s1 h (are_emptied s are) framed.same.header framed.same.sound low (framed.same.tables i low ∙ none) only0 new
      counted.begins (fits_in table counted.fits) (subst (λ (x : ℕ). 0 < x) (sym (framed.counts (table / c))) counted.counted) empty free0 b ∙ framed.same.blocks b

  tables0 : (m : ℕ) → m < h.l1_size → m ≢ i → l1_entry (layer h G0) m ≡ l1_entry T m
  tables0 m lt ne = links_law.l1_other n capacity i table s0 s1 h (are_emptied s are) framed.same.header framed.same.sound low (framed.same.tables i low ∙ none) only0 new
      counted.begins (fits_in table counted.fits) (subst (λ (x : ℕ). 0 < x) (sym (framed.counts (table / c))) counted.counted) empty free0 m ne ∙ framed.same.tables m lt

  -- names of the file with the empty table
  names0 : (m place : ℕ) → names (layer h G0) capacity m ≡ Some place → (names T capacity m ≡ Some place) ⊎ (place ≡ table)
  names0 m place named = go (same_or_not m (l1_position T i))
    where
      go : (m ≡ l1_position T i) ⊎ (m ≢ l1_position T i) → (names T capacity m ≡ Some place) ⊎ (place ≡ table)
      go (inl e) = inr (many.same_some place table (names (layer h G0) capacity (l1_position T i)) (sym (ap (names (layer h G0) capacity) e) ∙ named) linked_empty.named)
      go (inr ne) = inl (sym (linked_empty.names_kept m ne ∙ framed.same.named m) ∙ named)

  links0 : AreLinks (layer h G0) capacity group to
  links0 = record {
    sector = links.sector;
    inside = links.inside;
    counted = λ k place is. counted_now place (links.counted k place is);
    free = λ k place is m named. free_now k place is m (names0 m place named);
    once = links.once;
  }
    where
      counted_now : (place : ℕ) → IsCounted T place → IsCounted (layer h G0) place
      counted_now place was = record {
        begins = was.begins;
        fits = subst (λ (x : ℕ). place < x) (sym size0) was.fits;
        low = was.low;
        counted = subst (λ (x : ℕ). 0 < x) (sym (counts0 (place / c))) was.counted;
      }

      free_now : (k place : ℕ) → to k ≡ Some place → (m : ℕ) → (names T capacity m ≡ Some place) ⊎ (place ≡ table) → m ≡ entry_position T k
      free_now k place is m (inl was) = links.free k place is m was
      free_now k place is m (inr same) = absurd (other k (is ∙ ap (λ (x : ℕ). Some x) same))

  laid_in : IsLaid to (64 * group) sector s1 s'
  laid_in = record {
    here = outside_l1 sector (other_cluster table p c e sector sectors counted.begins p_whole differ sector_low sector_high) ∙ full.here
        ∙ sym (ap (laid to (64 * group) 64) (emptied_in s' sector sector_low sector_high));
    others = λ k ne. rest k ne (where_is k);
  }
    where
      rest : (k : ℕ) → k ≢ sector → ((table / 512 ≤ k) × (k < (table + c) / 512)) ⊎ ((k < table / 512) ⊎ ((table + c) / 512 ≤ k)) → s' k ≡ s1 k
      rest k ne (inl within) = outside_l1 k (other_cluster table p c e k sectors counted.begins p_whole differ within.0 within.1) ∙ full.others k within.0 within.1 ne ∙ sym (emptied_in s' k within.0 within.1)
      rest k ne (inr out) = sym (emptied_out s' k out)

  entered : Linked h capacity to no_table G0 G
  entered = many.linked n capacity group table to s1 s' h (are_emptied s' are') linked_empty.header linked_empty.sound whole low new links0 laid_in

  byte_now : (k place o : ℕ) → place % c ≡ 0 → IsNamedOnlyAt T capacity (entry_position T k) place → place ≢ table → o < c → G0.byte (place + o) ≡ F.byte (place + o)
  byte_now k place o begins only_entry apart lt =
      other_byte c e p F0 G0 sectors p_whole agree_l1 place o begins lt not_l1 ∙ other_byte c e table F F0 sectors counted.begins agree0 place o begins lt apart
    where
      not_l1 : place ≢ p
      not_l1 same =
          let here = only_entry (1 + i / entries T) (p_named ∙ ap (λ (x : ℕ). Some x) (sym same)) in
          let early = l1_cluster_early T (i / entries T) m0_lt in
          let late = l2_late T (k / entries T) (k % entries T) in
          omega (arith, here, early, late)

  pub filled : Linked h capacity to (one_table i table) F G
  filled = record {
    size = entered.size ∙ size0;
    header = entered.header;
    parent = entered.parent
        ∙ parent_kept n p capacity s0 s1 h (are_emptied s are) framed.same.header p_whole p_not_first (λ k out. ap (λ (x : List ℕ). if inside k then replicate 512 0 else x) (outside_l1 k out))
        ∙ parent_kept n table capacity s s0 h are is counted.begins not_first (λ k out. emptied_out s k out);
    sound = entered.sound;
    entries = λ k. entered.entries k ∙ ap (entry_with (to k)) (linked_empty.entries k ∙ framed.same.entries k);
    tables = λ m lt. entered.tables m lt ∙ tables_now m lt (same_or_not m i);
    blocks = λ b. entered.blocks b ∙ blocks0 b;
    counts = λ x. entered.counts x ∙ counts0 x;
    names = λ m place named. names_now m place (entered.names m place named);
    bytes = λ b. entered.bytes b ∙ bytes_now b (to (b / c)) refl;
    stands = λ k place offset begins only_entry free lt.
        entered.stands k place offset begins (still_free k place only_entry (apart place free)) (λ among. no_such place among) lt ∙ byte_now k place offset begins only_entry (apart place free) lt;
    words = entered.words;
    l1_words = λ m table' is. word_now m table' is (same_or_not m i);
  }
    where
      tables_now : (m : ℕ) → m < h.l1_size → (m ≡ i) ⊎ (m ≢ i) → l1_entry (layer h G0) m ≡ table_with (one_table i table m) (l1_entry T m)
      tables_now m lt (inl e) = ap (l1_entry (layer h G0)) e ∙ new ∙ sym (ap (λ (b : Bool). table_with (if b then Some table else None) (l1_entry T m)) (eq-eqb m i e))
      tables_now m lt (inr ne) = tables0 m lt ne ∙ sym (ap (λ (b : Bool). table_with (if b then Some table else None) (l1_entry T m)) (ne_eqb m i ne))

      one_is : one_table i table i ≡ Some table
      one_is = ap (λ (b : Bool). if b then Some table else None) (eq-eqb i i refl)

      apart : (place : ℕ) → (IsAmong (one_table i table) place → ⊥) → place ≢ table
      apart place free same = free (i, one_is ∙ ap (λ (x : ℕ). Some x) (sym same))

      no_such : (place : ℕ) → IsAmong no_table place → ⊥
      no_such place among = let bad : None ≡ Some place = among.1 in absurd cc

      still_free : (k place : ℕ) → IsNamedOnlyAt T capacity (entry_position T k) place → place ≢ table → IsNamedOnlyAt (layer h G0) capacity (entry_position (layer h G0) k) place
      still_free k place only_entry differ m named = go (names0 m place named)
        where
          go : (names T capacity m ≡ Some place) ⊎ (place ≡ table) → m ≡ entry_position T k
          go (inl was) = only_entry m was
          go (inr same) = absurd (differ same)

      names_now : (m place : ℕ) → (names (layer h G0) capacity m ≡ Some place) ⊎ (IsAmong to place ⊎ IsAmong no_table place)
          → (names T capacity m ≡ Some place) ⊎ (IsAmong to place ⊎ IsAmong (one_table i table) place)
      names_now m place (inl was) = go (names0 m place was)
        where
          go : (names T capacity m ≡ Some place) ⊎ (place ≡ table) → (names T capacity m ≡ Some place) ⊎ (IsAmong to place ⊎ IsAmong (one_table i table) place)
          go (inl was) = inl was
          go (inr same) = inr (inr (i, one_is ∙ ap (λ (x : ℕ). Some x) (sym same)))
      names_now m place (inr (inl among)) = inr (inl among)
      names_now m place (inr (inr among)) = let bad : None ≡ Some place = among.1 in absurd cc

      bytes_now : (b : ℕ) (o : Option ℕ) → to (b / c) ≡ o → byte_with G0 (to (b / c)) (b % c) (own_byte (layer h G0) b) ≡ byte_with F (to (b / c)) (b % c) (own_byte T b)
      bytes_now b None e =
          ap (λ (x : Option ℕ). byte_with G0 x (b % c) (own_byte (layer h G0) b)) e ∙ linked_empty.bytes b ∙ framed.bytes b
          ∙ sym (ap (λ (x : Option ℕ). byte_with F x (b % c) (own_byte T b)) e)
      bytes_now b (Some place) e =
          ap (λ (x : Option ℕ). byte_with G0 x (b % c) (own_byte (layer h G0) b)) e
          ∙ ap (λ (x : ℕ). Some x)
          (byte_now (b / c) place (b % c) (links.counted (b / c) place e).begins (links.free (b / c) place e) (λ same. other (b / c) (e ∙ ap (λ (x : ℕ). Some x) same)) (mod-lt b (pow_pos h.cluster_bits)))
          ∙ sym (ap (λ (x : Option ℕ). byte_with F x (b % c) (own_byte T b)) e)

      word_now : (m table' : ℕ) → one_table i table m ≡ Some table' → (m ≡ i) ⊎ (m ≢ i) → G.word (l1_at T m / 8) ≡ l1_word table'
      word_now m table' is (inl e) =
          let same : table ≡ table' = many.same_some table table' (one_table i table i) one_is (sym (ap (one_table i table) e) ∙ is) in
          ap (λ (x : ℕ). G.word (l1_at T x / 8)) e ∙ word ∙ ap l1_word same
      word_now m table' is (inr ne) =
          let bad : None ≡ Some table' = sym (ap (λ (b : Bool). if b then Some table else None) (ne_eqb m i ne)) ∙ is in
          absurd cc
