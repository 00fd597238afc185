-- An entry of the refcount table that named no block names one.
use Rattle.std.proofs.Common.{◌≡◌, ◌≢◌, ◌⊎◌, inl, inr, ℕ, ◌+◌, ◌-◌, ◌*◌, ◌/◌, ◌%◌, ◌^◌, ◌<◌, Bool, true, false, List, Option, Some, None, Ok, refl, sym, ap, ◌∙◌, subst, arith, ne_eqb}
use Rattle.std.specs.Prelude.{◌==◌, if◌then◌else◌}
use Rattle.std.proofs.lemmas.Nat.{div_below, pow_pos}
use Rattle.sd_names.specs.declared.fault.LayerFault.TheVariants.{MixedBits}
use Rattle.qcow_format.specs.declared.header.Header.{Header}
use Rattle.image_model.specs.File.{File, file_of}
use Rattle.image_model.specs.Layer.{Tables, block_at, block_place, block_span, block_word, count_of, entries, entry_at, l1_clusters, l1_entry, l2_entry}
use Rattle.image_model.specs.Soundness.{IsClean, IsSound, Item, before_mapping, item, layer_header, names, own_fault, placed}
use Rattle.layer_laws.specs.Laws.{AreSectors, OnlyWord, Placed, SameOutside, block_position, entry_position, l1_position, layer}
use Rattle.layer_laws.proofs.Clusters.{Agrees, other_half}
use Rattle.layer_laws.proofs.Frames as frames
use Rattle.layer_laws.proofs.Heads.{header_kept}
use Rattle.layer_laws.proofs.Items.{block_item_by, block_item_same, block_word_same, entry_same, item_by, l1_entry_same, l2_entry_same, mapping_item_same}
use Rattle.layer_laws.proofs.Kept.{byte_by, count_by, half_kept, l2_word_kept, span_lt}
use Rattle.layer_laws.proofs.Numbers.{behind, cluster_sectors, row_of, whole_sector}
use Rattle.layer_laws.proofs.Places.{item_block}
use Rattle.layer_laws.proofs.Positions.{l1_late, l2_late, same_or_not, table_cluster_early}
use Rattle.layer_laws.proofs.Recounts.{other_word_kept, word_outside}
use Rattle.layer_laws.proofs.Renamed.{clean_with, placed_fine}
use Rattle.layer_laws.proofs.Sound.{Shape, clean_of, entry_lt, entry_width, shape_of, sound_of, table_cluster_name}

-- an entry that names a block
block_placed : (h : Header) (at word : ℕ) → word % 512 ≡ 0 → word ≢ 0
    → block_item_by h at word ≡ record { at = at; wrong = if word % 2 ^ h.cluster_bits == 0 then None else Some (MixedBits at); name = Some word }
block_placed h at word whole some =
    let same : word / 512 * 512 ≡ word = omega (arith, whole) in
    let e : (word % 512 == 0) ≡ true = ap (λ n. n == 0) whole in
    let f : (word / 512 * 512 == 0) ≡ false = ap (λ n. n == 0) same ∙ ne_eqb word 0 some in
    rw e (rw f (ap (λ x. record { at = at; wrong = if x % 2 ^ h.cluster_bits == 0 then None else Some (MixedBits at); name = Some x }) same))

module _ (n capacity k block : ℕ) (s s' : ℕ → List ℕ) (h : Header) (are : AreSectors n s) (is : layer_header (file_of n s) capacity ≡ Ok h) (sound : IsSound (file_of n s) capacity)
    (low : k < h.refcount_table_clusters * entries (layer h (file_of n s))) (none : block_place (layer h (file_of n s)) k ≡ 0)
    (only : OnlyWord (block_at (layer h (file_of n s)) k / 8) s s') (new : block_word (layer h (file_of n s')) k ≡ block) (there : block ≢ 0)
    (begins : block % 2 ^ h.cluster_bits ≡ 0) (fits : block < 512 * n) (own : block / 2 ^ h.cluster_bits / block_span (layer h (file_of n s)) ≡ k)
    (some : 0 < (file_of n s).half (block / 2 + block / 2 ^ h.cluster_bits % block_span (layer h (file_of n s)))) where
  abbrev F : File
  F = file_of n s

  abbrev G : File
  G = file_of n s'

  abbrev T : Tables
  T = layer h (file_of n s)

  abbrev U : Tables
  U = layer h (file_of n s')

  abbrev c : ℕ
  c = 2 ^ h.cluster_bits

  abbrev q : ℕ
  q = 2 ^ (h.cluster_bits - 9)

  -- the cluster of the refcount table in which the entry stands
  abbrev m0 : ℕ
  m0 = k / entries T

  abbrev p : ℕ
  p = h.refcount_table_offset + k / entries (layer h (file_of n s)) * 2 ^ h.cluster_bits

  width : c ≡ 8 * entries T
  width = entry_width h F capacity (shape_of F capacity h is) (clean_of F capacity h is sound)

  sectors : c ≡ 512 * q
  sectors = cluster_sectors h.cluster_bits (shape_of F capacity h is).low

  column : k % entries T < entries T
  column = entry_lt h F capacity (shape_of F capacity h is) (clean_of F capacity h is sound) k

  m0_lt : m0 < h.refcount_table_clusters
  m0_lt = div_below k (entries T) h.refcount_table_clusters (omega (arith, column)) low

  named : names T capacity (1 + l1_clusters T + m0) ≡ Some p
  named = table_cluster_name h F capacity (shape_of F capacity h is) (clean_of F capacity h is sound) m0 m0_lt

  whole : p % c ≡ 0
  whole = behind h.refcount_table_offset m0 c (pow_pos h.cluster_bits) (shape_of F capacity h is).table

  outside : SameOutside p c s s'
  outside = word_outside p c q (k % entries T) (block_at T k / 8) s s' sectors whole column (ap (λ x. x / 8) (row_of h.refcount_table_offset k (entries T) c width)) only

  abbrev shape : Shape h
  shape = frames.shape n capacity p s s' h are is sound whole outside

  abbrev clean : (m : ℕ) → IsClean T capacity m
  clean = frames.clean n capacity p s s' h are is sound whole outside

  abbrev agree : Agrees c p F G
  agree = frames.agree n capacity p s s' h are is sound whole outside

  not_here : (m : ℕ) → (m ≡ 1 + l1_clusters T + m0 → ⊥) → names T capacity m ≡ Some p → ⊥
  not_here = frames.other_than n capacity p s s' h are is sound whole outside (1 + l1_clusters T + m0) named

  early : 1 + l1_clusters T + m0 < before_mapping T
  early = table_cluster_early T m0 m0_lt

  block_other : (b : ℕ) → b ≢ k → block_word U b ≡ block_word T b
  block_other b ne = block_word_same h F G capacity b (λ lt. other_word_kept n (block_at T b / 8) (block_at T k / 8) s s' only (λ e. apart h.refcount_table_offset b k ne e))
    where
      apart : (o a b : ℕ) → a ≢ b → (o + 8 * a) / 8 ≡ (o + 8 * b) / 8 → ⊥
      apart o a b ne e = ne (omega (arith, e))

  l1_still : (m : ℕ) → m < h.l1_size → l1_entry U m ≡ l1_entry T m
  l1_still m lt = l1_entry_same h F G capacity m (frames.l1_by n capacity p s s' h are is sound whole outside (λ m lt. not_here (1 + m) (λ e. omega (arith, lt, e))) m lt)

  l2_still : (i' j' table' : ℕ) → i' < h.l1_size → j' < entries T → l1_entry T i' ≡ Ok (Some table') → l2_entry U table' j' ≡ l2_entry T table' j'
  l2_still i' j' table' lt lt' e = l2_entry_same h F G capacity table' j' (l2_word_kept h F G capacity p shape clean whole agree i' j' table' lt lt' e (not_here (l1_position T i') (λ same. omega (arith, l1_late T i', same, early))))

  abbrev here : ℕ
  here = block_position T k

  others : (m : ℕ) → m ≢ here → item U capacity m ≡ item T capacity m
  others m ne = item_by h F G capacity m
      (λ b lt e. block_item_same h F G capacity b (block_other b (λ same. ne (e ∙ ap (block_position T) same))))
      (λ i' r lt e. mapping_item_same h F G capacity i' r lt (l1_still i') (λ table' low' is some. l2_still i' (r - 1) table' low' (omega (arith, lt, some)) is))

  block_whole : block % 512 ≡ 0
  block_whole = whole_sector block c q sectors begins

  item_here : item U capacity here ≡ placed U (block_at T k) block
  item_here = item_block U capacity k low ∙ ap (λ w. block_item_by h (block_at T k) w) new ∙ block_placed h (block_at T k) block block_whole there

  name_here : names U capacity here ≡ Some block
  name_here = ap (λ (x : Item). x.name) item_here

  size_of : F.size ≡ 512 * n
  unfolding file_of
  size_of = refl

  fine : own_fault F.size (item U capacity here) ≡ None
  fine = ap (own_fault F.size) item_here ∙ placed_fine U (block_at T k) block F.size begins (omega (arith, fits, size_of))

  -- ---- counts

  uncounted : (x : ℕ) → x / block_span T ≡ k → count_of T x ≡ 0
  uncounted x e = ap (λ b. if b == 0 then 0 else F.half (b / 2 + x % block_span T)) (ap (block_place T) e ∙ none)

  unnamed : (m : ℕ) → names T capacity m ≡ Some block → ⊥
  unnamed m e = let a = (clean m).counted block e in let b = uncounted (block / c) own in omega (arith, a, b)

  pub counts_kept : (x : ℕ) → x / block_span T ≢ k → count_of U x ≡ count_of T x
  counts_kept x ne =
      count_by h F G capacity p shape clean whole agree x (ap (λ w. w / 512 * 512) (block_other (x / block_span T) ne)) (λ there.
      half_kept h F G capacity p shape clean whole agree (x / block_span T) (x % block_span T) there (span_lt h F G capacity p shape clean whole agree x)
      (not_here (block_position T (x / block_span T)) (λ e. omega (arith, e, m0_lt))))

  place_here : block_place U k ≡ block
  place_here = ap (λ w. w / 512 * 512) new ∙ omega (arith, block_whole)

  pub counts_new : (x : ℕ) → x / block_span T ≡ k → count_of U x ≡ F.half (block / 2 + x % block_span T)
  counts_new x e =
      let test : (block == 0) ≡ false = ne_eqb block 0 there in
      ap (λ (b : ℕ). if b == 0 then 0 else G.half (b / 2 + x % block_span T)) (ap (block_place U) e ∙ place_here)
      ∙ ap (λ (b : Bool). if b then 0 else G.half (block / 2 + x % block_span T)) test
      ∙ other_half c q p F G sectors whole agree block (x % block_span T) (block / 2 + x % block_span T) begins (span_lt h F G capacity p shape clean whole agree x) refl
      (λ same. unnamed (1 + l1_clusters T + m0) (named ∙ ap (λ (x : ℕ). Some x) (sym same)))

  counted : (m r : ℕ) → names U capacity m ≡ Some r → 0 < count_of U (r / c)
  counted m r e = go (same_or_not m here)
    where
      same_some : (a b : ℕ) (o : Option ℕ) → o ≡ Some a → o ≡ Some b → a ≡ b
      same_some a b o e f = cc

      go : (m ≡ here) ⊎ (m ≢ here) → 0 < count_of U (r / c)
      go (inl at) =
          let same : block ≡ r = same_some block r (names U capacity here) name_here (sym (ap (names U capacity) at) ∙ e) in
          subst (λ x. 0 < count_of U (x / c)) same (subst (λ x. 0 < x) (sym (counts_new (block / c) own)) some)
      go (inr ne) =
          let old = (clean m).counted r (sym (ap (λ (x : Item). x.name) (others m ne)) ∙ e) in
          subst (λ x. 0 < x) (sym (counts_kept (r / c) (λ at. let z = uncounted (r / c) at in omega (arith, old, z)))) old

  header : layer_header G capacity ≡ Ok h
  header = header_kept n p capacity s s' h are is whole (frames.not_first n capacity p s s' h are is sound whole outside (1 + l1_clusters T + m0) named (λ e. omega (arith, e))) outside

  entry_still : (m : ℕ) → entry_at U m ≡ entry_at T m
  entry_still m = entry_same h F G capacity m (l1_still (m / entries T)) (λ table' low' is. l2_still (m / entries T) (m % entries T) table' low' (entry_lt h F capacity shape clean m) is)

  pub covered : Placed h capacity here block F G
  covered = record {
    header = header;
    sound = sound_of G capacity h header (clean_with h F G capacity here block clean agree.size fine name_here others (λ m e. absurd (unnamed m e)) counted);
    named = name_here;
    names_kept = λ m ne. ap (λ (x : Item). x.name) (others m ne);
    entries = entry_still;
    bytes = λ x. byte_by h F G capacity p shape clean whole agree x (entry_still (x / c)) (λ place e.
        not_here (entry_position T (x / c)) (λ same. omega (arith, l2_late T (x / c / entries T) (x / c % entries T), same, early)));
  }
