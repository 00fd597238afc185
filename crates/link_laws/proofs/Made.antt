-- A table is made in a cluster that nothing names, and then it is named.
use Rattle.std.proofs.Common.{◌≡◌, ◌≢◌, ◌⊎◌, inl, inr, ℕ, ◌+◌, ◌-◌, ◌*◌, ◌/◌, ◌%◌, ◌^◌, ◌<◌, Bool, List, Option, Some, None, Ok, refl, sym, ap, ◌∙◌, subst, eq-eqb}
use Rattle.std.specs.Prelude.{if◌then◌else◌}
use Rattle.std.proofs.Math.Nat.{mod-lt}
use Rattle.std.proofs.lemmas.Nat.{pow_pos}
use Rattle.qcow_format.specs.Name.{backing_id}
use Rattle.qcow_format.specs.declared.header.Header.{Header}
use Rattle.image_model.specs.File.{File, file_of}
use Rattle.image_model.specs.Layer.{l1_at, l1_entry, own_byte}
use Rattle.image_model.specs.Soundness.{IsSound, layer_header, names}
use Rattle.layer_laws.specs.Laws.{AreSectors, IsNamedOnlyAt, OnlyWord, SameContent, SameOutside, entry_position, layer}
use Rattle.layer_laws.proofs.Clusters.{agrees, other_byte}
use Rattle.layer_laws.proofs.Frames as frames
use Rattle.layer_laws.proofs.Heads.{parent_kept}
use Rattle.layer_laws.proofs.Numbers.{cluster_sectors}
use Rattle.layer_laws.proofs.Sound.{clean_of, header_name, shape_of}
use Rattle.link_laws.specs.Links.{AreLinks, IsAmong, IsCounted, IsFilled, IsNewTable, Linked, byte_with, entry_with, l1_word, one_table, row_of, sector_at, table_with}
use Rattle.link_laws.proofs.Filled.{filled}

module _ (h : Header) (capacity : ℕ) (to : ℕ → Option ℕ) (f g : File) (size : g.size ≡ f.size) (kept : SameContent h capacity f g) where
  counted_now : (place : ℕ) → IsCounted (layer h f) place → IsCounted (layer h g) place
  counted_now place was = record {
    begins = was.begins;
    fits = subst (λ (x : ℕ). place < x) (sym size) was.fits;
    low = was.low;
    counted = subst (λ (x : ℕ). 0 < x) (sym (kept.counts (place / 2 ^ h.cluster_bits))) was.counted;
  }

  -- what was known of the places stays so while the layer says the same
  pub links_now : (group : ℕ) → AreLinks (layer h f) capacity group to → AreLinks (layer h g) capacity group to
  links_now group links = record {
    sector = links.sector;
    inside = links.inside;
    counted = λ k place is. counted_now place (links.counted k place is);
    free = λ k place is m named. links.free k place is m (sym (kept.same.named m) ∙ named);
    once = links.once;
  }

  -- entries that were made later
  pub linked_after : (behind : ℕ → Option ℕ) (e : File) → backing_id h g.head ≡ backing_id h f.head
      → ((k place o : ℕ) → to k ≡ Some place → o < 2 ^ h.cluster_bits → g.byte (place + o) ≡ f.byte (place + o))
      → ((k place o : ℕ) → place % 2 ^ h.cluster_bits ≡ 0 → IsNamedOnlyAt (layer h f) capacity (entry_position (layer h f) k) place → (IsAmong behind place → ⊥) → o < 2 ^ h.cluster_bits → g.byte (place + o) ≡ f.byte (place + o))
      → Linked h capacity to behind g e → Linked h capacity to behind f e
  linked_after behind e parent held stood linked = record {
    size = linked.size ∙ size;
    header = linked.header;
    parent = linked.parent ∙ parent;
    sound = linked.sound;
    entries = λ k. linked.entries k ∙ ap (entry_with (to k)) (kept.same.entries k);
    tables = λ i lt. linked.tables i lt ∙ ap (table_with (behind i)) (kept.same.tables i lt);
    blocks = λ b. linked.blocks b ∙ kept.same.blocks b;
    counts = λ x. linked.counts x ∙ kept.counts x;
    names = λ m place is. named m place (linked.names m place is);
    bytes = λ i. linked.bytes i ∙ byte_now i (to (i / 2 ^ h.cluster_bits)) refl;
    stands = λ k place o begins only free lt. linked.stands k place o begins (λ m named. only m (sym (kept.same.named m) ∙ named)) free lt ∙ stood k place o begins only free lt;
    words = linked.words;
    l1_words = linked.l1_words;
  }
    where
      named : (m place : ℕ) → (names (layer h g) capacity m ≡ Some place) ⊎ (IsAmong to place ⊎ IsAmong behind place)
          → (names (layer h f) capacity m ≡ Some place) ⊎ (IsAmong to place ⊎ IsAmong behind place)
      named m place (inl was) = inl (sym (kept.same.named m) ∙ was)
      named m place (inr given) = inr given

      byte_now : (i : ℕ) (o : Option ℕ) → to (i / 2 ^ h.cluster_bits) ≡ o
          → byte_with g o (i % 2 ^ h.cluster_bits) (own_byte (layer h g) i) ≡ byte_with f o (i % 2 ^ h.cluster_bits) (own_byte (layer h f) i)
      byte_now i None e = kept.bytes i
      byte_now i (Some place) e = ap (λ (b : ℕ). Some b) (held (i / 2 ^ h.cluster_bits) place (i % 2 ^ h.cluster_bits) e (mod-lt i (pow_pos h.cluster_bits)))

module _ (n capacity group table : ℕ) (to : ℕ → Option ℕ) (s t s' : ℕ → List ℕ) (h : Header) (are : AreSectors n s) (are_t : AreSectors n t) (are' : AreSectors n s')
    (is : layer_header (file_of n s) capacity ≡ Ok h) (sound : IsSound (file_of n s) capacity) (whole : 512 * n % 2 ^ h.cluster_bits ≡ 0)
    (low : row_of (layer h (file_of n s)) group < h.l1_size) (none : l1_entry (layer h (file_of n s)) (row_of (layer h (file_of n s)) group) ≡ Ok None)
    (links : AreLinks (layer h (file_of n s)) capacity group to) (new : IsNewTable (layer h (file_of n s)) capacity to table)
    (outside : SameOutside table (2 ^ h.cluster_bits) s t)
    (full : IsFilled to (64 * group) (sector_at (layer h (file_of n s)) table group) table (2 ^ h.cluster_bits) t)
    (only : OnlyWord (l1_at (layer h (file_of n s)) (row_of (layer h (file_of n s)) group) / 8) t s')
    (word : (file_of n s').word (l1_at (layer h (file_of n s)) (row_of (layer h (file_of n s)) group) / 8) ≡ l1_word table) where
  abbrev F : File
  F = file_of n s

  abbrev M : File
  M = file_of n t

  abbrev G : File
  G = file_of n s'

  same_size : M.size ≡ F.size
  unfolding file_of
  same_size = refl

  framed : SameContent h capacity F M
  framed = frames.frame n capacity table s t h are is sound new.counted.begins outside new.unnamed

  not_first : table ≢ 0
  not_first same = new.unnamed 0 (header_name h F capacity (shape_of F capacity h is) (clean_of F capacity h is sound) ∙ ap (λ (x : ℕ). Some x) (sym same))

  held : (k place o : ℕ) → to k ≡ Some place → o < 2 ^ h.cluster_bits → M.byte (place + o) ≡ F.byte (place + o)
  held k place o given lt =
      let sectors = cluster_sectors h.cluster_bits (shape_of F capacity h is).low in
      other_byte (2 ^ h.cluster_bits) (2 ^ (h.cluster_bits - 9)) table F M sectors new.counted.begins
      (agrees n table (2 ^ h.cluster_bits) (2 ^ (h.cluster_bits - 9)) s t sectors (pow_pos h.cluster_bits) new.counted.begins outside)
      place o (links.counted k place given).begins lt (λ same. new.other k (given ∙ ap (λ (x : ℕ). Some x) same))

  stood : (k place o : ℕ) → place % 2 ^ h.cluster_bits ≡ 0 → IsNamedOnlyAt (layer h F) capacity (entry_position (layer h F) k) place
      → (IsAmong (one_table (row_of (layer h (file_of n s)) group) table) place → ⊥) → o < 2 ^ h.cluster_bits → M.byte (place + o) ≡ F.byte (place + o)
  stood k place o begins only free lt =
      let sectors = cluster_sectors h.cluster_bits (shape_of F capacity h is).low in
      other_byte (2 ^ h.cluster_bits) (2 ^ (h.cluster_bits - 9)) table F M sectors new.counted.begins
      (agrees n table (2 ^ h.cluster_bits) (2 ^ (h.cluster_bits - 9)) s t sectors (pow_pos h.cluster_bits) new.counted.begins outside)
      place o begins lt (λ same. free (row_of (layer h (file_of n s)) group, one_is ∙ ap (λ (x : ℕ). Some x) (sym same)))
    where
      one_is : one_table (row_of (layer h (file_of n s)) group) table (row_of (layer h (file_of n s)) group) ≡ Some table
      one_is = ap (λ (b : Bool). if b then Some table else None) (eq-eqb (row_of (layer h (file_of n s)) group) (row_of (layer h (file_of n s)) group) refl)

  pub linked : Linked h capacity to (one_table (row_of (layer h (file_of n s)) group) table) F G
  linked = linked_after h capacity to F M same_size framed (one_table (row_of (layer h (file_of n s)) group) table) G
      (parent_kept n table capacity s t h are is new.counted.begins not_first outside) held stood
      (filled n capacity group table to t s' h are_t are' framed.same.header framed.same.sound whole low (framed.same.tables (row_of (layer h (file_of n s)) group) low ∙ none)
      (links_now h capacity to F M same_size framed group links)
      (counted_now h capacity to F M same_size framed table new.counted)
      (λ m named. new.unnamed m (sym (framed.same.named m) ∙ named)) new.other full only word)
