-- Counts of one block change.
use Rattle.std.proofs.Common.{◌≡◌, ◌≢◌, ◌⊎◌, inl, inr, ℕ, ◌+◌, ◌/◌, ◌%◌, ◌^◌, ◌<◌, Bool, false, List, Some, Ok, sym, ap, ◌∙◌, subst, arith, ne_eqb}
use Rattle.std.specs.Prelude.{◌==◌, if◌then◌else◌}
use Rattle.qcow_format.specs.declared.header.Header.{Header}
use Rattle.image_model.specs.File.{File, file_of}
use Rattle.image_model.specs.Layer.{Tables, block_place, block_span, count_of, entries}
use Rattle.image_model.specs.Soundness.{IsClean, IsSound, before_mapping, layer_header, names}
use Rattle.layer_laws.specs.Laws.{AreSectors, BlockRecounted, SameOutside, block_position, count_index, entry_position, l1_position, layer}
use Rattle.layer_laws.proofs.Clusters.{Agrees}
use Rattle.layer_laws.proofs.Frames as frames
use Rattle.layer_laws.proofs.Heads.{header_kept}
use Rattle.layer_laws.proofs.Kept.{byte_kept, count_kept, place_still, same_layer}
use Rattle.layer_laws.proofs.Positions.{block_early, l1_late, l2_late, same_or_not}
use Rattle.layer_laws.proofs.Sound.{Shape, block_name, block_there, clean_of, shape_of}

module _ (n capacity k : ℕ) (s s' : ℕ → List ℕ) (h : Header) (are : AreSectors n s) (is : layer_header (file_of n s) capacity ≡ Ok h) (sound : IsSound (file_of n s) capacity)
    (there : block_place (layer h (file_of n s)) k ≢ 0) (outside : SameOutside (block_place (layer h (file_of n s)) k) (2 ^ h.cluster_bits) s s') where
  abbrev F : File
  F = file_of n s

  abbrev G : File
  G = file_of n s'

  abbrev T : Tables
  T = layer h (file_of n s)

  abbrev c : ℕ
  c = 2 ^ h.cluster_bits

  abbrev p : ℕ
  p = block_place T k

  named : (names T capacity (block_position T k) ≡ Some p) × (p % c ≡ 0)
  named = block_name h F capacity (shape_of F capacity h is) (clean_of F capacity h is sound) k there

  abbrev shape : Shape h
  shape = frames.shape n capacity p s s' h are is sound named.1 outside

  abbrev clean : (m : ℕ) → IsClean T capacity m
  clean = frames.clean n capacity p s s' h are is sound named.1 outside

  not_here : (m : ℕ) → (m ≡ block_position T k → ⊥) → names T capacity m ≡ Some p → ⊥
  not_here = frames.other_than n capacity p s s' h are is sound named.1 outside (block_position T k) named.0

  here_early : block_position T k < before_mapping T
  here_early = block_early T k (block_there h F capacity shape clean k there)

  words : frames.Words n capacity p s s' h are is sound named.1 outside
  words = frames.words_by n capacity p s s' h are is sound named.1 outside (λ m lt. not_here m (λ e. omega (arith, lt, e))) (λ i. not_here (l1_position T i) (λ e. omega (arith, l1_late T i, e, here_early)))

  abbrev agree : Agrees c p F G
  agree = frames.agree n capacity p s s' h are is sound named.1 outside

  other_block : (i : ℕ) → i ≢ k → block_position T i ≡ block_position T k → ⊥
  other_block i other same = other (once i k same)
    where
      once : (i j : ℕ) → block_position T i ≡ block_position T j → i ≡ j
      once i j same = omega (arith, same)

  counts_kept : (y : ℕ) → y / block_span T ≢ k → count_of (layer h G) y ≡ count_of T y
  counts_kept y other = count_kept h F G capacity p shape clean named.1 agree words y (not_here (block_position T (y / block_span T)) (other_block (y / block_span T) other))

  counts_now : (x : ℕ) → x / block_span T ≡ k → count_of (layer h G) x ≡ G.half (count_index T x)
  counts_now x e =
      let some : (block_place T (x / block_span T) == 0) ≡ false = ne_eqb (block_place T (x / block_span T)) 0 (λ z. there (sym (ap (block_place T) e) ∙ z)) in
      ap (λ (b : ℕ). if b == 0 then 0 else G.half (b / 2 + x % block_span T)) (place_still h F G capacity p shape clean named.1 agree words (x / block_span T))
      ∙ ap (λ (b : Bool). if b then 0 else G.half (block_place T (x / block_span T) / 2 + x % block_span T)) some

  pub block_recounted : ((m place : ℕ) → names T capacity m ≡ Some place → place / c / block_span T ≡ k → 0 < G.half (count_index T (place / c))) → BlockRecounted h capacity k F G
  block_recounted some = record {
    same = same_layer h F G capacity p shape clean named.1 agree words (header_kept n p capacity s s' h are is named.1 there outside) counted;
    counts_now = counts_now;
    counts_kept = counts_kept;
    bytes = λ i. byte_kept h F G capacity p shape clean named.1 agree words i (λ place e.
        not_here (entry_position T (i / c)) (λ same. omega (arith, l2_late T (i / c / entries T) (i / c % entries T), same, here_early)));
  }
    where
      counted : (m place : ℕ) → names T capacity m ≡ Some place → 0 < count_of (layer h G) (place / c)
      counted m place name = go (same_or_not (place / c / block_span T) k)
        where
          go : (place / c / block_span T ≡ k) ⊎ (place / c / block_span T ≢ k) → 0 < count_of (layer h G) (place / c)
          go (inl e) = subst (λ n. 0 < n) (sym (counts_now (place / c) e)) (some m place name e)
          go (inr e) = subst (λ n. 0 < n) (sym (counts_kept (place / c) e)) ((clean m).counted place name)
