-- One count of a block changes.
use Rattle.std.proofs.Common.{◌≡◌, ◌≢◌, ◌⊎◌, inl, inr, ℕ, ◌+◌, ◌-◌, ◌*◌, ◌/◌, ◌%◌, ◌^◌, ◌<◌, ◌≤◌, Bool, true, false, List, Some, Ok, refl, sym, ap, ◌∙◌, subst, arith, nat_lt, ne_eqb}
use Rattle.std.specs.Prelude.{◌==◌, if◌then◌else◌, replicate}
use Rattle.std.proofs.Math.Nat.{mod-lt}
use Rattle.std.proofs.lemmas.Nat.{pow_pos}
use Rattle.qcow_format.specs.Bytes.{number}
use Rattle.qcow_format.specs.declared.header.Header.{Header}
use Rattle.image_model.specs.File.{File, file_of, sector_in}
use Rattle.image_model.specs.Layer.{Tables, block_place, block_span, count_of, entries}
use Rattle.image_model.specs.Soundness.{IsClean, IsSound, before_mapping, layer_header, names}
use Rattle.layer_laws.specs.Laws.{AreSectors, OnlyHalf, OnlyWord, Recounted, SameOutside, block_position, count_index, entry_position, l1_position, layer}
use Rattle.layer_laws.proofs.Clusters.{Agrees}
use Rattle.layer_laws.proofs.Frames as frames
use Rattle.layer_laws.proofs.Heads.{header_kept}
use Rattle.layer_laws.proofs.Kept.{byte_kept, count_kept, count_still, place_still, same_layer}
use Rattle.layer_laws.proofs.Numbers.{cluster_sectors, whole_sector}
use Rattle.layer_laws.proofs.Positions.{block_early, l1_late, l2_late, same_or_not, same_parts}
use Rattle.layer_laws.proofs.Sound.{Shape, block_name, block_there, clean_of, shape_of}

-- ---- one number changes

-- numbers of `size` bytes, `per` in a sector
other_number : (n size per v w : ℕ) (s s' : ℕ → List ℕ) → 0 < per → ((k : ℕ) → k ≢ w / per → s' k ≡ s k)
    → ((m : ℕ) → m < per → m ≢ w % per → number size (m * size) (s' (w / per)) ≡ number size (m * size) (s (w / per))) → v ≢ w
    → number size (v % per * size) (sector_in n s' (v / per)) ≡ number size (v % per * size) (sector_in n s (v / per))
other_number n size per v w s s' some others rest other = go (same_or_not (v / per) (w / per))
  where
    inside : v / per ≡ w / per → (b : Bool) → number size (v % per * size) (if b then s' (w / per) else replicate 512 0) ≡ number size (v % per * size) (if b then s (w / per) else replicate 512 0)
    inside e true = rest (v % per) (mod-lt v some) (λ low. other (same_parts v w per e low))
    inside e false = refl

    go : (v / per ≡ w / per) ⊎ (v / per ≢ w / per) → number size (v % per * size) (sector_in n s' (v / per)) ≡ number size (v % per * size) (sector_in n s (v / per))
    go (inl e) =
        ap (λ k. number size (v % per * size) (sector_in n s' k)) e ∙ inside e (nat_lt (w / per) n) ∙ ap (λ k. number size (v % per * size) (sector_in n s k)) (sym e)
    go (inr ne) = ap (λ x. number size (v % per * size) (if nat_lt (v / per) n then x else replicate 512 0)) (others (v / per) ne)

pub other_half_kept : (n v w : ℕ) (s s' : ℕ → List ℕ) → OnlyHalf w s s' → v ≢ w → (file_of n s').half v ≡ (file_of n s).half v
unfolding file_of
other_half_kept n v w s s' only other = other_number n 2 256 v w s s' (omega arith) only.others only.rest other

pub other_word_kept : (n v w : ℕ) (s s' : ℕ → List ℕ) → OnlyWord w s s' → v ≢ w → (file_of n s').word v ≡ (file_of n s).word v
unfolding file_of
other_word_kept n v w s s' only other = other_number n 8 64 v w s s' (omega arith) only.others only.rest other

-- the cluster in which it stands is the one that changes
pub half_outside : (p c q j w : ℕ) (s s' : ℕ → List ℕ) → c ≡ 512 * q → p % c ≡ 0 → j < c / 2 → w ≡ p / 2 + j → OnlyHalf w s s' → SameOutside p c s s'
half_outside p c q j w s s' is even lt at only k out = only.others k (λ e. go (whole_sector p c q is even) e out)
  where
    go : p % 512 ≡ 0 → k ≡ w / 256 → (k < p / 512) ⊎ ((p + c) / 512 ≤ k) → ⊥
    go sectors e (inl low) = omega (arith, is, sectors, lt, at, e, low)
    go sectors e (inr high) = omega (arith, is, sectors, lt, at, e, high)

pub word_outside : (p c q j w : ℕ) (s s' : ℕ → List ℕ) → c ≡ 512 * q → p % c ≡ 0 → j < c / 8 → w ≡ (p + 8 * j) / 8 → OnlyWord w s s' → SameOutside p c s s'
word_outside p c q j w s s' is even lt at only k out = only.others k (λ e. go (whole_sector p c q is even) e out)
  where
    go : p % 512 ≡ 0 → k ≡ w / 64 → (k < p / 512) ⊎ ((p + c) / 512 ≤ k) → ⊥
    go sectors e (inl low) = omega (arith, is, sectors, lt, at, e, low)
    go sectors e (inr high) = omega (arith, is, sectors, lt, at, e, high)

-- ---- a count

module _ (n capacity x : ℕ) (s s' : ℕ → List ℕ) (h : Header) (are : AreSectors n s) (is : layer_header (file_of n s) capacity ≡ Ok h) (sound : IsSound (file_of n s) capacity)
    (there : block_place (layer h (file_of n s)) (x / block_span (layer h (file_of n s))) ≢ 0)
    (only : OnlyHalf (count_index (layer h (file_of n s)) x) s s') where
  abbrev F : File
  F = file_of n s

  abbrev G : File
  G = file_of n s'

  abbrev T : Tables
  T = layer h (file_of n s)

  abbrev c : ℕ
  c = 2 ^ h.cluster_bits

  abbrev kb : ℕ
  kb = x / block_span T

  abbrev p : ℕ
  p = block_place T (x / block_span T)

  named : (names T capacity (block_position T kb) ≡ Some p) × (p % c ≡ 0)
  named = block_name h F capacity (shape_of F capacity h is) (clean_of F capacity h is sound) kb there

  span_some : (y : ℕ) → y % block_span T < block_span T
  span_some y = mod-lt y (half c (2 ^ (h.cluster_bits - 9)) (cluster_sectors h.cluster_bits (shape_of F capacity h is).low) (pow_pos h.cluster_bits))
    where
      half : (c' q' : ℕ) → c' ≡ 512 * q' → 0 < c' → 0 < c' / 2
      half c' q' is pos = omega (arith, is, pos)

  outside : SameOutside p c s s'
  outside = half_outside p c (2 ^ (h.cluster_bits - 9)) (x % block_span T) (count_index T x) s s' (cluster_sectors h.cluster_bits (shape_of F capacity h is).low) named.1 (span_some x) refl only

  abbrev shape : Shape h
  shape = frames.shape n capacity p s s' h are is sound named.1 outside

  abbrev clean : (m : ℕ) → IsClean T capacity m
  clean = frames.clean n capacity p s s' h are is sound named.1 outside

  not_here : (m : ℕ) → (m ≡ block_position T kb → ⊥) → names T capacity m ≡ Some p → ⊥
  not_here = frames.other_than n capacity p s s' h are is sound named.1 outside (block_position T kb) named.0

  here_early : block_position T kb < before_mapping T
  here_early = block_early T kb (block_there h F capacity shape clean kb there)

  words : frames.Words n capacity p s s' h are is sound named.1 outside
  words = frames.words_by n capacity p s s' h are is sound named.1 outside (λ m lt. not_here m (λ e. omega (arith, lt, e))) (λ i. not_here (l1_position T i) (λ e. omega (arith, l1_late T i, e, here_early)))

  abbrev agree : Agrees c p F G
  agree = frames.agree n capacity p s s' h are is sound named.1 outside

  -- another count of the block, or one of another block
  pub counts_kept : (y : ℕ) → y ≢ x → count_of (layer h G) y ≡ count_of T y
  counts_kept y other = go (same_or_not (y / block_span T) kb)
    where
      go : (y / block_span T ≡ kb) ⊎ (y / block_span T ≢ kb) → count_of (layer h G) y ≡ count_of T y
      go (inl e) = count_still h F G capacity p shape clean named.1 agree words y (λ some.
          other_half_kept n (count_index T y) (count_index T x) s s' only (λ same. other (same_parts y x (block_span T) e (low (ap (block_place T) e) same))))
        where
          low : block_place T (y / block_span T) ≡ p → count_index T y ≡ count_index T x → y % block_span T ≡ x % block_span T
          low e same = equal (block_place T (y / block_span T)) p (y % block_span T) (x % block_span T) e same
            where
              equal : (a b i j : ℕ) → a ≡ b → a / 2 + i ≡ b / 2 + j → i ≡ j
              equal a b i j e f = let g : a / 2 ≡ b / 2 = ap (λ m. m / 2) e in omega (arith, f, g)
      go (inr e) = count_kept h F G capacity p shape clean named.1 agree words y (not_here (block_position T (y / block_span T)) (λ same. e (once (y / block_span T) kb same)))
        where
          once : (i j : ℕ) → block_position T i ≡ block_position T j → i ≡ j
          once i j same = omega (arith, same)

  pub count_now : count_of (layer h G) x ≡ G.half (count_index T x)
  count_now =
      let some : (p == 0) ≡ false = ne_eqb p 0 there in
      ap (λ (b : ℕ). if b == 0 then 0 else G.half (b / 2 + x % block_span T)) (place_still h F G capacity p shape clean named.1 agree words kb)
      ∙ ap (λ (b : Bool). if b then 0 else G.half (p / 2 + x % block_span T)) some

  pub recounted : ((m place : ℕ) → names T capacity m ≡ Some place → place / c ≡ x → 0 < G.half (count_index T x)) → Recounted h capacity x (G.half (count_index T x)) F G
  recounted some = record {
    same = same_layer h F G capacity p shape clean named.1 agree words (header_kept n p capacity s s' h are is named.1 there outside) counted;
    count_now = count_now;
    counts_kept = counts_kept;
    bytes = λ i. byte_kept h F G capacity p shape clean named.1 agree words i (λ place e.
        not_here (entry_position T (i / c)) (λ same. omega (arith, l2_late T (i / c / entries T) (i / c % entries T), same, here_early)));
  }
    where
      counted : (m place : ℕ) → names T capacity m ≡ Some place → 0 < count_of (layer h G) (place / c)
      counted m place name = go (same_or_not (place / c) x)
        where
          go : (place / c ≡ x) ⊎ (place / c ≢ x) → 0 < count_of (layer h G) (place / c)
          go (inl e) = subst (λ n. 0 < n) (sym (ap (count_of (layer h G)) e ∙ count_now)) (some m place name e)
          go (inr e) = subst (λ n. 0 < n) (sym (counts_kept (place / c) e)) ((clean m).counted place name)
