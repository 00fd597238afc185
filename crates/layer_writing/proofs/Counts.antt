-- Counts of a block that are raised.
use Rattle.std.proofs.Common.{◌≡◌, ◌≢◌, ◌⊎◌, inl, inr, ℕ, ◌+◌, ◌-◌, ◌*◌, ◌/◌, ◌%◌, ◌^◌, ◌<◌, ◌≤◌, Bool, true, List, length, Option, Some, sym, ap, ◌∙◌, subst, arith, nat_lt, ne_eqb}
use Rattle.std.specs.Prelude.{if◌then◌else◌, replicate}
use Rattle.std.proofs.Math.Nat.{mod-lt}
use Rattle.std.proofs.lemmas.Bool.Decides.{nat_tests}
use Rattle.sd_names.specs.declared.id.Id.{Id}
use Rattle.shared_disk.specs.Calls.{sectors_in, wrote}
use Rattle.shared_disk.specs.Content.{File, seen, sector_of}
use Rattle.shared_disk.specs.WellFormed.{IsWellFormedFile}
use Rattle.qcow_format.specs.Bytes.{number}
use Rattle.qcow_format.specs.declared.header.Header.{Header}
use Rattle.image_model.specs.File.{file_of, sector_in}
use Rattle.image_model.specs.Layer.{Tables, block_place, block_span, count_of}
use Rattle.image_model.specs.Soundness.{names}
use Rattle.layer_laws.specs.Laws.{BlockRecounted, SameOutside, block_position, count_index, layer}
use Rattle.layer_laws.proofs.Blocks.{block_recounted}
use Rattle.layer_laws.proofs.Heads.{parent_kept}
use Rattle.layer_laws.proofs.Sound.{block_name, clean_of, shape_of}
use Rattle.layer_writing.specs.Holding.{IsKept, IsLike, RaisesCounts, as_seen}
use Rattle.layer_writing.proofs.Likes.{like_itself}
use Rattle.layer_writing.proofs.Sectors.{LaysPiece, laid_outside, seen_laid, seen_lengths}
use Rattle.layer_writing.proofs.Writes.{Facts, Keeps}
use Rattle.qcow_layer.proofs.Knowing.{in_file}

pub half_in : (n w : ℕ) (s : ℕ → List ℕ) → w / 256 < n → (file_of n s).half w ≡ number 2 (w % 256 * 2) (s (w / 256))
unfolding file_of
half_in n w s lt = ap (number 2 (w % 256 * 2)) (in_file n (w / 256) s lt)

pub half_same : (n w : ℕ) (s s' : ℕ → List ℕ) → s' (w / 256) ≡ s (w / 256) → (file_of n s').half w ≡ (file_of n s).half w
unfolding file_of
half_same n w s s' e = ap (λ x. number 2 (w % 256 * 2) (if nat_lt (w / 256) n then x else replicate 512 0)) e

-- a count of a block that is there
pub count_half : (t : Tables) (x : ℕ) → block_place t (x / block_span t) ≢ 0 → count_of t x ≡ t.file.half (count_index t x)
count_half t x some = ap (λ (b : Bool). if b then 0 else t.file.half (count_index t x)) (ne_eqb (block_place t (x / block_span t)) 0 some)

module _ (h : Header) (capacity greatest size room : ℕ) (parent : Option Id) (host at : ℕ) (bytes : List ℕ) (f : File) (formed : IsWellFormedFile f)
    (facts : Facts h capacity greatest size room parent host f) (k : ℕ) (there : block_place (layer h (as_seen host f)) k ≢ 0)
    (low : block_place (layer h (as_seen host f)) k ≤ 512 * at) (high : 512 * (at + sectors_in bytes) ≤ block_place (layer h (as_seen host f)) k + 2 ^ h.cluster_bits)
    (inside : at + sectors_in bytes ≤ f.size) (raises : RaisesCounts (seen host f) at bytes) where
  abbrev T : Tables
  T = layer h (as_seen host f)

  abbrev p : ℕ
  p = block_place T k

  abbrev c : ℕ
  c = 2 ^ h.cluster_bits

  named : (names T capacity (block_position T k) ≡ Some p) × (p % c ≡ 0)
  named = block_name h (as_seen host f) capacity (shape_of (as_seen host f) capacity h facts.header) (clean_of (as_seen host f) capacity h facts.header facts.sound) k there

  outside : (s s' : ℕ → List ℕ) → LaysPiece at bytes s s' → SameOutside p c s s'
  outside s s' laid i out = laid_outside at bytes s s' laid i (go p c (sectors_in bytes) low high out)
    where
      go : (p c n : ℕ) → p ≤ 512 * at → 512 * (at + n) ≤ p + c → (i < p / 512) ⊎ ((p + c) / 512 ≤ i) → (i < at) ⊎ (at + n ≤ i)
      go p c n low high (inl lt) = inl (omega (arith, low, lt))
      go p c n low high (inr le) = inr (omega (arith, high, le))

  module _ (s s' : ℕ → List ℕ) (long : (i : ℕ) → length (s i) ≡ 512) (like : IsLike h capacity (as_seen host f) (file_of f.size s)) (laid : LaysPiece at bytes s s') where
    abbrev S : Tables
    S = layer h (file_of f.size s)

    -- the count of a cluster that is named, where it stands in the block
    module _ (m place : ℕ) (name : names S capacity m ≡ Some place) (in_block : place / c / block_span S ≡ k) where
      abbrev x : ℕ
      x = place / c

      abbrev w : ℕ
      w = count_index S (place / c)

      same_place : block_place S (x / block_span S) ≡ block_place T (x / block_span S)
      same_place = like.same.blocks (x / block_span S)

      here : block_place T (x / block_span S) ≢ 0
      here e = there (sym (ap (block_place T) in_block) ∙ e)

      before : 0 < (file_of f.size s).half w
      before = subst (λ n. 0 < n) (count_half S x (λ e. here (sym same_place ∙ e))) ((clean_of (file_of f.size s) capacity h like.same.header like.same.sound m).counted place name)

      seen_before : w / 256 < f.size → 0 < number 2 (w % 256 * 2) (seen host f (w / 256))
      seen_before lt =
          let name' : names T capacity m ≡ Some place = sym (like.same.named m) ∙ name in
          let pos : 0 < count_of T x = (clean_of (as_seen host f) capacity h facts.header facts.sound m).counted place name' in
          let half : 0 < (as_seen host f).half (count_index T x) = subst (λ n. 0 < n) (count_half T x here) pos in
          let moved : 0 < (as_seen host f).half w = subst (λ b. 0 < (as_seen host f).half (b / 2 + x % block_span S)) (sym same_place) half in
          subst (λ n. 0 < n) (half_in f.size w (seen host f) lt) moved

      laid_count : (at ≤ w / 256) → (w / 256 < at + sectors_in bytes) → s' (w / 256) ≡ sector_of bytes (w / 256 - at) → 0 < (file_of f.size s').half w
      laid_count le lt e =
          let within : w / 256 < f.size = omega (arith, lt, inside) in
          subst (λ n. 0 < n) (sym (half_in f.size w s' within ∙ ap (number 2 (w % 256 * 2)) e))
          (go (raises (w / 256 - at) (w % 256) (omega (arith, le, lt)) (mod-lt w (omega arith))) within)
        where
          back : at + (w / 256 - at) ≡ w / 256
          back = omega (arith, le)

          go : (number 2 (w % 256 * 2) (sector_of bytes (w / 256 - at)) ≡ number 2 (w % 256 * 2) (seen host f (at + (w / 256 - at)))) ⊎ (0 < number 2 (w % 256 * 2) (sector_of bytes (w / 256 - at)))
              → w / 256 < f.size → 0 < number 2 (w % 256 * 2) (sector_of bytes (w / 256 - at))
          go (inl same) within = subst (λ n. 0 < n) (sym (same ∙ ap (λ i. number 2 (w % 256 * 2) (seen host f i)) back)) (seen_before within)
          go (inr pos) within = pos

      counted : 0 < (file_of f.size s').half w
      counted = go (laid.sectors (w / 256))
        where
          go : (s' (w / 256) ≡ s (w / 256)) ⊎ ((at ≤ w / 256) × (w / 256 < at + sectors_in bytes) × (s' (w / 256) ≡ sector_of bytes (w / 256 - at))) → 0 < (file_of f.size s').half w
          go (inl e) = subst (λ n. 0 < n) (sym (half_same f.size w s s' e)) before
          go (inr a) = laid_count a.0 a.1 a.2

    outside_here : SameOutside (block_place S k) c s s'
    outside_here = subst (λ a. SameOutside a c s s') (sym (like.same.blocks k)) (outside s s' laid)

    recounted : BlockRecounted h capacity k (file_of f.size s) (file_of f.size s')
    recounted = block_recounted f.size capacity k s s' h (λ i lt. long i) like.same.header like.same.sound (λ e. there (sym (like.same.blocks k) ∙ e)) outside_here counted

    keeps_here : IsKept h capacity (file_of f.size s) (file_of f.size s')
    keeps_here = record {
      like = record { same = recounted.same; parent = parent_kept f.size p capacity s s' h (λ i lt. long i) like.same.header named.1 there (outside s s' laid) };
      bytes = recounted.bytes;
    }

  pub counts_keep : Keeps h capacity greatest size room parent host at bytes f formed facts
  counts_keep s s' long like laid = keeps_here s s' long like laid

  -- as the host sees it, the counts of the block are those in its sectors, and all others stay
  pub counts_seen : (did : ℕ → Bool) → BlockRecounted h capacity k (as_seen host f) (as_seen host (wrote did host at bytes f))
  counts_seen did = recounted (seen host f) (seen host (wrote did host at bytes f)) (seen_lengths host f formed) (like_itself h capacity (as_seen host f) facts.header facts.sound) (seen_laid did host at bytes f)
