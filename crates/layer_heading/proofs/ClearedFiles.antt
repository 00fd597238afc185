-- A layer's file in which the features that a writer clears are 0.
use Rattle.std.proofs.Common.{◌≡◌, ◌≢◌, ◌⊎◌, inl, inr, ℕ, ◌*◌, ◌/◌, ◌%◌, ◌^◌, ◌<◌, ◌≤◌, List, length, get_or, slice_index, replicate, Ok, refl, sym, ap, ◌∙◌, arith, nat_lt, true}
use Rattle.std.specs.Prelude.{if◌then◌else◌}
use Rattle.std.proofs.lemmas.Bool.{cases_lt}
use Rattle.std.proofs.lemmas.Bool.Decides.{nat_tests}
use Rattle.std.proofs.lemmas.List.{get_or_append_left}
use Rattle.byteorder.specs.Endian.{big_number}
use Rattle.qcow_format.specs.Bytes.{number}
use Rattle.qcow_format.specs.declared.header.Header.{Header}
use Rattle.qcow_format.specs.Header.{header_of}
use Rattle.qcow_format.proofs.Put.{get_or-put_before, get_or-put_behind, length-put}
use Rattle.image_model.specs.File.{file_of, sector_in}
use Rattle.image_model.specs.Soundness.{IsSound, layer_header}
use Rattle.layer_laws.specs.Laws.{Rebased}
use Rattle.layer_laws.proofs.Rebases as laws
use Rattle.layer_laws.proofs.Sound.{header_read, shape_of}
use Rattle.layer_writing.specs.Holding.{with_sector}
use Rattle.layer_heading.specs.Cleared.{IsCleared, cleared, cleared_sector}
use Rattle.layer_heading.proofs.Cleared.{parent_cleared, read_cleared}
use Rattle.layer_heading.proofs.Files.{head_length, head_same, here_in, new_head_length, new_split, old_split, other_in, outside_cluster, rest}
use Rattle.layer_heading.proofs.Layers.{Heads, enough, heads}
use Rattle.layer_heading.proofs.Writes.{from_format}

module _ (n capacity : ℕ) (r : ℕ → List ℕ) (h : Header) (some : h.autoclear_features ≢ 0) (long : (k : ℕ) → length (r k) ≡ 512)
    (is : layer_header (file_of n r) capacity ≡ Ok h) (sound : IsSound (file_of n r) capacity) (inside : 2 ^ h.cluster_bits ≤ 512 * n) where
  abbrev first : List ℕ
  first = cleared_sector (r 0)

  abbrev headed : ℕ → List ℕ
  headed = with_sector 0 first r

  pub first_long : length first ≡ 512
  first_long = length-put 88 (replicate 8 0) (r 0) (omega (arith, long 0)) ∙ long 0

  heads_are : Heads h
  heads_are = heads h (shape_of (file_of n r) capacity h is).low

  zero_in : 0 < n
  zero_in = omega (arith, inside, heads_are.wide, heads_are.inside)

  first_byte : (k : ℕ) → (k < 88) ⊎ (96 ≤ k) → get_or first k 0 ≡ get_or (r 0) k 0
  first_byte k (inl lt) = get_or-put_before 88 (replicate 8 0) (r 0) k (omega (arith, long 0)) lt
  first_byte k (inr le) = get_or-put_behind 88 (replicate 8 0) (r 0) k (omega (arith, long 0)) le

  head_kept : (k : ℕ) → (k < 88) ⊎ (96 ≤ k) → get_or (file_of n headed).head k 0 ≡ get_or (file_of n r).head k 0
  head_kept k side = go (cases_lt k 512)
    where
      go : (k < 512) ⊎ (512 ≤ k) → get_or (file_of n headed).head k 0 ≡ get_or (file_of n r).head k 0
      go (inl lt) =
          ap (λ xs. get_or xs k 0) (new_split n first r first_long long zero_in) ∙ get_or_append_left first (rest n first r first_long long zero_in) 0 k (omega (arith, first_long, lt))
          ∙ first_byte k side
          ∙ sym (ap (λ xs. get_or xs k 0) (old_split n first r first_long long zero_in) ∙ get_or_append_left (r 0) (rest n first r first_long long zero_in) 0 k (omega (arith, long 0, lt)))
      go (inr le) = head_same n 0 first r first_long long k (inr (omega (arith, le)))

  features : number 8 88 (file_of n headed).head ≡ 0
  unfolding number
  features =
      ap (number 8 88) (new_split n first r first_long long zero_in)
      ∙ ap (big_number 8) (from_format 88 (replicate 8 0) (r 0) (rest n first r first_long long zero_in) (omega (arith, long 0)))

  lengths : length (file_of n headed).head ≡ length (file_of n r).head
  lengths = new_head_length n 0 first r first_long long ∙ sym (head_length n 0 first r first_long long)

  read : header_of (file_of n r).head ≡ Ok h
  read = header_read (file_of n r) capacity h is

  header : layer_header (file_of n headed) capacity ≡ Ok (cleared h)
  header = enough n capacity r headed h (cleared h) is refl (read_cleared h (file_of n r).head (file_of n headed).head read some lengths features head_kept)

  bytes_kept : (i : ℕ) → (i < 88) ⊎ (96 ≤ i) → (file_of n headed).byte i ≡ (file_of n r).byte i
  unfolding file_of
  bytes_kept i side = go (cases_lt i 512)
    where
      sector : sector_in n r 0 ≡ r 0
      sector = ap (λ t. if t then r 0 else replicate 512 0) (let lt = zero_in in let e : nat_lt 0 n ≡ true = grind (arith, nat_tests) in e)

      go : (i < 512) ⊎ (512 ≤ i) → slice_index (sector_in n headed (i / 512)) (i % 512) ≡ slice_index (sector_in n r (i / 512)) (i % 512)
      go (inl lt) =
          let at : i / 512 ≡ 0 = omega (arith, lt) in
          let index : i % 512 ≡ i = omega (arith, lt) in
          ap (λ k. slice_index (sector_in n headed k) (i % 512)) at ∙ ap (slice_index (sector_in n headed 0)) index
          ∙ ap (λ xs. slice_index xs i) (here_in n 0 first r first_long long zero_in) ∙ first_byte i side ∙ sym (ap (λ xs. slice_index xs i) sector)
          ∙ sym (ap (λ k. slice_index (sector_in n r k) (i % 512)) at ∙ ap (slice_index (sector_in n r 0)) index)
      go (inr le) = ap (λ xs. slice_index xs (i % 512)) (other_in n 0 first r first_long long (i / 512) (λ e. let high : 1 ≤ i / 512 = omega (arith, le) in omega (arith, e, high)))

  rest_kept : Rebased h (cleared h) capacity (file_of n r) (file_of n headed)
  rest_kept = laws.rebased n capacity r headed h is sound (outside_cluster n 0 first r first_long long (2 ^ h.cluster_bits) (omega (arith, heads_are.wide, heads_are.inside))) (cleared h) header refl

  pub is_cleared : IsCleared h capacity (file_of n r) (file_of n headed)
  is_cleared = record {
    header = header;
    parent = parent_cleared h (file_of n r).head (file_of n headed).head read some lengths features head_kept;
    others = bytes_kept;
    rest = rest_kept;
  }
