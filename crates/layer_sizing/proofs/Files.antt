-- A layer's file with the header of a larger capacity.
use Rattle.std.proofs.Common.{◌≡◌, ◌⊎◌, inl, inr, ℕ, ◌+◌, ◌-◌, ◌*◌, ◌/◌, ◌%◌, ◌^◌, ◌<◌, ◌≤◌, max, Bool, true, false, List, length, get_or, replicate, Some, None, Ok, Err, sym, ap, ◌∙◌, arith, nat_lt}
use Rattle.std.specs.Prelude.{if◌then◌else◌}
use Rattle.std.proofs.lemmas.Bool.{cases_lt}
use Rattle.std.proofs.lemmas.Bool.Decides.{nat_tests}
use Rattle.std.proofs.lemmas.List.{get_or_append_left, get_or_past}
use Rattle.std.proofs.lemmas.Nat.{pow_pos}
use Rattle.std.proofs.Math.Nat.{mul-le-mul_left, mul-le-mul_right, zero-mod}
use Rattle.qcow_format.specs.declared.header.Header.{Header}
use Rattle.qcow_format.specs.Entry.{table_in}
use Rattle.qcow_format.specs.Bytes.{bytes_of, number, put}
use Rattle.qcow_format.specs.Header.{header_of}
use Rattle.qcow_format.specs.Name.{backing_id}
use Rattle.qcow_format.specs.Written.{IsHeader}
use Rattle.qcow_format.proofs.Accepted.{read_is_header}
use Rattle.qcow_format.proofs.Put.{get_or-put_before, get_or-put_behind, length-bytes_of, length-put, number-put_before, number-put_same, number-same}
use Rattle.image_model.specs.File.{file_of, sector_in}
use Rattle.image_model.specs.Layer.{l1_clusters, l1_entry, own_byte}
use Rattle.image_model.specs.Soundness.{IsClean, IsSound, layer_header, layer_header_of, names}
use Rattle.sd_names.specs.declared.fault.LayerFault.TheVariants.{Short, Size}
use Rattle.layer_laws.specs.Laws.{Rebased, SameOutside, layer}
use Rattle.layer_laws.proofs.Capacities as capacities
use Rattle.layer_laws.proofs.Rebases as laws
use Rattle.layer_laws.proofs.Kept.{l1_word_kept}
use Rattle.layer_laws.proofs.Numbers.{cluster_sectors}
use Rattle.layer_laws.proofs.Clusters.{Agrees, agrees}
use Rattle.layer_laws.proofs.Sound.{Shape, clean_of, header_name, header_read, shape_of, sound_of, unique}
use Rattle.layer_writing.specs.Holding.{with_sector}
use Rattle.layer_heading.proofs.Files.{file_head, head_byte, head_length, head_same, in_long, new_head_length, outside_cluster}
use Rattle.layer_heading.proofs.Files as files
use Rattle.layer_heading.proofs.Layers.{Heads, heads}
use Rattle.layer_sizing.specs.Sized.{AreFree, IsEmptyPast, IsSized, bound, l1_size_for, sized, sized_sector, span}
use Rattle.layer_sizing.proofs.Fresh.{fresh}
use Rattle.layer_sizing.proofs.Heads.{IsOther, parent_sized, read_sized}
use Rattle.layer_sizing.proofs.Spans.{ceil_holds, ceil_le, same_rows, span_least, spans, zero_at}

-- a header whose size is a capacity or more is enough for it
enough : (n capacity larger : ℕ) (s r : ℕ → List ℕ) (h next : Header) → layer_header (file_of n s) capacity ≡ Ok h → larger ≤ next.size → header_of (file_of n r).head ≡ Ok next → layer_header (file_of n r) larger ≡ Ok next
unfolding layer_header file_of
enough n capacity larger s r h next is fits read = go (nat_lt (512 * n) 512) is
  where
    large : nat_lt next.size larger ≡ false
    large = grind (arith, nat_tests)

    go : (b : Bool) → (if b then Err Short else layer_header_of capacity (header_of (file_of n s).head)) ≡ Ok h → (if b then Err Short else layer_header_of larger (header_of (file_of n r).head)) ≡ Ok next
    go true e = absurd cc
    go false e = ap (layer_header_of larger) read ∙ ap (λ b. if b then Err (Size next.size) else Ok next) large

-- a longer L1 table within its clusters has as many
same_clusters : (n : ℕ) (r : ℕ → List ℕ) (h : Header) (larger : ℕ) → 12 ≤ h.cluster_bits → larger ≤ bound h
    → l1_clusters (layer (sized h larger) (file_of n r)) ≡ l1_clusters (layer h (file_of n r))
same_clusters n r h larger low most = same_rows h low larger most

module _ (n capacity larger : ℕ) (r : ℕ → List ℕ) (h : Header) (long : (k : ℕ) → length (r k) ≡ 512) (fits : (k i : ℕ) → get_or (r k) i 0 < 256)
    (is : layer_header (file_of n r) capacity ≡ Ok h) (sound : IsSound (file_of n r) capacity) (inside : 2 ^ h.cluster_bits ≤ 512 * n)
    (ge : capacity ≤ larger) (most : larger ≤ bound h) (free : AreFree (layer h (file_of n r)) (l1_size_for h larger)) (empty : IsEmptyPast (layer h (file_of n r)) capacity) where
  abbrev pub next : Header
  next = sized h larger

  abbrev pub first : List ℕ
  first = sized_sector h larger (r 0)

  abbrev pub headed : ℕ → List ℕ
  headed = with_sector 0 first r

  heads_are : Heads h
  heads_are = heads h (shape_of (file_of n r) capacity h is).low

  zero_in : 0 < n
  zero_in = omega (arith, inside, heads_are.wide, heads_are.inside)

  read : header_of (file_of n r).head ≡ Ok h
  read = header_read (file_of n r) capacity h is

  byte_small : (k : ℕ) → get_or (file_of n r).head k 0 < 256
  byte_small k = go (cases_lt k 65_536)
    where
      in_sector : (b : Bool) (j i : ℕ) → get_or (if b then r j else replicate 512 0) i 0 < 256
      in_sector true j i = fits j i
      in_sector false j i = let z = zero_at 512 i in omega (arith, z)

      go : (k < 65_536) ⊎ (65_536 ≤ k) → get_or (file_of n r).head k 0 < 256
      go (inl lt) =
          let e = ap (λ xs. get_or xs k 0) (file_head n 0 (r 0) r (long 0) long r) ∙ head_byte (sector_in n r) (in_long n 0 (r 0) r (long 0) long) 0 128 k (omega (arith, lt)) in
          let small = in_sector (nat_lt (0 + k / 512) n) (0 + k / 512) (k % 512) in
          omega (arith, e, small)
      go (inr le) = let e = get_or_past (file_of n r).head k 0 (omega (arith, head_length n 0 (r 0) r (long 0) long, le)) in omega (arith, e)

  header_is : IsHeader h
  header_is = read_is_header (file_of n r).head (Ok h) byte_small (sym read)

  -- the new size and the new length fit their fields, and the table maps the size
  size_fits : (max h.size larger < 256 ^ 8) × (l1_size_for h larger < 256 ^ 4) × (max h.size larger ≤ l1_size_for h larger * (2 ^ h.cluster_bits / 8 * 2 ^ h.cluster_bits))
  size_fits = (omega (arith, old_size, in_tib), omega (arith, old_length, asked_small), omega (arith, old_maps, new_maps, old_mapped))
    where
      s : ℕ
      s = span h

      low : 12 ≤ h.cluster_bits
      low = (shape_of (file_of n r) capacity h is).low

      in_tib : larger ≤ 2 ^ 40
      in_tib = omega (arith, most)

      old_size : h.size < 256 ^ 8
      old_size = header_is.both_fit.1.1.1.1.1.0

      old_length : h.l1_size < 256 ^ 4
      old_length = header_is.both_fit.1.1.1.1.1.1.1.0

      wide : 2 ^ 21 ≤ s
      wide = span_least h low

      asked_small : (larger + (s - 1)) / s < 256 ^ 4
      asked_small = let lt = ceil_le larger (2 ^ 19) s (spans h low larger most) (let w : 2 ^ 19 * 2 ^ 21 ≤ 2 ^ 19 * s = mul-le-mul_left (2 ^ 19) wide in omega (arith, w, in_tib)) in omega (arith, lt)

      old_mapped : h.size ≤ h.l1_size * s
      old_mapped = header_is.mapped

      old_maps : h.l1_size * s ≤ l1_size_for h larger * s
      old_maps = mul-le-mul_right s (omega arith)

      new_maps : larger ≤ l1_size_for h larger * s
      new_maps =
          let holds = ceil_holds larger s (spans h low larger most) in
          let more : (larger + (s - 1)) / s * s ≤ l1_size_for h larger * s = mul-le-mul_right s (omega arith) in
          omega (arith, holds, more)

  size_bytes : length (bytes_of 8 (max h.size larger)) ≡ 8
  size_bytes = length-bytes_of 8 (max h.size larger)

  l1_bytes : length (bytes_of 4 (l1_size_for h larger)) ≡ 4
  l1_bytes = length-bytes_of 4 (l1_size_for h larger)

  -- the first sector with the new size alone
  abbrev grown : List ℕ
  grown = put 24 (bytes_of 8 (max h.size larger)) (r 0)

  grown_long : length grown ≡ 512
  grown_long = length-put 24 (bytes_of 8 (max h.size larger)) (r 0) (omega (arith, long 0, size_bytes)) ∙ long 0

  pub first_long : length first ≡ 512
  first_long = length-put 36 (bytes_of 4 (l1_size_for h larger)) grown (omega (arith, grown_long, l1_bytes)) ∙ grown_long

  first_byte : (k : ℕ) → IsOther k → get_or first k 0 ≡ get_or (r 0) k 0
  first_byte k other = outer k other ∙ inner k other
    where
      outer : (k : ℕ) → IsOther k → get_or first k 0 ≡ get_or grown k 0
      outer k (inl lt) = get_or-put_before 36 (bytes_of 4 (l1_size_for h larger)) grown k (omega (arith, grown_long)) (omega (arith, lt))
      outer k (inr (inl (low, lt))) = get_or-put_before 36 (bytes_of 4 (l1_size_for h larger)) grown k (omega (arith, grown_long)) lt
      outer k (inr (inr le)) = get_or-put_behind 36 (bytes_of 4 (l1_size_for h larger)) grown k (omega (arith, grown_long)) (omega (arith, l1_bytes, le))

      inner : (k : ℕ) → IsOther k → get_or grown k 0 ≡ get_or (r 0) k 0
      inner k (inl lt) = get_or-put_before 24 (bytes_of 8 (max h.size larger)) (r 0) k (omega (arith, long 0)) lt
      inner k (inr (inl (low, lt))) = get_or-put_behind 24 (bytes_of 8 (max h.size larger)) (r 0) k (omega (arith, long 0)) (omega (arith, size_bytes, low))
      inner k (inr (inr le)) = get_or-put_behind 24 (bytes_of 8 (max h.size larger)) (r 0) k (omega (arith, long 0)) (omega (arith, size_bytes, le))

  abbrev behind : List ℕ
  behind = files.rest n first r first_long long zero_in

  -- a byte of the first sector, in the head
  in_first : (k : ℕ) → k < 512 → get_or (file_of n headed).head k 0 ≡ get_or first k 0
  in_first k lt = ap (λ xs. get_or xs k 0) (files.new_split n first r first_long long zero_in) ∙ get_or_append_left first behind 0 k (omega (arith, first_long, lt))

  head_kept : (k : ℕ) → IsOther k → get_or (file_of n headed).head k 0 ≡ get_or (file_of n r).head k 0
  head_kept k other = go (cases_lt k 512)
    where
      go : (k < 512) ⊎ (512 ≤ k) → get_or (file_of n headed).head k 0 ≡ get_or (file_of n r).head k 0
      go (inl lt) =
          in_first k lt ∙ first_byte k other
          ∙ sym (ap (λ xs. get_or xs k 0) (files.old_split n first r first_long long zero_in) ∙ get_or_append_left (r 0) behind 0 k (omega (arith, long 0, lt)))
      go (inr le) = head_same n 0 first r first_long long k (inr (omega (arith, le)))

  size_is : number 8 24 (file_of n headed).head ≡ max h.size larger
  size_is =
      number-same 8 24 (file_of n headed).head first (λ k ge lt. in_first k (omega (arith, lt)))
      ∙ number-put_before 8 24 36 (bytes_of 4 (l1_size_for h larger)) grown (omega (arith, grown_long)) (omega arith)
      ∙ number-put_same 8 24 (max h.size larger) (r 0) (omega (arith, long 0)) size_fits.0

  l1_is : number 4 36 (file_of n headed).head ≡ l1_size_for h larger
  l1_is =
      number-same 4 36 (file_of n headed).head first (λ k ge lt. in_first k (omega (arith, lt)))
      ∙ number-put_same 4 36 (l1_size_for h larger) grown (omega (arith, grown_long)) size_fits.1

  lengths : length (file_of n headed).head ≡ length (file_of n r).head
  lengths = new_head_length n 0 first r first_long long ∙ sym (head_length n 0 first r first_long long)

  new_read : header_of (file_of n headed).head ≡ Ok next
  new_read = read_sized h (max h.size larger) (l1_size_for h larger) (file_of n r).head (file_of n headed).head read byte_small lengths size_is l1_is size_fits.2 head_kept

  header_old : layer_header (file_of n headed) capacity ≡ Ok next
  header_old = enough n capacity capacity r headed h next is (omega (arith, ge)) new_read

  pub header : layer_header (file_of n headed) larger ≡ Ok next
  header = enough n capacity larger r headed h next is (omega arith) new_read

  pub parent : backing_id next (file_of n headed).head ≡ backing_id h (file_of n r).head
  parent = parent_sized h (max h.size larger) (l1_size_for h larger) (file_of n r).head (file_of n headed).head read byte_small lengths size_is l1_is size_fits.2 head_kept

  -- the L1 table doesn't stand in the first sector
  outside : SameOutside 0 (2 ^ h.cluster_bits) r headed
  outside = outside_cluster n 0 first r first_long long (2 ^ h.cluster_bits) (omega (arith, heads_are.wide, heads_are.inside))

  shape : Shape next
  shape = let s = shape_of (file_of n r) capacity h is in record { low = s.low; high = s.high; l1 = s.l1; table = s.table }

  clean_longer : (m : ℕ) → IsClean (layer next (file_of n r)) capacity m
  clean_longer m =
      laws.clean_longer h (file_of n r) capacity (max h.size larger) (l1_size_for h larger) (omega arith) (same_clusters n r h larger shape.low most) free m
      (clean_of (file_of n r) capacity h is sound m)

  agree : Agrees (2 ^ h.cluster_bits) 0 (file_of n r) (file_of n headed)
  agree = agrees n 0 (2 ^ h.cluster_bits) (2 ^ (h.cluster_bits - 9)) r headed (cluster_sectors h.cluster_bits shape.low) (pow_pos h.cluster_bits) (zero-mod (2 ^ h.cluster_bits)) outside

  not_first : (m : ℕ) → names (layer next (file_of n r)) capacity (1 + m) ≡ Some 0 → ⊥
  not_first m e =
      let same : 1 + m ≡ 0 = unique next (file_of n r) capacity shape clean_longer (1 + m) 0 0 e (header_name next (file_of n r) capacity shape clean_longer) in
      omega (arith, same)

  free_still : (i : ℕ) → h.l1_size ≤ i → i < l1_size_for h larger → l1_entry (layer h (file_of n headed)) i ≡ Ok None
  free_still i le lt =
      let word = l1_word_kept next (file_of n r) (file_of n headed) capacity 0 shape clean_longer (zero-mod (2 ^ h.cluster_bits)) agree i lt (not_first (i / (2 ^ h.cluster_bits / 8))) in
      ap (λ w. table_in w (h.l1_table_offset + 8 * i)) word ∙ free i le lt

  pub same : Rebased h next capacity (file_of n r) (file_of n headed)
  same =
      laws.resized n capacity (max h.size larger) (l1_size_for h larger) r headed h is header_old (omega arith)
      (same_clusters n r h larger (shape_of (file_of n r) capacity h is).low most) free_still
      outside sound

  clean : (m : ℕ) → IsClean (layer next (file_of n headed)) capacity m
  clean = clean_of (file_of n headed) capacity next header_old same.sound

  pub sound_larger : IsSound (file_of n headed) larger
  sound_larger = sound_of (file_of n headed) larger next header (capacities.clean_taller (file_of n headed) capacity larger next ge clean)

  pub is_sized : IsSized h capacity larger (file_of n r) (file_of n headed)
  is_sized = record {
    header = header;
    parent = parent;
    sound = sound_larger;
    named = λ m. capacities.name_taller (file_of n headed) capacity larger next ge clean m ∙ same.named m;
    entries = same.entries;
    fresh = λ k past. same.entries k ∙ fresh n capacity r h is sound k past;
    tables = free_still;
    blocks = same.blocks;
    counts = same.counts;
    below = λ i lt. same.bytes i;
    rest = λ i le. rest_of i (empty i le);
  }
    where
      rest_of : (i : ℕ) → (own_byte (layer h (file_of n r)) i ≡ None) ⊎ (own_byte (layer h (file_of n r)) i ≡ Some 0)
          → (own_byte (layer next (file_of n headed)) i ≡ None) ⊎ (own_byte (layer next (file_of n headed)) i ≡ Some 0)
      rest_of i (inl none) = inl (same.bytes i ∙ none)
      rest_of i (inr blank) = inr (same.bytes i ∙ blank)
