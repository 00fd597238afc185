-- A layer's file with the next name beside the present one, and then with the next header.
use Rattle.std.proofs.Common.{◌≡◌, ◌⊎◌, inl, inr, ℕ, zero, suc, ◌+◌, ◌-◌, ◌*◌, ◌/◌, ◌%◌, ◌^◌, ◌<◌, ◌≤◌, min, Bool, true, false, List, ◌++◌, length, get_or, take, drop, replicate, Option, Some, None, Result, Ok, Err, refl, sym, ap, ◌∙◌, arith, nat_lt, ne_eqb}
use Rattle.std.specs.Prelude.{◌==◌, ◌&&◌, ◌||◌, not, nat_le, if◌then◌else◌}
use Rattle.std.specs.List.{flat_map, range_with_len}
use Rattle.std.specs.Option.{is_some, option_map}
use Rattle.std.proofs.Math.Nat.{pow-le-pow_right}
use Rattle.std.proofs.lemmas.Bool.{cases_lt, le-leb}
use Rattle.std.proofs.lemmas.List.{ext_get_or, get_or-drop, get_or-take, get_or_append_left, get_or_past, length-drop, length-take}
use Rattle.std.proofs.lemmas.Bool.Decides.{nat_tests}
use Rattle.qcow_format.specs.declared.header.Header.{Header}
use Rattle.qcow_format.specs.Header.{field_fault, has_name, head_size, header_of}
use Rattle.qcow_format.specs.Name.{backing_id, is_id, is_name, last_part, touches}
use Rattle.qcow_format.specs.Bytes.{put}
use Rattle.qcow_format.specs.Written.{IsHeader, written}
use Rattle.sd_names.specs.Id.{IsIdBytes, id_of, id_text}
use Rattle.sd_names.proofs.IdLemmas.{id_text-length}
use Rattle.layer_creating.proofs.Headers.{id_again, text_whole}
use Rattle.layer_heading.specs.Heads.{HasSameShape}
use Rattle.layer_heading.proofs.Writes.{written_again, written_length}
use Rattle.shared_disk.specs.Content.{zero_sector}
use Rattle.image_model.specs.File as image
use Rattle.image_model.specs.File.{file_of, sector_in}
use Rattle.image_model.specs.Layer.{block_place, count_of, is_used}
use Rattle.image_model.specs.Soundness.{IsSound, layer_header, layer_header_of}
use Rattle.sd_names.specs.declared.fault.LayerFault.{LayerFault}
use Rattle.sd_names.specs.declared.fault.LayerFault.TheVariants.{Short, Size}
use Rattle.sd_names.specs.declared.kinds.Format.{Format}
use Rattle.layer_laws.specs.Laws.{Rebased, layer}
use Rattle.layer_laws.proofs.Heads.{layer_header_same}
use Rattle.layer_laws.proofs.Rebases as laws
use Rattle.layer_laws.proofs.Sound.{header_read, shape_of}
use Rattle.layer_laws.proofs.Numbers.{cluster_sectors}
use Rattle.qcow_format.proofs.Accepted.{read_is_header}
use Rattle.qcow_format.proofs.Kept.{kept, part_of}
use Rattle.layer_creating.specs.New.{name_sector}
use Rattle.layer_creating.proofs.Lengths.{name_long}
use Rattle.layer_creating.specs.declared.backing.Backing.{Backing}
use Rattle.layer_writing.specs.Holding.{with_sector}
use Rattle.layer_heading.specs.Rebased.{IsOver, is_touched, name_place, rebased}
use Rattle.layer_heading.proofs.Files.{file_head, head_byte, head_same, head_length, here_in, in_long, in_new_long, new_head_length, other_in, outside_cluster}
use Rattle.layer_heading.proofs.Files as files
use Rattle.layer_heading.proofs.Names.{names_written, parent_kept}

-- ---- where the next name goes

abbrev span : Header → ℕ
span h = head_size h.cluster_bits

-- the head is of whole sectors, eight at least
pub record Heads (h : Header) : Type 0 where
  pub whole : span h % 512 ≡ 0
  pub wide : 4096 ≤ span h
  pub inside : span h ≤ 2 ^ h.cluster_bits
  pub most : span h ≤ 65_536

pub heads : (h : Header) → 12 ≤ h.cluster_bits → Heads h
heads h low =
    let sectors = cluster_sectors h.cluster_bits low in
    let least : 2 ^ 12 ≤ 2 ^ h.cluster_bits = pow-le-pow_right (omega arith) low in
    record {
      whole = whole_head (2 ^ h.cluster_bits) (2 ^ (h.cluster_bits - 9)) sectors;
      wide = omega (arith, least);
      inside = omega arith;
      most = omega arith;
    }
  where
    whole_head : (c q : ℕ) → c ≡ 512 * q → min c 65_536 % 512 ≡ 0
    whole_head c q is = omega (arith, is)

-- the next name's place
abbrev pub Place : Header → Type 0
Place h = (512 * (name_place h / 512) ≡ name_place h) × (span h ≤ name_place h + 1024) × (name_place h + 512 ≤ span h) × (3072 ≤ name_place h)

pub place_of : (h : Header) → Heads h → Place h
place_of h e = by (name_place h) (which (is_touched h (span h - 1024)))
  where
    which : (b : Bool) → ((if b then span h - 512 else span h - 1024) ≡ span h - 512) ⊎ ((if b then span h - 512 else span h - 1024) ≡ span h - 1024)
    which true = inl refl
    which false = inr refl

    by : (p : ℕ) → (p ≡ span h - 512) ⊎ (p ≡ span h - 1024) → (512 * (p / 512) ≡ p) × (span h ≤ p + 1024) × (p + 512 ≤ span h) × (3072 ≤ p)
    by p (inl is) = (omega (arith, is, e.whole, e.wide), omega (arith, is, e.wide), omega (arith, is, e.wide), omega (arith, is, e.wide))
    by p (inr is) = (omega (arith, is, e.whole, e.wide), omega (arith, is, e.wide), omega (arith, is, e.wide), omega (arith, is, e.wide))

-- the present name doesn't stand there
untouched : (h : Header) (head : List ℕ) → has_name head h ≡ true → is_touched h (name_place h) ≡ false
untouched h head named = go (is_touched h (span h - 1024)) refl
  where
    second : (a b c d e off : Bool) → (off || (a && b && not (c && d) && e)) ≡ true → (not off && c) ≡ true → (not off && d) ≡ false
    second a b c d e true n t = refl
    second a b true true e false n t = absurd (no a b n)
      where
        no : (a b : Bool) → (a && b && false && e) ≡ true → ⊥
        no true true n = absurd cc
        no true false n = absurd cc
        no false b n = absurd cc
    second a b true false e false n t = refl
    second a b false d e false n t = absurd cc

    go : (b : Bool) → is_touched h (span h - 1024) ≡ b → is_touched h (if is_touched h (span h - 1024) then span h - 512 else span h - 1024) ≡ false
    go true t =
        ap (λ b. is_touched h (if b then span h - 512 else span h - 1024)) t
        ∙ second (nat_le h.backing_file_size 1023) (nat_le (h.backing_file_offset + h.backing_file_size) (length head))
        (touches h.backing_file_offset h.backing_file_size (span h - 1024)) (touches h.backing_file_offset h.backing_file_size (span h - 512))
        (is_id (last_part (take h.backing_file_size (drop h.backing_file_offset head)))) (h.backing_file_offset == 0) named t
    go false t = ap (λ b. is_touched h (if b then span h - 512 else span h - 1024)) t ∙ t

-- ---- the file with the next name

module _ (n capacity : ℕ) (s : ℕ → List ℕ) (h : Header) (backing : Backing) (long : (k : ℕ) → length (s k) ≡ 512)
    (is : layer_header (file_of n s) capacity ≡ Ok h) (sound : IsSound (file_of n s) capacity) where
  abbrev P : ℕ
  P = name_place h / 512

  low_bits : 12 ≤ h.cluster_bits
  low_bits = (shape_of (file_of n s) capacity h is).low

  head_is : Heads h
  head_is = heads h low_bits

  place : Place h
  place = place_of h head_is

  abbrev named : ℕ → List ℕ
  named = with_sector P (name_sector (Some backing)) s

  read : header_of (file_of n s).head ≡ Ok h
  read = header_read (file_of n s) capacity h is

  free : is_touched h (512 * P) ≡ false
  free = ap (is_touched h) place.0 ∙ untouched h (take (span h) (file_of n s).head) (kept (file_of n s).head h read).1

  lengths : length (file_of n named).head ≡ length (file_of n s).head
  lengths = new_head_length n P (name_sector (Some backing)) s (name_long backing) long ∙ sym (head_length n P (name_sector (Some backing)) s (name_long backing) long)

  below : span h ≤ 512 * P + 1024
  below = omega (arith, place.0, place.1)

  named_read : header_of (file_of n named).head ≡ Ok h
  named_read = names_written h (file_of n s).head (file_of n named).head (512 * P) read lengths below free (head_same n P (name_sector (Some backing)) s (name_long backing) long)

  pub named_header : layer_header (file_of n named) capacity ≡ Ok h
  named_header = layer_header_same n capacity s named h (named_read ∙ sym read) is

  pub named_parent : backing_id h (file_of n named).head ≡ backing_id h (file_of n s).head
  named_parent = parent_kept h (file_of n s).head (file_of n named).head (512 * P) read lengths below free (head_same n P (name_sector (Some backing)) s (name_long backing) long)

  in_cluster : 512 * P + 512 ≤ 2 ^ h.cluster_bits
  in_cluster = omega (arith, place.0, place.2, head_is.inside)

  pub named_same : Rebased h h capacity (file_of n s) (file_of n named)
  named_same = laws.rebased n capacity s named h is sound (outside_cluster n P (name_sector (Some backing)) s (name_long backing) long (2 ^ h.cluster_bits) in_cluster) h named_header refl

-- what is used follows
pub used_same : (h next : Header) (capacity : ℕ) (f g : image.File) (c : ℕ) → next.cluster_bits ≡ h.cluster_bits → Rebased h next capacity f g → is_used (layer next g) c ≡ is_used (layer h f) c
unfolding is_used
used_same h next capacity f g c bits r =
    ap (λ x. nat_lt 0 x || (c % (2 ^ next.cluster_bits / 2) == 0 && block_place (layer next g) (c / (2 ^ next.cluster_bits / 2)) == 0)) (r.counts c)
    ∙ ap (λ x. nat_lt 0 (count_of (layer h f) c) || (c % (2 ^ next.cluster_bits / 2) == 0 && x == 0)) (r.blocks (c / (2 ^ next.cluster_bits / 2)))
    ∙ ap (λ b. nat_lt 0 (count_of (layer h f) c) || (c % (2 ^ b / 2) == 0 && block_place (layer h f) (c / (2 ^ b / 2)) == 0)) bits

-- ---- the file with the next header

-- a header of the same size is enough for the same volume
pub enough : (n capacity : ℕ) (s r : ℕ → List ℕ) (h next : Header) → layer_header (file_of n s) capacity ≡ Ok h → next.size ≡ h.size → header_of (file_of n r).head ≡ Ok next → layer_header (file_of n r) capacity ≡ Ok next
unfolding layer_header file_of
enough n capacity s r h next is size read = go (nat_lt (512 * n) 512) (header_of (file_of n s).head) is
  where
    sized : (x : Header) → (if nat_lt x.size capacity then Err (Size x.size) else Ok x) ≡ Ok h → (if nat_lt next.size capacity then Err (Size next.size) else Ok next) ≡ Ok next
    sized x e = by (nat_lt x.size capacity) refl e
      where
        by : (b : Bool) → nat_lt x.size capacity ≡ b → (if b then Err (Size x.size) else Ok x) ≡ Ok h → (if nat_lt next.size capacity then Err (Size next.size) else Ok next) ≡ Ok next
        by true t e = absurd cc
        by false t e =
            let same : x ≡ h = cc in
            let large : nat_lt next.size capacity ≡ false = ap (λ k. nat_lt k capacity) (size ∙ sym (ap (λ (y : Header). y.size) same)) ∙ t in
            ap (λ b. if b then Err (Size next.size) else Ok next) large

    go : (b : Bool) (q : Result Header LayerFault) → (if b then Err Short else layer_header_of capacity q) ≡ Ok h → (if b then Err Short else layer_header_of capacity (header_of (file_of n r).head)) ≡ Ok next
    go true q e = absurd cc
    go false (Err x) e = absurd cc
    go false (Ok x) e = ap (layer_header_of capacity) read ∙ sized x e

rebased_fault : (h : Header) (backing : Backing) → field_fault (rebased h backing) ≡ field_fault h
unfolding field_fault
rebased_fault h backing = refl

-- the next header by itself
rebased_is_header : (h : Header) (backing : Backing) → Place h → Heads h → IsHeader h → IsHeader (rebased h backing)
rebased_is_header h backing place head is = record {
  both_fit = (is.both_fit.0, (is.both_fit.1.0, (omega (arith, place.2, head.most), (omega arith, is.both_fit.1.1.1.1))));
  later_fit = (is.later_fit.0, (is.later_fit.1.0, (omega arith, is.later_fit.1.1.1)));
  no_fault = rebased_fault h backing ∙ is.no_fault;
  early = λ two. ((is.early two).0, refl, (is.early two).2);
  late = is.late;
  named = sym (ap (λ b. if b then (0, 0) else (name_place h, 36)) (ne_eqb (name_place h) 0 (omega (arith, place.3))));
  room = is.room;
  mapped = is.mapped;
}

rebased_shape : (h : Header) (backing : Backing) → HasSameShape h (rebased h backing)
rebased_shape h backing = record { version = refl; bits = refl; length = refl; l1 = refl; table = refl; format_at = refl; format = mapped_some h.format }
  where
    mapped_some : (o : Option Format) → is_some (option_map (λ _. backing.format) o) ≡ is_some o
    mapped_some None = refl
    mapped_some (Some f) = refl

zero_byte : (m k : ℕ) → get_or (replicate {A = ℕ} m 0) k 0 ≡ 0
zero_byte zero k = refl
zero_byte (suc m) zero = refl
zero_byte (suc m) (suc k) = zero_byte m k

-- a sector that begins with a text
text_byte : (text : List ℕ) (i : ℕ) → i < length text → get_or (put 0 text zero_sector) i 0 ≡ get_or text i 0
unfolding put
text_byte text i lt = get_or_append_left text (drop (length text) (drop 0 zero_sector)) 0 i lt

module _ (n capacity : ℕ) (r : ℕ → List ℕ) (h : Header) (backing : Backing) (bytes : IsIdBytes backing.parent.0) (long : (k : ℕ) → length (r k) ≡ 512)
    (fits : (k i : ℕ) → get_or (r k) i 0 < 256)
    (is : layer_header (file_of n r) capacity ≡ Ok h) (sound : IsSound (file_of n r) capacity) (inside : 2 ^ h.cluster_bits ≤ 512 * n) (name : r (name_place h / 512) ≡ name_sector (Some backing)) where
  abbrev next : Header
  next = rebased h backing

  abbrev Q : ℕ
  Q = name_place h / 512

  heads_are : Heads h
  heads_are = heads h (shape_of (file_of n r) capacity h is).low

  place_is : Place h
  place_is = place_of h heads_are

  r_read : header_of (file_of n r).head ≡ Ok h
  r_read = header_read (file_of n r) capacity h is

  byte_small : (k : ℕ) → get_or (file_of n r).head k 0 < 256
  byte_small k = go (cases_lt k 65_536)
    where
      in_sector : (b : Bool) (j i : ℕ) → get_or (if b then r j else replicate 512 0) i 0 < 256
      in_sector true j i = fits j i
      in_sector false j i = let z = zero_byte 512 i in omega (arith, z)

      go : (k < 65_536) ⊎ (65_536 ≤ k) → get_or (file_of n r).head k 0 < 256
      go (inl lt) =
          let e = ap (λ xs. get_or xs k 0) (file_head n 0 (r 0) r (long 0) long r) ∙ head_byte (sector_in n r) (in_long n 0 (r 0) r (long 0) long) 0 128 k (omega (arith, lt)) in
          let small = in_sector (nat_lt (0 + k / 512) n) (0 + k / 512) (k % 512) in
          omega (arith, e, small)
      go (inr le) = let e = get_or_past (file_of n r).head k 0 (omega (arith, head_length n 0 (r 0) r (long 0) long, le)) in omega (arith, e)

  header_is : IsHeader h
  header_is = read_is_header (file_of n r).head (Ok h) byte_small (sym r_read)

  pub next_is : IsHeader next
  next_is = rebased_is_header h backing place_is heads_are header_is

  abbrev first : List ℕ
  first = written next (r 0)

  pub first_long : length (written next (r 0)) ≡ 512
  first_long = written_length next (r 0) next_is (long 0)

  abbrev headed : ℕ → List ℕ
  headed = with_sector 0 first r

  abbrev rest : List ℕ
  rest = flat_map (sector_in n r) (range_with_len 1 127)

  zero_in : 0 < n
  zero_in = omega (arith, inside, heads_are.wide, heads_are.inside)

  old_split : (file_of n r).head ≡ r 0 ++ rest
  old_split = files.old_split n first r first_long long zero_in

  new_split : (file_of n headed).head ≡ first ++ rest
  new_split = files.new_split n first r first_long long zero_in

  -- the name in the head
  abbrev head' : List ℕ
  head' = (file_of n headed).head

  head_size' : length head' ≡ 65_536
  head_size' = new_head_length n 0 first r first_long long

  q_inside : Q < n
  q_inside = omega (arith, place_is.0, place_is.2, heads_are.inside, inside)

  q_sector : sector_in n headed Q ≡ name_sector (Some backing)
  q_sector =
      other_in n 0 first r first_long long Q (omega (arith, place_is.0, place_is.3))
      ∙ (let e : nat_lt Q n ≡ true = let lt = q_inside in grind (arith, nat_tests) in ap (λ b. if b then r Q else replicate 512 0) e) ∙ name

  name_bytes : take 36 (drop (name_place h) head') ≡ id_text backing.parent.0
  name_bytes =
      ext_get_or 0 (take 36 (drop (name_place h) head')) (id_text backing.parent.0) lengths
      (λ i lt. let small : i < 36 = omega (arith, lt, text, lengths) in byte i small)
    where
      text : length (id_text backing.parent.0) ≡ 36
      text = id_text-length backing.parent.0

      lengths : length (take 36 (drop (name_place h) head')) ≡ length (id_text backing.parent.0)
      lengths = omega (arith, length-take 36 (drop (name_place h) head'), length-drop (name_place h) head', head_size', text, place_is.2, heads_are.most)

      byte : (i : ℕ) → i < 36 → get_or (take 36 (drop (name_place h) head')) i 0 ≡ get_or (id_text backing.parent.0) i 0
      byte i small =
          let at : 0 + (name_place h + i) / 512 ≡ Q = omega (arith, place_is.0, small) in
          let index : (name_place h + i) % 512 ≡ i = omega (arith, place_is.0, small) in
          get_or-take 36 (drop (name_place h) head') i 0 small ∙ get_or-drop (name_place h) head' i 0
          ∙ ap (λ xs. get_or xs (name_place h + i) 0) (file_head n 0 first r first_long long headed)
          ∙ head_byte (sector_in n headed) (in_new_long n 0 first r first_long long) 0 128 (name_place h + i) (omega (arith, place_is.2, heads_are.most, small))
          ∙ ap (λ xs. get_or xs ((name_place h + i) % 512) 0) (ap (sector_in n headed) at ∙ q_sector)
          ∙ ap (λ j. get_or (name_sector (Some backing)) j 0) index
          ∙ text_byte (id_text backing.parent.0) i (omega (arith, small, text))

  name_id : id_of (last_part (take 36 (drop (name_place h) head'))) ≡ Some backing.parent
  name_id = ap (λ xs. id_of (last_part xs)) name_bytes ∙ ap id_of (text_whole backing.parent.0) ∙ id_again backing.parent bytes

  pub new_parent : backing_id next head' ≡ Some backing.parent
  new_parent = ap (λ b. if b then None else id_of (last_part (take 36 (drop (name_place h) head')))) (ne_eqb (name_place h) 0 (omega (arith, place_is.3))) ∙ name_id

  abbrev ys : List ℕ
  ys = take (span h) head'

  has_next_name : has_name (take (head_size next.cluster_bits) (first ++ rest)) next ≡ true
  has_next_name =
      ap (λ xs. has_name (take (span h) xs) next) (sym new_split)
      ∙ ap (λ b. b || is_name ys (span h) (name_place h) 36) (ne_eqb (name_place h) 0 (omega (arith, place_is.3)))
      ∙ four (nat_le (name_place h + 36) (length ys)) (touches (name_place h) 36 (span h - 1024)) (touches (name_place h) 36 (span h - 512)) (is_id (last_part (take 36 (drop (name_place h) ys))))
      fits_in one_sector (ap (λ xs. is_some (id_of (last_part xs))) part ∙ ap (λ o. is_some o) name_id)
    where
      ys_long : length ys ≡ span h
      ys_long = omega (arith, length-take (span h) head', head_size', heads_are.most)

      fits_in : nat_le (name_place h + 36) (length ys) ≡ true
      fits_in = le-leb (name_place h + 36) (length ys) (omega (arith, ys_long, place_is.2))

      part : take 36 (drop (name_place h) ys) ≡ take 36 (drop (name_place h) head')
      part = part_of (span h) (name_place h) 36 head' (omega (arith, ys_long, place_is.2))

      four : (a b c d : Bool) → a ≡ true → (b && c) ≡ false → d ≡ true → (a && not (b && c) && d) ≡ true
      four a b c d e f g = rw (e, f, g) refl

      one_sector : (touches (name_place h) 36 (span h - 1024) && touches (name_place h) 36 (span h - 512)) ≡ false
      one_sector = ends (is_touched h (span h - 1024))
        where
          ends : (b : Bool) → (touches (if b then span h - 512 else span h - 1024) 36 (span h - 1024) && touches (if b then span h - 512 else span h - 1024) 36 (span h - 512)) ≡ false
          ends true = first_no (span h) heads_are.wide
            where
              first_no : (w : ℕ) → 4096 ≤ w → (touches (w - 512) 36 (w - 1024) && touches (w - 512) 36 (w - 512)) ≡ false
              first_no w wide = grind (arith, nat_tests)
          ends false = second_no (span h) heads_are.wide
            where
              second_no : (w : ℕ) → 4096 ≤ w → (touches (w - 1024) 36 (w - 1024) && touches (w - 1024) 36 (w - 512)) ≡ false
              second_no w wide = grind (arith, nat_tests)

  new_read : header_of head' ≡ Ok next
  new_read = ap header_of new_split ∙ written_again h next (r 0) rest (long 0) (ap header_of (sym old_split) ∙ r_read) (rebased_shape h backing) next_is has_next_name

  pub new_header : layer_header (file_of n headed) capacity ≡ Ok next
  new_header = enough n capacity r headed h next is refl new_read

  pub new_same : Rebased h next capacity (file_of n r) (file_of n headed)
  new_same = laws.rebased n capacity r headed h is sound (outside_cluster n 0 first r first_long long (2 ^ h.cluster_bits) (omega (arith, heads_are.wide, heads_are.inside))) next new_header refl

  pub is_over : IsOver h backing capacity (file_of n r) (file_of n headed)
  is_over = record { header = new_header; parent = new_parent; rest = new_same }
