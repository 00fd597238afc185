-- A sector that was wanted, taken in.
use Rattle.std.proofs.Common.{◌≡◌, ◌⊎◌, inl, inr, ℕ, ◌+◌, ◌-◌, ◌*◌, ◌/◌, ◌%◌, ◌^◌, ◌<◌, ◌≤◌, min, max, Bool, true, List, Option, Some, None, refl, sym, ap, ◌∙◌, subst, arith, nat_lt}
use Rattle.std.specs.Prelude.{if◌then◌else◌}
use Rattle.std.specs.Int.{div_ceil}
use Rattle.std.proofs.lemmas.Bool.{cases_lt}
use Rattle.std.proofs.lemmas.Bool.Decides.{nat_tests}
use Rattle.std.proofs.lemmas.Nat.{pow_pos}
use Rattle.std.proofs.Math.Nat.{mul-le-mul_left, mul-mod_left}
use Rattle.qcow_format.specs.Bytes.{number}
use Rattle.qcow_format.specs.declared.header.Header.{Header}
use Rattle.image_model.specs.File.{File}
use Rattle.image_model.specs.Layer.{Tables, block_at, block_place, block_span, block_word, count_of, is_used}
use Rattle.layer_walk.specs.Counting.{AtBlock, Counted, CountsBlock, FewerBehind, FewerSectors, HasBlockRow, HasCounts, IsBehind, IsSector, MapsFile, PassesCounts, Scans, Takes, Turns, block_parts, counts_in, sectors_left, table_entries, table_rows}
use Rattle.layer_walk.specs.Bits.{room_of}
use Rattle.layer_walk.specs.declared.count.Count.{Count}
use Rattle.layer_walk.specs.declared.count.Count.TheVariants.{Block, Row}
use Rattle.layer_walk.specs.declared.count.Spot.{Spot}
use Rattle.layer_walk.specs.declared.marks.Marks.{Marks}
use Rattle.layer_walk.proofs.Ranges.{keeps_both, maps_still}
use Rattle.layer_walk.proofs.Spans.{count_present, pages, span_of, span_whole, times_whole, used_counted}
use Rattle.layer_walk.proofs.Turns.{counted_past}

-- ---- fewer sectors are left

parts_some : (h : Header) → 12 ≤ h.cluster_bits → 1 ≤ block_parts h
parts_some h low = let p = pages h.cluster_bits low in let q = pow_pos (h.cluster_bits - 12) in omega (arith, p, q)

-- a block more is not behind
one_less : (q a b c : ℕ) → a < b → b ≤ c → q * a + q ≤ q * c
one_less q a b c lt le = let e : q * (a + 1) ≤ q * c = mul-le-mul_left q (omega (arith, lt, le)) in let split : q * (a + 1) ≡ q * a + q = omega arith in omega (arith, e, split)

in_rows : (total i : ℕ) → i < total → i / 64 < (total + 63) / 64
in_rows total i lt = omega (arith, lt)

-- behind the row of an entry and its blocks
pub left_behind : (h : Header) (blocks : ℕ → ℕ) (k : ℕ) (next : Count) → 12 ≤ h.cluster_bits → FewerBehind blocks → CountsBlock h blocks next → IsBehind h k next
    → sectors_left h blocks next ≤ (table_rows h - (k / 64 + 1)) + block_parts h * blocks k × (k / 64 < table_rows h)
left_behind h blocks k (Row i) low fewer counts is =
    let lt = in_rows (h.refcount_table_clusters * (2 ^ h.cluster_bits / 8)) i is.1 in
    let le : block_parts h * blocks i ≤ block_parts h * blocks k = mul-le-mul_left (block_parts h) (fewer k i (omega (arith, is.0))) in
    (omega (arith, is.0, le), omega (arith, is.0, lt))
left_behind h blocks k (Block spot) low fewer counts is =
    let lt = in_rows (h.refcount_table_clusters * (2 ^ h.cluster_bits / 8)) spot.entry is.3 in
    let le = one_less (block_parts h) (blocks (spot.entry + 1)) (blocks spot.entry) (blocks k) (counts is.3) (fewer k spot.entry is.0) in
    (omega (arith, is.1, is.2, le, parts_some h low), omega (arith, is.1, lt))

pub row_falls : (h : Header) (k : ℕ) (result : Option Count) → 12 ≤ h.cluster_bits → ((count : Count) → result ≡ Some count → IsBehind h k count) → FewerSectors h (Row k) result
row_falls h k None low behind = tt
row_falls h k (Some next) low behind = λ blocks fewer counts. let l = left_behind h blocks k next low fewer counts (behind next refl) in omega (arith, l.0, l.1)

-- ---- a row of the table

pub row_sector : (file : File) (header : Header) (k : ℕ) (sector : List ℕ) → k % 64 ≡ 0 → IsSector file (header.refcount_table_offset + 8 * k) sector → HasBlockRow (counts_in header file) k sector
row_sector file header k sector whole is i near within =
    is.words (i % 64) (omega arith)
    ∙ ap file.word (same header.refcount_table_offset k i whole near)
    ∙ sym (ap (λ (b : Bool). if b then file.word (block_at (counts_in header file) i / 8) else 0) (below i (table_entries (counts_in header file)) within))
  where
    same : (o k i : ℕ) → k % 64 ≡ 0 → i / 64 ≡ k / 64 → (o + 8 * k) / 8 + i % 64 ≡ (o + 8 * i) / 8
    same o k i whole near = omega (arith, whole, near)

    below : (a b : ℕ) → a < b → nat_lt a b ≡ true
    below a b lt = grind (arith, nat_tests)

pub took_row : (header : Header) (k : ℕ) (sector : List ℕ) (before after : Marks) (result : Option Count) → 12 ≤ header.cluster_bits → Scans header k sector before after result → Takes header (Row k) sector before after result
took_row header k sector before after result low scans = record {
  keeps = scans.keeps;
  counts = λ file room named maps at is.
      scans.counts file room named maps (omega (arith, at.inside)) (omega (arith, at.below)) (row_sector file header k sector at.whole is) at.counted;
  falls = row_falls header k result low scans.next;
}

-- ---- a sector of a block

module _ (header : Header) (spot : Spot) (sector : List ℕ) (before middle : Marks) (low : 12 ≤ header.cluster_bits) where
  abbrev first : ℕ
  first = spot.entry * (2 ^ header.cluster_bits / 2) + 256 * spot.part

  -- the counts of the sector
  module _ (file : File) (room : ℕ) (named : ℕ → Bool) (maps : MapsFile (counts_in header file) room named before) (at : AtBlock (counts_in header file) room named before spot) (is : IsSector file (spot.place + 512 * spot.part) sector) where
    place_whole : spot.place % 512 ≡ 0
    place_whole = subst (λ n. n % 512 ≡ 0) at.block (mul-mod_left (block_word (counts_in header file) spot.entry / 512) 512)

    part_inside : (j : ℕ) → j < 256 → 256 * spot.part + j < 2 ^ header.cluster_bits / 2
    part_inside j lt = let s = span_of header.cluster_bits low in omega (arith, at.part, lt, s)

    regroup : (a b j : ℕ) → a + (b + j) ≡ a + b + j
    regroup a b j = omega arith

    has_counts : HasCounts (counts_in header file) first sector
    has_counts = record {
      count = λ j lt.
          is.halves j lt
          ∙ ap file.half (same spot.place spot.part j place_whole)
          ∙ sym (count_present (counts_in header file) spot.entry (256 * spot.part + j) spot.place (part_inside j lt) at.block at.some)
          ∙ ap (count_of (counts_in header file)) (regroup (spot.entry * (2 ^ header.cluster_bits / 2)) (256 * spot.part) j);
      used = λ j lt.
          subst (λ n. is_used (counts_in header file) n ≡ nat_lt 0 (count_of (counts_in header file) n)) (regroup (spot.entry * (2 ^ header.cluster_bits / 2)) (256 * spot.part) j)
          (used_counted (counts_in header file) spot.entry (256 * spot.part + j) spot.place (part_inside j lt) at.block at.some);
    }
      where
        same : (p s j : ℕ) → p % 512 ≡ 0 → (p + 512 * s) / 2 + j ≡ p / 2 + (256 * s + j)
        same p s j even = omega (arith, even)

    first_whole : first % 256 ≡ 0
    first_whole = let e = times_whole spot.entry (2 ^ header.cluster_bits / 2) (span_whole header.cluster_bits low) in omega (arith, e)

    room_end : first + 256 ≤ room
    room_end = rounded first room first_whole maps.whole at.below
      where
        rounded : (a b : ℕ) → a % 256 ≡ 0 → b % 256 ≡ 0 → a < b → a + 256 ≤ b
        rounded a b e f lt = omega (arith, e, f, lt)

    pub taken_counts : PassesCounts first sector before middle → Counted (counts_in header file) room named middle (first + 256)
    taken_counts passes = passes.counts (counts_in header file) room named maps room_end has_counts at.counted

    -- no more of them are in this block, or in the map
    pub taken_block : PassesCounts first sector before middle → min ((spot.entry + 1) * (2 ^ header.cluster_bits / 2)) room ≤ first + 256
        → Counted (counts_in header file) room named middle ((spot.entry + 1) * (2 ^ header.cluster_bits / 2))
    taken_block passes end = go (cases_lt ((spot.entry + 1) * (2 ^ header.cluster_bits / 2)) room)
      where
        -- the sector ends where the block does, or before
        within : first + 256 ≤ (spot.entry + 1) * (2 ^ header.cluster_bits / 2)
        within = let w = width (2 ^ header.cluster_bits / 2) spot.entry in let e = part_inside 255 (omega arith) in omega (arith, w, e)
          where
            width : (s k : ℕ) → (k + 1) * s ≡ k * s + s
            width s k = omega arith

        go : ((spot.entry + 1) * (2 ^ header.cluster_bits / 2) < room) ⊎ (room ≤ (spot.entry + 1) * (2 ^ header.cluster_bits / 2)) → Counted (counts_in header file) room named middle ((spot.entry + 1) * (2 ^ header.cluster_bits / 2))
        go (inl less) = subst (Counted (counts_in header file) room named middle) (omega (arith, less, end, within)) (taken_counts passes)
        go (inr more) =
            counted_past (counts_in header file) room named middle (first + 256) ((spot.entry + 1) * (2 ^ header.cluster_bits / 2)) (omega (arith, more, end)) more (taken_counts passes)

  module _ (passes : PassesCounts first sector before middle) where
    end_of : (room : ℕ) (named : ℕ → Bool) (t : Tables) → MapsFile t room named before → (n : ℕ) → min ((spot.entry + 1) * (2 ^ header.cluster_bits / 2)) (room_of middle.free) ≤ n → min ((spot.entry + 1) * (2 ^ header.cluster_bits / 2)) room ≤ n
    end_of room named t maps n end = subst (λ r. min ((spot.entry + 1) * (2 ^ header.cluster_bits / 2)) r ≤ n) (passes.keeps.room ∙ maps.many) end

    -- the next sector of the block
    pub took_part : (next : Spot) → next.entry ≡ spot.entry → next.place ≡ spot.place → next.part ≡ spot.part + 1 → next.row ≡ spot.row
        → first + 256 < min ((spot.entry + 1) * (2 ^ header.cluster_bits / 2)) (room_of middle.free) → Takes header (Block spot) sector before middle (Some (Block next))
    took_part next entry place part row more = record {
      keeps = passes.keeps;
      counts = λ file room named maps at is.
          let t = counts_in header file in
          let here : first + 256 ≡ next.entry * block_span t + 256 * next.part = moved spot.entry spot.part (block_span t) next.entry next.part entry part in
          record {
            counted = subst (Counted t room named middle) here (taken_counts file room named maps at is passes);
            inside = subst (λ n. n < table_entries t) (sym entry) at.inside;
            part = subst (λ n. 256 * n < block_span t) (sym part) (in_block spot.entry spot.part (block_span t) (omega (arith, more)));
            below = subst (λ n. n < room) here (subst (λ n. first + 256 < n) (passes.keeps.room ∙ maps.many) (omega (arith, more)));
            block = ap (block_place t) entry ∙ at.block ∙ sym place;
            some = subst (λ n. 0 < n) (sym place) at.some;
            row = λ i near w. ap (number 8 (8 * (i % 64))) row ∙ at.row i (near ∙ ap (λ n. n / 64) entry) w;
          };
      falls = λ blocks fewer counts.
          let s = span_of header.cluster_bits low in
          let p = pages header.cluster_bits low in
          let within = in_block spot.entry spot.part (2 ^ header.cluster_bits / 2) (omega (arith, more)) in
          let less : max 1 (block_parts header - next.part) < max 1 (block_parts header - spot.part) = omega (arith, part, within, s, p) in
          let same : (table_rows header - (next.entry / 64 + 1)) + block_parts header * blocks (next.entry + 1) ≡ (table_rows header - (spot.entry / 64 + 1)) + block_parts header * blocks (spot.entry + 1)
          = ap (λ n. (table_rows header - (n / 64 + 1)) + block_parts header * blocks (n + 1)) entry in
          omega (arith, less, same);
    }
      where
        moved : (k s w k' s' : ℕ) → k' ≡ k → s' ≡ s + 1 → k * w + 256 * s + 256 ≡ k' * w + 256 * s'
        moved k s w k' s' e f = let g : k' * w ≡ k * w = ap (λ n. n * w) e in omega (arith, f, g)

        in_block : (k s w : ℕ) → k * w + 256 * s + 256 < (k + 1) * w → 256 * (s + 1) < w
        in_block k s w lt = let width : (k + 1) * w ≡ k * w + w = omega arith in omega (arith, lt, width)

    -- the next row
    pub took_turn : (after : Marks) (result : Option Count) → min ((spot.entry + 1) * (2 ^ header.cluster_bits / 2)) (room_of middle.free) ≤ first + 256
        → (spot.entry + 1) % 64 ≡ 0 → Turns header (spot.entry + 1) middle after result → Takes header (Block spot) sector before after result
    took_turn after result end whole turns = record {
      keeps = keeps_both before middle after passes.keeps turns.keeps;
      counts = λ file room named maps at is.
          let t = counts_in header file in
          turns.counts file room named (maps_still t room named before middle passes.keeps maps) (λ within inside. whole)
          (taken_block file room named maps at is passes (end_of room named t maps (first + 256) end));
      falls = falls result turns.next;
    }
      where
        falls : (result : Option Count) → ((count : Count) → result ≡ Some count → (count ≡ Row (spot.entry + 1)) × (spot.entry + 1 < header.refcount_table_clusters * (2 ^ header.cluster_bits / 8)) × (spot.entry + 1 < div_ceil (room_of middle.free) (2 ^ header.cluster_bits / 2)))
            → FewerSectors header (Block spot) result
        falls None next = tt
        falls (Some count) next = λ blocks fewer counts. subst (λ c. sectors_left header blocks c < sectors_left header blocks (Block spot)) (sym (next count refl).0) (omega (arith, whole))

    -- the next entries of the row
    pub took_rest : (after : Marks) (result : Option Count) → min ((spot.entry + 1) * (2 ^ header.cluster_bits / 2)) (room_of middle.free) ≤ first + 256
        → ((spot.entry + 1) % 64 ≡ 0 → ⊥) → Scans header (spot.entry + 1) spot.row middle after result → Takes header (Block spot) sector before after result
    took_rest after result end some scans = record {
      keeps = keeps_both before middle after passes.keeps scans.keeps;
      counts = λ file room named maps at is.
          let t = counts_in header file in
          scans.counts file room named (maps_still t room named before middle passes.keeps maps) (omega (arith, at.inside)) (next_below spot.entry spot.part (block_span t) room at.below)
          (λ i near w. at.row i (omega (arith, near, some)) w)
          (taken_block file room named maps at is passes (end_of room named t maps (first + 256) end));
      falls = falls result scans.next;
    }
      where
        next_below : (k s w room : ℕ) → k * w + 256 * s < room → (k + 1) * w < room + w
        next_below k s w room lt = let width : (k + 1) * w ≡ k * w + w = omega arith in omega (arith, lt, width)

        falls : (result : Option Count) → ((count : Count) → result ≡ Some count → IsBehind header (spot.entry + 1) count) → FewerSectors header (Block spot) result
        falls None behind = tt
        falls (Some next) behind = λ blocks fewer counts. let l = left_behind header blocks (spot.entry + 1) next low fewer counts (behind next refl) in omega (arith, l.0, some)
