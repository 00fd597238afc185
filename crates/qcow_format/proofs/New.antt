-- A header that was written into a sector of zeros is read again.
use Rattle.std.proofs.Common.{◌≡◌, ℕ, zero, suc, ◌+◌, ◌*◌, ◌%◌, ◌^◌, ◌≤◌, ◌⊎◌, inl, inr, Bool, true, false, cond, eqb, ltb, List, ◌++◌, length, get_or, take, drop, replicate, Option, Some, None, Result, Ok, Err, refl, sym, ap, ◌∙◌, subst, arith}
use Rattle.std.specs.Prelude.{codes, ◌&&◌, if◌then◌else◌}
use Rattle.std.proofs.Math.Nat.{pow-le-pow_right}
use Rattle.std.proofs.lemmas.Bool.{le-leb, le-ltb, eqb-true}
use Rattle.std.proofs.lemmas.List.{append_assoc, drop-drop, drop_at, get_or-drop, get_or-take, length-append, length-take}
use Rattle.byteorder.specs.Endian.{big_from, big_number}
use Rattle.sd_names.specs.declared.fault.LayerFault.{LayerFault}
use Rattle.sd_names.specs.declared.fault.LayerFault.TheVariants.{HeaderShape}
use Rattle.sd_names.specs.declared.kinds.Format.{Format}
use Rattle.sd_names.specs.declared.kinds.Format.TheVariants.{Raw, Cow}
use Rattle.qcow_format.specs.declared.header.Header.{Header}
use Rattle.qcow_format.specs.Numbers.{backing_format}
use Rattle.qcow_format.specs.Bytes.{number, put, bytes_of}
use Rattle.qcow_format.specs.Extension.{data_of, end_of, extensions_at, is_extension, placed_at}
use Rattle.qcow_format.specs.Format.{format_at, last_format, found_after, walked, ◌>>=◌}
use Rattle.qcow_format.specs.Header.{has_aligned_tables, has_length, has_name, has_shape, head_size, header_of, is_closed, shape_of, with_format}
use Rattle.qcow_format.specs.Written.{IsBehind, IsHeader, IsNew, format_bytes, put_fields, put_format, puts, version_2_table, version_3_table, written}
use Rattle.qcow_format.proofs.Again.{header_again, length-put_fields, number-append, stand_2, stand_3, tests}
use Rattle.qcow_format.proofs.Formats.{ends_more, finds_more, walk_ends, with_earlier-none}
use Rattle.qcow_format.proofs.Kept.{cluster_range, part_of}
use Rattle.qcow_format.proofs.Put.{length-format_bytes, length-put, number-put_behind, number-same}
use Rattle.qcow_format.proofs.Table.{length-puts, number-puts_behind}

-- ---- zeros

zero_byte : (m k : ℕ) → get_or (replicate {A = ℕ} m 0) k 0 ≡ 0
zero_byte zero k = refl
zero_byte (suc m) zero = refl
zero_byte (suc m) (suc k) = zero_byte m k

no_sum : (a b : ℕ) → b ≡ 0 → 0 * a + b ≡ 0
no_sum a b e = omega (arith, e)

big_from-zeros : (i n : ℕ) (xs : List ℕ) → ((k : ℕ) → get_or xs k 0 ≡ 0) → big_from i n xs ≡ 0
big_from-zeros i zero xs none = refl
big_from-zeros i (suc n) xs none =
    ap (λ x. x * 256 ^ n + big_from (suc i) n xs) (none i) ∙ no_sum (256 ^ n) (big_from (suc i) n xs) (big_from-zeros (suc i) n xs none)

pub number-zeros : (n at m : ℕ) → number n at (replicate {A = ℕ} m 0) ≡ 0
unfolding number
number-zeros n at m = big_from-zeros 0 n (drop at (replicate m 0)) (λ k. get_or-drop at (replicate m 0) k 0 ∙ zero_byte m (at + k))

-- ---- behind the fields

fields_behind : (h : Header) (n at : ℕ) (first : List ℕ) → IsHeader h → 512 ≤ length first → h.header_length ≤ at → number n at (put_fields h first) ≡ number n at first
fields_behind h n at first is fits le = go (eqb h.version 3) refl (tests h is.no_fault).0
  where
    two : 72 ≤ at → number n at (puts (version_2_table h) first) ≡ number n at first
    two low = number-puts_behind n at 0 72 (version_2_table h) first low (stand_2 h) (omega arith)

    three : 104 ≤ at → number n at (puts (version_3_table h) (puts (version_2_table h) first)) ≡ number n at first
    three low =
        number-puts_behind n at 72 104 (version_3_table h) (puts (version_2_table h) first) low (stand_3 h) (omega (arith, length-puts 0 72 (version_2_table h) first (stand_2 h) (omega arith)))
        ∙ two (omega arith)

    go : (b : Bool) → eqb h.version 3 ≡ b → (h.version ≡ 2) ⊎ (h.version ≡ 3)
        → number n at (cond b (puts (version_3_table h) (puts (version_2_table h) first)) (puts (version_2_table h) first)) ≡ number n at first
    go true e v = let low = is.late (eqb-true h.version 3 e) in three (omega arith)
    go false e (inl v) = let early = is.early v in two (omega (arith, early.2))
    go false e (inr v) = let low = is.late v in two (omega arith)

-- ---- what a walk finds

text_size : Format → ℕ
text_size Raw = 3
text_size Cow = 5

text : Format → List ℕ
text Raw = codes "raw"
text Cow = codes "qcow2"

no_extension : (head : List ℕ) (at : ℕ) → number 4 at head ≡ 0 → is_extension head at ≡ false
no_extension head at e = rw e refl

walked_none : (head : List ℕ) (at : ℕ) → number 4 at head ≡ 0 → walked head at ≡ Ok (at, None)
walked_none head at e = walk_ends head at at None (no_extension head at e) refl (with_earlier-none (last_format head (extensions_at head at)))

one_end : (head : List ℕ) (at : ℕ) (f : Format) → number 4 (at + 4) head ≡ text_size f → end_of (placed_at head at) ≡ at + 16
unfolding text_size
one_end head at Raw size = rw size (omega arith)
one_end head at Cow size = rw size (omega arith)

one_is : (head : List ℕ) (at : ℕ) → number 4 at head ≡ backing_format → end_of (placed_at head at) ≡ at + 16 → at + 16 ≤ length head → is_extension head at ≡ true
one_is head at mark end within = rw mark (le-leb (end_of (placed_at head at)) (length head) (omega (arith, end, within)))

one_format : (at : ℕ) (f : Format) → at + 16 ≤ 512 → format_at at (text f) ≡ Ok (at, f)
unfolding format_at text
one_format at Raw fits = let low : ltb 512 (at + 8 + 3) ≡ false = le-ltb 512 (at + 8 + 3) (omega arith) in rw low refl
one_format at Cow fits = let low : ltb 512 (at + 8 + 5) ≡ false = le-ltb 512 (at + 8 + 5) (omega arith) in rw low refl

one_found : (head : List ℕ) (at : ℕ) (f : Format) → number 4 at head ≡ backing_format → data_of head (placed_at head at) ≡ text f → at + 16 ≤ 512
    → found_after None (placed_at head at).kind at (data_of head (placed_at head at)) ≡ Ok (Some (at, f))
unfolding found_after
one_found head at f mark is fits =
    ap (λ k. found_after None k at (data_of head (placed_at head at))) mark
    ∙ ap (λ (xs : List ℕ). format_at at xs >>= λ format. Ok (Some format)) is
    ∙ ap (λ (r : Result (ℕ × Format) LayerFault). r >>= λ format. Ok (Some format)) (one_format at f fits)

walked_one : (head : List ℕ) (at : ℕ) (f : Format) → number 4 at head ≡ backing_format → number 4 (at + 4) head ≡ text_size f → data_of head (placed_at head at) ≡ text f
    → number 4 (at + 16) head ≡ 0 → at + 16 ≤ length head → at + 16 ≤ 512 → walked head at ≡ Ok (at + 16, Some (at, f))
walked_one head at f mark size is closed within fits =
    let end = one_end head at f size in
    let here = one_is head at mark end within in
    let none = no_extension head (end_of (placed_at head at)) (ap (λ k. number 4 k head) end ∙ closed) in
    let found = one_found head at f mark is fits in
    walk_ends head (end_of (placed_at head at)) at (Some (at, f)) none (ends_more head at at here refl) (finds_more head at at None (Some (at, f)) here found (with_earlier-none (last_format head (extensions_at head at))))
    ∙ ap (λ k. Ok (k, Some (at, f))) end

-- ---- the bytes of a backing format

marked : (f : Format) (xs : List ℕ) → big_number 4 (format_bytes f ++ xs) ≡ backing_format
unfolding format_bytes bytes_of
marked Raw xs = refl
marked Cow xs = refl

sized_text : (f : Format) (xs : List ℕ) → big_number 4 (drop 4 (format_bytes f ++ xs)) ≡ text_size f
unfolding format_bytes bytes_of text_size
sized_text Raw xs = refl
sized_text Cow xs = refl

written_text : (f : Format) (xs : List ℕ) → take (text_size f) (drop 8 (format_bytes f ++ xs)) ≡ text f
unfolding format_bytes bytes_of text_size text
written_text Raw xs = refl
written_text Cow xs = refl

short_text : (f : Format) → text_size f ≤ 5
unfolding text_size
short_text Raw = omega arith
short_text Cow = omega arith

-- what stands from there on
from_format : (at : ℕ) (new bytes rest : List ℕ) → at ≤ length bytes → drop at (put at new bytes ++ rest) ≡ new ++ (drop (length new) (drop at bytes) ++ rest)
unfolding put
from_format at new bytes rest fits =
    let len : length (take at bytes) ≡ at = omega (arith, length-take at bytes) in
    ap (drop at) (append_assoc (take at bytes) (new ++ drop (length new) (drop at bytes)) rest)
    ∙ drop_at (take at bytes) ((new ++ drop (length new) (drop at bytes)) ++ rest) at len
    ∙ append_assoc new (drop (length new) (drop at bytes)) rest

-- ---- the head

long_head : (bits : ℕ) → 12 ≤ bits → 4096 ≤ head_size bits
long_head bits low = let least : 2 ^ 12 ≤ 2 ^ bits = pow-le-pow_right (omega arith) low in omega (arith, least)

in_head : (n at span : ℕ) (bytes : List ℕ) → at + n ≤ span → number n at (take span bytes) ≡ number n at bytes
in_head n at span bytes le = number-same n at (take span bytes) bytes (λ k low high. get_or-take span bytes k 0 (omega arith))

closed : (head : List ℕ) (span at : ℕ) → at + 8 ≤ length head → number 4 at head ≡ 0 → at + 8 + 1024 ≤ span → is_closed head span at ≡ true
closed head span at within mark fits = rw (le-leb (at + 8) (length head) within, mark, le-leb (at + 8 + 1024) span fits) refl

right_length : (h : Header) → IsHeader h → h.header_length % 8 ≡ 0 → has_length h ≡ true
right_length h is whole = go (tests h is.no_fault).0
  where
    go : (h.version ≡ 2) ⊎ (h.version ≡ 3) → has_length h ≡ true
    go (inl two) = rw two refl
    go (inr three) = rw (three, le-leb 104 h.header_length (is.late three), whole) refl

all_four : (a b c d : Bool) → a ≡ true → b ≡ true → c ≡ true → d ≡ true → (a && b && c && d) ≡ true
all_four a b c d e f g k = rw (e, f, g, k) refl

shaped : (h : Header) (head : List ℕ) (end : ℕ) (found : Option (ℕ × Format)) → IsHeader h → IsNew h → has_name head h ≡ true → walked head h.header_length ≡ Ok (end, found)
    → is_closed head (head_size h.cluster_bits) end ≡ true → shape_of head h ≡ Ok found
unfolding shape_of
shaped h head end found is new named walk close =
    let all = all_four (has_length h) (has_aligned_tables h) (has_name head h) (is_closed head (head_size h.cluster_bits) end) (right_length h is new.whole) new.tables named close in
    ap (λ (r : Result (ℕ × Option (ℕ × Format)) LayerFault). r >>= λ x. if has_shape head h x.0 then Ok x.1 else Err HeaderShape) walk
    ∙ ap (λ (b : Bool). if b then Ok found else Err HeaderShape) all

-- ---- with a backing format, and without

abbrev Shaped : Header → List ℕ → Type 0
Shaped h bytes = (found : Option (ℕ × Format)) × (shape_of (take (head_size h.cluster_bits) bytes) h ≡ Ok found) × (with_format h found ≡ h)

plain : (h : Header) (fields rest : List ℕ) → IsHeader h → IsNew h → length fields ≡ 512 → number 4 h.header_length fields ≡ 0 → h.format_at ≡ None → h.format ≡ None
    → has_name (take (head_size h.cluster_bits) (fields ++ rest)) h ≡ true → Shaped h (fields ++ rest)
plain h fields rest is new len mark none none' named =
    let span = head_size h.cluster_bits in
    let head = take span (fields ++ rest) in
    let long = long_head h.cluster_bits (cluster_range h is.no_fault).0 in
    let room = new.room in
    let size : 512 ≤ length head = omega (arith, length-take span (fields ++ rest), length-append fields rest, len, long) in
    let ends : number 4 h.header_length head ≡ 0 = in_head 4 h.header_length span (fields ++ rest) (omega (arith, long, room)) ∙ number-append 4 h.header_length fields rest (omega (arith, len, room)) ∙ mark in
    let close = closed head span h.header_length (omega (arith, size, room)) ends (omega (arith, long, room)) in
    (None, shaped h head h.header_length None is new named (walked_none head h.header_length ends) close, λ i. record h { format_at = sym none i; format = sym none' i })

backed : (h : Header) (at : ℕ) (f : Format) (fields rest : List ℕ) → IsHeader h → IsNew h → length fields ≡ 512 → at ≡ h.header_length → number 4 (at + 16) fields ≡ 0
    → h.format_at ≡ Some at → h.format ≡ Some f
    → has_name (take (head_size h.cluster_bits) (put at (format_bytes f) fields ++ rest)) h ≡ true → Shaped h (put at (format_bytes f) fields ++ rest)
unfolding number
backed h at f fields rest is new len behind mark some some' named =
    let span = head_size h.cluster_bits in
    let first = put at (format_bytes f) fields in
    let bytes = first ++ rest in
    let head = take span bytes in
    let long = long_head h.cluster_bits (cluster_range h is.no_fault).0 in
    let room : at + 24 ≤ 512 = omega (arith, new.room, behind) in
    let new_len = length-format_bytes f in
    let first_len : length first ≡ 512 = length-put at (format_bytes f) fields (omega (arith, new_len, len, room)) ∙ len in
    let size : 512 ≤ length head = omega (arith, length-take span bytes, length-append first rest, first_len, long) in
    let from = from_format at (format_bytes f) fields rest (omega (arith, len, room)) in
    let marks : number 4 at head ≡ backing_format = in_head 4 at span bytes (omega (arith, long, room)) ∙ ap (big_number 4) from ∙ marked f _ in
    let sizes : number 4 (at + 4) head ≡ text_size f = in_head 4 (at + 4) span bytes (omega (arith, long, room)) ∙ ap (big_number 4) (sym (drop-drop 4 at bytes)) ∙ ap (λ (xs : List ℕ). big_number 4 (drop 4 xs)) from ∙ sized_text f _ in
    let texts : data_of head (placed_at head at) ≡ text f =
    ap (λ n. take n (drop (at + 8) head)) sizes
    ∙ part_of span (at + 8) (text_size f) bytes (omega (arith, size, room, short_text f))
    ∙ ap (take (text_size f)) (sym (drop-drop 8 at bytes)) ∙ ap (λ (xs : List ℕ). take (text_size f) (drop 8 xs)) from ∙ written_text f _ in
    let ends : number 4 (at + 16) head ≡ 0 =
    in_head 4 (at + 16) span bytes (omega (arith, long, room)) ∙ number-append 4 (at + 16) first rest (omega (arith, first_len, room))
    ∙ number-put_behind 4 (at + 16) at (format_bytes f) fields (omega (arith, len, room)) (omega (arith, new_len)) ∙ mark in
    let close = closed head span (at + 16) (omega (arith, size, room)) ends (omega (arith, long, room)) in
    let walk = walked_one head at f marks sizes texts ends (omega (arith, size, room)) (omega (arith, room)) in
    (Some (at, f), shaped h head (at + 16) (Some (at, f)) is new named (subst (λ (k : ℕ). walked head k ≡ Ok (at + 16, Some (at, f))) behind walk) close, λ i. record h { format_at = sym some i; format = sym some' i })

new_shape : (h : Header) (fields rest : List ℕ) → IsHeader h → IsNew h → length fields ≡ 512 → ((at : ℕ) → h.header_length ≤ at → number 4 at fields ≡ 0)
    → (o : Option ℕ) (g : Option Format) → h.format_at ≡ o → h.format ≡ g → IsBehind o g h.header_length
    → has_name (take (head_size h.cluster_bits) (put_format o g fields ++ rest)) h ≡ true → Shaped h (put_format o g fields ++ rest)
new_shape h fields rest is new len zeros None None e f behind named = plain h fields rest is new len (zeros h.header_length (omega arith)) e f named
new_shape h fields rest is new len zeros (Some at) (Some g) e f behind named = backed h at g fields rest is new len behind (zeros (at + 16) (omega (arith, behind))) e f named
new_shape h fields rest is new len zeros (Some at) None e f behind named = absurd behind
new_shape h fields rest is new len zeros None (Some g) e f behind named = absurd behind

pub new_header_again : (h : Header) (rest : List ℕ) → IsHeader h → IsNew h → has_name (take (head_size h.cluster_bits) (written h (replicate 512 0) ++ rest)) h ≡ true
    → header_of (written h (replicate 512 0) ++ rest) ≡ Ok h
new_header_again h rest is new named =
    let first : List ℕ = replicate 512 0 in
    let fields = put_fields h first in
    let len : length fields ≡ 512 = length-put_fields h first (omega arith) in
    let shape = new_shape h fields rest is new len (λ at le. fields_behind h 4 at first is (omega arith) le ∙ number-zeros 4 at 512) h.format_at h.format refl refl new.behind named in
    header_again h first rest shape.0 is refl shape.1 shape.2
