-- The words that spell arguments, and what they read as.
use Rattle.std.proofs.Common.{◌≡◌, ◌≢◌, ℕ, ◌+◌, ◌<◌, ◌≤◌, ◌^◌, Bool, true, false, if◌then◌else◌, List, [], ◌∷◌, ◌++◌, length, refl, sym, ◌∙◌, ap, arith, Some, Ok, ltb, leb}
use Rattle.std.specs.Prelude.{All, decimal, codes}
use Rattle.std.specs.List.{list_all}
use Rattle.std.specs.Str.{bytes_eq}
use Rattle.std.proofs.lemmas.Bool.{and_parts, ltb-true, le-leb, false_from_ne_true}
use Rattle.std.proofs.lemmas.Bool.Decides.{nat_tests}
use Rattle.std.proofs.lemmas.Fmt.{length-decimal-le, decimal_nonempty}
use Rattle.std.proofs.lemmas.List.Elements.{All-from_get_or}
use Rattle.std.proofs.lemmas.List.Sums.{list_all-from_AllPass}
use Rattle.std.proofs.lemmas.Slice.Eq.{bytes_eq-Decides}
use Rattle.hex.specs.Hex.{encode_lower, lower_digits}
use Rattle.hex.proofs.HexLemmas.{length-encode_with}
use Rattle.uuid.specs.Text.{lower, hex_digit, nibble, digit_place, is_hyphen_place}
use Rattle.uuid.proofs.TextLemmas.{by_index_at, nibble_small}
use Rattle.sd_names.specs.Id.{IsIdBytes, id_text, zero_id}
use Rattle.sd_names.proofs.IdLemmas.{id_text-length, reads_itself}
use Rattle.sd_names.specs.declared.kinds.Format.{Format}
use Rattle.sd_names.specs.declared.kinds.Format.TheVariants.{Raw, Cow}
use Rattle.sd_names.specs.declared.kinds.AllocKind.{AllocKind}
use Rattle.sd_names.specs.declared.kinds.AllocKind.TheVariants.{Sparse, Preallocated}
use Rattle.script_lines.specs.Argument.{Kind, identifier, set_identifier, number, description, data_text, layout, Value, id_value, number_value, bytes_value, layout_value, id_of, set_id_of, number_in, description_of, layout_of, first_value, before, onto, values_of}
use Rattle.script_lines.specs.Spelled.{description_text, format_text, allocation_text, value_words, values_words, is_graphic, IsDescription, IsData, IsLayout, IsValueOf, AreValuesOf}
use Rattle.script_lines.proofs.ArgumentLemmas.{found}
use Rattle.script_lines.proofs.IdentifierLemmas.{id_found}
use Rattle.script_lines.proofs.JoinedLemmas.{Each, Each-append, passes_more, size, size-append}
use Rattle.decimal_numbers.proofs.NumberLemmas.{number_of-decimal}
use Rattle.script_lines.proofs.PrintedAgainLemmas.{is_figure, decimal_figures, encoded_figures, encoded_reads}

-- a word of graphic bytes
abbrev pub IsWord : List ℕ → Type 0
IsWord w = (0 < length w) × (list_all is_graphic w ≡ true)

-- identifiers
digit_graphic : (d : ℕ) → d < 16 → is_graphic (hex_digit lower d) ≡ true
digit_graphic d h = grind (arith, nat_tests)

abbrev byte_at : List ℕ → ℕ → ℕ
byte_at bytes k = if is_hyphen_place k then 45 else hex_digit lower (nibble bytes (digit_place k))

place_graphic : (bytes : List ℕ) (k : ℕ) → is_graphic (byte_at bytes k) ≡ true
place_graphic bytes k = go (is_hyphen_place k)
  where
    go : (b : Bool) → is_graphic (if b then 45 else hex_digit lower (nibble bytes (digit_place k))) ≡ true
    go true = refl
    go false = digit_graphic (nibble bytes (digit_place k)) (nibble_small bytes (digit_place k))

id_word : (bytes : List ℕ) → IsWord (id_text bytes)
id_word bytes =
    let each : All (λ b. is_graphic b ≡ true) (id_text bytes) = All-from_get_or (λ b. is_graphic b ≡ true) (id_text bytes) 0 (λ k within.
    let here : k < 36 = omega (arith, id_text-length bytes) in rw (by_index_at 36 (byte_at bytes) k 0 here) (place_graphic bytes k)) in
    (omega (arith, id_text-length bytes), list_all-from_AllPass is_graphic (id_text bytes) each)

id_reads : (bytes : List ℕ) → IsIdBytes bytes → id_of (id_text bytes) ≡ Some bytes
id_reads bytes is = sym (id_found (id_text bytes) bytes is (reads_itself bytes))

different : (xs ys : List ℕ) → xs ≢ ys → bytes_eq xs ys ≡ false
different xs ys other = false_from_ne_true (bytes_eq xs ys) (λ e. other ((bytes_eq-Decides xs ys).0 e))

set_id_reads : (bytes : List ℕ) → IsIdBytes bytes → bytes ≢ zero_id.0 → set_id_of (id_text bytes) ≡ Some bytes
unfolding set_id_of
set_id_reads bytes is other = rw (id_reads bytes is, different bytes zero_id.0 other) refl

-- numbers
figure_graphic : (b : ℕ) → is_figure b ≡ true → is_graphic b ≡ true
figure_graphic b e = grind (arith, nat_tests)

pub number_word : (n : ℕ) → n < 2 ^ 64 → IsWord (decimal n)
number_word n h = (decimal_nonempty n h, passes_more is_figure is_graphic figure_graphic (decimal n) (decimal_figures n h))

pub number_short : (n : ℕ) → n < 2 ^ 64 → length (decimal n) ≤ 20
number_short n h = length-decimal-le 20 n (omega arith) (omega arith) h

pub number_reads : (low high n : ℕ) → low ≤ n → n ≤ high → n < 2 ^ 64 → number_in low high (decimal n) ≡ Some n
unfolding number_in
number_reads low high n above below small = rw (number_of-decimal n small, le-leb low n above, le-leb n high below) refl

-- descriptions
description_word : (text : List ℕ) → IsDescription text → IsWord (description_text text)
description_word [] is = (omega arith, refl)
description_word (b ∷ bs) is = (omega arith, is.graphic)

description_short : (text : List ℕ) → length text ≤ 200 → length (description_text text) ≤ 200
description_short [] h = omega arith
description_short (b ∷ bs) h = h

description_reads : (text : List ℕ) → IsDescription text → description_of (description_text text) ≡ Some text
unfolding description_of
description_reads [] is = refl
description_reads (b ∷ bs) is =
    let short : leb (length (b ∷ bs)) 200 ≡ true = le-leb (length (b ∷ bs)) 200 is.short in
    rw (different (b ∷ bs) (codes "-") is.other, short) refl

-- data
data_word : (bytes : List ℕ) → IsData bytes → IsWord (encode_lower bytes)
data_word bytes is =
    let twice = length-encode_with lower_digits bytes in
    (omega (arith, twice, is.some), passes_more is_figure is_graphic figure_graphic (encode_lower bytes) (encoded_figures bytes is.in_range))

-- format and allocation
layout_reads : (format : Format) (allocation : AllocKind) → IsLayout format allocation
    → layout_of (format_text format) (allocation_text allocation) ≡ Some (layout_value format allocation)
unfolding layout_of
layout_reads Raw Sparse is = refl
layout_reads Raw Preallocated is = refl
layout_reads Cow Sparse is = refl
layout_reads Cow Preallocated is = absurd is

-- an argument whose number a program can hold
abbrev pub fits : Kind → Bool
fits (number low high) = ltb high (2 ^ 64)
fits _ = true

-- the most bytes that an argument's words have, with one behind each
abbrev pub cost : Kind → ℕ
cost data_text = 131073
cost _ = 201

-- an argument reads as its value
first_reads : (kind : Kind) (value : Value) (rest : List (List ℕ)) → fits kind ≡ true → IsValueOf kind value
    → first_value kind (value_words kind value ++ rest) ≡ Some (value, rest)
first_reads identifier (id_value bytes) rest fit is = rw (id_reads bytes is) refl
first_reads set_identifier (id_value bytes) rest fit is = rw (set_id_reads bytes is.0 is.1) refl
first_reads (number low high) (number_value n) rest fit is = rw (number_reads low high n is.0 is.1 (omega (arith, ltb-true high (2 ^ 64) fit, is.1))) refl
first_reads description (bytes_value text) rest fit is = rw (description_reads text is) refl
first_reads data_text (bytes_value bytes) rest fit is = rw (encoded_reads bytes is.in_range is.some is.short) refl
first_reads layout (layout_value format allocation) rest fit is = ap (before rest) (layout_reads format allocation is)
first_reads kind value rest fit is = absurd is

-- the words of an argument
first_words : (kind : Kind) (value : Value) → fits kind ≡ true → IsValueOf kind value
    → Each IsWord (value_words kind value) × (size (value_words kind value) ≤ cost kind)
first_words identifier (id_value bytes) fit is = ((id_word bytes, tt), omega (arith, id_text-length bytes))
first_words set_identifier (id_value bytes) fit is = ((id_word bytes, tt), omega (arith, id_text-length bytes))
first_words (number low high) (number_value n) fit is =
    let small : n < 2 ^ 64 = omega (arith, ltb-true high (2 ^ 64) fit, is.1) in ((number_word n small, tt), omega (arith, number_short n small))
first_words description (bytes_value text) fit is =
    ((description_word text is, tt), omega (arith, description_short text is.short))
first_words data_text (bytes_value bytes) fit is =
    ((data_word bytes is, tt), omega (arith, length-encode_with lower_digits bytes, is.short))
first_words layout (layout_value format allocation) fit is = layout_words format allocation is
  where
    layout_words : (format : Format) (allocation : AllocKind) → IsLayout format allocation
        → Each IsWord (format_text format ∷ allocation_text allocation ∷ []) × (size (format_text format ∷ allocation_text allocation ∷ []) ≤ 201)
    layout_words Raw Sparse is = (((omega arith, refl), ((omega arith, refl), tt)), omega arith)
    layout_words Raw Preallocated is = (((omega arith, refl), ((omega arith, refl), tt)), omega arith)
    layout_words Cow Sparse is = (((omega arith, refl), ((omega arith, refl), tt)), omega arith)
    layout_words Cow Preallocated is = absurd is
first_words kind value fit is = absurd is

-- all arguments
abbrev pub total : List Kind → ℕ
total [] = 0
total (kind ∷ kinds) = cost kind + total kinds

pub values_read : (kinds : List Kind) (values : List Value) (place : ℕ) → list_all fits kinds ≡ true → AreValuesOf kinds values
    → values_of kinds place (values_words kinds values) ≡ Ok values
unfolding values_of
values_read [] [] place fit are = refl
values_read (kind ∷ kinds) (value ∷ values) place fit are =
    let parts = and_parts (fits kind) (list_all fits kinds) fit in
    found kind kinds place (place + 1) (value_words kind value ++ values_words kinds values) (values_words kinds values) value
    (first_reads kind value (values_words kinds values) parts.0 are.0) refl
    ∙ ap (onto value) (values_read kinds values (place + 1) parts.1 are.1)
values_read kinds values place fit are = absurd are

pub values_are_words : (kinds : List Kind) (values : List Value) → list_all fits kinds ≡ true → AreValuesOf kinds values
    → Each IsWord (values_words kinds values) × (size (values_words kinds values) ≤ total kinds)
values_are_words [] [] fit are = (tt, omega arith)
values_are_words (kind ∷ kinds) (value ∷ values) fit are =
    let parts = and_parts (fits kind) (list_all fits kinds) fit in
    let first = first_words kind value parts.0 are.0 in
    let rest = values_are_words kinds values parts.1 are.1 in (
      Each-append IsWord (value_words kind value) (values_words kinds values) first.0 rest.0,
      omega (arith, size-append (value_words kind value) (values_words kinds values), first.1, rest.1),
    )
values_are_words kinds values fit are = absurd are
