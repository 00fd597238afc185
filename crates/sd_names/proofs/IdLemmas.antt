-- The text of an identifier and its sixteen bytes determine each other.
use Rattle.std.proofs.Common.{◌≡◌, ◌⊎◌, inr, ℕ, ◌+◌, ◌*◌, ◌/◌, ◌%◌, ◌<◌, List, [], ◌∷◌, zero, suc, length, get_or, slice_index, Bool, true, false, Option, Some, None, ◌==◌, ◌&&◌, if◌then◌else◌, inl, arith, refl, sym, ap, ◌∙◌}
use Rattle.std.proofs.lemmas.Bool.{false≢true}
use Rattle.std.proofs.lemmas.Bool.Decides.{nat_tests}
use Rattle.std.proofs.lemmas.List.{get_or-map, get_or_default, length-map}
use Rattle.std.specs.Char.{to_ascii_lowercase}
use Rattle.std.specs.List.{list_all}
use Rattle.std.specs.Str.{IsAscii, str_to_ascii_lowercase}
use Rattle.uuid.specs.Text.{lower, hex_digit, nibble, is_hex_digit, value_of, byte_of_digits, hyphen_place, digit_place, is_hyphen_place, digits_of, has_hyphens, parsed, parsed_simple, parsed_hyphenated, by_index}
use Rattle.uuid.proofs.TextLemmas.{by_index_length, by_index_at, by_index_same, nibble_even, nibble_odd, nibble_small, simple_some, hyphens_pass, hyphenated_ascii}
use Rattle.uuid.proofs.RoundTrips.{parses_hyphenated}
use Rattle.std.specs.Option.{option_map}
use Rattle.sd_names.specs.Id.{IsIdBytes, ReadsAs, id_text, id_of}

pub id_text-length : (bytes : List ℕ) → length (id_text bytes) ≡ 36
id_text-length bytes = by_index_length 36 _

pub id_text-ascii : (bytes : List ℕ) → IsAscii (id_text bytes)
id_text-ascii bytes = hyphenated_ascii lower bytes (inl refl)

-- the byte that stands at a place of the text
abbrev byte_at : List ℕ → ℕ → ℕ
byte_at bytes k = if is_hyphen_place k then 45 else hex_digit lower (nibble bytes (digit_place k))

id_text-at : (bytes : List ℕ) (k : ℕ) → k < 36 → get_or (id_text bytes) k 0 ≡ byte_at bytes k
id_text-at bytes k within = by_index_at 36 (byte_at bytes) k 0 within

-- one character and its lower case
digit_lowered : (c : ℕ) → is_hex_digit c ≡ true → to_ascii_lowercase c ≡ hex_digit lower (value_of c)
digit_lowered c digit = grind (arith, nat_tests)

value_small : (c : ℕ) → is_hex_digit c ≡ true → value_of c < 16
value_small c digit = grind (arith, nat_tests)

digit_raised : (c d : ℕ) → d < 16 → to_ascii_lowercase c ≡ hex_digit lower d → is_hex_digit c ≡ true
digit_raised c d small same = grind (arith, nat_tests)

value_raised : (c d : ℕ) → d < 16 → to_ascii_lowercase c ≡ hex_digit lower d → value_of c ≡ d
value_raised c d small same = grind (arith, nat_tests)

hyphen_raised : (c : ℕ) → to_ascii_lowercase c ≡ 45 → c ≡ 45
hyphen_raised c same = grind (arith, nat_tests)

both : (a b : Bool) → (a && b) ≡ true → (a ≡ true) × (b ≡ true)
both true b e = (refl, e)
both false b e = absurd (false≢true e)

lowered_at : (s : List ℕ) (k d : ℕ) → k < length s → get_or (str_to_ascii_lowercase s) k d ≡ to_ascii_lowercase (get_or s k 0)
lowered_at s k d within = get_or-map to_ascii_lowercase s k 0 d within

passes_at : (p : ℕ → Bool) (xs : List ℕ) (k : ℕ) → k < length xs → list_all p xs ≡ true → p (get_or xs k 0) ≡ true
passes_at p [] k within all = absurd (omega arith)
passes_at p (x ∷ xs) zero within all = (both (p x) (list_all p xs) all).0
passes_at p (x ∷ xs) (suc k) within all = passes_at p xs k (omega arith) (both (p x) (list_all p xs) all).1

-- two texts of one identifier are one
pub id_text-injective : (a b : List ℕ) → IsIdBytes a → IsIdBytes b → id_text a ≡ id_text b → a ≡ b
id_text-injective a b is_a is_b same =
    let e : Some a ≡ Some b = parses_hyphenated lower a (inl refl) is_a.sixteen is_a.in_range ∙ ap parsed same ∙ sym (parses_hyphenated lower b (inl refl) is_b.sixteen is_b.in_range) in
    cc

pub reads_length : (s bytes : List ℕ) → ReadsAs s bytes → length s ≡ 36
reads_length s bytes reads = sym (length-map s to_ascii_lowercase) ∙ ap length reads ∙ id_text-length bytes

module _ (s bytes : List ℕ) (is : IsIdBytes bytes) (reads : ReadsAs s bytes) where
  raised_at : (k : ℕ) → k < 36 → to_ascii_lowercase (get_or s k 0) ≡ byte_at bytes k
  raised_at k within =
      let long = reads_length s bytes reads in
      sym (lowered_at s k 0 (omega arith)) ∙ ap (λ (l : List ℕ). get_or l k 0) reads ∙ id_text-at bytes k within

  digits_at : (i : ℕ) → i < 32 → to_ascii_lowercase (get_or (digits_of s) i 0) ≡ hex_digit lower (nibble bytes i)
  digits_at i within =
      let plain : is_hyphen_place (hyphen_place i) ≡ false = grind (arith, nat_tests) in
      let back : digit_place (hyphen_place i) ≡ i = grind (arith, nat_tests) in
      let bound : hyphen_place i < 36 = grind (arith, nat_tests) in
      let here : byte_at bytes (hyphen_place i) ≡ hex_digit lower (nibble bytes i) = rw (plain, back) refl in
      rw (by_index_at 32 (λ (j : ℕ). slice_index s (hyphen_place j)) i 0 within) (raised_at (hyphen_place i) bound ∙ here)

  -- a text that is these bytes' in lower case is read as them
  pub parsed_from_reads : Some bytes ≡ parsed s
  parsed_from_reads =
      let long = reads_length s bytes reads in
      let h8 : get_or s 8 0 ≡ 45 = hyphen_raised _ (raised_at 8 (omega arith)) in
      let h13 : get_or s 13 0 ≡ 45 = hyphen_raised _ (raised_at 13 (omega arith)) in
      let h18 : get_or s 18 0 ≡ 45 = hyphen_raised _ (raised_at 18 (omega arith)) in
      let h23 : get_or s 23 0 ≡ 45 = hyphen_raised _ (raised_at 23 (omega arith)) in
      let hyphens : has_hyphens s ≡ true = rw (h8, h13, h18, h23) refl in
      let hex = digits_of s in
      let digits : (k : ℕ) → k < 32 → is_hex_digit (get_or hex k 0) ≡ true = λ k within. digit_raised (get_or hex k 0) (nibble bytes k) (nibble_small bytes k) (digits_at k within) in
      let value : (k : ℕ) → k < 32 → value_of (get_or hex k 0) ≡ nibble bytes k = λ k within. value_raised (get_or hex k 0) (nibble bytes k) (nibble_small bytes k) (digits_at k within) in
      let each : (i d : ℕ) → i < 16 → get_or bytes i d ≡ byte_of_digits hex i = λ i d within.
      let fits : get_or bytes i 0 < 256 = is.in_range i 0 (rw is.sixteen within) in
      let high : value_of (get_or hex (2 * i) 0) ≡ get_or bytes i 0 / 16 % 16 = value (2 * i) (omega arith) ∙ nibble_even bytes i in
      let low : value_of (get_or hex (2 * i + 1) 0) ≡ get_or bytes i 0 % 16 = value (2 * i + 1) (omega arith) ∙ nibble_odd bytes i in
      get_or_default bytes i d 0 (rw is.sixteen within) ∙ rw (high, low) (omega arith) in
      let whole : parsed s ≡ parsed_hyphenated s = rw long refl in
      simple_some hex bytes (by_index_length 32 _) is.sixteen digits each ∙ hyphens_pass s long hyphens ∙ sym whole

-- what a test that lets a value through says
some_of_test : (b : Bool) (o : Option (List ℕ)) (u : List ℕ) → Some u ≡ (if b then o else None) → (b ≡ true) × (Some u ≡ o)
some_of_test true o u e = (refl, e)
some_of_test false o u e = cc

nibble_read : (u hex : List ℕ) (i : ℕ) → get_or u (i / 2) 0 ≡ byte_of_digits hex (i / 2)
    → value_of (get_or hex (2 * (i / 2)) 0) < 16 → value_of (get_or hex (2 * (i / 2) + 1) 0) < 16 → nibble u i ≡ value_of (get_or hex i 0)
nibble_read u hex i byte high low = go (i % 2 == 0) refl
  where
    go : (b : Bool) → (i % 2 == 0) ≡ b → (if b then get_or u (i / 2) 0 / 16 % 16 else get_or u (i / 2) 0 % 16) ≡ value_of (get_or hex i 0)
    go true even =
        let place : 2 * (i / 2) ≡ i = grind (arith, nat_tests) in
        rw byte (omega arith ∙ ap (λ (j : ℕ). value_of (get_or hex j 0)) place)
    go false odd =
        let place : 2 * (i / 2) + 1 ≡ i = grind (arith, nat_tests) in
        rw byte (omega arith ∙ ap (λ (j : ℕ). value_of (get_or hex j 0)) place)

-- a digit of the text, at a place that has no hyphen
digit_stands : (s u : List ℕ) (i : ℕ) → i < 32 → list_all is_hex_digit (digits_of s) ≡ true → u ≡ by_index 16 (byte_of_digits (digits_of s))
    → to_ascii_lowercase (get_or s (hyphen_place i) 0) ≡ hex_digit lower (nibble u i)
digit_stands s u i within all is_u =
    let hex = digits_of s in
    let digits : (k : ℕ) → k < 32 → is_hex_digit (get_or hex k 0) ≡ true = λ k h. passes_at is_hex_digit hex k (rw (by_index_length 32 (λ (j : ℕ). slice_index s (hyphen_place j))) h) all in
    let here : get_or hex i 0 ≡ get_or s (hyphen_place i) 0 = by_index_at 32 (λ (j : ℕ). slice_index s (hyphen_place j)) i 0 within in
    let half : get_or u (i / 2) 0 ≡ byte_of_digits hex (i / 2) = rw is_u (by_index_at 16 (byte_of_digits hex) (i / 2) 0 (omega arith)) in
    let high = value_small (get_or hex (2 * (i / 2)) 0) (digits (2 * (i / 2)) (omega arith)) in
    let low = value_small (get_or hex (2 * (i / 2) + 1) 0) (digits (2 * (i / 2) + 1) (omega arith)) in
    let value : nibble u i ≡ value_of (get_or hex i 0) = nibble_read u hex i half high low in
    rw (← here) (digit_lowered (get_or hex i 0) (digits i within) ∙ ap (hex_digit lower) (sym value))

hyphen_stands : (s : List ℕ) (k : ℕ) → has_hyphens s ≡ true → is_hyphen_place k ≡ true → get_or s k 0 ≡ 45
hyphen_stands s k all here = grind (arith, nat_tests)

place_stands : (s u : List ℕ) (k : ℕ) → k < 36 → has_hyphens s ≡ true → list_all is_hex_digit (digits_of s) ≡ true → u ≡ by_index 16 (byte_of_digits (digits_of s))
    → to_ascii_lowercase (get_or s k 0) ≡ byte_at u k
place_stands s u k within hyphens digits bytes = go (is_hyphen_place k) refl
  where
    go : (b : Bool) → is_hyphen_place k ≡ b → to_ascii_lowercase (get_or s k 0) ≡ (if b then 45 else hex_digit lower (nibble u (digit_place k)))
    go true here = rw (hyphen_stands s k hyphens here) refl
    go false here =
        let back : hyphen_place (digit_place k) ≡ k = grind (arith, nat_tests) in
        let bound : digit_place k < 32 = grind (arith, nat_tests) in
        ap (λ (j : ℕ). to_ascii_lowercase (get_or s j 0)) (sym back) ∙ digit_stands s u (digit_place k) bound digits bytes

-- a text that is read as bytes is theirs, in lower case
pub reads_from_parsed : (s u : List ℕ) → length s ≡ 36 → Some u ≡ parsed s → ReadsAs s u
reads_from_parsed s u long is_u =
    let whole : parsed s ≡ parsed_hyphenated s = rw long refl in
    let outer = some_of_test _ (parsed_simple (digits_of s)) u (is_u ∙ whole) in
    let hyphens = (both (length s == 36) (has_hyphens s) outer.0).1 in
    let inner = some_of_test _ (Some (by_index 16 (byte_of_digits (digits_of s)))) u outer.1 in
    let digits = (both (length (digits_of s) == 32) (list_all is_hex_digit (digits_of s)) inner.0).1 in
    let bytes : u ≡ by_index 16 (byte_of_digits (digits_of s)) = let e = inner.1 in cc in
    let at : (k : ℕ) → k < 36 → to_ascii_lowercase (get_or s k 0) ≡ byte_at u k = λ k within. place_stands s u k within hyphens digits bytes in
    by_index_same (str_to_ascii_lowercase s) 36 (byte_at u) (length-map s to_ascii_lowercase ∙ long)
    (λ k d within. lowered_at s k d (rw long within) ∙ at k within)

digit_above : (d : ℕ) → d < 16 → 47 < hex_digit lower d
digit_above d small = grind (arith, nat_tests)

lowered_digit : (d : ℕ) → d < 16 → to_ascii_lowercase (hex_digit lower d) ≡ hex_digit lower d
lowered_digit d small = grind (arith, nat_tests)

lowered_place : (bytes : List ℕ) (k : ℕ) → to_ascii_lowercase (byte_at bytes k) ≡ byte_at bytes k
lowered_place bytes k = go (is_hyphen_place k)
  where
    go : (b : Bool) → to_ascii_lowercase (if b then 45 else hex_digit lower (nibble bytes (digit_place k))) ≡ (if b then 45 else hex_digit lower (nibble bytes (digit_place k)))
    go true = refl
    go false = lowered_digit (nibble bytes (digit_place k)) (nibble_small bytes (digit_place k))

-- the text of bytes is read as them
pub reads_itself : (bytes : List ℕ) → ReadsAs (id_text bytes) bytes
reads_itself bytes =
    let long = id_text-length bytes in
    by_index_same (str_to_ascii_lowercase (id_text bytes)) 36 (byte_at bytes) (length-map (id_text bytes) to_ascii_lowercase ∙ long)
    (λ k d within. lowered_at (id_text bytes) k d (rw long within) ∙ ap to_ascii_lowercase (id_text-at bytes k within) ∙ lowered_place bytes k)

-- two readings of one text are one
pub read_once : (s a b : List ℕ) → Some a ≡ parsed s → Some b ≡ parsed s → a ≡ b
read_once s a b is_a is_b = let e : Some a ≡ Some b = is_a ∙ sym is_b in cc

none_unless : (o : Option (List ℕ)) → (((u : List ℕ) × (o ≡ Some u)) → ⊥) → o ≡ None
none_unless None h = refl
none_unless (Some u) h = absurd (h (u, refl))

-- a text of 36 bytes that doesn't parse is no identifier's
pub id_of_none : (text : List ℕ) → length text ≡ 36 → (((u : List ℕ) × (parsed text ≡ Some u)) → ⊥) → None ≡ id_of text
unfolding id_of
id_of_none text long h =
    let none = rw long at (none_unless (parsed text) h) in
    rw long (ap (option_map (λ bytes. record { 0 = bytes })) (sym none))

-- no byte of the text is a slash or a dot
pub id_text-apart : (bytes : List ℕ) (k : ℕ) → k < 36 → 47 < get_or (id_text bytes) k 0 ⊎ get_or (id_text bytes) k 0 ≡ 45
id_text-apart bytes k within = rw (id_text-at bytes k within) (go (is_hyphen_place k))
  where
    go : (b : Bool) → (47 < (if b then 45 else hex_digit lower (nibble bytes (digit_place k)))) ⊎ ((if b then 45 else hex_digit lower (nibble bytes (digit_place k))) ≡ 45)
    go true = inr refl
    go false = inl (digit_above (nibble bytes (digit_place k)) (nibble_small bytes (digit_place k)))
