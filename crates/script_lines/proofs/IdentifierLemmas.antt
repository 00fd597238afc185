-- The bytes of an identifier's text, as a function of the text.
use Rattle.std.proofs.Common.{◌≡◌, ℕ, ◌+◌, ◌*◌, ◌<◌, ◌==◌, ◌&&◌, Bool, true, false, if◌then◌else◌, List, [], ◌∷◌, zero, suc, length, get_or, refl, sym, ◌∙◌, arith, Option, Some, None}
use Rattle.std.specs.List.{list_all}
use Rattle.std.proofs.lemmas.Bool.{and_parts, eqb-true}
use Rattle.std.proofs.lemmas.Bool.Decides.{nat_tests}
use Rattle.std.proofs.lemmas.List.Elements.{All-from_get_or}
use Rattle.uuid.specs.Text.{is_hex_digit, value_of, byte_of_digits, digits_of, has_hyphens, parsed, parsed_simple, parsed_hyphenated, by_index}
use Rattle.uuid.proofs.TextLemmas.{by_index_length, by_index_at}
use Rattle.sd_names.specs.Id.{IsIdBytes, ReadsAs}
use Rattle.sd_names.proofs.IdLemmas.{reads_length, parsed_from_reads, reads_from_parsed}
use Rattle.script_lines.specs.Argument.{id_of}

-- a text that is read
pub id_found : (word bytes : List ℕ) → IsIdBytes bytes → ReadsAs word bytes → Some bytes ≡ id_of word
unfolding id_of
id_found word bytes is reads =
    let long = reads_length word bytes reads in
    let whole : parsed word ≡ parsed_hyphenated word = rw long refl in
    parsed_from_reads word bytes is reads ∙ whole

tested : (b : Bool) (o : Option (List ℕ)) (u : List ℕ) → (if b then o else None) ≡ Some u → (b ≡ true) × (o ≡ Some u)
tested true o u e = (refl, e)
tested false o u e = cc e

value_small : (c : ℕ) → is_hex_digit c ≡ true → value_of c < 16
value_small c digit = grind (arith, nat_tests)

pub passes_at : (p : ℕ → Bool) (xs : List ℕ) (k : ℕ) → k < length xs → list_all p xs ≡ true → p (get_or xs k 0) ≡ true
passes_at p [] k within all = absurd (omega arith)
passes_at p (x ∷ xs) zero within all = (and_parts (p x) (list_all p xs) all).0
passes_at p (x ∷ xs) (suc k) within all = passes_at p xs k (omega arith) (and_parts (p x) (list_all p xs) all).1

-- what is read has sixteen bytes
bytes_read : (hex : List ℕ) → length hex ≡ 32 → list_all is_hex_digit hex ≡ true → IsIdBytes (by_index 16 (byte_of_digits hex))
bytes_read hex long all =
    let size : length (by_index 16 (byte_of_digits hex)) ≡ 16 = by_index_length 16 (byte_of_digits hex) in
    let small : (k : ℕ) → k < 32 → value_of (get_or hex k 0) < 16 =
    λ k within. value_small (get_or hex k 0) (passes_at is_hex_digit hex k (rw long within) all) in
    record {
      sixteen = size;
      in_range = All-from_get_or (λ b. b < 256) (by_index 16 (byte_of_digits hex)) 0 (λ i within.
          let here : i < 16 = omega (arith, size) in
          rw (by_index_at 16 (byte_of_digits hex) i 0 here) (omega (arith, small (2 * i) (omega arith), small (2 * i + 1) (omega arith))));
    }

-- a text that isn't read
pub id_missing : (word : List ℕ) → ((bytes : List ℕ) → IsIdBytes bytes → ReadsAs word bytes → ⊥) → None ≡ id_of word
unfolding id_of
id_missing word refused = go (parsed_hyphenated word) refl
  where
    go : (o : Option (List ℕ)) → parsed_hyphenated word ≡ o → None ≡ o
    go None e = refl
    go (Some u) e =
        let outer = tested ((length word == 36) && has_hyphens word) (parsed_simple (digits_of word)) u e in
        let long : length word ≡ 36 = eqb-true _ _ (and_parts (length word == 36) (has_hyphens word) outer.0).0 in
        let inner = tested ((length (digits_of word) == 32) && list_all is_hex_digit (digits_of word)) (Some (by_index 16 (byte_of_digits (digits_of word)))) u outer.1 in
        let tests = and_parts (length (digits_of word) == 32) (list_all is_hex_digit (digits_of word)) inner.0 in
        let is : by_index 16 (byte_of_digits (digits_of word)) ≡ u = let same = inner.1 in cc in
        let bytes : IsIdBytes u = rw is at (bytes_read (digits_of word) (eqb-true _ _ tests.0) tests.1) in
        let whole : parsed word ≡ parsed_hyphenated word = rw long refl in
        absurd (refused u bytes (reads_from_parsed word u long (sym (whole ∙ e))))
