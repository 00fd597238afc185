use Rattle.std.proofs.Common.{◌≡◌, ℕ, List, [], ◌∷◌, true, nat_lt, arith, refl, Result, Ok, Err, IsOk, MatchResult}
use Rattle.std.specs.List.{list_all}
use Rattle.std.specs.Str.{IsAscii, IsUtf8}
use Rattle.std.proofs.lemmas.Bool.{and_parts}
use Rattle.std.proofs.lemmas.Bool.Decides.{nat_tests}
use Rattle.std.proofs.lemmas.Str.Ascii.{IsAscii-nil, IsAscii-cons}
use Rattle.std.proofs.lemmas.Str.{IsUtf8-from_ascii}
use Rattle.hex.proofs.HexLemmas.{IsAscii-encode_with}
use Rattle.hex.specs.Hex.{lower_digits}
use Rattle.sd_names.proofs.value.push_digest.Goals as goal

ascii_tested : (xs : List ℕ) → list_all (λ c. nat_lt c 128) xs ≡ true → IsAscii xs
ascii_tested [] e = IsAscii-nil
ascii_tested (x ∷ xs) e =
    let parts = and_parts (nat_lt x 128) (list_all (λ c. nat_lt c 128) xs) e in
    IsAscii-cons x xs (let h = parts.0 in grind (arith, nat_tests)) (ascii_tested xs parts.1)

-- text is read as text
read_as_text : {T E : Type 0} (r : Result T E) (bytes : _) (P : T → Type 0) (Q : E → Type 0) → IsUtf8 bytes → MatchResult r P (λ e. ¬ (IsUtf8 bytes) × Q e) → IsOk r
read_as_text (Ok x) bytes P Q utf8 cases = refl
read_as_text (Err e) bytes P Q utf8 cases = absurd (cases.0 utf8)

pub unwrap-requires-2 : goal.unwrap-requires-2
unwrap-requires-2 c =
    let written = rw c.unwrap.ensures at c.encode_to_slice.ensures.written in
    let utf8 : IsUtf8 c.encode_to_slice.new.output = rw written (IsUtf8-from_ascii _ (IsAscii-encode_with lower_digits _ (ascii_tested lower_digits refl))) in
    read_as_text c.from_utf8.result c.encode_to_slice.new.output _ _ utf8 c.from_utf8.ensures.cases
