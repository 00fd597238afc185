-- What `clap` let through, as this crate reads it.
use Rattle.std.proofs.Common.{arith, ◌≡◌, ℕ, Bool, true, false, cond, List, [], ◌∷◌, length, refl, ap, Some, None, Result, Ok, Err}
use Rattle.std.specs.Result.{result_ok}
use Rattle.std.specs.Str.Parse.{ParsesUnsigned, digits_value, without_leading_plus}
use Rattle.clap.specs.ValueTests.{is_unsigned_in}
use Rattle.clap.specs.Walk.{is_empty}
use Rattle.clap.specs.Words.{IsAmong, Kinds, fault_of, is_simple, is_simple_and_free, subcommand_of}
use Rattle.clap.specs.declared.error.kind.ErrorKind.{ErrorKind}
use Rattle.std.specs.Option.{option_and_then}
use Rattle.std.proofs.lemmas.Bool.{ne_eqb}
use Rattle.clap.proofs.ValueTestLemmas.{accepts-Accepts, Accepts-accepts}
use Rattle.clap.specs.declared.builder.value_parser.ValueParser.TheVariants.{Unsigned}
use Rattle.clap.proofs.OnLiterals.{clap_on_literals}
use Rattle.command_words.specs.Shapes.{table}
use Rattle.command_words.specs.Words.{command_in, matched, number_in}

-- the number of a text
pub number_parsed : {E : Type 0} (text : List ℕ) (r : Result ℕ E) → ParsesUnsigned 64 10 text r → result_ok r ≡ number_in text
number_parsed {E = E} text r h = go r h (is_unsigned_in 0 18446744073709551615 text) refl
  where
    go : (r : Result ℕ E) → ParsesUnsigned 64 10 text r → (v : Bool) → is_unsigned_in 0 18446744073709551615 text ≡ v
        → result_ok r ≡ cond v (Some (digits_value 10 (without_leading_plus text))) None
    go (Ok x) h true e = ap Some h.1
    go (Err x) h true e =
        let is = accepts-Accepts false (Unsigned 0 18446744073709551615) text e in absurd (h (is.0, is.1))
    go (Ok x) h false e =
        let is = Accepts-accepts false (Unsigned 0 18446744073709551615) text (h.0.0, h.0.1, omega arith, omega (arith, h.0.1)) in cc (is, e)
    go (Err x) h false e = refl

-- the table is one of those commands of which `clap` says everything
pub table_simple : is_simple table ≡ true
unfolding table clap_on_literals
table_simple = refl

pub table_free : is_simple_and_free table ≡ true
unfolding table clap_on_literals
table_free = refl

-- words that the function doesn't refuse, and words that it refuses
pub matched_free : (words : List (List ℕ)) → fault_of table words ≡ [] → matched words ≡ option_and_then command_in (subcommand_of table words)
unfolding matched
matched_free words e = ap (λ (ks : Kinds). cond (is_empty ks) (option_and_then command_in (subcommand_of table words)) None) e

pub matched_refused : (words : List (List ℕ)) (k : ErrorKind) → IsAmong k (fault_of table words) → None ≡ matched words
unfolding matched
matched_refused words k among = go (fault_of table words) among
  where
    go : (ks : Kinds) → IsAmong k ks → None ≡ cond (is_empty ks) (option_and_then command_in (subcommand_of table words)) None
    go [] h = absurd h
    go (x ∷ xs) h = let some : is_empty (x ∷ xs) ≡ false = ne_eqb (length (x ∷ xs)) 0 (λ e. omega arith) in rw some refl
