-- The event of a verb that was read.
use Rattle.std.proofs.Common.{◌≡◌, ℕ, List, refl}
use Rattle.script_lines.specs.Argument.{Value}
use Rattle.script_lines.specs.Said.{begin, whole}
use Rattle.script_lines.specs.declared.verb_names.VerbWord.{VerbWord}

pub whole_same : (host : ℕ) (a b : VerbWord) (values : List Value) → a ≡ b
    → whole host (record { verb = a; values = values }) ≡ whole host (record { verb = b; values = values })
whole_same host a b values e = rw e refl

pub begin_same : (host : ℕ) (a b : VerbWord) (values : List Value) → a ≡ b
    → begin host (record { verb = a; values = values }) ≡ begin host (record { verb = b; values = values })
begin_same host a b values e = rw e refl
