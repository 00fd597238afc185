-- One argument before the others.
use Rattle.std.proofs.Common.{◌≡◌, ℕ, ◌+◌, List, [], ◌∷◌, refl, sym, ◌∙◌, ap, Some, None, Err}
use Rattle.sd_names.specs.declared.refusal.Refusal.TheVariants.{BadArgument}
use Rattle.script_lines.specs.Words.{words}
use Rattle.script_lines.specs.Argument.{Kind, identifier, set_identifier, number, description, data_text, layout, Value, first_value, continued, onto, values_of}

none_first : (kind : Kind) → first_value kind [] ≡ None
none_first identifier = refl
none_first set_identifier = refl
none_first (number low high) = refl
none_first description = refl
none_first data_text = refl
none_first layout = refl

-- an argument is missing
pub missing : (kind : Kind) (more : List Kind) (place : ℕ) (line : List ℕ) → words line ≡ []
    → values_of (kind ∷ more) place (words line) ≡ Err (BadArgument place)
unfolding values_of
missing kind more place line none =
    ap (λ ws. continued place (λ rest. values_of more (place + 1) rest) (first_value kind ws)) none
    ∙ ap (continued place (λ rest. values_of more (place + 1) rest)) (none_first kind)

-- an argument is malformed
pub malformed : (kind : Kind) (more : List Kind) (place : ℕ) (ws : List (List ℕ)) → first_value kind ws ≡ None
    → values_of (kind ∷ more) place ws ≡ Err (BadArgument place)
unfolding values_of
malformed kind more place ws none = ap (continued place (λ rest. values_of more (place + 1) rest)) none

-- an argument is read
pub found : (kind : Kind) (more : List Kind) (place next : ℕ) (ws behind : List (List ℕ)) (value : Value)
    → first_value kind ws ≡ Some (value, behind) → next ≡ place + 1
    → values_of (kind ∷ more) place ws ≡ onto value (values_of more next behind)
unfolding values_of
found kind more place next ws behind value is step =
    ap (continued place (λ rest. values_of more (place + 1) rest)) is
    ∙ ap (λ p. onto value (values_of more p behind)) (sym step)
