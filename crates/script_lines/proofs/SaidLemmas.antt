-- What a line says, part by part.
use Rattle.std.proofs.Common.{◌≡◌, ℕ, ◌++◌, true, false, List, [], ◌∷◌, refl, sym, ◌∙◌, ap, Ok, Err}
use Rattle.std.proofs.lemmas.List.{append-nil}
use Rattle.sd_names.specs.declared.refusal.Refusal.{Refusal}
use Rattle.sd_names.specs.declared.refusal.Refusal.TheVariants.{BadArgument}
use Rattle.script_lines.specs.Argument.{Kind, Value, values_of, onto, onto_all}
use Rattle.script_lines.specs.Said.{has_words}

-- no more arguments, or one too many
pub ended : (place : ℕ) (ws : List (List ℕ)) → has_words ws ≡ false → values_of [] place ws ≡ Ok []
unfolding values_of
ended place [] e = refl
ended place (w ∷ ws) e = cc e

pub too_many : (place : ℕ) (ws : List (List ℕ)) → has_words ws ≡ true → values_of [] place ws ≡ Err (BadArgument place)
unfolding values_of
too_many place [] e = cc e
too_many place (w ∷ ws) e = refl

-- the arguments of a verb, and nothing behind them
onto_all-ok : (vs : List Value) → onto_all vs (Ok []) ≡ Ok vs
onto_all-ok [] = refl
onto_all-ok (v ∷ vs) = ap (onto v) (onto_all-ok vs)

onto_all-err : (vs : List Value) (r : Refusal) → onto_all vs (Err r) ≡ Err r
onto_all-err [] r = refl
onto_all-err (v ∷ vs) r = ap (onto v) (onto_all-err vs r)

pub all_read : (kinds : List Kind) (vs : List Value) (place : ℕ) (ws behind : List (List ℕ)) → has_words behind ≡ false
    → values_of (kinds ++ []) 1 ws ≡ onto_all vs (values_of [] place behind) → Ok vs ≡ values_of kinds 1 ws
all_read kinds vs place ws behind none e =
    sym (onto_all-ok vs) ∙ ap (onto_all vs) (sym (ended place behind none)) ∙ sym e ∙ ap (λ ks. values_of ks 1 ws) (append-nil kinds)

pub more_than_all : (kinds : List Kind) (vs : List Value) (place : ℕ) (ws behind : List (List ℕ)) → has_words behind ≡ true
    → values_of (kinds ++ []) 1 ws ≡ onto_all vs (values_of [] place behind) → Err (BadArgument place) ≡ values_of kinds 1 ws
more_than_all kinds vs place ws behind some e =
    sym (onto_all-err vs (BadArgument place)) ∙ ap (onto_all vs) (sym (too_many place behind some)) ∙ sym e
    ∙ ap (λ ks. values_of ks 1 ws) (append-nil kinds)

pub not_all : (kinds : List Kind) (place : ℕ) (ws : List (List ℕ)) → values_of (kinds ++ []) 1 ws ≡ Err (BadArgument place)
    → Err (BadArgument place) ≡ values_of kinds 1 ws
not_all kinds place ws e = sym e ∙ ap (λ ks. values_of ks 1 ws) (append-nil kinds)
