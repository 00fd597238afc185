-- The list of a pool's domains, read again.
use Rattle.std.proofs.Common.{◌≡◌, ◌⊎◌, inl, inr, ℕ, ◌*◌, ◌<◌, ◌≤◌, true, false, List, [], ◌∷◌, length, get_or, take, drop, map, refl, ap, ◌∙◌, arith, length-append, All, codes, Some, le-leb}
use Rattle.std.specs.List.{slice_split}
use Rattle.std.proofs.lemmas.Bool.Decides.{nat_tests}
use Rattle.std.proofs.lemmas.List.{take_at, drop_at}
use Rattle.std.proofs.lemmas.List.Elements.{All-append, All-from_recursion, All-from_get_or, All-head, All-tail}
use Rattle.std.proofs.lemmas.List.Splits.{slice_split_none, slice_split_at}
use Rattle.sd_names.specs.Id.{IsIdBytes, id_text}
use Rattle.sd_names.specs.declared.id.Id.{Id}
use Rattle.sd_names.specs.declared.kinds.Role.{Role}
use Rattle.sd_names.specs.declared.kinds.Role.TheVariants.{Master, Regular}
use Rattle.sd_names.proofs.IdLemmas.{id_text-length, id_text-apart}
use Rattle.kv_text.proofs.ValuesBack.{id_of-id_text}
use Rattle.domain_meta.specs.Text.{domain_text_of, domains_text}
use Rattle.domain_meta.specs.Valid.{Lists}
use Rattle.domain_meta.specs.Values.{domain_of, domains_of, domains_of_words, is_comma, is_rising, listed_of}

domain_back : (id : Id) → IsIdBytes id.0 → domain_of (domain_text_of id) ≡ Some id
unfolding domain_of
domain_back id is =
    let long = id_text-length id.0 in
    let behind : drop 36 (domain_text_of id) ≡ codes ":Active" = drop_at (id_text id.0) (codes ":Active") 36 long in
    let front : take 36 (domain_text_of id) ≡ id_text id.0 = take_at (id_text id.0) (codes ":Active") 36 long in
    rw (behind, front) (id_of-id_text id.0 is)

apart : (c : ℕ) → (47 < c) ⊎ (c ≡ 45) → is_comma c ≡ false
apart c (inl h) = grind (arith, nat_tests)
apart c (inr h) = grind (arith, nat_tests)

-- no domain's text has a comma
no_comma : (id : Id) → All (λ c. is_comma c ≡ false) (domain_text_of id)
no_comma id =
    All-append (λ c. is_comma c ≡ false) (id_text id.0) (codes ":Active")
    (All-from_get_or (λ (c : ℕ). is_comma c ≡ false) (id_text id.0) 0
    (λ k within. apart (get_or (id_text id.0) k 0) (id_text-apart id.0 k (rw (← id_text-length id.0) within))))
    (All-from_recursion (λ (c : ℕ). is_comma c ≡ false) (codes ":Active") (refl, (refl, (refl, (refl, (refl, (refl, (refl, tt))))))))

words_back : (id : Id) (ids : List Id) → slice_split is_comma (domains_text (id ∷ ids)) ≡ map domain_text_of (id ∷ ids)
words_back id [] = slice_split_none is_comma (domain_text_of id) (no_comma id)
words_back id (next ∷ more) =
    slice_split_at is_comma (domain_text_of id) 44 (domains_text (next ∷ more)) (no_comma id) refl
    ∙ ap (λ (ws : List (List ℕ)). domain_text_of id ∷ ws) (words_back next more)

each_back : (ids : List Id) → All (λ id. IsIdBytes id.0) ids → domains_of_words (map domain_text_of ids) ≡ Some ids
each_back [] all = refl
each_back (id ∷ ids) all =
    rw (domain_back id (All-head (λ (id : Id). IsIdBytes id.0) id ids all), each_back ids (All-tail (λ (id : Id). IsIdBytes id.0) id ids all)) refl

listed_back : (ids : List Id) → 1 ≤ length ids → length ids ≤ 4 → is_rising ids ≡ true → All (λ id. IsIdBytes id.0) ids → listed_of (domains_text ids) ≡ Some ids
unfolding listed_of
listed_back [] some few rising all = absurd (omega arith)
listed_back (id ∷ ids) some few rising all =
    rw (words_back id ids, each_back (id ∷ ids) all, le-leb (length (id ∷ ids)) 4 few, rising) refl

pub domains_back : (role : Role) (ids : List Id) → Lists role ids → All (λ id. IsIdBytes id.0) ids → domains_of (Some role) (domains_text ids) ≡ Some ids
unfolding domains_of
domains_back Master ids lists all = listed_back ids lists.0 lists.1 lists.2 all
domains_back Regular ids lists all = rw lists refl

domain_length : (id : Id) → length (domain_text_of id) ≡ 43
domain_length id = omega (arith, length-append (id_text id.0) (codes ":Active"), id_text-length id.0)

domains_length : (ids : List Id) → length (domains_text ids) ≤ 44 * length ids
domains_length [] = omega arith
domains_length (id ∷ []) = omega (arith, domain_length id)
domains_length (id ∷ next ∷ more) =
    omega (arith, length-append (domain_text_of id) (44 ∷ domains_text (next ∷ more)), domain_length id, domains_length (next ∷ more))

pub domains_short : (role : Role) (ids : List Id) → Lists role ids → length (domains_text ids) ≤ 176
domains_short Master ids lists = omega (arith, domains_length ids, lists.1)
domains_short Regular ids lists = rw lists (omega arith)
