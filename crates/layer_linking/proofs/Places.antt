-- The places of clusters, by their number in the sector.
use Rattle.std.proofs.Common.{◌≡◌, ◌⊎◌, inl, inr, ℕ, suc, ◌+◌, ◌*◌, ◌/◌, ◌%◌, ◌<◌, ◌≤◌, Bool, true, false, List, replicate, get_or, Option, None, refl, sym, ap, ◌∙◌, arith}
use Rattle.std.specs.Prelude.{◌==◌, if◌then◌else◌}
use Rattle.std.proofs.lemmas.Bool.{cases_lt, eq-eqb}
use Rattle.std.proofs.lemmas.List.{get_or-replicate, get_or_past, length-replicate}
use Rattle.link_laws.specs.Links.{laid, lay}
use Rattle.link_laws.proofs.Words.{laid_more}
use Rattle.layer_linking.specs.Links.{to_of}
use Rattle.layer_linking.specs.declared.links.Links.{Links}

-- no cluster has a place
abbrev nowhere : Option ℕ
nowhere = None

none_in : (n i : ℕ) → get_or (replicate n nowhere) i nowhere ≡ nowhere
none_in n i = go (cases_lt i n)
  where
    go : (i < n) ⊎ (n ≤ i) → get_or (replicate n nowhere) i nowhere ≡ nowhere
    go (inl lt) = get_or-replicate n i nowhere nowhere lt
    go (inr le) = get_or_past (replicate n nowhere) i nowhere (omega (arith, length-replicate n nowhere, le))

pub none_given : (group k : ℕ) (places : List (Option ℕ)) → places ≡ replicate 64 None → (if k / 64 == group then get_or places (k % 64) None else None) ≡ None
none_given group k places is = go (k / 64 == group)
  where
    go : (b : Bool) → (if b then get_or places (k % 64) None else None) ≡ None
    go true = ap (λ (xs : List (Option ℕ)). get_or xs (k % 64) None) is ∙ none_in 64 (k % 64)
    go false = refl

-- the place of the m-th cluster of the sector
pub given_at : (links : Links) (m : ℕ) → m < 64 → to_of links (64 * links.group + m) ≡ get_or links.places m None
given_at links m lt =
    let row : (64 * links.group + m) / 64 ≡ links.group = omega (arith, lt) in
    let column : (64 * links.group + m) % 64 ≡ m = omega (arith, lt) in
    ap (λ (b : Bool). if b then get_or links.places ((64 * links.group + m) % 64) None else None) (eq-eqb ((64 * links.group + m) / 64) links.group row)
    ∙ ap (λ (i : ℕ). get_or links.places i None) column

-- one more of the sector's entries, where it has this place or none
pub laid_next : (links : Links) (m : ℕ) (place : Option ℕ) (start before : List ℕ) → m < 64 → get_or links.places m None ≡ place → before ≡ laid (to_of links) (64 * links.group) m start
    → lay place m before ≡ laid (to_of links) (64 * links.group) (m + 1) start
laid_next links m place start before lt is so_far =
    let one : m + 1 ≡ suc m = omega arith in
    ap (lay place m) so_far ∙ ap (λ (o : Option ℕ). lay o m (laid (to_of links) (64 * links.group) m start)) (sym (given_at links m lt ∙ is))
    ∙ sym (laid_more (to_of links) (64 * links.group) m start) ∙ ap (λ (k : ℕ). laid (to_of links) (64 * links.group) k start) (sym one)
