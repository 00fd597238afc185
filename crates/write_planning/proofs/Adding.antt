-- One cluster more among the links of a sector.
use Rattle.std.proofs.Common.{◌≡◌, ◌≢◌, ◌⊎◌, inl, inr, ℕ, ◌+◌, ◌<◌, ◌≤◌, List, Option, Some, None, ◌∙◌, subst, arith}
use Rattle.std.proofs.lemmas.Bool.{cases_lt}
use Rattle.layer_linking.specs.declared.links.Links.{Links}
use Rattle.write_planning.specs.Linked.{AreLinks, IsGroup, links_to, place_at}
use Rattle.write_planning.specs.Plan.{span_of}
use Rattle.write_planning.specs.Span.{first_of}
use Rattle.write_planning.specs.declared.plan.WritePlan.{WritePlan}

pub added : (p : WritePlan) (placed : List ℕ) (group start i place : ℕ) (links next : Option Links) → AreLinks p placed group start i links → start ≤ i → Some place ≡ place_at p placed i
    → IsGroup group next → links_to next (first_of (span_of p) + i) ≡ Some place → ((k : ℕ) → k ≢ first_of (span_of p) + i → links_to next k ≡ links_to links k) → AreLinks p placed group start (i + 1) next
added p placed group start i place links next before low is group_is here others = record {
  sector = group_is;
  here = λ j from below. go j from below (cases_lt j i);
  others = λ k out. others k (out i low (omega arith)) ∙ before.others k (λ j from below. out j from (omega (arith, below)));
}
  where
    go : (j : ℕ) → start ≤ j → j < i + 1 → (j < i) ⊎ (i ≤ j) → links_to next (first_of (span_of p) + j) ≡ place_at p placed j
    go j from below (inl lt) = others (first_of (span_of p) + j) (λ e. omega (arith, e, lt)) ∙ before.here j from lt
    go j from below (inr le) =
        let same : i ≡ j = omega (arith, below, le) in
        subst (λ n. links_to next (first_of (span_of p) + n) ≡ place_at p placed n) same (here ∙ is)

pub passed : (p : WritePlan) (placed : List ℕ) (group start i : ℕ) (links : Option Links) → AreLinks p placed group start i links → None ≡ place_at p placed i → AreLinks p placed group start (i + 1) links
passed p placed group start i links before is = record {
  sector = before.sector;
  here = λ j from below. go j from below (cases_lt j i);
  others = λ k out. before.others k (λ j from below. out j from (omega (arith, below)));
}
  where
    go : (j : ℕ) → start ≤ j → j < i + 1 → (j < i) ⊎ (i ≤ j) → links_to links (first_of (span_of p) + j) ≡ place_at p placed j
    go j from below (inl lt) = before.here j from lt
    go j from below (inr le) =
        let same : i ≡ j = omega (arith, below, le) in
        subst (λ n. links_to links (first_of (span_of p) + n) ≡ place_at p placed n) same
        (before.others (first_of (span_of p) + i) (λ m from less e. omega (arith, e, less)) ∙ is)
