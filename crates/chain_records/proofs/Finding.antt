-- The first volumes of a listing.
use Rattle.std.proofs.Common.{◌≡◌, ℕ, ◌+◌, ◌≤◌, ◌==◌, true, false, min, List, [], ◌∷◌, ◌++◌, length, take, sym, ap, ◌∙◌, arith, length-append}
use Rattle.std.proofs.lemmas.Bool.{false≢true}
use Rattle.std.proofs.lemmas.Bool.Decides.{Decides-eqb}
use Rattle.std.proofs.lemmas.List.{length-take, take-append-le, take_all}
use Rattle.sd_names.specs.declared.id.Id.{Id}

as_many : (vs ids : List Id) → ids ≡ take 32 vs → length ids ≡ min 32 (length vs)
as_many vs ids e = ap (λ (us : List Id). length us) e ∙ length-take 32 vs

pub found_all : (vs ids : List Id) → ids ≡ take 32 vs → length vs ≤ 32 → ids ≡ vs
found_all vs ids e few = e ∙ take_all 32 vs few

pub found_more : (vs ids : List Id) (v : Id) → ids ≡ take 32 vs → (length ids ≡ 32 → ⊥) → ids ++ v ∷ [] ≡ take 32 (vs ++ v ∷ [])
found_more vs ids v e room =
    let many = as_many vs ids e in
    let few : length vs ≤ 31 = omega (arith, many, room) in
    let longer : length (vs ++ v ∷ []) ≤ 32 = omega (arith, few, length-append vs (v ∷ [])) in
    ap (λ (us : List Id). us ++ v ∷ []) (found_all vs ids e (omega (arith, few))) ∙ sym (take_all 32 (vs ++ v ∷ []) longer)

pub found_full : (vs ids : List Id) (v : Id) → ids ≡ take 32 vs → length ids ≡ 32 → ids ≡ take 32 (vs ++ v ∷ [])
found_full vs ids v e full =
    let many = as_many vs ids e in
    let le : 32 ≤ length vs = omega (arith, many, full) in
    e ∙ sym (take-append-le 32 vs (v ∷ []) le)

pub counted_more : (vs : List Id) (v : Id) (count after most : ℕ) → count ≡ min (length vs) most → after ≡ min (count + 1) most
    → after ≡ min (length (vs ++ v ∷ [])) most
counted_more vs v count after most e f = omega (arith, e, f, length-append vs (v ∷ []))

pub not_full : (n : ℕ) → false ≡ (n == 32) → n ≡ 32 → ⊥
not_full n e f = false≢true (e ∙ (Decides-eqb n 32).1 f)

pub is_full : (n : ℕ) → true ≡ (n == 32) → n ≡ 32
is_full n e = (Decides-eqb n 32).0 (sym e)
