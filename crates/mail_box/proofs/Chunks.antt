-- The slots of a box, and the bytes that they have.
use Rattle.std.proofs.Common.{◌≡◌, ℕ, zero, suc, ◌+◌, ◌*◌, ◌<◌, List, [], ◌++◌, take, drop, get_or, sym, ap, ◌∙◌, arith}
use Rattle.std.specs.List.{flat_map}
use Rattle.std.specs.Simd.{first_chunks}
use Rattle.std.proofs.Math.Seq.{take-add}
use Rattle.std.proofs.lemmas.List.{drop-drop}

pub flat_map-first_chunks : (n k : ℕ) (bytes : List ℕ) → flat_map (λ x. x) (first_chunks n k bytes) ≡ take (k * n) bytes
flat_map-first_chunks n zero bytes =
    let e : 0 ≡ zero * n = omega arith in
    ap (λ (m : ℕ). take m bytes) e
flat_map-first_chunks n (suc k) bytes =
    let e : suc k * n ≡ n + k * n = omega arith in
    ap (λ (b : List ℕ). take n bytes ++ b) (flat_map-first_chunks n k (drop n bytes)) ∙ sym (take-add n (k * n) bytes) ∙ ap (λ (m : ℕ). take m bytes) (sym e)

pub get_or-first_chunks : (n k i : ℕ) (bytes : List ℕ) → i < k → get_or (first_chunks n k bytes) i [] ≡ take n (drop (n * i) bytes)
get_or-first_chunks n zero i bytes h = absurd (omega arith)
get_or-first_chunks n (suc k) zero bytes h =
    let e : 0 ≡ n * zero = omega arith in
    ap (λ (m : ℕ). take n (drop m bytes)) e
get_or-first_chunks n (suc k) (suc i) bytes h =
    let e : n + n * i ≡ n * suc i = omega arith in
    get_or-first_chunks n k i (drop n bytes) (omega arith) ∙ ap (take n) (drop-drop (n * i) n bytes ∙ ap (λ (m : ℕ). drop m bytes) e)
