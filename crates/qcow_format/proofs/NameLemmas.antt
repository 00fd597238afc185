-- The last part of a name.
use Rattle.std.proofs.Common.{◌≡◌, ℕ, ◌-◌, ◌<◌, ◌≤◌, true, eqb, List, length, get_or, take, drop, refl, sym, ◌∙◌, arith}
use Rattle.std.specs.Prelude.{not}
use Rattle.std.proofs.lemmas.List.{take_all, length-drop}
use Rattle.std.proofs.lemmas.List.Sums.{suffix_len_is}
use Rattle.qcow_format.specs.Name.{last_part}

-- the part from a place on has no `/`, and one stands before the place
pub last_part_is : (name : List ℕ) (start : ℕ) → start ≤ length name
    → ((k : ℕ) → start ≤ k → k < length name → not (eqb (get_or name k 0) 47) ≡ true)
    → (0 < start → get_or name (start - 1) 0 ≡ 47)
    → take (length name - start) (drop start name) ≡ last_part name
last_part_is name start le no_slash slash =
    let len = suffix_len_is (λ b. not (eqb b 47)) name start 0 le no_slash (λ lt. let is = slash lt in rw is refl) in
    let back : length name - (length name - start) ≡ start = omega arith in
    take_all (length name - start) (drop start name) (omega (arith, length-drop start name)) ∙ sym (rw (len, back) refl)
