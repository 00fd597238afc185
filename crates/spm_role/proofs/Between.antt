-- Each move of sector 0 raises its rank: twice the version, and one more where nobody has the role.
use Rattle.std.proofs.Common.{◌≡◌, ℕ, ◌+◌, ◌-◌, ◌*◌, ◌^◌, ◌<◌, ◌≤◌, ◌==◌, Bool, true, false, List, [], ◌∷◌, refl, ap, ◌∙◌, inl, inr, arith}
use Rattle.std.proofs.lemmas.Bool.Decides.{nat_tests}
use Rattle.std.specs.Prelude.{if◌then◌else◌}
use Rattle.sd_names.specs.UpSet.{Hosts}
use Rattle.lease_area.specs.Move.{RoleMove, next_version, owner_of, version_of}
use Rattle.lease_area.specs.declared.sector.Sector.{Sector}
use Rattle.spm_role.specs.History.{IsHistory}

rank_of : ℕ → ℕ → ℕ
rank_of owner version = if owner == 0 then 2 * version + 1 else 2 * version

rank_free : (version : ℕ) → rank_of 0 version ≡ 2 * version + 1
unfolding rank_of
rank_free version = refl

rank_held : (owner version : ℕ) → 1 ≤ owner → rank_of owner version ≡ 2 * version
unfolding rank_of
rank_held owner version some = let apart : (owner == 0) ≡ false = grind (arith, nat_tests, some) in rw apart refl

rank_low : (owner version : ℕ) → rank_of owner version ≤ 2 * version + 1
unfolding rank_of
rank_low owner version = by_test (owner == 0)
  where
    by_test : (t : Bool) → (if t then 2 * version + 1 else 2 * version) ≤ 2 * version + 1
    by_test true = omega arith
    by_test false = omega arith

rank : Sector → ℕ
rank s = rank_of (owner_of s) (version_of s)

-- what a move raises
raises : (up : Hosts) (host : ℕ) (old new : Sector) → 1 ≤ host → version_of new < 2 ^ 63 - 1 → RoleMove up host old new → (rank old < rank new) × (version_of old ≤ version_of new)
unfolding rank
raises up host old new some low (inl taken) =
    let version : version_of new ≡ next_version (version_of old) = ap version_of taken.1 in
    let owner : owner_of new ≡ host = ap owner_of taken.1 in
    let held : rank_of (owner_of new) (version_of new) ≡ 2 * version_of new = rank_held (owner_of new) (version_of new) (omega (arith, owner, some)) in
    let next : version_of new ≡ version_of old + 1 = omega (arith, version, low) in
    (omega (arith, held, next, rank_low (owner_of old) (version_of old)), omega (arith, next))
raises up host old new some low (inr given) =
    let r = given.0 in
    let old_owner : owner_of old ≡ host = ap owner_of given.1 ∙ given.2 in
    let old_version : version_of old ≡ r.version = ap version_of given.1 in
    let new_owner : owner_of new ≡ 0 = ap owner_of given.3 in
    let new_version : version_of new ≡ r.version = ap version_of given.3 in
    let held : rank_of (owner_of old) (version_of old) ≡ 2 * version_of old = rank_held (owner_of old) (version_of old) (omega (arith, old_owner, some)) in
    let free : rank_of (owner_of new) (version_of new) ≡ 2 * version_of new + 1 = ap (λ (n : ℕ). rank_of n (version_of new)) new_owner ∙ rank_free (version_of new) in
    (omega (arith, held, free, old_version, new_version), omega (arith, old_version, new_version))

-- a history below the last version raises nothing, or the rank
later : (first last : Sector) (moves : List Sector) → IsHistory first moves last → version_of last < 2 ^ 63 - 1 → (rank first ≤ rank last) × (version_of first ≤ version_of last)
later first last [] is low = (omega (arith, ap rank is), omega (arith, ap version_of is))
later first last (next ∷ more) is low =
    let rest = later next last more is.1 low in
    let step = raises is.0.up is.0.host first next is.0.is_host (omega (arith, rest.1, low)) is.0.move in
    (omega (arith, step.0, rest.0), omega (arith, step.1, rest.1))

pub none_between : (first last : Sector) (moves : List Sector) → IsHistory first moves last → version_of last < 2 ^ 63 - 1 → last ≡ first → moves ≡ []
none_between first last [] is low same = refl
none_between first last (next ∷ more) is low same =
    let rest = later next last more is.1 low in
    let step = raises is.0.up is.0.host first next is.0.is_host (omega (arith, rest.1, low)) is.0.move in
    absurd (no_rise (rank first) (rank next) (rank last) (ap rank same) step.0 rest.0)
  where
    no_rise : (a b c : ℕ) → c ≡ a → a < b → b ≤ c → ⊥
    no_rise a b c same less most = omega (arith, same, less, most)
