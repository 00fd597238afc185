-- Sector 0 from its reading to its exchange: what the exchange answers is what the checks of the machine say of what stands
-- there then.
-- Claim: so a refusal of the exchange is one of the machine's, also where another lease of the same owner and version stands there.
use Rattle.std.proofs.Common.{◌≡◌, ◌≢◌, ℕ, ◌≤◌, ◌==◌, not, true, false, Bool, Option, Some, None, Result, Ok, Err, refl, sym, ap, subst, ◌∙◌, inl, inr, ◌⊎◌, arith}
use Rattle.std.proofs.lemmas.Bool.{eqb-true, false≢true}
use Rattle.std.proofs.lemmas.Bool.Decides.{nat_tests}
use Rattle.std.proofs.lemmas.Slice.Eq.{bytes_eq-Decides}
use Rattle.std.specs.Prelude.{if◌then◌else◌}
use Rattle.std.specs.Str.{bytes_eq}
use Rattle.sd_names.specs.UpSet.{Hosts}
use Rattle.sd_names.specs.declared.id.Id.{Id}
use Rattle.sd_names.specs.declared.refusal.Refusal.{Refusal}
use Rattle.lease_area.specs.Hold.{met_answer, role_answer, role_refusal}
use Rattle.lease_area.specs.Move.{RoleMove, freed, image_of, is_open, next_version, owner_of, role_taken, taken_by, version_of}
use Rattle.lease_area.specs.Record.{IsOwner}
use Rattle.lease_area.specs.Sector.{IsSector, sector_bytes, sector_in}
use Rattle.lease_area.specs.declared.sector.Kind.{Kind}
use Rattle.lease_area.specs.declared.sector.Kind.TheVariants.{Free, Guest, Task}
use Rattle.lease_area.specs.declared.sector.LeaseRecord.{LeaseRecord}
use Rattle.lease_area.specs.declared.sector.Sector.{Sector}
use Rattle.lease_area.specs.declared.sector.Sector.TheVariants.{Empty, Lease}
use Rattle.lease_area.proofs.Fields.{sector_back}
use Rattle.spm_role.specs.Look.{look_answer}
use Rattle.role_taking.specs.Knows.{IsBehind}

same_some : (a b : Sector) → ◌≡◌ {A = Option Sector} (Some a) (Some b) → a ≡ b
same_some a b e = cc

-- sectors of the same bytes are the same
same_sector : (s x : Sector) → IsSector s → IsSector x → sector_bytes s ≡ sector_bytes x → s ≡ x
same_sector s x is fits same = same_some s x (sym (sector_back s is) ∙ ap sector_in same ∙ sector_back x fits)

-- ---- a lease of the same owner and version is the same, but for the last version

same_kind : (a b : Kind) (owner : ℕ) → a ≢ Task → b ≢ Task → IsOwner a owner → IsOwner b owner → a ≡ b
same_kind Free Free owner na nb x y = refl
same_kind Free Guest owner na nb x y = absurd (omega (arith, x, y.0))
same_kind Guest Free owner na nb x y = absurd (omega (arith, y, x.0))
same_kind Guest Guest owner na nb x y = refl
same_kind Task b owner na nb x y = absurd (na refl)
same_kind Free Task owner na nb x y = absurd (nb refl)
same_kind Guest Task owner na nb x y = absurd (nb refl)

same_lease : (a b : LeaseRecord) → a.kind ≡ b.kind → a.owner ≡ b.owner → a.version ≡ b.version → a.image ≡ b.image → a ≡ b
same_lease a b kind owner version image =
    ap (λ (k : Kind). record { kind = k; owner = a.owner; version = a.version; image = a.image }) kind
    ∙ ap (λ (n : ℕ). record { kind = b.kind; owner = n; version = a.version; image = a.image }) owner
    ∙ ap (λ (n : ℕ). record { kind = b.kind; owner = b.owner; version = n; image = a.image }) version
    ∙ ap (λ (i : Id). record { kind = b.kind; owner = b.owner; version = b.version; image = i }) image

-- what moves have led to has another owner or version than what was read, or is the same
pub comes_back : (x s : Sector) → IsSector x → IsSector s → ((r : LeaseRecord) → x ≡ Lease r → r.kind ≢ Task) → ((r : LeaseRecord) → s ≡ Lease r → r.kind ≢ Task)
    → (s ≡ x) ⊎ IsBehind x s → owner_of s ≡ owner_of x → version_of s ≡ version_of x → s ≡ x
comes_back x s fits is no_task no_tasks (inl same) owner version = same
comes_back Empty s fits is no_task no_tasks (inr behind) owner version =
    absurd (omega (arith, sym (ap version_of behind.is) ∙ version, behind.version refl))
comes_back (Lease a) s fits is no_task no_tasks (inr behind) owner version =
    behind.is ∙ ap (λ (r : LeaseRecord). Lease r) (same_lease behind.lease a
    (same_kind behind.lease.kind a.kind a.owner (no_tasks behind.lease behind.is) (no_task a refl)
    (subst (λ (n : ℕ). IsOwner behind.lease.kind n) (sym (ap owner_of behind.is) ∙ owner) (subst (λ (z : Sector). IsSector z) behind.is is).owner) fits.owner)
    (sym (ap owner_of behind.is) ∙ owner) (sym (ap version_of behind.is) ∙ version) behind.image)

-- ---- moves

-- a move of sector 0 goes on from what was read
pub moves_behind : (up : Hosts) (host : ℕ) (x old new : Sector) → (old ≡ x) ⊎ IsBehind x old → RoleMove up host old new → IsBehind x new
moves_behind up host x old new comes (inl (may, taken)) = record {
  lease = taken_by host Guest old;
  is = taken;
  image = image_stays comes;
  version = λ empty. raised comes empty;
}
  where
    image_stays : (old ≡ x) ⊎ IsBehind x old → image_of old ≡ image_of x
    image_stays (inl same) = ap image_of same
    image_stays (inr behind) = ap image_of behind.is ∙ behind.image

    raised : (old ≡ x) ⊎ IsBehind x old → x ≡ Empty → 1 ≤ next_version (version_of old)
    raised (inl same) empty = let none : version_of old ≡ 0 = ap version_of (same ∙ empty) in omega (arith, none)
    raised (inr behind) empty = let is : version_of old ≡ behind.lease.version = ap version_of behind.is in omega (arith, is, behind.version empty)
moves_behind up host x old new comes (inr (r, was, own, now)) = record {
  lease = freed r;
  is = now;
  image = ap image_of (sym was) ∙ image_stays comes;
  version = λ empty. kept comes empty;
}
  where
    image_stays : (old ≡ x) ⊎ IsBehind x old → image_of old ≡ image_of x
    image_stays (inl same) = ap image_of same
    image_stays (inr behind) = ap image_of behind.is ∙ behind.image

    none : Lease r ≡ Empty → ⊥
    none e = cc

    kept : (old ≡ x) ⊎ IsBehind x old → x ≡ Empty → 1 ≤ r.version
    kept (inl same) empty = absurd (none (sym was ∙ same ∙ empty))
    kept (inr behind) empty = let is : r.version ≡ behind.lease.version = ap version_of (sym was ∙ behind.is) in omega (arith, is, behind.version empty)

-- ---- the exchange

-- what a taking of this sector answers, by what the checks say of it
abbrev pub taken_as : ℕ → Result Sector Refusal → Result LeaseRecord Refusal
taken_as host (Ok s) = Ok (taken_by host Guest s)
taken_as host (Err e) = Err e

eq_test : (a b : ℕ) → a ≡ b → (a == b) ≡ true
eq_test a b e = grind (arith, nat_tests, e)

-- where the sector is the one that was read
met_by : (host : ℕ) (x : Sector) (held other : Refusal) (prev lver : Refusal) (o a b : Bool) → a ≡ true → b ≡ true
    → met_answer (if o then Some (taken_by host Guest x) else None) (if not o then held else other)
    ≡ taken_as host (if not o then Err held else if not a then Err prev else if not b then Err lver else Ok x)
met_by host x held other prev lver false a b e f = refl
met_by host x held other prev lver true true true e f = refl
met_by host x held other prev lver true false b e f = absurd (false≢true e)
met_by host x held other prev lver true true false e f = absurd (false≢true f)

-- and where another one stands there
apart_by : (host : ℕ) (s : Sector) (held prev lver other : Refusal) (o a b : Bool) → (o ≡ true → a ≡ true → b ≡ true → ⊥)
    → ◌≡◌ {A = Result LeaseRecord Refusal} (Err (if not o then held else if not a then prev else if not b then lver else other))
    (taken_as host (if not o then Err held else if not a then Err prev else if not b then Err lver else Ok s))
apart_by host s held prev lver other false a b none = refl
apart_by host s held prev lver other true false b none = refl
apart_by host s held prev lver other true true false none = refl
apart_by host s held prev lver other true true true none = absurd (none refl refl refl)

module _ (up : Hosts) (host : ℕ) (x s : Sector) (fits : IsSector x) (is : IsSector s) (no_task : (r : LeaseRecord) → x ≡ Lease r → r.kind ≢ Task)
    (no_tasks : (r : LeaseRecord) → s ≡ Lease r → r.kind ≢ Task) (comes : (s ≡ x) ⊎ IsBehind x s) where
  answered_by : (b : Bool) → bytes_eq (sector_bytes s) (sector_bytes x) ≡ b
      → (if b then met_answer (role_taken up host x) (role_refusal up host x (Some x)) else Err (role_refusal up host x (sector_in (sector_bytes s))))
      ≡ taken_as host (look_answer up host (owner_of x) (version_of x) (Some s))
  answered_by true e = subst (λ (z : Sector). met_answer (role_taken up host x) (role_refusal up host x (Some x))
      ≡ taken_as host (look_answer up host (owner_of x) (version_of x) (Some z))) (sym (same_sector s x is fits ((bytes_eq-Decides (sector_bytes s) (sector_bytes x)).0 e)))
      (met_by host x _ _ _ _ (is_open up host (owner_of x)) (owner_of x == owner_of x) (version_of x == version_of x) (eq_test (owner_of x) (owner_of x) refl)
      (eq_test (version_of x) (version_of x) refl))
  answered_by false e = ap (λ (o : Option Sector). Err (role_refusal up host x o)) (sector_back s is)
      ∙ apart_by host s _ _ _ _ (is_open up host (owner_of s)) (owner_of s == owner_of x) (version_of s == version_of x) none
    where
      none : is_open up host (owner_of s) ≡ true → (owner_of s == owner_of x) ≡ true → (version_of s == version_of x) ≡ true → ⊥
      none may owner version = false≢true (sym e ∙ (bytes_eq-Decides (sector_bytes s) (sector_bytes x)).1 (ap sector_bytes
          (comes_back x s fits is no_task no_tasks comes (eqb-true (owner_of s) (owner_of x) owner) (eqb-true (version_of s) (version_of x) version))))

  pub exchange_answers : (prev lver : ℕ) → owner_of x ≡ prev → version_of x ≡ lver
      → role_answer up host x (sector_bytes s) ≡ taken_as host (look_answer up host prev lver (Some s))
  exchange_answers prev lver owner version = subst (λ (n : ℕ). role_answer up host x (sector_bytes s) ≡ taken_as host (look_answer up host n lver (Some s))) owner
      (subst (λ (n : ℕ). role_answer up host x (sector_bytes s) ≡ taken_as host (look_answer up host (owner_of x) n (Some s))) version
      (answered_by (bytes_eq (sector_bytes s) (sector_bytes x)) refl))
