-- The calls of a memory disk keep its limits.
use Rattle.std.proofs.Common.{◌≡◌, ℕ, ◌+◌, ◌-◌, ◌^◌, ◌<◌, ◌≤◌, min, List, Some, Result, Ok, Err, MatchResult, is_ok, true≢false, OnOk, OnErr, refl, sym, ap, subst, subst₂, ◌∙◌, inl, inr, arith}
use Rattle.std.specs.List.{Contains}
use Rattle.std.specs.Result.{IsErrOf}
use Rattle.std.proofs.lemmas.Option.{same_Some}
use Rattle.std.proofs.lemmas.Result.{on_err_weaker, on_ok_weaker}
use Rattle.shared_disk.specs.declared.disk.DiskAnswer.{DiskAnswer}
use Rattle.shared_disk.specs.declared.disk.DiskAnswer.TheVariants.{Failed}
use Rattle.memory_disk.specs.declared.store.Store.{Store}
use Rattle.shared_disk.specs.Calls.{Told}
use Rattle.memory_disk.specs.Held.{held, limits_with, units}
use Rattle.shared_disk.specs.Limits.{IsSameRoom, KeepsLimits, Limits, Use, Uses, adds, adds_at_most, need_of}

told : (l m : Limits) (R : Limits → Limits → Type 0) → R l m → Told (Some l) (Some m) R
told l m R w = λ k is. (m, refl, subst (λ (x : Limits). R x m) (same_Some l k is) w)

at_failed : {T : Type 0} (result : Result T DiskAnswer) (P : Type 0) → OnErr result P → IsErrOf result Failed → P
at_failed result P w e = subst (λ (r : Result _ DiskAnswer). OnErr r P) e w

on_ok : {T : Type 0} (result : Result T DiskAnswer) (P : Type 0) → P → OnOk result P
on_ok (Ok x) P w = w
on_ok (Err e) P w = record {}

on_err : {T : Type 0} (result : Result T DiskAnswer) (P : Type 0) → P → OnErr result P
on_err (Ok x) P w = record {}
on_err (Err e) P w = w

pub none_added : {T : Type 0} (s t : Store) (result : Result T DiskAnswer) → OnOk result (units t ≡ units s) → OnOk result (Uses (adds 0) (units s) (units t))
none_added s t result w = on_ok_weaker result (λ e. omega (arith, e)) w

pub no_more : {T : Type 0} (s t : Store) (result : Result T DiskAnswer) → OnOk result (units t ≤ units s) → OnOk result (Uses (adds_at_most 0) (units s) (units t))
no_more s t result w = on_ok_weaker result (λ e. omega (arith, e)) w

-- what the store did with a call that isn't listed
pub record Did {T : Type 0} (change : Use) (s t : Store) (result : Result T DiskAnswer) : Type 0 where
  pub room : t.room ≡ s.room
  pub uses : OnOk result (Uses change (units s) (units t))
  pub kept : OnErr result (t ≡ s)
  pub failed : IsErrOf result Failed → s.room < units s + need_of change

-- how the faults are counted
pub record Counts {T : Type 0} (faults faults_after : ℕ) (result : Result T DiskAnswer) : Type 0 where
  pub failed : IsErrOf result Failed → faults_after ≡ min (faults + 1) (2 ^ 64 - 1)
  pub other : (IsErrOf result Failed → ⊥) → faults_after ≡ faults

-- a call that never fails
pub uncounted : {T : Type 0} (faults faults_after : ℕ) (result : Result T DiskAnswer) → faults_after ≡ faults → (IsErrOf result Failed → ⊥) → Counts faults faults_after result
uncounted faults faults_after result same never = record { failed = λ e. absurd (never e); other = λ _. same }

value_not_failed : {T : Type 0} (x : T) → IsErrOf {T = T} (Ok x) Failed → ⊥
value_not_failed x e = cc

-- faults that are counted by a result with other values and the same errors
pub counted_by : {T U : Type 0} (faults faults_after : ℕ) (result : Result T DiskAnswer) (other : Result U DiskAnswer) (P : T → Type 0) → MatchResult result P (λ e. other ≡ Err e) → is_ok other ≡ is_ok result
    → Counts faults faults_after other → Counts faults faults_after result
counted_by faults faults_after (Ok x) other P cases variant counts =
    record { failed = λ e. absurd (value_not_failed x e); other = λ _. counts.other (λ e. true≢false (sym variant ∙ ap is_ok e)) }
counted_by faults faults_after (Err why) other P cases variant counts =
    record { failed = λ e. counts.failed cc; other = λ h. counts.other (λ e. h cc) }

-- a call that leaves the store as it is
pub looked : {T : Type 0} (s : Store) (result : Result T DiskAnswer) → (IsErrOf result Failed → ⊥) → Did (adds 0) s s result
looked s result never = record {
  room = refl;
  uses = on_ok result _ (omega arith);
  kept = on_err result _ refl;
  failed = λ e. absurd (never e);
}

answered : {T : Type 0} (change : Use) (number faults faults_after : ℕ) (failing : List ℕ) (s t : Store) (result : Result T DiskAnswer) → (Contains failing number → ⊥)
    → Counts faults faults_after result → Did change s t result
    → KeepsLimits change number faults faults_after (Some (held s)) (Some (held t)) result (limits_with failing s) (limits_with failing t)
answered change number faults faults_after failing s t result free counts did = record {
  same = record { room = did.room; failing = refl; fitted = s.used; fits = t.used };
  units = did.uses;
  refused = on_err_weaker result (λ e. ap units e) did.kept;
  listed = λ w. absurd (free w);
  failed = λ e. inr (did.failed e);
  counted = counts.failed;
  uncounted = counts.other;
  unchanged = λ e. ap (λ (x : Store). Some (held x)) (at_failed result (t ≡ s) did.kept e);
}

-- a call that isn't listed; the store and the list are at first as they were before the call
pub keeps : {T : Type 0} (change : Use) (number faults faults_after : ℕ) (failing failing_after : List ℕ) (r s t : Store) (result : Result T DiskAnswer) → failing_after ≡ failing → s ≡ r
    → (Contains failing number → ⊥) → Counts faults faults_after result → Did change s t result
    → Told (Some (limits_with failing r)) (Some (limits_with failing_after t)) (KeepsLimits change number faults faults_after (Some (held r)) (Some (held t)) result)
keeps change number faults faults_after failing failing_after r s t result list store free counts did =
    subst₂ (λ (f : List ℕ) (x : Store). Told (Some (limits_with f x)) (Some (limits_with failing_after t)) (KeepsLimits change number faults faults_after (Some (held x)) (Some (held t)) result)) list store
    (told _ _ _ (answered change number faults faults_after failing_after s t result (λ w. free (subst (λ (f : List ℕ). Contains f number) list w)) counts did))

-- a call that is listed
pub keeps_listed : {T : Type 0} (change : Use) (number faults faults_after : ℕ) (failing failing_after : List ℕ) (s t : Store) → failing_after ≡ failing → t ≡ s
    → Contains failing number → faults_after ≡ min (faults + 1) (2 ^ 64 - 1)
    → Told (Some (limits_with failing s)) (Some (limits_with failing_after t)) (KeepsLimits {T = T} change number faults faults_after (Some (held s)) (Some (held t)) (Err Failed))
keeps_listed change number faults faults_after failing failing_after s t list store there counted = told _ _ _ (record {
  same = record { room = ap (λ (x : Store). x.room) store; failing = list; fitted = s.used; fits = t.used };
  units = record {};
  refused = ap units store;
  listed = λ _. refl;
  failed = λ _. inl there;
  counted = λ _. counted;
  uncounted = λ h. absurd (h refl);
  unchanged = λ _. ap (λ (x : Store). Some (held x)) store;
})

-- a host's going down
pub keeps_room : (failing : List ℕ) (s t : Store) → t.room ≡ s.room → Told (Some (limits_with failing s)) (Some (limits_with failing t)) IsSameRoom
keeps_room failing s t room = told _ _ _ (record { room = room; failing = refl; fitted = s.used; fits = t.used })
