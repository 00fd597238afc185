-- What is found in the sectors of one step.
use Rattle.std.proofs.Common.{◌≡◌, ℕ, suc, ◌+◌, ◌<◌, ◌≤◌, nat_lt, if◌then◌else◌, Bool, true, false, List, Option, Some, None, IfSome, unwrap_or, refl, sym, ap, ◌∙◌, subst, arith}
use Rattle.std.specs.Option.{option_or}
use Rattle.std.specs.Prelude.{option_map}
use Rattle.std.proofs.lemmas.Option.{none-some}
use Rattle.std.proofs.lemmas.Bool.{false≢true}
use Rattle.std.proofs.lemmas.Bool.Decides.{nat_tests}
use Rattle.shared_disk.specs.Content.{sector_of}
use Rattle.lease_area.specs.Sector.{sector_in}
use Rattle.lease_area.specs.declared.sector.Kind.{Kind}
use Rattle.lease_area.specs.declared.sector.Kind.TheVariants.{Free, Guest, Task}
use Rattle.lease_area.specs.declared.sector.LeaseRecord.{LeaseRecord}
use Rattle.lease_area.specs.declared.sector.Sector.{Sector}
use Rattle.lease_area.specs.declared.sector.Sector.TheVariants.{Empty, Lease}
use Rattle.lease_area.specs.Move.{is_task}
use Rattle.lease_area.specs.Noted.{or_else}
use Rattle.lease_area.specs.Record.{IsImageSlot}
use Rattle.lease_area.proofs.First.{first_least}
use Rattle.sector_freeing.specs.Finding.{IsTaskSlot, least_task, task_at, task_lease, task_of}

-- ---- one sector

task_kind : (kind : Kind) → is_task kind ≡ true → kind ≡ Task
task_kind Task is = refl
task_kind Free is = absurd (false≢true is)
task_kind Guest is = absurd (false≢true is)

task_case : (r a : LeaseRecord) (t : Bool) → is_task r.kind ≡ t → (if t then Some r else None) ≡ Some a → (a ≡ r) × (r.kind ≡ Task)
task_case r a true is found = (sym (ap (λ (o : Option LeaseRecord). unwrap_or o a) found), task_kind r.kind is)
task_case r a false is found = absurd (none-some a found)

task_sound : (slot : ℕ) (s : Option Sector) (a : ℕ × LeaseRecord) → option_map (λ (r : LeaseRecord). (slot, r)) (task_lease s) ≡ Some a → (a.0 ≡ slot) × (s ≡ Some (Lease a.1)) × (a.1.kind ≡ Task)
task_sound slot None a is = absurd (none-some a is)
task_sound slot (Some Empty) a is = absurd (none-some a is)
task_sound slot (Some (Lease r)) a is = go (if is_task r.kind then Some r else None) refl is
  where
    go : (o : Option LeaseRecord) → (if is_task r.kind then Some r else None) ≡ o → option_map (λ (q : LeaseRecord). (slot, q)) o ≡ Some a → (a.0 ≡ slot) × (◌≡◌ {A = Option Sector} (Some (Lease r)) (Some (Lease a.1))) × (a.1.kind ≡ Task)
    go None none found = absurd (none-some a found)
    go (Some q) some found =
        let same = task_case r q (is_task r.kind) refl some in
        let pair : a ≡ (slot, q) = sym (ap (λ (x : Option (ℕ × LeaseRecord)). unwrap_or x a) found) in
        let lease : a.1 ≡ r = ap (λ (x : ℕ × LeaseRecord). x.1) pair ∙ same.0 in
        (ap (λ (x : ℕ × LeaseRecord). x.0) pair, ap (λ (x : LeaseRecord). Some (Lease x)) (sym lease), ap (λ (x : LeaseRecord). x.kind) lease ∙ same.1)

-- what is told of a sector
pub record IsFoundAt (from slot : ℕ) (s : Option Sector) (a : ℕ × LeaseRecord) : Type 0 where
  pub low : from ≤ slot
  pub number : a.0 ≡ slot
  pub lease : s ≡ Some (Lease a.1)
  pub held : a.1.kind ≡ Task

not_lower : (slot from : ℕ) → nat_lt slot from ≡ false → from ≤ slot
not_lower slot from t = grind (arith, nat_tests, t)

lower : (slot from : ℕ) → nat_lt slot from ≡ true → slot < from
lower slot from t = grind (arith, nat_tests, t)

pub found_at : (from slot : ℕ) (s : Option Sector) (a : ℕ × LeaseRecord) → task_at from slot s ≡ Some a → IsFoundAt from slot s a
found_at from slot s a is = go (nat_lt slot from) refl is
  where
    go : (t : Bool) → nat_lt slot from ≡ t → (if t then None else option_map (λ (r : LeaseRecord). (slot, r)) (task_lease s)) ≡ Some a → IsFoundAt from slot s a
    go true below found = absurd (none-some a found)
    go false above found = let sound = task_sound slot s a found in record { low = not_lower slot from above; number = sound.0; lease = sound.1; held = sound.2 }

-- a sector that is held for a task isn't passed over
pub none_at : (from slot : ℕ) (s : Option Sector) (r : LeaseRecord) → task_at from slot s ≡ None → s ≡ Some (Lease r) → r.kind ≡ Task → slot < from
none_at from slot s r none is held = go (nat_lt slot from) refl none
  where
    one : option_map {U = ℕ × LeaseRecord} (λ (q : LeaseRecord). (slot, q)) (task_lease s) ≡ Some (slot, r)
    one = ap (λ (x : Option Sector). option_map {U = ℕ × LeaseRecord} (λ (q : LeaseRecord). (slot, q)) (task_lease x)) is ∙ ap (λ (k : Kind). option_map {U = ℕ × LeaseRecord} (λ (q : LeaseRecord). (slot, q)) (if is_task k then Some r else None)) held

    go : (t : Bool) → nat_lt slot from ≡ t → (if t then None else option_map {U = ℕ × LeaseRecord} (λ (q : LeaseRecord). (slot, q)) (task_lease s)) ≡ None → slot < from
    go true below none = lower slot from below
    go false above none = absurd (none-some (slot, r) (sym none ∙ one))

-- ---- the first of some

fits_by : (from base n : ℕ) (room : List ℕ) (a : ℕ × LeaseRecord) → base + 128 ≤ 1024 → n ≤ 128 → least_task from base room n ≡ Some a → IsTaskSlot from a
fits_by from base n room a within few is =
    let least = first_least (task_of from base room) n a is in
    let found = found_at from (base + least.k) (sector_in (sector_of room least.k)) a least.is in
    record {
      low = subst (λ (k : ℕ). from ≤ k) (sym found.number) found.low;
      high = subst (λ (k : ℕ). k < 1024) (sym found.number) (omega (arith, within, few, least.below));
      held = found.held;
    }

pub found_fits : (from base n : ℕ) (room : List ℕ) (o : Option (ℕ × LeaseRecord)) → base + 128 ≤ 1024 → n ≤ 128 → o ≡ least_task from base room n → IfSome o (IsTaskSlot from)
found_fits from base n room None within few is = tt
found_fits from base n room (Some a) within few is = fits_by from base n room a within few (sym is)

suc_is : (k : ℕ) → suc k ≡ k + 1
suc_is k = omega arith

pub one_more : (from base : ℕ) (room : List ℕ) (k : ℕ) → or_else (least_task from base room k) (task_of from base room k) ≡ least_task from base room (k + 1)
one_more from base room k = ap (λ (n : ℕ). least_task from base room n) (suc_is k)

-- the number of what was found is that of an image's sector
pub slot_fits : (from : ℕ) (o : Option (ℕ × LeaseRecord)) (a : ℕ × LeaseRecord) → 0 < from → o ≡ Some a → IfSome o (IsTaskSlot from) → IsImageSlot a.0
slot_fits from o a some is fits = let one : IsTaskSlot from a = subst (λ (x : Option (ℕ × LeaseRecord)). IfSome x (IsTaskSlot from)) is fits in record { low = omega (arith, some, one.low); high = one.high }

pub or_same : (a b : Option (ℕ × LeaseRecord)) → option_or a b ≡ or_else a b
or_same None b = refl
or_same (Some x) b = refl
