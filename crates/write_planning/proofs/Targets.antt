-- Clusters that are taken for data.
use Rattle.std.proofs.Common.{◌≡◌, ℕ, zero, suc, ◌+◌, ◌<◌, ◌≤◌, Bool, true, not, Option, Some, None, refl, sym, ap, ◌∙◌, arith}
use Rattle.std.specs.Prelude.{if◌then◌else◌}
use Rattle.std.proofs.lemmas.Bool.{false≢true, lt-ltb}
use Rattle.qcow_format.specs.declared.entry.Entry.{Entry}
use Rattle.qcow_format.specs.declared.entry.Entry.TheVariants.{Absent, Zero, Data}
use Rattle.image_model.specs.Room.{Placed, Zeros, is_placed, kind_of}
use Rattle.qcow_layer.specs.declared.looking.Looked.{Looked}
use Rattle.write_planning.specs.Plan.{found_at, found_kind, lacks_place, places_below, span_of, tables_of, target_at, target_by, target_found, wanted_of}
use Rattle.write_planning.specs.Span.{count_of}
use Rattle.write_planning.specs.declared.plan.Target.TheVariants.{New}
use Rattle.write_planning.specs.declared.plan.WritePlan.{WritePlan}
use Rattle.write_planning.proofs.Counts.{apart_by_count, fewer_below}

new_by : (x m : ℕ) (e : Entry) → target_by x e ≡ New m → (x ≡ m) × (not (is_placed (kind_of e)) ≡ true)
new_by x m Absent is = (cc, refl)
new_by x m (Zero zero) is = (cc, refl)
new_by x m (Zero (suc place)) is = (cc, cc)
new_by x m (Data place) is = (cc, cc)

new_found : (x m : ℕ) (f : Option Looked) → target_found x f ≡ New m → (x ≡ m) × (not (is_placed (found_kind f)) ≡ true)
new_found x m None is = (cc, refl)
new_found x m (Some looked) is = new_by x m looked.entry is

pub new_lacks : (p : WritePlan) (j m : ℕ) → target_at p j ≡ New m → (tables_of p + places_below p j ≡ m) × (lacks_place p j ≡ true)
new_lacks p j m is = new_found (tables_of p + places_below p j) m (found_at p j) is

pub new_wanted : (p : WritePlan) (j m : ℕ) → target_at p j ≡ New m → j < count_of (span_of p) → (tables_of p ≤ m) × (m < wanted_of p)
new_wanted p j m is lt =
    let at = new_lacks p j m is in
    let fewer = fewer_below (lacks_place p) j (count_of (span_of p)) at.1 lt in
    (omega (arith, at.0), omega (arith, at.0, fewer))

pub new_apart : (p : WritePlan) (i j m : ℕ) → target_at p i ≡ New m → target_at p j ≡ New m → i ≡ j
new_apart p i j m one two =
    let first = new_lacks p i m one in
    let second = new_lacks p j m two in
    let same : places_below p j ≡ places_below p i = omega (arith, first.0, second.0) in
    apart_by_count (lacks_place p) i j (places_below p i) first.1 second.1 refl same

lacking_by : (x : ℕ) (e : Entry) → not (is_placed (kind_of e)) ≡ true → target_by x e ≡ New x
lacking_by x Absent is = refl
lacking_by x (Zero zero) is = refl
lacking_by x (Zero (suc place)) is = absurd (false≢true (sym (ap (λ (b : Bool). not (is_placed (if b then Placed else Zeros))) (lt-ltb 0 (suc place) (omega arith))) ∙ is))
lacking_by x (Data place) is = absurd (false≢true is)

lacking_found : (x : ℕ) (f : Option Looked) → not (is_placed (found_kind f)) ≡ true → target_found x f ≡ New x
lacking_found x None is = refl
lacking_found x (Some looked) is = lacking_by x looked.entry is

pub lacking_new : (p : WritePlan) (j m : ℕ) → lacks_place p j ≡ true → tables_of p + places_below p j ≡ m → target_at p j ≡ New m
lacking_new p j m is at = lacking_found (tables_of p + places_below p j) (found_at p j) is ∙ ap New at
