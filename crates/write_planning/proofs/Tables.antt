-- The L2 tables that a write makes.
use Rattle.std.proofs.Common.{◌≡◌, ◌⊎◌, inl, inr, ℕ, ◌+◌, ◌-◌, ◌*◌, ◌/◌, ◌%◌, ◌<◌, ◌≤◌, Bool, true, false, eqb, not, Some, None, refl, sym, ap, ◌∙◌, subst, arith}
use Rattle.std.specs.Prelude.{if◌then◌else◌}
use Rattle.std.proofs.lemmas.Bool.{and_from, and_parts, cases_lt, eqb-false, eqb-true, not-true, not_from_false, or_cases, or_parts}
use Rattle.std.proofs.lemmas.Nat.{div-add-mod', mod_below}
use Rattle.std.proofs.Math.Nat.{mul-le-mul_right}
use Rattle.image_model.specs.Room.{Room, is_first_under}
use Rattle.write_planning.specs.Linked.{end_in, sectors_of, start_in, table_with}
use Rattle.write_planning.specs.Plan.{HasTables, Tells, found_at, found_table, lacks_place, lacks_table, span_of, tables_below, tables_of, target_at, wanted_of}
use Rattle.write_planning.specs.Span.{count_of, first_of, width_of}
use Rattle.write_planning.specs.declared.plan.Target.TheVariants.{New}
use Rattle.write_planning.specs.declared.plan.WritePlan.{WritePlan}
use Rattle.write_planning.proofs.Counts.{apart_by_count, counted_at, fewer_below, none_yet, one_between, one_more_at_most}
use Rattle.write_planning.proofs.Meeting.{few_met}
use Rattle.write_planning.proofs.Sectors.{in_sector, same_table, starts_apart, table_goes_on, starts_at, whole_sectors}
use Rattle.write_planning.proofs.Targets.{lacking_new}

first_under : (per f j : ℕ) → is_first_under per f j ≡ true → (j ≡ 0) ⊎ ((f + j) % per ≡ 0)
first_under per f j is = go (or_cases (eqb j 0) (eqb ((f + j) % per) 0) is)
  where
    go : (eqb j 0 ≡ true) ⊎ (eqb ((f + j) % per) 0 ≡ true) → (j ≡ 0) ⊎ ((f + j) % per ≡ 0)
    go (inl e) = inl (eqb-true j 0 e)
    go (inr e) = inr (eqb-true ((f + j) % per) 0 e)

pub table_starts : (p : WritePlan) (j : ℕ) → lacks_table p j ≡ true → (j ≡ 0) ⊎ ((first_of (span_of p) + j) % (width_of (span_of p) / 8) ≡ 0)
table_starts p j is = first_under (width_of (span_of p) / 8) (first_of (span_of p)) j (and_parts (is_first_under (width_of (span_of p) / 8) (first_of (span_of p)) j) (not (found_table (found_at p j))) is).0

-- a second table begins at one place alone, where a table has more clusters than a part
second_table : (per f j : ℕ) → 17 ≤ per → 1 ≤ j → j < 17 → (f + j) % per ≡ 0 → j ≡ per - f % per
second_table per f j wide low high whole = go (cases_lt (f / per) ((f + j) / per)) (cases_lt ((f + j) / per) (f / per + 2))
  where
    one : f / per * per + f % per ≡ f
    one = div-add-mod' f per

    two : (f + j) / per * per + (f + j) % per ≡ f + j
    two = div-add-mod' (f + j) per

    rest : f % per < per
    rest = mod_below f per (omega (arith, wide))

    go : (f / per < (f + j) / per) ⊎ ((f + j) / per ≤ f / per) → ((f + j) / per < f / per + 2) ⊎ (f / per + 2 ≤ (f + j) / per) → j ≡ per - f % per
    go (inr le) _ = let rows : (f + j) / per * per ≤ f / per * per = mul-le-mul_right per le in absurd (omega (arith, rows, one, two, whole, low))
    go (inl lt) (inr le) = let rows : (f / per + 2) * per ≤ (f + j) / per * per = mul-le-mul_right per le in absurd (omega (arith, rows, one, two, whole, rest, high, wide))
    go (inl lt) (inl less) =
        let next : (f + j) / per ≡ f / per + 1 = omega (arith, lt, less) in
        let times : (f + j) / per * per ≡ (f / per + 1) * per = ap (λ n. n * per) next in
        omega (arith, times, one, two, whole)

pub tables_few : (p : WritePlan) → tables_of p ≤ 2
tables_few p =
    let zero_below = none_yet (lacks_table p) in
    let first = one_more_at_most (lacks_table p) 0 in
    let rest = one_between (lacks_table p) 1 (count_of (span_of p)) (width_of (span_of p) / 8 - first_of (span_of p) % (width_of (span_of p) / 8)) (omega arith) (λ j low high is. only j low high (table_starts p j is)) in
    omega (arith, zero_below, first, rest)
  where
    only : (j : ℕ) → 1 ≤ j → j < count_of (span_of p) → (j ≡ 0) ⊎ ((first_of (span_of p) + j) % (width_of (span_of p) / 8) ≡ 0) → j ≡ width_of (span_of p) / 8 - first_of (span_of p) % (width_of (span_of p) / 8)
    only j low high (inl none) = absurd (omega (arith, none, low))
    only j low high (inr whole) =
        second_table (width_of (span_of p) / 8) (first_of (span_of p)) j (omega (arith, p.span.part.low)) low
        (let few = few_met p.span.at p.span.length p.span.width p.span.part in omega (arith, few, high)) whole

some_table : (b : Bool) (n m : ℕ) → (if b then Some n else None) ≡ Some m → (b ≡ true) × (n ≡ m)
some_table true n m is = (refl, cc)
some_table false n m is = (cc, cc)

pub table_lacks : (p : WritePlan) (sector m : ℕ) → table_with p sector ≡ Some m → (lacks_table p (start_in (span_of p) sector) ≡ true) × (tables_below p (start_in (span_of p) sector) ≡ m)
table_lacks p sector m is = some_table (lacks_table p (start_in (span_of p) sector)) (tables_below p (start_in (span_of p) sector)) m is

start_within : (f n sector : ℕ) → 1 ≤ n → sector < (f + n - 1) / 64 - f / 64 + 1 → 64 * (f / 64 + sector) - f < n
start_within f n sector some lt = omega (arith, some, lt)

pub table_counted : (p : WritePlan) (sector m : ℕ) → sector < sectors_of (span_of p) → table_with p sector ≡ Some m → m < tables_of p
table_counted p sector m lt is =
    let at = table_lacks p sector m is in
    let within = start_within (first_of (span_of p)) (count_of (span_of p)) sector (omega arith) lt in
    let fewer = fewer_below (lacks_table p) (start_in (span_of p) sector) (count_of (span_of p)) at.0 within in
    omega (arith, fewer, at.1)

pub tables_apart : (p : WritePlan) (s t m : ℕ) → table_with p s ≡ Some m → table_with p t ≡ Some m → s ≡ t
tables_apart p s t m one two =
    let first = table_lacks p s m one in
    let second = table_lacks p t m two in
    starts_apart (first_of (span_of p)) s t (apart_by_count (lacks_table p) (start_in (span_of p) s) (start_in (span_of p) t) m first.0 second.0 first.1 second.1)

table_at : (p : WritePlan) (sector j m : ℕ) → start_in (span_of p) sector ≡ j → lacks_table p j ≡ true → tables_below p j ≡ m → table_with p sector ≡ Some m
table_at p sector j m at is count =
    ap (λ n. if lacks_table p n then Some (tables_below p n) else None) at ∙ ap (λ (b : Bool). if b then Some (tables_below p j) else None) is ∙ ap (λ n. Some n) count

pub table_sector : (p : WritePlan) (j m : ℕ) → j < count_of (span_of p) → lacks_table p j ≡ true → tables_below p j ≡ m → (sector : ℕ) × (sector < sectors_of (span_of p)) × (table_with p sector ≡ Some m)
table_sector p j m lt is count = go (table_starts p j is)
  where
    found : (j ≡ 0) ⊎ ((first_of (span_of p) + j) % 64 ≡ 0) → (sector : ℕ) × (sector < sectors_of (span_of p)) × (table_with p sector ≡ Some m)
    found at = let s = starts_at (first_of (span_of p)) (count_of (span_of p)) j lt at in (s.0, s.1, table_at p s.0 j m s.2 is count)

    go : (j ≡ 0) ⊎ ((first_of (span_of p) + j) % (width_of (span_of p) / 8) ≡ 0) → (sector : ℕ) × (sector < sectors_of (span_of p)) × (table_with p sector ≡ Some m)
    go (inl none) = found (inl none)
    go (inr whole) = found (inr (whole_sectors (first_of (span_of p) + j) (width_of (span_of p)) p.span.part.whole whole))

pub each_given : (p : WritePlan) (m : ℕ) → m < wanted_of p → ((sector : ℕ) × (sector < sectors_of (span_of p)) × (table_with p sector ≡ Some m)) ⊎ ((j : ℕ) × (j < count_of (span_of p)) × (target_at p j ≡ New m))
each_given p m lt = go (cases_lt m (tables_of p))
  where
    go : (m < tables_of p) ⊎ (tables_of p ≤ m) → ((sector : ℕ) × (sector < sectors_of (span_of p)) × (table_with p sector ≡ Some m)) ⊎ ((j : ℕ) × (j < count_of (span_of p)) × (target_at p j ≡ New m))
    go (inl less) = let at = counted_at (lacks_table p) (count_of (span_of p)) m less in inl (table_sector p at.0 m at.1 at.2 at.3)
    go (inr le) =
        let at = counted_at (lacks_place p) (count_of (span_of p)) (m - tables_of p) (omega (arith, le, lt)) in
        inr (at.0, at.1, lacking_new p at.0 m at.2 (omega (arith, at.3, le)))

one_index : (n m : ℕ) → Some n ≡ Some m → n ≡ m
one_index n m is = cc

-- each sector makes one table at the most
pub tables_on_sectors : (p : WritePlan) → tables_of p ≤ sectors_of (span_of p)
tables_on_sectors p = go (cases_lt 1 (tables_of p)) (cases_lt 1 (sectors_of (span_of p)))
  where
    sector_with : (m : ℕ) → m < tables_of p → (sector : ℕ) × (sector < sectors_of (span_of p)) × (table_with p sector ≡ Some m)
    sector_with m lt = let at = counted_at (lacks_table p) (count_of (span_of p)) m lt in table_sector p at.0 m at.1 at.2 at.3

    go : (1 < tables_of p) ⊎ (tables_of p ≤ 1) → (1 < sectors_of (span_of p)) ⊎ (sectors_of (span_of p) ≤ 1) → tables_of p ≤ sectors_of (span_of p)
    go (inr le) _ = omega (arith, le)
    go (inl lt) (inl more) = let few = tables_few p in omega (arith, few, more)
    go (inl lt) (inr one) =
        let first = sector_with 0 (omega (arith, lt)) in
        let second = sector_with 1 lt in
        let same : first.0 ≡ second.0 = omega (arith, first.1, second.1, one) in
        let both = one_index 0 1 (sym first.2 ∙ ap (table_with p) same ∙ second.2) in
        absurd (omega (arith, both))

-- ---- tables are made in time

-- the cluster has its table where the first of its sector has
sector_alike : (p : WritePlan) (r : Room) (sector j : ℕ) → Tells p r → HasTables r → start_in (span_of p) sector ≤ j → j < end_in (span_of p) sector
    → found_table (found_at p j) ≡ found_table (found_at p (start_in (span_of p) sector))
sector_alike p r sector j tells has low high =
    tells.tables j (omega (arith, high))
    ∙ has (first_of (span_of p) + j) (first_of (span_of p) + start_in (span_of p) sector)
    (subst (λ w. (first_of (span_of p) + j) / (w / 8) ≡ (first_of (span_of p) + start_in (span_of p) sector) / (w / 8)) (sym tells.width)
    (same_table (first_of (span_of p) + j) (first_of (span_of p) + start_in (span_of p) sector) (width_of (span_of p)) p.span.part.low p.span.part.whole
    (in_sector (span_of p) sector j low high ∙ sym (in_sector (span_of p) sector (start_in (span_of p) sector) (omega arith) (omega (arith, low, high))))))
    ∙ sym (tells.tables (start_in (span_of p) sector) (omega (arith, low, high)))

pub table_wanting : (p : WritePlan) (r : Room) (sector j m : ℕ) → Tells p r → HasTables r → start_in (span_of p) sector ≤ j → j < end_in (span_of p) sector → table_with p sector ≡ Some m
    → found_table (found_at p j) ≡ false
table_wanting p r sector j m tells has low high is =
    sector_alike p r sector j tells has low high
    ∙ not-true (found_table (found_at p (start_in (span_of p) sector)))
    (and_parts (is_first_under (width_of (span_of p) / 8) (first_of (span_of p)) (start_in (span_of p) sector)) (not (found_table (found_at p (start_in (span_of p) sector)))) (table_lacks p sector m is).0).1

-- the table of a cluster, by the index of one that has it too
abbrev Made : WritePlan → ℕ → ℕ → Type 0
Made p sector j = (m : ℕ) × (from : ℕ) × (from ≤ sector) × (table_with p from ≡ Some m)
    × ((first_of (span_of p) + start_in (span_of p) from) / (width_of (span_of p) / 8) ≡ (first_of (span_of p) + j) / (width_of (span_of p) / 8))

pub table_made : (p : WritePlan) (r : Room) (sector j : ℕ) → Tells p r → HasTables r → sector < sectors_of (span_of p) → start_in (span_of p) sector ≤ j → j < end_in (span_of p) sector
    → found_table (found_at p j) ≡ false → Made p sector j
table_made p r sector j tells has lt low high none = go (is_first_under (width_of (span_of p) / 8) (first_of (span_of p)) (start_in (span_of p) sector)) refl
  where
    start : ℕ
    start = start_in (span_of p) sector

    absent : found_table (found_at p (start_in (span_of p) sector)) ≡ false
    absent = sym (sector_alike p r sector j tells has low high) ∙ none

    under : (first_of (span_of p) + start_in (span_of p) sector) / (width_of (span_of p) / 8) ≡ (first_of (span_of p) + j) / (width_of (span_of p) / 8)
    under = same_table (first_of (span_of p) + start_in (span_of p) sector) (first_of (span_of p) + j) (width_of (span_of p)) p.span.part.low p.span.part.whole
        (in_sector (span_of p) sector (start_in (span_of p) sector) (omega arith) (omega (arith, low, high)) ∙ sym (in_sector (span_of p) sector j low high))

    few : count_of (span_of p) ≤ 17
    few = few_met p.span.at p.span.length p.span.width p.span.part

    earlier : (start_in (span_of p) sector ≡ 0 → ⊥) → ((first_of (span_of p) + start_in (span_of p) sector) % (width_of (span_of p) / 8) ≡ 0 → ⊥) → Made p sector j
    earlier later inside =
        let one : first_of (span_of p) + start_in (span_of p) sector ≡ 64 * (first_of (span_of p) / 64 + 1) = omega (arith, later, lt, few) in
        let goes = table_goes_on (first_of (span_of p)) (first_of (span_of p) + start_in (span_of p) sector) (width_of (span_of p)) p.span.part.low p.span.part.whole one inside in
        let lacks : lacks_table p 0 ≡ true = not_from_false (found_table (found_at p 0)) (first_absent goes) in
        (tables_below p 0, 0, omega arith, table_at p 0 0 (tables_below p 0) (omega arith) lacks refl, ap (λ n. (first_of (span_of p) + n) / (width_of (span_of p) / 8)) nothing ∙ ap (λ n. n / (width_of (span_of p) / 8)) plain ∙ goes ∙ under)
      where
        nothing : start_in (span_of p) 0 ≡ 0
        nothing = omega arith

        plain : first_of (span_of p) + 0 ≡ first_of (span_of p)
        plain = omega arith

        first_absent : first_of (span_of p) / (width_of (span_of p) / 8) ≡ (first_of (span_of p) + start_in (span_of p) sector) / (width_of (span_of p) / 8) → found_table (found_at p 0) ≡ false
        first_absent goes =
            tells.tables 0 (omega arith)
            ∙ has (first_of (span_of p) + 0) (first_of (span_of p) + start_in (span_of p) sector)
            (subst (λ w. (first_of (span_of p) + 0) / (w / 8) ≡ (first_of (span_of p) + start_in (span_of p) sector) / (w / 8)) (sym tells.width) (ap (λ n. n / (width_of (span_of p) / 8)) plain ∙ goes))
            ∙ sym (tells.tables (start_in (span_of p) sector) (omega (arith, low, high))) ∙ absent

    go : (b : Bool) → is_first_under (width_of (span_of p) / 8) (first_of (span_of p)) (start_in (span_of p) sector) ≡ b → Made p sector j
    go true is = (
      tables_below p start,
      sector,
      omega arith,
      table_at p sector start (tables_below p start) refl (and_from (is_first_under (width_of (span_of p) / 8) (first_of (span_of p)) start) (not (found_table (found_at p start))) is (not_from_false (found_table (found_at p start)) absent)) refl,
      under,
    )
    go false is =
        let parts = or_parts (eqb (start_in (span_of p) sector) 0) (eqb ((first_of (span_of p) + start_in (span_of p) sector) % (width_of (span_of p) / 8)) 0) is in
        earlier (eqb-false (start_in (span_of p) sector) 0 parts.0) (eqb-false ((first_of (span_of p) + start_in (span_of p) sector) % (width_of (span_of p) / 8)) 0 parts.1)
