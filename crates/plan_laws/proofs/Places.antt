-- The places that a plan gives may be named by the entries of its clusters.
use Rattle.std.proofs.Common.{◌≡◌, ◌≢◌, ◌⊎◌, inl, inr, ℕ, zero, suc, ◌+◌, ◌-◌, ◌*◌, ◌/◌, ◌^◌, ◌<◌, ◌≤◌, min, List, Option, Some, Ok, refl, sym, ap, ◌∙◌, subst, arith}
use Rattle.std.specs.Prelude.{slice_index}
use Rattle.std.proofs.lemmas.Bool.{cases_lt, cases_order}
use Rattle.std.proofs.Math.Nat.{div-mul-le_self, mul-le-mul_right}
use Rattle.qcow_format.specs.declared.entry.Entry.{Entry}
use Rattle.qcow_format.specs.declared.entry.Entry.TheVariants.{Absent, Zero, Data}
use Rattle.qcow_format.specs.declared.header.Header.{Header}
use Rattle.image_model.specs.File.{File}
use Rattle.image_model.specs.Layer.{cluster_size, entries}
use Rattle.image_model.specs.Soundness.{IsSound, layer_header, names}
use Rattle.layer_laws.specs.Laws.{IsNamedOnlyAt, entry_position, layer}
use Rattle.layer_laws.proofs.Positions.{entry_once}
use Rattle.layer_laws.proofs.Sound.{clean_of, shape_of, zero_at}
use Rattle.link_laws.specs.Links.{AreLinks, IsCounted, IsNewTable}
use Rattle.layer_writing.specs.Holding.{IsSpare}
use Rattle.layer_linking.specs.Links.{to_of}
use Rattle.layer_linking.specs.declared.links.Links.{Links}
use Rattle.layer_linking.proofs.Given.{spare_given, zero_given}
use Rattle.qcow_layer.specs.declared.looking.Looked.{Looked}
use Rattle.write_planning.specs.Linked as plan
use Rattle.write_planning.specs.Linked.{end_in, group_in, links_to, place_at, place_in, sectors_of, start_in}
use Rattle.write_planning.specs.Plan.{found_at, places_below, span_of, tables_of, target_at, target_by, target_found}
use Rattle.write_planning.specs.Span.{at_of, count_of, first_of, length_of, width_of}
use Rattle.write_planning.specs.declared.plan.Target.{Target}
use Rattle.write_planning.specs.declared.plan.Target.TheVariants.{InPlace, Kept, New}
use Rattle.write_planning.specs.declared.plan.WritePlan.{WritePlan}
use Rattle.write_planning.proofs.Meeting.{inside_met}
use Rattle.write_planning.proofs.Sectors.{in_sector}
use Rattle.write_planning.proofs.Tables.{table_counted}
use Rattle.write_planning.proofs.Targets.{new_apart, new_wanted}
use Rattle.plan_laws.specs.Given.{MayGetPlaces}

-- ---- which clusters get a place

pub record IsGiven (p : WritePlan) (placed : List ℕ) (start end k place : ℕ) : Type 0 where
  pub index : ℕ
  pub low : start ≤ index
  pub high : index < end
  pub is : k ≡ first_of (span_of p) + index
  pub at : place_at p placed index ≡ Some place

pub given : (p : WritePlan) (placed : List ℕ) (group start end : ℕ) (links : Links) (k place : ℕ) → plan.AreLinks p placed group start end (Some links) → to_of links k ≡ Some place → IsGiven p placed start end k place
given p placed group start end links k place are to = go (cases_lt k (first_of (span_of p) + start)) (cases_lt k (first_of (span_of p) + end))
  where
    outside : ((j : ℕ) → start ≤ j → j < end → k ≢ first_of (span_of p) + j) → IsGiven p placed start end k place
    outside out = let none = are.others k out in absurd cc

    go : (k < first_of (span_of p) + start) ⊎ (first_of (span_of p) + start ≤ k) → (k < first_of (span_of p) + end) ⊎ (first_of (span_of p) + end ≤ k) → IsGiven p placed start end k place
    go (inl lt) _ = outside (λ j low high e. omega (arith, e, lt, low))
    go (inr le) (inr past) = outside (λ j low high e. omega (arith, e, past, high))
    go (inr le) (inl lt) =
        let back : first_of (span_of p) + (k - first_of (span_of p)) ≡ k = omega (arith, le) in
        record {
          index = k - first_of (span_of p);
          low = omega (arith, le);
          high = omega (arith, le, lt);
          is = sym back;
          at = sym (are.here (k - first_of (span_of p)) (omega (arith, le)) (omega (arith, le, lt))) ∙ ap (λ n. to_of links n) back ∙ to;
        }

-- ---- the place of a cluster

-- it is that of a cluster that is taken, or one that zeros keep
pub data Placing (width : ℕ) (placed : List ℕ) (target : Target) (place : ℕ) : Type 0 where
  taken : (m : ℕ) → target ≡ New m → place ≡ min (slice_index placed m * width) (2 ^ 64 - 1) → Placing width placed target place
  kept : target ≡ Kept place → Placing width placed target place

pub placing : (width : ℕ) (placed : List ℕ) (target : Target) (place : ℕ) → place_in width placed target ≡ Some place → Placing width placed target place
placing width placed (InPlace at) place is = absurd cc
placing width placed (Kept at) place is = let same : at ≡ place = cc in kept (ap Kept same)
placing width placed (New m) place is = taken m refl cc

kept_by : (n place : ℕ) (e : Entry) → target_by n e ≡ Kept place → (e ≡ Zero place) × (place ≢ 0)
kept_by n place Absent is = absurd cc
kept_by n place (Zero zero) is = absurd cc
kept_by n place (Zero (suc at)) is = let same : suc at ≡ place = cc in (ap Zero same, λ none. omega (arith, same, none))
kept_by n place (Data at) is = absurd cc

kept_found : (n place : ℕ) (o : Option Looked) (looked : Looked) → o ≡ Some looked → target_found n o ≡ Kept place → (looked.entry ≡ Zero place) × (place ≢ 0)
kept_found n place o looked some is = kept_by n place looked.entry (sym (ap (target_found n) some) ∙ is)

-- ---- in a sound layer

module _ (p : WritePlan) (placed : List ℕ) (file : File) (capacity : ℕ) (h : Header) (start end : ℕ) (header : layer_header file capacity ≡ Ok h) (sound : IsSound file capacity)
    (may : MayGetPlaces p placed (layer h file) capacity start end) where
  -- what is known of a place that a cluster gets
  pub record Known (j place : ℕ) : Type 0 where
    pub counted : IsCounted (layer h file) place
    pub free : IsNamedOnlyAt (layer h file) capacity (entry_position (layer h file) (first_of (span_of p) + j)) place
    pub by : ((m : ℕ) × (target_at p j ≡ New m) × (place ≡ slice_index placed m * width_of (span_of p)) × IsSpare (layer h file) capacity place)
        ⊎ (names (layer h file) capacity (entry_position (layer h file) (first_of (span_of p) + j)) ≡ Some place)

  pub known : (j place : ℕ) → start ≤ j → j < end → Placing (width_of (span_of p)) placed (target_at p j) place → Known j place
  known j place low high (taken m new at) =
      let spare = may.spare j m low high new in
      let is : slice_index placed m * width_of (span_of p) ≡ place = sym (at ∙ omega (arith, spare.1)) in
      let here = subst (λ n. IsSpare (layer h file) capacity n) is spare.0 in
      let both = spare_given (layer h file) capacity (entry_position (layer h file) (first_of (span_of p) + j)) place here (subst (λ n. n < 2 ^ 56) is spare.1) in
      record { counted = both.0; free = both.1; by = inl (m, new, sym is, here) }
  known j place low high (kept is) =
      let found = may.found j low high in
      let keeps = kept_found (tables_of p + places_below p j) place (found_at p j) found.0 found.1 is in
      let zeros = sym found.2 ∙ keeps.0 in
      let both = zero_given file capacity (first_of (span_of p) + j) place h header sound zeros keeps.1 in
      let at = zero_at h file capacity (shape_of file capacity h header) (clean_of file capacity h header sound) (first_of (span_of p) + j) place keeps.1 zeros in
      record { counted = both.0; free = both.1; by = inr at.name }

  -- no place is given twice
  pub same_index : (i j place : ℕ) → i < count_of (span_of p) → j < count_of (span_of p) → Known i place → Known j place → first_of (span_of p) + i ≡ first_of (span_of p) + j
  same_index i j place inside within one two = go one.by two.by
    where
      some : 0 < entries (layer h file)
      some = let width = may.width in omega (arith, width, p.span.part.low)

      at_entry : names (layer h file) capacity (entry_position (layer h file) (first_of (span_of p) + j)) ≡ Some place → first_of (span_of p) + i ≡ first_of (span_of p) + j
      at_entry named = sym (entry_once (layer h file) (first_of (span_of p) + j) (first_of (span_of p) + i) some (one.free (entry_position (layer h file) (first_of (span_of p) + j)) named))

      of_taken : (m n : ℕ) → target_at p i ≡ New m → target_at p j ≡ New n → place ≡ slice_index placed m * width_of (span_of p) → place ≡ slice_index placed n * width_of (span_of p)
          → (m ≡ n) ⊎ ((m < n) ⊎ (n < m)) → first_of (span_of p) + i ≡ first_of (span_of p) + j
      of_taken m n first second a b (inl same) = ap (λ k. first_of (span_of p) + k) (new_apart p i j n (first ∙ ap New same) second)
      of_taken m n first second a b (inr (inl lt)) =
          let more = may.rising m n lt (let many = may.many in let wanted = new_wanted p j n second within in omega (arith, many, wanted.1)) in
          let rows : (slice_index placed m + 1) * width_of (span_of p) ≤ slice_index placed n * width_of (span_of p) = mul-le-mul_right (width_of (span_of p)) (omega (arith, more)) in
          absurd (omega (arith, rows, a, b, p.span.part.low))
      of_taken m n first second a b (inr (inr lt)) =
          let more = may.rising n m lt (let many = may.many in let wanted = new_wanted p i m first inside in omega (arith, many, wanted.1)) in
          let rows : (slice_index placed n + 1) * width_of (span_of p) ≤ slice_index placed m * width_of (span_of p) = mul-le-mul_right (width_of (span_of p)) (omega (arith, more)) in
          absurd (omega (arith, rows, a, b, p.span.part.low))

      go : ((m : ℕ) × (target_at p i ≡ New m) × (place ≡ slice_index placed m * width_of (span_of p)) × IsSpare (layer h file) capacity place)
          ⊎ (names (layer h file) capacity (entry_position (layer h file) (first_of (span_of p) + i)) ≡ Some place)
          → ((m : ℕ) × (target_at p j ≡ New m) × (place ≡ slice_index placed m * width_of (span_of p)) × IsSpare (layer h file) capacity place)
          ⊎ (names (layer h file) capacity (entry_position (layer h file) (first_of (span_of p) + j)) ≡ Some place)
          → first_of (span_of p) + i ≡ first_of (span_of p) + j
      go (inl a) (inl b) = of_taken a.0 b.0 a.1 b.1 a.2 b.2 (cases_order a.0 b.0)
      go (inl a) (inr named) = absurd (a.3.unnamed (entry_position (layer h file) (first_of (span_of p) + j)) named)
      go (inr named) (inl b) = absurd (b.3.unnamed (entry_position (layer h file) (first_of (span_of p) + i)) named)
      go (inr named) (inr also) = at_entry also

-- a cluster that the part meets begins below its end
pub begins_below : (p : WritePlan) (capacity j : ℕ) → at_of (span_of p) + length_of (span_of p) ≤ capacity → j < count_of (span_of p) → (first_of (span_of p) + j) * width_of (span_of p) < capacity
begins_below p capacity j fits lt =
    let met = inside_met p.span.at p.span.length p.span.width (first_of (span_of p) + j) p.span.part (omega arith, omega (arith, lt)) in
    let low = quotient_low (p.span.at + met.0) p.span.width (first_of (span_of p) + j) met.2 in
    omega (arith, low, met.1, fits)
  where
    quotient_low : (n w q : ℕ) → n / w ≡ q → q * w ≤ n
    quotient_low n w q is = subst (λ m. m * w ≤ n) is (div-mul-le_self n w)

pub plan_links : (p : WritePlan) (placed : List ℕ) (file : File) (capacity : ℕ) (h : Header) (sector : ℕ) (links : Links) → layer_header file capacity ≡ Ok h → IsSound file capacity
    → at_of (span_of p) + length_of (span_of p) ≤ capacity → MayGetPlaces p placed (layer h file) capacity (start_in (span_of p) sector) (end_in (span_of p) sector)
    → plan.AreLinks p placed (group_in (span_of p) sector) (start_in (span_of p) sector) (end_in (span_of p) sector) (Some links)
    → AreLinks (layer h file) capacity (group_in (span_of p) sector) (to_of links)
plan_links p placed file capacity h sector links header sound fits may are = record {
  sector = λ k place to. let at = of k place to in ap (λ n. n / 64) at.is ∙ in_sector (span_of p) sector at.index at.low at.high;
  inside = λ k place to.
      let at = of k place to in
      let below = begins_below p capacity at.index fits (omega (arith, at.high)) in
      subst (λ n. n < capacity) (ap (λ w. (first_of (span_of p) + at.index) * w) may.width ∙ ap (λ n. n * cluster_size (layer h file)) (sym at.is)) below;
  counted = λ k place to. (knows k place (of k place to)).counted;
  free = λ k place to.
      let at = of k place to in
      subst (λ n. IsNamedOnlyAt (layer h file) capacity (entry_position (layer h file) n) place) (sym at.is) (knows k place at).free;
  once = λ i k place to also.
      let a = of i place to in
      let b = of k place also in
      a.is ∙ same_index p placed file capacity h start end header sound may a.index b.index place (omega (arith, a.high)) (omega (arith, b.high)) (knows i place a) (knows k place b) ∙ sym b.is;
}
  where
    start : ℕ
    start = start_in (span_of p) sector

    end : ℕ
    end = end_in (span_of p) sector

    of : (k place : ℕ) → to_of links k ≡ Some place → IsGiven p placed (start_in (span_of p) sector) (end_in (span_of p) sector) k place
    of k place to = given p placed (group_in (span_of p) sector) (start_in (span_of p) sector) (end_in (span_of p) sector) links k place are to

    knows : (k place : ℕ) (at : IsGiven p placed (start_in (span_of p) sector) (end_in (span_of p) sector) k place) → Known p placed file capacity h (start_in (span_of p) sector) (end_in (span_of p) sector) header sound may at.index place
    knows k place at = known p placed file capacity h (start_in (span_of p) sector) (end_in (span_of p) sector) header sound may at.index place at.low at.high
        (placing (width_of (span_of p)) placed (target_at p at.index) place at.at)

pub plan_table : (p : WritePlan) (placed : List ℕ) (file : File) (capacity : ℕ) (h : Header) (sector m : ℕ) (links : Links) → layer_header file capacity ≡ Ok h → IsSound file capacity
    → sector < sectors_of (span_of p) → MayGetPlaces p placed (layer h file) capacity (start_in (span_of p) sector) (end_in (span_of p) sector)
    → plan.AreLinks p placed (group_in (span_of p) sector) (start_in (span_of p) sector) (end_in (span_of p) sector) (Some links)
    → plan.table_with p sector ≡ Some m → IsSpare (layer h file) capacity (slice_index placed m * width_of (span_of p)) → slice_index placed m * width_of (span_of p) < 2 ^ 56
    → IsNewTable (layer h file) capacity (to_of links) (slice_index placed m * width_of (span_of p))
plan_table p placed file capacity h sector m links header sound lt may are with_it spare low = record {
  counted = (spare_given (layer h file) capacity 0 (slice_index placed m * width_of (span_of p)) spare low).0;
  unnamed = spare.unnamed;
  other = λ k to.
      let at = given p placed (group_in (span_of p) sector) (start_in (span_of p) sector) (end_in (span_of p) sector) links k (slice_index placed m * width_of (span_of p)) are to in
      let knows = known p placed file capacity h (start_in (span_of p) sector) (end_in (span_of p) sector) header sound may at.index (slice_index placed m * width_of (span_of p)) at.low at.high
      (placing (width_of (span_of p)) placed (target_at p at.index) (slice_index placed m * width_of (span_of p)) at.at) in
      go at.index (omega (arith, at.high)) knows.by;
}
  where
    go : (j : ℕ) → j < count_of (span_of p)
        → ((n : ℕ) × (target_at p j ≡ New n) × (slice_index placed m * width_of (span_of p) ≡ slice_index placed n * width_of (span_of p)) × IsSpare (layer h file) capacity (slice_index placed m * width_of (span_of p)))
        ⊎ (names (layer h file) capacity (entry_position (layer h file) (first_of (span_of p) + j)) ≡ Some (slice_index placed m * width_of (span_of p))) → ⊥
    go j inside (inr named) = spare.unnamed (entry_position (layer h file) (first_of (span_of p) + j)) named
    go j inside (inl by) =
        let first = table_counted p sector m lt with_it in
        let wanted = new_wanted p j by.0 by.1 inside in
        let many = may.many in
        let more = may.rising m by.0 (omega (arith, first, wanted.0)) (omega (arith, many, wanted.1)) in
        let rows : (slice_index placed m + 1) * width_of (span_of p) ≤ slice_index placed by.0 * width_of (span_of p) = mul-le-mul_right (width_of (span_of p)) (omega (arith, more)) in
        omega (arith, rows, by.2, p.span.part.low)
