-- The ranges that get zeros, in a quiet file: where they lie, and what zeros in them leave.
use Rattle.std.proofs.Common.{◌≡◌, ◌⊎◌, inl, inr, ℕ, ◌+◌, ◌-◌, ◌*◌, ◌/◌, ◌%◌, ◌^◌, ◌<◌, ◌≤◌, Bool, true, false, List, length, slice_index, Option, Some, None, Ok, refl, sym, ap, ◌∙◌, subst, arith, nat_le, nat_lt}
use Rattle.std.specs.Prelude.{if◌then◌else◌}
use Rattle.std.proofs.lemmas.Bool.{cases_lt}
use Rattle.std.proofs.lemmas.Bool.Decides.{nat_tests}
use Rattle.std.proofs.lemmas.Nat.{div-add-mod', pow_pos}
use Rattle.std.proofs.Math.Nat.{mul-le-mul_right}
use Rattle.sd_names.specs.declared.fault.LayerFault.{LayerFault}
use Rattle.sd_names.specs.declared.fault.LayerFault.TheVariants.{OutOfFile}
use Rattle.shared_disk.specs.Content.{File}
use Rattle.shared_disk.proofs.Outcomes.{settled_file}
use Rattle.qcow_format.specs.declared.header.Header.{Header}
use Rattle.qcow_format.specs.declared.entry.Entry.{Entry}
use Rattle.qcow_format.specs.declared.entry.Entry.TheVariants.{Absent, Zero, Data}
use Rattle.image_model.specs.File.{file_of}
use Rattle.image_model.specs.Layer.{Tables, byte_behind, entry_at, l1_clusters, own_byte}
use Rattle.image_model.specs.Soundness.{IsClean, IsSound, Item, item, layer_header, names, outside, own_fault}
use Rattle.layer_laws.specs.Laws.{layer}
use Rattle.layer_laws.proofs.Numbers.{behind, cluster_sectors, whole_place, whole_sector}
use Rattle.layer_laws.proofs.Sound.{PlacedAt, Shape, clean_of, data_at, l1_cluster_name, shape_of}
use Rattle.qcow_layer.specs.Knowing.{KnowsNumbers}
use Rattle.qcow_layer.specs.Opening.{capacity_kept, header_kept}
use Rattle.qcow_layer.specs.declared.layer.Layer.{Layer}
use Rattle.qcow_layer.proofs.Knowing.{settled_alone, settled_seen}
use Rattle.layer_writing.specs.Holding.{on_medium}
use Rattle.layer_heading.specs.Writing.{IsQuiet}
use Rattle.layer_heading.proofs.Quiet as quiet
use Rattle.layer_sizing.specs.Blanks.{IsBlanked, IsBlanking}
use Rattle.layer_sizing.specs.Sized.{IsEmptyPast, IsZeroing, cluster, l1_size_for, span}
use Rattle.layer_sizing.specs.Sizing.{IsRangeOf, KnowsIn, KnowsRange, tables_on, whole}
use Rattle.layer_sizing.specs.Stages.{MayGet, last_cluster, rest_range, table_range, tables_stage}
use Rattle.layer_sizing.specs.declared.raising.Part.{Part}
use Rattle.layer_sizing.specs.declared.raising.Part.TheVariants.{Tables as InTables, Rest as InRest}
use Rattle.layer_sizing.specs.declared.raising.Range.{Range}
use Rattle.layer_sizing.specs.declared.raising.Stage.TheVariants.{Zeroing, Ready}
use Rattle.layer_sizing.proofs.Blanked as blanked
use Rattle.layer_sizing.proofs.Fresh.{fresh}
use Rattle.layer_sizing.proofs.Spans as spans

-- ---- clusters in a file of whole clusters

-- what is named without a fault lies in the file
named_low : (size place : ℕ) (x : Item) → x.name ≡ Some place → own_fault size x ≡ None → place < size
named_low size place x named fine = go x.wrong refl
  where
    low : (b : Bool) → nat_le size place ≡ b → (if b then Some (OutOfFile x.at) else None) ≡ None → place < size
    low true e bad = absurd cc
    low false e ok = grind (arith, nat_tests)

    some_not : (y : LayerFault) → Some y ≡ None → ⊥
    some_not y e = cc

    go : (wrong : Option LayerFault) → x.wrong ≡ wrong → place < size
    go (Some fault) e = absurd (some_not fault (sym (ap (λ o. elim o as (λ _. Option LayerFault) [ None ↦ outside size x.at x.name | Some y ↦ Some y ]) e) ∙ fine))
    go None e = low (nat_le size place) refl (ap (outside size x.at) (sym named) ∙ sym (ap (λ o. elim o as (λ _. Option LayerFault) [ None ↦ outside size x.at x.name | Some y ↦ Some y ]) e) ∙ fine)

-- and the whole cluster that begins there
whole_inside : (place c size : ℕ) → place % c ≡ 0 → size % c ≡ 0 → place < size → place + c ≤ size
whole_inside place c size even even' lt = go (place / c) (size / c) (whole_place place c even) (whole_place size c even') (cases_lt (place / c) (size / c))
  where
    go : (a b : ℕ) → place ≡ a * c → size ≡ b * c → (a < b) ⊎ (b ≤ a) → place + c ≤ size
    go a b e f (inl low) = let n : (a + 1) * c ≤ b * c = mul-le-mul_right c (omega (arith, low)) in let one : (a + 1) * c ≡ a * c + c = omega arith in omega (arith, n, one, e, f)
    go a b e f (inr le) = let n : b * c ≤ a * c = mul-le-mul_right c le in absurd (omega (arith, n, e, f, lt))

-- a byte of a cluster, by its entry
pub own_behind : (t : Tables) (i : ℕ) → own_byte t i ≡ byte_behind t (i % 2 ^ t.header.cluster_bits) (entry_at t (i / 2 ^ t.header.cluster_bits))
unfolding own_byte
own_behind t i = refl

-- zeros in this part of a quiet file leave the layer as it is below its capacity
abbrev pub Law : Layer → ℕ → ℕ → File → Type 0
Law layer_ low high g =
    (s s' : ℕ → List ℕ) → ((k : ℕ) → length (s k) ≡ 512) → ((k : ℕ) → length (s' k) ≡ 512)
    → layer_header (file_of g.size s) (capacity_kept layer_) ≡ Ok (header_kept layer_) → IsSound (file_of g.size s) (capacity_kept layer_)
    → ((k : ℕ) → entry_at (layer (header_kept layer_) (file_of g.size s)) k ≡ entry_at (tables_on layer_ g) k)
    → IsBlanked low high s s' → IsZeroing (header_kept layer_) (capacity_kept layer_) (file_of g.size s) (file_of g.size s')

-- ---- past the capacity

-- where the cluster in which the capacity ends isn't data, the layer is empty past it
module _ (n capacity : ℕ) (s : ℕ → List ℕ) (h : Header) (is : layer_header (file_of n s) capacity ≡ Ok h) (sound : IsSound (file_of n s) capacity) where
  abbrev E : Tables
  E = layer h (file_of n s)

  later : (i : ℕ) → capacity / cluster h < i / cluster h → entry_at E (i / cluster h) ≡ Absent
  later i lt = fresh n capacity s h is sound (i / cluster h) (above capacity (i / cluster h) (cluster h) (pow_pos h.cluster_bits) lt)
    where
      above : (a b c : ℕ) → 0 < c → a / c < b → a ≤ b * c
      above a b c pos lt =
          let d = div-add-mod' a c in
          let m : a % c < c = spans.mod_below a c pos in
          let more : (a / c + 1) * c ≤ b * c = mul-le-mul_right c (omega (arith, lt)) in
          let one : (a / c + 1) * c ≡ a / c * c + c = omega arith in
          omega (arith, d, m, more, one)

  pub past_by : ((i : ℕ) → capacity ≤ i → i / cluster h ≡ capacity / cluster h → (own_byte E i ≡ None) ⊎ (own_byte E i ≡ Some 0)) → IsEmptyPast E capacity
  past_by here i le = go (cases_lt (capacity / cluster h) (i / cluster h))
    where
      go : (capacity / cluster h < i / cluster h) ⊎ (i / cluster h ≤ capacity / cluster h) → (own_byte E i ≡ None) ⊎ (own_byte E i ≡ Some 0)
      go (inl lt) = inl (own_behind E i ∙ ap (byte_behind E (i % cluster h)) (later i lt))
      go (inr ge) = here i le (let low : capacity / cluster h ≤ i / cluster h = spans.div_mono capacity i (cluster h) (pow_pos h.cluster_bits) le in omega (arith, ge, low))

  pub empty_by : ((place : ℕ) → entry_at E (capacity / cluster h) ≡ Data place → ⊥) → IsEmptyPast E capacity
  empty_by not_data = past_by (λ i le same. by i (entry_at E (i / cluster h)) refl (λ place e. not_data place (ap (entry_at E) (sym same) ∙ e)))
    where
      by : (i : ℕ) (entry : Entry) → entry_at E (i / cluster h) ≡ entry → ((place : ℕ) → entry_at E (i / cluster h) ≡ Data place → ⊥) → (own_byte E i ≡ None) ⊎ (own_byte E i ≡ Some 0)
      by i Absent e none = inl (own_behind E i ∙ ap (byte_behind E (i % cluster h)) e)
      by i (Zero place) e none = inr (own_behind E i ∙ ap (byte_behind E (i % cluster h)) e)
      by i (Data place) e none = absurd (none place e)

  pub empty_whole : capacity % cluster h ≡ 0 → IsEmptyPast E capacity
  empty_whole even = empty_by (λ place e. absent_not place (sym (fresh n capacity s h is sound (capacity / cluster h) (omega (arith, div-add-mod' capacity (cluster h), even))) ∙ e))
    where
      absent_not : (place : ℕ) → Absent ≡ Data place → ⊥
      absent_not place e = cc

-- ---- the ranges

module _ (layer_ : Layer) (larger host : ℕ) (g : File) (q : IsQuiet layer_ host g) (may : MayGet layer_ larger) where
  abbrev h : Header
  h = header_kept layer_

  abbrev capacity : ℕ
  capacity = capacity_kept layer_

  abbrev c : ℕ
  c = 2 ^ h.cluster_bits

  abbrev n : ℕ
  n = g.size

  abbrev T : Tables
  T = tables_on layer_ g

  numbers : KnowsNumbers layer_ (on_medium g)
  numbers = quiet.numbers layer_ host g q

  shape : Shape h
  shape = shape_of (on_medium g) capacity h numbers.header

  clean : (m : ℕ) → IsClean T capacity m
  clean = clean_of (on_medium g) capacity h numbers.header numbers.sound

  sectors : c ≡ 512 * 2 ^ (h.cluster_bits - 9)
  sectors = cluster_sectors h.cluster_bits shape.low

  even_c : c % 512 ≡ 0
  even_c = by c (2 ^ (h.cluster_bits - 9)) sectors
    where
      by : (c q : ℕ) → c ≡ 512 * q → c % 512 ≡ 0
      by c q is = omega (arith, is)

  size_is : (on_medium g).size ≡ 512 * n
  unfolding file_of
  size_is = refl

  fits : 512 * n < 2 ^ 64
  fits = q.writer.knows.fits

  inside : (m place : ℕ) → names T capacity m ≡ Some place → place % c ≡ 0 → place + c ≤ 512 * n
  inside m place name begins = whole_inside place c (512 * n) begins q.writer.whole (subst (λ z. place < z) size_is (named_low (on_medium g).size place (item T capacity m) name (clean m).fine))

  -- ---- the table

  rows_some : 0 < l1_clusters T
  rows_some = go (cases_lt 0 (l1_clusters T))
    where
      none : (rows w s : ℕ) → rows ≡ 0 → rows * w * s ≡ 0
      none rows w s e = ap (λ r. r * w * s) e ∙ omega arith

      go : (0 < l1_clusters T) ⊎ (l1_clusters T ≤ 0) → 0 < l1_clusters T
      go (inl lt) = lt
      go (inr le) = let z = none (l1_clusters T) (c / 8) (span h) (omega (arith, le)) in absurd (omega (arith, z, may.0, may.1))

  abbrev top : ℕ
  top = h.l1_table_offset + l1_clusters T * c

  top_inside : top ≤ 512 * n
  top_inside =
      let last : ℕ = l1_clusters T - 1 in
      let named = l1_cluster_name h (on_medium g) capacity shape clean last (omega (arith, rows_some)) in
      let le = inside (1 + last) (h.l1_table_offset + last * c) named (behind h.l1_table_offset last c (pow_pos h.cluster_bits) shape.l1) in
      omega (arith, le, spans.next_row (l1_clusters T) c rows_some)

  top_even : top % 512 ≡ 0
  top_even = whole_sector top c (2 ^ (h.cluster_bits - 9)) sectors (behind h.l1_table_offset (l1_clusters T) c (pow_pos h.cluster_bits) shape.l1)

  table_few : 8 * l1_size_for h larger ≤ l1_clusters T * c
  table_few = spans.few h shape.low larger may.1

  pub table_low : (table_range h larger).at ≡ h.l1_table_offset + 8 * h.l1_size
  table_low = omega (arith, table_few, top_inside, fits)

  pub table_end : (table_range h larger).end ≡ h.l1_table_offset + 8 * l1_size_for h larger
  table_end = omega (arith, table_few, top_inside, fits)

  pub table_even : h.l1_table_offset % 512 ≡ 0
  table_even = whole_sector h.l1_table_offset c (2 ^ (h.cluster_bits - 9)) sectors shape.l1

  table_law : (low end : ℕ) → low ≡ (table_range h larger).at → end ≡ (table_range h larger).end → Law layer_ low (whole end) g × (whole end ≤ 512 * n)
  table_law low end l e =
      let high : whole end ≤ top = omega (arith, e, table_end, table_few, top_even) in (
        λ s s' long long' is sound same zeros. blanked.table_zeroing n capacity low (whole end) s s' h long long' is sound zeros rows_some (omega (arith, l, table_low)) high,
        omega (arith, high, top_inside),
      )

  -- ---- the rest of a cluster of data

  module _ (place : ℕ) (held : entry_at T (last_cluster layer_) ≡ Data place) where
    at : PlacedAt h (on_medium g) capacity shape clean (last_cluster layer_) place (Data place)
    at = data_at h (on_medium g) capacity shape clean (last_cluster layer_) place held

    place_inside : place + c ≤ 512 * n
    place_inside = inside _ place at.name at.whole

    place_even : place % 512 ≡ 0
    place_even = whole_sector place c (2 ^ (h.cluster_bits - 9)) sectors at.whole

    offset_below : capacity % c < c
    offset_below = spans.mod_below capacity c (pow_pos h.cluster_bits)

    pub rest_low : (rest_range h capacity place).at ≡ place + capacity % c
    rest_low = omega (arith, place_inside, offset_below, fits)

    pub rest_end : (rest_range h capacity place).end ≡ place + c
    rest_end = omega (arith, place_inside, fits)

    rest_law : (low end : ℕ) → low ≡ (rest_range h capacity place).at → end ≡ (rest_range h capacity place).end → Law layer_ low (whole end) g × (whole end ≤ 512 * n)
    rest_law low end l e =
        let high : whole end ≡ place + c = omega (arith, e, rest_end, place_even, even_c) in (
          λ s s' long long' is sound same zeros. blanked.data_zeroing n capacity low (whole end) s s' h long long' is sound zeros place (same (last_cluster layer_) ∙ held) (omega (arith, l, rest_low)) (omega (arith, high)),
          omega (arith, high, place_inside),
        )

  pub range_law : (part : Part) (low end : ℕ) → IsRangeOf part low end layer_ larger g → Law layer_ low (whole end) g × (whole end ≤ 512 * n)
  range_law InRest low end (place, held, l, e) = rest_law place held low end l e
  range_law InTables low end (l, e, empty) = table_law low end l e

  -- ---- where a range begins

  quiet_blanking : (low high : ℕ) → IsBlanking layer_ host low high g g
  quiet_blanking low high = record {
    quiet = q;
    size = refl;
    alone = settled_alone host g q.settled;
    made = q.settled.fresh;
    formed = q.formed;
    sees = λ k i lt. inl (ap (λ (s : ℕ → List ℕ). slice_index (s k) i) (settled_seen host g q.settled));
    each = λ o out k i lt. inl (ap (λ (x : File). slice_index (x.stable k) i) (settled_file g o q.settled out));
  }

  begins : (range : Range) → IsRangeOf range.part range.at range.end layer_ larger g → range.at < range.end → KnowsRange range layer_ larger host g
  begins range of some = record {
    quiet = g;
    low = range.at;
    may = may;
    of = of;
    some = some;
    blanking = quiet_blanking range.at (whole range.end);
    at = inl refl;
    blank = λ k i lt ge below. absurd (omega (arith, ge, below));
  }

  pub rest_begins : (place : ℕ) → entry_at T (last_cluster layer_) ≡ Data place → KnowsIn (Zeroing (rest_range h capacity place)) larger layer_ host g
  rest_begins place held =
      begins (rest_range h capacity place) (place, held, refl, refl) (omega (arith, rest_low place held, rest_end place held, offset_below place held))

  pub tables_begin : IsEmptyPast T capacity → KnowsIn (tables_stage h larger) larger layer_ host g
  tables_begin empty = go (nat_lt (table_range h larger).at (table_range h larger).end) refl
    where
      go : (b : Bool) → nat_lt (table_range h larger).at (table_range h larger).end ≡ b → KnowsIn (if b then Zeroing (table_range h larger) else Ready) larger layer_ host g
      go true t = begins (table_range h larger) (refl, refl, empty) (grind (arith, nat_tests))
      go false t =
          let over : (table_range h larger).end ≤ (table_range h larger).at = grind (arith, nat_tests) in
          record { quiet = q; may = may; tables = λ i le lt. absurd (omega (arith, over, table_low, table_end, le, lt)); rest = empty }
