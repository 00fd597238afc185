-- The places that the clusters of a part get: clusters of the file that hold nothing yet, each one another.
use Rattle.std.proofs.Common.{◌≡◌, ◌≢◌, ◌⊎◌, inl, inr, ℕ, zero, suc, ◌+◌, ◌-◌, ◌*◌, ◌/◌, ◌%◌, ◌^◌, ◌<◌, ◌≤◌, min, List, length, Option, Some, Ok, refl, sym, ap, ◌∙◌, subst, arith}
use Rattle.std.specs.Prelude.{slice_index}
use Rattle.std.proofs.lemmas.Bool.{cases_order}
use Rattle.std.proofs.Math.Nat.{div-mul-le_self, mul-le-mul_right}
use Rattle.shared_disk.specs.Content.{File}
use Rattle.qcow_format.specs.declared.entry.Entry.{Entry}
use Rattle.qcow_format.specs.declared.entry.Entry.TheVariants.{Absent, Zero, Data}
use Rattle.qcow_format.specs.declared.header.Header.{Header}
use Rattle.volume_meta.specs.declared.record.VolumeRecord.{VolumeRecord}
use Rattle.image_model.specs.File as image
use Rattle.image_model.specs.Layer.{Tables, entries, entry_at}
use Rattle.image_model.specs.Soundness.{IsClean, IsSound, layer_header, names}
use Rattle.layer_laws.specs.Laws.{IsUnnamed, entry_position, layer}
use Rattle.layer_laws.proofs.Positions.{entry_once}
use Rattle.layer_laws.proofs.Sound.{Shape, clean_of, shape_of, unique, zero_at}
use Rattle.link_laws.proofs.Rows.{lies_whole}
use Rattle.layer_linking.proofs.Given.{zero_given}
use Rattle.qcow_layer.specs.declared.layer.Layer.{Layer}
use Rattle.qcow_layer.specs.declared.looking.Looked.{Looked}
use Rattle.layer_writing.specs.Holding.{as_seen}
use Rattle.own_laws.proofs.Sizes.{whole_place}
use Rattle.chain_laws.specs.Laid.{Laying}
use Rattle.write_planning.specs.Linked.{place_at, place_in}
use Rattle.write_planning.specs.Plan.{found_at, places_below, span_of, tables_of, target_at, target_by, target_found}
use Rattle.write_planning.specs.Span.{count_of, first_of, width_of}
use Rattle.write_planning.specs.declared.plan.Target.{Target}
use Rattle.write_planning.specs.declared.plan.Target.TheVariants.{InPlace, Kept, New}
use Rattle.write_planning.specs.declared.plan.WritePlan.{WritePlan}
use Rattle.write_planning.proofs.Meeting.{inside_met}
use Rattle.write_planning.proofs.Targets.{new_apart, new_wanted}
use Rattle.write_preparing.specs.Preparing.{IsPrepared}
use Rattle.write_preparing.specs.declared.placed.Placed.{Placed}

-- ---- what was found

kept_by : (n place : ℕ) (e : Entry) → target_by n e ≡ Kept place → (e ≡ Zero place) × (place ≢ 0)
kept_by n place Absent is = absurd cc
kept_by n place (Zero zero) is = absurd cc
kept_by n place (Zero (suc at)) is = let same : suc at ≡ place = cc in (ap Zero same, λ none. omega (arith, same, none))
kept_by n place (Data at) is = absurd cc

kept_found : (n place : ℕ) (o : Option Looked) (looked : Looked) → o ≡ Some looked → target_found n o ≡ Kept place → (looked.entry ≡ Zero place) × (place ≢ 0)
kept_found n place o looked some is = kept_by n place looked.entry (sym (ap (target_found n) some) ∙ is)

-- a cluster of the part's, by its number in sectors
pub low_number : (p : WritePlan) (j : ℕ) → j < count_of (span_of p) → (first_of (span_of p) + j) * (width_of (span_of p) / 512) ≤ 2 ^ 54
low_number p j lt =
    let met = inside_met p.span.at p.span.length p.span.width (first_of (span_of p) + j) p.span.part (omega arith, omega (arith, lt)) in
    let low : (first_of (span_of p) + j) * p.span.width ≤ p.span.at + met.0 = subst (λ m. m * p.span.width ≤ p.span.at + met.0) met.2 (div-mul-le_self (p.span.at + met.0) p.span.width) in
    let whole = p.span.part.whole in
    let within = p.span.part.within in
    let size : p.span.width ≡ 512 * (p.span.width / 512) = omega (arith, whole) in
    let rows : (first_of (span_of p) + j) * p.span.width ≡ 512 * ((first_of (span_of p) + j) * (p.span.width / 512)) = ap (λ n. (first_of (span_of p) + j) * n) size ∙ omega arith in
    omega (arith, rows, low, met.1, within)

-- ---- a place that a cluster gets

module _ (p : Placed) (w : Layer) (l : Laying) (x : VolumeRecord) (host : ℕ) (f : File) (prepared : IsPrepared p w l x host f) where
  abbrev plan : WritePlan
  plan = p.plan

  abbrev xs : List ℕ
  xs = p.clusters.numbers.items

  abbrev h : Header
  h = w.work.header

  abbrev cap : ℕ
  cap = w.target.capacity

  abbrev W : ℕ
  W = 2 ^ h.cluster_bits

  abbrev T : Tables
  T = layer h (as_seen host f)

  header_is : layer_header (as_seen host f) cap ≡ Ok h
  header_is = prepared.over.writer.knows.numbers.header

  sound_is : IsSound (as_seen host f) cap
  sound_is = prepared.over.writer.knows.numbers.sound

  shape : Shape h
  shape = shape_of (as_seen host f) cap h header_is

  clean : (n : ℕ) → IsClean T cap n
  clean = clean_of (as_seen host f) cap h header_is sound_is

  pub wide : width_of (span_of plan) ≡ W
  wide = prepared.over.found.width

  -- a cluster that was taken, which nothing names
  pub record IsTaken (j place : ℕ) : Type 0 where
    pub index : ℕ
    pub new : target_at plan j ≡ New index
    pub place_is : place ≡ slice_index xs index * W
    pub unnamed : IsUnnamed T cap place

  -- or one that an entry of zeros keeps
  pub record IsKeptAt (j place : ℕ) : Type 0 where
    pub entry : entry_at T (first_of (span_of plan) + j) ≡ Zero place
    pub some : place ≢ 0

  -- a cluster of the file
  pub record IsGiven (j place : ℕ) : Type 0 where
    pub begins : place % W ≡ 0
    pub inside : place + W ≤ 512 * f.size
    pub low : place < 2 ^ 56
    pub by : IsTaken j place ⊎ IsKeptAt j place

  file_size : (as_seen host f).size ≡ 512 * f.size
  unfolding image.file_of
  file_size = refl

  taken_given : (j place m : ℕ) → j < count_of (span_of plan) → target_at plan j ≡ New m → min (slice_index xs m * width_of (span_of plan)) (2 ^ 64 - 1) ≡ place → IsGiven j place
  taken_given j place m lt new at =
      let wanted = new_wanted plan j m new lt in
      let many = p.many in
      let among : m < length xs = omega (arith, wanted.1, many) in
      let spare = prepared.placed.spare m among in
      let low : slice_index xs m * W < 2 ^ 56 = prepared.placed.low m among in
      let same : slice_index xs m * width_of (span_of plan) ≡ slice_index xs m * W = ap (λ n. slice_index xs m * n) wide in
      let is : slice_index xs m * W ≡ place = omega (arith, same, low, at) in
      let within = subst (λ n. n + W ≤ (as_seen host f).size) is spare.inside in
      let size = file_size in
      record {
        begins = subst (λ n. n % W ≡ 0) is spare.begins;
        inside = omega (arith, within, size);
        low = subst (λ n. n < 2 ^ 56) is low;
        by = inl (record { index = m; new = new; place_is = sym is; unnamed = subst (λ n. IsUnnamed T cap n) is spare.unnamed });
      }

  kept_given : (j place : ℕ) → j < count_of (span_of plan) → target_at plan j ≡ Kept place → IsGiven j place
  kept_given j place lt is =
      let all = prepared.over.all in
      let found = prepared.over.found.found j (omega (arith, all, lt)) in
      let keeps = kept_found (tables_of plan + places_below plan j) place (found_at plan j) found.0 found.1 is in
      let zeros : entry_at T (first_of (span_of plan) + j) ≡ Zero place = sym found.2.entry ∙ keeps.0 in
      let counted = (zero_given (as_seen host f) cap (first_of (span_of plan) + j) place h header_is sound_is zeros keeps.1).0 in
      let size = file_size in
      let fits = counted.fits in
      record {
        begins = counted.begins;
        inside = lies_whole place (512 * f.size) W counted.begins prepared.over.writer.whole (omega (arith, size, fits));
        low = counted.low;
        by = inr (record { entry = zeros; some = keeps.1 });
      }

  pub given : (j place : ℕ) → j < count_of (span_of plan) → place_at plan xs j ≡ Some place → IsGiven j place
  given j place lt at = go (target_at plan j) refl at
    where
      go : (t : Target) → target_at plan j ≡ t → place_in (width_of (span_of plan)) xs t ≡ Some place → IsGiven j place
      go (InPlace q) is got = absurd cc
      go (Kept q) is got = let same : q ≡ place = cc in kept_given j place lt (is ∙ ap Kept same)
      go (New m) is got = let same : min (slice_index xs m * width_of (span_of plan)) (2 ^ 64 - 1) ≡ place = cc in taken_given j place m lt is same

  -- clusters are of whole sectors, and so begin them
  pub width_even : W ≡ 512 * (W / 512)
  width_even = let whole : W % 512 ≡ 0 = subst (λ n. n % 512 ≡ 0) wide (span_of plan).part.whole in omega (arith, whole)

  pub place_even : (j place : ℕ) → IsGiven j place → place % 512 ≡ 0
  place_even j place at = let low = (span_of plan).part.low in let width = wide in let size = width_even in whole_place (W / 512) place W (omega (arith, low, width)) size at.begins

  -- ---- no place is given twice

  zero_named : (j place : ℕ) → IsKeptAt j place → names T cap (entry_position T (first_of (span_of plan) + j)) ≡ Some place
  zero_named j place kept = (zero_at h (as_seen host f) cap shape clean (first_of (span_of plan) + j) place kept.some kept.entry).name

  taken_apart : (i j a m n : ℕ) → i < count_of (span_of plan) → j < count_of (span_of plan) → i ≢ j → target_at plan i ≡ New m → target_at plan j ≡ New n → a ≡ slice_index xs m * W → a ≡ slice_index xs n * W → ⊥
  taken_apart i j a m n in_i in_j apart new_i new_j at_i at_j = go (cases_order m n)
    where
      some : 0 < W
      some = let low = (span_of plan).part.low in let width = wide in omega (arith, low, width)

      rising : (m n : ℕ) → m < n → n < length xs → a ≡ slice_index xs m * W → a ≡ slice_index xs n * W → ⊥
      rising m n lt among first second =
          let more = prepared.placed.rising m n lt among in
          let rows : (slice_index xs m + 1) * W ≤ slice_index xs n * W = mul-le-mul_right W (omega (arith, more)) in
          let pos = some in
          omega (arith, rows, first, second, pos)

      go : (m ≡ n) ⊎ ((m < n) ⊎ (n < m)) → ⊥
      go (inl same) = apart (new_apart plan i j n (new_i ∙ ap New same) new_j)
      go (inr (inl lt)) = let wanted = new_wanted plan j n new_j in_j in let many = p.many in rising m n lt (omega (arith, wanted.1, many)) at_i at_j
      go (inr (inr lt)) = let wanted = new_wanted plan i m new_i in_i in let many = p.many in rising n m lt (omega (arith, wanted.1, many)) at_j at_i

  kept_apart : (i j a : ℕ) → i ≢ j → IsKeptAt i a → IsKeptAt j a → ⊥
  kept_apart i j a apart one two =
      let low = (span_of plan).part.low in
      let width = wide in
      let some : 0 < entries T = omega (arith, low, width) in
      let position = unique h (as_seen host f) cap shape clean (entry_position T (first_of (span_of plan) + i)) (entry_position T (first_of (span_of plan) + j)) a (zero_named i a one) (zero_named j a two) in
      let same = entry_once T (first_of (span_of plan) + i) (first_of (span_of plan) + j) some position in
      apart (omega (arith, same))

  pub places_apart : (i j a b : ℕ) → i < count_of (span_of plan) → j < count_of (span_of plan) → i ≢ j → IsGiven i a → IsGiven j b → a ≢ b
  places_apart i j a b in_i in_j apart one two same = go one.by two.by
    where
      go : IsTaken i a ⊎ IsKeptAt i a → IsTaken j b ⊎ IsKeptAt j b → ⊥
      go (inl first) (inl second) = taken_apart i j a first.index second.index in_i in_j apart first.new second.new first.place_is (same ∙ second.place_is)
      go (inl first) (inr second) = first.unnamed (entry_position T (first_of (span_of plan) + j)) (zero_named j b second ∙ ap (λ n. Some n) (sym same))
      go (inr first) (inl second) = second.unnamed (entry_position T (first_of (span_of plan) + i)) (zero_named i a first ∙ ap (λ n. Some n) same)
      go (inr first) (inr second) = kept_apart i j a apart first (record { entry = second.entry ∙ ap Zero (sym same); some = first.some })
