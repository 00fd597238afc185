-- Once the entries of a sector are made, those of the next one may be.
use Rattle.std.proofs.Common.{◌≡◌, ◌⊎◌, inl, inr, ℕ, ◌+◌, ◌*◌, ◌/◌, ◌%◌, ◌^◌, ◌<◌, ◌≤◌, Bool, true, false, List, length, Option, Some, None, Result, Ok, refl, sym, ap, ◌∙◌, subst, arith}
use Rattle.std.specs.Prelude.{◌==◌, if◌then◌else◌, slice_index}
use Rattle.std.proofs.Math.Nat.{mul-le-mul_right}
use Rattle.std.proofs.lemmas.Bool.{cases_lt, cases_order, eq-eqb, ne_eqb}
use Rattle.std.proofs.lemmas.Nat.{div-add-mod', pow_pos}
use Rattle.sd_names.specs.declared.fault.LayerFault.{LayerFault}
use Rattle.shared_disk.specs.Content.{File}
use Rattle.shared_disk.specs.Crash.{IsSettled}
use Rattle.shared_disk.specs.WellFormed.{IsWellFormedFile}
use Rattle.shared_disk.proofs.Outcomes.{settled_itself}
use Rattle.image_model.specs.File.{sector_in}
use Rattle.image_model.specs.Layer.{entry_at, l1_entry}
use Rattle.image_model.specs.Soundness.{names}
use Rattle.layer_laws.specs.Laws.{entry_position}
use Rattle.link_laws.specs.Links.{IsAmong, Linked, entry_with, table_with as l1_with}
use Rattle.volume_meta.specs.declared.record.VolumeRecord.{VolumeRecord}
use Rattle.qcow_layer.specs.declared.layer.Layer.{Layer}
use Rattle.layer_writing.specs.Holding.{IsSpare, on_medium}
use Rattle.layer_writing.specs.Writer.{KnowsWriter}
use Rattle.layer_linking.specs.Calls.{group_of, links_of, table_of, to_of}
use Rattle.layer_linking.specs.Linking.{IsLinked, behind_of, tables_on, tables_to}
use Rattle.layer_linking.specs.declared.linking.Linking.{Linking}
use Rattle.layer_linking.proofs.Given.{spare_after}
use Rattle.chain_model.specs.Own.{own_in}
use Rattle.own_laws.specs.Sectors.{IsLayerOf, sector_at}
use Rattle.own_laws.proofs.Changes.{linked_held, others_held}
use Rattle.chain_laws.specs.Laid.{IsInPart, Laying, sector_in_part}
use Rattle.part_laws.specs.Steps.{StandsFor}
use Rattle.part_laws.proofs.Files.{known_layers}
use Rattle.write_planning.specs.Linked.{end_in, group_in, place_in, sectors_of, start_in, table_with}
use Rattle.write_planning.specs.Plan.{target_at}
use Rattle.write_planning.specs.Span.{count_of, first_of, width_of}
use Rattle.write_planning.specs.declared.plan.Target.{Target}
use Rattle.write_planning.specs.declared.plan.Target.TheVariants.{New}
use Rattle.write_planning.proofs.Tables.{table_counted, tables_apart}
use Rattle.write_planning.proofs.Targets.{new_wanted}
use Rattle.plan_laws.proofs.Places.{Known, given, known, placing, same_index}
use Rattle.place_writing.proofs.Pieces.{whole_row}
use Rattle.write_preparing.specs.Placed.{clusters_of, plan_of}
use Rattle.write_preparing.specs.declared.placed.Placed.{Placed}
use Rattle.write_linking.specs.Linking.{AreLinksIn, IsReady, IsSectorIn, IsTableInTime, MakesTable, place_of, span_in}
use Rattle.write_linking.proofs.Begun.{header_on, no_table_made, sound_on, table_is_made}
use Rattle.write_linking.proofs.Rows.{row_inside, rows_apart}
use Rattle.write_linking.proofs.Standing.{sector_stays}

-- the table that is made is the one that was given
among_behind : (o : Option ℕ) (row place : ℕ) → IsAmong (tables_to o row) place → o ≡ Some place
among_behind None row place at = let bad = at.1 in absurd cc
among_behind (Some table) row place at = go (at.0 == row) at.1
  where
    go : (b : Bool) → (if b then Some table else None) ≡ Some place → Some table ≡ Some place
    go true is = is
    go false is = absurd cc

-- an L1 entry of a table that isn't made, or of the one that is
l1_none : (o : Option ℕ) (row i : ℕ) → ((table : ℕ) → o ≡ Some table → row ≡ i → ⊥) → tables_to o row i ≡ None
l1_none None row i apart = refl
l1_none (Some table) row i apart = go (cases_order i row)
  where
    go : (i ≡ row) ⊎ ((i < row) ⊎ (row < i)) → (if i == row then Some table else None) ≡ None
    go (inl same) = absurd (apart table refl (sym same))
    go (inr (inl lt)) = let no : (i == row) ≡ false = ne_eqb i row (λ e. omega (arith, e, lt)) in ap (λ (b : Bool). if b then Some table else None) no
    go (inr (inr lt)) = let no : (i == row) ≡ false = ne_eqb i row (λ e. omega (arith, e, lt)) in ap (λ (b : Bool). if b then Some table else None) no

l1_made : (table row : ℕ) → tables_to (Some table) row row ≡ Some table
l1_made table row = let yes : (row == row) ≡ true = eq-eqb row row refl in ap (λ (b : Bool). if b then Some table else None) yes

-- a table that is there stays, whether one is made or not
l1_there : (o : Option ℕ) (r : Result (Option ℕ) LayerFault) (place : ℕ) → r ≡ Ok (Some place) → (now : ℕ) × (l1_with o r ≡ Ok (Some now))
l1_there None r place is = (place, is)
l1_there (Some table) r place is = (table, refl)

module _ (p : Placed) (sector : ℕ) (w : Layer) (l : Laying) (x : VolumeRecord) (host : ℕ) (f : File) (ready : IsReady p sector w l x host f) where
  -- clusters that were taken are different ones
  taken_apart : (m n : ℕ) → m < n → n < length (clusters_of p) → slice_index (clusters_of p) m * width_of (span_in p) ≡ slice_index (clusters_of p) n * width_of (span_in p) → ⊥
  taken_apart m n lt inside same =
      let more = ready.given.rising m n lt inside in
      let rows : (slice_index (clusters_of p) m + 1) * width_of (span_in p) ≤ slice_index (clusters_of p) n * width_of (span_in p) = mul-le-mul_right (width_of (span_in p)) (omega (arith, more)) in
      omega (arith, rows, same, (span_in p).part.low)

  -- what is known of a place that is still to be given
  knows_place : (j place : ℕ) → start_in (span_in p) sector ≤ j → j < count_of (span_in p) → place_of p j ≡ Some place
      → Known (plan_of p) (clusters_of p) (on_medium f) w.target.capacity w.work.header (start_in (span_in p) sector) (count_of (span_in p)) (header_on p sector w l x host f ready) (sound_on p sector w l x host f ready) ready.given j place
  knows_place j place low high at =
      known (plan_of p) (clusters_of p) (on_medium f) w.target.capacity w.work.header (start_in (span_in p) sector) (count_of (span_in p)) (header_on p sector w l x host f ready) (sound_on p sector w l x host f ready) ready.given j place low high
      (placing (width_of (span_in p)) (clusters_of p) (target_at (plan_of p) j) place at)

  -- a place that is given isn't that of a table
  place_apart : (j place t m : ℕ) → start_in (span_in p) sector ≤ j → j < count_of (span_in p) → place_of p j ≡ Some place → sector ≤ t → t < sectors_of (span_in p) → table_with (plan_of p) t ≡ Some m
      → place ≡ slice_index (clusters_of p) m * width_of (span_in p) → ⊥
  place_apart j place t m low high at from lt with_it same = go (knows_place j place low high at).by
    where
      go : ((n : ℕ) × (target_at (plan_of p) j ≡ New n) × (place ≡ slice_index (clusters_of p) n * width_of (span_in p)) × IsSpare (tables_on w f) w.target.capacity place)
          ⊎ (names (tables_on w f) w.target.capacity (entry_position (tables_on w f) (first_of (span_in p) + j)) ≡ Some place) → ⊥
      go (inl by) =
          let first = table_counted (plan_of p) t m lt with_it in
          let wanted = new_wanted (plan_of p) j by.0 by.1 high in
          let many = ready.given.many in
          taken_apart m by.0 (omega (arith, first, wanted.0)) (omega (arith, many, wanted.1)) (sym same ∙ by.2)
      go (inr named) = (ready.spare t m from lt with_it).0.unnamed (entry_position (tables_on w f) (first_of (span_in p) + j)) (named ∙ ap (λ (n : ℕ). Some n) same)

  module _ (k : Linking) (lt : sector < sectors_of (span_in p)) (links : AreLinksIn p sector (Some (links_of k))) (table : MakesTable p sector k) (g : File) (linked : IsLinked w k (on_medium f) (on_medium g))
      (writer : KnowsWriter w host g) (settled : IsSettled g) (well : IsWellFormedFile g) where
    abbrev row : ℕ → ℕ
    row t = 64 * group_in (span_in p) t / (2 ^ w.work.header.cluster_bits / 8)

    behind_is : behind_of w k ≡ tables_to (table_of k) (64 * group_in (span_in p) sector / (2 ^ w.work.header.cluster_bits / 8))
    behind_is = ap (λ n. tables_to (table_of k) (64 * n / (2 ^ w.work.header.cluster_bits / 8))) links.sector

    -- ---- what isn't among those that were given

    later_unlinked : (j : ℕ) → end_in (span_in p) sector ≤ j → to_of k (first_of (span_in p) + j) ≡ None
    later_unlinked j past = links.others (first_of (span_in p) + j) (λ i low high e. omega (arith, e, high, past))

    not_among : (j place : ℕ) → end_in (span_in p) sector ≤ j → j < count_of (span_in p) → place_of p j ≡ Some place → IsAmong (to_of k) place → ⊥
    not_among j place past high at among =
        let is = given (plan_of p) (clusters_of p) (group_in (span_in p) sector) (start_in (span_in p) sector) (end_in (span_in p) sector) (links_of k) among.0 place links among.1 in
        let low : is.index < count_of (span_in p) = let h = is.high in omega (arith, h) in
        let here = knows_place is.index place is.low low is.at in
        let there = knows_place j place (let s = is.low in let h = is.high in omega (arith, s, h, past)) high at in
        let same = same_index (plan_of p) (clusters_of p) (on_medium f) w.target.capacity w.work.header (start_in (span_in p) sector) (count_of (span_in p)) (header_on p sector w l x host f ready) (sound_on p sector w l x host f ready) ready.given is.index j place low high here there in
        let h = is.high in
        omega (arith, same, h, past)

    made_is : (place : ℕ) → IsAmong (behind_of w k) place → (m : ℕ) × (table_with (plan_of p) sector ≡ Some m) × (place ≡ slice_index (clusters_of p) m * width_of (span_in p))
    made_is place among = go (table_with (plan_of p) sector) refl
      where
        is : table_of k ≡ Some place
        is = among_behind (table_of k) (64 * group_of k / (2 ^ w.work.header.cluster_bits / 8)) place among

        go : (o : Option ℕ) → table_with (plan_of p) sector ≡ o → (m : ℕ) × (table_with (plan_of p) sector ≡ Some m) × (place ≡ slice_index (clusters_of p) m * width_of (span_in p))
        go None none = let bad = sym (no_table_made p sector w l x host f ready k lt links table none) ∙ is in absurd cc
        go (Some m) some = let same : Some place ≡ Some (slice_index (clusters_of p) m * width_of (span_in p)) = sym is ∙ table_is_made p sector w l x host f ready k lt links table m some in (m, some, cc)

    not_behind : (j place : ℕ) → start_in (span_in p) sector ≤ j → j < count_of (span_in p) → place_of p j ≡ Some place → IsAmong (behind_of w k) place → ⊥
    not_behind j place low high at among = let made = made_is place among in place_apart j place sector made.0 low high at (omega arith) lt made.1 made.2

    table_stays : (t m : ℕ) → sector < t → t < sectors_of (span_in p) → table_with (plan_of p) t ≡ Some m → IsSpare (tables_on w g) w.target.capacity (slice_index (clusters_of p) m * width_of (span_in p))
    table_stays t m more less with_it =
        spare_after w.work.header w.target.capacity (to_of k) (behind_of w k) (on_medium f) (on_medium g) linked (slice_index (clusters_of p) m * width_of (span_in p)) unlinked apart (ready.spare t m (omega (arith, more)) less with_it).0
      where
        unlinked : IsAmong (to_of k) (slice_index (clusters_of p) m * width_of (span_in p)) → ⊥
        unlinked among =
            let is = given (plan_of p) (clusters_of p) (group_in (span_in p) sector) (start_in (span_in p) sector) (end_in (span_in p) sector) (links_of k) among.0 (slice_index (clusters_of p) m * width_of (span_in p)) links among.1 in
            place_apart is.index (slice_index (clusters_of p) m * width_of (span_in p)) t m is.low (let h = is.high in omega (arith, h)) is.at (omega (arith, more)) less with_it refl

        apart : IsAmong (behind_of w k) (slice_index (clusters_of p) m * width_of (span_in p)) → ⊥
        apart among = let made = made_is (slice_index (clusters_of p) m * width_of (span_in p)) among in go made.0 made.1 made.2 (cases_order m made.0)
          where
            go : (n : ℕ) → table_with (plan_of p) sector ≡ Some n → slice_index (clusters_of p) m * width_of (span_in p) ≡ slice_index (clusters_of p) n * width_of (span_in p) → (m ≡ n) ⊎ ((m < n) ⊎ (n < m)) → ⊥
            go n of same (inl e) = let one = tables_apart (plan_of p) sector t n of (with_it ∙ ap (λ q. Some q) e) in omega (arith, one, more)
            go n of same (inr (inl up)) = let few = table_counted (plan_of p) sector n lt of in let many = ready.given.many in taken_apart m n up (omega (arith, few, many)) same
            go n of same (inr (inr down)) = let few = table_counted (plan_of p) t m less with_it in let many = ready.given.many in taken_apart n m down (omega (arith, few, many)) (sym same)

    -- ---- tables

    inside_table : (t : ℕ) → t < sectors_of (span_in p) → row t < w.work.header.l1_size
    inside_table t less = row_inside (plan_of p) w.work.header ready.given.width (on_medium f) w.target.capacity t (header_on p sector w l x host f ready) ready.within less

    entry_now : (t : ℕ) → t < sectors_of (span_in p) → l1_entry (tables_on w g) (row t) ≡ l1_with (tables_to (table_of k) (row sector) (row t)) (l1_entry (tables_on w f) (row t))
    entry_now t less = linked.tables (row t) (inside_table t less) ∙ ap (λ (b : ℕ → Option ℕ). l1_with (b (row t)) (l1_entry (tables_on w f) (row t))) behind_is

    tables : (t : ℕ) → sector < t → t < sectors_of (span_in p) → (o : Option ℕ) → table_with (plan_of p) t ≡ o → IsTableInTime p sector t (tables_on w f) o → IsTableInTime p (sector + 1) t (tables_on w g) o
    tables t more less (Some m) with_it none =
        let stays : tables_to (table_of k) (row sector) (row t) ≡ None = l1_none (table_of k) (row sector) (row t) (λ n is same. rows_apart (plan_of p) w.work.header ready.given.width sector t m with_it more same) in
        entry_now t less ∙ ap (λ (o : Option ℕ). l1_with o (l1_entry (tables_on w f) (row t))) stays ∙ none
    tables t more less None with_it (inl there) =
        let now = l1_there (tables_to (table_of k) (row sector) (row t)) (l1_entry (tables_on w f) (row t)) there.0 there.1 in inl (now.0, entry_now t less ∙ now.1)
    tables t more less None with_it (inr (early, m, from, before, made, same)) = go (cases_lt sector early)
      where
        go : (sector < early) ⊎ (early ≤ sector) → IsTableInTime p (sector + 1) t (tables_on w g) None
        go (inl past) = inr (early, m, omega (arith, past), before, made, same)
        go (inr le) =
            let one : early ≡ sector = omega (arith, le, from) in
            let here : table_with (plan_of p) sector ≡ Some m = subst (λ n. table_with (plan_of p) n ≡ Some m) one made in
            let row_is : row t ≡ row sector = sym same ∙ ap row one in
            let place : ℕ = slice_index (clusters_of p) m * width_of (span_in p) in
            let now : tables_to (table_of k) (row sector) (row t) ≡ Some (slice_index (clusters_of p) m * width_of (span_in p)) =
            ap (λ n. tables_to (table_of k) (row sector) n) row_is
            ∙ ap (λ (o : Option ℕ). tables_to o (row sector) (row sector)) (table_is_made p sector w l x host f ready k lt links table m here)
            ∙ l1_made (slice_index (clusters_of p) m * width_of (span_in p)) (row sector) in
            inl (slice_index (clusters_of p) m * width_of (span_in p), entry_now t less ∙ ap (λ (o : Option ℕ). l1_with o (l1_entry (tables_on w f) (row t))) now)

    -- ---- what is held, and what stands

    old_layer : IsLayerOf x w.work.header f
    old_layer = known_layers x w host f ready.writer ready.well ready.cow ready.capacity f (settled_itself f ready.settled)

    new_layer : IsLayerOf x w.work.header g
    new_layer = known_layers x w host g writer well ready.cow ready.capacity g (settled_itself g settled)

    linked_x : Linked w.work.header x.capacity (to_of k) (behind_of w k) (on_medium f) (on_medium g)
    linked_x = subst (λ n. Linked w.work.header n (to_of k) (behind_of w k) (on_medium f) (on_medium g)) (sym ready.capacity) linked

    same_held : (j n : ℕ) → IsSectorIn p w x j n → to_of k (first_of (span_in p) + j) ≡ None → own_in x g n ≡ own_in x f n
    same_held j n at none = others_held x w.work.header (to_of k) (behind_of w k) f g n old_layer new_layer linked_x (ap (to_of k) at.cluster ∙ none)

    whole : 2 ^ w.work.header.cluster_bits % 512 ≡ 0
    whole = subst (λ n. n % 512 ≡ 0) ready.given.width (span_in p).part.whole

    same_sector : (j place n : ℕ) → end_in (span_in p) sector ≤ j → start_in (span_in p) sector ≤ j → IsSectorIn p w x j n → place_of p j ≡ Some place
        → sector_in g.size g.stable (sector_at w.work.header place n) ≡ sector_in f.size f.stable (sector_at w.work.header place n)
    same_sector j place n past low inside at =
        let knows = knows_place j place low inside.index at in
        sector_stays w.work.header f g place n whole (pow_pos w.work.header.cluster_bits) knows.counted.begins ready.well well
        (λ offset small. linked.stands (first_of (span_in p) + j) place offset knows.counted.begins knows.free (not_behind j place low inside.index at) small)

    later : (j : ℕ) → start_in (span_in p) (sector + 1) ≤ j → j < count_of (span_in p) → (end_in (span_in p) sector ≤ j) × (start_in (span_in p) sector ≤ j)
    later j low high = (omega (arith, low), omega (arith, low))

    held : (j n : ℕ) → IsSectorIn p w x j n → (j < start_in (span_in p) (sector + 1)) ⊎ (place_of p j ≡ None) → IsInPart l.part n → own_in x g n ≡ Some (sector_in_part l.part n)
    held j n at which inside = go (cases_lt j (start_in (span_in p) sector)) (cases_lt j (end_in (span_in p) sector)) (place_of p j) refl
      where
        stays : to_of k (first_of (span_in p) + j) ≡ None → (j < start_in (span_in p) sector) ⊎ (place_of p j ≡ None) → own_in x g n ≡ Some (sector_in_part l.part n)
        stays none was = same_held j n at none ∙ ready.holds j n at was inside

        go : (j < start_in (span_in p) sector) ⊎ (start_in (span_in p) sector ≤ j) → (j < end_in (span_in p) sector) ⊎ (end_in (span_in p) sector ≤ j) → (o : Option ℕ) → place_of p j ≡ o
            → own_in x g n ≡ Some (sector_in_part l.part n)
        go (inl before) _ o is = stays (links.others (first_of (span_in p) + j) (λ i low high e. omega (arith, e, low, before))) (inl before)
        go (inr low) (inl high) None is = stays (links.here j low high ∙ is) (inr is)
        go (inr low) (inl high) (Some place) is =
            let begins = (knows_place j place low at.index is).counted.begins in
            let rows = whole_row (place / 2 ^ w.work.header.cluster_bits) (2 ^ w.work.header.cluster_bits) whole in
            let parts = div-add-mod' place (2 ^ w.work.header.cluster_bits) in
            linked_held x w.work.header (to_of k) (behind_of w k) f g n place old_layer new_layer linked_x at.inside (omega (arith, rows, parts, begins)) (ap (to_of k) at.cluster ∙ links.here j low high ∙ is)
            ∙ ap (λ (b : List ℕ). Some b) (ready.part j place n low at is inside)
        go (inr low) (inr past) o is = by which
          where
            by : (j < start_in (span_in p) (sector + 1)) ⊎ (place_of p j ≡ None) → own_in x g n ≡ Some (sector_in_part l.part n)
            by (inl lower) = absurd (let index = at.index in omega (arith, lower, past, index))
            by (inr none) = stays (later_unlinked j past) (inr none)

    pub ready_after : IsReady p (sector + 1) w l x host g
    ready_after = record {
      says = ready.says;
      cow = ready.cow;
      capacity = ready.capacity;
      at = ready.at;
      length = ready.length;
      within = ready.within;
      writer = writer;
      settled = settled;
      well = well;
      given = record {
        width = ready.given.width;
        found = λ j low high.
            let past = later j low high in
            let was = ready.given.found j past.1 high in
            (was.0, was.1, was.2 ∙ sym (linked.entries (first_of (span_in p) + j) ∙ ap (λ (o : Option ℕ). entry_with o (entry_at (tables_on w f) (first_of (span_in p) + j))) (later_unlinked j past.0)));
        spare = λ j m low high new.
            let past = later j low high in
            spare_still j m past.0 past.1 high new;
        many = ready.given.many;
        rising = ready.given.rising;
      };
      spare = λ t m low less with_it. (table_stays t m (omega (arith, low)) less with_it, (ready.spare t m (omega (arith, low)) less with_it).1);
      tables = λ t low less. tables t (omega (arith, low)) less (table_with (plan_of p) t) refl (ready.tables t (omega (arith, low)) less);
      stands = λ j place n low inside at.
          let past = later j low inside.index in
          subst (λ (o : Option (List ℕ)). StandsFor l n o (sector_in g.size g.stable (sector_at w.work.header place n))) (sym (same_held j n inside (later_unlinked j past.0)))
          (subst (λ (b : List ℕ). StandsFor l n (own_in x f n) b) (sym (same_sector j place n past.0 past.1 inside at)) (ready.stands j place n past.1 inside at));
      part = λ j place n low inside at among. let past = later j low inside.index in same_sector j place n past.0 past.1 inside at ∙ ready.part j place n past.1 inside at among;
      holds = held;
    }
      where
        spare_still : (j m : ℕ) → end_in (span_in p) sector ≤ j → start_in (span_in p) sector ≤ j → j < count_of (span_in p) → target_at (plan_of p) j ≡ New m
            → IsSpare (tables_on w g) w.target.capacity (slice_index (clusters_of p) m * width_of (span_in p)) × (slice_index (clusters_of p) m * width_of (span_in p) < 2 ^ 56)
        spare_still j m past low high new =
            let was = ready.given.spare j m low high new in
            let at : place_of p j ≡ Some (slice_index (clusters_of p) m * width_of (span_in p)) =
            ap (λ (t : Target). place_in (width_of (span_in p)) (clusters_of p) t) new ∙ ap (λ (n : ℕ). Some n) (let less = was.1 in omega (arith, less)) in (
              spare_after w.work.header w.target.capacity (to_of k) (behind_of w k) (on_medium f) (on_medium g) linked (slice_index (clusters_of p) m * width_of (span_in p))
                  (not_among j (slice_index (clusters_of p) m * width_of (span_in p)) past high at) (not_behind j (slice_index (clusters_of p) m * width_of (span_in p)) low high at) was.0,
              was.1,
            )
