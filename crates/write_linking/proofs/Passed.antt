-- A sector none of whose clusters gets an entry is passed over.
use Rattle.std.proofs.Common.{◌≡◌, ◌⊎◌, inl, inr, ℕ, ◌+◌, ◌*◌, ◌/◌, ◌^◌, ◌<◌, ◌≤◌, Option, Some, None, Ok, sym, ◌∙◌, subst, arith}
use Rattle.std.proofs.lemmas.Bool.{cases_lt}
use Rattle.shared_disk.specs.Content.{File}
use Rattle.qcow_format.specs.declared.entry.Entry.TheVariants.{Data}
use Rattle.image_model.specs.Layer.{entry_at, l1_entry}
use Rattle.layer_laws.proofs.Sound.{clean_of, data_at, shape_of}
use Rattle.volume_meta.specs.declared.record.VolumeRecord.{VolumeRecord}
use Rattle.qcow_layer.specs.declared.layer.Layer.{Layer}
use Rattle.layer_writing.specs.Holding.{on_medium}
use Rattle.layer_linking.specs.Linking.{tables_on}
use Rattle.chain_model.specs.Own.{own_in}
use Rattle.chain_laws.specs.Laid.{IsInPart, Laying, sector_in_part}
use Rattle.place_writing.proofs.Written.{data_found}
use Rattle.write_planning.specs.Linked.{group_in, sectors_of, start_in, table_with}
use Rattle.write_planning.specs.Plan.{found_at, places_below, tables_of, target_at}
use Rattle.write_planning.specs.Span.{first_of, width_of}
use Rattle.write_preparing.specs.Placed.{clusters_of, plan_of}
use Rattle.write_preparing.specs.declared.placed.Placed.{Placed}
use Rattle.write_linking.specs.Linking.{AreLinksIn, IsReady, IsSectorIn, IsTableInTime, place_of, span_in}
use Rattle.write_linking.proofs.Begun.{header_on, sound_on}
use Rattle.write_linking.proofs.Rows.{row_same}
use Rattle.write_linking.proofs.Synced.{place_none}

module _ (p : Placed) (sector : ℕ) (w : Layer) (l : Laying) (x : VolumeRecord) (host : ℕ) (f : File) (ready : IsReady p sector w l x host f) (lt : sector < sectors_of (span_in p)) (links : AreLinksIn p sector None) where
  -- its clusters are data, so that no table is made
  no_table : (m : ℕ) → table_with (plan_of p) sector ≡ Some m → ⊥
  no_table m made =
      let start : ℕ = start_in (span_in p) sector in
      let none : place_of p (start_in (span_in p) sector) ≡ None = sym (links.here (start_in (span_in p) sector) (omega arith) (omega (arith, lt))) in
      let target = place_none (width_of (span_in p)) (clusters_of p) (target_at (plan_of p) (start_in (span_in p) sector)) none in
      let found = ready.given.found (start_in (span_in p) sector) (omega arith) (omega (arith, lt)) in
      let entry : entry_at (tables_on w f) (first_of (span_in p) + start_in (span_in p) sector) ≡ Data target.0 =
      sym found.2 ∙ data_found (tables_of (plan_of p) + places_below (plan_of p) (start_in (span_in p) sector)) target.0 (found_at (plan_of p) (start_in (span_in p) sector)) found.0 found.1 target.1 in
      let header = header_on p sector w l x host f ready in
      let at = data_at w.work.header (on_medium f) w.target.capacity (shape_of (on_medium f) w.target.capacity w.work.header header) (clean_of (on_medium f) w.target.capacity w.work.header header (sound_on p sector w l x host f ready))
      (first_of (span_in p) + start_in (span_in p) sector) target.0 entry in
      let there : l1_entry (tables_on w f) (64 * group_in (span_in p) sector / (2 ^ w.work.header.cluster_bits / 8)) ≡ Ok (Some at.table) =
      subst (λ n. l1_entry (tables_on w f) n ≡ Ok (Some at.table)) (row_same (plan_of p) w.work.header ready.given.width sector (start_in (span_in p) sector) (omega arith) (omega (arith, lt))) at.l1 in
      let gone : l1_entry (tables_on w f) (64 * group_in (span_in p) sector / (2 ^ w.work.header.cluster_bits / 8)) ≡ Ok None = subst (λ (o : Option ℕ). IsTableInTime p sector sector (tables_on w f) o) made (ready.tables sector (omega arith) lt) in
      let bad = sym there ∙ gone in
      absurd cc

  tables : (t : ℕ) (o : Option ℕ) → IsTableInTime p sector t (tables_on w f) o → IsTableInTime p (sector + 1) t (tables_on w f) o
  tables t (Some m) none = none
  tables t None (inl there) = inl there
  tables t None (inr (early, m, from, before, made, same)) = go (cases_lt sector early)
    where
      go : (sector < early) ⊎ (early ≤ sector) → IsTableInTime p (sector + 1) t (tables_on w f) None
      go (inl past) = inr (early, m, omega (arith, past), before, made, same)
      go (inr le) = absurd (no_table m (subst (λ n. table_with (plan_of p) n ≡ Some m) (omega (arith, le, from)) made))

  held : (j k : ℕ) → IsSectorIn p w x j k → (j < start_in (span_in p) (sector + 1)) ⊎ (place_of p j ≡ None) → IsInPart l.part k → own_in x f k ≡ Some (sector_in_part l.part k)
  held j k at (inr none) inside = ready.holds j k at (inr none) inside
  held j k at (inl low) inside = go (cases_lt j (start_in (span_in p) sector))
    where
      go : (j < start_in (span_in p) sector) ⊎ (start_in (span_in p) sector ≤ j) → own_in x f k ≡ Some (sector_in_part l.part k)
      go (inl before) = ready.holds j k at (inl before) inside
      go (inr le) = ready.holds j k at (inr (sym (links.here j le (let index = at.index in omega (arith, low, index))))) inside

  later : (j : ℕ) → start_in (span_in p) (sector + 1) ≤ j → start_in (span_in p) sector ≤ j
  later j low = omega (arith, low)

  pub ready_past : IsReady p (sector + 1) w l x host f
  ready_past = record {
    says = ready.says;
    cow = ready.cow;
    capacity = ready.capacity;
    at = ready.at;
    length = ready.length;
    within = ready.within;
    writer = ready.writer;
    settled = ready.settled;
    well = ready.well;
    given = record {
      width = ready.given.width;
      found = λ j low high. ready.given.found j (later j low) high;
      spare = λ j m low high new. ready.given.spare j m (later j low) high new;
      many = ready.given.many;
      rising = ready.given.rising;
    };
    spare = λ t m low less with_it. ready.spare t m (omega (arith, low)) less with_it;
    tables = λ t low less. tables t (table_with (plan_of p) t) (ready.tables t (omega (arith, low)) less);
    stands = λ j place k low inside at. ready.stands j place k (later j low) inside at;
    part = λ j place k low inside at among. ready.part j place k (later j low) inside at among;
    holds = held;
  }
