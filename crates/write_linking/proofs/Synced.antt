-- Once all is synced, the sectors of entries may be made.
use Rattle.std.proofs.Common.{◌≡◌, ◌⊎◌, ℕ, ◌+◌, ◌*◌, ◌/◌, ◌^◌, ◌<◌, ◌≤◌, Bool, true, false, List, length, Option, Some, None, Result, Ok, Err, refl, sym, ap, ◌∙◌, subst, inl, inr, arith, nat_lt}
use Rattle.std.specs.Prelude.{slice_index, ◌&&◌}
use Rattle.std.proofs.lemmas.Bool.{cases_lt, false≢true, lt-ltb}
use Rattle.sd_names.specs.declared.fault.LayerFault.{LayerFault}
use Rattle.shared_disk.specs.Calls.{synced}
use Rattle.shared_disk.specs.Content.{File}
use Rattle.shared_disk.specs.WellFormed.{IsWellFormedFile}
use Rattle.qcow_format.specs.declared.header.Header.{Header}
use Rattle.volume_meta.specs.declared.record.VolumeRecord.{VolumeRecord}
use Rattle.image_model.specs.File as image
use Rattle.image_model.specs.Layer.{Tables, l1_at, l1_entry, names_table}
use Rattle.image_model.specs.Room.{room_of}
use Rattle.image_model.specs.Soundness.{IsSound, Item, l1_item_of, layer_header, own_fault}
use Rattle.layer_laws.specs.Laws.{l1_position, layer}
use Rattle.layer_laws.proofs.Places.{item_l1}
use Rattle.layer_laws.proofs.Sound.{clean_of}
use Rattle.link_laws.specs.Links.{row_of}
use Rattle.qcow_layer.specs.declared.layer.Layer.{Layer}
use Rattle.layer_writing.specs.Holding.{IsSpare, as_seen}
use Rattle.layer_writing.specs.Writer.{seen_tables}
use Rattle.layer_writing.proofs.Known.{synced_knows}
use Rattle.layer_writing.proofs.Sectors.{alone_synced}
use Rattle.chain_model.specs.Own.{own_in}
use Rattle.chain_model.specs.Own as own
use Rattle.own_laws.specs.Sectors.{cluster_of}
use Rattle.chain_laws.specs.Laid.{IsInPart, Laying, sector_in_part}
use Rattle.write_planning.specs.Linked.{group_in, place_in, sectors_of, start_in, table_with}
use Rattle.write_planning.specs.Plan.{Tells, found_at, found_table, target_at, wanted_of}
use Rattle.write_planning.specs.Span.{count_of, first_of, width_of}
use Rattle.write_planning.specs.declared.plan.Target.{Target}
use Rattle.write_planning.specs.declared.plan.Target.TheVariants.{InPlace, Kept, New}
use Rattle.write_planning.proofs.Tables.{table_counted, table_made, table_wanting}
use Rattle.write_planning.proofs.Targets.{new_wanted}
use Rattle.part_survey.proofs.Finding.{shared, tells}
use Rattle.write_preparing.specs.Placed.{clusters_of, plan_of}
use Rattle.write_preparing.specs.declared.placed.Placed.{Placed}
use Rattle.write_linking.proofs.Rows.{row_inside, row_same}
use Rattle.write_preparing.specs.Filled.{IsFilled}
use Rattle.write_linking.specs.Linking.{IsReady, IsTableInTime, place_of, span_in}

-- ---- an L1 entry of a sound layer says whether the table is there

-- a table that is there or isn't
pub l1_told : (t : Result (Option ℕ) LayerFault) (b : Bool) → ((fault : LayerFault) → t ≡ Err fault → ⊥) → names_table t ≡ b
    → ((b ≡ true) × ((place : ℕ) × (t ≡ Ok (Some place)))) ⊎ ((b ≡ false) × (t ≡ Ok None))
l1_told (Ok (Some place)) b fine is = inl (sym is, (place, refl))
l1_told (Ok None) b fine is = inr (sym is, refl)
l1_told (Err fault) b fine is = absurd (fine fault refl)

pub l1_fine : (file : image.File) (capacity i : ℕ) (h : Header) → layer_header file capacity ≡ Ok h → IsSound file capacity → i < h.l1_size → (fault : LayerFault) → l1_entry (layer h file) i ≡ Err fault → ⊥
l1_fine file capacity i h header sound lt fault is =
    let e = item_l1 (layer h file) capacity i lt ∙ ap (λ (r : Result (Option ℕ) LayerFault). l1_item_of (layer h file) (l1_at (layer h file) i) r) is in
    let fine = (clean_of file capacity h header sound (l1_position (layer h file) i)).fine in
    let bad = sym (ap (λ (m : Item). own_fault file.size m) e) ∙ fine in
    absurd cc

pub place_none : (width : ℕ) (placed : List ℕ) (target : Target) → place_in width placed target ≡ None → (place : ℕ) × (target ≡ InPlace place)
place_none width placed (InPlace at) is = (at, refl)
place_none width placed (Kept at) is = absurd cc
place_none width placed (New m) is = absurd cc

module _ (p : Placed) (w : Layer) (l : Laying) (x : VolumeRecord) (host : ℕ) (f : File) (well : IsWellFormedFile (synced host f)) (is : IsFilled p w l x host f) where
  abbrev h : Header
  h = w.work.header

  abbrev cap : ℕ
  cap = w.target.capacity

  abbrev F : image.File
  F = as_seen host f

  abbrev T : Tables
  T = seen_tables w host f

  header : layer_header (as_seen host f) w.target.capacity ≡ Ok w.work.header
  header = is.prepared.over.writer.knows.numbers.header

  sound : IsSound (as_seen host f) w.target.capacity
  sound = is.prepared.over.writer.knows.numbers.sound

  width : width_of (span_in p) ≡ 2 ^ w.work.header.cluster_bits
  width = is.prepared.over.found.width

  row : (t : ℕ) → t < sectors_of (span_in p) → row_of (seen_tables w host f) (group_in (span_in p) t) < w.work.header.l1_size
  row t lt = row_inside (plan_of p) w.work.header width (as_seen host f) w.target.capacity t header is.within lt

  -- what was found of a sector's table
  found_is : (t : ℕ) → t < sectors_of (span_in p) → found_table (found_at (plan_of p) (start_in (span_in p) t)) ≡ names_table (l1_entry (seen_tables w host f) (row_of (seen_tables w host f) (group_in (span_in p) t)))
  found_is t lt =
      let all = is.prepared.over.all in
      let at = is.prepared.over.found.found (start_in (span_in p) t) (omega (arith, all, lt)) in
      let inside : nat_lt (row_of (seen_tables w host f) (group_in (span_in p) t)) w.work.header.l1_size ≡ true = lt-ltb (row_of (seen_tables w host f) (group_in (span_in p) t)) w.work.header.l1_size (row t lt) in
      ap found_table at.1
      ∙ at.2.table
      ∙ ap (λ n. nat_lt n w.work.header.l1_size && names_table (l1_entry (seen_tables w host f) n)) (row_same (plan_of p) w.work.header width t (start_in (span_in p) t) (omega arith) (omega (arith, lt)))
      ∙ ap (λ (b : Bool). b && names_table (l1_entry (seen_tables w host f) (row_of (seen_tables w host f) (group_in (span_in p) t)))) inside

  says : Tells (plan_of p) (room_of (seen_tables w host f))
  says = tells (plan_of p) (seen_tables w host f) is.prepared.over.found is.prepared.over.all

  tables : (t : ℕ) → t < sectors_of (span_in p) → (o : Option ℕ) → table_with (plan_of p) t ≡ o → IsTableInTime p 0 t (seen_tables w host f) o
  tables t lt (Some m) with_it = go (l1_told entry false fine (sym (found_is t lt) ∙ wanting))
    where
      entry : Result (Option ℕ) LayerFault
      entry = l1_entry (seen_tables w host f) (row_of (seen_tables w host f) (group_in (span_in p) t))

      fine : (fault : LayerFault) → l1_entry (seen_tables w host f) (row_of (seen_tables w host f) (group_in (span_in p) t)) ≡ Err fault → ⊥
      fine = l1_fine (as_seen host f) w.target.capacity (row_of (seen_tables w host f) (group_in (span_in p) t)) w.work.header header sound (row t lt)

      wanting : found_table (found_at (plan_of p) (start_in (span_in p) t)) ≡ false
      wanting = table_wanting (plan_of p) (room_of (seen_tables w host f)) t (start_in (span_in p) t) m says (shared (seen_tables w host f)) (omega arith) (omega (arith, lt)) with_it

      go : ((false ≡ true) × ((place : ℕ) × (l1_entry (seen_tables w host f) (row_of (seen_tables w host f) (group_in (span_in p) t)) ≡ Ok (Some place))))
          ⊎ ((false ≡ false) × (l1_entry (seen_tables w host f) (row_of (seen_tables w host f) (group_in (span_in p) t)) ≡ Ok None))
          → l1_entry (seen_tables w host f) (row_of (seen_tables w host f) (group_in (span_in p) t)) ≡ Ok None
      go (inl there) = absurd (false≢true there.0)
      go (inr none) = none.1
  tables t lt None with_it = go (l1_told (l1_entry (seen_tables w host f) (row_of (seen_tables w host f) (group_in (span_in p) t))) (found_table (found_at (plan_of p) (start_in (span_in p) t))) fine (sym (found_is t lt)))
    where
      fine : (fault : LayerFault) → l1_entry (seen_tables w host f) (row_of (seen_tables w host f) (group_in (span_in p) t)) ≡ Err fault → ⊥
      fine = l1_fine (as_seen host f) w.target.capacity (row_of (seen_tables w host f) (group_in (span_in p) t)) w.work.header header sound (row t lt)

      earlier : (m from : ℕ) → from ≤ t → table_with (plan_of p) from ≡ Some m
          → (first_of (span_in p) + start_in (span_in p) from) / (width_of (span_in p) / 8) ≡ (first_of (span_in p) + start_in (span_in p) t) / (width_of (span_in p) / 8)
          → (from < t) ⊎ (t ≤ from) → IsTableInTime p 0 t (seen_tables w host f) None
      earlier m from le made same (inr past) = let is_it : from ≡ t = omega (arith, le, past) in let here = sym with_it ∙ subst (λ n. table_with (plan_of p) n ≡ Some m) is_it made in absurd cc
      earlier m from le made same (inl less) =
          let wide = subst (λ n. (first_of (span_in p) + start_in (span_in p) from) / (n / 8) ≡ (first_of (span_in p) + start_in (span_in p) t) / (n / 8)) width same in
          inr (
            from,
            m,
            omega arith,
            less,
            made,
            sym (row_same (plan_of p) w.work.header width from (start_in (span_in p) from) (omega arith) (omega (arith, lt, less)))
                ∙ wide
                ∙ row_same (plan_of p) w.work.header width t (start_in (span_in p) t) (omega arith) (omega (arith, lt)),
          )

      go : ((found_table (found_at (plan_of p) (start_in (span_in p) t)) ≡ true) × ((place : ℕ) × (l1_entry (seen_tables w host f) (row_of (seen_tables w host f) (group_in (span_in p) t)) ≡ Ok (Some place))))
          ⊎ ((found_table (found_at (plan_of p) (start_in (span_in p) t)) ≡ false) × (l1_entry (seen_tables w host f) (row_of (seen_tables w host f) (group_in (span_in p) t)) ≡ Ok None))
          → IsTableInTime p 0 t (seen_tables w host f) None
      go (inl there) = inl there.1
      go (inr none) =
          let made = table_made (plan_of p) (room_of (seen_tables w host f)) t (start_in (span_in p) t) says (shared (seen_tables w host f)) lt (omega arith) (omega (arith, lt)) none.0 in
          earlier made.0 made.1 made.2 made.3 made.4 (cases_lt made.1 t)

  spare : (m : ℕ) → m < wanted_of (plan_of p)
      → IsSpare (seen_tables w host f) w.target.capacity (slice_index (clusters_of p) m * width_of (span_in p)) × (slice_index (clusters_of p) m * width_of (span_in p) < 2 ^ 56)
  spare m lt =
      let many = p.many in
      let inside : m < length (clusters_of p) = omega (arith, many, lt) in
      subst (λ n. IsSpare (seen_tables w host f) w.target.capacity (slice_index (clusters_of p) m * n) × (slice_index (clusters_of p) m * n < 2 ^ 56)) (sym width)
      (is.prepared.placed.spare m inside, is.prepared.placed.low m inside)

  pub ready_now : IsReady p 0 w l x host (synced host f)
  ready_now = record {
    says = is.prepared.over.says;
    cow = is.prepared.over.cow;
    capacity = is.prepared.over.capacity;
    at = is.prepared.over.at;
    length = is.prepared.over.length;
    within = is.within;
    writer = synced_knows w host f is.prepared.over.writer;
    settled = alone_synced host f is.prepared.over.writer.knows.alone;
    well = well;
    given = record {
      width = width;
      found = λ j low high. let all = is.prepared.over.all in let at = is.prepared.over.found.found j (omega (arith, all, high)) in (at.0, at.1, at.2.entry);
      spare = λ j m low high new. spare m (new_wanted (plan_of p) j m new high).1;
      many = p.many;
      rising = is.prepared.placed.rising;
    };
    spare = λ t m low lt with_it. spare m (let few = table_counted (plan_of p) t m lt with_it in omega (arith, few));
    tables = λ t low lt. tables t lt (table_with (plan_of p) t) refl;
    stands = λ j place k low inside at. (is.filled j place k inside.index at inside.cluster inside.inside).stands;
    part = λ j place k low inside at among. (is.filled j place k inside.index at inside.cluster inside.inside).part among;
    holds = λ j k inside which among. held j k inside.index inside.cluster inside.inside among which;
  }
    where
      held : (j k : ℕ) → j < count_of (span_in p) → cluster_of w.work.header k ≡ first_of (span_in p) + j → k < own.sectors_of x → IsInPart l.part k → (j < start_in (span_in p) 0) ⊎ (place_of p j ≡ None)
          → own_in x (synced host f) k ≡ Some (sector_in_part l.part k)
      held j k lt cluster low among (inl before) = absurd (omega (arith, before))
      held j k lt cluster low among (inr none) =
          let at = place_none (width_of (span_in p)) (clusters_of p) (target_at (plan_of p) j) none in is.prepared.holds j at.0 k lt at.1 cluster among low
