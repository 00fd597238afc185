-- The walk over the L1 table.
use Rattle.std.proofs.Common.{◌≡◌, ℕ, ◌+◌, ◌-◌, ◌*◌, ◌/◌, ◌%◌, ◌^◌, ◌<◌, ◌≤◌, min, List, Option, Some, None, Result, Ok, Err, refl, sym, ap, ◌∙◌, subst, arith}
use Rattle.std.proofs.lemmas.Nat.{pow_pos}
use Rattle.sd_names.specs.declared.fault.LayerFault.{LayerFault}
use Rattle.image_model.specs.File.{File}
use Rattle.image_model.specs.Layer.{Tables, cluster_size, l1_at, l1_clusters}
use Rattle.image_model.specs.Soundness.{Item, before_mapping, item}
use Rattle.layer_walk.specs.Checked.{IsOnce}
use Rattle.layer_walk.specs.Known.{AllKnown, EntriesKnown, L1Known, L1SectorKnown, StopKnown, TablesKnown, tables_of}
use Rattle.layer_walk.specs.Marks.{MarksFile}
use Rattle.layer_walk.specs.Positions.{HasRow, Holds, HoldsBy, PassesRow, ReachedRow, l1_position, row_end}
use Rattle.layer_walk.specs.declared.marks.Marks.{Marks}
use Rattle.layer_walk.specs.declared.walk.Table.{Table}
use Rattle.layer_walk.specs.declared.work.Work.{Work}
use Rattle.layer_walk.proofs.Admit.{inside}
use Rattle.layer_walk.proofs.Ends.{small_file, still}
use Rattle.layer_walk.proofs.Passing.{l1_later, min_below, stops_from}
use Rattle.layer_walk.proofs.Places.{item_l1_cluster, item_past}
use Rattle.layer_walk.proofs.Sizes.{entries_some, last_end, rounded, some_row}

-- ---- past the last entry

pub l1_end : (t : Tables) (capacity i : ℕ) (m : Marks) → t.header.l1_size ≤ i → TablesKnown t capacity m (l1_position t i) → AllKnown t capacity m
l1_end t capacity i m past known = record {
  end = l1_position t i;
  low = omega arith;
  tables = known;
  rest = λ n le. let later = l1_later t t.header.l1_size i past in item_past t capacity n (omega (arith, le, later));
}

-- ---- where the table ends

once_by : (o : Option ℕ) (t : Tables) (capacity n k : ℕ) (m : Marks) → HoldsBy o t capacity n m → k < n → IsOnce t capacity k
once_by None t capacity n k m known lt = known.once k lt
once_by (Some noted) t capacity n k m known lt = known.once k (omega (arith, lt, still t capacity n _ known, known.before))

pub once_below : (t : Tables) (capacity n k : ℕ) (m : Marks) → Holds t capacity n m → k < n → IsOnce t capacity k
once_below t capacity n k m known lt = once_by m.noted t capacity n k m known lt

-- the entries end below 2 ^ 64
l1_low : (t : Tables) (capacity : ℕ) → ((k : ℕ) → k < l1_clusters t → IsOnce t capacity (1 + k)) → t.header.cluster_bits ≤ 21
    → t.header.l1_table_offset % cluster_size t ≡ 0 → t.file.size < 2 ^ 64 → 0 < t.header.l1_size → l1_at t t.header.l1_size ≤ 2 ^ 64
l1_low t capacity known small even fits some_entry =
    let full : 8 * t.header.l1_size ≤ l1_clusters t * cluster_size t = rounded (8 * t.header.l1_size) (cluster_size t) (pow_pos t.header.cluster_bits) in
    let some : 0 < l1_clusters t = some_row (8 * t.header.l1_size) (l1_clusters t) (cluster_size t) 0 full (omega (arith, some_entry)) in
    let k : ℕ = l1_clusters t - 1 in
    let once = known k (omega (arith, some)) in
    let is = item_l1_cluster t capacity k (omega (arith, some)) in
    let within : t.header.l1_table_offset + k * cluster_size t < t.file.size = inside t.file.size (item t capacity (1 + k)) _ once.fine (ap (λ (x : Item). x.name) is) in
    let end = last_end t.header.cluster_bits t.header.l1_table_offset (l1_clusters t) 64 some even (omega (arith, small)) (omega (arith, within, fits)) in
    omega (arith, end, full)

pub row_on : (t : Tables) (i k : ℕ) (row : List ℕ) → k / 64 ≡ i / 64 → HasRow t i row → HasRow t k row
row_on t i k row same has m e = has m (e ∙ same)

-- ---- the entries of one sector

module _ (work : Work) (file : File) (capacity i : ℕ) (after : Marks) (row : List ℕ) (fits : MarksFile work.marks (tables_of work file)) (known : L1SectorKnown (tables_of work file) capacity work.marks i row) where
  reached : (result : Result (Option Table) LayerFault) → PassesRow work.header i (row_end work.header i) row work.marks after result
      → ReachedRow (tables_of work file) capacity i (row_end work.header i) after result
  reached result passes =
      let t : Tables = tables_of work file in
      let low = l1_low t capacity (λ k lt. once_below t capacity (l1_position t i) (1 + k) work.marks known.tables.holds (omega (arith, lt))) work.high work.l1_aligned (small_file work file fits) (omega (arith, known.inside)) in
      passes.reaches file capacity known.inside low known.kept fits known.tables.holds

  pub row_faulted : (fault : LayerFault) → PassesRow work.header i (row_end work.header i) row work.marks after (Err fault) → StopKnown (tables_of work file) capacity after fault
  row_faulted fault passes = record {
    stops = stops_from (tables_of work file) capacity (before_mapping (tables_of work file)) (l1_position (tables_of work file) i) after fault (omega arith) (reached (Err fault) passes);
    blocks = known.tables.blocks;
  }

  pub row_ends : (end : ℕ) → end ≡ row_end work.header i → PassesRow work.header i (row_end work.header i) row work.marks after (Ok None) → L1Known (tables_of work file) capacity after end
  row_ends end is passes = record {
    tables = record { holds = subst (λ n. Holds (tables_of work file) capacity (l1_position (tables_of work file) n) after) (sym is) (reached (Ok None) passes); blocks = known.tables.blocks };
    whole = λ lt. whole work.header.l1_size (subst (λ n. n < work.header.l1_size) is lt) (sym is);
  }
    where
      whole : (size : ℕ) → min size (i / 64 * 64 + 64) < size → min size (i / 64 * 64 + 64) ≡ end → end % 64 ≡ 0
      whole size lt e = omega (arith, lt, e)

  pub row_tables : (table : Table) → PassesRow work.header i (row_end work.header i) row work.marks after (Ok (Some table))
      → EntriesKnown (tables_of work file) capacity after table.index table.place 0 row
  row_tables table passes =
      let t : Tables = tables_of work file in
      let found = reached (Ok (Some table)) passes in
      let within = passes.inside table refl in
      let both = min_below table.index work.header.l1_size (i / 64 * 64 + 64) within.1 in
      record {
        tables = record { holds = found.1; blocks = known.tables.blocks };
        inside = both.0;
        entry = found.0;
        whole = refl;
        few = let some = entries_some work.header.cluster_bits work.low in omega (arith, some);
        kept = row_on t i table.index row (omega (arith, within.0, both.1)) known.kept;
      }
