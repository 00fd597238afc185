-- The walk over an L2 table.
use Rattle.std.proofs.Common.{◌≡◌, ℕ, ◌+◌, ◌*◌, ◌/◌, ◌%◌, ◌^◌, ◌<◌, ◌≤◌, Bool, true, false, not, List, Option, Some, None, Ok, Err, subst, arith}
use Rattle.std.specs.Prelude.{◌==◌, ◌&&◌, if◌then◌else◌}
use Rattle.std.proofs.Math.Nat.{mod-lt}
use Rattle.sd_names.specs.declared.fault.LayerFault.{LayerFault}
use Rattle.sd_names.specs.declared.fault.LayerFault.TheVariants.{MixedBits}
use Rattle.qcow_format.specs.Entry.{bits_between, offset_in, table_in}
use Rattle.image_model.specs.File.{File}
use Rattle.image_model.specs.Layer.{Tables, entries, l1_at}
use Rattle.image_model.specs.Soundness.{before_mapping}
use Rattle.layer_walk.specs.Known.{EntriesKnown, StopKnown, TableKnown, tables_of}
use Rattle.layer_walk.specs.Marks.{MarksFile}
use Rattle.layer_walk.specs.Positions.{Holds, PassesEntries, Reached, l2_position}
use Rattle.layer_walk.specs.Walking.{SectorOfTable}
use Rattle.layer_walk.specs.declared.marks.Marks.{Marks}
use Rattle.layer_walk.specs.declared.work.Work.{Work}
use Rattle.layer_walk.proofs.Passing.{stops_from}
use Rattle.layer_walk.proofs.Sizes.{entries_few, rows_left}

-- ---- the place of a table

pub placed_by : (word at table : ℕ) → table_in word at ≡ Ok (Some table) → offset_in word ≡ table
placed_by word at table = go (not (bits_between 0 9 word == 0 && bits_between 56 63 word == 0)) (offset_in word == 0)
  where
    go : (a b : Bool) → (if a then Err (MixedBits at) else (if b then Ok None else Ok (Some (offset_in word)))) ≡ Ok (Some table) → offset_in word ≡ table
    go true b e = absurd cc
    go false true e = absurd cc
    go false false e = cc

pub offset_small : (word : ℕ) → offset_in word < 2 ^ 56
offset_small word = let e : word / 2 ^ 9 % 2 ^ 47 < 2 ^ 47 = mod-lt (word / 2 ^ 9) (omega arith) in omega (arith, e)

pub offset_even : (word : ℕ) → offset_in word % 512 ≡ 0
offset_even word = omega arith

pub table_place : (t : Tables) (i table : ℕ) → table_in (t.file.word (l1_at t i / 8)) (l1_at t i) ≡ Ok (Some table) → (table < 2 ^ 56) × (table % 512 ≡ 0)
table_place t i table named =
    let word : ℕ = t.file.word (l1_at t i / 8) in
    let is : offset_in word ≡ table = placed_by word (l1_at t i) table named in
    (subst (λ n. n < 2 ^ 56) is (offset_small word), subst (λ n. n % 512 ≡ 0) is (offset_even word))

-- ---- 64 entries

module _ (work : Work) (file : File) (capacity i table j : ℕ) (after : Marks) (row sector : List ℕ) (fits : MarksFile work.marks (tables_of work file))
    (known : SectorOfTable (tables_of work file) capacity work.marks i table j row sector) where
  reached : (result : Option LayerFault) → PassesEntries work.header capacity i table j 64 sector work.marks after result
      → Reached (tables_of work file) capacity (l2_position (tables_of work file) i j) (l2_position (tables_of work file) i (j + 64)) after result
  reached result passes =
      let t : Tables = tables_of work file in
      let here = known.known in
      let place = table_place t i table here.entry in
      let room = rows_left work.header.cluster_bits j work.low here.whole here.few in
      let wide = entries_few work.header.cluster_bits work.high in
      passes.reaches file here.inside room (omega (arith, place.0, room, wide)) here.entry known.has fits here.tables.holds

  pub entries_faulted : (fault : LayerFault) → PassesEntries work.header capacity i table j 64 sector work.marks after (Some fault) → StopKnown (tables_of work file) capacity after fault
  entries_faulted fault passes = record {
    stops = stops_from (tables_of work file) capacity (before_mapping (tables_of work file)) (l2_position (tables_of work file) i j) after fault (omega arith) (reached (Some fault) passes);
    blocks = known.known.tables.blocks;
  }

  pub entries_last : PassesEntries work.header capacity i table j 64 sector work.marks after None → 2 ^ work.header.cluster_bits / 8 ≤ j + 64 → TableKnown (tables_of work file) capacity after i row
  entries_last passes past = record {
    tables = record {
      holds = subst (λ n. Holds (tables_of work file) capacity n after)
          (behind (before_mapping (tables_of work file)) i (entries (tables_of work file)) (j + 64) past (rows_left work.header.cluster_bits j work.low known.known.whole known.known.few)) (reached None passes);
      blocks = known.known.tables.blocks;
    };
    inside = known.known.inside;
    kept = known.known.kept;
  }
    where
      behind : (base i e j : ℕ) → e ≤ j → j ≤ e → base + i * (1 + e) + 1 + j ≡ base + (i + 1) * (1 + e)
      behind base i e j low high = let f : (i + 1) * (1 + e) ≡ i * (1 + e) + (1 + e) = omega arith in omega (arith, low, high, f)

  pub entries_more : PassesEntries work.header capacity i table j 64 sector work.marks after None → j + 64 < 2 ^ work.header.cluster_bits / 8 → EntriesKnown (tables_of work file) capacity after i table (j + 64) row
  entries_more passes less = record {
    tables = record { holds = reached None passes; blocks = known.known.tables.blocks };
    inside = known.known.inside;
    entry = known.known.entry;
    whole = next_even j known.known.whole;
    few = less;
    kept = known.known.kept;
  }
    where
      next_even : (j : ℕ) → j % 64 ≡ 0 → (j + 64) % 64 ≡ 0
      next_even j even = omega (arith, even)
