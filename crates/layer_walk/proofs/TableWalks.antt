-- The walk over the refcount table.
use Rattle.std.proofs.Common.{◌≡◌, ◌⊎◌, inl, inr, ℕ, ◌+◌, ◌-◌, ◌*◌, ◌/◌, ◌%◌, ◌^◌, ◌<◌, ◌≤◌, Bool, List, Option, Some, None, Result, Ok, Err, refl, sym, ap, ◌∙◌, subst, arith}
use Rattle.std.proofs.lemmas.Bool.{cases_lt}
use Rattle.sd_names.specs.declared.fault.LayerFault.{LayerFault}
use Rattle.image_model.specs.File.{File}
use Rattle.image_model.specs.Layer.{Tables, cluster_size, count_of, entries, l1_clusters}
use Rattle.image_model.specs.Soundness.{Item, item, names}
use Rattle.layer_walk.specs.Checked.{Checked}
use Rattle.layer_walk.specs.Known.{EntryKnown, HeadKnown, L1Known, RowKnown, SectorKnown, tables_of}
use Rattle.layer_walk.specs.Marks.{MarksFile, used_by}
use Rattle.layer_walk.specs.Positions.{Counted, Holds, HoldsBy, PassesBlocks, ReachedBlocks, StopsBy, block_position, head_end, l1_position}
use Rattle.layer_walk.specs.declared.marks.Marks.{Marks}
use Rattle.layer_walk.specs.declared.walk.Block.{Block}
use Rattle.layer_walk.specs.declared.work.Work.{Work}
use Rattle.layer_walk.proofs.Admit.{inside}
use Rattle.layer_walk.proofs.Ends.{small_file}
use Rattle.layer_walk.proofs.Places.{item_header, item_l1_cluster, item_table_cluster}
use Rattle.layer_walk.proofs.Sizes.{last_end, row_low, row_within, some_clusters}

pub of_naming : (t : Tables) (capacity n : ℕ) (m : Marks) → m.noted ≡ None → Checked t capacity n (used_by m) → Holds t capacity n m
of_naming t capacity n m mode known = subst (λ o. HoldsBy o t capacity n m) (sym mode) known

pub to_naming : (t : Tables) (capacity n : ℕ) (m : Marks) → m.noted ≡ None → Holds t capacity n m → Checked t capacity n (used_by m)
to_naming t capacity n m mode known = subst (λ o. HoldsBy o t capacity n m) mode known

-- what the header names has a name
pub head_named : (t : Tables) (capacity n : ℕ) → n < head_end t → names t capacity n ≡ None → ⊥
head_named t capacity n lt none = go (cases_lt n 1) (cases_lt n (1 + l1_clusters t))
  where
    other : (n m place : ℕ) → m ≡ n → names t capacity m ≡ Some place → names t capacity n ≡ None → ⊥
    other n m place e f g = let h : names t capacity n ≡ Some place = ap (names t capacity) (sym e) ∙ f in cc

    go : (n < 1) ⊎ (1 ≤ n) → (n < 1 + l1_clusters t) ⊎ (1 + l1_clusters t ≤ n) → ⊥
    go (inl zero) rest = other n 0 0 (omega (arith, zero)) (ap (λ (x : Item). x.name) (item_header t capacity)) none
    go (inr some) (inl less) =
        other n (1 + (n - 1)) _ (omega (arith, some)) (ap (λ (x : Item). x.name) (item_l1_cluster t capacity (n - 1) (omega (arith, some, less)))) none
    go (inr some) (inr more) =
        other n (1 + l1_clusters t + (n - 1 - l1_clusters t)) _ (omega (arith, more)) (ap (λ (x : Item). x.name) (item_table_cluster t capacity (n - 1 - l1_clusters t) (omega (arith, more, lt)))) none

-- ---- where the table ends

pub table_end : (t : Tables) (capacity n : ℕ) (used : ℕ → Bool) → Checked t capacity n used → head_end t ≤ n
    → t.header.cluster_bits ≤ 21 → t.header.refcount_table_offset % cluster_size t ≡ 0 → t.file.size < 2 ^ 64 → 0 < t.header.refcount_table_clusters
    → t.header.refcount_table_offset + t.header.refcount_table_clusters * cluster_size t ≤ 2 ^ 64
table_end t capacity n used known past small even fits some =
    let k : ℕ = t.header.refcount_table_clusters - 1 in
    let m : ℕ = 1 + l1_clusters t + k in
    let once = known.once m (omega (arith, past, some)) in
    let is = item_table_cluster t capacity k (omega (arith, some)) in
    let within : t.header.refcount_table_offset + k * cluster_size t < t.file.size = inside t.file.size (item t capacity m) _ once.fine (ap (λ (x : Item). x.name) is) in
    last_end t.header.cluster_bits t.header.refcount_table_offset t.header.refcount_table_clusters 64 some even (omega (arith, small)) (omega (arith, within, fits))

-- ---- behind it

pub entries_end : (t : Tables) (capacity k : ℕ) (m : Marks) → t.header.refcount_table_clusters * entries t ≤ k → RowKnown t capacity m k → L1Known t capacity m 0
entries_end t capacity k m past known = record {
  tables = record {
    holds = of_naming t capacity (l1_position t 0) m known.blocks.naming (subst (λ n. Checked t capacity n (used_by m)) (all (l1_clusters t) t.header.refcount_table_clusters (entries t) k past known.within) known.blocks.checked);
    blocks = subst (Counted t capacity) (before (l1_clusters t) t.header.refcount_table_clusters (entries t) k past known.within) known.blocks.counted;
  };
  whole = λ lt. refl;
}
  where
    before : (a r e k : ℕ) → r * e ≤ k → k ≤ r * e → 1 + a + r + k ≡ 1 + a + r * (1 + e)
    before a r e k low high = let split : r * (1 + e) ≡ r + r * e = omega arith in omega (arith, low, high, split)

    all : (a r e k : ℕ) → r * e ≤ k → k ≤ r * e → 1 + a + r + k ≡ 1 + a + r * (1 + e) + 0 * (1 + e)
    all a r e k low high = before a r e k low high ∙ omega arith

-- ---- the entries of one sector

module _ (work : Work) (file : File) (capacity k : ℕ) (after : Marks) (row : List ℕ) (fits : MarksFile work.marks (tables_of work file)) (known : SectorKnown (tables_of work file) capacity work.marks k row) where
  reached : (result : Result (Option Block) LayerFault) → PassesBlocks work.header k (k / 64 * 64 + 64) row work.marks after result
      → ReachedBlocks (tables_of work file) capacity (k / 64 * 64 + 64) after result
  reached result passes =
      let t : Tables = tables_of work file in
      let here = known.blocks.checked in
      let some = some_clusters t.header.refcount_table_clusters (entries t) k known.inside in
      let end = table_end t capacity (block_position t k) (used_by work.marks) here (omega arith) work.high work.table_aligned (small_file work file fits) some in
      let room = row_within work.header.cluster_bits work.header.refcount_table_clusters k work.low known.inside in
      passes.reaches file capacity room (row_low work.header.cluster_bits work.header.refcount_table_offset work.header.refcount_table_clusters (k / 64 * 64 + 64) work.low end room)
      known.kept fits (of_naming t capacity (block_position t k) work.marks known.blocks.naming here) known.blocks.counted

  pub blocks_faulted : (fault : LayerFault) → PassesBlocks work.header k (k / 64 * 64 + 64) row work.marks after (Err fault)
      → HeadKnown (tables_of work file) capacity 0 (head_end (tables_of work file)) fault
  blocks_faulted fault passes =
      let t : Tables = tables_of work file in
      let found = reached (Err fault) passes in
      let stop = subst (λ o. StopsBy o t capacity found.0 after fault) (passes.keeps.noted ∙ known.blocks.naming) found.2 in
      record {
        at = found.0;
        once = stop.checked.once;
        here = stop.here;
        low = found.1;
        head = omega arith;
        counted = λ m place lt which is. go m place lt which is found.3;
      }
    where
      go : {at : ℕ} → (m place : ℕ) → m < at → (m < 0) ⊎ (head_end (tables_of work file) ≤ m) → names (tables_of work file) capacity m ≡ Some place → Counted (tables_of work file) capacity at
          → 0 < count_of (tables_of work file) (place / cluster_size (tables_of work file))
      go m place lt (inl none) is counted = absurd (omega (arith, none))
      go m place lt (inr past) is counted = counted m place past lt is

  pub blocks_none : PassesBlocks work.header k (k / 64 * 64 + 64) row work.marks after (Ok None) → RowKnown (tables_of work file) capacity after (k / 64 * 64 + 64)
  blocks_none passes =
      let t : Tables = tables_of work file in
      let mode : after.noted ≡ None = passes.keeps.noted ∙ known.blocks.naming in
      let found = reached (Ok None) passes in
      record {
        blocks = record { naming = mode; checked = to_naming t capacity (block_position t (k / 64 * 64 + 64)) after mode found.0; counted = found.1 };
        whole = omega arith;
        within = row_within work.header.cluster_bits work.header.refcount_table_clusters k work.low known.inside;
      }

  pub blocks_found : (block : Block) → PassesBlocks work.header k (k / 64 * 64 + 64) row work.marks after (Ok (Some block))
      → EntryKnown (tables_of work file) capacity after block.place block.index row
  blocks_found block passes =
      let t : Tables = tables_of work file in
      let mode : after.noted ≡ None = passes.keeps.noted ∙ known.blocks.naming in
      let found = reached (Ok (Some block)) passes in
      let within = passes.inside block refl in
      let room = row_within work.header.cluster_bits work.header.refcount_table_clusters k work.low known.inside in
      let same : block.index / 64 ≡ k / 64 = omega (arith, within.0, within.1) in
      record {
        naming = mode;
        checked = to_naming t capacity (block_position t (block.index + 1)) after mode found.0;
        counted = found.1;
        name = found.2;
        inside = omega (arith, within.1, room);
        kept = λ j e. known.kept j (e ∙ same);
      }
