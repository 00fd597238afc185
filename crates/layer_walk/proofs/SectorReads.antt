-- The entries that the sectors have which a walk wants.
use Rattle.std.proofs.Common.{◌≡◌, ℕ, ◌+◌, ◌*◌, ◌/◌, ◌%◌, ◌^◌, ◌<◌, ◌≤◌, Bool, true, List, Option, Some, refl, sym, ap, ◌∙◌, subst, arith, nat_lt}
use Rattle.std.specs.Prelude.{if◌then◌else◌}
use Rattle.std.proofs.lemmas.Bool.Decides.{nat_tests}
use Rattle.sd_names.specs.declared.fault.LayerFault.{LayerFault}
use Rattle.image_model.specs.File.{File, file_of}
use Rattle.image_model.specs.Layer.{Tables, block_at, entries}
use Rattle.layer_walk.specs.Bits.{room_of}
use Rattle.layer_walk.specs.Counting.{IsCounting, IsSector, Takes, wanted_place}
use Rattle.layer_walk.specs.Known.{CountsKnown, EntriesKnown, IsRead, L1Known, L1SectorKnown, RowKnown, SectorKnown, tables_of}
use Rattle.layer_walk.specs.Positions.{HasBlocks}
use Rattle.layer_walk.specs.Walking.{SectorOfTable}
use Rattle.layer_walk.specs.declared.count.Count.{Count}
use Rattle.layer_walk.specs.declared.marks.Marks.{Marks}
use Rattle.layer_walk.specs.declared.work.Work.{Work}
use Rattle.layer_walk.proofs.CountPlaces.{sector_numbers, wanted_whole}
use Rattle.layer_walk.proofs.L2Walks.{table_place}
use Rattle.layer_walk.proofs.Sizes.{by_sectors, row_within}

-- ---- the refcount table

has_blocks : (t : Tables) (k : ℕ) (row : List ℕ) → t.header.refcount_table_offset % 512 ≡ 0 → k % 64 ≡ 0 → k / 64 * 64 + 64 ≤ t.header.refcount_table_clusters * entries t
    → IsSector t.file (t.header.refcount_table_offset + 8 * k) row → HasBlocks t k row
has_blocks t k row even whole room has j same =
    let inner : nat_lt j (t.header.refcount_table_clusters * entries t) ≡ true = below j (t.header.refcount_table_clusters * entries t) (omega (arith, room, same)) in
    let here : (t.header.refcount_table_offset + 8 * k) / 8 + j % 64 ≡ block_at t j / 8 = omega (arith, even, whole, same) in
    has.words (j % 64) (omega arith) ∙ ap t.file.word here ∙ ap (λ (b : Bool). if b then t.file.word (block_at t j / 8) else 0) (sym inner)
  where
    below : (a b : ℕ) → a < b → nat_lt a b ≡ true
    below a b lt = grind (arith, nat_tests)

pub blocks_read : (work : Work) (capacity count k : ℕ) (sectors : ℕ → List ℕ) (sector : List ℕ) → IsRead count sectors (work.header.refcount_table_offset + 8 * k) sector
    → RowKnown (tables_of work (file_of count sectors)) capacity work.marks k → k < work.header.refcount_table_clusters * (2 ^ work.header.cluster_bits / 8)
    → SectorKnown (tables_of work (file_of count sectors)) capacity work.marks k sector
blocks_read work capacity count k sectors sector read known lt =
    let t : Tables = tables_of work (file_of count sectors) in
    let even = by_sectors work.header.cluster_bits work.header.refcount_table_offset work.low work.table_aligned in
    let room = row_within work.header.cluster_bits work.header.refcount_table_clusters k work.low lt in
    record {
      blocks = known.blocks;
      inside = lt;
      kept = has_blocks t k sector even known.whole room (sector_numbers count (work.header.refcount_table_offset + 8 * k) sectors sector (row_even work.header.refcount_table_offset k even known.whole) read);
    }
  where
    row_even : (o k : ℕ) → o % 512 ≡ 0 → k % 64 ≡ 0 → (o + 8 * k) % 512 ≡ 0
    row_even o k e f = omega (arith, e, f)

-- ---- the L1 table

pub l1_read : (work : Work) (capacity count i : ℕ) (sectors : ℕ → List ℕ) (sector : List ℕ) → IsRead count sectors (work.header.l1_table_offset + 8 * i) sector
    → L1Known (tables_of work (file_of count sectors)) capacity work.marks i → i < work.header.l1_size
    → L1SectorKnown (tables_of work (file_of count sectors)) capacity work.marks i sector
l1_read work capacity count i sectors sector read known lt =
    let t : Tables = tables_of work (file_of count sectors) in
    let even = by_sectors work.header.cluster_bits work.header.l1_table_offset work.low work.l1_aligned in
    let whole = known.whole lt in
    let has = sector_numbers count (work.header.l1_table_offset + 8 * i) sectors sector (row_even work.header.l1_table_offset i even whole) read in
    record {
      tables = known.tables;
      inside = lt;
      kept = λ k same. has.words (k % 64) (omega arith) ∙ ap t.file.word (entry work.header.l1_table_offset i k even whole same);
    }
  where
    row_even : (o k : ℕ) → o % 512 ≡ 0 → k % 64 ≡ 0 → (o + 8 * k) % 512 ≡ 0
    row_even o k e f = omega (arith, e, f)

    entry : (o i k : ℕ) → o % 512 ≡ 0 → i % 64 ≡ 0 → k / 64 ≡ i / 64 → (o + 8 * i) / 8 + k % 64 ≡ (o + 8 * k) / 8
    entry o i k e f same = omega (arith, e, f, same)

-- ---- L2 tables

pub table_read : (work : Work) (capacity count i table j : ℕ) (sectors : ℕ → List ℕ) (row sector : List ℕ) → IsRead count sectors (table + 8 * j) sector
    → EntriesKnown (tables_of work (file_of count sectors)) capacity work.marks i table j row → SectorOfTable (tables_of work (file_of count sectors)) capacity work.marks i table j row sector
table_read work capacity count i table j sectors row sector read known =
    let t : Tables = tables_of work (file_of count sectors) in
    let place = table_place t i table known.entry in
    let has = sector_numbers count (table + 8 * j) sectors sector (row_even table j place.1 known.whole) read in
    record { known = known; has = λ m lt. has.words m lt ∙ ap t.file.word (entry table j m place.1) }
  where
    row_even : (o k : ℕ) → o % 512 ≡ 0 → k % 64 ≡ 0 → (o + 8 * k) % 512 ≡ 0
    row_even o k e f = omega (arith, e, f)

    entry : (o j m : ℕ) → o % 512 ≡ 0 → (o + 8 * j) / 8 + m ≡ (o + 8 * (j + m)) / 8
    entry o j m e = omega (arith, e)

-- ---- counts

pub counts_read : (work : Work) (capacity count : ℕ) (sectors : ℕ → List ℕ) (fault : Option LayerFault) (next : Count) (after : Marks) (sector : List ℕ) (result : Option Count)
    → IsRead count sectors (wanted_place work.header next) sector → CountsKnown (tables_of work (file_of count sectors)) capacity work.marks fault (Some next)
    → Takes work.header next sector work.marks after result → CountsKnown (tables_of work (file_of count sectors)) capacity after fault result
counts_read work capacity count sectors fault next after sector result read known takes =
    let file : File = file_of count sectors in
    let t : Tables = tables_of work file in
    let even = by_sectors work.header.cluster_bits work.header.refcount_table_offset work.low work.table_aligned in
    let whole = wanted_whole work.header file (room_of work.marks.free) known.named work.marks next even known.counting in
    let has = sector_numbers count (wanted_place work.header next) sectors sector whole read in
    let counting = takes.counts file (room_of work.marks.free) known.named known.maps known.counting has in
    record {
      at = known.at;
      named = known.named;
      walked = known.walked;
      maps = record { size = takes.keeps.size ∙ known.maps.size; cluster = takes.keeps.cluster ∙ known.maps.cluster; many = refl; whole = after.whole; inside = known.maps.inside };
      counting = subst (λ room. IsCounting t room known.named after result) (sym takes.keeps.room) counting;
    }
