-- What the count of a cluster that is asked about tells.
use Rattle.std.proofs.Common.{◌≡◌, ◌⊎◌, inl, inr, ℕ, ◌+◌, ◌*◌, ◌/◌, ◌%◌, ◌^◌, ◌<◌, ◌≤◌, Bool, true, List, Option, Some, None, sym, ap, ◌∙◌, subst, arith, nat_lt, ne_eqb}
use Rattle.std.specs.Prelude.{◌==◌, if◌then◌else◌}
use Rattle.std.proofs.Math.Nat.{mul-mod_left}
use Rattle.std.proofs.lemmas.Bool.{cases_lt}
use Rattle.std.proofs.lemmas.Bool.Decides.{nat_tests}
use Rattle.sd_names.specs.declared.fault.LayerFault.{LayerFault}
use Rattle.sd_names.specs.declared.fault.LayerFault.TheVariants.{LowRefcount}
use Rattle.qcow_format.specs.Bytes.{number}
use Rattle.image_model.specs.File.{file_of}
use Rattle.image_model.specs.Layer.{Tables, block_place, block_span, block_word, cluster_size, count_of, entries}
use Rattle.image_model.specs.Soundness.{FirstFault, names, uncounted}
use Rattle.layer_walk.specs.Known.{BlocksKnown, EntryKnown, HeadKnown, IsRead, RowKnown, SectorKnown, tables_of}
use Rattle.layer_walk.specs.Marks.{MarksFile}
use Rattle.layer_walk.specs.Positions.{block_position, head_end}
use Rattle.layer_walk.specs.Walking.{IsNear, asked_place}
use Rattle.layer_walk.specs.declared.marks.Marks.{Marks}
use Rattle.layer_walk.specs.declared.work.Work.{Work}
use Rattle.layer_walk.proofs.Ends.{small_file}
use Rattle.layer_walk.proofs.Numbers.{asked_half, asked_word}
use Rattle.layer_walk.proofs.Sizes.{by_sectors, row_within}
use Rattle.layer_walk.proofs.Spans.{past_table}

-- ---- it is 0

pub head_low : (t : Tables) (capacity n end place : ℕ) (fault : LayerFault) → HeadKnown t capacity n end fault → n < end → names t capacity n ≡ Some place
    → count_of t (place / cluster_size t) ≡ 0 → FirstFault t capacity (LowRefcount place)
head_low t capacity n end place fault known lt is none =
    let once = known.once n (omega (arith, lt, known.low)) in
    record {
      at = n;
      here = uncounted once.fine is (once.once place is) none;
      before = λ m less.
          let before = known.once m (omega (arith, less, lt, known.low)) in
          record { fine = before.fine; once = before.once; counted = λ p e. known.counted m p (omega (arith, less, lt, known.low)) (inl less) e };
    }

pub entry_low : (t : Tables) (capacity : ℕ) (m : Marks) (place k : ℕ) (row : List ℕ) → EntryKnown t capacity m place k row → count_of t (place / cluster_size t) ≡ 0
    → HeadKnown t capacity 0 (head_end t) (LowRefcount place)
entry_low t capacity m place k row known none =
    let once = known.checked.once (block_position t k) (omega arith) in
    record {
      at = block_position t k;
      once = λ n lt. known.checked.once n (omega (arith, lt));
      here = uncounted once.fine known.name (once.once place known.name) none;
      low = omega arith;
      head = omega arith;
      counted = λ n p lt which is. go n p lt which is;
    }
  where
    go : (n p : ℕ) → n < block_position t k → (n < 0) ⊎ (head_end t ≤ n) → names t capacity n ≡ Some p → 0 < count_of t (p / cluster_size t)
    go n p lt (inl zero) is = absurd (omega (arith, zero))
    go n p lt (inr past) is = known.counted n p past lt is

-- ---- it is above 0

same_place : (p q : ℕ) (o : Option ℕ) → o ≡ Some p → o ≡ Some q → p ≡ q
same_place p q o e f = cc

pub head_more : (t : Tables) (capacity n end place : ℕ) (fault : LayerFault) → HeadKnown t capacity n end fault → names t capacity n ≡ Some place
    → 0 < count_of t (place / cluster_size t) → HeadKnown t capacity (n + 1) end fault
head_more t capacity n end place fault known is some = record {
  at = known.at;
  once = known.once;
  here = known.here;
  low = known.low;
  head = known.head;
  counted = λ m p lt which e. go m p lt which e (cases_lt m n);
}
  where
    go : (m p : ℕ) → m < known.at → (m < n + 1) ⊎ (end ≤ m) → names t capacity m ≡ Some p → (m < n) ⊎ (n ≤ m) → 0 < count_of t (p / cluster_size t)
    go m p lt (inr past) e rest = known.counted m p lt (inr past) e
    go m p lt (inl below) e (inl less) = known.counted m p lt (inl less) e
    go m p lt (inl below) e (inr more) =
        let same : n ≡ m = omega (arith, below, more) in
        let equal = same_place place p (names t capacity m) (ap (names t capacity) (sym same) ∙ is) e in
        subst (λ x. 0 < count_of t (x / cluster_size t)) equal some

entry_on : (t : Tables) (capacity : ℕ) (m : Marks) (place k : ℕ) (row : List ℕ) → EntryKnown t capacity m place k row → 0 < count_of t (place / cluster_size t)
    → BlocksKnown t capacity m (k + 1)
entry_on t capacity m place k row known some = record {
  naming = known.naming;
  checked = known.checked;
  counted = λ n p low lt is. go n p low lt is (cases_lt n (block_position t k));
}
  where
    go : (n p : ℕ) → head_end t ≤ n → n < block_position t (k + 1) → names t capacity n ≡ Some p → (n < block_position t k) ⊎ (block_position t k ≤ n) → 0 < count_of t (p / cluster_size t)
    go n p low lt is (inl less) = known.counted n p low less is
    go n p low lt is (inr more) =
        let same : block_position t k ≡ n = omega (arith, lt, more) in
        let equal = same_place place p (names t capacity n) (ap (names t capacity) (sym same) ∙ known.name) is in
        subst (λ x. 0 < count_of t (x / cluster_size t)) equal some

pub entry_turns : (t : Tables) (capacity : ℕ) (m : Marks) (place k : ℕ) (row : List ℕ) → EntryKnown t capacity m place k row → 0 < count_of t (place / cluster_size t)
    → (k + 1) % 64 ≡ 0 → RowKnown t capacity m (k + 1)
entry_turns t capacity m place k row known some whole = record { blocks = entry_on t capacity m place k row known some; whole = whole; within = omega (arith, known.inside) }

pub entry_next : (t : Tables) (capacity : ℕ) (m : Marks) (place k : ℕ) (row : List ℕ) → 12 ≤ t.header.cluster_bits → EntryKnown t capacity m place k row
    → 0 < count_of t (place / cluster_size t) → 0 < (k + 1) % 64 → SectorKnown t capacity m (k + 1) row
entry_next t capacity m place k row low known some inner =
    let room = row_within t.header.cluster_bits t.header.refcount_table_clusters k low known.inside in
    let same : (k + 1) / 64 ≡ k / 64 = omega (arith, inner) in
    record {
      blocks = entry_on t capacity m place k row known some;
      inside = omega (arith, room, inner);
      kept = λ j e. known.kept j (e ∙ same);
    }

-- ---- where it stands

small_count : (work : Work) (count : ℕ) (sectors : ℕ → List ℕ) → MarksFile work.marks (tables_of work (file_of count sectors)) → 512 * count < 2 ^ 64
unfolding file_of
small_count work count sectors fits = small_file work (file_of count sectors) fits

-- past the refcount table there is no block, and without a block the count is 0
count_none : (t : Tables) (c : ℕ) → block_place t (c / block_span t) ≡ 0 → count_of t c ≡ 0
count_none t c none = ap (λ (p : ℕ). if p == 0 then 0 else t.file.half (p / 2 + c % block_span t)) none

pub count_past : (t : Tables) (c : ℕ) → t.header.refcount_table_clusters * entries t ≤ c / block_span t → count_of t c ≡ 0
count_past t c past = count_none t c (past_table t (c / block_span t) past)

-- in a block it is this number
count_in : (t : Tables) (c block : ℕ) → block_place t (c / block_span t) ≡ block → 0 < block → count_of t c ≡ t.file.half (block / 2 + c % block_span t)
count_in t c block is some =
    ap (λ (p : ℕ). if p == 0 then 0 else t.file.half (p / 2 + c % block_span t)) is
    ∙ ap (λ (b : Bool). if b then 0 else t.file.half (block / 2 + c % block_span t)) (ne_eqb block 0 (λ e. omega (arith, some, e)))

module _ (work : Work) (count place : ℕ) (sectors : ℕ → List ℕ) (sector : List ℕ) (fits : MarksFile work.marks (tables_of work (file_of count sectors))) where
  abbrev t : Tables
  t = tables_of work (file_of count sectors)

  -- the entry of the refcount table
  pub asked_block : (at k : ℕ) → k ≡ place / 2 ^ work.header.cluster_bits / (2 ^ work.header.cluster_bits / 2) → k < work.header.refcount_table_clusters * (2 ^ work.header.cluster_bits / 8)
      → IsNear (asked_place work.header place None) at → IsRead count sectors (asked_place work.header place None) sector
      → block_place t (place / cluster_size t / block_span t) ≡ number 8 (8 * (at % 512 / 8)) sector / 512 * 512
  asked_block at k is lt near read =
      let whole = by_sectors work.header.cluster_bits work.header.refcount_table_offset work.low work.table_aligned in
      let word = asked_word count (asked_place work.header place None) at sectors sector (small_count work count sectors fits) near read (even work.header.refcount_table_offset (place / 2 ^ work.header.cluster_bits / (2 ^ work.header.cluster_bits / 2)) whole) in
      in_table (place / cluster_size t / block_span t) (subst (λ n. n < work.header.refcount_table_clusters * entries t) is lt) ∙ ap (λ n. n / 512 * 512) word
    where
      even : (base k : ℕ) → base % 512 ≡ 0 → (base + 8 * k) % 8 ≡ 0
      even base k e = omega (arith, e)

      below : (a b : ℕ) → a < b → nat_lt a b ≡ true
      below a b lt = grind (arith, nat_tests)

      in_table : (k : ℕ) → k < t.header.refcount_table_clusters * entries t → block_place t k ≡ t.file.word ((t.header.refcount_table_offset + 8 * k) / 8) / 512 * 512
      in_table k lt = ap (λ (b : Bool). (if b then t.file.word ((t.header.refcount_table_offset + 8 * k) / 8) else 0) / 512 * 512) (below k (t.header.refcount_table_clusters * entries t) lt)

  pub asked_none : block_place t (place / cluster_size t / block_span t) ≡ 0 → count_of t (place / cluster_size t) ≡ 0
  asked_none none = count_none t (place / cluster_size t) none

  -- the count
  pub asked_count : (at block : ℕ) → block_place t (place / cluster_size t / block_span t) ≡ block → 0 < block
      → IsNear (asked_place work.header place (Some block)) at → IsRead count sectors (asked_place work.header place (Some block)) sector
      → count_of t (place / cluster_size t) ≡ number 2 (at % 512 / 2 * 2) sector
  asked_count at block is some near read =
      let whole : block % 512 ≡ 0 = subst (λ n. n % 512 ≡ 0) is (mul-mod_left (block_word t (place / cluster_size t / block_span t) / 512) 512) in
      let half = asked_half count (asked_place work.header place (Some block)) at sectors sector (small_count work count sectors fits) near read (even block (place / cluster_size t % block_span t) whole) in
      count_in t (place / cluster_size t) block is some ∙ ap t.file.half (halves block (place / cluster_size t % block_span t) whole) ∙ half
    where
      even : (base k : ℕ) → base % 512 ≡ 0 → (base + 2 * k) % 2 ≡ 0
      even base k e = omega (arith, e)

      halves : (base k : ℕ) → base % 512 ≡ 0 → base / 2 + k ≡ (base + 2 * k) / 2
      halves base k e = omega (arith, e)
