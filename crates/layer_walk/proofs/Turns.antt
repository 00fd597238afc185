-- The entries of the refcount table, passed one after the other.
use Rattle.std.proofs.Common.{◌≡◌, ◌⊎◌, inl, inr, ℕ, ◌+◌, ◌*◌, ◌/◌, ◌%◌, ◌^◌, ◌<◌, ◌≤◌, Bool, List, Option, Some, None, sym, ap, ◌∙◌, subst, arith}
use Rattle.std.specs.Int.{div_ceil}
use Rattle.std.proofs.lemmas.Bool.{cases_lt}
use Rattle.std.proofs.lemmas.Grind.{div_ceil_times}
use Rattle.std.proofs.Math.Nat.{mul-le-mul_right}
use Rattle.qcow_format.specs.Bytes.{number}
use Rattle.qcow_format.specs.declared.header.Header.{Header}
use Rattle.image_model.specs.Layer.{Tables, block_place, block_span}
use Rattle.layer_walk.specs.Bits.{room_of}
use Rattle.layer_walk.specs.Counting.{Counted, EndsRow, HasBlockRow, IsBehind, PassesRange, PassesRest, PassesRow, Scans, Turns, counts_in, table_entries}
use Rattle.layer_walk.specs.declared.count.Count.{Count}
use Rattle.layer_walk.specs.declared.count.Count.TheVariants.{Block, Row}
use Rattle.layer_walk.specs.declared.count.Spot.{Spot}
use Rattle.layer_walk.specs.declared.marks.Marks.{Marks}
use Rattle.layer_walk.proofs.Ranges.{keeps_both, keeps_same, maps_still}
use Rattle.layer_walk.proofs.Spans.{past_table, span_least, span_some}

-- ---- as many ranges as the map's clusters have

pub range_inside : (k room s : ℕ) → 0 < s → k < div_ceil room s → k * s < room
range_inside k room s pos lt =
    let times = div_ceil_times room s pos in
    let more : (k + 1) * s ≤ div_ceil room s * s = mul-le-mul_right s (omega (arith, lt)) in
    let width : (k + 1) * s ≡ k * s + s = omega arith in
    omega (arith, times.1, more, width)

pub range_past : (k room s : ℕ) → 0 < s → div_ceil room s ≤ k → room ≤ k * s
range_past k room s pos le =
    let times = div_ceil_times room s pos in
    let more : div_ceil room s * s ≤ k * s = mul-le-mul_right s le in
    omega (arith, times.0, more)

pub range_before : (k room s : ℕ) → 0 < s → k * s < room + s → k ≤ div_ceil room s
range_before k room s pos lt = go (cases_lt (div_ceil room s) k)
  where
    go : (div_ceil room s < k) ⊎ (k ≤ div_ceil room s) → k ≤ div_ceil room s
    go (inr le) = le
    go (inl less) =
        let times = div_ceil_times room s pos in
        let more : (div_ceil room s + 1) * s ≤ k * s = mul-le-mul_right s (omega (arith, less)) in
        let width : (div_ceil room s + 1) * s ≡ div_ceil room s * s + s = omega arith in
        absurd (omega (arith, times.0, more, width, lt))

-- past the map there is nothing more to count
pub counted_past : (t : Tables) (room : ℕ) (named : ℕ → Bool) (m : Marks) (a b : ℕ) → room ≤ a → room ≤ b → Counted t room named m a → Counted t room named m b
counted_past t room named m a b past past' counted = record {
  bits = record { below = λ c lt w. counted.bits.below c (omega (arith, w, past)) w; above = λ c le w. absurd (omega (arith, le, w, past')) };
  note = record {
    fine = λ e c lt w is. counted.note.fine e c (omega (arith, w, past)) w is;
    some = λ place e. let u = counted.note.some place e in record { cluster = u.cluster; below = omega (arith, u.inside, past'); inside = u.inside; is_named = u.is_named; none = u.none; at = u.at };
  };
}

-- ---- behind a row

module _ (header : Header) (k : ℕ) (before : Marks) (low : 12 ≤ header.cluster_bits) where
  pub turned_past : div_ceil (room_of before.free) (2 ^ header.cluster_bits / 2) ≤ k → Turns header k before before None
  turned_past le = record {
    keeps = keeps_same before;
    counts = λ file room named maps whole counted.
        let past = subst (λ n. n ≤ k * (2 ^ header.cluster_bits / 2)) maps.many (range_past k (room_of before.free) (2 ^ header.cluster_bits / 2) (span_some header.cluster_bits low) le) in
        counted_past (counts_in header file) room named before (k * block_span (counts_in header file)) room past (omega arith) counted;
    next = λ count e. absurd cc;
  }

  pub turned : k < div_ceil (room_of before.free) (2 ^ header.cluster_bits / 2) → k < header.refcount_table_clusters * (2 ^ header.cluster_bits / 8) → Turns header k before before (Some (Row k))
  turned lt within = record {
    keeps = keeps_same before;
    counts = λ file room named maps whole counted.
        let below = subst (λ n. k * (2 ^ header.cluster_bits / 2) < n) maps.many (range_inside k (room_of before.free) (2 ^ header.cluster_bits / 2) (span_some header.cluster_bits low) lt) in
        record { counted = counted; whole = whole within below; inside = within; below = below };
    next = λ count e. (row_is count e, within, lt);
  }
    where
      row_is : (count : Count) → ◌≡◌ {A = Option Count} (Some (Row k)) (Some count) → count ≡ Row k
      row_is count e = cc

pub rest_none : (header : Header) (k : ℕ) (m : Marks) → PassesRest header k k m m
rest_none header k m = record { keeps = keeps_same m; counts = λ file room named maps past counted. counted }

pub rest_more : (header : Header) (first k : ℕ) (a b c : Marks) → first ≤ k → PassesRest header first k a b → PassesRange header k b c → PassesRest header first (k + 1) a c
rest_more header first k a b c le p q = record {
  keeps = keeps_both a b c p.keeps q.keeps;
  counts = λ file room named maps past counted.
      q.counts file room named (maps_still (counts_in header file) room named a b p.keeps maps) (past_table (counts_in header file) k (omega (arith, le, past))) (p.counts file room named maps past counted);
}

pub turned_rest : (header : Header) (first k : ℕ) (a b : Marks) → 12 ≤ header.cluster_bits → header.refcount_table_clusters * (2 ^ header.cluster_bits / 8) ≤ first
    → div_ceil (room_of a.free) (2 ^ header.cluster_bits / 2) ≤ k → PassesRest header first k a b → Turns header first a b None
turned_rest header first k a b low past le p = record {
  keeps = p.keeps;
  counts = λ file room named maps whole counted.
      let all = subst (λ n. n ≤ k * (2 ^ header.cluster_bits / 2)) maps.many (range_past k (room_of a.free) (2 ^ header.cluster_bits / 2) (span_some header.cluster_bits low) le) in
      counted_past (counts_in header file) room named b (k * block_span (counts_in header file)) room all (omega arith) (p.counts file room named maps past counted);
  next = λ count e. absurd cc;
}

-- ---- a row

pub row_none : (header : Header) (k : ℕ) (row : List ℕ) (m : Marks) → PassesRow header k k row m m
row_none header k row m = record { keeps = keeps_same m; counts = λ file room named maps has counted. counted }

-- where a block is named, by a row that has its entry
pub row_place : (t : Tables) (first k : ℕ) (row : List ℕ) → HasBlockRow t first row → first ≤ k → k < first / 64 * 64 + 64 → k < table_entries t → block_place t k ≡ number 8 (8 * (k % 64)) row / 512 * 512
row_place t first k row has low high within = ap (λ n. n / 512 * 512) (sym (has k (omega (arith, low, high)) within))

pub row_more : (header : Header) (first k : ℕ) (row : List ℕ) (a b c : Marks) → first ≤ k → k < first / 64 * 64 + 64 → k < header.refcount_table_clusters * (2 ^ header.cluster_bits / 8)
    → number 8 (8 * (k % 64)) row / 512 * 512 ≡ 0 → PassesRow header first k row a b → PassesRange header k b c → PassesRow header first (k + 1) row a c
row_more header first k row a b c low high within none p q = record {
  keeps = keeps_both a b c p.keeps q.keeps;
  counts = λ file room named maps has counted.
      q.counts file room named (maps_still (counts_in header file) room named a b p.keeps maps) (row_place (counts_in header file) first k row has low high within ∙ none) (p.counts file room named maps has counted);
}

-- an entry that names a block
pub scanned : (header : Header) (first : ℕ) (row : List ℕ) (a b : Marks) (spot : Spot) → 12 ≤ header.cluster_bits → first ≤ spot.entry → spot.entry < first / 64 * 64 + 64
    → spot.entry < header.refcount_table_clusters * (2 ^ header.cluster_bits / 8) → spot.entry < div_ceil (room_of a.free) (2 ^ header.cluster_bits / 2)
    → spot.place ≡ number 8 (8 * (spot.entry % 64)) row / 512 * 512 → (spot.place ≡ 0 → ⊥) → spot.part ≡ 0 → spot.row ≡ row
    → PassesRow header first spot.entry row a b → Scans header first row a b (Some (Block spot))
scanned header first row a b spot low from upto within lt place some part same p = record {
  keeps = p.keeps;
  counts = λ file room named maps le below has counted.
      let t = counts_in header file in
      let inside = subst (λ n. spot.entry * (2 ^ header.cluster_bits / 2) < n) maps.many (range_inside spot.entry (room_of a.free) (2 ^ header.cluster_bits / 2) (span_some header.cluster_bits low) lt) in
      let here : spot.entry * block_span t + 256 * spot.part ≡ spot.entry * block_span t = at_start (spot.entry * block_span t) spot.part part in
      record {
        counted = subst (Counted t room named b) (sym here) (p.counts file room named maps has counted);
        inside = within;
        part = subst (λ n. 256 * n < block_span t) (sym part) (span_some header.cluster_bits low);
        below = subst (λ n. n < room) (sym here) inside;
        block = row_place t first spot.entry row has from upto within ∙ sym place;
        some = positive spot.place some;
        row = λ i near w. ap (number 8 (8 * (i % 64))) same ∙ has i (omega (arith, near, from, upto)) w;
      };
  next = λ count e. subst (IsBehind header first) (block_is count e) (from, omega (arith, from, upto), part, within);
}
  where
    at_start : (a p : ℕ) → p ≡ 0 → a + 256 * p ≡ a
    at_start a p e = omega (arith, e)

    positive : (n : ℕ) → (n ≡ 0 → ⊥) → 0 < n
    positive n some = omega (arith, some)

    block_is : (count : Count) → ◌≡◌ {A = Option Count} (Some (Block spot)) (Some count) → Block spot ≡ count
    block_is count e = cc

-- the row ends
pub scanned_row : (header : Header) (first k end : ℕ) (row : List ℕ) (a b c : Marks) (result : Option Count) → 12 ≤ header.cluster_bits
    → (first ≤ end → k ≡ end) → EndsRow header a first end → PassesRow header first k row a b → Turns header end b c result → Scans header first row a c result
scanned_row header first k end row a b c result low stops ends p q = record {
  keeps = keeps_both a b c p.keeps q.keeps;
  counts = λ file room named maps le below has counted.
      let t = counts_in header file in
      let many = maps.many in
      let before : first ≤ div_ceil (room_of a.free) (2 ^ header.cluster_bits / 2) =
      range_before first (room_of a.free) (2 ^ header.cluster_bits / 2) (span_some header.cluster_bits low) (subst (λ n. first * (2 ^ header.cluster_bits / 2) < n + 2 ^ header.cluster_bits / 2) (sym many) below) in
      let here : k ≡ end = stops (ends.ahead le before) in
      q.counts file room named (maps_still t room named a b p.keeps maps)
      (λ within inside. whole end first (ends.full within (range_of end (room_of a.free) (2 ^ header.cluster_bits / 2) (span_some header.cluster_bits low) (subst (λ n. end * (2 ^ header.cluster_bits / 2) < n) (sym many) inside))))
      (subst (λ n. Counted t room named b (n * block_span t)) here (p.counts file room named maps has counted));
  next = λ count e.
      let n = q.next count e in
      let at : end ≡ first / 64 * 64 + 64 = ends.full n.1 (subst (λ m. end < div_ceil m (2 ^ header.cluster_bits / 2)) p.keeps.room n.2) in
      subst (IsBehind header first) (sym n.0) (omega (arith, at), n.1);
}
  where
    whole : (end first : ℕ) → end ≡ first / 64 * 64 + 64 → end % 64 ≡ 0
    whole end first e = omega (arith, e)

    range_of : (k room s : ℕ) → 0 < s → k * s < room → k < div_ceil room s
    range_of k room s pos lt = go (cases_lt k (div_ceil room s))
      where
        go : (k < div_ceil room s) ⊎ (div_ceil room s ≤ k) → k < div_ceil room s
        go (inl less) = less
        go (inr more) = absurd (omega (arith, range_past k room s pos more, lt))

-- the numbers of ranges are small
few_of : (d s room : ℕ) → 2048 ≤ s → d * s < room + s → room ≤ 2 ^ 53 → d < 2 ^ 43
few_of d s room wide lt few = go (cases_lt d (2 ^ 43))
  where
    go : (d < 2 ^ 43) ⊎ (2 ^ 43 ≤ d) → d < 2 ^ 43
    go (inl less) = less
    go (inr more) =
        let least : 2 ^ 43 * s ≤ d * s = mul-le-mul_right s more in
        absurd (omega (arith, least, wide, lt, few))

pub few_ranges : (header : Header) (m : Marks) → 12 ≤ header.cluster_bits → div_ceil (room_of m.free) (2 ^ header.cluster_bits / 2) < 2 ^ 43
few_ranges header m low =
    few_of (div_ceil (room_of m.free) (2 ^ header.cluster_bits / 2)) (2 ^ header.cluster_bits / 2) (room_of m.free) (span_least header.cluster_bits low)
    (div_ceil_times (room_of m.free) (2 ^ header.cluster_bits / 2) (span_some header.cluster_bits low)).1 (omega (arith, m.free.few))
