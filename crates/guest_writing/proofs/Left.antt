-- Fewer steps are left behind each step of a write.
use Rattle.std.specs.Prelude.{◌≡◌, ℕ, zero, suc, ◌+◌, ◌-◌, ◌*◌, ◌/◌, ◌^◌, ◌<◌, ◌≤◌, ◌⊎◌, min, List, [], ◌∷◌, drop, length, slice_get, slice_set, Option, Some, None}
use Rattle.std.specs.Int.{div_ceil}
use Rattle.std.proofs.Common.{arith, refl, inl, inr, sym, ap, ◌∙◌, subst}
use Rattle.std.proofs.Math.Nat.{mul-le-mul_right}
use Rattle.std.proofs.lemmas.Bool.{cases_lt}
use Rattle.std.proofs.lemmas.Grind.{div_ceil_times}
use Rattle.std.proofs.lemmas.Nat.{div_below}
use Rattle.sd_names.specs.declared.id.Id.{Id}
use Rattle.qcow_format.specs.declared.entry.Entry.{Entry}
use Rattle.qcow_format.specs.declared.entry.Entry.TheVariants.{Absent, Zero, Data}
use Rattle.qcow_layer.specs.Opening.{header_kept}
use Rattle.qcow_layer.specs.declared.layer.Layer.{Layer}
use Rattle.layer_linking.specs.Calls.{pieces}
use Rattle.layer_linking.proofs.Sizes.{narrow, wide}
use Rattle.layer_placing.specs.Stages.{pieces_of}
use Rattle.volume_chain.specs.Chain.{open_in, path_in}
use Rattle.volume_chain.specs.LendingChain.{with_layer_at}
use Rattle.volume_chain.specs.declared.chain.Chain.{Chain}
use Rattle.volume_chain.specs.declared.volumes.OpenVolume.{OpenVolume}
use Rattle.volume_chain.specs.declared.volumes.OpenVolume.TheVariants.{Raw, Cow}
use Rattle.chain_reading.specs.Asked.{asked_of}
use Rattle.chain_reading.specs.Knowing.{place_on}
use Rattle.chain_reading.specs.Left.{path_steps, steps_from, volume_steps}
use Rattle.cluster_filling.specs.Cluster.{source_on}
use Rattle.cluster_filling.specs.Left.{many, read_steps}
use Rattle.write_planning.specs.Linked.{place_at, sectors_of}
use Rattle.write_planning.specs.Plan.{found_at}
use Rattle.write_planning.specs.Span.{at_of, count_of, first_of, length_of, width_of}
use Rattle.write_planning.specs.declared.span.Span.{Span}
use Rattle.write_planning.proofs.Meeting.{few_met}
use Rattle.write_preparing.specs.Placed.{clusters_of, plan_of}
use Rattle.write_preparing.specs.Preparing as prepared
use Rattle.write_preparing.specs.Preparing.{planned_in, preparing_left}
use Rattle.write_preparing.specs.declared.placed.Placed.{Placed}
use Rattle.write_preparing.specs.declared.preparing.Preparing as preparings
use Rattle.write_filling.specs.Filling as filled
use Rattle.write_filling.specs.Filling.{placed_of}
use Rattle.write_filling.specs.Left.{cluster_left, clusters_left, fillings_left, pieces_left, placed_left}
use Rattle.write_filling.specs.Said.{entry_found}
use Rattle.write_filling.specs.declared.fillings.Fillings.{Fillings}
use Rattle.write_linking.specs.Linking as linked
use Rattle.write_linking.specs.Linking.{linking_left}
use Rattle.write_linking.specs.declared.linking.WriteLinking.{WriteLinking}
use Rattle.guest_laws.proofs.Paths.{set_here}
use Rattle.guest_steps.specs.Preparing.{IsLent}
use Rattle.guest_writing.specs.Left.{begins_at, begins_by, clusters_read, filling_begins, layer_begins, linking_begins, linking_by, pieces_at, pieces_by, pieces_read, span_for, stage_left}
use Rattle.guest_writing.specs.declared.stage.Stage.TheVariants.{Preparing, Filling, Linking}

-- ---- a filling by its clusters

-- nothing is read where there is no volume
none_read : (c : Chain) (below : Option Id) (first count n done : ℕ) → pieces_read c None first count n done ≤ pieces_read c below first count n done
none_read c below first count zero done = omega arith
none_read c below first count (suc n) done = let rest = none_read c below first count n (done + 128) in omega (arith, rest)

-- a piece takes two steps beside its read
pieces_short : (c : Chain) (below : Option Id) (first count n done : ℕ) → pieces_left c below first count n done ≤ 2 * n + pieces_read c below first count n done
pieces_short c below first count zero done = omega arith
pieces_short c below first count (suc n) done = let rest = pieces_short c below first count n (done + 128) in omega (arith, rest)

-- a cluster reads the next volume of the path, or none
source_short : (c : Chain) (index : ℕ) (placed : Placed) (j number sectors : ℕ) → pieces_read c (source_on (path_in c) index (entry_found (found_at (plan_of placed) j))) (number * sectors) sectors (many sectors) 0
    ≤ pieces_read c (slice_get (path_in c) (index + 1)) (number * sectors) sectors (many sectors) 0
source_short c index placed j number sectors = by (entry_found (found_at (plan_of placed) j))
  where
    by : (e : Entry) → pieces_read c (source_on (path_in c) index e) (number * sectors) sectors (many sectors) 0 ≤ pieces_read c (slice_get (path_in c) (index + 1)) (number * sectors) sectors (many sectors) 0
    by Absent = omega arith
    by (Zero place) = none_read c (slice_get (path_in c) (index + 1)) (number * sectors) sectors (many sectors) 0
    by (Data place) = none_read c (slice_get (path_in c) (index + 1)) (number * sectors) sectors (many sectors) 0

cluster_short : (c : Chain) (index : ℕ) (placed : Placed) (j : ℕ) → cluster_left c index placed j
    ≤ 2 * many (width_of (span_for placed) / 512) + pieces_read c (slice_get (path_in c) (index + 1)) ((first_of (span_for placed) + j) * (width_of (span_for placed) / 512)) (width_of (span_for placed) / 512) (many (width_of (span_for placed) / 512)) 0
cluster_short c index placed j = by (place_at (plan_of placed) (clusters_of placed) j)
  where
    S : ℕ
    S = width_of (span_for placed) / 512

    N : ℕ
    N = first_of (span_for placed) + j

    source : Option Id
    source = source_on (path_in c) index (entry_found (found_at (plan_of placed) j))

    by : (place : Option ℕ) → placed_left c source N S place ≤ 2 * many S + pieces_read c (slice_get (path_in c) (index + 1)) (N * S) S (many S) 0
    by None = omega arith
    by (Some place) =
        let one = pieces_short c source (N * S) S (many S) 0 in
        let two = source_short c index placed j N S in
        omega (arith, one, two)

clusters_short : (c : Chain) (index : ℕ) (placed : Placed) (n j : ℕ)
    → clusters_left c index placed n j ≤ 1 + n + 2 * (n * many (width_of (span_for placed) / 512)) + clusters_read c index (width_of (span_for placed) / 512) n (first_of (span_for placed) + j)
clusters_short c index placed zero j = omega arith
clusters_short c index placed (suc n) j =
    let one = cluster_short c index placed j in
    let rest = clusters_short c index placed n (j + 1) in
    let next : first_of (span_for placed) + (j + 1) ≡ first_of (span_for placed) + j + 1 = omega arith in
    add n (many (width_of (span_for placed) / 512)) _ _ _ _ one (subst (λ (k : ℕ). clusters_left c index placed n (j + 1) ≤ 1 + n + 2 * (n * many (width_of (span_for placed) / 512)) + clusters_read c index (width_of (span_for placed) / 512) n k) next rest)
  where
    add : (n m a b x y : ℕ) → a ≤ 2 * m + x → b ≤ 1 + n + 2 * (n * m) + y → 1 + a + b ≤ 1 + suc n + 2 * (suc n * m) + (x + y)
    add n m a b x y one rest = omega (arith, one, rest)

filling_short : (c : Chain) (index : ℕ) (placed : Placed) → clusters_left c index placed (count_of (span_for placed)) 0 ≤ filling_begins c index (span_for placed)
filling_short c index placed =
    let all = clusters_short c index placed (count_of (span_for placed)) 0 in
    let from : first_of (span_for placed) + 0 ≡ first_of (span_for placed) = omega arith in
    subst (λ (k : ℕ). clusters_left c index placed (count_of (span_for placed)) 0
    ≤ 1 + count_of (span_for placed) + 2 * (count_of (span_for placed) * many (width_of (span_for placed) / 512)) + clusters_read c index (width_of (span_for placed) / 512) (count_of (span_for placed)) k) from all

-- ---- a layer that was lent leaves the numbers

volume_same : (c : Chain) (first count : ℕ) (v : Id) (before after : Layer) → (header_kept after).cluster_bits ≡ (header_kept before).cluster_bits → volume_steps first count (asked_of c v (Cow after)) ≡ volume_steps first count (asked_of c v (Cow before))
volume_same c first count v before after same = ap (λ (b : ℕ). volume_steps first count (record { place = (asked_of c v (Cow before)).place; sectors = (asked_of c v (Cow before)).sectors; cluster = Some (2 ^ b / 512) })) same

module _ (c : Chain) (index : ℕ) (before after : Layer) (bits : (header_kept after).cluster_bits ≡ (header_kept before).cluster_bits) (first count : ℕ) where
  abbrev changed : Chain
  changed = with_layer_at c index after

  path_same : (vs : List Id) (os : List OpenVolume) → path_steps changed first count vs os ≡ path_steps c first count vs os
  path_same [] os = refl
  path_same (v ∷ vs) [] = refl
  path_same (v ∷ vs) (o ∷ os) = ap (λ (n : ℕ). volume_steps first count (asked_of c v o) + n) (path_same vs os)

  path_set : (vs : List Id) (os : List OpenVolume) (k : ℕ) → slice_get os k ≡ Some (Cow before) → path_steps changed first count vs (slice_set os k (Cow after)) ≡ path_steps c first count vs os
  path_set [] os k was = refl
  path_set (v ∷ vs) [] k was = refl
  path_set (v ∷ vs) (o ∷ os) zero was =
      let is : o ≡ Cow before = cc in
      ap (λ (n : ℕ). n + path_steps changed first count vs os) (volume_same c first count v before after bits ∙ ap (λ (q : OpenVolume). volume_steps first count (asked_of c v q)) (sym is))
      ∙ ap (λ (n : ℕ). volume_steps first count (asked_of c v o) + n) (path_same vs os)
  path_set (v ∷ vs) (o ∷ os) (suc k) was = ap (λ (n : ℕ). volume_steps first count (asked_of c v o) + n) (path_set vs os k was)

  dropped : (i : ℕ) (vs : List Id) (os : List OpenVolume) (k : ℕ) → slice_get os k ≡ Some (Cow before) → path_steps changed first count (drop i vs) (drop i (slice_set os k (Cow after))) ≡ path_steps c first count (drop i vs) (drop i os)
  dropped zero vs os k was = path_set vs os k was
  dropped (suc i) [] os k was = refl
  dropped (suc i) (v ∷ vs) [] k was = absurd cc
  dropped (suc i) (v ∷ vs) (o ∷ os) zero was = path_same (drop i vs) (drop i os)
  dropped (suc i) (v ∷ vs) (o ∷ os) (suc k) was = dropped i vs os k was

  read_same : slice_get (open_in c) index ≡ Some (Cow before) → (below : Option Id) → read_steps changed below first count ≡ read_steps c below first count
  read_same was None = refl
  read_same was (Some u) = dropped (place_on u (path_in c)) (path_in c) (open_in c) index was

module _ (c : Chain) (index : ℕ) (before after : Layer) (bits : (header_kept after).cluster_bits ≡ (header_kept before).cluster_bits) (was : slice_get (open_in c) index ≡ Some (Cow before)) where
  pieces_same : (below : Option Id) (first count n done : ℕ) → pieces_read (with_layer_at c index after) below first count n done ≡ pieces_read c below first count n done
  pieces_same below first count zero done = refl
  pieces_same below first count (suc n) done =
      let one = read_same c index before after bits (first + done) (min (count - done) 128) was below in
      let rest = pieces_same below first count n (done + 128) in
      omega (arith, one, rest)

  clusters_same : (i sectors n number : ℕ) → clusters_read (with_layer_at c index after) i sectors n number ≡ clusters_read c i sectors n number
  clusters_same i sectors zero number = refl
  clusters_same i sectors (suc n) number =
      let one = pieces_same (slice_get (path_in c) (i + 1)) (number * sectors) sectors (many sectors) 0 in
      let rest = clusters_same i sectors n (number + 1) in
      omega (arith, one, rest)

lent_pieces : (c next : Chain) (index : ℕ) → IsLent c next index → pieces_at next index ≡ pieces_at c index
lent_pieces c next index lent =
    ap (λ (z : Chain). pieces_at z index) lent.is
    ∙ ap (λ (o : Option OpenVolume). pieces_by o) (set_here (open_in c) index (Cow lent.after) (Cow lent.before) lent.was)
    ∙ ap (λ (b : ℕ). div_ceil (2 ^ b) 65536) lent.same.bits
    ∙ sym (ap (λ (o : Option OpenVolume). pieces_by o) lent.was)

lent_filling : (c next : Chain) (index : ℕ) (s : Span) → IsLent c next index → filling_begins next index s ≡ filling_begins c index s
lent_filling c next index s lent =
    ap (λ (z : Chain). filling_begins z index s) lent.is
    ∙ ap (λ (n : ℕ). 1 + count_of s + 2 * (count_of s * many (width_of s / 512)) + n) (clusters_same c index lent.before lent.after lent.same.bits lent.was index (width_of s / 512) (count_of s) (first_of s))

-- ---- each stage

pub prepares_nearer : (c next : Chain) (v : Id) (at count index : ℕ) (p q : preparings.Preparing) → IsLent c next index → planned_in q ≡ planned_in p → preparing_left (pieces_at c index) q < preparing_left (pieces_at c index) p
    → stage_left (Preparing index q) v at next count < stage_left (Preparing index p) v at c count
prepares_nearer c next v at count index p q lent planned less =
    let same = lent_pieces c next index lent in
    let fill = lent_filling c next index (planned_in p) lent in
    subst (λ (n : ℕ). preparing_left n q + filling_begins next index (planned_in q) + linking_begins (planned_in q) n < stage_left (Preparing index p) v at c count) (sym same)
    (subst (λ (s : Span). preparing_left (pieces_at c index) q + filling_begins next index s + linking_begins s (pieces_at c index) < stage_left (Preparing index p) v at c count) (sym planned)
    (add _ _ _ _ _ less fill))
  where
    add : (a b x y l : ℕ) → a < b → x ≡ y → a + x + l < b + y + l
    add a b x y l less same = omega (arith, less, same)

pub fills_nearer : (c next : Chain) (v : Id) (at count index from : ℕ) (p : preparings.Preparing) (placed : Placed) (f : Fillings) → IsLent c next index → span_for placed ≡ planned_in p → filled.IsBegun v index from placed f → 0 < preparing_left (pieces_at c index) p
    → stage_left (Filling index f) v at next count < stage_left (Preparing index p) v at c count
fills_nearer c next v at count index from p placed f lent planned begun some =
    let same = lent_pieces c next index lent in
    let fill = lent_filling c next index (span_for placed) lent in
    let most = filling_short next index placed in
    subst (λ (q : Placed). fillings_left f next + linking_begins (span_for q) (pieces_at next index) < stage_left (Preparing index p) v at c count) (sym begun.placed_is)
    (subst (λ (n : ℕ). fillings_left f next + linking_begins (span_for placed) n < stage_left (Preparing index p) v at c count) (sym same)
    (subst (λ (s : Span). fillings_left f next + linking_begins (span_for placed) (pieces_at c index) < preparing_left (pieces_at c index) p + filling_begins c index s + linking_begins s (pieces_at c index)) planned
    (add _ _ _ _ _ _ (begun.left next) most fill some)))
  where
    add : (a b m x l k : ℕ) → a ≡ b → b ≤ m → m ≡ x → 0 < k → a + l < k + x + l
    add a b m x l k is le same some = omega (arith, is, le, same, some)

pub fills_on : (c : Chain) (v : Id) (at count index : ℕ) (f t : Fillings) → placed_of t ≡ placed_of f → fillings_left t c < fillings_left f c → stage_left (Filling index t) v at c count < stage_left (Filling index f) v at c count
fills_on c v at count index f t same less =
    subst (λ (q : Placed). fillings_left t c + linking_begins (span_for q) (pieces_at c index) < stage_left (Filling index f) v at c count) (sym same) (add _ _ _ less)
  where
    add : (a b l : ℕ) → a < b → a + l < b + l
    add a b l less = omega (arith, less)

pieces_few : (c p : ℕ) → 4096 ≤ c → c ≤ p * 65536 → c / min c 65536 ≤ p
pieces_few c p some le = go (cases_lt c 65536)
  where
    go : (c < 65536) ⊎ (65536 ≤ c) → c / min c 65536 ≤ p
    go (inl lt) =
        let m : min c 65536 ≡ c = omega (arith, lt) in
        let one : c / c < 2 = div_below c c 2 (omega (arith, some)) (omega (arith, some)) in
        subst (λ (x : ℕ). c / x ≤ p) (sym m) (omega (arith, one, le, some))
    go (inr more) = let m : min c 65536 ≡ 65536 = omega (arith, more) in subst (λ (x : ℕ). c / x ≤ p) (sym m) (omega (arith, le))

link_pieces : (w : Layer) → 12 ≤ (header_kept w).cluster_bits → pieces (header_kept w) ≤ pieces_of w
link_pieces w low =
    let times = div_ceil_times (2 ^ (header_kept w).cluster_bits) 65536 (omega arith) in
    pieces_few (2 ^ (header_kept w).cluster_bits) (pieces_of w) (wide (header_kept w).cluster_bits low) times.0

pub links_nearer : (c : Chain) (v : Id) (at count index : ℕ) (f : Fillings) (placed : Placed) (k : WriteLinking) → ((w : Layer) × (slice_get (open_in c) index ≡ Some (Cow w))) → placed ≡ placed_of f → linked.IsBegun placed k → 0 < fillings_left f c
    → stage_left (Linking index k) v at c count < stage_left (Filling index f) v at c count
links_nearer c v at count index f placed k is same begun some =
    subst (λ (o : Option OpenVolume). linking_by o k < fillings_left f c + linking_begins (span_for (placed_of f)) (pieces_by o)) (sym is.1)
    (subst (λ (q : Placed). linking_left is.0 k < fillings_left f c + linking_begins (span_for q) (pieces_of is.0)) same
    (add (sectors_of (span_for placed)) (pieces (header_kept is.0)) (pieces_of is.0) _ _ (begun.left is.0) (link_pieces is.0 is.0.work.low) some))
  where
    add : (s a b n m : ℕ) → n ≡ s * (7 + a) + 2 → a ≤ b → 0 < m → n < m + (s * (7 + b) + 2)
    add s a b n m left le some = let rows : a * s ≤ b * s = mul-le-mul_right s le in omega (arith, left, rows, some)

pub links_on : (c : Chain) (v : Id) (at count index : ℕ) (k t : WriteLinking) → ((w : Layer) × (slice_get (open_in c) index ≡ Some (Cow w))) → ((w : Layer) → slice_get (open_in c) index ≡ Some (Cow w) → linking_left w t < linking_left w k)
    → stage_left (Linking index t) v at c count < stage_left (Linking index k) v at c count
links_on c v at count index k t is less = subst (λ (o : Option OpenVolume). linking_by o t < linking_by o k) (sym is.1) (less is.0 is.1)

pub links_left : (c : Chain) (v : Id) (at count index : ℕ) (k : WriteLinking) → ((w : Layer) × (slice_get (open_in c) index ≡ Some (Cow w))) → ((w : Layer) → slice_get (open_in c) index ≡ Some (Cow w) → 0 < linking_left w k) → 0 < stage_left (Linking index k) v at c count
links_left c v at count index k is some = subst (λ (o : Option OpenVolume). 0 < linking_by o k) (sym is.1) (some is.0 is.1)

-- ---- the begin

-- t clusters, and s sectors of entries
sum_short : (t s p m read x link fill : ℕ) → 1 ≤ t → s ≤ 2 → s ≤ t → p ≤ 32 → m ≤ p → x ≡ 2 * t + 5 + (1 + t + (t + s) * (7 + p)) → fill ≡ 1 + t + 2 * (t * m) + read → link ≡ s * (7 + p) + 2
    → x + fill + link < 64 + t * (32 + 4 * p) + read
sum_short t s p m read x link fill some few less low le steps filled links =
    let wide : s * p ≤ t * p = mul-le-mul_right p less in
    let deep : p * s ≤ 32 * s = mul-le-mul_right s low in
    let each : m * t ≤ p * t = mul-le-mul_right t le in
    omega (arith, wide, deep, each, some, few, less, steps, filled, links)

many_few : (c p : ℕ) → c ≤ p * 65536 → many (c / 512) ≤ p
many_few c p le = omega (arith, le)

-- with a span of this width, in a layer with clusters as wide
span_short : (c : Chain) (index : ℕ) (s : Span) (w : Layer) (p : preparings.Preparing) → prepared.IsBegun s p → width_of s ≡ 2 ^ (header_kept w).cluster_bits → 12 ≤ (header_kept w).cluster_bits → (header_kept w).cluster_bits ≤ 21
    → preparing_left (pieces_of w) p + filling_begins c index s + linking_begins s (pieces_of w) < layer_begins c index (at_of s) (length_of s) (width_of s) (pieces_of w)
span_short c index s w p begun width low high =
    let times : (2 ^ (header_kept w).cluster_bits ≤ pieces_of w * 65536) × (pieces_of w * 65536 < 2 ^ (header_kept w).cluster_bits + 65536) = div_ceil_times (2 ^ (header_kept w).cluster_bits) 65536 (omega arith) in
    let few = few_met s.at s.length s.width s.part in
    let enough : many (width_of s / 512) ≤ pieces_of w = subst (λ (x : ℕ). many (x / 512) ≤ pieces_of w) (sym width) (many_few (2 ^ (header_kept w).cluster_bits) (pieces_of w) times.0) in
    let most : pieces_of w ≤ 32 = below (pieces_of w) (2 ^ (header_kept w).cluster_bits) times.1 (narrow (header_kept w).cluster_bits high) in
    sum_short (count_of s) (sectors_of s) (pieces_of w) (many (width_of s / 512)) _ _ _ _ (omega arith) (omega (arith, few)) (omega arith) most enough (begun.left (pieces_of w)) refl refl
  where
    below : (p x : ℕ) → p * 65536 < x + 65536 → x ≤ 2097152 → p ≤ 32
    below p x lt few = omega (arith, lt, few)

pub found_nearer : (c : Chain) (v : Id) (at count index : ℕ) (w : Layer) (s : Span) (p : preparings.Preparing) → index ≡ place_on v (path_in c) → slice_get (open_in c) index ≡ Some (Cow w) → prepared.IsBegun s p → at_of s ≡ at → length_of s ≡ count
    → width_of s ≡ 2 ^ (header_kept w).cluster_bits → stage_left (Preparing index p) v at c count < begins_at c v at count
found_nearer c v at count index w s p same there begun from long width =
    subst (λ (i : ℕ). stage_left (Preparing index p) v at c count < begins_by (slice_get (open_in c) i) c i at count) same
    (subst (λ (o : Option OpenVolume). preparing_left (pieces_by o) p + filling_begins c index (planned_in p) + linking_begins (planned_in p) (pieces_by o) < begins_by o c index at count) (sym there)
    (subst (λ (z : Span). preparing_left (pieces_of w) p + filling_begins c index z + linking_begins z (pieces_of w) < layer_begins c index at count (2 ^ (header_kept w).cluster_bits) (pieces_of w)) (sym begun.planned)
    (subst (λ (n : ℕ). preparing_left (pieces_of w) p + filling_begins c index s + linking_begins s (pieces_of w) < layer_begins c index n count (2 ^ (header_kept w).cluster_bits) (pieces_of w)) from
    (subst (λ (n : ℕ). preparing_left (pieces_of w) p + filling_begins c index s + linking_begins s (pieces_of w) < layer_begins c index (at_of s) n (2 ^ (header_kept w).cluster_bits) (pieces_of w)) long
    (subst (λ (n : ℕ). preparing_left (pieces_of w) p + filling_begins c index s + linking_begins s (pieces_of w) < layer_begins c index (at_of s) (length_of s) n (pieces_of w)) width
    (span_short c index s w p begun width w.work.low w.work.high))))))

pub raw_nearer : (c : Chain) (v : Id) (at count left n : ℕ) → slice_get (open_in c) (place_on v (path_in c)) ≡ Some (Raw n) → left ≡ 3 → left < begins_at c v at count
raw_nearer c v at count left n there is = subst (λ (o : Option OpenVolume). left < begins_by o c (place_on v (path_in c)) at count) (sym there) (omega (arith, is))
