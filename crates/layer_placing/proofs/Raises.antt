-- Writing a sector of counts.
use Rattle.std.proofs.Common.{◌≡◌, ◌≢◌, ◌⊎◌, inl, inr, ℕ, ◌+◌, ◌-◌, ◌*◌, ◌/◌, ◌%◌, ◌^◌, ◌<◌, ◌≤◌, Bool, true, false, not, List, length, Some, Ok, Err, refl, sym, ap, ◌∙◌, subst, arith}
use Rattle.std.specs.Prelude.{slice_index, ◌==◌, if◌then◌else◌}
use Rattle.qcow_format.specs.declared.header.Header.{Header}
use Rattle.layer_writing.proofs.Counts.{count_half, half_in}
use Rattle.layer_writing.proofs.Sectors.{seen_one}
use Rattle.layer_placing.proofs.Widths.{wide}
use Rattle.std.proofs.Common.{eq-eqb, ne_eqb}
use Rattle.std.proofs.lemmas.Bool.{cases_lt}
use Rattle.std.proofs.Math.Nat.{mod-lt, mul-div_cancel, mul-mod_left}
use Rattle.std.proofs.lemmas.Nat.{pow_pos}
use Rattle.sd_names.specs.declared.turn.Turn.{Turn}
use Rattle.sd_names.specs.declared.turn.Turn.TheVariants.{More, Done, Ended}
use Rattle.shared_disk.specs.Calls.{IsPut, WriteAt, sectors_in, wrote}
use Rattle.shared_disk.specs.Content.{Content, File, sector_of, seen}
use Rattle.shared_disk.specs.WellFormed.{IsWellFormedFile}
use Rattle.qcow_format.specs.Bytes.{number}
use Rattle.image_model.specs.File.{file_of}
use Rattle.image_model.specs.Layer.{Tables, block_place, count_of, is_used, l1_entry}
use Rattle.layer_laws.specs.Laws.{BlockRecounted, count_index}
use Rattle.layer_laws.specs.Laws as laws
use Rattle.layer_laws.proofs.Positions.{same_or_not}
use Rattle.qcow_layer.specs.Knowing.{is_free, mapped}
use Rattle.qcow_layer.specs.declared.layer.Layer.{Layer}
use Rattle.layer_writing.specs.Holding.{IsInCluster, IsSpare, RaisesCounts, as_seen}
use Rattle.layer_writing.specs.Writer.{KnowsWriter, MapTells}
use Rattle.layer_writing.proofs.OfLayers.{counts_comes, counts_know, counts_left, counts_same}
use Rattle.layer_placing.specs.Chosen.{listed}
use Rattle.layer_placing.specs.Knows.{ArePlaced, EndsBy, HasBlock, HasCounts, IsChoice, KeepsSpare, KnowsIn, Serves, ServesAs, StaySpare, StepsIn, chosen_in, count_sector, range_of}
use Rattle.layer_placing.specs.Stages.{IsAfterRaise, TakesUpTo, current_of, span_of}
use Rattle.layer_placing.specs.declared.clusters.Clusters.{Clusters}
use Rattle.layer_placing.specs.declared.stage.Stage.{Stage}
use Rattle.layer_placing.specs.declared.stage.Stage.TheVariants.{Raising}
use Rattle.layer_placing.proofs.Ends.{failed_write, stay_known, writer_left}
use Rattle.sd_names.specs.Turn.{MatchTurn}
use Rattle.shared_disk.specs.Refusal.{refusal_of}
use Rattle.shared_disk.specs.declared.disk.DiskAnswer.{DiskAnswer}
use Rattle.qcow_layer.specs.Mapping.{IsSameButMap}
use Rattle.qcow_layer.proofs.Pieces.{same_file}
use Rattle.layer_laws.proofs.Sound.{clean_of}
use Rattle.layer_writing.proofs.Known.{unnamed_on_each}
use Rattle.layer_placing.specs.declared.stage.Work.{Work}
use Rattle.layer_placing.specs.declared.stage.Raise.{Raise}
use Rattle.layer_placing.proofs.Finds.{count_inside, column_low, fits_block, sector_block, whole_block, width_is}
use Rattle.layer_placing.proofs.Rows.{among, among_clusters, column_of_cluster, not_true, one_long, one_piece, range_same, row_of_cluster, same_cluster, same_use, unused_uncounted, used_counted}

module _ (l : Layer) (host : ℕ) (r : Raise) (f : File) (formed : IsWellFormedFile f) (known : HasCounts l host f r) (long : length r.counts ≡ 512) where
  abbrev h : Header
  h = l.work.header

  abbrev w : Work
  w = r.work

  abbrev xs : List ℕ
  xs = listed r.work.chosen

  abbrev block : ℕ
  block = known.block

  abbrev has : HasBlock l host f r.work known.block
  has = known.has

  abbrev knows : KnowsWriter l host f
  knows = known.has.ready.writer

  abbrev T : Tables
  T = laws.layer l.work.header (as_seen host f)

  abbrev c : ℕ
  c = 2 ^ l.work.header.cluster_bits

  abbrev q : ℕ
  q = 2 ^ (l.work.header.cluster_bits - 9)

  abbrev span : ℕ
  span = span_of l

  abbrev k : ℕ
  k = range_of l r.work

  abbrev K : ℕ
  K = count_sector l r.work known.block

  abbrev cur : ℕ
  cur = current_of r.work

  at_sector : r.at / 512 ≡ K
  at_sector = omega (arith, known.at)

  width : c ≡ 512 * q
  width = width_is l host f w block has

  some_q : 0 < q
  some_q = go c q width (wide l.work.header.cluster_bits l.work.low)
    where
      go : (c q : ℕ) → c ≡ 512 * q → 4096 ≤ c → 0 < q
      go c q e le = omega (arith, e, le)

  span_is : span ≡ 256 * q
  span_is = go c q width
    where
      go : (c q : ℕ) → c ≡ 512 * q → c / 2 ≡ 256 * q
      go c q e = omega (arith, e)

  there' : block_place T k ≢ 0
  there' e = has.there (sym has.place ∙ e)

  whole_fits : block + c ≤ 512 * f.size
  whole_fits = fits_block l host f w block has

  even : block % 512 ≡ 0
  even = sector_block l host f w block has

  pub one : sectors_in r.counts ≡ 1
  one = one_long r.counts long

  pub fits : K + sectors_in r.counts ≤ f.size
  fits = omega (arith, one, count_inside l host f w block has)

  inside' : IsInCluster c block K r.counts
  inside' = record {
    begins = whole_block l host f w block has;
    low = go block (cur % span) even;
    high = up block (cur % span) c q (sectors_in r.counts) even width (column_low l host f w block has) one;
  }
    where
      go : (p j : ℕ) → p % 512 ≡ 0 → p ≤ 512 * ((p / 2 + j) / 256)
      go p j e = omega (arith, e)

      up : (p j c q s : ℕ) → p % 512 ≡ 0 → c ≡ 512 * q → j < c / 2 → s ≡ 1 → 512 * ((p / 2 + j) / 256 + s) ≤ p + c
      up p j c q s e f lt one = omega (arith, e, f, lt, one)

  pub inside : IsInCluster c (block_place T k) K r.counts
  inside = subst (λ b. IsInCluster c b K r.counts) (sym has.place) inside'

  pub raises : RaisesCounts (seen host f) K r.counts
  raises j m lt in_sector = go (omega (arith, lt, one)) (among xs m w.done r.upto)
    where
      go : j ≡ 0 → ((i : ℕ) × (w.done ≤ i) × (i < r.upto) × (slice_index xs i % 256 ≡ m)) ⊎ ((i : ℕ) → w.done ≤ i → i < r.upto → slice_index xs i % 256 ≢ m)
          → (number 2 (m * 2) (sector_of r.counts j) ≡ number 2 (m * 2) (seen host f (K + j))) ⊎ (0 < number 2 (m * 2) (sector_of r.counts j))
      go first (inl a) =
          let value : number 2 (m * 2) (sector_of r.counts j) ≡ 1 =
          ap (λ i. number 2 (m * 2) (sector_of r.counts i)) first ∙ ap (number 2 (m * 2)) (one_piece r.counts long)
          ∙ ap (λ i. number 2 (i * 2) r.counts) (sym a.3) ∙ known.raises.ones a.0 a.1 a.2 in
          inr (omega (arith, value))
      go first (inr none) =
          let last : K + j ≡ r.at / 512 = omega (arith, first, at_sector) in
          inl (ap (λ i. number 2 (m * 2) (sector_of r.counts i)) first ∙ ap (number 2 (m * 2)) (one_piece r.counts long)
          ∙ known.raises.others m in_sector none ∙ sym (ap (λ i. number 2 (m * 2) (seen host f i)) last))

  abbrev f' : File
  f' = wrote (λ _. true) host (count_sector l r.work known.block) r.counts f

  abbrev T' : Tables
  T' = laws.layer l.work.header (as_seen host f')

  pub recounted : BlockRecounted l.work.header l.target.capacity k (as_seen host f) (as_seen host f')
  recounted = counts_same l l (λ _. true) host K k r.counts f formed knows there' inside fits raises

  -- ---- counts in the block

  module _ (x : ℕ) (here : x / span ≡ k) where
    place_here : block_place T (x / span) ≡ block
    place_here = ap (block_place T) here ∙ has.place

    abbrev wx : ℕ
    wx = known.block / 2 + x % span_of l

    index_is : count_index T x ≡ wx
    index_is = ap (λ b. b / 2 + x % span) place_here

    low : x % span < span
    low = mod-lt x (omega (arith, span_is, some_q))

    row_inside : wx / 256 < f.size
    row_inside = go block (x % span) c whole_fits even low
      where
        go : (p j c : ℕ) → p + c ≤ 512 * f.size → p % 512 ≡ 0 → j < c / 2 → (p / 2 + j) / 256 < f.size
        go p j c a b d = omega (arith, a, b, d)

    column_is : wx % 256 ≡ x % 256
    column_is = go block (x % span) even ∙ sym (column_of_cluster x span q span_is)
      where
        go : (p j : ℕ) → p % 512 ≡ 0 → (p / 2 + j) % 256 ≡ j % 256
        go p j e = omega (arith, e)

    count_now : count_of T' x ≡ number 2 (x % 256 * 2) (seen host f' (wx / 256))
    count_now = recounted.counts_now x here ∙ ap (as_seen host f').half index_is ∙ half_in f.size wx (seen host f') row_inside ∙ ap (λ m. number 2 (m * 2) (seen host f' (wx / 256))) column_is

    count_before : count_of T x ≡ number 2 (x % 256 * 2) (seen host f (wx / 256))
    count_before =
        count_half T x (λ e. has.there (sym place_here ∙ e)) ∙ ap (as_seen host f).half index_is ∙ half_in f.size wx (seen host f) row_inside ∙ ap (λ m. number 2 (m * 2) (seen host f (wx / 256))) column_is

    seen_now : (i : ℕ) → seen host f' i ≡ (if i == K then r.counts else seen host f i)
    seen_now i = ap (λ s. s i) (seen_one host K r.counts f one) ∙ ap (λ y. if i == K then y else seen host f i) (one_piece r.counts long)

    -- its row
    row_here : wx / 256 ≡ K → x / 256 ≡ cur / 256
    row_here e = row_of_cluster x span q span_is ∙ ap (λ a. a * q + x % span / 256) here ∙ ap (λ a. k * q + a) (rows block (x % span) (cur % span) even e) ∙ sym (row_of_cluster cur span q span_is)
      where
        rows : (p i j : ℕ) → p % 512 ≡ 0 → (p / 2 + i) / 256 ≡ (p / 2 + j) / 256 → i / 256 ≡ j / 256
        rows p i j e f = omega (arith, e, f)

    row_back : x / 256 ≡ cur / 256 → wx / 256 ≡ K
    row_back e = back block (x % span) (cur % span) even (cancel (k * q) (x % span / 256) (cur % span / 256)
        (sym (ap (λ a. a * q + x % span / 256) here) ∙ sym (row_of_cluster x span q span_is) ∙ e ∙ row_of_cluster cur span q span_is))
      where
        cancel : (a i j : ℕ) → a + i ≡ a + j → i ≡ j
        cancel a i j e = omega (arith, e)

        back : (p i j : ℕ) → p % 512 ≡ 0 → i / 256 ≡ j / 256 → (p / 2 + i) / 256 ≡ (p / 2 + j) / 256
        back p i j e f = omega (arith, e, f)

    -- one that is chosen
    chosen_count : (i : ℕ) → w.done ≤ i → i < r.upto → slice_index xs i ≡ x → count_of T' x ≡ 1
    chosen_count i le lt e =
        let row : wx / 256 ≡ K = row_back (sym (ap (λ a. a / 256) e) ∙ known.raises.row i le lt) in
        count_now ∙ ap (λ s. number 2 (x % 256 * 2) (seen host f' s)) row
        ∙ ap (number 2 (x % 256 * 2)) (seen_now K ∙ ap (λ (b : Bool). if b then r.counts else seen host f K) (eq-eqb K K refl))
        ∙ ap (λ a. number 2 (a % 256 * 2) r.counts) (sym e) ∙ known.raises.ones i le lt

    -- one that isn't
    other_count : ((i : ℕ) → w.done ≤ i → i < r.upto → slice_index xs i ≢ x) → count_of T' x ≡ count_of T x
    other_count none = count_now ∙ go (same_or_not (wx / 256) K) ∙ sym count_before
      where
        go : (wx / 256 ≡ K) ⊎ (wx / 256 ≢ K) → number 2 (x % 256 * 2) (seen host f' (wx / 256)) ≡ number 2 (x % 256 * 2) (seen host f (wx / 256))
        go (inl e) =
            ap (λ s. number 2 (x % 256 * 2) (seen host f' s)) e
            ∙ ap (number 2 (x % 256 * 2)) (seen_now K ∙ ap (λ (b : Bool). if b then r.counts else seen host f K) (eq-eqb K K refl))
            ∙ known.raises.others (x % 256) (mod-lt x (omega arith)) (λ i le lt same. none i le lt (same_cluster (slice_index xs i) x (known.raises.row i le lt ∙ sym (row_here e)) same))
            ∙ ap (λ s. number 2 (x % 256 * 2) (seen host f s)) (at_sector ∙ sym e)
        go (inr ne) = ap (number 2 (x % 256 * 2)) (seen_now (wx / 256) ∙ ap (λ (b : Bool). if b then r.counts else seen host f (wx / 256)) (ne_eqb (wx / 256) K ne))

  -- ---- all counts

  chosen_here : (i : ℕ) → w.done ≤ i → i < r.upto → slice_index xs i / span ≡ k
  chosen_here i le lt = range_same (slice_index xs i) cur span q span_is some_q (known.raises.row i le lt)

  pub chosen_counted : (i : ℕ) → w.done ≤ i → i < r.upto → count_of T' (slice_index xs i) ≡ 1
  chosen_counted i le lt = chosen_count (slice_index xs i) (chosen_here i le lt) i le lt refl

  pub others_counted : (x : ℕ) → ((i : ℕ) → w.done ≤ i → i < r.upto → slice_index xs i ≢ x) → count_of T' x ≡ count_of T x
  others_counted x none = go (same_or_not (x / span) k)
    where
      go : (x / span ≡ k) ⊎ (x / span ≢ k) → count_of T' x ≡ count_of T x
      go (inl e) = other_count x e none
      go (inr ne) = recounted.counts_kept x ne

  size_kept : (as_seen host f').size ≡ (as_seen host f).size
  unfolding file_of
  size_kept = refl

  -- no count becomes 0, and nothing is named anew
  stays_spare : (place : ℕ) → IsSpare T l.target.capacity place → IsSpare T' l.target.capacity place
  stays_spare place spare = record {
    begins = spare.begins;
    inside = subst (λ n. place + c ≤ n) (sym size_kept) spare.inside;
    counted = go (among_clusters xs (place / c) w.done r.upto);
    unnamed = λ n name. spare.unnamed n (sym (recounted.same.named n) ∙ name);
  }
    where
      go : ((i : ℕ) × (w.done ≤ i) × (i < r.upto) × (slice_index xs i ≡ place / c)) ⊎ ((i : ℕ) → w.done ≤ i → i < r.upto → slice_index xs i ≢ place / c) → 0 < count_of T' (place / c)
      go (inl a) = let count : count_of T' (place / c) ≡ 1 = ap (count_of T') (sym a.3) ∙ chosen_counted a.0 a.1 a.2 in omega (arith, count)
      go (inr none) = subst (λ n. 0 < n) (sym (others_counted (place / c) none)) spare.counted

  -- ---- the layer then

  module _ (m : Layer) (takes : TakesUpTo l r.work r.upto m) where
    tells' : (x : ℕ) → x < mapped m → is_free m x ≡ not (is_used T' x)
    tells' x lt = go (among_clusters xs x w.done r.upto)
      where
        go : ((i : ℕ) × (w.done ≤ i) × (i < r.upto) × (slice_index xs i ≡ x)) ⊎ ((i : ℕ) → w.done ≤ i → i < r.upto → slice_index xs i ≢ x) → is_free m x ≡ not (is_used T' x)
        go (inl a) =
            let count : count_of T' x ≡ 1 = ap (count_of T') (sym a.3) ∙ chosen_counted a.0 a.1 a.2 in
            ap (is_free m) (sym a.3) ∙ takes.taken a.0 a.1 a.2 ∙ sym (ap not (used_counted T' x (omega (arith, count))))
        go (inr none) =
            takes.others x none ∙ knows.knows.numbers.used x (subst (λ n. x < n) takes.same.mapped lt)
            ∙ ap not (sym (same_use h (as_seen host f) (as_seen host f') x (others_counted x none) (recounted.same.blocks (x / span))))

    pub knows_now : KnowsWriter m host f'
    knows_now = counts_know l m (λ _. true) host K k r.counts f formed knows there' inside fits raises takes.same
        (subst (λ (g : Header). MapTells m (laws.layer g (as_seen host f'))) (sym takes.same.header) tells')

    -- a chosen cluster is no other chosen one
    apart : (i j : ℕ) → i < length xs → j < length xs → i ≢ j → slice_index xs j ≢ slice_index xs i
    apart i j li lj ne e = go (cases_lt i j)
      where
        go : (i < j) ⊎ (j ≤ i) → ⊥
        go (inl lt) = let a = has.ready.serves.rising i j lt lj in omega (arith, a, e)
        go (inr le) = let a = has.ready.serves.rising j i (omega (arith, le, ne)) li in omega (arith, a, e)

    not_among : (i : ℕ) → i < length xs → (i < w.done) ⊎ (r.upto ≤ i) → (j : ℕ) → w.done ≤ j → j < r.upto → slice_index xs j ≢ slice_index xs i
    not_among i li out j le lt = apart i j li (omega (arith, lt, r.fits)) (λ e. go out e)
      where
        go : (i < w.done) ⊎ (r.upto ≤ i) → i ≡ j → ⊥
        go (inl low) e = omega (arith, low, le, e)
        go (inr high) e = omega (arith, high, lt, e)

    unnamed_before : (i : ℕ) → w.done ≤ i → i < length xs → laws.IsUnnamed T l.target.capacity (slice_index xs i * c)
    unnamed_before i le li n name =
        let free = has.ready.serves.left i le li in
        let unused : is_used T (slice_index xs i) ≡ false = not_true (is_used T (slice_index xs i)) (sym (knows.knows.numbers.used (slice_index xs i) free.1) ∙ free.0) in
        let none : count_of T (slice_index xs i) ≡ 0 = unused_uncounted T (slice_index xs i) unused in
        let some = (clean_of (as_seen host f) l.target.capacity h knows.knows.numbers.header knows.knows.numbers.sound n).counted (slice_index xs i * c) name in
        let here : slice_index xs i * c / c ≡ slice_index xs i = mul-div_cancel (slice_index xs i) (pow_pos l.work.header.cluster_bits) in
        omega (arith, subst (λ x. 0 < count_of T x) here some, none)

    size_now : (as_seen host f').size ≡ 512 * f.size
    unfolding file_of
    size_now = refl

    spare_now : (i : ℕ) → i < r.upto → i < length xs → IsSpare T' l.target.capacity (slice_index xs i * c)
    spare_now i lt li = record {
      begins = mul-mod_left (slice_index xs i) (2 ^ l.work.header.cluster_bits);
      inside = subst (λ n. slice_index xs i * c + c ≤ n) (sym size_now) (has.ready.serves.inside i li);
      counted = subst (λ x. 0 < count_of T' x) (sym (mul-div_cancel (slice_index xs i) (pow_pos l.work.header.cluster_bits))) (some (cases_lt i w.done));
      unnamed = λ n name. none (cases_lt i w.done) n (sym (recounted.same.named n) ∙ name);
    }
      where
        some : (i < w.done) ⊎ (w.done ≤ i) → 0 < count_of T' (slice_index xs i)
        some (inl low) =
            let spare = has.ready.serves.spare i low li in
            let before : 0 < count_of T (slice_index xs i) = subst (λ x. 0 < count_of T x) (mul-div_cancel (slice_index xs i) (pow_pos l.work.header.cluster_bits)) spare.counted in
            subst (λ n. 0 < n) (sym (others_counted (slice_index xs i) (not_among i li (inl low)))) before
        some (inr le) = let e = chosen_counted i le lt in omega (arith, e)

        none : (i < w.done) ⊎ (w.done ≤ i) → laws.IsUnnamed T l.target.capacity (slice_index xs i * c)
        none (inl low) = (has.ready.serves.spare i low li).unnamed
        none (inr le) = unnamed_before i le li

    serves_now : ServesAs l.work.header l.target.capacity (is_free m) (mapped m) host f' xs r.upto
    serves_now = record {
      inside = has.ready.serves.inside;
      low = has.ready.serves.low;
      counted = has.ready.serves.counted;
      rising = has.ready.serves.rising;
      spare = spare_now;
      taken = λ i lt li. by i lt li (cases_lt i w.done);
      left = λ i le li.
          let before = has.ready.serves.left i (omega (arith, le, r.ahead)) li in
          (takes.others (slice_index xs i) (not_among i li (inr le)) ∙ before.0, subst (λ n. slice_index xs i < n) (sym takes.same.mapped) before.1);
    }
      where
        by : (i : ℕ) → i < r.upto → i < length xs → (i < w.done) ⊎ (w.done ≤ i) → is_free m (slice_index xs i) ≡ false
        by i lt li (inl low) = takes.others (slice_index xs i) (not_among i li (inl low)) ∙ has.ready.serves.taken i low li
        by i lt li (inr le) = takes.taken i le lt

    pub serves_then : Serves m host f' xs r.upto
    serves_then =
        subst (λ (g : Header). ServesAs g m.target.capacity (is_free m) (mapped m) host f' xs r.upto) (sym takes.same.header)
        (subst (λ t. ServesAs l.work.header t.capacity (is_free m) (mapped m) host f' xs r.upto) (sym takes.same.target) serves_now)

    stays : StaySpare l m host f f'
    stays = stay_known l m host f f' knows_now (λ place is.
        subst (λ (g : Header). IsSpare (laws.layer g (as_seen host f')) m.target.capacity place) (sym takes.same.header)
        (subst (λ t. IsSpare (laws.layer l.work.header (as_seen host f')) t.capacity place) (sym takes.same.target) (stays_spare place is)))
        (λ i lt. ap (λ (g : Header). l1_entry (laws.layer g (as_seen host f')) i) takes.same.header ∙ recounted.same.tables i lt)

    spare_after : (turn : Turn Stage Clusters (Unit {0})) → KeepsSpare l m host turn f f'
    spare_after (More s) = stays
    spare_after (Done chosen) = stays
    spare_after (Ended b refusal) = tt

    after : (faults : ℕ) (turn : Turn Stage Clusters (Unit {0})) → IsAfterRaise r.work r.upto turn
        → MatchTurn turn (λ s. KnowsIn m host f' s × IsChoice l host f (Raising r) (chosen_in s)) (λ chosen. ArePlaced m host f' (listed chosen)) (λ _ refusal. EndsBy l m host faults (Raising r) f f' refusal)
    after faults (More s) next = (
      subst (λ t. KnowsIn m host f' t) (sym next.1)
          (record { writer = knows_now; serves = subst (λ n. Serves m host f' (listed next.0.chosen) n) (sym next.3) (subst (λ (ys : List ℕ). Serves m host f' ys r.upto) (sym next.2) serves_then) }),
      tt,
    )
    after faults (Done chosen) next =
        let all : Serves m host f' xs (length xs) = subst (λ n. Serves m host f' xs n) next.1 serves_then in
        subst (λ (ys : List ℕ). ArePlaced m host f' ys) (sym next.0) (record {
          writer = knows_now;
          spare = λ i li. all.spare i li li;
          unnamed = λ i li. unnamed_on_each m host (slice_index xs i * 2 ^ m.work.header.cluster_bits) f' knows_now (all.spare i li li).unnamed;
          taken = λ i li. all.taken i li li;
          rising = all.rising;
          low = λ i li. below (slice_index xs i * 2 ^ m.work.header.cluster_bits) (2 ^ m.work.header.cluster_bits) (pow_pos m.work.header.cluster_bits) (all.low i li);
        })
      where
        below : (a c : ℕ) → 0 < c → a + c ≤ 2 ^ 56 → a < 2 ^ 56
        below a c some le = omega (arith, some, le)
    after faults (Ended b refusal) next = absurd next

    pub raise_steps : (faults : ℕ) (turn : Turn Stage Clusters (Unit {0})) (d e : Content) → d.file l.target.place ≡ Some f → IsAfterRaise r.work r.upto turn
        → WriteAt d host l.target.place (r.at / 512 * 512 / 512) r.counts (Ok tt) e → StepsIn l m host faults (Raising r) turn f d e
    raise_steps faults turn d e there next wrote_at =
        let is : wrote_at.0 ≡ f = same_file d l.target.place f wrote_at.0 there wrote_at.1 in
        let at : r.at / 512 * 512 / 512 ≡ K = omega (arith, at_sector) in
        record {
          now = f';
          put = subst (λ n. IsPut d l.target.place (Some (wrote (λ _. true) host n r.counts f)) e) at
              (subst (λ (x : File). IsPut d l.target.place (Some (wrote (λ _. true) host (r.at / 512 * 512 / 512) r.counts x)) e) is wrote_at.3);
          comes = counts_comes l l (λ _. true) host K k r.counts f formed knows there' inside fits raises;
          after = after faults turn next;
          spare = spare_after turn;
        }

  pub raise_fails : (faults : ℕ) (a : DiskAnswer) (d e : Content) → d.file l.target.place ≡ Some f → WriteAt d host l.target.place (r.at / 512 * 512 / 512) r.counts (Err a) e
      → StepsIn l l host faults (Raising r) (Ended tt (refusal_of a faults)) f d e
  raise_fails faults a d e there call =
      let at : r.at / 512 * 512 / 512 ≡ K = omega (arith, at_sector) in
      failed_write l host faults (Raising r) f d e there a K r.counts (subst (λ n. WriteAt d host l.target.place n r.counts (Err a) e) at call) fits (writer_left l host f knows)
      (λ did. counts_left l l did host K k r.counts f formed knows there' inside fits raises (itself l))
      (λ did. counts_comes l l did host K k r.counts f formed knows there' inside fits raises)
    where
      itself : (l : Layer) → IsSameButMap l l
      itself l = record { target = refl; header = refl; parent = refl; length = refl; mapped = refl }
