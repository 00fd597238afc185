-- Entering a block in the refcount table.
use Rattle.std.proofs.Common.{◌≡◌, ◌≢◌, ◌⊎◌, inl, inr, ℕ, ◌+◌, ◌-◌, ◌*◌, ◌/◌, ◌%◌, ◌^◌, ◌<◌, ◌≤◌, ◌==◌, Bool, true, false, List, length, Option, Some, Ok, Err, refl, sym, ap, ◌∙◌, subst, arith, eq-eqb, ne_eqb, nat_lt, not}
use Rattle.std.specs.Prelude.{slice_index, if◌then◌else◌, ◌&&◌, ◌||◌}
use Rattle.std.proofs.lemmas.Bool.{cases_lt}
use Rattle.std.proofs.lemmas.Bool.Decides.{nat_tests}
use Rattle.std.proofs.lemmas.Nat.{div_below, pow_pos}
use Rattle.std.proofs.Math.Nat.{mod-lt, mul-mod_left}
use Rattle.sd_names.specs.declared.turn.Turn.TheVariants.{Ended, More}
use Rattle.shared_disk.specs.Calls.{IsPut, WriteAt, sectors_in, synced, wrote}
use Rattle.shared_disk.specs.Content.{Content, File, sector_of, seen}
use Rattle.shared_disk.specs.Crash.{IsFileOutcome, IsSettled, OnEach}
use Rattle.shared_disk.specs.Refusal.{refusal_of}
use Rattle.shared_disk.specs.WellFormed.{IsWellFormedFile}
use Rattle.shared_disk.specs.declared.disk.DiskAnswer.{DiskAnswer}
use Rattle.shared_disk.proofs.Outcomes.{settled_itself}
use Rattle.qcow_format.specs.Bytes.{bytes_of, number, put}
use Rattle.qcow_format.specs.Name.{backing_id}
use Rattle.qcow_format.specs.declared.header.Header.{Header}
use Rattle.qcow_format.proofs.Put.{length-bytes_of, length-put, number-put_before, number-put_behind, number-put_same}
use Rattle.image_model.specs.File as image
use Rattle.image_model.specs.File.{file_of, sector_in}
use Rattle.image_model.specs.Layer.{Tables, block_at, block_place, block_word, count_of, entries, is_used, l1_clusters, l1_entry}
use Rattle.image_model.specs.Soundness.{IsClean, IsSound, layer_header, names}
use Rattle.layer_laws.specs.Laws as laws
use Rattle.layer_laws.specs.Laws.{AreSectors, OnlyWord, Placed, SameOutside, block_position, l1_position}
use Rattle.layer_laws.proofs.Covers.{counts_kept, counts_new, covered}
use Rattle.layer_laws.proofs.Heads.{parent_kept}
use Rattle.layer_laws.proofs.Numbers.{behind, cluster_sectors, row_of, whole_sector}
use Rattle.layer_laws.proofs.Positions.{same_or_not}
use Rattle.layer_laws.proofs.Recounts.{other_word_kept, word_outside}
use Rattle.layer_laws.proofs.Sound.{Shape, clean_of, entry_lt, entry_width, header_name, shape_of, table_cluster_name, unique}
use Rattle.qcow_layer.specs.Knowing.{KnowsNumbers}
use Rattle.qcow_layer.specs.declared.layer.Layer.{Layer}
use Rattle.qcow_layer.proofs.Pieces.{same_file}
use Rattle.qcow_layer.proofs.Knowing.{in_file, settled_seen}
use Rattle.layer_writing.specs.Holding.{ComesBy, HoldSame, IsSpare, as_seen, on_medium, with_sector}
use Rattle.layer_writing.specs.Writer.{IsLeft, KnowsWriter}
use Rattle.layer_writing.proofs.Counts.{half_in}
use Rattle.layer_writing.proofs.Known.{anew, between_synced, settled_medium}
use Rattle.layer_writing.proofs.Likes.{holds_itself}
use Rattle.layer_writing.proofs.Sectors.{alone_writes, between_written, either_on_each, seen_lengths}
use Rattle.layer_placing.specs.Chosen.{listed}
use Rattle.layer_placing.specs.Knows.{HasBlock, LacksBlock, StaySpare, StepsIn, first_place, own_count, range_of}
use Rattle.layer_placing.specs.Stages.{block_place_of, current_of, entry_place_of, span_of}
use Rattle.layer_placing.specs.declared.stage.Stage.TheVariants.{Entered, Settled}
use Rattle.layer_placing.specs.declared.stage.Work.{Work}
use Rattle.layer_placing.proofs.Ends.{failed_write, writer_left}
use Rattle.layer_placing.proofs.Firsts.{tables_by_names}
use Rattle.layer_placing.proofs.Finds.{entry_at_is, entry_sector}
use Rattle.layer_placing.proofs.Rows.{one_long, one_piece}
use Rattle.layer_placing.proofs.Zeros.{first_begins, first_cluster, first_inside, first_range, first_unnamed, no_count}

word_raw : (h : Header) (n k : ℕ) (s : ℕ → List ℕ) → k < h.refcount_table_clusters * (2 ^ h.cluster_bits / 8)
    → block_word (laws.layer h (file_of n s)) k ≡ number 8 (block_at (laws.layer h (file_of n s)) k / 8 % 64 * 8) (sector_in n s (block_at (laws.layer h (file_of n s)) k / 8 / 64))
unfolding file_of
word_raw h n k s low =
    let test : nat_lt k (h.refcount_table_clusters * (2 ^ h.cluster_bits / 8)) ≡ true = grind (arith, nat_tests) in
    ap (λ b. if b then number 8 ((h.refcount_table_offset + 8 * k) / 8 % 64 * 8) (sector_in n s ((h.refcount_table_offset + 8 * k) / 8 / 64)) else 0) test

other_block : (h : Header) (n k i : ℕ) (s s' : ℕ → List ℕ) → OnlyWord ((h.refcount_table_offset + 8 * k) / 8) s s' → i ≢ k → block_place (laws.layer h (file_of n s')) i ≡ block_place (laws.layer h (file_of n s)) i
other_block h n k i s s' only ne =
    ap (λ w. (if nat_lt i (h.refcount_table_clusters * (2 ^ h.cluster_bits / 8)) then w else 0) / 512 * 512)
    (other_word_kept n ((h.refcount_table_offset + 8 * i) / 8) ((h.refcount_table_offset + 8 * k) / 8) s s' only (λ e. ne (apart h.refcount_table_offset i k e)))
  where
    apart : (o a b : ℕ) → (o + 8 * a) / 8 ≡ (o + 8 * b) / 8 → a ≡ b
    apart o a b e = omega (arith, e)

sizes : (n : ℕ) (s s' : ℕ → List ℕ) → (file_of n s).size ≡ (file_of n s').size
unfolding file_of
sizes n s s' = refl

module _ (l : Layer) (host : ℕ) (w : Work) (table bytes : List ℕ) (f : File) (lacks : LacksBlock l host f w table (2 ^ l.work.header.cluster_bits / 512)) (settled : IsSettled f) (formed : IsWellFormedFile f)
    (is : bytes ≡ put (entry_place_of l (current_of w) % 512 / 8 * 8) (bytes_of 8 (first_place l w)) table) (long : length table ≡ 512) where
  abbrev h : Header
  h = l.work.header

  abbrev cap : ℕ
  cap = l.target.capacity

  abbrev c : ℕ
  c = 2 ^ l.work.header.cluster_bits

  abbrev q : ℕ
  q = 2 ^ (l.work.header.cluster_bits - 9)

  abbrev n : ℕ
  n = f.size

  abbrev s : ℕ → List ℕ
  s = seen host f

  abbrev F : image.File
  F = as_seen host f

  abbrev T : Tables
  T = laws.layer l.work.header (as_seen host f)

  abbrev span : ℕ
  span = span_of l

  abbrev k : ℕ
  k = range_of l w

  abbrev b : ℕ
  b = first_place l w

  abbrev A : ℕ
  A = entry_place_of l (current_of w) / 512

  abbrev W : ℕ
  W = block_at T k / 8

  abbrev N : ℕ
  N = 2 ^ l.work.header.cluster_bits / 512

  abbrev knows : KnowsWriter l host f
  knows = lacks.ready.writer

  abbrev s' : ℕ → List ℕ
  s' = with_sector A bytes (seen host f)

  abbrev G : image.File
  G = file_of n s'

  abbrev U : Tables
  U = laws.layer l.work.header G

  header_is : layer_header F cap ≡ Ok h
  header_is = knows.knows.numbers.header

  sound_is : IsSound F cap
  sound_is = knows.knows.numbers.sound

  shape : Shape h
  shape = shape_of F cap h header_is

  clean : (m : ℕ) → IsClean T cap m
  clean = clean_of F cap h header_is sound_is

  are : AreSectors n s
  are i lt = seen_lengths host f formed i

  low : k < h.refcount_table_clusters * (c / 8)
  low = lacks.ready.serves.counted w.done w.more

  width : c ≡ 512 * q
  width = cluster_sectors l.work.header.cluster_bits l.work.low

  at_is : entry_place_of l (current_of w) ≡ block_at T k
  at_is = entry_at_is l host f w lacks.ready

  offset_even : h.refcount_table_offset % 512 ≡ 0
  offset_even = whole_sector h.refcount_table_offset c q width shape.table

  row_A : W / 64 ≡ A
  row_A = omega (arith, at_is)

  column_o : W % 64 * 8 ≡ entry_place_of l (current_of w) % 512 / 8 * 8
  column_o = omega (arith, at_is)

  pub A_inside : A < n
  A_inside = entry_sector l host f w lacks.ready

  long' : length bytes ≡ 512
  long' = ap length is ∙ length-put (entry_place_of l (current_of w) % 512 / 8 * 8) (bytes_of 8 b) table (omega (arith, long, length-bytes_of 8 b)) ∙ long

  table_is : table ≡ s A
  table_is = lacks.entry

  here : s' A ≡ bytes
  here = ap (λ (t : Bool). if t then bytes else s A) (eq-eqb A A refl)

  others : (i : ℕ) → i ≢ A → s' i ≡ s i
  others i ne = ap (λ (t : Bool). if t then bytes else s i) (ne_eqb i A ne)

  only : OnlyWord W s s'
  only = record {
    others = λ i ne. others i (λ e. ne (e ∙ sym row_A));
    rest = λ m lt ne. ap (λ i. number 8 (m * 8) (s' i)) row_A ∙ ap (number 8 (m * 8)) (here ∙ is) ∙ go m lt ne (cases_lt m (W % 64)) ∙ ap (number 8 (m * 8)) (table_is ∙ sym (ap s row_A));
  }
    where
      go : (m : ℕ) → m < 64 → m ≢ W % 64 → (m < W % 64) ⊎ (W % 64 ≤ m) → number 8 (m * 8) (put (entry_place_of l (current_of w) % 512 / 8 * 8) (bytes_of 8 b) table) ≡ number 8 (m * 8) table
      go m lt ne (inl less) = number-put_before 8 (m * 8) (entry_place_of l (current_of w) % 512 / 8 * 8) (bytes_of 8 b) table (omega (arith, long)) (omega (arith, less, column_o))
      go m lt ne (inr le) = number-put_behind 8 (m * 8) (entry_place_of l (current_of w) % 512 / 8 * 8) (bytes_of 8 b) table (omega (arith, long)) (omega (arith, le, ne, column_o, length-bytes_of 8 b))

  fits : b + c ≤ 512 * n
  fits = first_inside l host f w table N lacks

  small : b < 2 ^ 64
  small = let e = knows.knows.fits in omega (arith, fits, e)

  new : block_word U k ≡ b
  new =
      word_raw h n k s' low ∙ in_sector ∙ ap (number 8 (W % 64 * 8)) (here ∙ is) ∙ ap (λ o. number 8 o (put (entry_place_of l (current_of w) % 512 / 8 * 8) (bytes_of 8 b) table)) column_o
      ∙ number-put_same 8 (entry_place_of l (current_of w) % 512 / 8 * 8) b table (omega (arith, long)) small
    where
      in_sector : number 8 (W % 64 * 8) (sector_in n s' (W / 64)) ≡ number 8 (W % 64 * 8) (s' A)
      in_sector = ap (λ i. number 8 (W % 64 * 8) (sector_in n s' i)) row_A ∙ ap (number 8 (W % 64 * 8)) (in_file n A s' A_inside)

  some_b : b ≢ 0
  some_b e = first_unnamed l host f w table N lacks 0 (header_name h F cap shape clean ∙ ap (λ (x : ℕ). Some x) (sym e))

  begins : b % c ≡ 0
  begins = first_begins l host f w table N lacks

  b_even : b % 512 ≡ 0
  b_even = whole_sector b c q width begins

  b_low : b < 512 * n
  b_low = let p = pow_pos l.work.header.cluster_bits in omega (arith, fits, p)

  span_is : span ≡ 256 * q
  span_is = go c q width
    where
      go : (c q : ℕ) → c ≡ 512 * q → c / 2 ≡ 256 * q
      go c q e = omega (arith, e)

  q_some : 0 < q
  q_some = pow_pos (l.work.header.cluster_bits - 9)

  -- the counts of the block
  block_count : (j : ℕ) → j < span → F.half (b / 2 + j) ≡ (if j == 0 then 1 else 0)
  block_count j lt =
      let row : (b / 2 + j) / 256 ≡ b / 512 + j / 256 = omega (arith, b_even) in
      let column : (b / 2 + j) % 256 ≡ j % 256 = omega (arith, b_even) in
      let inside : (b / 2 + j) / 256 < n = fit b j c n fits lt b_even in
      half_in n (b / 2 + j) s inside
      ∙ ap (λ m. number 2 (m * 2) (s ((b / 2 + j) / 256))) column ∙ ap (λ i. number 2 (j % 256 * 2) (s i)) row
      ∙ lacks.written (j / 256) (j % 256) (rows c q width lt) (mod-lt j (omega arith)) ∙ own (same_or_not j 0)
    where
      fit : (b j c n : ℕ) → b + c ≤ 512 * n → j < c / 2 → b % 512 ≡ 0 → (b / 2 + j) / 256 < n
      fit b j c n a lt e = omega (arith, a, lt, e)

      rows : (c q : ℕ) → c ≡ 512 * q → j < c / 2 → j / 256 < c / 512
      rows c q e lt = omega (arith, e, lt)

      own : (j ≡ 0) ⊎ (j ≢ 0) → own_count (j / 256) (j % 256) ≡ (if j == 0 then 1 else 0)
      own (inl e) = ap (λ (t : Bool). if t then 1 else 0) (eq-eqb (j / 256 + j % 256) 0 (omega (arith, e))) ∙ sym (ap (λ (t : Bool). if t then 1 else 0) (eq-eqb j 0 e))
      own (inr ne) = ap (λ (t : Bool). if t then 1 else 0) (ne_eqb (j / 256 + j % 256) 0 (λ z. ne (omega (arith, z)))) ∙ sym (ap (λ (t : Bool). if t then 1 else 0) (ne_eqb j 0 ne))

  own_some : 0 < F.half (b / 2 + b / c % span)
  own_some =
      let zero : b / c % span ≡ 0 = ap (λ x. x % span) (first_cluster l host f w table N lacks) ∙ mul-mod_left k span in
      let first : 0 < span = omega (arith, span_is, q_some) in
      let one : F.half (b / 2 + b / c % span) ≡ 1 = ap (λ j. F.half (b / 2 + j)) zero ∙ block_count 0 first in
      omega (arith, one)

  placed : Placed h cap (block_position T k) b F G
  placed = covered n cap k b s s' h are header_is sound_is low lacks.none only new some_b begins b_low (first_range l host f w table N lacks) own_some

  kept : (x : ℕ) → x / span ≢ k → count_of U x ≡ count_of T x
  kept = counts_kept n cap k b s s' h are header_is sound_is low lacks.none only new some_b begins b_low (first_range l host f w table N lacks) own_some

  fresh : (x : ℕ) → x / span ≡ k → count_of U x ≡ (if x % span == 0 then 1 else 0)
  fresh x e =
      counts_new n cap k b s s' h are header_is sound_is low lacks.none only new some_b begins b_low (first_range l host f w table N lacks) own_some x e
      ∙ block_count (x % span) (mod-lt x (omega (arith, span_is, q_some)))

  place_now : block_place U k ≡ b
  place_now = ap (λ x. x / 512 * 512) new ∙ omega (arith, b_even)

  -- the same clusters are used
  used_same : (x : ℕ) → is_used U x ≡ is_used T x
  unfolding is_used
  used_same x = go (same_or_not (x / span) k)
    where
      by : (t : Bool) → (nat_lt 0 (if t then 1 else 0) || (t && false)) ≡ (false || (t && true))
      by true = refl
      by false = refl

      go : (x / span ≡ k) ⊎ (x / span ≢ k) → (nat_lt 0 (count_of U x) || (x % span == 0 && block_place U (x / span) == 0)) ≡ (nat_lt 0 (count_of T x) || (x % span == 0 && block_place T (x / span) == 0))
      go (inl e) =
          let now : (block_place U (x / span) == 0) ≡ false = ap (λ i. block_place U i == 0) e ∙ ap (λ p. p == 0) place_now ∙ ne_eqb b 0 some_b in
          let before : (block_place T (x / span) == 0) ≡ true = ap (λ i. block_place T i == 0) e ∙ ap (λ p. p == 0) lacks.none in
          ap (λ (t : Bool). nat_lt 0 (count_of U x) || (x % span == 0 && t)) now
          ∙ ap (λ y. nat_lt 0 y || (x % span == 0 && false)) (fresh x e)
          ∙ by (x % span == 0)
          ∙ sym (ap (λ y. nat_lt 0 y || (x % span == 0 && true)) (no_count l host f w table N lacks x e))
          ∙ sym (ap (λ (t : Bool). nat_lt 0 (count_of T x) || (x % span == 0 && t)) before)
      go (inr ne) =
          ap (λ y. nat_lt 0 y || (x % span == 0 && block_place U (x / span) == 0)) (kept x ne)
          ∙ ap (λ y. nat_lt 0 (count_of T x) || (x % span == 0 && y == 0)) (other_block h n k (x / span) s s' only ne)

  -- the backing file's name
  parent_same : backing_id h G.head ≡ backing_id h F.head
  parent_same = parent_kept n place cap s s' h are header_is whole some outside
    where
      wide' : c ≡ 8 * entries T
      wide' = entry_width h F cap shape clean

      column : k % entries T < entries T
      column = entry_lt h F cap shape clean k

      row : k / entries T < h.refcount_table_clusters
      row = div_below k (entries T) h.refcount_table_clusters (omega (arith, column)) low

      place : ℕ
      place = h.refcount_table_offset + k / entries T * c

      name : names T cap (1 + l1_clusters T + k / entries T) ≡ Some (h.refcount_table_offset + k / entries T * c)
      name = table_cluster_name h F cap shape clean (k / entries T) row

      whole : (h.refcount_table_offset + k / entries T * c) % c ≡ 0
      whole = behind h.refcount_table_offset (k / entries T) c (pow_pos h.cluster_bits) shape.table

      some : h.refcount_table_offset + k / entries T * c ≢ 0
      some e = late (unique h F cap shape clean (1 + l1_clusters T + k / entries T) 0 (h.refcount_table_offset + k / entries T * c) name (header_name h F cap shape clean ∙ ap (λ (x : ℕ). Some x) (sym e)))
        where
          late : 1 + l1_clusters T + k / entries T ≡ 0 → ⊥
          late e = omega (arith, e)

      outside : SameOutside (h.refcount_table_offset + k / entries T * c) c s s'
      outside = word_outside (h.refcount_table_offset + k / entries T * c) c q (k % entries T) W s s' width whole column (ap (λ x. x / 8) (row_of h.refcount_table_offset k (entries T) c wide')) only

  numbers : KnowsNumbers l G
  numbers = record {
    header = placed.header;
    parent = knows.knows.numbers.parent ∙ sym parent_same;
    sound = placed.sound;
    used = λ x lt. knows.knows.numbers.used x lt ∙ ap not (sym (used_same x));
  }

  holds : HoldSame h cap F G
  holds = record { header = placed.header ∙ sym header_is; parent = parent_same; entries = placed.entries; bytes = placed.bytes }

  -- a place that is spare has a count, so it isn't in the range, and not the new block's
  spare_still : (place : ℕ) → IsSpare T cap place → IsSpare U cap place
  spare_still place spare = record {
    begins = spare.begins;
    inside = subst (λ z. place + c ≤ z) size_same spare.inside;
    counted = subst (λ z. 0 < z) (sym (kept (place / c) elsewhere)) spare.counted;
    unnamed = λ m name. go m name (same_or_not m (block_position T k));
  }
    where
      size_same : F.size ≡ G.size
      size_same = sizes n s s'

      elsewhere : place / c / span ≢ k
      elsewhere e = let none = no_count l host f w table N lacks (place / c) e in let some = spare.counted in omega (arith, none, some)

      same_some : (a d : ℕ) (o : Option ℕ) → o ≡ Some a → o ≡ Some d → a ≡ d
      same_some a d o e e' = cc

      go : (m : ℕ) → names U cap m ≡ Some place → (m ≡ block_position T k) ⊎ (m ≢ block_position T k) → ⊥
      go m name (inl at) =
          let same : b ≡ place = same_some b place (names U cap m) (ap (names U cap) at ∙ placed.named) name in
          elsewhere (sym (ap (λ x. x / c / span) same) ∙ first_range l host f w table N lacks)
      go m name (inr ne) = spare.unnamed m (sym (placed.names_kept m ne) ∙ name)

  -- no L1 entry is written
  tables_stay : (i : ℕ) → i < h.l1_size → l1_entry U i ≡ l1_entry T i
  tables_stay = tables_by_names h F G cap header_is sound_is placed.header placed.sound (λ i lt. placed.names_kept (l1_position T i) (behind_blocks i))
    where
      behind_blocks : (i : ℕ) → l1_position T i ≢ block_position T k
      behind_blocks i e = omega (arith, e, low)

  -- ---- the file after the write

  one : sectors_in bytes ≡ 1
  one = one_long bytes long'

  new_is : with_sector A (sector_of bytes 0) f.stable ≡ s'
  new_is = ap (λ x. with_sector A x f.stable) (one_piece bytes long') ∙ ap (with_sector A bytes) (sym (settled_seen host f settled))

  abbrev f' : File
  f' = wrote (λ _. true) host A bytes f

  abbrev g0 : File
  g0 = synced host f'

  pub block_has : HasBlock l host g0 w b
  block_has =
      let after = between_synced host f.stable (with_sector A (sector_of bytes 0) f.stable) f' (between_written host A bytes f settled one) in
      let medium : on_medium g0 ≡ G = ap (file_of n) (after.1 ∙ new_is) in
      let sees : as_seen host g0 ≡ G = settled_medium host g0 after.0 ∙ medium in
      record {
        ready = record {
          writer = anew l l host f g0 knows (record { place = refl; greatest = refl; length = refl; mapped = refl; bits = refl }) refl after.0 (subst (λ (x : image.File). KnowsNumbers l x) (sym medium) numbers);
          serves = record {
            inside = lacks.ready.serves.inside;
            low = lacks.ready.serves.low;
            counted = lacks.ready.serves.counted;
            rising = lacks.ready.serves.rising;
            spare = λ i lt within. subst (λ (x : image.File). IsSpare (laws.layer l.work.header x) cap (slice_index (listed w.chosen) i * c)) (sym sees) (spare_still (slice_index (listed w.chosen) i * c) (lacks.ready.serves.spare i lt within));
            taken = lacks.ready.serves.taken;
            left = lacks.ready.serves.left;
          };
        };
        place = ap (λ (x : image.File). block_place (laws.layer l.work.header x) k) sees ∙ place_now;
        there = some_b;
      }

  module _ (did : ℕ → Bool) where
    either : (g : File) → IsFileOutcome (wrote did host A bytes f) g → (on_medium g ≡ F) ⊎ (on_medium g ≡ G)
    either g out = go (either_on_each did host A bytes f settled one g out)
      where
        go : (g.stable ≡ f.stable) ⊎ (g.stable ≡ with_sector A (sector_of bytes 0) f.stable) → (on_medium g ≡ F) ⊎ (on_medium g ≡ G)
        go (inl e) = inl (ap (λ z. file_of z g.stable) out.size ∙ ap (file_of n) (e ∙ sym (settled_seen host f settled)))
        go (inr e) = inr (ap (λ z. file_of z g.stable) out.size ∙ ap (file_of n) (e ∙ new_is))

    pub enters_sound : OnEach (wrote did host A bytes f) (λ g. IsSound (on_medium g) cap)
    enters_sound g out = go (either g out)
      where
        go : (on_medium g ≡ F) ⊎ (on_medium g ≡ G) → IsSound (on_medium g) cap
        go (inl e) = subst (λ (x : image.File). IsSound x cap) (sym e) sound_is
        go (inr e) = subst (λ (x : image.File). IsSound x cap) (sym e) placed.sound

    pub enters_comes : ComesBy (HoldSame h cap) f (wrote did host A bytes f)
    enters_comes g out = (f, settled_itself f settled, subst (λ (x : image.File). HoldSame h cap x (on_medium g)) (settled_medium host f settled) (go (either g out)))
      where
        go : (on_medium g ≡ F) ⊎ (on_medium g ≡ G) → HoldSame h cap F (on_medium g)
        go (inl e) = subst (λ (x : image.File). HoldSame h cap F x) (sym e) (holds_itself h cap F)
        go (inr e) = subst (λ (x : image.File). HoldSame h cap F x) (sym e) holds

    pub enters_left : IsLeft l host (wrote did host A bytes f)
    enters_left = record { alone = alone_writes did host A bytes f knows.knows.alone; made = settled.fresh; sound = enters_sound }

  -- spare places, once the entry is written
  stays : StaySpare l l host f f'
  stays = record {
    spare = λ place is. subst (λ (x : image.File). IsSpare (laws.layer l.work.header x) cap place) (sym sees_now) (spare_still place is);
    unnamed = λ place is g out. on_either place is g (either (λ _. true) g out);
    tables = λ i lt. ap (λ (x : image.File). l1_entry (laws.layer l.work.header x) i) sees_now ∙ tables_stay i lt;
  }
    where
      sees_now : as_seen host f' ≡ G
      sees_now = ap (file_of n) ((between_written host A bytes f settled one).sees ∙ new_is)

      on_either : (place : ℕ) → IsSpare T cap place → (g : File) → (on_medium g ≡ F) ⊎ (on_medium g ≡ G) → laws.IsUnnamed (laws.layer l.work.header (on_medium g)) cap place
      on_either place is g (inl e) = subst (λ (x : image.File). laws.IsUnnamed (laws.layer l.work.header x) cap place) (sym e) is.unnamed
      on_either place is g (inr e) = subst (λ (x : image.File). laws.IsUnnamed (laws.layer l.work.header x) cap place) (sym e) (spare_still place is).unnamed

  pub enters_on : (faults : ℕ) (d e : Content) → d.file l.target.place ≡ Some f → WriteAt d host l.target.place A bytes (Ok tt) e → StepsIn l l host faults (Settled w table) (More (Entered w b)) f d e
  enters_on faults d e there call =
      let same : call.0 ≡ f = same_file d l.target.place f call.0 there call.1 in
      record {
        now = f';
        put = subst (λ (x : File). IsPut d l.target.place (Some (wrote (λ _. true) host A bytes x)) e) same call.3;
        comes = enters_comes (λ _. true);
        after = (
          record {
            alone = alone_writes (λ _. true) host A bytes f knows.knows.alone;
            made = settled.fresh;
            sound = enters_sound (λ _. true);
            after = block_has;
          },
          tt,
        );
        spare = stays;
      }

  pub enter_fails : (faults : ℕ) (a : DiskAnswer) (d e : Content) → d.file l.target.place ≡ Some f → WriteAt d host l.target.place A bytes (Err a) e → StepsIn l l host faults (Settled w table) (Ended tt (refusal_of a faults)) f d e
  enter_fails faults a d e there call = failed_write l host faults (Settled w table) f d e there a A bytes call (omega (arith, one, A_inside)) (writer_left l host f knows) enters_left enters_comes

-- ---- what the code computes

pub block_value : (l : Layer) (host n bp : ℕ) (w : Work) (table : List ℕ) (f : File) → LacksBlock l host f w table n → bp ≡ block_place_of l (current_of w) → bp ≡ first_place l w
block_value l host n bp w table f lacks is =
    let fits = first_inside l host f w table n lacks in
    let few = lacks.ready.writer.knows.fits in
    let pos = pow_pos l.work.header.cluster_bits in
    is ∙ omega (arith, fits, few, pos)

pub entry_bytes : (l : Layer) (host n at bp : ℕ) (w : Work) (table bytes : List ℕ) (f : File) → LacksBlock l host f w table n → at ≡ entry_place_of l (current_of w) → bp ≡ block_place_of l (current_of w)
    → bytes ≡ put (at % 512 / 8 * 8) (bytes_of 8 bp) table → bytes ≡ put (entry_place_of l (current_of w) % 512 / 8 * 8) (bytes_of 8 (first_place l w)) table
entry_bytes l host n at bp w table bytes f lacks e e' is =
    is ∙ ap (λ a. put (a % 512 / 8 * 8) (bytes_of 8 bp) table) e ∙ ap (λ p. put (entry_place_of l (current_of w) % 512 / 8 * 8) (bytes_of 8 p) table) (block_value l host n bp w table f lacks e')

pub entry_row : (a at : ℕ) → at ≡ a → at / 512 * 512 / 512 ≡ a / 512
entry_row a at e = omega (arith, e)
