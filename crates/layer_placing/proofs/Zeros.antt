-- Writing the cluster that becomes a block.
use Rattle.std.proofs.Common.{◌≡◌, ◌≢◌, ◌⊎◌, inl, inr, ℕ, zero, suc, ◌+◌, ◌-◌, ◌*◌, ◌/◌, ◌%◌, ◌^◌, ◌<◌, ◌≤◌, ◌==◌, ◌∷◌, [], min, Bool, true, false, List, length, take, drop, get_or, set, Option, Some, Ok, Err, refl, sym, ap, ◌∙◌, subst, arith, eq-eqb, ne_eqb, replicate}
use Rattle.std.specs.Prelude.{slice_index, if◌then◌else◌, unwrap_or}
use Rattle.std.proofs.lemmas.Bool.{cases_lt}
use Rattle.std.proofs.lemmas.List.{get_or-drop, get_or-take, get_or-set_other, get_or-set_same}
use Rattle.std.proofs.lemmas.Nat.{pow_pos, pow-add}
use Rattle.std.proofs.Math.Nat.{div-add-mod, mul_comm, mul-div_cancel, mul-le-mul_right, mul-mod_left}
use Rattle.sd_names.specs.declared.turn.Turn.TheVariants.{Ended, More}
use Rattle.shared_disk.specs.Calls.{IsPut, WriteAt, sectors_in, wrote}
use Rattle.shared_disk.specs.Content.{Content, File, sector_of, seen}
use Rattle.shared_disk.specs.Refusal.{refusal_of}
use Rattle.shared_disk.specs.WellFormed.{IsWellFormedFile}
use Rattle.shared_disk.specs.declared.disk.DiskAnswer.{DiskAnswer}
use Rattle.shared_disk.proofs.OwnWrites.{own_outside, own_within}
use Rattle.qcow_format.specs.Bytes.{number}
use Rattle.qcow_format.proofs.New.{number-zeros}
use Rattle.qcow_format.proofs.Put.{number-same}
use Rattle.image_model.specs.Layer.{Tables, block_at, block_place, count_of, l1_entry}
use Rattle.layer_laws.specs.Laws as laws
use Rattle.layer_laws.specs.Laws.{IsUnnamed, SameContent}
use Rattle.layer_laws.proofs.Positions.{same_or_not}
use Rattle.layer_laws.proofs.Sound.{clean_of}
use Rattle.qcow_layer.specs.declared.layer.Layer.{Layer}
use Rattle.qcow_layer.proofs.Pieces.{same_file}
use Rattle.layer_writing.specs.Holding.{IsInCluster, IsSpare, as_seen}
use Rattle.layer_writing.proofs.Known.{spare_stays}
use Rattle.layer_writing.proofs.OfLayers.{unnamed_comes, unnamed_knows, unnamed_same}
use Rattle.layer_placing.specs.Chosen.{listed}
use Rattle.layer_placing.specs.Knows.{IsChoice, IsRoom, KnowsIn, chosen_in, LacksBlock, Ready, StepsIn, first_place, own_count, range_of}
use Rattle.layer_placing.specs.Stages.{block_place_of, current_of, entry_place_of, span_of}
use Rattle.layer_placing.specs.declared.stage.Stage.{Stage}
use Rattle.layer_placing.specs.declared.stage.Stage.TheVariants.{Zeroed, Zeroing}
use Rattle.layer_placing.specs.declared.stage.Work.{Work}
use Rattle.layer_placing.proofs.Ends.{failed_write, stay_known, writer_left}
use Rattle.layer_placing.proofs.Finds.{entry_at_is}
use Rattle.layer_placing.proofs.Tables.{entry_elsewhere}
use Rattle.layer_laws.proofs.Numbers.{cluster_sectors, whole_sector}
use Rattle.image_model.specs.File.{file_of}
use Rattle.std.proofs.Math.Nat.{mul-le-mul_left, pow-le-pow_right}
use Rattle.std.specs.Int.{div_ceil}
use Rattle.std.proofs.lemmas.Grind.{div_ceil_times}
use Rattle.std.proofs.lemmas.List.{length-take}
use Rattle.layer_placing.proofs.Widths.{whole, wide}

-- ---- pieces

-- a cluster is so many whole pieces
pub pieces_whole : (bits : ℕ) → 12 ≤ bits → (q : ℕ) × (2 ^ bits ≡ q * min (2 ^ bits) 65536)
pieces_whole bits low = go (cases_lt 16 bits)
  where
    go : (16 < bits) ⊎ (bits ≤ 16) → (q : ℕ) × (2 ^ bits ≡ q * min (2 ^ bits) 65536)
    go (inl lt) =
        let split : bits ≡ (bits - 16) + 16 = omega (arith, lt) in
        let is : 2 ^ bits ≡ 2 ^ (bits - 16) * 65536 = ap (λ n. 2 ^ n) split ∙ pow-add 2 (bits - 16) 16 in
        let some : 0 < 2 ^ (bits - 16) = pow_pos (bits - 16) in
        let big : min (2 ^ bits) 65536 ≡ 65536 = omega (arith, is, some) in
        (2 ^ (bits - 16), is ∙ ap (λ n. 2 ^ (bits - 16) * n) (sym big))
    go (inr le) =
        let small : 2 ^ bits ≤ 65536 = pow-le-pow_right (omega arith) le in
        let is : min (2 ^ bits) 65536 ≡ 2 ^ bits = omega (arith, small) in
        let one : 2 ^ bits ≡ 1 * min (2 ^ bits) 65536 = omega (arith, is) in
        (1, one)

-- a piece that begins in it lies in it
pub piece_fits : (c size q piece : ℕ) → c ≡ q * size → piece * size < c → piece * size + size ≤ c
piece_fits c size q piece is lt = go (cases_lt piece q)
  where
    go : (piece < q) ⊎ (q ≤ piece) → piece * size + size ≤ c
    go (inl low) =
        let rows : (piece + 1) * size ≤ q * size = mul-le-mul_right size (omega (arith, low)) in
        let one : (piece + 1) * size ≡ piece * size + size = omega arith in
        omega (arith, rows, one, is)
    go (inr le) = let rows : q * size ≤ piece * size = mul-le-mul_right size le in absurd (omega (arith, rows, is, lt))

-- ---- its numbers

-- a number of zeros
zeros_number : (xs : List ℕ) (at : ℕ) → ((k : ℕ) → at ≤ k → k < at + 2 → get_or xs k 0 ≡ 0) → number 2 at xs ≡ 0
zeros_number xs at zeros = number-same 2 at xs (replicate {A = ℕ} 0 0) (λ k le lt. zeros k le lt) ∙ number-zeros 2 at 0

one_number : (xs : List ℕ) → get_or xs 0 0 ≡ 0 → get_or xs 1 0 ≡ 1 → number 2 0 xs ≡ 1
unfolding number
one_number xs a b = number-same 2 0 xs (0 ∷ 1 ∷ []) (λ k le lt. go k lt) ∙ refl
  where
    go : (k : ℕ) → k < 0 + 2 → get_or xs k 0 ≡ get_or (0 ∷ 1 ∷ []) k 0
    go zero lt = a
    go (suc zero) lt = b
    go (suc (suc k)) lt = absurd (omega (arith, lt))

zero_byte : (n k : ℕ) → get_or (replicate {A = ℕ} n 0) k 0 ≡ 0
zero_byte zero k = refl
zero_byte (suc n) zero = refl
zero_byte (suc n) (suc k) = zero_byte n k

pub room_plain : (n : ℕ) (xs : List ℕ) → xs ≡ replicate {A = ℕ} n 0 → IsRoom false xs
room_plain n xs is = record { own = λ e. absurd cc; zeros = λ i out. ap (λ (ys : List ℕ). get_or ys i 0) is ∙ zero_byte n i }

pub room_marked : (n : ℕ) (xs : List ℕ) → xs ≡ replicate {A = ℕ} n 0 → 1 < n → length xs ≡ n → IsRoom true (set xs 1 1)
room_marked n xs is some long = record {
  own = λ e. get_or-set_same xs 1 1 0 (omega (arith, some, long));
  zeros = λ i out. go i out;
}
  where
    go : (i : ℕ) → (◌≡◌ {A = Bool} true false) ⊎ (i ≢ 1) → get_or (set xs 1 1) i 0 ≡ 0
    go i (inl e) = absurd cc
    go i (inr ne) = get_or-set_other xs 1 i 1 0 ne ∙ ap (λ (ys : List ℕ). get_or ys i 0) is ∙ zero_byte n i

byte_of : (room : List ℕ) (size j i : ℕ) → 512 * (j + 1) ≤ size → i < 512 → get_or (sector_of (take size room) j) i 0 ≡ get_or room (512 * j + i) 0
byte_of room size j i within lt =
    get_or-take 512 (drop (512 * j) (take size room)) i 0 lt ∙ get_or-drop (512 * j) (take size room) i 0 ∙ get_or-take size room (512 * j + i) 0 (omega (arith, within, lt))

-- the counts in the sectors of a piece
pub piece_count : (first : Bool) (room : List ℕ) (size i j m : ℕ) → IsRoom first room → (first ≡ true → i ≡ j) → (first ≡ false → 0 < i) → 512 * (j + 1) ≤ size → m < 256
    → number 2 (m * 2) (sector_of (take size room) j) ≡ own_count i m
piece_count first room size i j m is begin after within lt = go first refl
  where
    zero_at : (k : ℕ) → m * 2 ≤ k → k < m * 2 + 2 → (first ≡ false) ⊎ (512 * j + k ≢ 1) → get_or (sector_of (take size room) j) k 0 ≡ 0
    zero_at k le high out = byte_of room size j k within (omega (arith, high, lt)) ∙ is.zeros (512 * j + k) out

    none : (i + m ≡ 0 → ⊥) → own_count i m ≡ 0
    none some = ap (λ (b : Bool). if b then 1 else 0) (ne_eqb (i + m) 0 some)

    first_one : first ≡ true → (i + m ≡ 0) ⊎ (i + m ≢ 0) → number 2 (m * 2) (sector_of (take size room) j) ≡ own_count i m
    first_one e (inl start) =
        let same = begin e in
        let at : m * 2 ≡ 0 = omega (arith, start) in
        let front : j ≡ 0 = omega (arith, start, same) in
        ap (λ a. number 2 a (sector_of (take size room) j)) at
        ∙ one_number (sector_of (take size room) j)
        (byte_of room size j 0 within (omega arith) ∙ is.zeros (512 * j + 0) (inr (λ z. omega (arith, front, z))))
        (byte_of room size j 1 within (omega arith) ∙ ap (λ k. get_or room (512 * k + 1) 0) front ∙ is.own e)
        ∙ sym (ap (λ (b : Bool). if b then 1 else 0) (eq-eqb (i + m) 0 start))
    first_one e (inr some) =
        let same = begin e in
        zeros_number (sector_of (take size room) j) (m * 2) (λ k le high. zero_at k le high (inr (λ z. some (omega (arith, z, le, same))))) ∙ sym (none some)

    go : (b : Bool) → first ≡ b → number 2 (m * 2) (sector_of (take size room) j) ≡ own_count i m
    go true e = first_one e (same_or_not (i + m) 0)
    go false e =
        let pos = after e in
        zeros_number (sector_of (take size room) j) (m * 2) (λ k le high. zero_at k le high (inl e)) ∙ sym (none (λ z. omega (arith, z, pos)))

-- ---- the cluster is named by nothing

same_size : (f : File) (s s' : ℕ → List ℕ) → (file_of f.size s').size ≡ (file_of f.size s).size
unfolding file_of
same_size f s s' = refl

module _ (l : Layer) (host : ℕ) (f : File) (w : Work) (table : List ℕ) (n : ℕ) (lacks : LacksBlock l host f w table n) where
  abbrev c : ℕ
  c = 2 ^ l.work.header.cluster_bits

  abbrev T : Tables
  T = laws.layer l.work.header (as_seen host f)

  abbrev span : ℕ
  span = span_of l

  abbrev k : ℕ
  k = range_of l w

  abbrev b : ℕ
  b = first_place l w

  span_some : 0 < span
  span_some = go c (wide l.work.header.cluster_bits l.work.low)
    where
      go : (c : ℕ) → 4096 ≤ c → 0 < c / 2
      go c le = omega (arith, le)

  pub first_cluster : b / c ≡ k * span
  first_cluster = mul-div_cancel (k * span) (pow_pos l.work.header.cluster_bits)

  pub first_range : b / c / span ≡ k
  first_range = ap (λ n. n / span) first_cluster ∙ mul-div_cancel k span_some

  pub first_begins : b % c ≡ 0
  first_begins = mul-mod_left (k * span) c

  -- a cluster of the range has no count
  pub no_count : (x : ℕ) → x / span ≡ k → count_of T x ≡ 0
  no_count x e = ap (λ p. if p == 0 then 0 else (as_seen host f).half (p / 2 + x % span)) (ap (block_place T) e ∙ lacks.none)

  pub first_unnamed : IsUnnamed T l.target.capacity b
  first_unnamed m name =
      let some = (clean_of (as_seen host f) l.target.capacity l.work.header lacks.ready.writer.knows.numbers.header lacks.ready.writer.knows.numbers.sound m).counted b name in
      let none = no_count (b / c) first_range in
      omega (arith, some, none)

  pub first_inside : b + c ≤ 512 * f.size
  first_inside =
      let cur = lacks.ready.serves.inside w.done w.more in
      let split = div-add-mod (current_of w) span in
      let turn = mul_comm k span in
      let le : k * span ≤ current_of w = omega (arith, split, turn) in
      let rows : k * span * c ≤ current_of w * c = mul-le-mul_right c le in
      omega (arith, rows, cur)

  module _ (did : ℕ → Bool) (at : ℕ) (bytes : List ℕ) (formed : IsWellFormedFile f) (inside : IsInCluster c b at bytes) where
    abbrev f' : File
    f' = wrote did host at bytes f

    content : SameContent l.work.header l.target.capacity (as_seen host f) (as_seen host f')
    content = unnamed_same l did host at b bytes f formed lacks.ready.writer inside first_unnamed

    pub spare_after : (place : ℕ) → IsSpare T l.target.capacity place → IsSpare (laws.layer l.work.header (as_seen host f')) l.target.capacity place
    spare_after place = spare_stays l.work.header l.target.capacity place (as_seen host f) (as_seen host f') content (same_size f (seen host f) (seen host f'))

    pub tables_after : (i : ℕ) → i < l.work.header.l1_size → l1_entry (laws.layer l.work.header (as_seen host f')) i ≡ l1_entry T i
    tables_after i lt = content.same.tables i lt

    pub ready_after : Ready l host f' w
    ready_after = record {
      writer = unnamed_knows l did host at b bytes f formed lacks.ready.writer inside first_unnamed;
      serves = record {
        inside = lacks.ready.serves.inside;
        low = lacks.ready.serves.low;
        counted = lacks.ready.serves.counted;
        rising = lacks.ready.serves.rising;
        spare = λ i low lt. spare_after (slice_index (listed w.chosen) i * c) (lacks.ready.serves.spare i low lt);
        taken = lacks.ready.serves.taken;
        left = lacks.ready.serves.left;
      };
    }

    pub none_after : block_place (laws.layer l.work.header (as_seen host f')) k ≡ 0
    none_after = content.same.blocks k ∙ lacks.none

    pub entry_after : table ≡ seen host f' (entry_place_of l (current_of w) / 512)
    entry_after = lacks.entry ∙ sym (ap (λ (o : Option (List ℕ)). unwrap_or o (f.stable (entry_place_of l (current_of w) / 512))) (own_outside did host at (sectors_in bytes) (entry_place_of l (current_of w) / 512) bytes f.loose (go away)))
      where
        away : (block_at T k / 512 < b / 512) ⊎ ((b + c) / 512 ≤ block_at T k / 512)
        away = entry_elsewhere l.work.header l.target.capacity f.size (seen host f) lacks.ready.writer.knows.numbers.header lacks.ready.writer.knows.numbers.sound lacks.ready.writer.whole k (lacks.ready.serves.counted w.done w.more) b first_begins first_unnamed

        go : (block_at T k / 512 < b / 512) ⊎ ((b + c) / 512 ≤ block_at T k / 512) → (entry_place_of l (current_of w) / 512 < at) ⊎ (at + sectors_in bytes ≤ entry_place_of l (current_of w) / 512)
        go (inl lt) = inl (omega (arith, lt, inside.low, entry_at_is l host f w lacks.ready))
        go (inr le) = inr (omega (arith, le, inside.high, entry_at_is l host f w lacks.ready))

-- ---- a piece

module _ (l : Layer) (host faults piece at size : ℕ) (w : Work) (table room : List ℕ) (first : Bool) (f : File) (d e : Content) (there : d.file l.target.place ≡ Some f)
    (known : KnowsIn l host f (Zeroing w table piece)) (formed : IsWellFormedFile f) (is : IsRoom first room) (begin : first ≡ true → piece ≡ 0) (after : first ≡ false → 0 < piece)
    (long : length room ≡ 65536) (size_is : size ≡ min (2 ^ l.work.header.cluster_bits) 65536)
    (at_is : at ≡ first_place l w / 512 + piece * (size / 512)) where
  abbrev c' : ℕ
  c' = 2 ^ l.work.header.cluster_bits

  abbrev b' : ℕ
  b' = first_place l w

  abbrev u : ℕ
  u = size / 512

  abbrev bytes : List ℕ
  bytes = take size room

  lacks : LacksBlock l host f w table (piece * u)
  lacks = subst (λ n. LacksBlock l host f w table (piece * (n / 512))) (sym size_is) known.0

  begun : piece * size < c'
  begun = subst (λ n. piece * n < c') (sym size_is) known.1

  even : size ≡ 512 * u
  even = go c' (whole l.work.header.cluster_bits l.work.low) size size_is
    where
      go : (c : ℕ) → c % 512 ≡ 0 → (s : ℕ) → s ≡ min c 65536 → s ≡ 512 * (s / 512)
      go c e s is = omega (arith, e, is)

  some_u : 0 < u
  some_u = go c' size (wide l.work.header.cluster_bits l.work.low) size_is
    where
      go : (c s : ℕ) → 4096 ≤ c → s ≡ min c 65536 → 0 < s / 512
      go c s le is = omega (arith, le, is)

  length_is : length bytes ≡ size
  length_is = let e = length-take size room in omega (arith, e, long, size_is)

  count_is : sectors_in bytes ≡ u
  count_is = ap (λ n. n / 512) length_is

  within : piece * size + size ≤ c'
  within = let q = pieces_whole l.work.header.cluster_bits l.work.low in piece_fits c' size q.0 piece (q.1 ∙ ap (λ n. q.0 * n) (sym size_is)) begun

  row : piece * size ≡ 512 * (piece * u)
  row = ap (λ n. piece * n) even ∙ go piece u
    where
      go : (a b : ℕ) → a * (512 * b) ≡ 512 * (a * b)
      go a b = omega arith

  place_even : b' % 512 ≡ 0
  place_even = go b' c' (2 ^ (l.work.header.cluster_bits - 9)) (cluster_sectors l.work.header.cluster_bits l.work.low) (first_begins l host f w table (piece * u) lacks)
    where
      go : (p c q : ℕ) → c ≡ 512 * q → p % c ≡ 0 → p % 512 ≡ 0
      go p c q is e = whole_sector p c q is e

  inside : IsInCluster c' b' at bytes
  inside = record {
    begins = first_begins l host f w table (piece * u) lacks;
    low = omega (arith, at_is, place_even);
    high = omega (arith, at_is, place_even, count_is, row, within, even);
  }

  fits : at + sectors_in bytes ≤ f.size
  fits = let room' = first_inside l host f w table (piece * u) lacks in let high = inside.high in omega (arith, room', high)

  abbrev g : File
  g = wrote (λ _. true) host at bytes f

  written : (i m : ℕ) → i < piece * u + u → m < 256 → number 2 (m * 2) (seen host g (b' / 512 + i)) ≡ own_count i m
  written i m lt low = go (cases_lt i (piece * u))
    where
      go : (i < piece * u) ⊎ (piece * u ≤ i) → number 2 (m * 2) (seen host g (b' / 512 + i)) ≡ own_count i m
      go (inl old) =
          ap (λ (o : Option (List ℕ)). number 2 (m * 2) (unwrap_or o (f.stable (b' / 512 + i)))) (own_outside (λ _. true) host at (sectors_in bytes) (b' / 512 + i) bytes f.loose (inl (omega (arith, old, at_is))))
          ∙ lacks.written i m old low
      go (inr new) =
          let index : b' / 512 + i - at ≡ i - piece * u = omega (arith, new, at_is) in
          ap (λ (o : Option (List ℕ)). number 2 (m * 2) (unwrap_or o (f.stable (b' / 512 + i))))
          (own_within host at (sectors_in bytes) (b' / 512 + i) bytes f.loose (omega (arith, new, at_is)) (omega (arith, lt, at_is, count_is)))
          ∙ ap (λ j. number 2 (m * 2) (sector_of bytes j)) index
          ∙ piece_count first room size i (i - piece * u) m is (λ e. first_index (begin e)) (λ e. later (after e) some_u new) (omega (arith, lt, new, even)) low
        where
          nothing : (a : ℕ) → 0 * a ≡ 0
          nothing a = omega arith

          first_index : piece ≡ 0 → i ≡ i - piece * u
          first_index z = let n : piece * u ≡ 0 = ap (λ a. a * u) z ∙ nothing u in omega (arith, n)

          later : 0 < piece → 0 < u → piece * u ≤ i → 0 < i
          later p q le = let one : 1 * u ≤ piece * u = mul-le-mul_right u p in omega (arith, one, q, le)

  now : (n : ℕ) → n ≤ piece * u + u → LacksBlock l host g w table n
  now n le = record {
    ready = ready_after l host f w table (piece * u) lacks (λ _. true) at bytes formed inside;
    none = none_after l host f w table (piece * u) lacks (λ _. true) at bytes formed inside;
    entry = entry_after l host f w table (piece * u) lacks (λ _. true) at bytes formed inside;
    written = λ i m lt low. written i m (omega (arith, lt, le)) low;
  }

  module _ (call : WriteAt d host l.target.place at bytes (Ok tt) e) where
    goes_on : (next : Stage) → KnowsIn l host g next → IsChoice l host f (Zeroing w table piece) (chosen_in next) → StepsIn l l host faults (Zeroing w table piece) (More next) f d e
    goes_on next knows choice =
        let same : call.0 ≡ f = same_file d l.target.place f call.0 there call.1 in
        record {
          now = g;
          put = subst (λ (x : File). IsPut d l.target.place (Some (wrote (λ _. true) host at bytes x)) e) same call.3;
          comes = unnamed_comes l (λ _. true) host at b' bytes f formed lacks.ready.writer inside (first_unnamed l host f w table (piece * u) lacks);
          after = (knows, choice);
          spare = stay_known l l host f g (ready_after l host f w table (piece * u) lacks (λ _. true) at bytes formed inside).writer (spare_after l host f w table (piece * u) lacks (λ _. true) at bytes formed inside)
              (tables_after l host f w table (piece * u) lacks (λ _. true) at bytes formed inside);
        }

    pub writes_more : (piece + 1) * size < c' → StepsIn l l host faults (Zeroing w table piece) (More (Zeroing w table (piece + 1))) f d e
    writes_more lt =
        let more : (piece + 1) * u ≡ piece * u + u = omega arith in
        goes_on (Zeroing w table (piece + 1))
        (subst (λ n. LacksBlock l host g w table ((piece + 1) * (n / 512))) size_is (now ((piece + 1) * u) (omega (arith, more))), subst (λ n. (piece + 1) * n < c') size_is lt) tt

    pub writes_last : c' ≤ (piece + 1) * size → StepsIn l l host faults (Zeroing w table piece) (More (Zeroed w table)) f d e
    writes_last le =
        let one : (piece + 1) * size ≡ piece * size + size = omega arith in
        goes_on (Zeroed w table) (now (c' / 512) (omega (arith, le, one, row, even))) tt

  pub piece_fails : (a : DiskAnswer) → WriteAt d host l.target.place at bytes (Err a) e → StepsIn l l host faults (Zeroing w table piece) (Ended tt (refusal_of a faults)) f d e
  piece_fails a call = failed_write l host faults (Zeroing w table piece) f d e there a at bytes call fits (writer_left l host f lacks.ready.writer)
      (λ did. writer_left l host (wrote did host at bytes f) (unnamed_knows l did host at b' bytes f formed lacks.ready.writer inside (first_unnamed l host f w table (piece * u) lacks)))
      (λ did. unnamed_comes l did host at b' bytes f formed lacks.ready.writer inside (first_unnamed l host f w table (piece * u) lacks))

-- ---- what the code computes

numbers_at : (b s bp sm at pu : ℕ) → b + s < 2 ^ 64 → bp ≡ min b (2 ^ 64 - 1) → sm ≡ min s (2 ^ 64 - 1) → at ≡ min (bp + sm) (2 ^ 64 - 1) → b % 512 ≡ 0 → s ≡ 512 * pu → at / 512 * 512 / 512 ≡ b / 512 + pu
numbers_at b s bp sm at pu lt e f g even is = omega (arith, lt, e, f, g, even, is)

pub piece_at : (l : Layer) (host piece size bp sm at : ℕ) (w : Work) (table : List ℕ) (f : File) → KnowsIn l host f (Zeroing w table piece) → size ≡ min (2 ^ l.work.header.cluster_bits) 65536
    → bp ≡ block_place_of l (current_of w) → sm ≡ min (piece * size) (2 ^ 64 - 1) → at ≡ min (bp + sm) (2 ^ 64 - 1) → at / 512 * 512 / 512 ≡ first_place l w / 512 + piece * (size / 512)
piece_at l host piece size bp sm at w table f known size_is e e' e'' =
    numbers_at (first_place l w) (piece * size) bp sm at (piece * (size / 512)) low e e' e'' place_even row
  where
    n : ℕ
    n = piece * (min (2 ^ l.work.header.cluster_bits) 65536 / 512)

    begun : piece * size < 2 ^ l.work.header.cluster_bits
    begun = subst (λ n. piece * n < 2 ^ l.work.header.cluster_bits) (sym size_is) known.1

    low : first_place l w + piece * size < 2 ^ 64
    low = let a = first_inside l host f w table (piece * (min (2 ^ l.work.header.cluster_bits) 65536 / 512)) known.0 in let b = known.0.ready.writer.knows.fits in omega (arith, a, b, begun)

    place_even : first_place l w % 512 ≡ 0
    place_even = whole_sector (first_place l w) (2 ^ l.work.header.cluster_bits) (2 ^ (l.work.header.cluster_bits - 9)) (cluster_sectors l.work.header.cluster_bits l.work.low)
        (first_begins l host f w table (piece * (min (2 ^ l.work.header.cluster_bits) 65536 / 512)) known.0)

    even : size ≡ 512 * (size / 512)
    even = go (2 ^ l.work.header.cluster_bits) (whole l.work.header.cluster_bits l.work.low) size size_is
      where
        go : (c : ℕ) → c % 512 ≡ 0 → (s : ℕ) → s ≡ min c 65536 → s ≡ 512 * (s / 512)
        go c e s is = omega (arith, e, is)

    row : piece * size ≡ 512 * (piece * (size / 512))
    row = ap (λ n. piece * n) even ∙ go piece (size / 512)
      where
        go : (a b : ℕ) → a * (512 * b) ≡ 512 * (a * b)
        go a b = omega arith

pub more_pieces : (c size piece q : ℕ) → size ≡ min c 65536 → q ≡ div_ceil c 65536 → piece < q - 1 → (piece + 1) * size < c
more_pieces c size piece q is e lt =
    let times = div_ceil_times c 65536 (omega arith) in
    let rows : (piece + 1) * size ≤ (piece + 1) * 65536 = mul-le-mul_left (piece + 1) (omega (arith, is)) in
    omega (arith, times.1, rows, lt, e)

pub last_piece : (c size piece q : ℕ) → size ≡ min c 65536 → q ≡ div_ceil c 65536 → q - 1 ≤ piece → c ≤ (piece + 1) * size
last_piece c size piece q is e le = go (cases_lt c 65536)
  where
    times : (c ≤ div_ceil c 65536 * 65536) × (div_ceil c 65536 * 65536 < c + 65536)
    times = div_ceil_times c 65536 (omega arith)

    go : (c < 65536) ⊎ (65536 ≤ c) → c ≤ (piece + 1) * size
    go (inl lt) =
        let same : size ≡ c = omega (arith, is, lt) in
        let rows : 1 * size ≤ (piece + 1) * size = mul-le-mul_right size (omega arith) in
        omega (arith, rows, same)
    go (inr big) =
        let same : size ≡ 65536 = omega (arith, is, big) in
        subst (λ n. c ≤ (piece + 1) * n) (sym same) (omega (arith, times.0, e, le))
