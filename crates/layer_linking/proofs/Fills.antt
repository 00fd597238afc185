-- A new table is filled: zeros, its entries, and a sync.
use Rattle.std.proofs.Common.{◌≡◌, ◌⊎◌, inl, inr, ℕ, ◌+◌, ◌-◌, ◌*◌, ◌/◌, ◌%◌, ◌^◌, ◌<◌, ◌≤◌, Bool, true, false, List, take, replicate, Option, Some, Ok, Err, refl, sym, ap, ◌∙◌, subst, arith, nat_lt}
use Rattle.std.specs.Prelude.{if◌then◌else◌, unwrap_or}
use Rattle.std.proofs.Math.Nat.{mul-le-mul_right}
use Rattle.std.proofs.lemmas.Bool.{cases_lt}
use Rattle.std.proofs.lemmas.Bool.Decides.{nat_tests}
use Rattle.std.proofs.lemmas.List.{drop-replicate, take-replicate, length-replicate}
use Rattle.sd_names.specs.declared.turn.Turn.{Turn}
use Rattle.sd_names.specs.declared.turn.Turn.TheVariants.{More}
use Rattle.shared_disk.specs.Content.{Content, File, sector_of, seen}
use Rattle.shared_disk.specs.Calls.{IsSame, sectors_in, synced, wrote}
use Rattle.shared_disk.specs.Crash.{IsFileOutcome, IsLaidOver}
use Rattle.shared_disk.specs.declared.disk.DiskAnswer.TheVariants.{NoFile, Exists, OutOfFile, NotEmpty, Failed}
use Rattle.shared_disk.proofs.Outcomes.{write_file}
use Rattle.shared_disk.proofs.OwnWrites.{own_within}
use Rattle.image_model.specs.File.{file_of}
use Rattle.image_model.specs.Layer.{Tables, entries}
use Rattle.layer_laws.specs.Laws as laws
use Rattle.layer_laws.specs.Laws.{SameOutside}
use Rattle.layer_laws.proofs.Numbers.{whole_sector}
use Rattle.link_laws.specs.Links.{IsNewTable, laid, sector_at}
use Rattle.link_laws.proofs.Words.{length_laid}
use Rattle.link_laws.proofs.Rows.{lies_whole}
use Rattle.layer_writing.specs.Holding.{with_sector}
use Rattle.layer_writing.proofs.Sectors.{alone_synced, alone_writes, laid_outside, outcome_laid, seen_laid, seen_one}
use Rattle.qcow_layer.specs.declared.layer.Layer.{Layer}
use Rattle.layer_linking.specs.Calls.{SyncsThen, WritesThen, at_stage, entries_sector, group_of, near, piece_sector, piece_size, pieces, stage_behind, table_of, to_of}
use Rattle.layer_linking.specs.Linking.{Fills, HasTable, IsFilling, IsLeftSo, IsLinkable, IsTable, KnowsStage, LinksOn, SeesZeros}
use Rattle.layer_linking.specs.declared.linking.Linking.{Linking}
use Rattle.layer_linking.specs.declared.linking.Stage.{Stage}
use Rattle.layer_linking.specs.declared.linking.Stage.TheVariants.{Filling, Zeroed, Filled, Synced}
use Rattle.layer_linking.proofs.Begins as begins
use Rattle.layer_linking.proofs.Ends.{one_sector}
use Rattle.layer_linking.proofs.Finds.{with_here, with_other}
use Rattle.layer_linking.proofs.Outcomes as outcomes
use Rattle.layer_linking.proofs.Sizes.{even_of, nought, pieces_fill}

-- a sector of zeros
zero_sector_of : (size j : ℕ) → 512 * j + 512 ≤ size → sector_of (replicate size nought) j ≡ replicate 512 nought
zero_sector_of size j le = ap (take 512) (drop-replicate (512 * j) size nought) ∙ take-replicate 512 (size - 512 * j) nought (omega (arith, le))

-- the sector of the entries is one of the table's
sector_high : (table column per c q one : ℕ) → table % 512 ≡ 0 → c ≡ 512 * q → c ≡ 8 * per → column < per → one ≡ 1 → (table + 8 * column) / 512 + one ≤ (table + c) / 512
sector_high table column per c q one even is width lt same = omega (arith, even, is, width, lt, same)

module _ (layer : Layer) (l : Linking) (host n : ℕ) (start : File) (d e : Content) (turn : Turn Linking (Unit {0}) (Unit {0})) (b : IsLinkable layer l host start)
    (table : ℕ) (given : table_of l ≡ Some table) where
  abbrev c : ℕ
  c = 2 ^ layer.work.header.cluster_bits

  abbrev T : Tables
  T = laws.layer layer.work.header (file_of start.size start.stable)

  new : IsNewTable T layer.target.capacity (to_of l) table
  new = (subst (λ (o : Option ℕ). HasTable T layer.target.capacity (group_of l) (to_of l) o) given b.table).1

  even : table % 512 ≡ 0
  even = whole_sector table c (2 ^ (layer.work.header.cluster_bits - 9)) (begins.sectors layer l host start b) new.counted.begins

  fits : table + c ≤ 512 * start.size
  fits = lies_whole table (512 * start.size) c new.counted.begins b.knows.whole (subst (λ (x : ℕ). table < x) (begins.size_of start.size start.stable) new.counted.fits)

  -- a write into the table's cluster, also one that failed
  module _ (f : File) (filling : IsFilling layer table host start f) (k : ℕ) (bytes : List ℕ) (low : table / 512 ≤ k) (high : k + sectors_in bytes ≤ (table + c) / 512) where
    apart : (x : ℕ) → (x < table / 512) ⊎ ((table + c) / 512 ≤ x) → (x < k) ⊎ (k + sectors_in bytes ≤ x)
    apart x (inl lt) = inl (omega (arith, lt, low))
    apart x (inr le) = inr (omega (arith, le, high))

    pub fills_on : (did : ℕ → Bool) → IsFilling layer table host start (wrote did host k bytes f)
    fills_on did = record {
      alone = alone_writes did host k bytes f filling.alone;
      made = filling.made;
      size = filling.size;
      each = λ g out x outside. each_now g (write_file did host k bytes f g out) x outside;
      sees = λ x outside. laid_outside k bytes (seen host f) (seen host (wrote did host k bytes f)) (seen_laid did host k bytes f) x (apart x outside) ∙ filling.sees x outside;
    }
      where
        each_now : (g : File) → (o : File) × IsFileOutcome f o × IsLaidOver did k bytes o g → (x : ℕ) → (x < table / 512) ⊎ ((table + c) / 512 ≤ x) → g.stable x ≡ start.stable x
        each_now g from x outside =
            laid_outside k bytes from.0.stable g.stable (outcome_laid did k bytes from.0 g from.2) x (apart x outside) ∙ filling.each from.0 from.1 x outside

    written_left : (did : ℕ → Bool) → e.file layer.target.place ≡ Some (wrote did host k bytes f) → IsLeftSo layer l host start e
    written_left did there = outcomes.filling_left layer l host start b table new (wrote did host k bytes f) e there (fills_on did)

    same_left : d.file layer.target.place ≡ Some f → IsSame d e → IsLeftSo layer l host start e
    same_left there same = outcomes.filling_left layer l host start b table new f e (ap (λ (x : Content). x.file layer.target.place) same ∙ there) filling

    -- the write leads to a stage, or meets a fault
    pub writes : (stage : Stage) → d.file layer.target.place ≡ Some f
        → (e.file layer.target.place ≡ Some (wrote (λ _. true) host k bytes f) → KnowsStage stage layer (at_stage l stage) host start e)
        → WritesThen l layer host k n bytes stage turn d e → LinksOn l layer host start turn e
    writes stage there next (Ok u, is, by) =
        let now = is.3.here ∙ ap (λ (x : File). Some (wrote (λ _. true) host k bytes x)) (outcomes.one_file is.0 f (d.file layer.target.place) is.1 there) in
        outcomes.goes_on l layer host start e turn stage b by (next now) (written_left (λ _. true) now)
    writes stage there next (Err Failed, inl same, by) = outcomes.faults l layer host n start e turn by (same_left there same)
    writes stage there next (Err Failed, inr part, by) =
        outcomes.faults l layer host n start e turn by
        (written_left part.3 (part.4.here ∙ ap (λ (x : File). Some (wrote part.3 host k bytes x)) (outcomes.one_file part.0 f (d.file layer.target.place) part.1 there)))
    writes stage there next (Err NoFile, is, by) = absurd (outcomes.no_file f (d.file layer.target.place) is.1 there)
    writes stage there next (Err OutOfFile, is, by) =
        let same : is.1.size ≡ start.size = ap (λ (x : File). x.size) (outcomes.one_file is.1 f (d.file layer.target.place) is.2 there) ∙ filling.size in
        let short = is.3 in
        let room = fits in
        absurd (omega (arith, same, short, high, room))
    writes stage there next (Err Exists, is, by) = absurd is
    writes stage there next (Err NotEmpty, is, by) = absurd is

  -- ---- zeros

  -- the sectors of a piece
  abbrev z : ℕ
  z = piece_size layer.work.header / 512

  abbrev size : ℕ
  size = piece_size layer.work.header

  size_is : size ≡ 512 * z
  size_is = let a = even_of layer.work.header.cluster_bits (begins.shape layer l host start b).low in omega (arith, a)

  cluster_is : c ≡ 512 * (pieces layer.work.header * z)
  cluster_is = sym (pieces_fill layer.work.header.cluster_bits (begins.shape layer l host start b).low) ∙ ap (λ (x : ℕ). pieces layer.work.header * x) size_is ∙ turned (pieces layer.work.header) z
    where
      turned : (p z : ℕ) → p * (512 * z) ≡ 512 * (p * z)
      turned p z = omega arith

  module _ (piece : ℕ) (lt : piece < pieces layer.work.header) where
    rows : (piece + 1) * z ≤ pieces layer.work.header * z
    rows = mul-le-mul_right z (omega (arith, lt))

    one_more : (piece + 1) * z ≡ piece * z + z
    one_more = omega arith

    place_is : piece * size ≡ 512 * (piece * z)
    place_is = ap (λ (x : ℕ). piece * x) size_is ∙ turned piece z
      where
        turned : (p z : ℕ) → p * (512 * z) ≡ 512 * (p * z)
        turned p z = omega arith

    sector_is : piece_sector layer.work.header table piece ≡ table / 512 + piece * z
    sector_is =
        let r = rows in let o = one_more in let p = place_is in let cl = cluster_is in let room = fits in let far = b.knows.knows.fits in let ev = even in
        let exact : near (table + piece * size) ≡ table + piece * size = begins.near_is (table + piece * size) (omega (arith, r, o, p, cl, room, far)) in
        ap (λ (x : ℕ). x / 512) exact ∙ omega (arith, p, ev)

    piece_high : table / 512 + piece * z + z ≤ (table + c) / 512
    piece_high = let r = rows in let o = one_more in let cl = cluster_is in let ev = even in omega (arith, r, o, cl, ev)

    count_is : sectors_in (replicate size nought) ≡ z
    count_is = ap (λ (x : ℕ). x / 512) (length-replicate size nought)

    more_zeros : (f : File) → SeesZeros host table (piece * z) f → SeesZeros host table ((piece + 1) * z) (wrote (λ _. true) host (table / 512 + piece * z) (replicate size nought) f)
    more_zeros f zeros x low high = go (cases_lt x (table / 512 + piece * z))
      where
        k : ℕ
        k = table / 512 + piece * z

        go : (x < table / 512 + piece * z) ⊎ (table / 512 + piece * z ≤ x) → seen host (wrote (λ _. true) host (table / 512 + piece * z) (replicate size nought) f) x ≡ replicate 512 nought
        go (inl below) =
            laid_outside k (replicate size nought) (seen host f) (seen host (wrote (λ _. true) host k (replicate size nought) f)) (seen_laid (λ _. true) host k (replicate size nought) f) x (inl below)
            ∙ zeros x low below
        go (inr above) =
            let o = one_more in let cn = count_is in let sz = size_is in
            ap (λ (o : Option (List ℕ)). unwrap_or o (f.stable x)) (own_within host k (sectors_in (replicate size nought)) x (replicate size nought) f.loose above (omega (arith, high, o, cn)))
            ∙ zero_sector_of size (x - k) (omega (arith, high, o, sz, above))

    pub zero_step : Fills layer l table host start d (SeesZeros host table (piece * z))
        → WritesThen l layer host (piece_sector layer.work.header table piece) n (replicate size nought) (stage_behind layer.work.header table piece) turn d e → LinksOn l layer host start turn e
    zero_step has made = go (cases_lt (piece + 1) (pieces layer.work.header))
      where
        k : ℕ
        k = table / 512 + piece * z

        bytes : List ℕ
        bytes = replicate size nought

        low : table / 512 ≤ k
        low = omega arith

        high : k + sectors_in bytes ≤ (table + c) / 512
        high = let p = piece_high in let cn = count_is in omega (arith, p, cn)

        to_stage : (stage : Stage) → stage_behind layer.work.header table piece ≡ stage → WritesThen l layer host k n bytes stage turn d e
        to_stage stage is =
            subst (λ (x : ℕ). WritesThen l layer host x n bytes stage turn d e) sector_is
            (subst (λ (s : Stage). WritesThen l layer host (piece_sector layer.work.header table piece) n bytes s turn d e) is made)

        filled : e.file layer.target.place ≡ Some (wrote (λ _. true) host k bytes has.file) → (stage : Stage) (count : ℕ) → count ≤ (piece + 1) * z
            → Fills layer (at_stage l stage) table host start e (SeesZeros host table count)
        filled there stage count le = record {
          given = given;
          file = wrote (λ _. true) host k bytes has.file;
          there = there;
          filling = fills_on has.file has.filling k bytes low high (λ _. true);
          holds = λ x from below. more_zeros has.file has.holds x from (omega (arith, below, le));
        }

        go : (piece + 1 < pieces layer.work.header) ⊎ (pieces layer.work.header ≤ piece + 1) → LinksOn l layer host start turn e
        go (inl more) =
            let t : nat_lt (piece + 1) (pieces layer.work.header) ≡ true = grind (arith, nat_tests) in
            let is : stage_behind layer.work.header table piece ≡ Filling table (piece + 1) = ap (λ (x : Bool). if x then Filling table (piece + 1) else Zeroed table) t in
            writes has.file has.filling k bytes low high (Filling table (piece + 1)) has.there
            (λ there. (more, filled there (Filling table (piece + 1)) ((piece + 1) * z) (omega arith))) (to_stage (Filling table (piece + 1)) is)
        go (inr last) =
            let t : nat_lt (piece + 1) (pieces layer.work.header) ≡ false = grind (arith, nat_tests) in
            let is : stage_behind layer.work.header table piece ≡ Zeroed table = ap (λ (x : Bool). if x then Filling table (piece + 1) else Zeroed table) t in
            let all : pieces layer.work.header * z ≤ (piece + 1) * z = mul-le-mul_right z last in
            let cl = cluster_is in
            writes has.file has.filling k bytes low high (Zeroed table) has.there (λ there. filled there (Zeroed table) (c / 512) (omega (arith, all, cl))) (to_stage (Zeroed table) is)

  -- ---- the entries

  pub entries_step : Fills layer l table host start d (SeesZeros host table (c / 512))
      → WritesThen l layer host (entries_sector layer.work.header (group_of l) table) n (laid (to_of l) (64 * group_of l) 64 (replicate 512 nought)) (Filled table) turn d e → LinksOn l layer host start turn e
  entries_step has made =
      writes has.file has.filling sec bytes low high (Filled table) has.there now (subst (λ (x : ℕ). WritesThen l layer host x n bytes (Filled table) turn d e) at.0 made)
    where
      sec : ℕ
      sec = sector_at T table (group_of l)

      bytes : List ℕ
      bytes = laid (to_of l) (64 * group_of l) 64 (replicate 512 nought)

      at : (entries_sector layer.work.header (group_of l) table ≡ sec) × (sec < start.size)
      at = begins.entries_at layer l host start b table fits new.counted.begins

      one : (sectors_in bytes ≡ 1) × (sector_of bytes 0 ≡ bytes)
      one = one_sector bytes (length_laid (to_of l) (64 * group_of l) 64 (replicate 512 nought) (length-replicate 512 nought) (omega arith))

      low : table / 512 ≤ sec
      low = omega arith

      high : sec + sectors_in bytes ≤ (table + c) / 512
      high =
          let col = begins.column_lt layer l host start b in let w = begins.width layer l host start b in let s = begins.sectors layer l host start b in
          let ev = even in let cn = one.0 in
          sector_high table (64 * group_of l % entries T) (entries T) c (2 ^ (layer.work.header.cluster_bits - 9)) (sectors_in bytes) ev s w col cn

      seen_now : seen host (wrote (λ _. true) host sec bytes has.file) ≡ with_sector sec bytes (seen host has.file)
      seen_now = seen_one host sec bytes has.file one.0 ∙ ap (λ (x : List ℕ). with_sector sec x (seen host has.file)) one.1

      now : e.file layer.target.place ≡ Some (wrote (λ _. true) host sec bytes has.file)
          → Fills layer (at_stage l (Filled table)) table host start e (λ f. IsTable layer (at_stage l (Filled table)) table (seen host f))
      now there = record {
        given = given;
        file = wrote (λ _. true) host sec bytes has.file;
        there = there;
        filling = fills_on has.file has.filling sec bytes low high (λ _. true);
        holds = record {
          here = ap (λ (s : ℕ → List ℕ). s sec) seen_now ∙ with_here sec sec bytes (seen host has.file) refl;
          others = λ k le lt ne.
              ap (λ (s : ℕ → List ℕ). s k) seen_now ∙ with_other sec k bytes (seen host has.file) ne
              ∙ has.holds k le (let ev = even in let s = begins.sectors layer l host start b in omega (arith, lt, ev, s));
        };
      }

  -- ---- the sync

  pub sync_step : Fills layer l table host start d (λ f. IsTable layer l table (seen host f)) → SyncsThen layer host n (More (at_stage l (Synced table))) turn d e → LinksOn l layer host start turn e
  sync_step has (Ok u, is, by) =
      let there = is.2.here ∙ ap (λ (x : File). Some (synced host x)) (outcomes.one_file is.0 has.file (d.file layer.target.place) is.1 has.there) in
      let settled = alone_synced host has.file has.filling.alone in
      outcomes.goes_on l layer host start e turn (Synced table) b by
      (record {
        given = given;
        file = synced host has.file;
        there = there;
        settled = settled;
        size = has.filling.size;
        outside = has.filling.sees;
        full = has.holds;
      })
      (outcomes.settled_left layer l host start b (synced host has.file) e there settled has.filling.size
      (outcomes.old_medium layer l host start b table new (synced host has.file) has.filling.size has.filling.sees))
  sync_step has (Err Failed, same, by) =
      outcomes.faults l layer host n start e turn by
      (outcomes.filling_left layer l host start b table new has.file e (ap (λ (x : Content). x.file layer.target.place) same ∙ has.there) has.filling)
  sync_step has (Err NoFile, is, by) = absurd (outcomes.no_file has.file (d.file layer.target.place) is.1 has.there)
  sync_step has (Err OutOfFile, is, by) = absurd is
  sync_step has (Err Exists, is, by) = absurd is
  sync_step has (Err NotEmpty, is, by) = absurd is
