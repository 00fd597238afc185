-- What a step of the writing over a layer's data leaves.
use Rattle.std.proofs.Common.{◌≡◌, ◌⊎◌, ℕ, ◌+◌, ◌-◌, ◌*◌, ◌/◌, ◌%◌, ◌^◌, ◌<◌, ◌≤◌, Bool, true, List, length, Some, Result, Ok, Err, refl, sym, ap, ◌∙◌, subst, inl, inr, arith}
use Rattle.std.specs.Prelude.{min}
use Rattle.std.proofs.lemmas.Bool.{cases_lt}
use Rattle.std.proofs.lemmas.Nat.{div-add-mod'}
use Rattle.sd_names.specs.Turn.{MatchTurn}
use Rattle.sd_names.specs.declared.refusal.Refusal.TheVariants.{DiskFault}
use Rattle.sd_names.specs.declared.turn.Turn.TheVariants.{More, Done, Ended}
use Rattle.shared_disk.specs.Calls.{IsPut, WriteAt, sectors_in, synced, wrote}
use Rattle.shared_disk.specs.Content.{Content, File, sector_of}
use Rattle.shared_disk.specs.Refusal.{refusal_of}
use Rattle.shared_disk.specs.Step.{TurnFollows}
use Rattle.shared_disk.specs.WellFormed.{IsWellFormed, IsWellFormedFile}
use Rattle.shared_disk.specs.declared.disk.DiskAnswer.{DiskAnswer}
use Rattle.shared_disk.specs.declared.disk.DiskAnswer.TheVariants.{NoFile, Exists, OutOfFile, NotEmpty, Failed}
use Rattle.shared_disk.proofs.AtPlace.{no_file, one_file}
use Rattle.qcow_layer.specs.declared.layer.Layer.{Layer}
use Rattle.layer_writing.specs.Holding.{IsInCluster, as_seen}
use Rattle.layer_placing.proofs.Ends.{same_put}
use Rattle.volume_meta.specs.declared.record.VolumeRecord.{VolumeRecord}
use Rattle.chain_model.specs.Own.{own_in}
use Rattle.own_laws.specs.Sectors.{cluster_of, sector_at, sector_behind}
use Rattle.chain_laws.specs.Laid.{IsInPart, Laying, sector_in_part}
use Rattle.part_laws.specs.Steps.{IsPieceAt}
use Rattle.part_laws.proofs.Held.{alike_written}
use Rattle.write_planning.specs.Part.{IsPieceOf}
use Rattle.write_planning.specs.Plan.{span_of, target_at}
use Rattle.write_planning.specs.Span.{at_of, count_of as many_of, first_of, length_of, width_of}
use Rattle.write_planning.specs.declared.plan.Target.TheVariants.{InPlace}
use Rattle.write_planning.specs.declared.plan.WritePlan.{WritePlan}
use Rattle.write_planning.specs.declared.span.Piece.{Piece}
use Rattle.place_writing.specs.Places.{HoldsPlaces, IsOver, Knows, PassesOn, PlaceTurn, Places, WritesPiece, between}
use Rattle.place_writing.specs.declared.places.PlaceWriting.{PlaceWriting}
use Rattle.place_writing.proofs.Pieces.{from_whole, offset_whole, sector_inside, sectors_inside, size_whole, whole_row}
use Rattle.place_writing.proofs.Written.{begins_cluster, holds_more, lies_in_file, over_now, same_itself, seen_over, written_now}

module _ (s : PlaceWriting) (w : Layer) (l : Laying) (x : VolumeRecord) (host faults : ℕ) (f : File) (d : Content) (there : d.file w.target.place ≡ Some f) (k : Knows s w l x host f) where
  abbrev p : WritePlan
  p = s.plan

  abbrev n : ℕ
  n = many_of (span_of p)

  next_knows : (next : PlaceWriting) (g : File) → next.plan ≡ p → next.index ≡ s.index + 1 → IsOver p w l x host g → HoldsPlaces p w l x (s.index + 1) host g → Knows next w l x host g
  next_knows next g plan index over holds = record {
    over = subst (λ (q : WritePlan). IsOver q w l x host g) (sym plan) over;
    holds = subst (λ (q : WritePlan). HoldsPlaces q w l x next.index host g) (sym plan) (subst (λ m. HoldsPlaces p w l x m host g) (sym index) holds);
  }

  abbrev Behind : PlaceTurn → File → Type 0
  Behind turn g = MatchTurn turn (λ next. Knows next w l x host g) (λ _. HoldsPlaces p w l x n host g) (λ _ refusal. refusal ≡ DiskFault faults)

  behind : (turn : PlaceTurn) (g : File) → PassesOn s turn → IsOver p w l x host g → HoldsPlaces p w l x (s.index + 1) host g → Behind turn g
  behind (More next) g on over holds = next_knows next g on.0 on.1 over holds
  behind (Done b) g on over holds = subst (λ m. HoldsPlaces p w l x m host g) on holds
  behind (Ended b refusal) g on over holds = absurd on

  nothing : (turn : PlaceTurn) → Behind turn f → Places s w l x host faults turn f d d
  nothing turn after = record {
    now = f;
    put = same_put d d w.target.place f refl there;
    size = refl;
    written = alike_written l x f f k.over.says (λ o out. (o, out, λ j. refl));
    same = same_itself w.work.header w.target.capacity (as_seen host f) k.over.writer.knows.numbers.header k.over.writer.knows.numbers.sound;
    counts = λ c. refl;
    over = k.over;
    after = after;
  }

  -- a cluster that isn't written in place is passed over
  pub passes : (turn : PlaceTurn) → PassesOn s turn → ((place : ℕ) → target_at p s.index ≡ InPlace place → ⊥) → Places s w l x host faults turn f d d
  passes turn on none = nothing turn (behind turn f on k.over skipped)
    where
      skipped : HoldsPlaces p w l x (s.index + 1) host f
      skipped j place i lt at in_c inside low = by (cases_lt j s.index)
        where
          by : (j < s.index) ⊎ (s.index ≤ j) → own_in x (synced host f) i ≡ Some (sector_in_part l.part i)
          by (inl earlier) = k.holds j place i earlier at in_c inside low
          by (inr le) = let same : j ≡ s.index = omega (arith, le, lt) in absurd (none place (subst (λ m. target_at p m ≡ InPlace place) same at))

  -- ---- a piece is written

  module _ (place : ℕ) (q : Piece) (target : target_at p s.index ≡ InPlace place) (of : IsPieceOf (at_of (span_of p)) (length_of (span_of p)) (width_of (span_of p)) s.index q) (well : IsWellFormedFile f) where
    abbrev P : ℕ
    P = l.part.at

    abbrev part : List ℕ
    part = l.part.bytes

    abbrev W : ℕ
    W = 2 ^ w.work.header.cluster_bits

    abbrev c : ℕ
    c = first_of (span_of p) + s.index

    abbrev size : ℕ
    size = q.end - q.from

    abbrev A : ℕ
    A = (place + q.offset) / 512

    abbrev bytes : List ℕ
    bytes = between q.from q.end part

    at_even : at_of (span_of p) % 512 ≡ 0
    at_even = let at = k.over.at in omega (arith, at)

    wide : width_of (span_of p) ≡ W
    wide = k.over.found.width

    some_wide : 0 < width_of (span_of p)
    some_wide = let low = (span_of p).part.low in omega (arith, low)

    from_even : q.from % 512 ≡ 0
    from_even = from_whole (at_of (span_of p)) (length_of (span_of p)) (width_of (span_of p)) c q some_wide (span_of p).part.whole of.some of.within of.place of.inside of.all at_even

    offset_even : q.offset % 512 ≡ 0
    offset_even = offset_whole (at_of (span_of p)) (length_of (span_of p)) (width_of (span_of p)) c q some_wide (span_of p).part.whole of.some of.within of.place of.inside of.all at_even

    module _ (full : length part % 512 ≡ 0) where
      size_even : size % 512 ≡ 0
      size_even =
          let same = k.over.length in
          size_whole (at_of (span_of p)) (length_of (span_of p)) (width_of (span_of p)) c q some_wide (span_of p).part.whole of.some of.within of.place of.inside of.all at_even (omega (arith, same, full))

      begins : place % W ≡ 0
      begins = begins_cluster p w l x host f well k.over s.index place A bytes s.within target

      lies : place + W ≤ 512 * f.size
      lies = lies_in_file p w l x host f well k.over s.index place A bytes s.within target

      place_even : place % 512 ≡ 0
      place_even =
          let width = wide in
          let rows = whole_row (place / W) W (subst (λ m. m % 512 ≡ 0) width (span_of p).part.whole) in
          let parts = div-add-mod' place W in
          let even = begins in
          omega (arith, rows, parts, even)

      pub at_place : min (place + q.offset) (2 ^ 64 - 1) / 512 ≡ A
      at_place =
          let width = wide in
          let end = lies in
          let few = k.over.writer.knows.fits in
          let inside = of.inside in
          let some = of.some in
          omega (arith, width, end, few, inside, some)

      many : sectors_in bytes ≡ size / 512
      many = let same = k.over.length in let within = of.within in let some = of.some in sectors_inside part q.from size (omega (arith, same, within, some))

      in_cluster : IsInCluster W place A bytes
      in_cluster =
          let width = wide in
          let a = place_even in
          let b = offset_even in
          let m = many in
          let e = size_even in
          let inside = of.inside in
          record {
            begins = begins;
            low = omega (arith, a, b);
            high = omega (arith, a, b, m, e, inside, width);
          }

      first_is : sector_behind w.work.header c place A ≡ P + q.from / 512
      first_is =
          let width = wide in
          let a = place_even in
          let b = offset_even in
          let f = from_even in
          let at = k.over.at in
          let parts : 512 * P + q.from ≡ c * W + q.offset = sym (ap (λ m. m + q.from) at) ∙ of.place ∙ ap (λ m. c * m + q.offset) width in
          omega (arith, parts, a, b, f)

      piece_at : IsPieceAt l.part (P + q.from / 512) bytes
      piece_at = record {
        inside = λ j lt.
            let m = many in
            let e = size_even in
            let g = from_even in
            let within = of.within in
            let some = of.some in
            let same = k.over.length in
            (omega arith, omega (arith, lt, m, e, g, within, some, same));
        same = λ j lt.
            let m = many in
            let e = size_even in
            let index : P + q.from / 512 + j - P ≡ q.from / 512 + j = omega arith in
            sector_inside part q.from size j from_even size_even (omega (arith, lt, m, e)) ∙ ap (sector_of part) (sym index);
      }

      piece : IsPieceAt l.part (sector_behind w.work.header c place A) bytes
      piece = subst (λ m. IsPieceAt l.part m bytes) (sym first_is) piece_at

      -- each sector of the part in this cluster is one of the piece
      met : (i : ℕ) → IsInPart l.part i → cluster_of w.work.header i ≡ c
          → (j : ℕ) × (j < sectors_in bytes) × (sector_at w.work.header place i ≡ A + j) × (sector_of bytes j ≡ sector_in_part l.part i)
      met i (low, high) in_c =
          let width = wide in
          let at = k.over.at in
          let same = k.over.length in
          let byte : at_of (span_of p) + 512 * (i - P) ≡ 512 * i = omega (arith, at, low) in
          let lt : 512 * (i - P) < length_of (span_of p) = omega (arith, low, high, same, full) in
          let cluster : (at_of (span_of p) + 512 * (i - P)) / width_of (span_of p) ≡ c = ap (λ m. m / width_of (span_of p)) byte ∙ ap (λ m. 512 * i / m) width ∙ in_c in
          let all = of.all (512 * (i - P)) lt cluster in
          let f_even = from_even in
          let s_even = size_even in
          let p_even = place_even in
          let o_even = offset_even in
          let m = many in
          let some = of.some in
          let from_low = all.0 in
          let end_high = all.1 in
          let j : ℕ = i - P - q.from / 512 in
          let inside : j < sectors_in bytes = omega (arith, m, f_even, s_even, from_low, end_high, some) in
          let parts : 512 * P + q.from ≡ c * W + q.offset = sym (ap (λ m. m + q.from) at) ∙ of.place ∙ ap (λ m. c * m + q.offset) width in
          let split : c * W + 512 * i % W ≡ 512 * i = ap (λ m. m * W + 512 * i % W) (sym in_c) ∙ div-add-mod' (512 * i) W in
          let index : q.from / 512 + j ≡ i - P = omega (arith, from_low, low) in
          let fits : 512 * (j + 1) ≤ size = omega (arith, inside, m, s_even) in (
            j,
            inside,
            omega (arith, parts, split, f_even, p_even, o_even, from_low, low),
            sector_inside part q.from size j f_even s_even fits ∙ ap (sector_of part) index,
          )

      -- what is left of each write, one that failed too
      leaves : (turn : PlaceTurn) (did : ℕ → Bool) (e : Content) → IsWellFormed e → IsPut d w.target.place (Some (wrote did host A bytes f)) e → Behind turn (wrote did host A bytes f)
          → Places s w l x host faults turn f d e
      leaves turn did e formed put after =
          let over = seen_over p w l x host f well k.over s.index place A bytes s.within target in_cluster piece did in
          record {
            now = wrote did host A bytes f;
            put = put;
            size = refl;
            written = written_now p w l x host f well k.over s.index place A bytes s.within target in_cluster piece did (formed.files w.target.place (wrote did host A bytes f) put.here);
            same = over.same;
            counts = over.counts;
            over = over_now p w l x host f well k.over s.index place A bytes s.within target in_cluster piece did;
            after = after;
          }

      did_write : (turn : PlaceTurn) (e : Content) (g : File) → IsWellFormed e → d.file w.target.place ≡ Some g → IsPut d w.target.place (Some (wrote (λ _. true) host A bytes g)) e → PassesOn s turn
          → Places s w l x host faults turn f d e
      did_write turn e g formed was put on =
          let put_f = subst (λ (o : File). IsPut d w.target.place (Some (wrote (λ _. true) host A bytes o)) e) (one_file g f (d.file w.target.place) was there) put in
          leaves turn (λ _. true) e formed put_f
          (behind turn (wrote (λ _. true) host A bytes f) on (over_now p w l x host f well k.over s.index place A bytes s.within target in_cluster piece (λ _. true))
          (holds_more p w l x host f well k.over s.index place A bytes s.within target in_cluster piece (formed.files w.target.place (wrote (λ _. true) host A bytes f) put_f.here) met k.holds))

      fits_file : A + sectors_in bytes ≤ f.size
      fits_file = let low = in_cluster.high in let high = lies in omega (arith, low, high)

      failed_write : (a : DiskAnswer) (e : Content) → IsWellFormed e → WriteAt d host w.target.place A bytes (Err a) e → Places s w l x host faults (Ended tt (refusal_of a faults)) f d e
      failed_write Failed e formed (inl same) = subst (λ (z : Content). Places s w l x host faults (Ended tt (DiskFault faults)) f d z) (sym same) (nothing (Ended tt (DiskFault faults)) refl)
      failed_write Failed e formed (inr some) =
          leaves (Ended tt (DiskFault faults)) some.3 e formed (subst (λ (o : File). IsPut d w.target.place (Some (wrote some.3 host A bytes o)) e) (one_file some.0 f (d.file w.target.place) some.1 there) some.4) refl
      failed_write NoFile e formed call = absurd (no_file f (d.file w.target.place) call.1 there)
      failed_write OutOfFile e formed call =
          let is = ap (λ (o : File). o.size) (one_file call.1 f (d.file w.target.place) call.2 there) in
          let less = call.3 in
          let fits = fits_file in
          absurd (omega (arith, is, less, fits))
      failed_write Exists e formed call = absurd call
      failed_write NotEmpty e formed call = absurd call

  pub writes : (place : ℕ) (turn : PlaceTurn) (given : List ℕ) (e : Content) → target_at p s.index ≡ InPlace place → IsWellFormed d → IsWellFormed e → l.part.bytes ≡ given → length given % 512 ≡ 0
      → WritesPiece s place w host faults given turn d e → Places s w l x host faults turn f d e
  writes place turn given e target formed formed' same full (q, answer, of, call, follows) = by answer here follows
    where
      well : IsWellFormedFile f
      well = formed.files w.target.place f there

      even : length l.part.bytes % 512 ≡ 0
      even = subst (λ (b : List ℕ). length b % 512 ≡ 0) (sym same) full

      here : WriteAt d host w.target.place ((place + q.offset) / 512) (between q.from q.end l.part.bytes) answer e
      here =
          subst (λ m. WriteAt d host w.target.place m (between q.from q.end l.part.bytes) answer e) (at_place place q target of well even)
          (subst (λ (b : List ℕ). WriteAt d host w.target.place (min (place + q.offset) (2 ^ 64 - 1) / 512) (between q.from q.end b) answer e) (sym same) call)

      by : (a : Result (Unit {0}) DiskAnswer) → WriteAt d host w.target.place ((place + q.offset) / 512) (between q.from q.end l.part.bytes) a e → TurnFollows a faults turn (λ _. PassesOn s turn) → Places s w l x host faults turn f d e
      by (Ok t) done on = did_write place q target of well even turn e done.0 formed' done.1 done.3 on
      by (Err a) done on = subst (λ (u : PlaceTurn). Places s w l x host faults u f d e) (sym on) (failed_write place q target of well even a e formed' done)
