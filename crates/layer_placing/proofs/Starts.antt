-- The first step: the length is asked, and the clusters are chosen.
use Rattle.std.proofs.Common.{◌≡◌, ◌≢◌, ◌⊎◌, inl, inr, ℕ, ◌+◌, ◌*◌, ◌/◌, ◌^◌, ◌<◌, ◌≤◌, min, List, length, Some, Ok, Err, refl, sym, ap, ◌∙◌, subst, arith}
use Rattle.std.specs.Prelude.{slice_index}
use Rattle.std.proofs.lemmas.Bool.{cases_lt}
use Rattle.std.proofs.lemmas.Nat.{div_below, pow_pos}
use Rattle.std.proofs.Math.Nat.{div-add-mod, mul_comm, mul-div_cancel, mul-le-mul_right}
use Rattle.sd_names.specs.declared.refusal.Refusal.{Refusal}
use Rattle.sd_names.specs.declared.turn.Turn.TheVariants.{Ended, More}
use Rattle.shared_disk.specs.Calls.{HasLength, IsSame}
use Rattle.shared_disk.specs.Content.{Content, File}
use Rattle.image_model.specs.File.{file_of}
use Rattle.image_model.specs.Layer.{count_of, is_used}
use Rattle.image_model.specs.Room.{end_of_room, room_of}
use Rattle.layer_laws.specs.Laws as laws
use Rattle.qcow_layer.specs.Knowing.{is_free}
use Rattle.qcow_layer.specs.declared.layer.Layer.{Layer}
use Rattle.qcow_layer.proofs.Pieces.{same_file}
use Rattle.layer_writing.specs.Holding.{IsSpare, as_seen}
use Rattle.layer_writing.specs.Writer.{KnowsWriter}
use Rattle.layer_writing.proofs.Known.{comes_itself}
use Rattle.layer_placing.specs.Chosen.{AreLeast, Chooses, listed}
use Rattle.layer_placing.specs.Knows.{IsChoice, Serves, StepsIn}
use Rattle.layer_placing.specs.declared.stage.Asked.{Asked}
use Rattle.layer_placing.specs.declared.stage.Stage.{Stage}
use Rattle.layer_placing.specs.declared.stage.Stage.TheVariants.{Begun, Finding}
use Rattle.layer_placing.specs.declared.stage.Work.{Work}
use Rattle.layer_placing.proofs.Ends.{same_put}
use Rattle.layer_placing.proofs.Finds.{reads_on}
use Rattle.layer_placing.proofs.Least.{grows}
use Rattle.layer_placing.proofs.Rows.{not_true, unused_uncounted}
use Rattle.layer_placing.proofs.Widths.{wide}

seen_size : (host : ℕ) (f : File) → (as_seen host f).size ≡ 512 * f.size
unfolding file_of
seen_size host f = refl

-- a cluster below so many whole ones
below_whole : (x n c : ℕ) → x < n / c → x * c + c ≤ n
below_whole x n c lt =
    let rows : (x + 1) * c ≤ n / c * c = mul-le-mul_right c (omega (arith, lt)) in
    let one : (x + 1) * c ≡ x * c + c = omega arith in
    let f = div-add-mod n c in
    let g = mul_comm (n / c) c in
    omega (arith, rows, one, f, g)

less_rows : (x m c : ℕ) → 0 < c → x * c + c ≤ m * c → x < m
less_rows x m c pos le = go (cases_lt x m)
  where
    go : (x < m) ⊎ (m ≤ x) → x < m
    go (inl lt) = lt
    go (inr more) = let rows : m * c ≤ x * c = mul-le-mul_right c more in absurd (omega (arith, rows, le, pos))

module _ (l : Layer) (host : ℕ) (f : File) (count : ℕ) (xs : List ℕ) (least : AreLeast l (end_of_room (room_of (laws.layer l.work.header (as_seen host f)))) count xs) where
  abbrev c : ℕ
  c = 2 ^ l.work.header.cluster_bits

  abbrev span : ℕ
  span = 2 ^ l.work.header.cluster_bits / 2

  fits : (i : ℕ) → i < length xs → slice_index xs i * c + c ≤ min (min (as_seen host f).size (l.work.header.refcount_table_clusters * (c / 8) * span * c)) (2 ^ 56)
  fits i lt = below_whole (slice_index xs i) (min (min (as_seen host f).size (l.work.header.refcount_table_clusters * (c / 8) * span * c)) (2 ^ 56)) c (least.each i lt).1

  span_some : 0 < span
  span_some = go c (wide l.work.header.cluster_bits l.work.low)
    where
      go : (c : ℕ) → 4096 ≤ c → 0 < c / 2
      go c le = omega (arith, le)

  rising : (i j : ℕ) → i < j → j < length xs → slice_index xs i < slice_index xs j
  rising i j lt within = go (cases_lt (slice_index xs i) (slice_index xs j))
    where
      go : (slice_index xs i < slice_index xs j) ⊎ (slice_index xs j ≤ slice_index xs i) → slice_index xs i < slice_index xs j
      go (inl less) = less
      go (inr le) =
          let more = grows (is_free l) (slice_index xs j) (slice_index xs i) le in
          let a = (least.each i (omega (arith, lt, within))).0.below in
          let b = (least.each j within).0.below in
          absurd (omega (arith, more, a, b, lt))

  pub serves_first : Serves l host f xs 0
  serves_first = record {
    inside = λ i lt. let a = fits i lt in omega (arith, a, seen_size host f);
    low = λ i lt. named (slice_index xs i * c + c) (as_seen host f).size (l.work.header.refcount_table_clusters * (c / 8) * span * c) (fits i lt);
    counted = λ i lt. div_below (slice_index xs i) span (l.work.header.refcount_table_clusters * (c / 8)) span_some
        (less_rows (slice_index xs i) (l.work.header.refcount_table_clusters * (c / 8) * span) c (pow_pos l.work.header.cluster_bits) (covered_rows i lt));
    rising = rising;
    spare = λ i low lt. absurd (omega (arith, low));
    taken = λ i low lt. absurd (omega (arith, low));
    left = λ i le lt. ((least.each i lt).0.free, (least.each i lt).2);
  }
    where
      named : (a n v : ℕ) → a ≤ min (min n v) (2 ^ 56) → a ≤ 2 ^ 56
      named a n v le = omega (arith, le)

      covered_rows : (i : ℕ) → i < length xs → slice_index xs i * c + c ≤ l.work.header.refcount_table_clusters * (c / 8) * span * c
      covered_rows i lt = lower (slice_index xs i * c + c) (as_seen host f).size (l.work.header.refcount_table_clusters * (c / 8) * span * c) (fits i lt)
        where
          lower : (a n v : ℕ) → a ≤ min (min n v) (2 ^ 56) → a ≤ v
          lower a n v le = omega (arith, le)

pub chooses_on : (l : Layer) (host faults bytes : ℕ) (asked : Asked) (w : Work) (f : File) (d e : Content) → d.file l.target.place ≡ Some f → IsSame d e → bytes ≡ 512 * f.size → KnowsWriter l host f
    → Chooses l asked.count bytes (Ok w.chosen) → w.done ≡ 0 → StepsIn l l host faults (Begun asked) (More (Finding w)) f d e
chooses_on l host faults bytes asked w f d e there same long knows chosen first =
    let least = chosen.0 (as_seen host f) (seen_size host f ∙ sym long) in
    reads_on l host faults (Begun asked) (Finding w) f d e there same knows
    (record { writer = knows; serves = subst (λ n. Serves l host f (listed w.chosen) n) (sym first) (serves_first l host f asked.count (listed w.chosen) least) }) least

pub refuses_room : (l : Layer) (host faults bytes : ℕ) (asked : Asked) (r : Refusal) (f : File) (d e : Content) → d.file l.target.place ≡ Some f → IsSame d e → bytes ≡ 512 * f.size → KnowsWriter l host f
    → Chooses l asked.count bytes (Err r) → StepsIn l l host faults (Begun asked) (Ended tt r) f d e
refuses_room l host faults bytes asked r f d e there same long knows short = record {
  now = f;
  put = same_put d e l.target.place f same there;
  comes = comes_itself l.work.header l.target.capacity f;
  after = inr (refl, refl, (short.0, short.1, short.2, short.3 (as_seen host f) (seen_size host f ∙ sym long) knows.knows.numbers.used));
  spare = tt;
}

pub same_long : (d e : Content) (l : Layer) (n : ℕ) (f : File) → d.file l.target.place ≡ Some f → HasLength d l.target.place (Ok n) e → n ≡ 512 * f.size
same_long d e l n f there call = call.3 ∙ ap (λ (x : File). 512 * x.size) (same_file d l.target.place f call.1 there call.2)

-- a chosen cluster is free in the map, so that it has no count, and a spare one has
pub chosen_apart : (l : Layer) (host : ℕ) (f : File) (stage : Stage) (asked : Asked) (xs : List ℕ) (i place : ℕ) → stage ≡ Begun asked → KnowsWriter l host f → IsChoice l host f stage xs → i < length xs
    → IsSpare (laws.layer l.work.header (as_seen host f)) l.target.capacity place → slice_index xs i * 2 ^ l.work.header.cluster_bits ≢ place
chosen_apart l host f stage asked xs i place is knows choice within spare same =
    omega (arith, subst (λ n. 0 < count_of (laws.layer l.work.header (as_seen host f)) n) here (subst (λ p. 0 < count_of (laws.layer l.work.header (as_seen host f)) (p / 2 ^ l.work.header.cluster_bits)) (sym same) spare.counted), none)
  where
    least : AreLeast l (end_of_room (room_of (laws.layer l.work.header (as_seen host f)))) asked.count xs
    least = subst (λ s. IsChoice l host f s xs) is choice

    here : slice_index xs i * 2 ^ l.work.header.cluster_bits / 2 ^ l.work.header.cluster_bits ≡ slice_index xs i
    here = mul-div_cancel (slice_index xs i) (pow_pos l.work.header.cluster_bits)

    none : count_of (laws.layer l.work.header (as_seen host f)) (slice_index xs i) ≡ 0
    none =
        let each = least.each i within in
        unused_uncounted (laws.layer l.work.header (as_seen host f)) (slice_index xs i)
        (not_true (is_used (laws.layer l.work.header (as_seen host f)) (slice_index xs i)) (sym (knows.knows.numbers.used (slice_index xs i) each.2) ∙ each.0.free))
