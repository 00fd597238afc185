-- What the steps of the read of a cluster leave.
use Rattle.std.proofs.Common.{◌≡◌, ℕ, ◌+◌, ◌*◌, ◌^◌, ◌<◌, ◌≤◌, List, ◌++◌, length, take, Option, Some, None, unwrap_or, refl, sym, ap, ◌∙◌, subst, inl, inr, zero, suc, arith}
use Rattle.std.proofs.Math.Seq.{take-append_seam}
use Rattle.std.proofs.lemmas.List.{length-take}
use Rattle.sd_names.specs.declared.id.Id.{Id}
use Rattle.sd_names.specs.declared.refusal.Refusal.{Refusal}
use Rattle.sd_names.specs.declared.turn.Turn.{Turn}
use Rattle.sd_names.specs.declared.turn.Turn.TheVariants.{More, Done, Ended}
use Rattle.shared_disk.specs.Content.{Content, sector_of}
use Rattle.qcow_format.specs.declared.entry.Entry.TheVariants as entries
use Rattle.qcow_format.specs.declared.entry.Entry.TheVariants.{Absent}
use Rattle.qcow_layer.specs.Looking.{KnowsTable}
use Rattle.qcow_layer.specs.declared.looking.Looked.{Looked}
use Rattle.qcow_layer.specs.declared.looking.Looking as looks
use Rattle.chain_model.specs.Chain.{IsBelow, counting}
use Rattle.chain_model.specs.Flat.{first_of as first_holding, flat}
use Rattle.chain_model.specs.Folder.{Volumes}
use Rattle.chain_model.specs.Own.{own}
use Rattle.volume_chain.specs.Chain.{path_in}
use Rattle.volume_chain.specs.declared.chain.Chain.{Chain}
use Rattle.chain_reading.specs.Knowing.{IsReadAs, place_on, records_of, tables_in}
use Rattle.chain_reading.specs.Knowing as reading
use Rattle.chain_reading.specs.Looking.{LooksAt}
use Rattle.chain_reading.specs.Reading as reads
use Rattle.chain_reading.specs.Reading.{PartTurn, ReadsOn, first_sector, volume_of}
use Rattle.chain_reading.specs.declared.part.ReadPart.{ReadPart}
use Rattle.commit_reading.specs.Knowing.{HoldsFrom, IsReadOf, KnowsIn, KnowsSoFar, KnowsTop}
use Rattle.commit_reading.specs.Pieces.{count_of, end_in, end_of, first_in, first_of, front}
use Rattle.commit_reading.specs.Reading.{Asks, BeginsPiece, BeginsRead, CommitTurn, IsFound, IsOnWayIn, ReadsFront, ReadsIn, at_stage}
use Rattle.commit_reading.specs.declared.pieces.Pieces.{Pieces}
use Rattle.commit_reading.specs.declared.reading.CommitReading.{CommitReading}
use Rattle.commit_reading.specs.declared.reading.Stage.{Stage}
use Rattle.commit_reading.specs.declared.reading.Stage.TheVariants.{Begun, Looking, Next, Reading}
use Rattle.commit_reading.proofs.Top.{look_data, look_ended, look_more, look_none, look_zero}

-- ---- another stage

-- the read goes on in a stage in which this is known
pub goes : (stage stage' : Stage) (w next : CommitReading) (c : Chain) (host : ℕ) (before after : List ℕ) (d e : Content) → next ≡ at_stage w stage' → e ≡ d
    → ((x : Volumes) → IsOnWayIn stage w c → KnowsIn stage w c host x before d → KnowsSoFar stage' w.sub w.cluster c host x after d) → ReadsIn stage w c host before after (More next) d e
goes stage stage' w next c host before after d e is same now =
    subst (λ (n : CommitReading). ReadsIn stage w c host before after (More n) d e) (sym is)
    (subst (λ (z : Content). ReadsIn stage w c host before after (More (at_stage w stage')) d z) (sym same)
    (record { same = refl; leaves = λ x way k. record { top = k.top; so_far = now x way k } }))

-- ---- the look-up

pub asks : (w next : CommitReading) (c : Chain) (host : ℕ) (part : List ℕ) (d : Content) → Asks w next → ReadsIn Begun w c host part part (More next) d d
asks w next c host part d ask =
    goes Begun (Looking ask.looking) w next c host part part d d ask.is refl
    (λ x way k. (ask.cluster, λ l f layer is. subst (λ (t : Option ℕ). KnowsTable (tables_in l f) w.cluster t) (sym ask.table) tt))

module _ (w : CommitReading) (c : Chain) (host : ℕ) (looking : looks.Looking) (part : List ℕ) (d e : Content) (i : ℕ) (index : i ≡ place_on w.sub.top (path_in c)) where
  looks_top : (turn : Turn looks.Looking Looked (Unit {0})) → LooksAt c i looking host turn d e → LooksAt c (place_on w.sub.top (path_in c)) looking host turn d e
  looks_top turn at = subst (λ n. LooksAt c n looking host turn d e) index at

  pub more_looks : (next : CommitReading) (further : looks.Looking) → next ≡ at_stage w (Looking further) → LooksAt c i looking host (More further) d e → ReadsIn (Looking looking) w c host part part (More next) d e
  more_looks next further is at = goes (Looking looking) (Looking further) w next c host part part d e is at.same
      (λ x way k. look_more c w.sub w.cluster host x d e looking k.top k.so_far further (looks_top (More further) at))

  pub none_looked : (looked : Looked) → looked.entry ≡ Absent → LooksAt c i looking host (Done looked) d e → ReadsIn (Looking looking) w c host part part (Done None) d e
  none_looked looked is at = record { same = at.same; leaves = λ x way k. inl (look_none c w.sub w.cluster host x d e looking k.top k.so_far looked is (looks_top (Done looked) at)) }

  -- the top holds the cluster
  pub found_looked : (next : CommitReading) (looked : Looked) → ((x : Volumes) → KnowsIn (Looking looking) w c host x part d → HoldsFrom c w.sub x (first_in c w.sub w.cluster) (end_in c w.sub w.cluster)) → IsFound w c next
      → LooksAt c i looking host (Done looked) d e → ReadsIn (Looking looking) w c host part part (More next) d e
  found_looked next looked holds found at = goes (Looking looking) (Next found.pieces) w next c host part part d e found.is at.same
      (λ x way k. subst (λ n. HoldsFrom c w.sub x n (end_of found.pieces)) (sym found.all.first) (subst (λ n. HoldsFrom c w.sub x (first_in c w.sub w.cluster) n) (sym found.all.end) (holds x k)))

  pub zero_looked : (next : CommitReading) (looked : Looked) (place : ℕ) → looked.entry ≡ entries.Zero place → IsFound w c next → LooksAt c i looking host (Done looked) d e → ReadsIn (Looking looking) w c host part part (More next) d e
  zero_looked next looked place is found at = found_looked next looked (λ x k. look_zero c w.sub w.cluster host x d e looking k.top k.so_far looked place is (looks_top (Done looked) at)) found at

  pub data_looked : (next : CommitReading) (looked : Looked) (place : ℕ) → looked.entry ≡ entries.Data place → IsFound w c next → LooksAt c i looking host (Done looked) d e → ReadsIn (Looking looking) w c host part part (More next) d e
  data_looked next looked place is found at = found_looked next looked (λ x k. look_data c w.sub w.cluster host x d e looking k.top k.so_far looked place is (looks_top (Done looked) at)) found at

  pub ended_looked : (b b' : Unit {0}) (refusal : Refusal) → LooksAt c i looking host (Ended b refusal) d e → ReadsIn (Looking looking) w c host part part (Ended b' refusal) d e
  ended_looked b b' refusal at = record { same = at.same; leaves = λ x way k. look_ended c w.sub w.cluster host x d e looking k.top k.so_far b refusal (looks_top (Ended b refusal) at) }

-- ---- the next piece

length_front : (n : ℕ) (part : List ℕ) → length (take n part) ≤ n
length_front n part = let size = length-take {A = ℕ} n part in omega (arith, size)

pub begins : (w next : CommitReading) (p : Pieces) (c : Chain) (host : ℕ) (part : List ℕ) (d : Content) → BeginsPiece w p next → ReadsIn (Next p) w c host part part (More next) d d
begins w next p c host part d begun = goes (Next p) (Reading p begun.read) w next c host part part d d begun.is refl (λ x way k. (
  k.so_far,
  record { volume = begun.begun.volume; first = let at = begun.begun.first in omega (arith, at) },
  begun.begun.knows c host x (front p part) d k.top.image k.top.path (ends part),
))
  where
    ends : (part : List ℕ) → 512 * first_of p + length (take (512 * count_of p) part) ≤ 2 ^ 64
    ends part = let few = length_front (512 * count_of p) part in let low = p.low in let order = p.order in omega (arith, few, low, order)

-- nothing is left
pub nothing_left : (w : CommitReading) (p : Pieces) (c : Chain) (host : ℕ) (part : List ℕ) (d : Content) → count_of p ≡ 0 → ReadsIn (Next p) w c host part part (Done None) d d
nothing_left w p c host part d none = record { same = refl; leaves = λ x way k. inr (let end = way.end in let order = p.order in omega (arith, none, end, order)) }

pub next_turn : (w : CommitReading) (p : Pieces) (c : Chain) (host : ℕ) (part : List ℕ) (d : Content) (turn : CommitTurn) → BeginsRead w p turn → ReadsIn (Next p) w c host part part turn d d
next_turn w p c host part d (More next) begun = begins w next p c host part d begun
next_turn w p c host part d (Done o) is = subst (λ (q : Option Pieces). ReadsIn (Next p) w c host part part (Done q) d d) (sym is.0) (nothing_left w p c host part d is.1)
next_turn w p c host part d (Ended b refusal) is = absurd is

pub some_count : (n count : ℕ) → n ≡ 512 * count → (n ≡ 0 → ⊥) → 0 < count
some_count n zero e none = absurd (none e)
some_count n (suc m) e none = omega arith

-- ---- the read of a piece

module _ (w : CommitReading) (p : Pieces) (read : ReadPart) (c : Chain) (host : ℕ) (before after : List ℕ) (d e : Content) where
  read_knows : (x : Volumes) (part : List ℕ) → front p part ≡ before → KnowsIn (Reading p read) w c host x part d → reading.Knows read c host x before d
  read_knows x part was k = subst (λ (b : List ℕ). reading.Knows read c host x b d) was k.so_far.2

  pub reads_more : (next : CommitReading) (further : ReadPart) → next ≡ at_stage w (Reading p further) → reads.IsSamePart read further → ReadsOn read c host before after (More further) d e → ReadsFront w p read c host before after (More next) d e
  reads_more next further is same on part now was then =
      goes (Reading p read) (Reading p further) w next c host part now d e is on.same (λ x way k. (
        k.so_far.0,
        record { volume = same.volume ∙ k.so_far.1.volume; first = same.first ∙ k.so_far.1.first },
        subst (λ (b : List ℕ). reading.Knows further c host x b d) (sym then) (subst (λ (z : Content). reading.Knows further c host x after z) on.same (on.leaves x (read_knows x part was k))),
      ))

  -- what was read is what the top holds
  piece_held : (x : Volumes) (j : ℕ) (s : List ℕ) → KnowsTop c w.sub host x d → IsReadOf w.sub p read → IsReadAs read c x after → 512 * (j + 1) ≤ length after → own (records_of c) x w.sub.top (first_of p + j) ≡ Some s
      → own (records_of c) x w.sub.top (first_of p + j) ≡ Some (sector_of after j)
  piece_held x j s top of read_as inside held =
      let us = top.over.0 in
      let below = top.over.1 in
      let of_read = read_as us (subst (λ (v : Id). IsBelow (records_of c) v us) (sym of.volume) below) j inside in
      let here : flat (records_of c) x (volume_of read) us (first_sector read + j) ≡ flat (records_of c) x w.sub.top us (first_of p + j) =
      ap (λ (v : Id). flat (records_of c) x v us (first_sector read + j)) of.volume ∙ ap (λ n. flat (records_of c) x w.sub.top us (n + j)) of.first in
      let is : flat (records_of c) x w.sub.top us (first_of p + j) ≡ s = ap (λ (o : Option (List ℕ)). unwrap_or o (first_holding (records_of c) x (counting (records_of c) us) (first_of p + j))) held in
      held ∙ ap (λ (b : List ℕ). Some b) (sym (of_read ∙ here ∙ is))

  pub reads_done : (b : Unit {0}) → length after ≡ 512 * count_of p → ReadsOn read c host before after (Done b) d e → ReadsFront w p read c host before after (Done (Some p)) d e
  reads_done b size on part now was then = record {
    same = on.same;
    leaves = λ x way k. record {
      held = k.so_far.0;
      piece = λ j less.
          let some = k.so_far.0 (first_of p + j) (omega arith) (omega (arith, less)) in
          subst (λ (f : List ℕ). own (records_of c) x w.sub.top (first_of p + j) ≡ Some (sector_of f j)) (sym then)
          (piece_held x j some.0 k.top k.so_far.1 (on.leaves x (read_knows x part was k)) (omega (arith, less, size)) some.1);
    };
  }

  pub reads_ended : (b b' : Unit {0}) (refusal : Refusal) → ReadsOn read c host before after (Ended b refusal) d e → ReadsFront w p read c host before after (Ended b' refusal) d e
  reads_ended b b' refusal on part now was then = record { same = on.same; leaves = λ x way k. on.leaves x (read_knows x part was k) }

-- the step in front of the part is one of the part
pub in_front : (w : CommitReading) (p : Pieces) (read : ReadPart) (c : Chain) (host : ℕ) (part piece rest : List ℕ) (n : ℕ) (turn : CommitTurn) (d e : Content) → n ≡ 512 * count_of p → length piece ≡ 512 * count_of p
    → ReadsFront w p read c host (take n part) piece turn d e → ReadsIn (Reading p read) w c host part (piece ++ rest) turn d e
in_front w p read c host part piece rest n turn d e count size reads = reads part (piece ++ rest) (ap (λ m. take m part) (sym count)) (ap (λ m. take m (piece ++ rest)) (sym size) ∙ take-append_seam piece rest)
