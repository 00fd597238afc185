-- Fewer steps are left after each step.
use Rattle.std.proofs.Common.{◌≡◌, ◌⊎◌, ℕ, ◌+◌, ◌*◌, ◌<◌, ◌≤◌, Option, Some, None, refl, sym, ap, ap₂, ◌∙◌, inl, inr, arith}
use Rattle.sd_names.specs.declared.turn.Turn.TheVariants.{More, Done, Ended}
use Rattle.qcow_format.specs.declared.entry.Entry.{Entry}
use Rattle.qcow_layer.specs.Looking.{looks_left, table_of}
use Rattle.qcow_layer.specs.declared.looking.Looking as looking
use Rattle.volume_chain.specs.Chain.{path_in}
use Rattle.volume_chain.specs.declared.chain.Chain.{Chain}
use Rattle.chain_reading.specs.Asked.{asked_in, cluster_end, end_in}
use Rattle.chain_reading.specs.Choosing.{LooksNext, TakesRaw, is_free, past, waits}
use Rattle.chain_reading.specs.Knowing.{place_on}
use Rattle.chain_reading.specs.Left.{FallsIn, clusters_in, left_asking, left_found, left_in, steps_from, steps_left, wait}
use Rattle.chain_reading.specs.Reading.{IsBehindThen, IsFoundOn, IsPassed, IsSamePart, PartTurn, RunsOn}
use Rattle.chain_reading.specs.declared.asked.Asked.{Asked}
use Rattle.chain_reading.specs.declared.part.ReadPart.{ReadPart}
use Rattle.chain_reading.specs.declared.part.Stage.{Stage}
use Rattle.chain_reading.specs.declared.part.Stage.TheVariants.{Begun, Asking, Looking, Found}
use Rattle.chain_reading.specs.declared.running.Run.{Run}
use Rattle.chain_reading.proofs.Falling.{fewer_clusters, few_wait, fresh_left, no_cluster, no_wait, one_fewer, one_wait, some_cluster}

-- ---- the same volume, later

module _ (p q : ReadPart) (c : Chain) (n : ℕ) (same : IsSamePart p q) (index : q.index ≡ p.index) where
  same_later : steps_from c q.first n (q.index + 1) ≡ steps_from c p.first n (p.index + 1)
  same_later = ap₂ (λ m i. steps_from c m n (i + 1)) same.first index

  same_asked : (o : Option Asked) → asked_in c p.index ≡ o → asked_in c q.index ≡ o
  same_asked o e = ap (asked_in c) index ∙ e

  same_clusters : (a : Asked) (at to : ℕ) → at ≡ to → clusters_in a q.first n at ≡ clusters_in a p.first n to
  same_clusters a at to e = ap₂ (λ m i. clusters_in a m n i) same.first e

  same_past : (a : Asked) → q.run.to ≡ p.run.to → past q a n ≡ past p a n
  same_past a to = ap₂ (λ m i. cluster_end a.cluster m i (end_in a m n)) same.first to

  -- what is left of an asking, and of an entry that was found
  pub asking_left : (a : Asked) (to : ℕ) → asked_in c p.index ≡ Some a → q.stage ≡ Asking → q.run.to ≡ to
      → steps_left q c n ≡ 5 * clusters_in a p.first n to + wait q.run + 1 + (steps_from c p.first n (p.index + 1) + 1)
  asking_left a to e stage at =
      ap (λ s. left_in s q c n) stage ∙ ap (left_asking q c n) (same_asked (Some a) e)
      ∙ ap₂ (λ k t. 5 * k + wait q.run + 1 + (t + 1)) (same_clusters a q.run.to to at) same_later

  pub found_left : (a : Asked) (y : Entry) → asked_in c p.index ≡ Some a → q.stage ≡ Found y → q.run.to ≡ p.run.to
      → steps_left q c n ≡ 5 * clusters_in a p.first n (past p a n) + wait q.run + 3 + (steps_from c p.first n (p.index + 1) + 1)
  found_left a y e stage to =
      ap (λ s. left_in s q c n) stage ∙ ap (left_found q c n) (same_asked (Some a) e)
      ∙ ap₂ (λ k t. 5 * k + wait q.run + 3 + (t + 1)) (same_clusters a (past q a n) (past p a n) (same_past a to)) same_later

-- what is left now
asking_now : (p : ReadPart) (c : Chain) (n : ℕ) (o : Option Asked) → asked_in c p.index ≡ o → left_in Asking p c n ≡ left_asking p c n o
asking_now p c n o e = ap (left_asking p c n) e

found_now : (p : ReadPart) (c : Chain) (n : ℕ) (y : Entry) (o : Option Asked) → asked_in c p.index ≡ o → left_in (Found y) p c n ≡ left_found p c n o
found_now p c n y o e = ap (left_found p c n) e

-- ---- the steps

pub find_falls : (p q : ReadPart) (c : Chain) (n : ℕ) → IsFoundOn p c q → FallsIn Begun p c n (More q)
find_falls p q c n found =
    let le = fresh_left q c n (asked_in c q.index) refl found.from found.to in
    let now : steps_left q c n ≡ left_asking q c n (asked_in c q.index) = ap (λ s. left_in s q c n) found.stage in
    let at : steps_from c q.first n q.index ≡ steps_from c p.first n (place_on p.volume (path_in c)) = ap₂ (λ m i. steps_from c m n i) found.part.first found.index in
    omega (arith, le, now, at)

pub done_falls : (p : ReadPart) (c : Chain) (n : ℕ) → asked_in c p.index ≡ None → FallsIn Asking p c n (Done tt)
done_falls p c n e = let now = asking_now p c n None e in omega (arith, now)

pub pass_falls : (p q : ReadPart) (c : Chain) (n : ℕ) (a : Asked) → asked_in c p.index ≡ Some a → IsPassed p q → FallsIn Asking p c n (More q)
pass_falls p q c n a e moved =
    let le = fresh_left q c n (asked_in c q.index) refl moved.from moved.to in
    let left : steps_left q c n ≡ left_asking q c n (asked_in c q.index) = ap (λ s. left_in s q c n) moved.stage_is in
    let at : steps_from c q.first n q.index ≡ steps_from c p.first n (p.index + 1) = ap₂ (λ m i. steps_from c m n i) moved.part.first moved.index in
    let now = asking_now p c n (Some a) e in
    omega (arith, le, left, at, now)

pub raw_falls : (p q : ReadPart) (r : Run) (c : Chain) (n : ℕ) (a : Asked) → asked_in c p.index ≡ Some a → TakesRaw p a n r → RunsOn p r Asking q → FallsIn Asking p c n (More q)
raw_falls p q r c n a e takes moved =
    let left = asking_left p q c n moved.part moved.index a (end_in a p.first n) e moved.stage_is (ap (λ (s : Run). s.to) moved.run ∙ takes.to) in
    let now = asking_now p c n (Some a) e in
    let none : clusters_in a p.first n (end_in a p.first n) ≡ 0 = no_cluster a.cluster p.first (end_in a p.first n) (end_in a p.first n) (omega arith) in
    let some : clusters_in a p.first n p.run.to ≡ _ = some_cluster a.cluster p.first p.run.to (end_in a p.first n) (omega (arith, takes.from, takes.some, takes.to)) in
    let few = few_wait q.run in
    omega (arith, left, now, none, some, few)

pub look_falls : (p q : ReadPart) (r : Run) (l : looking.Looking) (c : Chain) (n : ℕ) (a : Asked) → asked_in c p.index ≡ Some a → LooksNext p a n r → table_of l ≡ None → RunsOn p r (Looking l) q
    → FallsIn Asking p c n (More q)
look_falls p q r l c n a e looks table moved = omega (arith, left, now, fewer, one, two, waits_less looks.run)
  where
    to : q.run.to ≡ r.to
    to = ap (λ (s : Run). s.to) moved.run

    left : steps_left q c n ≡ 5 * clusters_in a p.first n (cluster_end a.cluster p.first r.to (end_in a p.first n)) + wait q.run + 3 + (steps_from c p.first n (p.index + 1) + 1) + 2
    left =
        ap (λ s. left_in s q c n) moved.stage_is ∙ ap₂ (λ o t. left_found q c n o + looks_left t) (same_asked p q c n moved.part moved.index (Some a) e) table
        ∙ ap₂ (λ k t. 5 * k + wait q.run + 3 + (t + 1) + 2) (same_clusters p q c n moved.part moved.index a (past q a n) _ (ap₂ (λ m i. cluster_end a.cluster m i (end_in a m n)) moved.part.first to)) (same_later p q c n moved.part moved.index)

    now : left_in Asking p c n ≡ left_asking p c n (Some a)
    now = asking_now p c n (Some a) e

    fewer : clusters_in a p.first n (cluster_end a.cluster p.first r.to (end_in a p.first n)) + 1 ≤ clusters_in a p.first n r.to
    fewer = one_fewer a.cluster p.first r.to (end_in a p.first n) looks.inside

    one : clusters_in a p.first n r.to ≤ clusters_in a p.first n p.run.to
    one = fewer_clusters a.cluster p.first p.run.to r.to (end_in a p.first n) looks.from

    two : wait q.run ≡ wait r
    two = ap wait moved.run

    waits_less : (r ≡ p.run) ⊎ (is_free p × (r.from ≡ r.to)) → wait r ≤ wait p.run
    waits_less (inl same) = let e = ap wait same in omega (arith, e)
    waits_less (inr free) = let e = no_wait r free.1 in omega (arith, e)

pub read_falls : (p : ReadPart) (c : Chain) (n : ℕ) (a : Asked) (turn : PartTurn) → asked_in c p.index ≡ Some a → p.stage ≡ Asking → waits p → IsBehindThen p turn → FallsIn Asking p c n turn
read_falls p c n a (More q) e is less moved =
    let left = asking_left p q c n moved.part moved.index a p.run.to e (moved.stage_is ∙ is) moved.to in
    let now = asking_now p c n (Some a) e in
    let none = no_wait q.run (moved.from ∙ sym moved.to) in
    let one = one_wait p.run less in
    omega (arith, left, now, none, one)
read_falls p c n a (Done b) e is less moved = absurd moved
read_falls p c n a (Ended b r) e is less moved = tt

pub read_found_falls : (p : ReadPart) (y : Entry) (c : Chain) (n : ℕ) (a : Asked) (turn : PartTurn) → asked_in c p.index ≡ Some a → p.stage ≡ Found y → waits p → IsBehindThen p turn → FallsIn (Found y) p c n turn
read_found_falls p y c n a (More q) e is less moved =
    let left = found_left p q c n moved.part moved.index a y e (moved.stage_is ∙ is) moved.to in
    let now = found_now p c n y (Some a) e in
    let none = no_wait q.run (moved.from ∙ sym moved.to) in
    let one = one_wait p.run less in
    omega (arith, left, now, none, one)
read_found_falls p y c n a (Done b) e is less moved = absurd moved
read_found_falls p y c n a (Ended b r) e is less moved = tt

-- an entry is used: the next sector is behind its cluster
pub used_falls : (p q : ReadPart) (y : Entry) (c : Chain) (n : ℕ) (a : Asked) → asked_in c p.index ≡ Some a → IsSamePart p q → q.index ≡ p.index → q.stage ≡ Asking → q.run.to ≡ past p a n → FallsIn (Found y) p c n (More q)
used_falls p q y c n a e same index stage to =
    let left = asking_left p q c n same index a (past p a n) e stage to in
    let now = found_now p c n y (Some a) e in
    let few = few_wait q.run in
    omega (arith, left, now, few)

pub lost_falls : (p q : ReadPart) (y : Entry) (c : Chain) (n : ℕ) → asked_in c p.index ≡ None → RunsOn p p.run Asking q → FallsIn (Found y) p c n (More q)
lost_falls p q y c n e moved =
    let left : steps_left q c n ≡ 1 = ap (λ s. left_in s q c n) moved.stage_is ∙ ap (left_asking q c n) (ap (asked_in c) moved.index ∙ e) in
    let now = found_now p c n y None e in
    omega (arith, left, now)

-- ---- a look-up

any_left : (t : Option ℕ) → 0 < looks_left t
any_left None = omega arith
any_left (Some n) = omega arith

found_same : (p q : ReadPart) (c : Chain) (n : ℕ) (stage : Stage) (o : Option Asked) → asked_in c p.index ≡ o → RunsOn p p.run stage q → left_found q c n (asked_in c q.index) ≡ left_found p c n (asked_in c p.index)
found_same p q c n stage None e moved = ap (left_found q c n) (ap (asked_in c) moved.index ∙ e) ∙ sym (ap (left_found p c n) e)
found_same p q c n stage (Some a) e moved =
    ap (left_found q c n) (same_asked p q c n moved.part moved.index (Some a) e)
    ∙ ap₂ (λ k t. 5 * k + wait q.run + 3 + (t + 1)) (same_clusters p q c n moved.part moved.index a (past q a n) (past p a n) (same_past p q c n moved.part moved.index a (ap (λ (s : Run). s.to) moved.run))) (same_later p q c n moved.part moved.index)
    ∙ ap (λ w. 5 * clusters_in a p.first n (past p a n) + w + 3 + (steps_from c p.first n (p.index + 1) + 1)) (ap wait moved.run) ∙ sym (ap (left_found p c n) e)

pub look_more_falls : (p q : ReadPart) (l m : looking.Looking) (c : Chain) (n : ℕ) → looks_left (table_of m) < looks_left (table_of l) → RunsOn p p.run (Looking m) q → FallsIn (Looking l) p c n (More q)
look_more_falls p q l m c n less moved =
    let left : steps_left q c n ≡ left_found q c n (asked_in c q.index) + looks_left (table_of m) = ap (λ s. left_in s q c n) moved.stage_is in
    let same = found_same p q c n (Looking m) (asked_in c p.index) refl moved in
    omega (arith, less, left, same)

pub look_done_falls : (p q : ReadPart) (l : looking.Looking) (y : Entry) (c : Chain) (n : ℕ) → RunsOn p p.run (Found y) q → FallsIn (Looking l) p c n (More q)
look_done_falls p q l y c n moved =
    let left : steps_left q c n ≡ left_found q c n (asked_in c q.index) = ap (λ s. left_in s q c n) moved.stage_is in
    let same = found_same p q c n (Found y) (asked_in c p.index) refl moved in
    let some = any_left (table_of l) in
    omega (arith, left, same, some)
