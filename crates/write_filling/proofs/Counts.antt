-- Fewer steps are left after each.
use Rattle.std.proofs.Common.{◌≡◌, inl, inr, ℕ, zero, suc, ◌+◌, ◌-◌, ◌*◌, ◌/◌, ◌^◌, ◌<◌, ◌≤◌, min, Option, Some, refl, sym, ap, ◌∙◌, subst, arith}
use Rattle.sd_names.specs.Turn.{MatchTurn}
use Rattle.sd_names.specs.declared.id.Id.{Id}
use Rattle.sd_names.specs.declared.turn.Turn.TheVariants.{More, Done, Ended}
use Rattle.volume_chain.specs.Chain.{path_in}
use Rattle.volume_chain.specs.declared.chain.Chain.{Chain}
use Rattle.cluster_filling.specs.Cluster.{IsClusterOf, source_on}
use Rattle.cluster_filling.specs.Filling as filling
use Rattle.cluster_filling.specs.Left.{cluster_steps, many, pieces_steps, read_steps, steps_left}
use Rattle.cluster_filling.specs.declared.cluster.Cluster.{Cluster}
use Rattle.cluster_filling.specs.declared.cluster.NewCluster.{NewCluster}
use Rattle.cluster_filling.specs.declared.filling.Filling as one
use Rattle.write_planning.specs.Plan.{found_at, span_of}
use Rattle.write_planning.specs.Span.{count_of, first_of, width_of}
use Rattle.write_preparing.specs.Placed.{plan_of}
use Rattle.write_preparing.specs.declared.placed.Placed.{Placed}
use Rattle.write_filling.specs.Cluster.{IsNewCluster}
use Rattle.write_filling.specs.Said.{entry_found}
use Rattle.write_filling.specs.Filling.{BeginsOne, FillingsTurn, GoesNext, IsAtWork, IsPassed, many_of, next_place}
use Rattle.write_filling.specs.Left.{Falls, cluster_left, clusters_left, fillings_left, left_in, pieces_left, placed_left}
use Rattle.write_filling.specs.declared.fillings.Fillings.{Fillings}
use Rattle.write_filling.specs.declared.stage.Stage.{Stage}
use Rattle.write_filling.specs.declared.stage.Stage.TheVariants.{Next, Fills}
use Rattle.write_filling.proofs.Places.{low_number}

-- ---- a cluster that is begun

pieces_same : (z : Cluster) (c : Chain) (n done : ℕ) → pieces_steps z c n done ≡ pieces_left c z.below z.first z.count n done
pieces_same z c zero done = refl
pieces_same z c (suc n) done = ap (λ m. 4 + read_steps c z.below (z.first + done) (min (z.count - done) 128) + m) (pieces_same z c n (done + 128))

cluster_same : (s : Fillings) (c : Chain) (place : ℕ) (new : NewCluster) (z : Cluster) → s.done < many_of s → next_place s ≡ Some place → IsNewCluster s place c new → IsClusterOf new z → cluster_steps z c ≡ cluster_left c s.index s.placed s.done
cluster_same s c place new z lt gets is of =
    pieces_same z c (many z.count) 0
    ∙ ap (λ (b : Option Id). pieces_left c b z.first z.count (many z.count) 0) (of.below ∙ is.below)
    ∙ ap (λ n. pieces_left c B n z.count (many z.count) 0) first
    ∙ ap (λ n. pieces_left c B (N * S) n (many n) 0) count
    ∙ sym (ap (λ (o : Option ℕ). placed_left c B N S o) gets)
  where
    N : ℕ
    N = first_of (span_of s.placed.plan) + s.done

    S : ℕ
    S = width_of (span_of s.placed.plan) / 512

    B : Option Id
    B = source_on (path_in c) s.index (entry_found (found_at s.placed.plan s.done))

    low : new.number * (new.width / 512) ≤ 2 ^ 54
    low = subst (λ m. m * (new.width / 512) ≤ 2 ^ 54) (sym is.number) (subst (λ m. (first_of (span_of s.placed.plan) + s.done) * (m / 512) ≤ 2 ^ 54) (sym is.width) (low_number s.placed.plan s.done lt))

    first : z.first ≡ (first_of (span_of s.placed.plan) + s.done) * (width_of (span_of s.placed.plan) / 512)
    first = of.first low ∙ ap (λ m. m * (new.width / 512)) is.number ∙ ap (λ m. (first_of (span_of s.placed.plan) + s.done) * (m / 512)) is.width

    count : z.count ≡ width_of (span_of s.placed.plan) / 512
    count = of.count ∙ ap (λ m. m / 512) is.width

-- ---- those that are left

some_left : (c : Chain) (index : ℕ) (p : Placed) (n j : ℕ) → 0 < clusters_left c index p n j
some_left c index p zero j = omega arith
some_left c index p (suc n) j = omega arith

module _ (s : Fillings) (c : Chain) where
  abbrev N : ℕ
  N = many_of s

  abbrev rest : ℕ
  rest = clusters_left c s.index s.placed (N - (s.done + 1)) (s.done + 1)

  rest_next : s.done < N → left_in Next s c ≡ 1 + cluster_left c s.index s.placed s.done + rest
  rest_next lt = let more : N - s.done ≡ suc (N - (s.done + 1)) = omega (arith, lt) in ap (λ n. clusters_left c s.index s.placed n s.done) more

  left_passed : (next : Fillings) → IsPassed s next → fillings_left next c ≡ rest
  left_passed next passed =
      ap (λ (st : Stage). left_in st next c) passed.stage_is
      ∙ ap (λ i. clusters_left c i next.placed (count_of (span_of (plan_of next.placed)) - next.done) next.done) passed.same.index
      ∙ ap (λ (q : Placed). clusters_left c s.index q (count_of (span_of (plan_of q)) - next.done) next.done) passed.same.placed
      ∙ ap (λ n. clusters_left c s.index s.placed (N - n) n) passed.done

  left_work : (next : Fillings) (work : one.Filling) → IsAtWork s work next → fillings_left next c ≡ steps_left work c + rest
  left_work next work at =
      ap (λ (st : Stage). left_in st next c) at.stage_is
      ∙ ap (λ i. steps_left work c + clusters_left c i next.placed (count_of (span_of (plan_of next.placed)) - (next.done + 1)) (next.done + 1)) at.same.index
      ∙ ap (λ (q : Placed). steps_left work c + clusters_left c s.index q (count_of (span_of (plan_of q)) - (next.done + 1)) (next.done + 1)) at.same.placed
      ∙ ap (λ n. steps_left work c + clusters_left c s.index s.placed (N - (n + 1)) (n + 1)) at.done

  abbrev FallsIn : Stage → FillingsTurn → Type 0
  FallsIn stage turn = MatchTurn turn (λ next. fillings_left next c < left_in stage s c) (λ _. 0 < left_in stage s c) (λ _ _. Unit {0})

  begins_falls : (next : Fillings) → s.done < N → BeginsOne s c next → fillings_left next c < left_in Next s c
  begins_falls next lt b =
      let left = left_work next b.work b.next_is in
      let whole = b.begun.left c ∙ cluster_same s c b.place b.new (filling.cluster_of b.work) lt b.gets b.is b.begun.cluster in
      let all = rest_next lt in
      omega (arith, left, whole, all)

  next_in : (turn : FillingsTurn) → GoesNext s c turn → FallsIn Next turn
  next_in (More next) (lt, inl (none, passed)) = let left = left_passed next passed in let all = rest_next lt in omega (arith, left, all)
  next_in (More next) (lt, inr b) = begins_falls next lt b
  next_in (Done placed) (same, le) = some_left c s.index s.placed (N - s.done) s.done
  next_in (Ended b refusal) none = absurd none

  pub next_falls : (turn : FillingsTurn) → s.stage ≡ Next → GoesNext s c turn → Falls s c turn
  next_falls turn is goes = subst (λ (st : Stage). FallsIn st turn) (sym is) (next_in turn goes)

  pub work_falls : (work after : one.Filling) (next : Fillings) → s.stage ≡ Fills work → IsAtWork s after next → steps_left after c < steps_left work c → Falls s c (More next)
  work_falls work after next is at less = let left = left_work next after at in subst (λ (st : Stage). FallsIn st (More next)) (sym is) (omega (arith, left, less))

  pub whole_falls : (work : one.Filling) (next : Fillings) → s.stage ≡ Fills work → IsPassed s next → 0 < steps_left work c → Falls s c (More next)
  whole_falls work next is passed some = let left = left_passed next passed in subst (λ (st : Stage). FallsIn st (More next)) (sym is) (omega (arith, left, some))
