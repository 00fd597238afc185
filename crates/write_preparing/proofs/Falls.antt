-- Fewer steps are left, where one kind of step follows another.
use Rattle.std.proofs.Common.{◌≡◌, ℕ, ◌+◌, ◌*◌, ◌<◌, ◌≤◌, List, [], ap, ◌∙◌, arith}
use Rattle.std.proofs.Math.Nat.{mul-le-mul_right}
use Rattle.layer_heading.specs.Clearing.{clearing_left}
use Rattle.layer_heading.specs.declared.clearing.Clearing as headings
use Rattle.layer_placing.specs.Placing as placing
use Rattle.layer_placing.specs.Stages.{stage_left as placing_stage_left}
use Rattle.layer_placing.specs.declared.placing.Placing as placings
use Rattle.write_planning.specs.Linked.{sectors_of}
use Rattle.write_planning.specs.Plan.{span_of, wanted_of}
use Rattle.write_planning.specs.Span.{count_of}
use Rattle.write_planning.specs.declared.plan.WritePlan.{WritePlan}
use Rattle.write_planning.specs.declared.span.Span.{Span}
use Rattle.place_writing.specs.Places as places
use Rattle.place_writing.specs.declared.places.PlaceWriting.{PlaceWriting}
use Rattle.write_preparing.specs.Placed.{clusters_of, plan_of}
use Rattle.write_preparing.specs.Preparing.{IsOfSpan, TakesNext, WritesFirst, planned_at, stage_left, taking_left}
use Rattle.write_preparing.specs.declared.placed.Placed.{Placed}
use Rattle.write_preparing.specs.declared.stage.Stage.{Stage}
use Rattle.write_preparing.specs.declared.stage.Stage.TheVariants.{Surveying, Asking, Clearing, Placing, InPlace}

places_few : (p : WritePlan) (s : PlaceWriting) → s.plan ≡ p → places.places_left s ≤ count_of (span_of p)
places_few p s is = let same = ap (λ (q : WritePlan). count_of (span_of q)) is in omega (arith, same)

-- the writing over data takes a step for each cluster that the part meets
first_left : (p : WritePlan) (pieces most : ℕ) (stage : Stage) (placed : Placed) → plan_of placed ≡ p → WritesFirst (plan_of placed) (clusters_of placed) stage → count_of (span_of p) < most
    → IsOfSpan (span_of p) stage × (stage_left pieces stage < most)
first_left p pieces most (InPlace placed' s) placed same first more =
    let few = places_few p s (first.begun.plan ∙ same) in
    (ap (λ (q : WritePlan). span_of q) (first.begun.plan ∙ same), omega (arith, few, more))
first_left p pieces most (Surveying s) placed same first more = absurd first
first_left p pieces most (Asking a) placed same first more = absurd first
first_left p pieces most (Clearing q c) placed same first more = absurd first
first_left p pieces most (Placing t) placed same first more = absurd first

pub first_falls : (p : WritePlan) (pieces : ℕ) (work : placings.Placing) (placed : Placed) (stage : Stage) → plan_of placed ≡ p → WritesFirst (plan_of placed) (clusters_of placed) stage → 0 < placing.placing_left pieces work
    → IsOfSpan (span_of p) stage × (stage_left pieces stage < placing.placing_left pieces work + count_of (span_of p))
first_falls p pieces work placed stage same first some = first_left p pieces (placing.placing_left pieces work + count_of (span_of p)) stage placed same first (omega (arith, some))

few_taken : (s : Span) (n pieces : ℕ) → n ≤ count_of s + sectors_of s → 1 + n * (7 + pieces) + count_of s ≤ taking_left s pieces
few_taken s n pieces le = let rows : n * (7 + pieces) ≤ (count_of s + sectors_of s) * (7 + pieces) = mul-le-mul_right (7 + pieces) le in omega (arith, rows)

pub taking_falls : (p : WritePlan) (pieces : ℕ) (c : headings.Clearing) (stage : Stage) → 0 < clearing_left c → TakesNext p stage
    → IsOfSpan (span_of p) stage × (stage_left pieces stage < clearing_left c + 1 + taking_left (span_of p) pieces)
taking_falls p pieces c (Placing t) some is =
    let steps : placing.placing_left pieces t.work ≡ 1 + wanted_of p * (7 + pieces) = ap (λ st. placing_stage_left pieces st) is.2.1 ∙ ap (λ n. 1 + n * (7 + pieces)) is.2.2 in
    let few = few_taken (span_of p) (wanted_of p) pieces is.1 in
    let same = ap (λ (q : WritePlan). count_of (span_of q)) is.0 in
    (ap (λ (q : WritePlan). span_of q) is.0, omega (arith, steps, few, same, some))
taking_falls p pieces c (InPlace placed s) some is =
    let few = places_few p s is.1.begun.plan in
    (ap (λ (q : WritePlan). span_of q) is.1.begun.plan, omega (arith, few, some))
taking_falls p pieces c (Surveying s) some is = absurd is.1
taking_falls p pieces c (Asking a) some is = absurd is.1
taking_falls p pieces c (Clearing q d) some is = absurd is.1

-- ---- the plan stays that of the part

pub first_planned : (p : WritePlan) (clusters : List ℕ) (stage : Stage) → WritesFirst p clusters stage → planned_at stage ≡ span_of p
first_planned p clusters (InPlace placed s) first = ap (λ (q : WritePlan). span_of q) first.plan
first_planned p clusters (Surveying s) first = absurd first
first_planned p clusters (Asking a) first = absurd first
first_planned p clusters (Clearing q c) first = absurd first
first_planned p clusters (Placing t) first = absurd first

pub taking_planned : (p : WritePlan) (stage : Stage) → TakesNext p stage → planned_at stage ≡ span_of p
taking_planned p (Placing t) is = ap (λ (q : WritePlan). span_of q) is.0
taking_planned p (InPlace placed s) is = first_planned p [] (InPlace placed s) is.1
taking_planned p (Surveying s) is = absurd is.1
taking_planned p (Asking a) is = absurd is.1
taking_planned p (Clearing q d) is = absurd is.1
