-- What a write wants is what the definition of room says that it needs.
use Rattle.std.proofs.Common.{◌≡◌, ℕ, ◌+◌, ◌-◌, ◌/◌, not, ◌&&◌, sym, ap, ◌∙◌, arith}
use Rattle.image_model.specs.Room.{Need, Room, how_many, is_first_under, is_placed}
use Rattle.layer_placing.proofs.Least.{same_many}
use Rattle.write_planning.specs.Plan.{Tells, found_at, found_table, lacks_place, lacks_table, span_of, wanted_of}
use Rattle.write_planning.specs.Span.{count_of, first_of}
use Rattle.write_planning.specs.declared.plan.WritePlan.{WritePlan}

pub wants_need : (p : WritePlan) (r : Room) → Tells p r → wanted_of p ≡ Need r (first_of (span_of p)) (first_of (span_of p) + count_of (span_of p))
wants_need p r tells = omega (arith, places, tables)
  where
    first : ℕ
    first = first_of (span_of p)

    count : ℕ
    count = count_of (span_of p)

    many : count ≡ first + count - first
    many = omega arith

    places : how_many (lacks_place p) (count_of (span_of p)) ≡ how_many (λ j. not (is_placed (r.kind (first_of (span_of p) + j)))) (first_of (span_of p) + count_of (span_of p) - first_of (span_of p))
    places =
        same_many (lacks_place p) (λ j. not (is_placed (r.kind (first + j)))) count (λ j lt. ap (λ k. not (is_placed k)) (tells.kinds j lt))
        ∙ ap (how_many (λ j. not (is_placed (r.kind (first + j))))) many

    tables : how_many (lacks_table p) (count_of (span_of p)) ≡ how_many (λ j. is_first_under (r.cluster / 8) (first_of (span_of p)) j && not (r.table (first_of (span_of p) + j))) (first_of (span_of p) + count_of (span_of p) - first_of (span_of p))
    tables =
        same_many (lacks_table p) (λ j. is_first_under (r.cluster / 8) first j && not (r.table (first + j))) count
        (λ j lt. ap (λ w. is_first_under (w / 8) first j && not (found_table (found_at p j))) (sym tells.width) ∙ ap (λ b. is_first_under (r.cluster / 8) first j && not b) (tells.tables j lt))
        ∙ ap (how_many (λ j. is_first_under (r.cluster / 8) first j && not (r.table (first + j)))) many
