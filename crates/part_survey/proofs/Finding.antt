-- What is found of a part's clusters.
use Rattle.std.proofs.Common.{◌≡◌, ◌⊎◌, ℕ, ◌+◌, ◌<◌, ◌&&◌, Option, Some, None, sym, ap, ◌∙◌, subst, inl, inr, arith}
use Rattle.std.specs.Prelude.{◌≢◌, nat_lt}
use Rattle.std.proofs.lemmas.Bool.{cases_eq}
use Rattle.sd_names.specs.declared.turn.Turn.{Turn}
use Rattle.sd_names.specs.declared.turn.Turn.TheVariants.{More, Done, Ended}
use Rattle.sd_names.specs.Turn.{MatchTurn}
use Rattle.image_model.specs.Layer.{Tables, cluster_size, l1_entry, names_table}
use Rattle.image_model.specs.Room.{kind_of, room_of}
use Rattle.qcow_layer.specs.Looking.{IsFault, IsLookedUp, KnowsTable}
use Rattle.qcow_layer.specs.declared.looking.Looked.{Looked}
use Rattle.write_planning.specs.Plan.{HasTables, Tells, found_at, found_kind, found_table, looked_up, span_of}
use Rattle.write_planning.specs.Span.{count_of, first_of, width_of}
use Rattle.write_planning.specs.declared.plan.WritePlan.{WritePlan}
use Rattle.part_survey.specs.Survey.{HasFound, IsAfter, KnowsSurvey, cluster_of, plan_of, table_of}
use Rattle.part_survey.specs.declared.survey.Survey.{Survey}

-- no table is known yet
no_table : (t : Tables) (k : ℕ) (table : Option ℕ) → table ≡ None → KnowsTable t k table
no_table t k table is = subst (λ (o : Option ℕ). KnowsTable t k o) (sym is) tt

pub begins : (s : Survey) (t : Tables) → looked_up (plan_of s) ≡ 0 → cluster_of s ≡ first_of (span_of (plan_of s)) → table_of s ≡ None → width_of (span_of (plan_of s)) ≡ cluster_size t → KnowsSurvey s t
begins s t none at table width = record {
  found = record { width = width; found = λ j lt. absurd (omega (arith, lt, none)) };
  cluster = at ∙ omega (arith, none);
  table = no_table t (cluster_of s) (table_of s) table;
}

pub shared : (t : Tables) → HasTables (room_of t)
shared t i k same = ap (λ n. nat_lt n t.header.l1_size && names_table (l1_entry t n)) same

-- one cluster more was looked up
pub found_next : (p q : WritePlan) (t : Tables) (looked : Looked) → HasFound p t → span_of q ≡ span_of p → looked_up q ≡ looked_up p + 1 → found_at q (looked_up p) ≡ Some looked
    → ((j : ℕ) → j ≢ looked_up p → found_at q j ≡ found_at p j) → IsLookedUp t (first_of (span_of p) + looked_up p) looked → HasFound q t
found_next p q t looked before span next here others is = record {
  width = ap width_of span ∙ before.width;
  found = λ j lt. go j lt (cases_eq j (looked_up p));
}
  where
    first : first_of (span_of p) ≡ first_of (span_of q)
    first = ap first_of (sym span)

    go : (j : ℕ) → j < looked_up q → (j ≡ looked_up p) ⊎ (j ≡ looked_up p → ⊥) → (seen : Looked) × (found_at q j ≡ Some seen) × IsLookedUp t (first_of (span_of q) + j) seen
    go j lt (inl same) = (
      looked,
      ap (found_at q) same ∙ here,
      subst (λ f. IsLookedUp t (f + j) looked) first (subst (λ n. IsLookedUp t (first_of (span_of p) + n) looked) (sym same) is),
    )
    go j lt (inr other) =
        let at = before.found j (omega (arith, lt, next, other)) in
        (at.0, others j other ∙ at.1, subst (λ f. IsLookedUp t (f + j) at.0) first at.2)

-- all clusters were looked up
pub tells : (p : WritePlan) (t : Tables) → HasFound p t → looked_up p ≡ count_of (span_of p) → Tells p (room_of t)
tells p t found all = record {
  width = sym found.width;
  kinds = λ j lt. let at = found.found j (omega (arith, lt, all)) in ap found_kind at.1 ∙ ap kind_of at.2.entry;
  tables = λ j lt. let at = found.found j (omega (arith, lt, all)) in ap found_table at.1 ∙ at.2.table;
}

-- what comes next
pub after_found : (p : WritePlan) (turn : Turn Survey WritePlan (Unit {0})) (t : Tables) → IsAfter p turn → HasFound p t
    → MatchTurn turn (λ next. KnowsSurvey next t) (λ done. HasFound done t × Tells done (room_of t)) (λ _ refusal. IsFault refusal)
after_found p (More next) t after found = record {
  found = subst (λ (q : WritePlan). HasFound q t) (sym after.0) found;
  cluster = after.1 ∙ ap (λ (q : WritePlan). first_of (span_of q) + looked_up q) (sym after.0);
  table = no_table t (cluster_of next) (table_of next) after.2;
}
after_found p (Done done) t after found = subst (λ (q : WritePlan). HasFound q t × Tells q (room_of t)) (sym after.0) (found, tells p t found after.1)
after_found p (Ended b refusal) t after found = absurd after
