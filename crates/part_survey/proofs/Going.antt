-- The steps of a survey.
use Rattle.std.proofs.Common.{◌≡◌, ℕ, ◌+◌, Some, subst}
use Rattle.std.specs.Prelude.{◌≢◌}
use Rattle.sd_names.specs.declared.turn.Turn.{Turn}
use Rattle.sd_names.specs.declared.turn.Turn.TheVariants.{More, Done, Ended}
use Rattle.sd_names.specs.Turn.{MatchTurn}
use Rattle.shared_disk.specs.Content.{Content}
use Rattle.image_model.specs.File.{file_of}
use Rattle.image_model.specs.Layer.{Tables}
use Rattle.image_model.specs.Room.{room_of}
use Rattle.layer_walk.specs.Known.{tables_of}
use Rattle.qcow_layer.specs.Looking.{IsFault, IsLookedUp, LooksOn}
use Rattle.qcow_layer.specs.Opening.{target_kept, work_kept}
use Rattle.qcow_layer.specs.Stages.{IsGone}
use Rattle.qcow_layer.specs.declared.layer.Layer.{Layer}
use Rattle.qcow_layer.specs.declared.looking.Looked.{Looked}
use Rattle.write_planning.specs.Plan.{Tells, found_at, looked_up, span_of}
use Rattle.write_planning.specs.declared.plan.WritePlan.{WritePlan}
use Rattle.part_survey.specs.Survey.{HasFound, IsAfter, KnowsSurvey, Surveys, cluster_of, plan_of}
use Rattle.part_survey.specs.declared.survey.Survey.{Survey}
use Rattle.part_survey.proofs.Finding.{after_found, found_next}

after_gone : (q : WritePlan) (turn : Turn Survey WritePlan (Unit {0})) (layer : Layer) (d : Content) → IsAfter q turn → MatchTurn turn (λ _. Unit {0}) (λ _. Unit {0}) (λ _ refusal. IsGone (target_kept layer) refusal d)
after_gone q (More next) layer d after = tt
after_gone q (Done plan) layer d after = tt
after_gone q (Ended b refusal) layer d after = absurd after

pub looked_on : (s : Survey) (q : WritePlan) (looked : Looked) (turn : Turn Survey WritePlan (Unit {0})) (layer : Layer) (host : ℕ) (d e : Content) → LooksOn s.looking layer host (Done looked) d e → IsAfter q turn
    → span_of q ≡ span_of (plan_of s) → looked_up q ≡ looked_up (plan_of s) + 1 → found_at q (looked_up (plan_of s)) ≡ Some looked → ((j : ℕ) → j ≢ looked_up (plan_of s) → found_at q j ≡ found_at (plan_of s) j)
    → Surveys s layer host turn d e
looked_on s q looked turn layer host d e call after span up here others = record {
  same = call.same;
  gone = after_gone q turn layer d after;
  kept = call.kept;
  after = λ count sectors seen fits numbers knows. known (tables_of (work_kept layer) (file_of count sectors)) (call.after count sectors seen fits numbers knows.table) knows;
}
  where
    known : (t : Tables) → IsLookedUp t (cluster_of s) looked → KnowsSurvey s t → MatchTurn turn (λ next. KnowsSurvey next t) (λ done. HasFound done t × Tells done (room_of t)) (λ _ refusal. IsFault refusal)
    known t is knows = after_found q turn t after (found_next (plan_of s) q t looked knows.found span up here others (subst (λ k. IsLookedUp t k looked) knows.cluster is))
