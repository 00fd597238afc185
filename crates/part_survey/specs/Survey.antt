-- The looking up of a part's clusters, and what each step finds.
use Rattle.std.specs.Prelude.{◌≡◌, ℕ, ◌+◌, ◌-◌, ◌*◌, ◌^◌, ◌<◌, List, Option, None, Some}
use Rattle.sd_names.specs.declared.turn.Turn.{Turn}
use Rattle.sd_names.specs.Turn.{MatchTurn}
use Rattle.shared_disk.specs.Calls.{IsSame}
use Rattle.shared_disk.specs.Content.{Content}
use Rattle.image_model.specs.File.{file_of}
use Rattle.image_model.specs.Layer.{Tables, cluster_size}
use Rattle.image_model.specs.Room.{room_of}
use Rattle.layer_walk.specs.Known.{tables_of}
use Rattle.qcow_layer.specs.Knowing.{KnowsLayerOn, KnowsNumbers}
use Rattle.qcow_layer.specs.Looking as looks
use Rattle.qcow_layer.specs.Looking.{IsFault, IsLookedUp, KnowsTable, looks_left}
use Rattle.qcow_layer.specs.Opening.{place_kept, target_kept, work_kept}
use Rattle.qcow_layer.specs.Seen.{IsSeen}
use Rattle.qcow_layer.specs.Stages.{IsGone}
use Rattle.qcow_layer.specs.declared.layer.Layer.{Layer}
use Rattle.qcow_layer.specs.declared.looking.Looked.{Looked}
use Rattle.qcow_layer.specs.declared.looking.Looking.{Looking}
use Rattle.write_planning.specs.Plan.{Tells, found_at, looked_up, span_of}
use Rattle.write_planning.specs.Span.{count_of, first_of, width_of}
use Rattle.write_planning.specs.declared.plan.WritePlan.{WritePlan}
use Rattle.write_planning.specs.declared.span.Span.{Span}
use Rattle.part_survey.specs.declared.survey.Survey.{Survey}

-- what was found so far; which cluster is looked up now, and its L2 table, once that is known
abbrev pub plan_of : Survey → WritePlan
plan_of s = s.plan

abbrev pub cluster_of : Survey → ℕ
cluster_of s = looks.cluster_of s.looking

abbrev pub table_of : Survey → Option ℕ
table_of s = looks.table_of s.looking

-- at most two steps for each cluster
abbrev pub survey_left : Survey → ℕ
survey_left s = 2 * (count_of (span_of s.plan) - looked_up s.plan - 1) + looks_left (table_of s)

-- ---- on every disk

abbrev pub GoesOnWith : Looking → Survey → Type 0
GoesOnWith looking s = (cluster_of s ≡ looks.cluster_of looking) × (table_of s ≡ looks.table_of looking)

abbrev pub StartsAt : Span → Survey → Type 0
StartsAt span s = span_of (plan_of s) ≡ span

-- all clusters of the part were looked up
abbrev pub IsAllOf : Span → Turn Survey WritePlan (Unit {0}) → Type 0
IsAllOf span turn = MatchTurn turn (λ _. Unit {0}) (λ plan. (span_of plan ≡ span) × (looked_up plan ≡ count_of span)) (λ _ _. Unit {0})

-- the next cluster is looked up, or the plan is done
abbrev pub IsAfter : WritePlan → Turn Survey WritePlan (Unit {0}) → Type 0
IsAfter p turn = MatchTurn turn
    (λ next. (plan_of next ≡ p) × (cluster_of next ≡ first_of (span_of p) + looked_up p) × (table_of next ≡ None) × (looked_up p < count_of (span_of p)))
    (λ done. (done ≡ p) × (looked_up p ≡ count_of (span_of p)))
    (λ _ _. ⊥)

-- ---- where the disk tells what it holds

-- what was found is what the layer says
pub record HasFound (p : WritePlan) (t : Tables) : Type 0 where
  pub width : width_of (span_of p) ≡ cluster_size t
  pub found : (j : ℕ) → j < looked_up p → (looked : Looked) × (found_at p j ≡ Some looked) × IsLookedUp t (first_of (span_of p) + j) looked

pub record KnowsSurvey (s : Survey) (t : Tables) : Type 0 where
  pub found : HasFound (plan_of s) t
  pub cluster : cluster_of s ≡ first_of (span_of (plan_of s)) + looked_up (plan_of s)
  pub table : KnowsTable t (cluster_of s) (table_of s)

-- A step changes nothing, and what is known of the layer stays known. Where the host sees a file of which the layer's numbers
-- are known, what is found is what the layer says.
pub record Surveys (s : Survey) (layer : Layer) (host : ℕ) (turn : Turn Survey WritePlan (Unit {0})) (d e : Content) : Type 0 where
  pub same : IsSame d e
  pub gone : MatchTurn turn (λ _. Unit {0}) (λ _. Unit {0}) (λ _ refusal. IsGone (target_kept layer) refusal d)
  pub kept : KnowsLayerOn layer host d → KnowsLayerOn layer host e
  pub after : (count : ℕ) (sectors : ℕ → List ℕ) → IsSeen host (place_kept layer) count sectors d → 512 * count < 2 ^ 64 → KnowsNumbers layer (file_of count sectors)
      → KnowsSurvey s (tables_of (work_kept layer) (file_of count sectors)) → MatchTurn turn
      (λ next. KnowsSurvey next (tables_of (work_kept layer) (file_of count sectors)))
      (λ plan. HasFound plan (tables_of (work_kept layer) (file_of count sectors)) × Tells plan (room_of (tables_of (work_kept layer) (file_of count sectors))))
      (λ _ refusal. IsFault refusal)
