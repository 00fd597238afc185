-- Steps along the path, which change nothing.
use Rattle.std.proofs.Common.{◌≡◌, ℕ, Option, Some, None, refl, sym, ◌∙◌, subst, inl}
use Rattle.sd_names.specs.Turn.{MatchTurn}
use Rattle.sd_names.specs.declared.turn.Turn.TheVariants.{More}
use Rattle.shared_disk.specs.Content.{Content, File}
use Rattle.shared_disk.specs.Crash.{IsAlso}
use Rattle.qcow_layer.specs.Opening as layer
use Rattle.qcow_layer.specs.declared.opening.Opening.{Opening}
use Rattle.chain_model.specs.Folder.{Volumes}
use Rattle.chain_gathering.specs.Steps.{IsKeptFile}
use Rattle.volume_chain.specs.Checking.{StageTurn}
use Rattle.volume_chain.specs.Knowing.{IsNextLayer, StageKnows}
use Rattle.volume_chain.specs.Stages.{IsNoFile, StageAfter, StageSteps, looked_at, target_at}
use Rattle.volume_chain.specs.declared.chain.Chain.{Chain}
use Rattle.volume_chain.specs.declared.stages.Stage.{Stage}
use Rattle.volume_chain.specs.declared.stages.Stage.TheVariants as stages

kept : (host : ℕ) (o : Option File) → IsAlso (IsKeptFile host) o o
kept host None = tt
kept host (Some f) = inl refl

-- a step that changes nothing is as it has to be where its turn is
pub same_steps : (s : Stage) (host : ℕ) (turn : StageTurn) (d e : Content) → e ≡ d → MatchTurn turn (λ _. Unit {0}) (λ _. Unit {0}) (λ _ refusal. IsNoFile s d refusal)
    → ((x : Volumes) → StageKnows s host x d → StageAfter (target_at s) host (looked_at s x d) turn d) → StageSteps s host turn d e
same_steps s host turn d e same gone after = subst (λ (c : Content). StageSteps s host turn d c) (sym same) (record {
  dirs = λ q. refl;
  files = λ shaped o. kept host _;
  others = λ shaped q other. refl;
  outcomes = λ o out. out;
  gone = gone;
  after = after;
})

-- the opening of the layer goes on
pub next_layer : (c : Chain) (o next : Opening) → layer.target_of next ≡ layer.target_of o → IsNextLayer c o → IsNextLayer c next
next_layer c o next same is = record { volume = is.volume; next = is.next; says = is.says; is = is.is; cow = is.cow; target = same ∙ is.target }

pub layer_more : (c : Chain) (o next : Opening) (host : ℕ) (d e : Content) → layer.target_of next ≡ layer.target_of o → layer.OpensOn o host (More next) d e
    → StageSteps (stages.Layer c o) host (More (stages.Layer c next)) d e
layer_more c o next host d e same on = same_steps (stages.Layer c o) host (More (stages.Layer c next)) d e on.same tt (λ x knows. (
  knows.0,
  next_layer c o next same knows.1,
  (
    knows.2.0,
    subst (λ t. x.file t.volume ≡ Some knows.2.0) (sym same) knows.2.1,
    subst (λ (q : Content). layer.KnowsFile next host knows.2.0.size knows.2.0.stable q) on.same (on.after knows.2.0.size knows.2.0.stable knows.2.2),
  ),
))
