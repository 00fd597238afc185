-- Looking a cluster up in a volume of a path.
use Rattle.std.specs.Prelude.{◌≡◌, ℕ, slice_get, Some}
use Rattle.sd_names.specs.Turn.{MatchTurn}
use Rattle.sd_names.specs.declared.turn.Turn.{Turn}
use Rattle.shared_disk.specs.Calls.{IsSame}
use Rattle.shared_disk.specs.Content.{Content}
use Rattle.qcow_layer.specs.Looking.{LooksOn}
use Rattle.qcow_layer.specs.Opening.{target_kept}
use Rattle.qcow_layer.specs.Stages.{IsGone}
use Rattle.qcow_layer.specs.declared.layer.Layer.{Layer}
use Rattle.qcow_layer.specs.declared.looking.Looked.{Looked}
use Rattle.qcow_layer.specs.declared.looking.Looking.{Looking}
use Rattle.volume_chain.specs.Chain.{open_in}
use Rattle.volume_chain.specs.declared.chain.Chain.{Chain}
use Rattle.volume_chain.specs.declared.volumes.OpenVolume.TheVariants.{Cow}

-- It changes nothing; in a layer it is a step of that layer's look-up, and no other volume refuses.
pub record LooksAt (c : Chain) (k : ℕ) (looking : Looking) (host : ℕ) (turn : Turn Looking Looked (Unit {0})) (d e : Content) : Type 0 where
  pub same : IsSame d e
  pub looks : (l : Layer) → slice_get (open_in c) k ≡ Some (Cow l) → LooksOn looking l host turn d e
  pub gone : MatchTurn turn (λ _. Unit {0}) (λ _. Unit {0}) (λ _ refusal. (l : Layer) × (slice_get (open_in c) k ≡ Some (Cow l)) × IsGone (target_kept l) refusal d)
