-- A step of the preparing of a write, made with a chain.
use Rattle.std.specs.Prelude.{◌≡◌, ℕ, List, slice_get, Some}
use Rattle.sd_names.specs.Turn.{MatchTurn}
use Rattle.sd_names.specs.declared.refusal.Refusal.{Refusal}
use Rattle.shared_disk.specs.Calls.{IsPut, IsSame}
use Rattle.shared_disk.specs.Content.{Content, File}
use Rattle.shared_disk.specs.Step.{NearsEnd}
use Rattle.volume_meta.specs.declared.record.VolumeRecord.{VolumeRecord}
use Rattle.qcow_layer.specs.Opening.{place_kept}
use Rattle.qcow_layer.specs.declared.layer.Layer.{Layer}
use Rattle.layer_placing.specs.Stages.{pieces_of}
use Rattle.chain_model.specs.Folder.{Folder}
use Rattle.chain_laws.specs.Laid.{Laying}
use Rattle.chain_laws.specs.Written.{FileWritten}
use Rattle.volume_chain.specs.Chain.{open_in}
use Rattle.volume_chain.specs.LendingChain.{with_layer_at}
use Rattle.volume_chain.specs.declared.chain.Chain.{Chain}
use Rattle.volume_chain.specs.declared.volumes.OpenVolume.TheVariants.{Cow}
use Rattle.guest_laws.specs.Write.{KnowsWrite}
use Rattle.write_preparing.specs.Preparing as preparing
use Rattle.write_preparing.specs.Preparing.{IsEarly, IsPrepared, IsSameLayer, IsSamePart, MayEnd, PreparingTurn, preparing_left}
use Rattle.write_preparing.specs.declared.preparing.Preparing.{Preparing}

-- the chain is the same but for the layer with this index of its path, which is one of the same volume still
pub record IsLent (c next : Chain) (index : ℕ) : Type 0 where
  pub before : Layer
  pub was : slice_get (open_in c) index ≡ Some (Cow before)
  pub after : Layer
  pub is : next ≡ with_layer_at c index after
  pub same : IsSameLayer before after

-- What a step leaves, a refused one too: only the layer's file is changed, the write goes on with the chain as it is now, and each
-- outcome of the folder comes from one of the begin.
pub record PreparesChain (work : Preparing) (c next : Chain) (index : ℕ) (w : Layer) (l : Laying) (x : VolumeRecord) (host faults : ℕ) (start : Folder) (turn : PreparingTurn) (f : File) (d e : Content) : Type 0 where
  pub after : Layer
  pub now : File
  pub lent : next ≡ with_layer_at c index after
  pub same : IsSameLayer w after
  pub put : IsPut d (place_kept w) (Some now) e
  pub written : FileWritten l f now
  pub write : KnowsWrite next index after l x host start now e
  pub early : IsEarly (preparing.stage_of work) → IsSame d e
  pub turns : MatchTurn turn
      (λ more. preparing.Knows more after l x host now)
      (λ placed. IsPrepared placed after l x host now)
      (λ _ refusal. MayEnd (preparing.stage_of work) w after host faults refusal f d e)

abbrev pub PreparesAt : Preparing → Chain → Chain → ℕ → ℕ → ℕ → List ℕ → PreparingTurn → Content → Content → Type 0
PreparesAt work c next index host faults part turn d e = (w : Layer) (l : Laying) (x : VolumeRecord) (start : Folder) (f : File) → KnowsWrite c index w l x host start f d → preparing.Knows work w l x host f → l.part.bytes ≡ part
    → PreparesChain work c next index w l x host faults start turn f d e

-- want of room is told with the volume
abbrev pub IsStepRefusal : Chain → ℕ → Refusal → Type 0
IsStepRefusal c index refusal = (w : Layer) → slice_get (open_in c) index ≡ Some (Cow w) → preparing.IsPreparingRefusal w refusal

-- fewer steps are left
abbrev pub FallsAt : Preparing → Chain → ℕ → PreparingTurn → Type 0
FallsAt work c index turn = (w : Layer) → slice_get (open_in c) index ≡ Some (Cow w) → NearsEnd (IsSamePart work) (preparing_left (pieces_of w)) (preparing_left (pieces_of w) work) turn
