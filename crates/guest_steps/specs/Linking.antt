-- A step of the linking of a write's new clusters, made with a chain.
use Rattle.std.specs.Prelude.{◌≡◌, ℕ, slice_get, Some}
use Rattle.sd_names.specs.Turn.{MatchTurn}
use Rattle.sd_names.specs.declared.refusal.Refusal.TheVariants.{DiskFault}
use Rattle.shared_disk.specs.Calls.{IsPut}
use Rattle.shared_disk.specs.Content.{Content, File}
use Rattle.shared_disk.specs.Step.{NearsEnd}
use Rattle.volume_meta.specs.declared.record.VolumeRecord.{VolumeRecord}
use Rattle.qcow_layer.specs.Opening.{place_kept}
use Rattle.qcow_layer.specs.declared.layer.Layer.{Layer}
use Rattle.chain_model.specs.Folder.{Folder}
use Rattle.chain_laws.specs.Laid.{Laying}
use Rattle.volume_chain.specs.Chain.{open_in}
use Rattle.volume_chain.specs.declared.chain.Chain.{Chain}
use Rattle.volume_chain.specs.declared.volumes.OpenVolume.TheVariants.{Cow}
use Rattle.raw_writing.specs.Image.{IsOnMedium}
use Rattle.guest_laws.specs.Write.{KnowsWrite}
use Rattle.write_linking.specs.Linking as linking
use Rattle.write_linking.specs.Linking.{IsLinkedAll, IsSamePlaced, LinkingTurn, linking_left}
use Rattle.write_linking.specs.declared.linking.WriteLinking.{WriteLinking}

-- the part is on the medium once all clusters have their entries
pub record IsLinkedIn (c : Chain) (w : Layer) (l : Laying) (x : VolumeRecord) (host : ℕ) (f : File) (d : Content) : Type 0 where
  pub linked : IsLinkedAll w l x host f
  pub medium : IsOnMedium c l host d

-- What a step leaves, a refused one too: the layer's file alone is changed, the chain knows the write, and each outcome of the folder
-- comes from one of the begin. `begun` is the file in which the write of the layer began.
pub record LinksChain (c : Chain) (index : ℕ) (w : Layer) (l : Laying) (x : VolumeRecord) (host faults : ℕ) (start : Folder) (turn : LinkingTurn) (begun : File) (d e : Content) : Type 0 where
  pub now : File
  pub put : IsPut d (place_kept w) (Some now) e
  pub write : KnowsWrite c index w l x host start now e
  pub turns : MatchTurn turn
      (λ more. linking.Knows more w l x host begun now)
      (λ _. IsLinkedIn c w l x host now e)
      (λ _ refusal. refusal ≡ DiskFault faults)

abbrev pub LinksIn : WriteLinking → Chain → ℕ → ℕ → ℕ → LinkingTurn → Content → Content → Type 0
LinksIn work c index host faults turn d e = (w : Layer) (l : Laying) (x : VolumeRecord) (start : Folder) (begun f : File) → KnowsWrite c index w l x host start f d → linking.Knows work w l x host begun f
    → LinksChain c index w l x host faults start turn begun d e

-- fewer steps are left
abbrev pub FallsAt : WriteLinking → Chain → ℕ → LinkingTurn → Type 0
FallsAt work c index turn = (w : Layer) → slice_get (open_in c) index ≡ Some (Cow w) → NearsEnd (IsSamePlaced work) (linking_left w) (linking_left w work) turn
