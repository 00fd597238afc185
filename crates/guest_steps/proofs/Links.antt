-- A step of a linking that is made with a layer of a chain.
use Rattle.std.proofs.Common.{◌≡◌, ℕ, slice_get, Some}
use Rattle.sd_names.specs.Turn.{MatchTurn}
use Rattle.sd_names.specs.declared.refusal.Refusal.TheVariants.{DiskFault}
use Rattle.sd_names.specs.declared.turn.Turn.TheVariants.{More, Done, Ended}
use Rattle.shared_disk.specs.Content.{Content, File}
use Rattle.volume_meta.specs.declared.record.VolumeRecord.{VolumeRecord}
use Rattle.qcow_layer.specs.declared.layer.Layer.{Layer}
use Rattle.chain_model.specs.Folder.{Folder}
use Rattle.chain_laws.specs.Laid.{Laying}
use Rattle.volume_chain.specs.declared.chain.Chain.{Chain}
use Rattle.volume_chain.specs.declared.volumes.OpenVolume.TheVariants.{Cow}
use Rattle.guest_laws.specs.Write.{KnowsWrite}
use Rattle.guest_laws.proofs.Writes.{ends, file_steps}
use Rattle.write_linking.specs.Linking as linking
use Rattle.write_linking.specs.Linking.{IsLinkedAll, KnowsStage, LinkingTurn, LinksOn, stage_turn}
use Rattle.write_linking.specs.declared.linking.WriteLinking.{WriteLinking}
use Rattle.guest_steps.specs.Linking.{IsLinkedIn, LinksChain, LinksIn}
use Rattle.guest_steps.proofs.Lends.{of_lent}

module _ (work : WriteLinking) (c : Chain) (index : ℕ) (w : Layer) (host faults : ℕ) (d e : Content) (l : Laying) (x : VolumeRecord) (start : Folder) (begun f : File)
    (knows : KnowsWrite c index w l x host start f d) (working : linking.Knows work w l x host begun f) where
  turned : (turn : LinkingTurn) (now : File) → KnowsWrite c index w l x host start now e
      → MatchTurn (stage_turn turn) (λ s. KnowsStage s w l x host begun now) (λ _. IsLinkedAll w l x host now) (λ _ refusal. refusal ≡ DiskFault faults)
      → MatchTurn turn (λ more. linking.Knows more w l x host begun now) (λ _. IsLinkedIn c w l x host now e) (λ _ refusal. refusal ≡ DiskFault faults)
  turned (More more) now write is = is
  turned (Done t) now write is = record { linked = is; medium = ends c index w l x host start now e write is.writer.knows is.settled is.holds }
  turned (Ended b refusal) now write is = is

  leaves : (turn : LinkingTurn) → LinksOn work w host faults turn d e → LinksChain c index w l x host faults start turn begun d e
  leaves turn call =
      let left = call l x begun f knows.there working in
      let write : KnowsWrite c index w l x host start left.now e = file_steps c index w l x host start f left.now d e knows left.put (left.on f knows.there) in
      record { now = left.now; put = left.put; write = write; turns = turned turn left.now write left.after }

pub links : (work : WriteLinking) (c : Chain) (index : ℕ) (y : Layer) (host faults : ℕ) (turn : LinkingTurn) (d e : Content) → slice_get c.volumes index ≡ Some (Cow y)
    → LinksOn work y host faults turn d e → LinksIn work c index host faults turn d e
links work c index y host faults turn d e lent call w l x start begun f knows working =
    leaves work c index w host faults d e l x start begun f knows working turn (of_lent (λ z. LinksOn work z host faults turn d e) c index y w lent knows.layer call)
