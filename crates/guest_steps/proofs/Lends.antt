-- A step that is made with a layer of a chain.
use Rattle.std.proofs.Common.{◌≡◌, ℕ, List, slice_get, Some, refl, subst}
use Rattle.shared_disk.specs.Content.{Content, File}
use Rattle.volume_meta.specs.declared.record.VolumeRecord.{VolumeRecord}
use Rattle.qcow_layer.specs.declared.layer.Layer.{Layer}
use Rattle.chain_model.specs.Folder.{Folder}
use Rattle.chain_laws.specs.Laid.{Laying}
use Rattle.volume_chain.specs.LendingChain.{with_layer_at}
use Rattle.volume_chain.specs.declared.chain.Chain.{Chain}
use Rattle.volume_chain.specs.declared.volumes.OpenVolume.{OpenVolume}
use Rattle.volume_chain.specs.declared.volumes.OpenVolume.TheVariants.{Cow}
use Rattle.guest_laws.specs.Write.{KnowsWrite}
use Rattle.guest_laws.proofs.Writes.{steps}
use Rattle.write_preparing.specs.Preparing.{IsPrepared, IsSameLayer, KnowsStage, MayEnd, PreparesOn, PreparingTurn, stage_turn}
use Rattle.write_preparing.specs.Preparing as preparing
use Rattle.write_preparing.specs.declared.preparing.Preparing.{Preparing}
use Rattle.sd_names.specs.declared.turn.Turn.TheVariants.{More, Done, Ended}
use Rattle.sd_names.specs.Turn.{MatchTurn}
use Rattle.guest_steps.specs.Preparing.{PreparesAt, PreparesChain}

one_layer : (os : List OpenVolume) (k : ℕ) (w y : Layer) → slice_get os k ≡ Some (Cow w) → slice_get os k ≡ Some (Cow y) → w ≡ y
one_layer os k w y a b = cc

-- what is said of the layer that was lent is said of the layer with the index
pub of_lent : (P : Layer → Type 0) (c : Chain) (index : ℕ) (w y : Layer) → slice_get c.volumes index ≡ Some (Cow w) → slice_get c.volumes index ≡ Some (Cow y) → P w → P y
of_lent P c index w y a b is = subst P (one_layer c.volumes index w y a b) is

module _ (work : Preparing) (c : Chain) (index : ℕ) (y next : Layer) (host faults : ℕ) (part : List ℕ) (d e : Content) (same : IsSameLayer y next) (l : Laying) (x : VolumeRecord) (start : Folder) (f : File)
    (knows : KnowsWrite c index y l x host start f d) (begun : preparing.Knows work y l x host f) (bytes : l.part.bytes ≡ part) where
  turned : (turn : PreparingTurn) (after : File) → MatchTurn (stage_turn turn) (λ s. KnowsStage s next l x host after) (λ placed. IsPrepared placed next l x host after) (λ _ refusal. MayEnd work.stage y next host faults refusal f d e)
      → MatchTurn turn (λ more. preparing.Knows more next l x host after) (λ placed. IsPrepared placed next l x host after) (λ _ refusal. MayEnd work.stage y next host faults refusal f d e)
  turned (More more) after is = is
  turned (Done placed) after is = is
  turned (Ended b refusal) after is = is

  leaves : (turn : PreparingTurn) → PreparesOn work y next host faults part turn d e → PreparesChain work c (with_layer_at c index next) index y l x host faults start turn f d e
  leaves turn call =
      let left = call l x f knows.there begun bytes in
      record {
        after = next;
        now = left.now;
        lent = refl;
        same = same;
        put = left.put;
        written = left.written;
        write = steps c index y next l x host start f left.now d e knows same.target left.put left.written;
        early = left.early;
        turns = turned turn left.now left.after;
      }

pub prepares : (work : Preparing) (c : Chain) (index : ℕ) (w next : Layer) (host faults : ℕ) (part : List ℕ) (turn : PreparingTurn) (d e : Content) → slice_get c.volumes index ≡ Some (Cow w) → IsSameLayer w next
    → PreparesOn work w next host faults part turn d e → PreparesAt work c (with_layer_at c index next) index host faults part turn d e
prepares work c index w next host faults part turn d e lent same call y l x start f knows begun bytes =
    leaves work c index y next host faults part d e (of_lent (λ z. IsSameLayer z next) c index w y lent knows.layer same) l x start f knows begun bytes turn
    (of_lent (λ z. PreparesOn work z next host faults part turn d e) c index w y lent knows.layer call)
