-- What is known of the image in each stage, and of one that may be written.
use Rattle.std.proofs.Common.{◌≡◌, ℕ, List, slice_get, Some, sym, subst}
use Rattle.std.specs.Prelude.{◌≢◌}
use Rattle.sd_names.specs.declared.id.Id.{Id}
use Rattle.sd_names.specs.declared.place.Place.{Place}
use Rattle.shared_disk.specs.Content.{Content, File}
use Rattle.shared_disk.specs.Crash.{IsSettled}
use Rattle.shared_disk.specs.WellFormed.{IsWellFormed}
use Rattle.shared_disk.proofs.AtPlace.{one_file}
use Rattle.volume_meta.specs.declared.record.VolumeRecord.{VolumeRecord}
use Rattle.qcow_layer.specs.Knowing.{KnowsLayer, KnowsLayerOn}
use Rattle.qcow_layer.specs.declared.layer.Layer.{Layer}
use Rattle.layer_writing.proofs.Known.{settled_knows}
use Rattle.chain_model.specs.Folder.{Folder, Volumes, folder_of}
use Rattle.chain_laws.specs.Laid.{Laying}
use Rattle.chain_laws.specs.Written.{ComesWritten}
use Rattle.chain_laws.proofs.Outcomes.{comes_itself}
use Rattle.chain_records.specs.Records.{records_in}
use Rattle.chain_gathering.specs.Knowing.{AreSettled}
use Rattle.chain_gathering.specs.declared.names.VolumeName.TheVariants.{Data}
use Rattle.volume_chain.specs.Chain.{IsOpenAs, dir_in, place_in}
use Rattle.volume_chain.specs.Knowing.{IsKnown, KnowsChain}
use Rattle.volume_chain.specs.declared.chain.Chain.{Chain}
use Rattle.volume_chain.specs.declared.volumes.OpenVolume.TheVariants.{Cow}
use Rattle.volume_chain.proofs.Along.{along_both}
use Rattle.raw_writing.specs.Image.{AreSettledBut}
use Rattle.raw_writing.proofs.Image.{settled_but}
use Rattle.guest_laws.specs.Write.{KnowsOthers}
use Rattle.guest_writing.specs.Knowing.{AreWhole, KnowsStage, MayBeWritten}
use Rattle.guest_writing.specs.declared.stage.Stage.{Stage}
use Rattle.guest_writing.specs.declared.stage.Stage.TheVariants.{Begun, Raw, Preparing, Filling, Linking}
use Rattle.guest_writing.proofs.Quiet.{along_there, layer_at}

others_of : (c : Chain) (v : Id) (host : ℕ) (d : Content) → KnowsChain c host d → KnowsOthers c v host d
others_of c v host d knows = record {
  shown = knows.shown;
  shape = knows.shape;
  all = knows.all;
  others = along_both (IsKnown c.target host d) (IsKnown c.target host d) (λ u o. u ≢ v → IsKnown c.target host d u o) (λ u o a b other. a) c.path c.volumes knows.known knows.known;
}

pub others_known : (s : Stage) (c : Chain) (l : Laying) (x : VolumeRecord) (old : Volumes) (host : ℕ) (start : Folder) (room : List ℕ) (d : Content) → KnowsStage s c l x old host start room d → KnowsOthers c l.volume host d
others_known Begun c l x old host start room d k = others_of c l.volume host d k.may.chain
others_known (Raw w) c l x old host start room d k = others_of c l.volume host d k.write.chain
others_known (Preparing i p) c l x old host start room d k = k.write.others
others_known (Filling i s) c l x old host start room d k = k.write.others
others_known (Linking i s) c l x old host start room d k = k.write.others

pub rest_settled : (s : Stage) (c : Chain) (l : Laying) (x : VolumeRecord) (old : Volumes) (host : ℕ) (start : Folder) (room : List ℕ) (d : Content) → KnowsStage s c l x old host start room d → AreSettledBut (dir_in c.target) l.volume d
rest_settled Begun c l x old host start room d k = settled_but c l.volume d k.may.settled
rest_settled (Raw w) c l x old host start room d k = k.write.rest
rest_settled (Preparing i p) c l x old host start room d k = k.write.rest
rest_settled (Filling i s) c l x old host start room d k = k.write.rest
rest_settled (Linking i s) c l x old host start room d k = k.write.rest

pub all_come : (s : Stage) (c : Chain) (l : Laying) (x : VolumeRecord) (old : Volumes) (host : ℕ) (start : Folder) (room : List ℕ) (d : Content) → KnowsStage s c l x old host start room d → ComesWritten l start (folder_of (dir_in c.target) d)
all_come Begun c l x old host start room d k = subst (λ (f : Folder). ComesWritten l f (folder_of (dir_in c.target) d)) (sym k.folder) (comes_itself l (folder_of (dir_in c.target) d))
all_come (Raw w) c l x old host start room d k = k.write.comes
all_come (Preparing i p) c l x old host start room d k = k.write.comes
all_come (Filling i s) c l x old host start room d k = k.write.comes
all_come (Linking i s) c l x old host start room d k = k.write.comes

pub may_be_written : (c : Chain) (host : ℕ) (d : Content) → KnowsChain c host d → AreSettled (dir_in c.target) d → IsWellFormed d → AreWhole c d → MayBeWritten c host d
may_be_written c host d knows settled well whole = record {
  chain = knows;
  settled = settled;
  quiet = λ k w f at there. record { writer = settled_knows w host f (known k w f at there) (quiet k w f at there) (whole k w f at there); settled = quiet k w f at there; formed = well.files w.target.place f there };
}
  where
    known : (k : ℕ) (w : Layer) (f : File) → slice_get c.volumes k ≡ Some (Cow w) → d.file w.target.place ≡ Some f → KnowsLayer w host f
    known k w f at there =
        let is = along_there (IsKnown c.target host d) c.path c.volumes k (Cow w) knows.known at in
        let on : KnowsLayerOn w host d = is.2 in
        subst (λ (g : File). KnowsLayer w host g) (one_file on.file f (d.file w.target.place) on.there there) on.knows

    quiet : (k : ℕ) (w : Layer) (f : File) → slice_get c.volumes k ≡ Some (Cow w) → d.file w.target.place ≡ Some f → IsSettled f
    quiet k w f at there =
        let is = along_there (λ u o. IsOpenAs c.target u (records_in c.records u) o) c.path c.volumes k (Cow w) knows.shape.each at in
        let place : w.target.place ≡ place_in c.target is.0 = layer_at c is.0 (records_in c.records is.0) w is.2 in
        settled (Data is.0) f (subst (λ (p : Place). d.file p ≡ Some f) place there)
