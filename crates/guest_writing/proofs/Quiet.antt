-- The layers of a path whose files aren't written, and the image once the file that was is quiet again.
use Rattle.std.proofs.Common.{◌≡◌, ◌⊎◌, ℕ, zero, suc, List, [], ◌∷◌, slice_get, Option, Some, None, refl, sym, ap, ◌∙◌, subst, inl, inr}
use Rattle.std.specs.Prelude.{◌≢◌}
use Rattle.sd_names.specs.declared.id.Id.{Id}
use Rattle.sd_names.specs.declared.place.Name.TheVariants as name
use Rattle.sd_names.specs.declared.place.Place.{Place}
use Rattle.shared_disk.specs.Calls.{IsPut}
use Rattle.shared_disk.specs.Content.{Content, File}
use Rattle.shared_disk.proofs.AtPlace.{one_file}
use Rattle.volume_meta.specs.declared.record.VolumeRecord.{VolumeRecord}
use Rattle.layer_laws.proofs.Positions.{same_or_not}
use Rattle.qcow_layer.specs.declared.layer.Layer.{Layer}
use Rattle.qcow_layer.specs.declared.stages.Target as layer
use Rattle.layer_heading.specs.Writing.{IsQuiet}
use Rattle.chain_model.specs.Folder.{Folder}
use Rattle.chain_laws.specs.Laid.{Laying}
use Rattle.chain_records.specs.Records.{records_in}
use Rattle.volume_chain.specs.Chain.{IsOpenAs, IsShaped, OnPath, place_in}
use Rattle.volume_chain.specs.Knowing.{IsKnown}
use Rattle.volume_chain.specs.LendingChain.{with_layer_at}
use Rattle.volume_chain.specs.declared.chain.Chain.{Chain}
use Rattle.volume_chain.specs.declared.volumes.OpenVolume.{OpenVolume}
use Rattle.volume_chain.specs.declared.volumes.OpenVolume.TheVariants.{Raw, Cow}
use Rattle.volume_chain.proofs.Apart.{AreApart, path_apart}
use Rattle.chain_reading.specs.Knowing.{place_on}
use Rattle.chain_reading.proofs.Lent.{no_raw}
use Rattle.cluster_filling.proofs.Paths.{place_is}
use Rattle.raw_writing.specs.Image.{OnlyChanges}
use Rattle.raw_writing.proofs.Image.{all_settled, file_apart, others}
use Rattle.guest_laws.specs.Write.{KnowsWrite}
use Rattle.guest_laws.proofs.Paths.{along_with, set_there}
use Rattle.guest_laws.proofs.Writes.{layer_place, open_as}
use Rattle.guest_writing.specs.Knowing.{AreQuiet, AreQuietBut, MayBeWritten}

-- an open volume stands on the path
pub along_there : (R : Id → OpenVolume → Type 0) (path : List Id) (os : List OpenVolume) (k : ℕ) (o : OpenVolume) → OnPath R path os → slice_get os k ≡ Some o → (u : Id) × (slice_get path k ≡ Some u) × R u o
along_there R path [] k o along at = absurd cc
along_there R [] (p ∷ ps) k o along at = absurd along
along_there R (w ∷ ws) (p ∷ ps) zero o along at = let same : p ≡ o = cc in (w, refl, subst (λ (q : OpenVolume). R w q) same along.0)
along_there R (w ∷ ws) (p ∷ ps) (suc k) o along at = along_there R ws ps k o along.1 at

pub apart_at : (path : List Id) (k j : ℕ) (u v : Id) → AreApart path → slice_get path k ≡ Some u → slice_get path j ≡ Some v → k ≢ j → u ≢ v
apart_at path k j u v apart at there other same = other (sym (place_is path k u apart at) ∙ ap (λ (z : Id). place_on z path) same ∙ place_is path j v apart there)

pub layer_at : (c : Chain) (u : Id) (q : Option VolumeRecord) (w : Layer) → IsOpenAs c.target u q (Cow w) → w.target.place ≡ place_in c.target u
layer_at c u None w is = absurd is
layer_at c u (Some x) w is = ap (λ (t : layer.Target). t.place) is.1

-- the file of another layer stays
file_kept : (c : Chain) (index : ℕ) (v : Id) (d e : Content) → IsShaped c → slice_get c.path index ≡ Some v → OnlyChanges (place_in c.target v) d e → (k : ℕ) (w : Layer) → k ≢ index → slice_get c.volumes k ≡ Some (Cow w)
    → e.file w.target.place ≡ d.file w.target.place
file_kept c index v d e shape path only k w other at =
    let there = along_there (λ u o. IsOpenAs c.target u (records_in c.records u) o) c.path c.volumes k (Cow w) shape.each at in
    let place : w.target.place ≡ place_in c.target there.0 = layer_at c there.0 (records_in c.records there.0) w there.2 in
    let away : there.0 ≢ v = apart_at c.path k index there.0 v (path_apart (records_in c.records) c.path shape.reading) there.1 path other in
    subst (λ (p : Place). e.file p ≡ d.file p) (sym place) (others c v 0 d e only (name.Volume there.0) (file_apart there.0 v away))

-- so it is quiet still
pub quiet_kept : (c : Chain) (index : ℕ) (v : Id) (host : ℕ) (d e : Content) → IsShaped c → slice_get c.path index ≡ Some v → OnlyChanges (place_in c.target v) d e → AreQuietBut c index host d → AreQuietBut c index host e
quiet_kept c index v host d e shape path only quiet k w f other at there = quiet k w f other at (sym (file_kept c index v d e shape path only k w other at) ∙ there)

-- also while the layer becomes another
pub quiet_lent : (c : Chain) (index : ℕ) (after : Layer) (host : ℕ) (d : Content) → AreQuietBut c index host d → AreQuietBut (with_layer_at c index after) index host d
quiet_lent c index after host d quiet k w f other at there = quiet k w f other (sym (set_there c.volumes index k (Cow after) other) ∙ at) there

one_layer : (os : List OpenVolume) (k : ℕ) (w y : Layer) → slice_get os k ≡ Some (Cow w) → slice_get os k ≡ Some (Cow y) → w ≡ y
one_layer os k w y a b = cc

-- where that one's file is quiet too, all are
pub quiet_all : (c : Chain) (index : ℕ) (w : Layer) (host : ℕ) (f : File) (d : Content) → slice_get c.volumes index ≡ Some (Cow w) → d.file w.target.place ≡ Some f → IsQuiet w host f → AreQuietBut c index host d → AreQuiet c host d
quiet_all c index w host f d at there quiet rest k y g at' there' = go (same_or_not k index)
  where
    go : (k ≡ index) ⊎ (k ≢ index) → IsQuiet y host g
    go (inr other) = rest k y g other at' there'
    go (inl same) =
        let one : w ≡ y = one_layer c.volumes index w y at (subst (λ (n : ℕ). slice_get c.volumes n ≡ Some (Cow y)) same at') in
        let file : f ≡ g = one_file f g (d.file w.target.place) there (subst (λ (z : Layer). d.file z.target.place ≡ Some g) (sym one) there') in
        subst (λ (z : Layer). IsQuiet z host g) one (subst (λ (h : File). IsQuiet w host h) file quiet)

-- a raw volume has no layer
pub quiet_raw : (c : Chain) (index n host : ℕ) (d : Content) → slice_get c.volumes index ≡ Some (Raw n) → AreQuietBut c index host d → AreQuiet c host d
quiet_raw c index n host d raw rest k w f at there = rest k w f (λ same. no_raw c index n raw w (subst (λ (m : ℕ). slice_get c.volumes m ≡ Some (Cow w)) same at)) at there

-- the image may be written again
pub may_again : (c : Chain) (index : ℕ) (w : Layer) (l : Laying) (x : VolumeRecord) (host : ℕ) (start : Folder) (f : File) (d : Content) → KnowsWrite c index w l x host start f d → IsQuiet w host f → AreQuietBut c index host d
    → MayBeWritten c host d
may_again c index w l x host start f d k quiet rest = record {
  chain = record {
    shown = k.others.shown;
    shape = k.others.shape;
    all = k.others.all;
    known = along_with (IsKnown c.target host d) c.path c.volumes index l.volume (Cow w) (path_apart (records_in c.records) c.path k.others.shape.reading) k.path k.layer
        (record { file = f; there = k.there; knows = quiet.writer.knows }) k.others.others;
  };
  settled = all_settled c l.volume d f k.rest there_here quiet.settled;
  quiet = quiet_all c index w host f d k.layer k.there quiet rest;
}
  where
    there_here : d.file (place_in c.target l.volume) ≡ Some f
    there_here = subst (λ (p : Place). d.file p ≡ Some f) (layer_place c l x w (open_as c l x index w k.of k.others.shape k.path k.layer)) k.there

-- a step that changes the layer's file alone changes nothing else
pub only_here : (c : Chain) (index : ℕ) (w : Layer) (l : Laying) (x : VolumeRecord) (host : ℕ) (start : Folder) (f now : File) (d e : Content) → KnowsWrite c index w l x host start f d → IsPut d w.target.place (Some now) e
    → OnlyChanges (place_in c.target l.volume) d e
only_here c index w l x host start f now d e k put =
    subst (λ (p : Place). OnlyChanges p d e) (layer_place c l x w (open_as c l x index w k.of k.others.shape k.path k.layer)) (record { dirs = put.dirs; files = put.others })
