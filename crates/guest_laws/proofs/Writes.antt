-- A chain of which one layer's file is written.
use Rattle.std.proofs.Common.{◌≡◌, ◌≢◌, ℕ, true, slice_get, Option, Some, refl, sym, ap, ◌∙◌, subst}
use Rattle.sd_names.specs.declared.id.Id.{Id}
use Rattle.sd_names.specs.declared.kinds.Format.TheVariants as format
use Rattle.sd_names.specs.declared.place.Name.TheVariants as name
use Rattle.sd_names.specs.declared.place.Place.{Place}
use Rattle.shared_disk.specs.Calls.{IsPut}
use Rattle.shared_disk.specs.Content.{Content, File}
use Rattle.shared_disk.specs.Crash.{IsSettled, OnEach}
use Rattle.volume_meta.specs.declared.record.VolumeRecord.{VolumeRecord}
use Rattle.qcow_layer.specs.Knowing.{KnowsLayer, KnowsLayerOn}
use Rattle.qcow_layer.specs.declared.layer.Layer.{Layer}
use Rattle.qcow_layer.specs.declared.stages.Target as layer
use Rattle.chain_model.specs.Folder.{Folder, folder_of}
use Rattle.chain_model.specs.Records.{Records}
use Rattle.chain_laws.specs.Laid.{Laying}
use Rattle.chain_laws.specs.Written.{FileWritten}
use Rattle.chain_laws.proofs.Outcomes.{changed_comes, comes_itself, comes_through}
use Rattle.part_laws.specs.Steps.{HoldsIn}
use Rattle.part_laws.proofs.Held.{part_everywhere}
use Rattle.chain_records.specs.Records.{records_in}
use Rattle.chain_gathering.specs.Knowing.{AreSettled, volumes_in}
use Rattle.chain_gathering.specs.declared.names.VolumeName.TheVariants.{Data}
use Rattle.volume_chain.specs.Chain.{IsOpenAs, IsShaped, dir_in, image_in, place_in}
use Rattle.volume_chain.specs.Knowing.{IsKnown, KnowsChain}
use Rattle.volume_chain.specs.LendingChain.{with_layer_at}
use Rattle.volume_chain.specs.declared.chain.Chain.{Chain}
use Rattle.volume_chain.specs.declared.volumes.OpenVolume.{OpenVolume}
use Rattle.volume_chain.specs.declared.volumes.OpenVolume.TheVariants.{Cow}
use Rattle.volume_chain.proofs.Along.{along_both}
use Rattle.volume_chain.proofs.Apart.{path_apart}
use Rattle.volume_chain.proofs.Shown.{shown_alike}
use Rattle.chain_reading.proofs.Lent.{chain_same}
use Rattle.raw_writing.specs.Image.{IsOnMedium, IsPartOf, OnlyChanges}
use Rattle.raw_writing.proofs.Image.{all_settled, changed_at, elsewhere, others, rest_kept, settled_but, text_apart, there_still}
use Rattle.guest_laws.specs.Write.{KnowsOthers, KnowsWrite}
use Rattle.guest_laws.proofs.Paths.{along_at, along_set, along_with, set_here, set_length}

-- ---- the layer of the volume

pub open_as : (c : Chain) (l : Laying) (x : VolumeRecord) (index : ℕ) (w : Layer) → IsPartOf l c x → IsShaped c → slice_get c.path index ≡ Some l.volume → slice_get c.volumes index ≡ Some (Cow w)
    → IsOpenAs c.target l.volume (Some x) (Cow w)
open_as c l x index w of shape path layer =
    let says : records_in c.records l.volume ≡ Some x = ap (λ (r : Records). r l.volume) (sym of.records) ∙ of.says in
    subst (λ (q : Option VolumeRecord). IsOpenAs c.target l.volume q (Cow w)) says
    (along_at (λ u o. IsOpenAs c.target u (records_in c.records u) o) c.path c.volumes index l.volume (Cow w) shape.each path layer)

-- its file stands where the layer has it
pub layer_place : (c : Chain) (l : Laying) (x : VolumeRecord) (w : Layer) → IsOpenAs c.target l.volume (Some x) (Cow w) → w.target.place ≡ place_in c.target l.volume
layer_place c l x w is = ap (λ (t : layer.Target). t.place) is.1

pub of_volume : (c : Chain) (index : ℕ) (w : Layer) (l : Laying) (x : VolumeRecord) (host : ℕ) (start : Folder) (f : File) (d : Content) → KnowsWrite c index w l x host start f d
    → (x.format ≡ format.Cow) × (x.capacity ≡ w.target.capacity)
of_volume c index w l x host start f d k =
    let is = open_as c l x index w k.of k.others.shape k.path k.layer in
    (is.0, sym (ap (λ (t : layer.Target). t.capacity) is.1))

-- ---- the begin

pub begins : (c : Chain) (index : ℕ) (w : Layer) (l : Laying) (x : VolumeRecord) (host : ℕ) (d : Content) → IsPartOf l c x → slice_get c.path index ≡ Some l.volume → slice_get c.volumes index ≡ Some (Cow w)
    → KnowsChain c host d → AreSettled (dir_in c.target) d → (f : File) × KnowsWrite c index w l x host (folder_of (dir_in c.target) d) f d × KnowsLayer w host f × IsSettled f
begins c index w l x host d of path layer knows settled = (
  here.file,
  record {
    of = of;
    path = path;
    layer = layer;
    others = record {
      shown = knows.shown;
      shape = knows.shape;
      all = knows.all;
      others = along_both (IsKnown c.target host d) (IsKnown c.target host d) (λ u o. u ≢ l.volume → IsKnown c.target host d u o) (λ u o a b other. a) c.path c.volumes knows.known knows.known;
    };
    rest = settled_but c l.volume d settled;
    comes = comes_itself l (folder_of (dir_in c.target) d);
    there = here.there;
  },
  here.knows,
  settled (Data l.volume) here.file (subst (λ (p : Place). d.file p ≡ Some here.file) (layer_place c l x w (open_as c l x index w of knows.shape path layer)) here.there),
)
  where
    here : KnowsLayerOn w host d
    here = along_at (IsKnown c.target host d) c.path c.volumes index l.volume (Cow w) knows.known path layer

-- ---- a step

module _ (c : Chain) (index : ℕ) (w next : Layer) (l : Laying) (x : VolumeRecord) (host : ℕ) (start : Folder) (f now : File) (d e : Content) (k : KnowsWrite c index w l x host start f d) (target : next.target ≡ w.target)
    (put : IsPut d w.target.place (Some now) e) (written : FileWritten l f now) where
  is_open : IsOpenAs c.target l.volume (Some x) (Cow w)
  is_open = open_as c l x index w k.of k.others.shape k.path k.layer

  place : w.target.place ≡ place_in c.target l.volume
  place = layer_place c l x w is_open

  put_here : IsPut d (place_in c.target l.volume) (Some now) e
  put_here = subst (λ (p : Place). IsPut d p (Some now) e) place put

  was_here : d.file (place_in c.target l.volume) ≡ Some f
  was_here = subst (λ (p : Place). d.file p ≡ Some f) place k.there

  only : OnlyChanges (place_in c.target l.volume) d e
  only = record { dirs = put_here.dirs; files = put_here.others }

  says : records_in c.records l.volume ≡ Some x
  says = ap (λ (r : Records). r l.volume) (sym k.of.records) ∙ k.of.says

  shape_now : IsShaped (with_layer_at c index next)
  shape_now = record {
    valid = k.others.shape.valid;
    checked = k.others.shape.checked;
    reading = k.others.shape.reading;
    each = along_set (λ u o. IsOpenAs c.target u (records_in c.records u) o) c.path c.volumes index l.volume (Cow next) k.others.shape.each k.path
        (subst (λ (q : Option VolumeRecord). IsOpenAs c.target l.volume q (Cow next)) (sym says) (is_open.0, target ∙ is_open.1));
  }

  known_still : (u : Id) (o : OpenVolume) → IsOpenAs c.target u (records_in c.records u) o → (u ≢ l.volume → IsKnown c.target host d u o) → u ≢ l.volume → IsKnown c.target host e u o
  known_still u o is known other = elsewhere c l.volume host d e only u (records_in c.records u) o other is (known other)

  others_now : KnowsOthers (with_layer_at c index next) l.volume host e
  others_now = record {
    shown = shown_alike (image_in c.target) (volumes_in (dir_in c.target) d) (volumes_in (dir_in c.target) e) c.records
        (λ u. others c l.volume host d e only (name.Meta u) (text_apart u l.volume)) (there_still c l.volume host d e only f now was_here put_here.here) k.others.shown;
    shape = shape_now;
    all = set_length c.volumes index (Cow next) ∙ k.others.all;
    others = along_set (λ u o. u ≢ l.volume → IsKnown c.target host e u o) c.path c.volumes index l.volume (Cow next)
        (along_both (λ u o. IsOpenAs c.target u (records_in c.records u) o) (λ u o. u ≢ l.volume → IsKnown c.target host d u o) (λ u o. u ≢ l.volume → IsKnown c.target host e u o) known_still c.path c.volumes
        k.others.shape.each k.others.others) k.path (λ other. absurd (other refl));
  }

  pub steps : KnowsWrite (with_layer_at c index next) index next l x host start now e
  steps = record {
    of = record { records = k.of.records; says = k.of.says; path = k.of.path; within = k.of.within };
    path = k.path;
    layer = set_here c.volumes index (Cow next) (Cow w) k.layer;
    others = others_now;
    rest = rest_kept c l.volume host d e only k.rest;
    comes = comes_through l start (folder_of (dir_in c.target) d) (folder_of (dir_in c.target) e) k.comes
        (changed_comes l f now (folder_of (dir_in c.target) d) (folder_of (dir_in c.target) e) (changed_at c l.volume host d e only f now was_here put_here.here) written);
    there = subst (λ (t : layer.Target). e.file t.place ≡ Some now) (sym target) put.here;
  }

-- ---- a step that leaves the layer

pub file_steps : (c : Chain) (index : ℕ) (w : Layer) (l : Laying) (x : VolumeRecord) (host : ℕ) (start : Folder) (f now : File) (d e : Content) → KnowsWrite c index w l x host start f d
    → IsPut d w.target.place (Some now) e → FileWritten l f now → KnowsWrite c index w l x host start now e
file_steps c index w l x host start f now d e k put written =
    subst (λ (b : Chain). KnowsWrite b index w l x host start now e) (chain_same c index w w k.layer refl) (steps c index w w l x host start f now d e k refl put written)

-- ---- the end

pub ends : (c : Chain) (index : ℕ) (w : Layer) (l : Laying) (x : VolumeRecord) (host : ℕ) (start : Folder) (f : File) (d : Content) → KnowsWrite c index w l x host start f d → KnowsLayer w host f → IsSettled f
    → OnEach f (HoldsIn l x (λ _. true)) → IsOnMedium c l host d
ends c index w l x host start f d k knows settled holds = record {
  chain = record {
    shown = k.others.shown;
    shape = k.others.shape;
    all = k.others.all;
    known = along_with (IsKnown c.target host d) c.path c.volumes index l.volume (Cow w) (path_apart (records_in c.records) c.path k.others.shape.reading) k.path k.layer
        (record { file = f; there = k.there; knows = knows }) k.others.others;
  };
  settled = all_settled c l.volume d f k.rest there_here settled;
  holds = part_everywhere l x (λ _. true) f (folder_of (dir_in c.target) d) k.of.says there_here (λ j inside. refl) holds;
}
  where
    is_open' : IsOpenAs c.target l.volume (Some x) (Cow w)
    is_open' = open_as c l x index w k.of k.others.shape k.path k.layer

    there_here : d.file (place_in c.target l.volume) ≡ Some f
    there_here = subst (λ (p : Place). d.file p ≡ Some f) (layer_place c l x w is_open') k.there
