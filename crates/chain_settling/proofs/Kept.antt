-- What is known of an image and of its layers stays where their files do.
use Rattle.std.proofs.Common.{◌≡◌, ℕ, sym, ◌∙◌, subst}
use Rattle.sd_names.specs.declared.id.Id.{Id}
use Rattle.sd_names.specs.declared.place.Place.{Place}
use Rattle.shared_disk.specs.Content.{Content}
use Rattle.qcow_layer.specs.Opening.{place_kept, volume_kept}
use Rattle.qcow_layer.specs.declared.layer.Layer.{Layer}
use Rattle.settling_steps.specs.Lengthening.{IsWhole, KnowsLong}
use Rattle.chain_model.specs.Folder.{Volumes}
use Rattle.chain_model.specs.Records.{Records}
use Rattle.volume_chain.specs.declared.chain.Chain.{Chain}
use Rattle.chain_settling.specs.Alike.{KnowsImage}
use Rattle.chain_settling.specs.Knowing.{KnowsFiles, KnowsLayers, KnowsRest, KnowsSettled}
use Rattle.chain_settling.specs.Was.{file_in, folder_in, image_kept, text_in}
use Rattle.chain_settling.specs.Work.{IsLayerAt}
use Rattle.chain_settling.proofs.Alike.{AreKept, alike_kept, alone_kept, said_same}
use Rattle.chain_settling.proofs.OpensAlike.{opens_kept}

-- what is known of an image stays where its volumes' files and texts do
pub image_kept_on : (c : Chain) (r : Records) (x : Volumes) (d e : Content) → e.dir (folder_in c) ≡ d.dir (folder_in c) → AreKept (folder_in c) d e → KnowsImage c r x d → KnowsImage c r x e
image_kept_on c r x d e dir kept k = record {
  folder = dir ∙ k.folder;
  chains = k.chains;
  alike = alike_kept (image_kept c) (folder_in c) r x d e kept k.alike;
  opens = opens_kept (image_kept c) (folder_in c) r x d e kept k.opens;
  partly = k.partly;
  types = k.types;
  kept = k.kept;
  legible = k.legible;
  cows = k.cows;
  was = k.was;
  alone = alone_kept c x d e (λ v off. kept.files v) k.alone;
}

pub settled_kept : (c : Chain) (host : ℕ) (l : Layer) (d e : Content) → e.file (place_kept l) ≡ d.file (place_kept l) → KnowsSettled c l host d → KnowsSettled c l host e
settled_kept c host l d e same k = record { place = k.place; file = k.file; there = same ∙ k.there; knows = k.knows; settled = k.settled }

pub long_kept : (host : ℕ) (l : Layer) (d e : Content) → e.file (place_kept l) ≡ d.file (place_kept l) → KnowsLong l host d → KnowsLong l host e
long_kept host l d e same k = record { file = k.file; there = same ∙ k.there; knows = k.knows; room = k.room }

pub whole_kept : (host : ℕ) (l : Layer) (d e : Content) → e.file (place_kept l) ≡ d.file (place_kept l) → IsWhole l host d → IsWhole l host e
whole_kept host l d e same k = record { file = k.file; there = same ∙ k.there; knows = k.knows; whole = k.whole }

-- a layer's file is that of a volume of the image
pub at_place : (c : Chain) (host : ℕ) (d e : Content) → KnowsLayers c host d → AreKept (folder_in c) d e → (b : ℕ) (l : Layer) → IsLayerAt c b l → e.file (place_kept l) ≡ d.file (place_kept l)
at_place c host d e k kept b l is = subst (λ (p : Place). e.file p ≡ d.file p) (sym (k.each b l is).place) (kept.files (volume_kept l))

-- the files of the path's layers are as they were
abbrev pub LayersStay : Chain → Content → Content → Type 0
LayersStay c d e = (b : ℕ) (l : Layer) → IsLayerAt c b l → place_kept l ≡ file_in (folder_in c) (volume_kept l) → e.file (place_kept l) ≡ d.file (place_kept l)

pub layers_stay : (c : Chain) (d e : Content) → ((v : Id) → e.file (file_in (folder_in c) v) ≡ d.file (file_in (folder_in c) v)) → LayersStay c d e
layers_stay c d e same b l is place = subst (λ (p : Place). e.file p ≡ d.file p) (sym place) (same (volume_kept l))

pub files_on : (c : Chain) (host : ℕ) (r : Records) (x : Volumes) (d e : Content) → KnowsImage c r x e → ((v : Id) → e.file (text_in (folder_in c) v) ≡ d.file (text_in (folder_in c) v)) → LayersStay c d e
    → KnowsFiles c host r x d → KnowsFiles c host r x e
files_on c host r x d e image texts layers k = record {
  image = image;
  said = λ v. said_same (image_kept c) (folder_in c) v d e (texts v) ∙ k.said v;
  layers = record { each = λ b l is. settled_kept c host l d e (layers b l is (k.layers.each b l is).place) (k.layers.each b l is); apart = k.layers.apart };
}

pub files_kept : (c : Chain) (host : ℕ) (r : Records) (x : Volumes) (d e : Content) → e.dir (folder_in c) ≡ d.dir (folder_in c) → AreKept (folder_in c) d e → KnowsFiles c host r x d → KnowsFiles c host r x e
files_kept c host r x d e dir kept k = files_on c host r x d e (image_kept_on c r x d e dir kept k.image) kept.texts (layers_stay c d e kept.files) k

pub rest_on : (c : Chain) (host : ℕ) (d e : Content) → LayersStay c d e → KnowsRest c host d → KnowsRest c host e
rest_on c host d e same k = record {
  layers = record { each = λ b l is. settled_kept c host l d e (at b l is) (k.layers.each b l is); apart = k.layers.apart };
  whole = λ b l is. whole_kept host l d e (at b l is) (k.whole b l is);
}
  where
    at : (b : ℕ) (l : Layer) → IsLayerAt c b l → e.file (place_kept l) ≡ d.file (place_kept l)
    at b l is = same b l is (k.layers.each b l is).place
