-- What a settling knows survives what leaves the image's files.
use Rattle.std.proofs.Common.{◌≡◌, ◌≢◌, ◌⊎◌, eq-eqb, ℕ, true, List, [], Option, Some, None, refl, sym, ap, ◌∙◌, subst, inl, inr}
use Rattle.std.specs.Prelude.{length}
use Rattle.sd_names.specs.declared.id.Id.{Id}
use Rattle.sd_names.specs.declared.place.Dir.{Dir}
use Rattle.sd_names.specs.declared.place.Place.{Place}
use Rattle.shared_disk.specs.Calls.{created, sectors_in, wrote}
use Rattle.shared_disk.specs.Content.{Content, File}
use Rattle.shared_disk.specs.Crash.{DownLeaves, IsAlone, IsAlso, IsDownFile, IsSettled}
use Rattle.shared_disk.specs.WellFormed.{IsWellFormed}
use Rattle.shared_disk.proofs.OwnWrites.{without_writes}
use Rattle.shared_disk.proofs.Toolkit.{down_leaves_none}
use Rattle.shared_disk.proofs.AtPlace.{one_file}
use Rattle.shared_disk.proofs.WellFormed.{down_keeps}
use Rattle.volume_meta.specs.Text.{volume_text}
use Rattle.whole_file.specs.Replace.{IsReady}
use Rattle.whole_file.specs.Text.{padded, sectors_for}
use Rattle.whole_file.specs.declared.replace.Stage.{Stage as ReplaceStage}
use Rattle.whole_file.specs.declared.replace.Stage.TheVariants as replacing
use Rattle.volume_texts.specs.Write as text
use Rattle.volume_texts.specs.declared.write.TextWrite.{TextWrite}
use Rattle.qcow_layer.proofs.Knowing.{settled_alone}
use Rattle.qcow_layer.specs.Opening.{place_kept, volume_kept}
use Rattle.qcow_layer.specs.declared.layer.Layer.{Layer}
use Rattle.layer_heading.specs.Rebasing as heading
use Rattle.layer_heading.specs.declared.rebasing.Rebasing.{Rebasing}
use Rattle.layer_heading.proofs.Alone.{rebasing_alone}
use Rattle.settling_steps.specs.Leftovers as tidying
use Rattle.settling_steps.specs.Leftovers.{IsLeftOver, IsTidy, temporary_in}
use Rattle.settling_steps.specs.Lengthening as lengthening
use Rattle.settling_steps.specs.declared.leftovers.Stage.{Stage as TidyingStage}
use Rattle.settling_steps.specs.declared.leftovers.Stage.TheVariants.{Listing, Removing}
use Rattle.settling_steps.specs.declared.lengthening.Lengthening.{Lengthening}
use Rattle.settling_steps.specs.declared.lengthening.Lengthening.TheVariants.{Asking, Growing}
use Rattle.settling_steps.specs.declared.names.Temporary.{Temporary}
use Rattle.chain_model.specs.Folder.{Volumes}
use Rattle.chain_model.specs.Records.{Records}
use Rattle.volume_chain.specs.Chain.{open_in}
use Rattle.volume_chain.specs.declared.chain.Chain.{Chain}
use Rattle.volume_chain.specs.declared.volumes.OpenVolume.TheVariants.{Cow}
use Rattle.volume_chain.proofs.Stays.{alone_same}
use Rattle.chain_settling.specs.Alike.{KnowsImage}
use Rattle.chain_settling.specs.Fit.{chain_in}
use Rattle.chain_settling.specs.Knowing.{KnowsHeading, KnowsLayers, KnowsWriting}
use Rattle.chain_settling.specs.Steps.{KnowsStage}
use Rattle.chain_settling.specs.Was.{IsLeftAlone, IsOffLayers, file_in, folder_in, image_kept, text_in}
use Rattle.chain_settling.specs.Work.{IsLayerAt}
use Rattle.chain_settling.specs.declared.stages.Part.{Part}
use Rattle.chain_settling.specs.declared.stages.Stage.{Stage}
use Rattle.chain_settling.specs.declared.stages.Stage.TheVariants.{Tidying, Lengths, Headers, Heading, Texts, Writing}
use Rattle.chain_settling.specs.declared.stages.Stage.TheVariants as stages
use Rattle.chain_settling.proofs.Alike.{AreKept, said_same}
use Rattle.chain_settling.proofs.Grows.{nat_cases}
use Rattle.chain_settling.proofs.Kept.{LayersStay, files_on, image_kept_on, layers_stay, long_kept, rest_on, settled_kept, whole_kept}
use Rattle.chain_settling.proofs.Known.{find_layer}

-- a name of the folder stays taken, or free
abbrev pub SameNames : Dir → Content → Content → Type 0
SameNames dir d e = (o : Temporary) → IsAlso (λ f g. Unit {0}) (d.file (temporary_in dir o)) (e.file (temporary_in dir o))

-- the image's folder is there as it was, its volumes' texts and the files of its layers too, its temporary names are taken as
-- they were, and the image is known
pub record Leaves (c : Chain) (r : Records) (x : Volumes) (d e : Content) : Type 0 where
  pub formed : IsWellFormed d → IsWellFormed e
  pub there : e.dir (folder_in c) ≡ d.dir (folder_in c)
  pub image : KnowsImage c r x d → KnowsImage c r x e
  pub texts : (v : Id) → e.file (text_in (folder_in c) v) ≡ d.file (text_in (folder_in c) v)
  pub layers : LayersStay c d e
  pub names : SameNames (folder_in c) d e

-- so it is where the volumes' texts and files stay
leaves_kept : (c : Chain) (r : Records) (x : Volumes) (d e : Content) → (IsWellFormed d → IsWellFormed e) → e.dir (folder_in c) ≡ d.dir (folder_in c) → AreKept (folder_in c) d e → SameNames (folder_in c) d e → Leaves c r x d e
leaves_kept c r x d e formed there kept names = record {
  formed = formed;
  there = there;
  image = λ k. image_kept_on c r x d e there kept k;
  texts = kept.texts;
  layers = layers_stay c d e kept.files;
  names = names;
}

-- ---- temporary names

still_none : (a b : Option File) → IsAlso (λ f g. Unit {0}) a b → a ≡ None → b ≡ None
still_none None None also e = refl
still_none None (Some g) also e = absurd also
still_none (Some f) b also e = absurd cc

was_some : (a : Option File) (g : File) → IsAlso (λ f g. Unit {0}) a (Some g) → (f : File) × (a ≡ Some f)
was_some None g also = absurd also
was_some (Some f) g also = (f, refl)

left_before : (dir : Dir) (d e : Content) → SameNames dir d e → (o : Temporary) → IsLeftOver dir o e → IsLeftOver dir o d
left_before dir d e names o left =
    was_some (d.file (temporary_in dir o)) left.0 (subst (λ (b : Option File). IsAlso (λ f g. Unit {0}) (d.file (temporary_in dir o)) b) left.1 (names o))

pub tidy_on : (dir : Dir) (d e : Content) → SameNames dir d e → IsTidy dir d → IsTidy dir e
tidy_on dir d e names tidy o = still_none (d.file (temporary_in dir o)) (e.file (temporary_in dir o)) (names o) (tidy o)

pub stage_on : (s : TidyingStage) (dir : Dir) (d e : Content) → (e.dir dir ≡ d.dir dir) × SameNames dir d e → tidying.KnowsStage s dir d → tidying.KnowsStage s dir e
stage_on (Listing after) dir d e on k =
    (record { there = on.0 ∙ k.0.there; ids = λ o left. k.0.ids o (left_before dir d e on.1 o left) }, λ o left. k.1 o (left_before dir d e on.1 o left))
stage_on (Removing p) dir d e on k =
    (record { there = on.0 ∙ k.0.there; ids = λ o left. k.0.ids o (left_before dir d e on.1 o left) }, λ o left. k.1 o (left_before dir d e on.1 o left))

pub long_on : (l : Lengthening) (m : Layer) (host : ℕ) (d e : Content) → e.file (place_kept m) ≡ d.file (place_kept m) → lengthening.Knows l m host d → lengthening.Knows l m host e
long_on Asking m host d e same k = long_kept host m d e same k
long_on (Growing bytes) m host d e same k = record { long = record { file = k.long.file; there = same ∙ k.long.there; knows = k.long.knows; room = k.long.room }; whole = k.whole; above = k.above; fits = k.fits }

-- ---- stage by stage

heading_on : (c : Chain) (at : ℕ) (h : Rebasing) (host : ℕ) (r : Records) (x : Volumes) (d e : Content) → Leaves c r x d e → KnowsHeading c at h host r x d → KnowsHeading c at h host r x e
heading_on c at h host r x d e on k = record {
  image = on.image k.image;
  said = λ v. said_same (image_kept c) (folder_in c) v d e (on.texts v) ∙ k.said v;
  tidy = tidy_on (folder_in c) d e on.names k.tidy;
  formed = on.formed k.formed;
  layer = k.layer;
  is = k.is;
  place = k.place;
  file = k.file;
  there = on.layers at k.layer k.is k.place ∙ k.there;
  knows = k.knows;
  heads = k.heads;
  cow = k.cow;
  backs = k.backs;
  named = k.named;
  told = k.told;
  others = λ b l other is. settled_kept c host l d e (same b l other is) (k.others b l other is);
  wholes = λ b l other is. whole_kept host l d e (same b l other is) (k.wholes b l other is);
  apart = k.apart;
}
  where
    same : (b : ℕ) (l : Layer) → b ≢ at → IsLayerAt c b l → e.file (place_kept l) ≡ d.file (place_kept l)
    same b l other is = on.layers b l is (k.others b l other is).place

writing_on : (c : Chain) (p : Part) (i : ℕ) (w : TextWrite) (host : ℕ) (r : Records) (x : Volumes) (d e : Content) → Leaves c r x d e
    → (k : KnowsWriting c p i w host r x d) → text.Knows w host k.says e → KnowsWriting c p i w host r x e
writing_on c p i w host r x d e on k write = record {
  image = on.image k.image;
  volume = k.volume;
  at = k.at;
  says = k.says;
  is = k.is;
  wrong = k.wrong;
  file = k.file;
  volatile = k.volatile;
  version = k.version;
  said = λ v other. said_same (image_kept c) (folder_in c) v d e (on.texts v) ∙ k.said v other;
  tidy = λ o other. still_none (d.file (temporary_in (folder_in c) o)) (e.file (temporary_in (folder_in c) o)) (on.names o) (k.tidy o other);
  rest = rest_on c host d e on.layers k.rest;
  told = k.told;
  done = k.done;
  write = write;
}

-- what is left of the file beside a text that is written
abbrev pub WriteStays : Stage → ℕ → Records → Volumes → Content → Content → Type 0
WriteStays (Writing c p i w) host r x d e = (k : KnowsWriting c p i w host r x d) → text.Knows w host k.says e
WriteStays s host r x d e = Unit {0}

pub stays : (s : Stage) (host : ℕ) (r : Records) (x : Volumes) (d e : Content) → Leaves (chain_in s) r x d e → WriteStays s host r x d e → KnowsStage s host r x d → KnowsStage s host r x e
stays (Tidying c t) host r x d e on w k = record {
  files = files_on c host r x d e (on.image k.files.image) on.texts on.layers k.files;
  folder = k.folder;
  long = λ b l low is. long_kept host l d e (on.layers b l is (k.files.layers.each b l is).place) (k.long b l low is);
  names = stage_on (tidying.stage_of t) (tidying.folder_of t) d e (subst (λ (dir : Dir). (e.dir dir ≡ d.dir dir) × SameNames dir d e) (sym k.folder) (on.there, on.names)) k.names;
}
stays (Lengths c at) host r x d e on w k = record {
  files = files_on c host r x d e (on.image k.files.image) on.texts on.layers k.files;
  tidy = tidy_on (folder_in c) d e on.names k.tidy;
  formed = on.formed k.formed;
  long = λ b l low is. long_kept host l d e (on.layers b l is (k.files.layers.each b l is).place) (k.long b l low is);
  whole = λ b l low is. whole_kept host l d e (on.layers b l is (k.files.layers.each b l is).place) (k.whole b l low is);
}
stays (stages.Lengthening c at l) host r x d e on w k = record {
  files = files_on c host r x d e (on.image k.files.image) on.texts on.layers k.files;
  tidy = tidy_on (folder_in c) d e on.names k.tidy;
  long = λ b m low is. long_kept host m d e (on.layers b m is (k.files.layers.each b m is).place) (k.long b m low is);
  whole = λ b m low is. whole_kept host m d e (on.layers b m is (k.files.layers.each b m is).place) (k.whole b m low is);
  layer = k.layer;
  is = k.is;
  here = long_on l k.layer host d e (on.layers at k.layer k.is (k.files.layers.each at k.layer k.is).place) k.here;
}
stays (Headers c at) host r x d e on w k = record {
  image = on.image k.image;
  said = λ v. said_same (image_kept c) (folder_in c) v d e (on.texts v) ∙ k.said v;
  tidy = tidy_on (folder_in c) d e on.names k.tidy;
  formed = on.formed k.formed;
  rest = rest_on c host d e on.layers k.rest;
  told = k.told;
}
stays (Heading c at h) host r x d e on w k = heading_on c at h host r x d e on k
stays (Texts c p i) host r x d e on w k = record {
  image = on.image k.image;
  said = λ v. said_same (image_kept c) (folder_in c) v d e (on.texts v) ∙ k.said v;
  tidy = tidy_on (folder_in c) d e on.names k.tidy;
  rest = rest_on c host d e on.layers k.rest;
  told = k.told;
  done = k.done;
}
stays (Writing c p i t) host r x d e on w k = writing_on c p i t host r x d e on k (w k)

-- ---- where the folder's files stay

pub also_itself : (a b : Option File) → b ≡ a → IsAlso (λ f g. Unit {0}) a b
also_itself None b same = subst (λ (o : Option File). IsAlso (λ f g. Unit {0}) None o) (sym same) tt
also_itself (Some f) b same = subst (λ (o : Option File). IsAlso (λ f g. Unit {0}) (Some f) o) (sym same) tt

ready_on : (s : ReplaceStage) (host : ℕ) (bytes : List ℕ) (p : Place) (d e : Content) → e.file p ≡ d.file p → IsReady s host bytes p d → IsReady s host bytes p e
ready_on replacing.Begun host bytes p d e same k = tt
ready_on replacing.Cleared host bytes p d e same k = same ∙ k
ready_on replacing.Created host bytes p d e same k = same ∙ k
ready_on replacing.Written host bytes p d e same k = same ∙ k
ready_on replacing.Synced host bytes p d e same k = (k.0, same ∙ k.1, k.2)

module _ (s : Stage) (host : ℕ) (r : Records) (x : Volumes) (d e : Content) (formed : IsWellFormed e) (there : e.dir (folder_in (chain_in s)) ≡ d.dir (folder_in (chain_in s)))
    (same : (q : Place) → q.dir ≡ folder_in (chain_in s) → e.file q ≡ d.file q) where
  leaves : Leaves (chain_in s) r x d e
  leaves =
      leaves_kept (chain_in s) r x d e (λ _. formed) there
      (record { texts = λ v. same (text_in (folder_in (chain_in s)) v) refl; files = λ v. same (file_in (folder_in (chain_in s)) v) refl })
      (λ o. also_itself (d.file (temporary_in (folder_in (chain_in s)) o)) (e.file (temporary_in (folder_in (chain_in s)) o)) (same (temporary_in (folder_in (chain_in s)) o) refl))

pub write_same : (s : Stage) (host : ℕ) (r : Records) (x : Volumes) (d e : Content) → e.dir (folder_in (chain_in s)) ≡ d.dir (folder_in (chain_in s))
    → ((v : Id) → e.file (text.new_place (folder_in (chain_in s)) v) ≡ d.file (text.new_place (folder_in (chain_in s)) v)) → WriteStays s host r x d e
write_same (Writing c p i w) host r x d e there same = λ k. record {
  folder = ap (λ (q : Place). e.dir q.dir) k.file ∙ there ∙ sym (ap (λ (q : Place). d.dir q.dir) k.file) ∙ k.write.folder;
  ready = ready_on (text.stage_of w) host (volume_text (text.version_of w) k.says) (text.volatile_of w) d e (subst (λ (q : Place). e.file q ≡ d.file q) (sym k.volatile) (same k.volume)) k.write.ready;
}
write_same (Tidying c t) host r x d e there same = tt
write_same (Lengths c at) host r x d e there same = tt
write_same (stages.Lengthening c at l) host r x d e there same = tt
write_same (Headers c at) host r x d e there same = tt
write_same (Heading c at h) host r x d e there same = tt
write_same (Texts c p i) host r x d e there same = tt

pub untouched_knows : (s : Stage) (host : ℕ) (r : Records) (x : Volumes) (d e : Content) → IsWellFormed e → e.dir (folder_in (chain_in s)) ≡ d.dir (folder_in (chain_in s))
    → ((q : Place) → q.dir ≡ folder_in (chain_in s) → e.file q ≡ d.file q) → KnowsStage s host r x d → KnowsStage s host r x e
untouched_knows s host r x d e formed there same k = stays s host r x d e (leaves s host r x d e formed there same) (write_same s host r x d e there (λ v. same (text.new_place (folder_in (chain_in s)) v) refl)) k

-- ---- where another host goes down

-- no other host has anything unsynced in the files of volumes, and in their texts
record AreAlone (dir : Dir) (host : ℕ) (d : Content) : Type 0 where
  texts : (v : Id) (f : File) → d.file (text_in dir v) ≡ Some f → IsAlone host f
  files : (v : Id) (f : File) → d.file (file_in dir v) ≡ Some f → IsAlone host f

-- so it is where each layer's file is such a one, since all other files of volumes are settled
alone_by_layers : (c : Chain) (host : ℕ) (r : Records) (x : Volumes) (d : Content) → KnowsImage c r x d
    → ((b : ℕ) (l : Layer) → IsLayerAt c b l → (f : File) × (d.file (file_in (folder_in c) (volume_kept l)) ≡ Some f) × IsAlone host f) → AreAlone (folder_in c) host d
alone_by_layers c host r x d k layers = record { texts = text; files = λ v f e. file v f e (find_layer (open_in c) v) }
  where
    text : (v : Id) (f : File) → d.file (text_in (folder_in c) v) ≡ Some f → IsAlone host f
    text v f e = go (x.text v) (subst (λ (o : Option File). IsAlso (λ g h. IsSettled h) (x.text v) o) e (k.alike.texts v))
      where
        go : (o : Option File) → IsAlso (λ g h. IsSettled h) o (Some f) → IsAlone host f
        go None also = absurd also
        go (Some g) also = settled_alone host f also

    file : (v : Id) (f : File) → d.file (file_in (folder_in c) v) ≡ Some f → ((b : ℕ) × (l : Layer) × IsLayerAt c b l × (volume_kept l ≡ v)) ⊎ IsOffLayers c v → IsAlone host f
    file v f e (inl found) =
        let own = layers found.0 found.1 found.2 in
        let there : d.file (file_in (folder_in c) v) ≡ Some own.0 = ap (λ (u : Id). d.file (file_in (folder_in c) u)) (sym found.3) ∙ own.1 in
        subst (λ (g : File). IsAlone host g) (one_file own.0 f (d.file (file_in (folder_in c) v)) there e) own.2
    file v f e (inr off) = go (x.file v) (subst (λ (o : Option File). IsAlso IsLeftAlone (x.file v) o) e (k.alone v off))
      where
        go : (o : Option File) → IsAlso IsLeftAlone o (Some f) → IsAlone host f
        go None also = absurd also
        go (Some g) also = settled_alone host f also.settled

settled_layers : (c : Chain) (host : ℕ) (d : Content) → KnowsLayers c host d
    → (b : ℕ) (l : Layer) → IsLayerAt c b l → (f : File) × (d.file (file_in (folder_in c) (volume_kept l)) ≡ Some f) × IsAlone host f
settled_layers c host d k b l is =
    let own = k.each b l is in
    (own.file, ap (λ (p : Place). d.file p) (sym own.place) ∙ own.there, settled_alone host own.file own.settled)

one_layer : (c : Chain) (at : ℕ) (m l : Layer) → IsLayerAt c at m → IsLayerAt c at l → m ≡ l
one_layer c at m l a b = let h : Some (Cow m) ≡ Some (Cow l) = sym a ∙ b in cc

stage_alone : (s : Stage) (host : ℕ) (r : Records) (x : Volumes) (d : Content) → KnowsStage s host r x d → AreAlone (folder_in (chain_in s)) host d
stage_alone (Tidying c t) host r x d k = alone_by_layers c host r x d k.files.image (settled_layers c host d k.files.layers)
stage_alone (Lengths c at) host r x d k = alone_by_layers c host r x d k.files.image (settled_layers c host d k.files.layers)
stage_alone (stages.Lengthening c at l) host r x d k = alone_by_layers c host r x d k.files.image (settled_layers c host d k.files.layers)
stage_alone (Headers c at) host r x d k = alone_by_layers c host r x d k.image (settled_layers c host d k.rest.layers)
stage_alone (Heading c at h) host r x d k = alone_by_layers c host r x d k.image (λ b l is. layer b l is (nat_cases b at))
  where
    layer : (b : ℕ) (l : Layer) → IsLayerAt c b l → (b ≡ at) ⊎ (b ≢ at) → (f : File) × (d.file (file_in (folder_in c) (volume_kept l)) ≡ Some f) × IsAlone host f
    layer b l is (inl same) =
        let one : k.layer ≡ l = one_layer c at k.layer l k.is (subst (λ (i : ℕ). IsLayerAt c i l) same is) in
        subst (λ (m : Layer). (f : File) × (d.file (file_in (folder_in c) (volume_kept m)) ≡ Some f) × IsAlone host f) one (
          k.file,
          ap (λ (p : Place). d.file p) (sym k.place) ∙ k.there,
          (rebasing_alone (heading.backing_of h) k.layer host k.file (heading.stage_of h) k.knows).0,
        )
    layer b l is (inr other) =
        let own = k.others b l other is in
        (own.file, ap (λ (p : Place). d.file p) (sym own.place) ∙ own.there, settled_alone host own.file own.settled)
stage_alone (Texts c p i) host r x d k = alone_by_layers c host r x d k.image (settled_layers c host d k.rest.layers)
stage_alone (Writing c p i w) host r x d k = alone_by_layers c host r x d k.image (settled_layers c host d k.rest.layers)

also_down : (other : ℕ) (a b : Option File) → IsAlso (IsDownFile other) a b → IsAlso (λ f g. Unit {0}) a b
also_down other None None also = tt
also_down other None (Some g) also = absurd also
also_down other (Some f) None also = absurd also
also_down other (Some f) (Some g) also = tt

made_alone : (host size : ℕ) → IsAlone host (created host size)
made_alone host size = record { loose = refl; fresh = rw (eq-eqb host host refl) refl }

wrote_alone : (host size : ℕ) (bytes : List ℕ) → IsAlone host (wrote (λ _. true) host 0 bytes (created host size))
wrote_alone host size bytes = record { loose = without_writes (λ _. true) host 0 (sectors_in bytes) bytes []; fresh = rw (eq-eqb host host refl) refl }

ready_down : (s : ReplaceStage) (host other : ℕ) (bytes : List ℕ) (p : Place) (d e : Content) → host ≢ other → DownLeaves d other e → IsReady s host bytes p d → IsReady s host bytes p e
ready_down replacing.Begun host other bytes p d e apart down k = tt
ready_down replacing.Cleared host other bytes p d e apart down k = down_leaves_none d e other p down k
ready_down replacing.Created host other bytes p d e apart down k =
    alone_same p host other d e apart down
    (λ f is. subst (λ (g : File). IsAlone host g) (one_file (created host (sectors_for (length bytes))) f (d.file p) k is) (made_alone host (sectors_for (length bytes)))) ∙ k
ready_down replacing.Written host other bytes p d e apart down k =
    alone_same p host other d e apart down
    (λ f is. subst (λ (g : File). IsAlone host g) (one_file (wrote (λ _. true) host 0 (padded bytes) (created host (sectors_for (length bytes)))) f (d.file p) k is)
    (wrote_alone host (sectors_for (length bytes)) (padded bytes))) ∙ k
ready_down replacing.Synced host other bytes p d e apart down k = (
  k.0,
  alone_same p host other d e apart down (λ f is. subst (λ (g : File). IsAlone host g) (one_file k.0 f (d.file p) k.1 is) (settled_alone host k.0 k.2.settled)) ∙ k.1,
  k.2,
)

write_down : (s : Stage) (host other : ℕ) (r : Records) (x : Volumes) (d e : Content) → host ≢ other → DownLeaves d other e → WriteStays s host r x d e
write_down (Writing c p i w) host other r x d e apart down = λ k. record {
  folder = down.dirs (text.file_of w).dir ∙ k.write.folder;
  ready = ready_down (text.stage_of w) host other (volume_text (text.version_of w) k.says) (text.volatile_of w) d e apart down k.write.ready;
}
write_down (Tidying c t) host other r x d e apart down = tt
write_down (Lengths c at) host other r x d e apart down = tt
write_down (stages.Lengthening c at l) host other r x d e apart down = tt
write_down (Headers c at) host other r x d e apart down = tt
write_down (Heading c at h) host other r x d e apart down = tt
write_down (Texts c p i) host other r x d e apart down = tt

pub down_knows : (s : Stage) (host other : ℕ) (r : Records) (x : Volumes) (d e : Content) → host ≢ other → DownLeaves d other e → KnowsStage s host r x d → KnowsStage s host r x e
down_knows s host other r x d e apart down k = stays s host r x d e on (write_down s host other r x d e apart down) k
  where
    alone : AreAlone (folder_in (chain_in s)) host d
    alone = stage_alone s host r x d k

    on : Leaves (chain_in s) r x d e
    on =
        leaves_kept (chain_in s) r x d e (λ formed. down_keeps d e other formed down) (down.dirs (folder_in (chain_in s)))
        (record {
          texts = λ v. alone_same (text_in (folder_in (chain_in s)) v) host other d e apart down (alone.texts v);
          files = λ v. alone_same (file_in (folder_in (chain_in s)) v) host other d e apart down (alone.files v);
        })
        (λ o. also_down other (d.file (temporary_in (folder_in (chain_in s)) o)) (e.file (temporary_in (folder_in (chain_in s)) o)) (down.files (temporary_in (folder_in (chain_in s)) o)))
