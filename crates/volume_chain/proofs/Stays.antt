-- What an open chain knows stays known whatever others do.
use Rattle.std.proofs.Common.{◌≡◌, ◌≢◌, ℕ, ◌*◌, ◌^◌, ◌<◌, ◌≤◌, Bool, true, false, nat_lt, List, Option, Some, None, refl, sym, ap, ◌∙◌, subst, inl, inr, arith, eqb-true}
use Rattle.std.specs.Prelude.{◌==◌, if◌then◌else◌, is_some}
use Rattle.std.specs.List.{Contains}
use Rattle.std.proofs.lemmas.Bool.Decides.{nat_tests}
use Rattle.sd_names.specs.declared.id.Id.{Id}
use Rattle.sd_names.specs.declared.place.Name.TheVariants as name
use Rattle.sd_names.specs.declared.place.Place.{Place}
use Rattle.shared_disk.specs.Changes.{grown, raised}
use Rattle.shared_disk.specs.Content.{Content, File, Loose, unless_by}
use Rattle.shared_disk.specs.Crash.{DownLeaves, IsAlone, IsAlso, IsDownFile, IsSettledFor}
use Rattle.shared_disk.specs.NameCalls as names
use Rattle.shared_disk.proofs.AtPlace.{also_some}
use Rattle.shared_disk.proofs.Outcomes.{nothing_in, without_keeps}
use Rattle.shared_disk.proofs.Toolkit.{down_leaves_file, down_leaves_none}
use Rattle.volume_meta.specs.declared.record.VolumeRecord.{VolumeRecord}
use Rattle.qcow_layer.specs.Knowing.{KnowsLayer, KnowsLayerOn}
use Rattle.qcow_layer.specs.declared.layer.Layer.{Layer}
use Rattle.qcow_layer.specs.declared.stages.Target as layer
use Rattle.qcow_layer.proofs.Knowing.{known_down, known_untouched, raised_known}
use Rattle.chain_model.specs.Folder.{HoldSameVolumes, folder_of}
use Rattle.chain_model.specs.Growth.{AreLonger, IsLonger, MayGrow, MayHaveGrown}
use Rattle.chain_model.specs.Records.{Records}
use Rattle.chain_model.proofs.LongerImages.{grown_is_longer}
use Rattle.chain_records.specs.Records.{records_in}
use Rattle.chain_gathering.specs.Knowing.{volumes_in}
use Rattle.volume_chain.specs.Chain.{AreOpenAs, IsOpenAs, dir_in, image_in, place_in}
use Rattle.volume_chain.specs.Knowing.{AreAloneTexts, AreKnown, HaveLengths, IsKnown, KnowsChain}
use Rattle.volume_chain.specs.declared.chain.Chain.{Chain}
use Rattle.volume_chain.specs.declared.chain.Target.{Target}
use Rattle.volume_chain.specs.declared.volumes.OpenVolume.{OpenVolume}
use Rattle.volume_chain.specs.declared.volumes.OpenVolume.TheVariants.{Raw, Cow}
use Rattle.volume_chain.proofs.Along.{along_both}
use Rattle.volume_chain.proofs.Shown.{shown_alike}

-- ---- volume by volume

-- what layers know of files in the image's folder stays known
abbrev pub KeepsLayers : Target → ℕ → Content → Content → Type 0
KeepsLayers t host d e = (v : Id) (l : Layer) → l.target.place ≡ place_in t v → KnowsLayerOn l host d → KnowsLayerOn l host e

-- a file stays there, as long as it was or longer
abbrev pub KeepsLengths : Target → Content → Content → Type 0
KeepsLengths t d e = (v : Id) (f : File) → d.file (place_in t v) ≡ Some f → (g : File) × (e.file (place_in t v) ≡ Some g) × (f.size ≤ g.size)

one_on : (t : Target) (host : ℕ) (d e : Content) → KeepsLayers t host d e → KeepsLengths t d e → (v : Id) (q : Option VolumeRecord) (o : OpenVolume)
    → IsOpenAs t v q o → IsKnown t host d v o → IsKnown t host e v o
one_on t host d e layers lengths v q (Raw n) open_as known = let g = lengths v known.0 known.1 in (g.0, g.1, omega (arith, known.2, g.2))
one_on t host d e layers lengths v None (Cow l) open_as known = absurd open_as
one_on t host d e layers lengths v (Some x) (Cow l) open_as known = layers v l (ap (λ (g : layer.Target). g.place) open_as.1) known

pub known_on : (t : Target) (host : ℕ) (d e : Content) (r : Records) (path : List Id) (os : List OpenVolume) → KeepsLayers t host d e → KeepsLengths t d e
    → AreOpenAs t r path os → AreKnown t host d path os → AreKnown t host e path os
known_on t host d e r path os layers lengths open_as known =
    along_both (λ v o. IsOpenAs t v (r v) o) (IsKnown t host d) (IsKnown t host e) (λ v o a k. one_on t host d e layers lengths v (r v) o a k) path os open_as known

chain_on : (c : Chain) (host : ℕ) (d e : Content) → ((v : Id) → e.file (names.place_in (dir_in c.target) (name.Meta v)) ≡ d.file (names.place_in (dir_in c.target) (name.Meta v)))
    → ((v : Id) → is_some (d.file (place_in c.target v)) ≡ is_some (e.file (place_in c.target v))) → KeepsLayers c.target host d e → KeepsLengths c.target d e
    → KnowsChain c host d → KnowsChain c host e
chain_on c host d e texts there layers lengths knows = record {
  shown = shown_alike (image_in c.target) (volumes_in (dir_in c.target) d) (volumes_in (dir_in c.target) e) c.records texts there knows.shown;
  shape = knows.shape;
  all = knows.all;
  known = known_on c.target host d e (records_in c.records) c.path c.volumes layers lengths knows.shape.each knows.known;
}

-- ---- the files of the volumes are the same

pub same_layers : (t : Target) (host : ℕ) (d e : Content) → HoldSameVolumes (folder_of (dir_in t) d) (folder_of (dir_in t) e) → KeepsLayers t host d e
same_layers t host d e same v l at known = known_untouched l host d e (subst (λ (p : Place). e.file p ≡ d.file p) (sym at) (same.file v)) known

pub same_lengths : (t : Target) (d e : Content) → HoldSameVolumes (folder_of (dir_in t) d) (folder_of (dir_in t) e) → KeepsLengths t d e
same_lengths t d e same v f there = (f, same.file v ∙ there, omega arith)

pub chain_untouched : (c : Chain) (host : ℕ) (d e : Content) → HoldSameVolumes (folder_of (dir_in c.target) d) (folder_of (dir_in c.target) e) → KnowsChain c host d → KnowsChain c host e
chain_untouched c host d e same knows =
    chain_on c host d e same.text (λ v. ap is_some (sym (same.file v))) (same_layers c.target host d e same) (same_lengths c.target d e same) knows

-- ---- another host goes down

not_fresh : (host other : ℕ) (o : Option ℕ) → host ≢ other → unless_by host o ≡ None → o ≢ Some other
not_fresh host other None apart none e = absurd cc
not_fresh host other (Some h) apart none e = let same : h ≡ other = cc in go (h == host) refl none
  where
    go : (b : Bool) → (h == host) ≡ b → (if b then None else Some h) ≡ None → ⊥
    go true t n = let other_is : h ≡ other = cc in apart (sym (eqb-true h host t) ∙ other_is)
    go false t n = absurd cc

-- a host has nothing unsynced in a file in which another one is alone
pub alone_without : (host other : ℕ) (f : File) → host ≢ other → IsAlone host f → IsSettledFor other f
alone_without host other f apart alone = record {
  loose = λ l among is. nothing_in l (subst (λ (ls : List Loose). Contains ls l) alone.loose (without_keeps host f.loose l (λ e. apart (sym e ∙ is)) among));
  fresh = not_fresh host other f.fresh apart alone.fresh;
}

-- so its going down leaves the file
pub alone_same : (p : Place) (host other : ℕ) (d e : Content) → host ≢ other → DownLeaves d other e → ((f : File) → d.file p ≡ Some f → IsAlone host f) → e.file p ≡ d.file p
alone_same p host other d e apart down alone = go (d.file p) refl
  where
    go : (o : Option File) → d.file p ≡ o → e.file p ≡ d.file p
    go None gone = down_leaves_none d e other p down gone ∙ sym gone
    go (Some f) there = down_leaves_file d e other p f down there (alone_without host other f apart (alone f there)) ∙ sym there

down_there : (other : ℕ) (a b : Option File) → IsAlso (IsDownFile other) a b → is_some a ≡ is_some b
down_there other None None l = refl
down_there other None (Some g) l = absurd l
down_there other (Some f) None l = absurd l
down_there other (Some f) (Some g) l = refl

pub chain_down : (c : Chain) (host other : ℕ) (d e : Content) → host ≢ other → AreAloneTexts c.target host d → DownLeaves d other e → KnowsChain c host d → KnowsChain c host e
chain_down c host other d e apart alone down knows =
    chain_on c host d e (λ v. alone_same (names.place_in (dir_in c.target) (name.Meta v)) host other d e apart down (alone v))
    (λ v. down_there other (d.file (place_in c.target v)) (e.file (place_in c.target v)) (down.files (place_in c.target v))) (λ v l at known. known_down l host other d e apart down known) lengths
    knows
  where
    lengths : KeepsLengths c.target d e
    lengths v f there =
        let now = also_some (IsDownFile other) (d.file (place_in c.target v)) (e.file (place_in c.target v)) f (down.files (place_in c.target v)) there in
        (now.0, now.1, omega (arith, now.2.size))

-- ---- files get longer

pub grow_longer : (f g : File) → MayGrow f g → IsLonger f g
grow_longer f g (inl same) = subst (λ (h : File). IsLonger f h) (sym same) (record { size = omega arith; sectors = λ k. refl })
grow_longer f g (inr grows) = subst (λ (h : File). IsLonger f h) (sym grows.3) (grown_is_longer grows.0 f)

also_longer : (a b : Option File) → IsAlso MayGrow a b → IsAlso IsLonger a b
also_longer None None l = tt
also_longer None (Some g) l = absurd l
also_longer (Some f) None l = absurd l
also_longer (Some f) (Some g) l = grow_longer f g l

pub grown_longer : (t : Target) (d e : Content) → MayHaveGrown (folder_of (dir_in t) d) (folder_of (dir_in t) e) → AreLonger (volumes_in (dir_in t) d) (volumes_in (dir_in t) e)
grown_longer t d e grown = record { text = grown.text; file = λ v. also_longer (d.file (place_in t v)) (e.file (place_in t v)) (grown.file v) }

grown_there : (a b : Option File) → IsAlso MayGrow a b → is_some a ≡ is_some b
grown_there None None l = refl
grown_there None (Some g) l = absurd l
grown_there (Some f) None l = absurd l
grown_there (Some f) (Some g) l = refl

pub grown_lengths : (t : Target) (d e : Content) → MayHaveGrown (folder_of (dir_in t) d) (folder_of (dir_in t) e) → KeepsLengths t d e
grown_lengths t d e grown v f there =
    let now = also_some MayGrow (d.file (place_in t v)) (e.file (place_in t v)) f (grown.file v) there in
    (now.0, now.1, (grow_longer f now.0 now.2).size)

longer_layer : (l : Layer) (host : ℕ) (f g : File) → MayGrow f g → 512 * g.size < 2 ^ 64 → KnowsLayer l host f → KnowsLayer l host g
longer_layer l host f g (inl same) fits knows = subst (λ (h : File). KnowsLayer l host h) (sym same) knows
longer_layer l host f g (inr grows) fits knows =
    subst (λ (h : File). KnowsLayer l host h) (sym grows.3) (go (nat_lt f.size grows.0) refl (subst (λ (h : File). 512 * h.size < 2 ^ 64) grows.3 fits))
  where
    low : nat_lt f.size grows.0 ≡ true → f.size < grows.0
    low t = grind (arith, nat_tests)

    go : (b : Bool) → nat_lt f.size grows.0 ≡ b → 512 * (if b then raised grows.0 f else f).size < 2 ^ 64 → KnowsLayer l host (if b then raised grows.0 f else f)
    go true t fits = raised_known l host grows.0 f (λ w among. (grows.2.loose w among).within) (low t) fits knows
    go false t fits = knows

pub grown_layers : (t : Target) (host : ℕ) (d e : Content) → MayHaveGrown (folder_of (dir_in t) d) (folder_of (dir_in t) e) → HaveLengths t e → KeepsLayers t host d e
grown_layers t host d e grown lengths v l at known =
    let there : d.file (place_in t v) ≡ Some known.file = subst (λ (p : Place). d.file p ≡ Some known.file) at known.there in
    let now = also_some MayGrow (d.file (place_in t v)) (e.file (place_in t v)) known.file (grown.file v) there in
    record {
      file = now.0;
      there = subst (λ (p : Place). e.file p ≡ Some now.0) (sym at) now.1;
      knows = longer_layer l host known.file now.0 now.2 (lengths v now.0 now.1) known.knows;
    }

pub chain_grown : (c : Chain) (host : ℕ) (d e : Content) → MayHaveGrown (folder_of (dir_in c.target) d) (folder_of (dir_in c.target) e) → HaveLengths c.target e → KnowsChain c host d → KnowsChain c host e
chain_grown c host d e grown lengths knows =
    chain_on c host d e grown.text (λ v. grown_there (d.file (place_in c.target v)) (e.file (place_in c.target v)) (grown.file v)) (grown_layers c.target host d e grown lengths)
    (grown_lengths c.target d e grown) knows
