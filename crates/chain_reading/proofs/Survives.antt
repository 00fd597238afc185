-- What is known of the image while other files change, other hosts go down, and files get longer.
use Rattle.std.proofs.Common.{◌≡◌, ◌≢◌, ℕ, ◌≤◌, zero, suc, List, [], ◌∷◌, length, slice_get, Option, Some, None, refl, sym, ap, ◌∙◌, subst, inl, inr, arith}
use Rattle.sd_names.specs.declared.id.Id.{Id}
use Rattle.sd_names.specs.declared.place.Place.{Place}
use Rattle.shared_disk.specs.Content.{Content, File}
use Rattle.shared_disk.specs.Crash.{DownLeaves, IsAlso, IsSettled}
use Rattle.shared_disk.proofs.Toolkit.{grown_settled}
use Rattle.volume_meta.specs.declared.record.VolumeRecord.{VolumeRecord}
use Rattle.qcow_layer.specs.declared.layer.Layer.{Layer}
use Rattle.qcow_layer.specs.declared.stages.Target as layers
use Rattle.qcow_layer.proofs.Knowing.{known_untouched, settled_alone}
use Rattle.chain_model.specs.Folder.{Volumes, folder_of}
use Rattle.chain_model.specs.Growth.{AreLonger, IsLonger, MayGrow, MayHaveGrown}
use Rattle.chain_gathering.specs.Knowing.{AreSettled, volumes_in}
use Rattle.chain_gathering.specs.declared.names.VolumeName.TheVariants as names
use Rattle.volume_chain.specs.Chain.{IsOpenAs, dir_in, open_in, path_in, place_in, target_of}
use Rattle.volume_chain.specs.Knowing.{HaveLengths, IsKnown, KnowsChain}
use Rattle.volume_chain.specs.declared.chain.Chain.{Chain}
use Rattle.volume_chain.specs.declared.chain.Target.{Target}
use Rattle.volume_chain.specs.declared.volumes.OpenVolume.{OpenVolume}
use Rattle.volume_chain.specs.declared.volumes.OpenVolume.TheVariants.{Raw, Cow}
use Rattle.volume_chain.proofs.Gathered.{longer_itself}
use Rattle.volume_chain.proofs.Stays.{alone_same, grown_layers, grown_lengths, grown_longer}
use Rattle.chain_reading.specs.Knowing.{IsFrom, IsReadable, KnowsImage, place_on, records_of}
use Rattle.chain_reading.specs.Reading.{IsAlikeFrom, IsAskedFrom}
use Rattle.chain_reading.proofs.Owning.{along_at}

longer_twice : (a b o : Option File) → IsAlso IsLonger a b → IsAlso IsLonger b o → IsAlso IsLonger a o
longer_twice None None None f g = tt
longer_twice None None (Some h) f g = absurd g
longer_twice None (Some y) o f g = absurd f
longer_twice (Some x) None o f g = absurd f
longer_twice (Some x) (Some y) None f g = absurd g
longer_twice (Some x) (Some y) (Some z) f g = record { size = omega (arith, f.size, g.size); sectors = λ k. g.sectors k ∙ f.sectors k }

-- ---- the whole chain knows its image

known_chain : (c : Chain) (v : Id) (host : ℕ) (x : Volumes) (e : Content) → KnowsChain c host e → AreSettled (dir_in (target_of c)) e
    → ((i : ℕ) (w : Id) (o : OpenVolume) → IsFrom c v i w o → IsAlso IsLonger (x.file w) (e.file (place_in (target_of c) w))) → KnowsImage c v host x e
known_chain c v host x e knows settled longer = record {
  shape = knows.shape;
  all = knows.all;
  each = λ i w o at. record {
    known = along_at (IsKnown (target_of c) host e) (path_in c) (open_in c) i w o knows.known at.volume at.opened;
    settled = λ f there. settled (names.Data w) f there;
    longer = longer i w o at;
  };
}

pub longer_image : (c : Chain) (v : Id) (host : ℕ) (x : Volumes) (d e : Content) → KnowsImage c v host x d → KnowsChain c host e → AreSettled (dir_in (target_of c)) e
    → AreLonger (volumes_in (dir_in (target_of c)) d) (volumes_in (dir_in (target_of c)) e) → KnowsImage c v host x e
longer_image c v host x d e k knows settled longer =
    known_chain c v host x e knows settled
    (λ i w o at. longer_twice (x.file w) (d.file (place_in (target_of c) w)) (e.file (place_in (target_of c) w)) (k.each i w o at).longer (longer.file w))

pub begun_image : (c : Chain) (v : Id) (host : ℕ) (d : Content) → KnowsChain c host d → AreSettled (dir_in (target_of c)) d → KnowsImage c v host (volumes_in (dir_in (target_of c)) d) d
begun_image c v host d knows settled =
    known_chain c v host (volumes_in (dir_in (target_of c)) d) d knows settled (λ i w o at. (longer_itself (volumes_in (dir_in (target_of c)) d)).file w)

-- ---- of a volume below

pub image_below : (c : Chain) (v w : Id) (host : ℕ) (x : Volumes) (d : Content) → place_on v (path_in c) ≤ place_on w (path_in c) → KnowsImage c v host x d → KnowsImage c w host x d
image_below c v w host x d below k = record {
  shape = k.shape;
  all = k.all;
  each = λ i u o at. k.each i u o (record { from = omega (arith, at.from, below); volume = at.volume; opened = at.opened });
}

-- ---- other files and layers change

layer_place : (t : Target) (w : Id) (l : Layer) (q : Option VolumeRecord) → IsOpenAs t w q (Cow l) → l.target.place ≡ place_in t w
layer_place t w l None is = absurd is
layer_place t w l (Some rec) is = ap (λ (g : layers.Target). g.place) is.1

still_known : (t : Target) (host : ℕ) (d e : Content) (w : Id) (q : Option VolumeRecord) (o : OpenVolume) → IsOpenAs t w q o → e.file (place_in t w) ≡ d.file (place_in t w) → IsKnown t host d w o → IsKnown t host e w o
still_known t host d e w q (Raw n) is same known = (known.0, same ∙ known.1, known.2)
still_known t host d e w q (Cow l) is same known = known_untouched l host d e (subst (λ (p : Place). e.file p ≡ d.file p) (sym (layer_place t w l q is)) same) known

still_readable : (c b : Chain) (host : ℕ) (x : Volumes) (d e : Content) (w : Id) (o : OpenVolume) → IsOpenAs (target_of c) w (records_of c w) o → target_of b ≡ target_of c
    → e.file (place_in (target_of c) w) ≡ d.file (place_in (target_of c) w) → IsReadable c host x d w o → IsReadable b host x e w o
still_readable c b host x d e w o is target same r = record {
  known = subst (λ (t : Target). IsKnown t host e w o) (sym target) (still_known (target_of c) host d e w (records_of c w) o is same r.known);
  settled = λ f there. r.settled f (sym same ∙ ap (λ (t : Target). e.file (place_in t w)) (sym target) ∙ there);
  longer = subst (λ (t : Target). IsAlso IsLonger (x.file w) (e.file (place_in t w))) (sym target) (subst (λ (g : Option File). IsAlso IsLonger (x.file w) g) (sym same) r.longer);
}

pub image_untouched : (c b : Chain) (v : Id) (host : ℕ) (x : Volumes) (d e : Content) → IsAlikeFrom c b v → ((w : Id) → IsAskedFrom c v w → e.file (place_in (target_of c) w) ≡ d.file (place_in (target_of c) w))
    → KnowsImage c v host x d → KnowsImage b v host x e
image_untouched c b v host x d e alike same k = record {
  shape = alike.shape;
  all = alike.all ∙ k.all ∙ ap length (sym alike.path);
  each = λ i w o at.
      let from : place_on v (path_in c) ≤ i = subst (λ (vs : List Id). place_on v vs ≤ i) alike.path at.from in
      let volume : slice_get (path_in c) i ≡ Some w = ap (λ (vs : List Id). slice_get vs i) (sym alike.path) ∙ at.volume in
      let opened : slice_get (open_in c) i ≡ Some o = sym (alike.opened i from) ∙ at.opened in
      still_readable c b host x d e w o (along_at (λ u q. IsOpenAs (target_of c) u (records_of c u) q) (path_in c) (open_in c) i w o k.shape.each volume opened) alike.target (same w (i, from, volume))
      (k.each i w o (record { from = from; volume = volume; opened = opened }));
}

-- ---- another host goes down

get_within : (vs : List Id) (os : List OpenVolume) (i : ℕ) (w : Id) → slice_get vs i ≡ Some w → slice_get os i ≡ None → length os ≡ length vs → ⊥
get_within [] os i w there none all = absurd cc
get_within (v ∷ vs) [] i w there none all = absurd (omega (arith, all))
get_within (v ∷ vs) (o ∷ os) zero w there none all = absurd cc
get_within (v ∷ vs) (o ∷ os) (suc i) w there none all = get_within vs os i w there none (omega (arith, all))

opened_at : (c : Chain) (i : ℕ) (w : Id) (o : Option OpenVolume) → slice_get (path_in c) i ≡ Some w → slice_get (open_in c) i ≡ o → length (open_in c) ≡ length (path_in c) → (q : OpenVolume) × (slice_get (open_in c) i ≡ Some q)
opened_at c i w (Some q) there is all = (q, is)
opened_at c i w None there is all = absurd (get_within (path_in c) (open_in c) i w there is all)

pub image_down : (c : Chain) (v : Id) (host other : ℕ) (x : Volumes) (d e : Content) → host ≢ other → DownLeaves d other e → KnowsImage c v host x d → KnowsImage c v host x e
image_down c v host other x d e apart down k =
    image_untouched c c v host x d e (record { shape = k.shape; target = refl; path = refl; all = refl; opened = λ i from. refl }) (λ w at. same w at) k
  where
    same : (w : Id) → IsAskedFrom c v w → e.file (place_in (target_of c) w) ≡ d.file (place_in (target_of c) w)
    same w at =
        let o = opened_at c at.0 w (slice_get (open_in c) at.0) at.2 refl k.all in
        let readable = k.each at.0 w o.0 (record { from = at.1; volume = at.2; opened = o.1 }) in
        alone_same (place_in (target_of c) w) host other d e apart down (λ f there. settled_alone host f (readable.settled f there))

-- ---- files get longer

longer_known : (t : Target) (host : ℕ) (d e : Content) (w : Id) (q : Option VolumeRecord) (o : OpenVolume) → MayHaveGrown (folder_of (dir_in t) d) (folder_of (dir_in t) e) → HaveLengths t e
    → IsOpenAs t w q o → IsKnown t host d w o → IsKnown t host e w o
longer_known t host d e w q (Raw n) grown lengths is known = let g = grown_lengths t d e grown w known.0 known.1 in (g.0, g.1, omega (arith, known.2, g.2))
longer_known t host d e w q (Cow l) grown lengths is known = grown_layers t host d e grown lengths w l (layer_place t w l q is) known

settled_still : (f g : File) → MayGrow f g → IsSettled f → IsSettled g
settled_still f g (inl same) settled = subst IsSettled (sym same) settled
settled_still f g (inr grows) settled = subst IsSettled (sym grows.3) (grown_settled grows.0 f settled)

file_before : (a b : Option File) (g : File) → IsAlso MayGrow a b → b ≡ Some g → (f : File) × (a ≡ Some f) × MayGrow f g
file_before (Some f) (Some h) g also e = let same : h ≡ g = cc in (f, refl, subst (λ (z : File). MayGrow f z) same also)
file_before (Some f) None g also e = absurd also
file_before None (Some h) g also e = absurd also
file_before None None g also e = absurd cc

pub image_grown : (c : Chain) (v : Id) (host : ℕ) (x : Volumes) (d e : Content) → MayHaveGrown (folder_of (dir_in (target_of c)) d) (folder_of (dir_in (target_of c)) e) → HaveLengths (target_of c) e
    → KnowsImage c v host x d → KnowsImage c v host x e
image_grown c v host x d e grown lengths k = record {
  shape = k.shape;
  all = k.all;
  each = λ i w o at.
      let r = k.each i w o at in
      record {
        known = longer_known (target_of c) host d e w (records_of c w) o grown lengths (along_at (λ u q. IsOpenAs (target_of c) u (records_of c u) q) (path_in c) (open_in c) i w o k.shape.each at.volume at.opened) r.known;
        settled = λ g there.
            let f = file_before (d.file (place_in (target_of c) w)) (e.file (place_in (target_of c) w)) g (grown.file w) there in
            settled_still f.0 g f.2 (r.settled f.0 f.1);
        longer = longer_twice (x.file w) (d.file (place_in (target_of c) w)) (e.file (place_in (target_of c) w)) r.longer ((grown_longer (target_of c) d e grown).file w);
      };
}
