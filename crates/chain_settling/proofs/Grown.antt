-- What a settling knows survives growth of a volume's file: of one that is no layer of the path, and of a layer whose turn to be
-- grown hasn't come.
use Rattle.std.proofs.Common.{◌≡◌, ◌≢◌, ◌⊎◌, ℕ, Option, Some, None, refl, sym, ◌∙◌, subst, inl, inr, arith}
use Rattle.sd_names.specs.declared.id.Id.{Id}
use Rattle.sd_names.specs.declared.place.Dir.{Dir}
use Rattle.sd_names.specs.declared.place.Place.{Place}
use Rattle.shared_disk.specs.Changes.{grown}
use Rattle.shared_disk.specs.Content.{Content, File}
use Rattle.shared_disk.specs.Crash.{IsAlso, IsFileOutcome, IsSettled, OnEach}
use Rattle.shared_disk.specs.SectorCalls.{IsGrown}
use Rattle.shared_disk.specs.WellFormed.{IsWellFormed}
use Rattle.shared_disk.proofs.Toolkit.{grown_settled}
use Rattle.volume_meta.specs.declared.record.VolumeRecord.{VolumeRecord}
use Rattle.qcow_layer.specs.Opening.{place_kept, volume_kept}
use Rattle.qcow_layer.specs.declared.layer.Layer.{Layer}
use Rattle.settling_steps.specs.Leftovers.{temporary_in}
use Rattle.settling_steps.specs.declared.names.Temporary.{Temporary}
use Rattle.settling_steps.specs.declared.names.Temporary.TheVariants.{New}
use Rattle.chain_model.specs.Folder.{Volumes}
use Rattle.chain_model.specs.Growth.{IsLonger}
use Rattle.chain_model.specs.Records.{Records}
use Rattle.chain_model.proofs.LongerFiles.{own_grown}
use Rattle.chain_model.proofs.LongerImages.{grown_is_longer}
use Rattle.chain_model.proofs.LongerOutcomes.{outcome_before}
use Rattle.chain_records.specs.Settling.{IsRewritten}
use Rattle.volume_chain.specs.declared.chain.Chain.{Chain}
use Rattle.chain_settling.specs.Alike.{HasTypeOf, HoldsAlike, KnowsImage, ReadsAlike}
use Rattle.chain_settling.specs.Fit.{chain_in}
use Rattle.chain_settling.specs.Reopening.{OpensAlike}
use Rattle.chain_settling.specs.Steps.{KnowsStage}
use Rattle.chain_settling.specs.Was.{AreLeftAlone, IsLeftAlone, IsOffLayers, file_in, folder_in, image_kept, text_in}
use Rattle.chain_settling.specs.declared.stages.Stage.{Stage}
use Rattle.chain_settling.proofs.Alike.{said_same, same_or_not}
use Rattle.chain_settling.proofs.Grows.{file_not_text, files_apart, temporary_not_file}
use Rattle.chain_settling.proofs.OpensAlike.{names_longer, opens_but_one, sound_longer, text_names}
use Rattle.chain_settling.proofs.Survives.{Leaves, also_itself, stays, write_same}

longer_on : (f g h : File) → IsLonger f g → IsLonger g h → IsLonger f h
longer_on f g h a b = record { size = omega (arith, a.size, b.size); sectors = λ k. b.sectors k ∙ a.sectors k }

module _ (c : Chain) (r : Records) (x : Volumes) (size : ℕ) (v : Id) (d e : Content) (formed : IsWellFormed d) (grows : IsGrown d (file_in (folder_in c) v) size e) where
  abbrev dir : Dir
  dir = folder_in c

  abbrev f : File
  f = grows.0

  elsewhere : (q : Place) → q ≢ file_in dir v → e.file q ≡ d.file q
  elsewhere = grows.2.others

  pub texts_same : (u : Id) → e.file (text_in dir u) ≡ d.file (text_in dir u)
  texts_same u = elsewhere (text_in dir u) (file_not_text dir u v)

  pub file_same : (u : Id) → u ≢ v → e.file (file_in dir u) ≡ d.file (file_in dir u)
  file_same u other = elsewhere (file_in dir u) (files_apart dir u v other)

  pub temporary_same : (o : Temporary) → e.file (temporary_in dir o) ≡ d.file (temporary_in dir o)
  temporary_same o = elsewhere (temporary_in dir o) (temporary_not_file dir o v)

  pub layers_same : (l : Layer) → volume_kept l ≢ v → place_kept l ≡ file_in dir (volume_kept l) → e.file (place_kept l) ≡ d.file (place_kept l)
  layers_same l other place = subst (λ (p : Place). e.file p ≡ d.file p) (sym place) (file_same (volume_kept l) other)

  -- a file of which no layer is on the path is settled, and left alone as it was
  module _ (k : KnowsImage c r x d) (off : IsOffLayers c v) where
    pub settled_off : IsSettled f
    settled_off = go (x.file v) (subst (λ (o : Option File). IsAlso IsLeftAlone (x.file v) o) grows.1 (k.alone v off))
      where
        go : (o : Option File) → IsAlso IsLeftAlone o (Some f) → IsSettled f
        go None also = absurd also
        go (Some t) also = also.settled

    pub alone_off : AreLeftAlone c x e
    alone_off u free = go (same_or_not u v)
      where
        here : (t : Option File) → IsAlso IsLeftAlone t (Some f) → IsAlso IsLeftAlone t (Some (grown size f))
        here None also = absurd also
        here (Some t) was = record { settled = grown_settled size f was.settled; longer = longer_on t f (grown size f) was.longer (grown_is_longer size f) }

        go : (u ≡ v) ⊎ (u ≢ v) → IsAlso IsLeftAlone (x.file u) (e.file (file_in dir u))
        go (inl same) =
            subst (λ (w : Id). IsAlso IsLeftAlone (x.file w) (e.file (file_in dir w))) (sym same)
            (subst (λ (o : Option File). IsAlso IsLeftAlone (x.file v) o) (sym grows.2.here)
            (here (x.file v) (subst (λ (o : Option File). IsAlso IsLeftAlone (x.file v) o) grows.1 (k.alone v off))))
        go (inr other) = subst (λ (o : Option File). IsAlso IsLeftAlone (x.file u) o) (sym (file_same u other)) (k.alone u free)

  module _ (k : KnowsImage c r x d) (settled : IsSettled f) (alone : AreLeftAlone c x e) where
    earlier : (g : File) → IsFileOutcome (grown size f) g → (h : File) × IsFileOutcome f h × IsLonger h g
    earlier g out = outcome_before f (grown size f) g (inr (size, settled.fresh, formed.files (file_in dir v) f grows.1, refl)) out

    -- what holds of the file holds of it where this survives growth
    grown_here : (R S : File → File → Type 0) → ((t : File) → R t f → S t (grown size f)) → IsAlso R (x.file v) (d.file (file_in dir v)) → IsAlso S (x.file v) (e.file (file_in dir v))
    grown_here R S step also = go (x.file v) (subst (λ (o : Option File). IsAlso R (x.file v) o) grows.1 also)
      where
        go : (t : Option File) → IsAlso R t (Some f) → IsAlso S t (e.file (file_in dir v))
        go None a = absurd a
        go (Some t) a = subst (λ (o : Option File). IsAlso S (Some t) o) (sym grows.2.here) (step t a)

    alike : ReadsAlike (image_kept c) dir r x e
    alike = record {
      texts = λ u. subst (λ (o : Option File). IsAlso (λ g h. IsSettled h) (x.text u) o) (sym (texts_same u)) (k.alike.texts u);
      partly = λ u. subst (λ (o : Option VolumeRecord). (o ≡ r u) ⊎ IsRewritten r u (r u) o) (sym (said_same (image_kept c) dir u d e (texts_same u))) (k.alike.partly u);
      types = λ u. subst (HasTypeOf r u) (sym (said_same (image_kept c) dir u d e (texts_same u))) (k.alike.types u);
      files = λ u. file u (same_or_not u v);
    }
      where
        file : (u : Id) → (u ≡ v) ⊎ (u ≢ v) → IsAlso (λ g h. OnEach h (HoldsAlike (r u) g)) (x.file u) (e.file (file_in dir u))
        file u (inl same) =
            subst (λ (w : Id). IsAlso (λ g h. OnEach h (HoldsAlike (r w) g)) (x.file w) (e.file (file_in dir w))) (sym same)
            (grown_here (λ g h. OnEach h (HoldsAlike (r v) g)) (λ g h. OnEach h (HoldsAlike (r v) g)) (λ t each g out n. let before = earlier g out in own_grown (r v) (Some before.0) (Some g) n before.2 ∙ each before.0 before.1 n) (k.alike.files v))
        file u (inr other) = subst (λ (o : Option File). IsAlso (λ g h. OnEach h (HoldsAlike (r u) g)) (x.file u) o) (sym (file_same u other)) (k.alike.files u)

    opens : OpensAlike (image_kept c) dir r x e
    opens =
        opens_but_one (image_kept c) dir r x d e v f (grown size f) grows.1 grows.2.here texts_same file_same
        (λ t is each g out. let before = earlier g out in sound_longer (r v) t before.0 g before.2 (each before.0 before.1))
        (λ t is each g out. let before = earlier g out in names_longer r v (text_names (image_kept c) dir d v) t before.0 g before.2 (each before.0 before.1)) k.opens

    pub image_grown : KnowsImage c r x e
    image_grown = record {
      folder = grows.2.dirs dir ∙ k.folder;
      chains = k.chains;
      alike = alike;
      opens = opens;
      partly = k.partly;
      types = k.types;
      kept = k.kept;
      legible = k.legible;
      cows = k.cows;
      was = k.was;
      alone = alone;
    }

pub grown_knows : (s : Stage) (host : ℕ) (r : Records) (x : Volumes) (size : ℕ) (v : Id) (d e : Content) → IsWellFormed d → IsWellFormed e → IsGrown d (file_in (folder_in (chain_in s)) v) size e
    → IsOffLayers (chain_in s) v → KnowsStage s host r x d → KnowsStage s host r x e
grown_knows s host r x size v d e formed after grows off k =
    stays s host r x d e on
    (write_same s host r x d e (grows.2.dirs (folder_in (chain_in s))) (λ u. temporary_same (chain_in s) r x size v d e formed grows (New u))) k
  where
    on : Leaves (chain_in s) r x d e
    on = record {
      formed = λ _. after;
      there = grows.2.dirs (folder_in (chain_in s));
      image = λ image. image_grown (chain_in s) r x size v d e formed grows image (settled_off (chain_in s) r x size v d e formed grows image off) (alone_off (chain_in s) r x size v d e formed grows image off);
      texts = texts_same (chain_in s) r x size v d e formed grows;
      layers = λ b l is place. layers_same (chain_in s) r x size v d e formed grows l (off b l is) place;
      names = λ o. also_itself (d.file (temporary_in (folder_in (chain_in s)) o)) (e.file (temporary_in (folder_in (chain_in s)) o)) (temporary_same (chain_in s) r x size v d e formed grows o);
    }
