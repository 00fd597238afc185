-- An image that could be opened can be opened again: what a step leaves of it where one file changes, or none.
use Rattle.std.proofs.Common.{◌≡◌, ◌≢◌, ◌⊎◌, ℕ, Option, Some, None, refl, sym, ap, ◌∙◌, subst, inl, inr}
use Rattle.std.specs.List.{Contains}
use Rattle.std.specs.Prelude.{List}
use Rattle.sd_names.specs.declared.fault.LayerFault.{LayerFault}
use Rattle.sd_names.specs.declared.id.Id.{Id}
use Rattle.sd_names.specs.declared.place.Dir.{Dir}
use Rattle.qcow_format.specs.declared.header.Header.{Header}
use Rattle.std.specs.Prelude.{MatchResult, Result, Ok, Err}
use Rattle.shared_disk.specs.Content.{Content, File}
use Rattle.shared_disk.specs.Crash.{IsAlso, OnEach}
use Rattle.shared_disk.proofs.Outcomes.{settled_file}
use Rattle.image_model.specs.File as numbers
use Rattle.image_model.specs.File.{file_of}
use Rattle.image_model.specs.Soundness.{FirstFault, HasFault, IsClean, IsSound, layer_header}
use Rattle.image_model.proofs.Faults.{clean_without_fault, sound_if_none}
use Rattle.volume_meta.specs.declared.record.VolumeRecord.{VolumeRecord}
use Rattle.chain_gathering.specs.Knowing.{AreSettled, volumes_in}
use Rattle.chain_gathering.specs.declared.names.VolumeName.TheVariants.{Data}
use Rattle.chain_model.specs.Folder.{Volumes}
use Rattle.chain_model.specs.Growth.{IsLonger}
use Rattle.chain_model.specs.Records.{Image, Records, parent, records_of}
use Rattle.chain_model.proofs.LongerFiles.{backing_grown, faultless_grown}
use Rattle.chain_records.specs.Paths.{IsReadingPath}
use Rattle.chain_settling.specs.Reopening.{NamesAlike, OpensAlike, StaysSound, named_in}
use Rattle.chain_settling.specs.Was.{file_in, text_in}
use Rattle.chain_settling.proofs.Alike.{AreKept, said_same, same_or_not}
use Rattle.chain_settling.proofs.Plans.{parent_by}

-- what is said of the file of a volume whose text names this parent
abbrev pub SoundAt : Records → Id → File → File → Type 0
SoundAt r v f g = OnEach g (StaysSound (r v) f)

abbrev pub NamesAt : Records → Id → Option Id → File → File → Type 0
NamesAt r v text f g = OnEach g (NamesAlike r v text f)

-- the parent in a volume's text
abbrev pub text_names : Image → Dir → Content → Id → Option Id
text_names i dir d v = parent (records_of i (volumes_in dir d)) v

pub same_text_names : (i : Image) (dir : Dir) (v : Id) (d e : Content) → e.file (text_in dir v) ≡ d.file (text_in dir v) → text_names i dir e v ≡ text_names i dir d v
same_text_names i dir v d e same = ap (λ (o : Option VolumeRecord). parent_by o) (said_same i dir v d e same)

-- ---- nothing of the volumes has changed

pub names_kept : (i : Image) (dir : Dir) (r : Records) (x : Volumes) (d e : Content) (v : Id) → e.file (text_in dir v) ≡ d.file (text_in dir v) → e.file (file_in dir v) ≡ d.file (file_in dir v)
    → IsAlso (NamesAt r v (text_names i dir d v)) (x.file v) (d.file (file_in dir v)) → IsAlso (NamesAt r v (text_names i dir e v)) (x.file v) (e.file (file_in dir v))
names_kept i dir r x d e v text file also =
    subst (λ (n : Option Id). IsAlso (NamesAt r v n) (x.file v) (e.file (file_in dir v))) (sym (same_text_names i dir v d e text))
    (subst (λ (o : Option File). IsAlso (NamesAt r v (text_names i dir d v)) (x.file v) o) (sym file) also)

pub sound_kept : (dir : Dir) (r : Records) (x : Volumes) (d e : Content) (v : Id) → e.file (file_in dir v) ≡ d.file (file_in dir v)
    → IsAlso (SoundAt r v) (x.file v) (d.file (file_in dir v)) → IsAlso (SoundAt r v) (x.file v) (e.file (file_in dir v))
sound_kept dir r x d e v file also = subst (λ (o : Option File). IsAlso (SoundAt r v) (x.file v) o) (sym file) also

pub opens_kept : (i : Image) (dir : Dir) (r : Records) (x : Volumes) (d e : Content) → AreKept dir d e → OpensAlike i dir r x d → OpensAlike i dir r x e
opens_kept i dir r x d e kept a = record {
  sound = λ v. sound_kept dir r x d e v (kept.files v) (a.sound v);
  names = λ path v is on. names_kept i dir r x d e v (kept.texts v) (kept.files v) (a.names path v is on);
}

-- ---- an image is as it is

sound_itself : (o : Option VolumeRecord) (f : File) → StaysSound o f f
sound_itself None f = tt
sound_itself (Some y) f = λ cow sound. sound

pub opens_itself : (i : Image) (dir : Dir) (d : Content) → AreSettled dir d → OpensAlike i dir (records_of i (volumes_in dir d)) (volumes_in dir d) d
opens_itself i dir d settled = record {
  sound = λ v. sound v (d.file (file_in dir v)) refl;
  names = λ path v is on. names v (d.file (file_in dir v)) refl;
}
  where
    r : Records
    r = records_of i (volumes_in dir d)

    sound : (v : Id) (o : Option File) → d.file (file_in dir v) ≡ o → IsAlso (SoundAt r v) o o
    sound v None e = tt
    sound v (Some f) e = λ g out. subst (λ (z : File). StaysSound (r v) f z) (sym (settled_file f g (settled (Data v) f e) out)) (sound_itself (r v) f)

    names : (v : Id) (o : Option File) → d.file (file_in dir v) ≡ o → IsAlso (NamesAt r v (parent r v)) o o
    names v None e = tt
    names v (Some f) e = λ g out. inl (refl, ap (λ (z : File). named_in (r v) z) (settled_file f g (settled (Data v) f e) out))

-- ---- the file of one volume changes

module _ (i : Image) (dir : Dir) (r : Records) (x : Volumes) (d e : Content) (w : Id) (f g : File) (was : d.file (file_in dir w) ≡ Some f) (is : e.file (file_in dir w) ≡ Some g)
    (texts : (v : Id) → e.file (text_in dir v) ≡ d.file (text_in dir v)) (files : (v : Id) → v ≢ w → e.file (file_in dir v) ≡ d.file (file_in dir v))
    (sound : (t : File) → x.file w ≡ Some t → SoundAt r w t f → SoundAt r w t g) (names : (t : File) → x.file w ≡ Some t → NamesAt r w (text_names i dir d w) t f → NamesAt r w (text_names i dir d w) t g) where
  here : (R : File → File → Type 0) → ((t : File) → x.file w ≡ Some t → R t f → R t g) → IsAlso R (x.file w) (d.file (file_in dir w)) → IsAlso R (x.file w) (e.file (file_in dir w))
  here R step also = go (x.file w) refl (subst (λ (o : Option File). IsAlso R (x.file w) o) was also)
    where
      go : (t : Option File) → x.file w ≡ t → IsAlso R t (Some f) → IsAlso R t (e.file (file_in dir w))
      go None e1 a = absurd a
      go (Some t) e1 a = subst (λ (o : Option File). IsAlso R (Some t) o) (sym is) (step t e1 a)

  pub opens_but_one : OpensAlike i dir r x d → OpensAlike i dir r x e
  opens_but_one a = record {
    sound = λ v. sounds v (same_or_not v w);
    names = λ path v reads on. named path v (same_or_not v w) reads on;
  }
    where
      sounds : (v : Id) → (v ≡ w) ⊎ (v ≢ w) → IsAlso (SoundAt r v) (x.file v) (e.file (file_in dir v))
      sounds v (inl same) = subst (λ (u : Id). IsAlso (SoundAt r u) (x.file u) (e.file (file_in dir u))) (sym same) (here (SoundAt r w) sound (a.sound w))
      sounds v (inr other) = sound_kept dir r x d e v (files v other) (a.sound v)

      named : (path : List Id) (v : Id) → (v ≡ w) ⊎ (v ≢ w) → IsReadingPath r path → Contains path v → IsAlso (NamesAt r v (text_names i dir e v)) (x.file v) (e.file (file_in dir v))
      named path v (inr other) reads on = names_kept i dir r x d e v (texts v) (files v other) (a.names path v reads on)
      named path v (inl same) reads on =
          let at = here (NamesAt r w (text_names i dir d w)) names (a.names path w reads (subst (λ (u : Id). Contains path u) same on)) in
          subst (λ (u : Id). IsAlso (NamesAt r u (text_names i dir e u)) (x.file u) (e.file (file_in dir u))) (sym same)
          (subst (λ (n : Option Id). IsAlso (NamesAt r w n) (x.file w) (e.file (file_in dir w))) (sym (same_text_names i dir w d e (texts w))) at)

-- ---- a file gets longer

pub none_of_sound : (m : numbers.File) (capacity : ℕ) (fault : LayerFault) → IsSound m capacity → HasFault m capacity fault → ⊥
none_of_sound m capacity fault = go (layer_header m capacity)
  where
    go : (r : Result Header LayerFault) → MatchResult r (λ h. (n : ℕ) → IsClean (record { header = h; file = m }) capacity n) (λ e. ⊥)
        → MatchResult r (λ h. FirstFault (record { header = h; file = m }) capacity fault) (λ e. e ≡ fault) → ⊥
    go (Err e) sound f = sound
    go (Ok h) sound f = clean_without_fault (record { header = h; file = m }) capacity f.at fault (sound f.at) f.here

pub sound_longer : (o : Option VolumeRecord) (t f g : File) → IsLonger f g → StaysSound o t f → StaysSound o t g
sound_longer None t f g l s = tt
sound_longer (Some y) t f g l s = λ cow sound.
    sound_if_none (file_of g.size g.stable) y.capacity
    (faultless_grown f g y.capacity l (λ fault h. none_of_sound (file_of f.size f.stable) y.capacity fault (s cow sound) h))

pub names_longer : (r : Records) (v : Id) (text : Option Id) (t f g : File) → IsLonger f g → NamesAlike r v text t f → NamesAlike r v text t g
names_longer r v text t f g l (inl same) = inl (same.0, backing_grown (r v) (Some f) (Some g) l ∙ same.1)
names_longer r v text t f g l (inr up) = inr (up.0, up.1, backing_grown (r v) (Some f) (Some g) l ∙ up.2)
