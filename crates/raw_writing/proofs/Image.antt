-- What is known of an image while one of its volumes' files changes.
use Rattle.std.proofs.Common.{◌≡◌, ◌≢◌, ◌⊎◌, ℕ, Bool, true, false, Option, Some, None, refl, sym, ap, ◌∙◌, subst, inl, inr}
use Rattle.std.specs.Prelude.{Contains, is_some}
use Rattle.sd_names.specs.declared.id.Id.{Id}
use Rattle.sd_names.specs.declared.place.Name.{Name}
use Rattle.sd_names.specs.declared.place.Name.TheVariants as name
use Rattle.sd_names.specs.declared.place.Place.{Place}
use Rattle.shared_disk.specs.Content.{Content, File}
use Rattle.shared_disk.specs.Crash.{IsSettled}
use Rattle.shared_disk.specs.NameCalls as names
use Rattle.shared_disk.specs.Places.{id_is}
use Rattle.shared_disk.proofs.AtPlace.{one_file}
use Rattle.shared_disk.proofs.Places.{id_is-same}
use Rattle.volume_meta.specs.declared.record.VolumeRecord.{VolumeRecord}
use Rattle.qcow_layer.specs.declared.stages.Target as layer
use Rattle.qcow_layer.proofs.Knowing.{known_untouched}
use Rattle.chain_model.specs.Folder.{folder_of}
use Rattle.chain_laws.specs.Written.{IsChangedAt}
use Rattle.chain_laws.proofs.Held.{apart}
use Rattle.chain_records.specs.Records.{records_in}
use Rattle.chain_records.proofs.Lists.{record_among}
use Rattle.chain_records.proofs.Opening.{all_there}
use Rattle.chain_gathering.specs.Knowing.{AreSettled, volumes_in}
use Rattle.chain_gathering.specs.Names.{name_of}
use Rattle.chain_gathering.specs.declared.names.VolumeName.TheVariants.{Data, Text}
use Rattle.volume_chain.specs.Chain.{IsOpenAs, dir_in, image_in, place_in}
use Rattle.volume_chain.specs.Knowing.{IsKnown, KnowsChain}
use Rattle.volume_chain.specs.declared.chain.Chain.{Chain}
use Rattle.volume_chain.specs.declared.volumes.OpenVolume.{OpenVolume}
use Rattle.volume_chain.specs.declared.volumes.OpenVolume.TheVariants.{Raw, Cow}
use Rattle.volume_chain.proofs.Along.{along_both}
use Rattle.volume_chain.proofs.Shapes.{path_record}
use Rattle.volume_chain.proofs.Shown.{shown_alike}
use Rattle.raw_writing.specs.Image.{AreSettledBut, OnlyChanges}

pub id_cases : (u v : Id) → (u ≡ v) ⊎ (u ≢ v)
id_cases u v = go (id_is u v) refl
  where
    go : (b : Bool) → id_is u v ≡ b → (u ≡ v) ⊎ (u ≢ v)
    go true t = inl (id_is-same u v t)
    go false t = inr (apart u v t)

pub file_apart : (u v : Id) → u ≢ v → name.Volume u ≢ name.Volume v
file_apart u v other same = let h : name.Volume u ≡ name.Volume v = same in other cc

pub text_apart : (u v : Id) → name.Meta u ≢ name.Volume v
text_apart u v same = let h : name.Meta u ≡ name.Volume v = same in absurd cc

-- a volume of the path has its file
pub path_file : (c : Chain) (v : Id) (host : ℕ) (d : Content) → KnowsChain c host d → Contains c.path v → (f : File) × (d.file (place_in c.target v) ≡ Some f)
path_file c v host d knows among =
    let has = path_record c.records c.path v knows.shape.checked knows.shape.reading among in
    all_there (volumes_in (dir_in c.target) d) c.records knows.shown.read.files knows.shown.there v (record_among c.records v has.0 has.1)

pub settled_but : (c : Chain) (v : Id) (d : Content) → AreSettled (dir_in c.target) d → AreSettledBut (dir_in c.target) v d
settled_but c v d settled = λ o f other there. settled o f there

module _ (c : Chain) (v : Id) (host : ℕ) (d e : Content) (only : OnlyChanges (place_in c.target v) d e) where
  pub others : (n : Name) → n ≢ name.Volume v → e.file (names.place_in (dir_in c.target) n) ≡ d.file (names.place_in (dir_in c.target) n)
  others n other = only.files (names.place_in (dir_in c.target) n) (λ same. other (ap (λ (p : Place). p.name) same))

  pub changed_at : (f g : File) → d.file (place_in c.target v) ≡ Some f → e.file (place_in c.target v) ≡ Some g
      → IsChangedAt v f g (folder_of (dir_in c.target) d) (folder_of (dir_in c.target) e)
  changed_at f g was now = record { before = was; now = now; others = λ n other. others n other }

  pub rest_kept : AreSettledBut (dir_in c.target) v d → AreSettledBut (dir_in c.target) v e
  rest_kept rest = λ o f other there. rest o f other (sym (others (name_of o) other) ∙ there)

  pub elsewhere : (u : Id) (q : Option VolumeRecord) (o : OpenVolume) → u ≢ v → IsOpenAs c.target u q o → IsKnown c.target host d u o → IsKnown c.target host e u o
  elsewhere u q (Raw n) other open_as known = (known.0, others (name.Volume u) (file_apart u v other) ∙ known.1, known.2)
  elsewhere u None (Cow l) other open_as known = absurd open_as
  elsewhere u (Some x) (Cow l) other open_as known =
      let at : l.target.place ≡ place_in c.target u = ap (λ (t : layer.Target). t.place) open_as.1 in
      known_untouched l host d e (subst (λ (p : Place). e.file p ≡ d.file p) (sym at) (others (name.Volume u) (file_apart u v other))) known

  pub there_still : (f g : File) → d.file (place_in c.target v) ≡ Some f → e.file (place_in c.target v) ≡ Some g → (u : Id) → is_some (d.file (place_in c.target u)) ≡ is_some (e.file (place_in c.target u))
  there_still f g was now u = by (id_cases u v)
    where
      here : is_some (d.file (place_in c.target v)) ≡ is_some (e.file (place_in c.target v))
      here = ap is_some was ∙ sym (ap is_some now)

      by : (u ≡ v) ⊎ (u ≢ v) → is_some (d.file (place_in c.target u)) ≡ is_some (e.file (place_in c.target u))
      by (inl same) = subst (λ (w : Id). is_some (d.file (place_in c.target w)) ≡ is_some (e.file (place_in c.target w))) (sym same) here
      by (inr other) = ap is_some (sym (others (name.Volume u) (file_apart u v other)))

  -- the chain knows the image still, where what is known of this volume stays known
  pub chain_kept : (f g : File) → d.file (place_in c.target v) ≡ Some f → e.file (place_in c.target v) ≡ Some g
      → ((o : OpenVolume) → IsOpenAs c.target v (records_in c.records v) o → IsKnown c.target host d v o → IsKnown c.target host e v o)
      → KnowsChain c host d → KnowsChain c host e
  chain_kept f g was now here knows = record {
    shown = shown_alike (image_in c.target) (volumes_in (dir_in c.target) d) (volumes_in (dir_in c.target) e) c.records (λ u. others (name.Meta u) (text_apart u v)) (there_still f g was now) knows.shown;
    shape = knows.shape;
    all = knows.all;
    known = along_both (λ u o. IsOpenAs c.target u (records_in c.records u) o) (IsKnown c.target host d) (IsKnown c.target host e) (λ u o open_as known. one u o open_as known (id_cases u v))
        c.path c.volumes knows.shape.each knows.known;
  }
    where
      one : (u : Id) (o : OpenVolume) → IsOpenAs c.target u (records_in c.records u) o → IsKnown c.target host d u o → (u ≡ v) ⊎ (u ≢ v) → IsKnown c.target host e u o
      one u o open_as known (inl same) =
          subst (λ (w : Id). IsKnown c.target host e w o) (sym same)
          (here o (subst (λ (w : Id). IsOpenAs c.target w (records_in c.records w) o) same open_as) (subst (λ (w : Id). IsKnown c.target host d w o) same known))
      one u o open_as known (inr other) = elsewhere u (records_in c.records u) o other open_as known

-- once that volume's file is settled, all are
pub all_settled : (c : Chain) (v : Id) (e : Content) (g : File) → AreSettledBut (dir_in c.target) v e → e.file (place_in c.target v) ≡ Some g → IsSettled g → AreSettled (dir_in c.target) e
all_settled c v e g rest now settled (Text u) f there = rest (Text u) f (text_apart u v) there
all_settled c v e g rest now settled (Data u) f there = by (id_cases u v)
  where
    by : (u ≡ v) ⊎ (u ≢ v) → IsSettled f
    by (inl same) =
        let at : e.file (place_in c.target v) ≡ Some f = subst (λ (w : Id). e.file (place_in c.target w) ≡ Some f) same there in
        subst (λ (h : File). IsSettled h) (one_file g f (e.file (place_in c.target v)) now at) settled
    by (inr other) = rest (Data u) f (file_apart u v other) there
