-- An image whose volumes have records and files, as a list of volumes.
use Rattle.std.proofs.Common.{◌≡◌, ◌⊎◌, ℕ, ◌≤◌, Bool, true, false, List, [], ◌∷◌, length, map, Option, Some, None, unwrap_or, refl, sym, ap, ◌∙◌, subst, inl, inr}
use Rattle.std.specs.Prelude.{if◌then◌else◌}
use Rattle.std.specs.List.{Contains}
use Rattle.std.specs.Option.{is_some}
use Rattle.std.proofs.lemmas.Bool.{false≢true}
use Rattle.std.proofs.lemmas.Option.{none-some}
use Rattle.sd_names.specs.declared.id.Id.{Id}
use Rattle.shared_disk.specs.Content.{File}
use Rattle.shared_disk.specs.Places.{id_is}
use Rattle.shared_disk.proofs.Outcomes.{cons_cases, contains_here, contains_more, nothing_in}
use Rattle.volume_meta.specs.declared.record.VolumeRecord.{VolumeRecord}
use Rattle.chain_model.specs.Folder.{Volumes}
use Rattle.chain_model.specs.Opening.{AreVolumes}
use Rattle.chain_model.specs.Records.{Image, Records, is_volume, records_of}
use Rattle.chain_model.proofs.Opened.{text_there}
use Rattle.chain_records.specs.Records.{first_missing, ids_of, records_in}
use Rattle.chain_records.specs.Shown.{IsShown}
use Rattle.chain_records.specs.declared.volume.Volume.{Volume}
use Rattle.chain_records.proofs.Lists.{length_ids, record_among}
use Rattle.shared_disk.proofs.Places.{id_is-itself, id_is-same}

-- a volume with its record, or with some other one where it has none
abbrev pub volume_by : Records → VolumeRecord → Id → Volume
volume_by r other v = record { id = v; meta = unwrap_or (r v) other; has_file = true }

abbrev pub list_by : Records → VolumeRecord → List Id → List Volume
list_by r other vs = map (volume_by r other) vs

pub ids_listed : (r : Records) (other : VolumeRecord) (vs : List Id) → ids_of (list_by r other vs) ≡ vs
ids_listed r other [] = refl
ids_listed r other (v ∷ vs) = ap (λ (us : List Id). v ∷ us) (ids_listed r other vs)

all_listed : (r : Records) (other : VolumeRecord) (vs : List Id) → first_missing (list_by r other vs) ≡ None
all_listed r other [] = refl
all_listed r other (v ∷ vs) = all_listed r other vs

has_file_listed : (r : Records) (other : VolumeRecord) (vs : List Id) (y : Volume) → Contains (list_by r other vs) y → (y.has_file ≡ true) × Contains vs y.id
has_file_listed r other [] y h = absurd (nothing_in y h)
has_file_listed r other (v ∷ vs) y h = go (cons_cases (volume_by r other v) y (list_by r other vs) h) (λ more. has_file_listed r other vs y more)
  where
    go : (volume_by r other v ≡ y) ⊎ Contains (list_by r other vs) y → (Contains (list_by r other vs) y → (y.has_file ≡ true) × Contains vs y.id) → (y.has_file ≡ true) × Contains (v ∷ vs) y.id
    go (inl same) rest = (ap (λ (z : Volume). z.has_file) (sym same), subst (λ (u : Id). Contains (v ∷ vs) u) (ap (λ (z : Volume). z.id) same) (contains_here v vs))
    go (inr more) rest = let later = rest more in (later.0, contains_more v y.id vs later.1)

-- the record of a volume of the list
listed_record : (r : Records) (other : VolumeRecord) (vs : List Id) (v : Id) (z : VolumeRecord) → Contains vs v → r v ≡ Some z → records_in (list_by r other vs) v ≡ Some z
listed_record r other [] v z h is = absurd (nothing_in v h)
listed_record r other (u ∷ us) v z h is = go (id_is u v) refl (λ more. listed_record r other us v z more is)
  where
    go : (t : Bool) → id_is u v ≡ t → (Contains us v → records_in (list_by r other us) v ≡ Some z) → (if t then Some (unwrap_or (r u) other) else records_in (list_by r other us) v) ≡ Some z
    go true t rest = ap (λ (w : Id). Some (unwrap_or (r w) other)) (id_is-same u v t) ∙ ap (λ (o : Option VolumeRecord). Some (unwrap_or o other)) is
    go false t rest = later (cons_cases u v us h)
      where
        later : (u ≡ v) ⊎ Contains us v → records_in (list_by r other us) v ≡ Some z
        later (inl same) = absurd (false≢true (sym t ∙ ap (λ (w : Id). id_is w v) same ∙ id_is-itself v))
        later (inr more) = rest more

-- an image of at most 32 volumes, each with a record and a file, is shown by their list
module _ (i : Image) (x : Volumes) (other : VolumeRecord) (vs : List Id) (are : AreVolumes x vs) (few : length vs ≤ 32) (texts : (v : Id) → is_volume x v ≡ true → (y : VolumeRecord) × (records_of i x v ≡ Some y))
    (files : (v : Id) → is_volume x v ≡ true → (f : File) × (x.file v ≡ Some f)) where
  abbrev pub listed : List Volume
  listed = list_by (records_of i x) other vs

  record_listed : (v : Id) → records_of i x v ≡ records_in listed v
  record_listed v = go (records_of i x v) refl (records_in listed v) refl
    where
      go : (a : Option VolumeRecord) → records_of i x v ≡ a → (b : Option VolumeRecord) → records_in listed v ≡ b → records_of i x v ≡ records_in listed v
      go (Some z) e b f = e ∙ sym (listed_record (records_of i x) other vs v z (are.all v (text_there _ (x.text v) z e)) e)
      go None e None f = e ∙ sym f
      go None e (Some z) f =
          let among = subst (λ (us : List Id). Contains us v) (ids_listed (records_of i x) other vs) (record_among listed v z f) in
          let has = texts v (are.each v among) in
          absurd (none-some has.0 (sym e ∙ has.1))

  pub records_listed : records_of i x ≡ records_in listed
  records_listed = λ j v. record_listed v j

  pub shown : IsShown i x listed
  shown = record {
    read = record {
      few = subst (λ (n : ℕ). n ≤ 32) (ap (λ (us : List Id). length us) (sym (ids_listed (records_of i x) other vs)) ∙ length_ids listed) few;
      are = subst (λ (us : List Id). AreVolumes x us) (sym (ids_listed (records_of i x) other vs)) are;
      records = record_listed;
      files = λ y h. let at = has_file_listed (records_of i x) other vs y h in let file = files y.id (are.each y.id at.1) in at.0 ∙ sym (ap (λ (o : Option File). is_some o) file.1);
    };
    there = all_listed (records_of i x) other vs;
  }
