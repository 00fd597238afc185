-- What is known along a path, and the files of its volumes.
use Rattle.std.proofs.Common.{◌≡◌, ℕ, List, Option, Some, None, refl, sym, ap, ◌∙◌}
use Rattle.std.specs.Prelude.{is_some}
use Rattle.sd_names.specs.declared.id.Id.{Id}
use Rattle.shared_disk.specs.Content.{Content, File}
use Rattle.shared_disk.specs.Crash.{IsAlso}
use Rattle.chain_model.specs.Folder.{Volumes}
use Rattle.chain_model.specs.Growth.{AreLonger, IsLonger}
use Rattle.chain_model.specs.Records.{Image, Records, is_volume, records_of}
use Rattle.chain_records.specs.Shown.{IsShown}
use Rattle.chain_records.specs.declared.volume.Volume.{Volume}
use Rattle.chain_records.proofs.Lists.{record_among}
use Rattle.chain_records.proofs.Opening.{all_there}
use Rattle.volume_chain.specs.Chain.{next_of}
use Rattle.volume_chain.specs.Knowing.{KnowsPath}
use Rattle.volume_chain.specs.declared.chain.Chain.{Chain}
use Rattle.volume_chain.proofs.Along.{next_among}
use Rattle.volume_chain.proofs.Shapes.{path_record}

-- ---- files are there

-- the file of the path's next volume
pub next_file : (c : Chain) (host : ℕ) (x : Volumes) (rest : List Id) (d : Content) (v : Id) → KnowsPath c host x rest d → next_of c ≡ Some v → (f : File) × (x.file v ≡ Some f)
next_file c host x rest d v knows next =
    let has = path_record c.records c.path v knows.shape.checked knows.shape.reading (next_among c.path _ v next) in
    all_there x c.records knows.shown.read.files knows.shown.there v (record_among c.records v has.0 has.1)

-- ---- other files with the same texts show the same

-- the same texts, with other files
abbrev with_texts : (Id → Option File) → Volumes → Volumes
with_texts text y = record { text = text; file = y.file }

abbrev AreSameTexts : Volumes → Volumes → Type 0
AreSameTexts x y = (v : Id) → y.text v ≡ x.text v

texts_same : (x y : Volumes) → AreSameTexts x y → y.text ≡ x.text
texts_same x y same = λ j v. same v j

records_alike : (i : Image) (x y : Volumes) → AreSameTexts x y → records_of i y ≡ records_of i x
records_alike i x y same = ap (λ (t : Id → Option File). records_of i (with_texts t y)) (texts_same x y same)

volume_same : (x y : Volumes) (v : Id) → AreSameTexts x y → is_volume y v ≡ is_volume x v
volume_same x y v same = ap (λ (t : Id → Option File). is_volume (with_texts t y) v) (texts_same x y same)

pub shown_alike : (i : Image) (x y : Volumes) (xs : List Volume) → AreSameTexts x y → ((v : Id) → is_some (x.file v) ≡ is_some (y.file v)) → IsShown i x xs → IsShown i y xs
shown_alike i x y xs same there shown = record {
  read = record {
    few = shown.read.few;
    are = record {
      rising = shown.read.are.rising;
      each = λ v h. volume_same x y v same ∙ shown.read.are.each v h;
      all = λ v is. shown.read.are.all v (sym (volume_same x y v same) ∙ is);
    };
    records = λ v. ap (λ (r : Records). r v) (records_alike i x y same) ∙ shown.read.records v;
    files = λ z h. shown.read.files z h ∙ there z.id;
  };
  there = shown.there;
}

-- ---- longer files show the same

pub records_same : (i : Image) (x y : Volumes) → AreLonger x y → records_of i y ≡ records_of i x
records_same i x y longer = records_alike i x y longer.text

flag_same : (a b : Option File) → IsAlso IsLonger a b → is_some a ≡ is_some b
flag_same None None l = refl
flag_same None (Some g) l = absurd l
flag_same (Some f) None l = absurd l
flag_same (Some f) (Some g) l = refl

pub still_shown : (i : Image) (x y : Volumes) (xs : List Volume) → AreLonger x y → IsShown i x xs → IsShown i y xs
still_shown i x y xs longer shown = shown_alike i x y xs longer.text (λ v. flag_same (x.file v) (y.file v) (longer.file v)) shown
