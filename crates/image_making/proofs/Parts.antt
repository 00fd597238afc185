-- So much of an image, through the changes of a making, and the whole on each outcome.
use Rattle.std.proofs.Common.{◌≡◌, ◌≢◌, ℕ, Bool, true, false, Option, Some, None, refl, sym, ap, ◌∙◌, inl, inr, eq-eqb}
use Rattle.std.proofs.lemmas.Bool.{false≢true}
use Rattle.sd_names.specs.declared.kinds.Format.{Format}
use Rattle.sd_names.specs.declared.kinds.Format.TheVariants.{Raw, Cow}
use Rattle.sd_names.specs.declared.place.Dir.{Dir}
use Rattle.sd_names.specs.declared.place.Name.{Name}
use Rattle.sd_names.specs.declared.place.Name.TheVariants as name
use Rattle.sd_names.specs.declared.place.Place.{Place}
use Rattle.shared_disk.specs.Calls.{IsDirMade, IsDirPut, IsPut, created, synced}
use Rattle.shared_disk.specs.Content.{Content, File, unless_by}
use Rattle.shared_disk.specs.Crash.{IsFileOutcome, IsOutcome, IsSettled}
use Rattle.shared_disk.specs.NameCalls.{place_in}
use Rattle.shared_disk.specs.Places.{dir_is}
use Rattle.shared_disk.specs.WellFormed.{IsWellFormed}
use Rattle.shared_disk.proofs.AtPlace.{also_none, settled_stays}
use Rattle.shared_disk.proofs.Places.{dir_is-itself, dir_is-same}
use Rattle.whole_file.proofs.Texts.{text_stays}
use Rattle.image_making.specs.NewImage.{HasNewFile, IsImage, IsNewFile, IsNoneOrWhole, IsNoneOrWholeOnEach, IsZeros, folder_of, text_in, text_place, volatile_place, volume_place}
use Rattle.image_making.specs.Steps.{IsAlone, IsApart}
use Rattle.image_making.specs.declared.making.NewImage.{NewImage}

-- ---- names and places told apart

abbrev is_volume : Name → Bool
is_volume (name.Volume v) = true
is_volume _ = false

abbrev is_text : Name → Bool
is_text (name.Meta v) = true
is_text _ = false

pub text_not_file : (x : NewImage) → name.Meta x.volume ≢ name.Volume x.volume
text_not_file x same = false≢true (ap is_volume same)

pub volatile_not_file : (x : NewImage) → name.MetaVolatile x.volume ≢ name.Volume x.volume
volatile_not_file x same = false≢true (ap is_volume same)

pub volatile_not_text : (x : NewImage) → name.MetaVolatile x.volume ≢ name.Meta x.volume
volatile_not_text x same = false≢true (ap is_text same)

-- two names of one folder stand at two places
pub places_apart : (q : Dir) (n m : Name) → n ≢ m → place_in q n ≢ place_in q m
places_apart q n m apart same = apart (ap (λ (p : Place). p.name) same)

-- ---- the folder

-- no file stands in a folder that wasn't there
pub none_in_new : (q : Dir) (n : Name) (d : Content) → IsWellFormed d → d.dir q ≡ false → d.file (place_in q n) ≡ None
none_in_new q n d well gone = go (d.file (place_in q n)) refl
  where
    go : (o : Option File) → d.file (place_in q n) ≡ o → d.file (place_in q n) ≡ None
    go None is = is
    go (Some f) is = absurd (false≢true (sym gone ∙ well.folders (place_in q n) f is))

pub dir_kept : (d e : Content) (p q : Dir) → IsDirPut d p true e → d.dir q ≡ true → e.dir q ≡ true
dir_kept d e p q put there = go (dir_is q p) refl
  where
    go : (t : Bool) → dir_is q p ≡ t → e.dir q ≡ true
    go true is = ap (λ (x : Dir). e.dir x) (dir_is-same q p is) ∙ put.here
    go false is = put.others q (λ same. false≢true (sym is ∙ ap (λ (x : Dir). dir_is x p) same ∙ dir_is-itself p)) ∙ there

-- a new folder has no file
pub alone_made : (x : NewImage) (d e : Content) → IsWellFormed d → IsDirMade d (folder_of x) e → IsAlone x e × (e.file (volume_place x) ≡ None)
alone_made x d e well made = (
  record { folder = made.put.here; others = λ n _. made.put.files (place_in (folder_of x) n) ∙ none_in_new (folder_of x) n d well made.free },
  made.put.files (volume_place x) ∙ none_in_new (folder_of x) (name.Volume x.volume) d well made.free,
)

-- ---- the volume's file

pub alone_put : (x : NewImage) (new : Option File) (d e : Content) → IsAlone x d → IsPut d (volume_place x) new e → IsAlone x e
alone_put x new d e alone put = record {
  folder = put.dirs (folder_of x) ∙ alone.folder;
  others = λ n apart. put.others (place_in (folder_of x) n) (places_apart (folder_of x) n (name.Volume x.volume) apart) ∙ alone.others n apart;
}

-- a file that its host made is zeros on the medium, once it is synced
pub synced_zeros : (host size : ℕ) (f : File) → f ≡ created host size → IsZeros size (synced host f)
synced_zeros host size f is = record {
  size_is = ap (λ (g : File). g.size) is;
  sectors = λ k. ap (λ (g : File). (synced host g).stable k) is;
  settled = record { loose = ap (λ (g : File). (synced host g).loose) is; fresh = ap (λ (g : File). (synced host g).fresh) is ∙ own host };
}
  where
    own : (host : ℕ) → unless_by host (Some host) ≡ None
    own host = rw (eq-eqb host host refl) refl

pub new_settled : (format : Format) (capacity : ℕ) (f : File) → IsNewFile format capacity f → IsSettled f
new_settled Raw capacity f is = is.settled
new_settled Cow capacity f is = is.settled

-- ---- what has changed

pub apart_same : (x : NewImage) (d e : Content) → e ≡ d → IsApart x d e
apart_same x d e same = record {
  dirs = λ q _. ap (λ (c : Content). c.dir q) same;
  kept = λ q there. ap (λ (c : Content). c.dir q) same ∙ there;
  files = λ q _ _ _. ap (λ (c : Content). c.file q) same;
}

pub apart_folder : (x : NewImage) (d e : Content) → IsDirPut d (folder_of x) true e → IsApart x d e
apart_folder x d e put = record {
  dirs = λ q apart. put.others q apart;
  kept = λ q there. dir_kept d e (folder_of x) q put there;
  files = λ q _ _ _. put.files q;
}

pub apart_file : (x : NewImage) (d e : Content) → ((q : Dir) → e.dir q ≡ d.dir q) → ((q : Place) → q ≢ volume_place x → e.file q ≡ d.file q) → IsApart x d e
apart_file x d e dirs files = record {
  dirs = λ q _. dirs q;
  kept = λ q there. dirs q ∙ there;
  files = λ q apart _ _. files q apart;
}

pub apart_text : (x : NewImage) (d e : Content) → ((q : Dir) → e.dir q ≡ d.dir q) → ((q : Place) → q ≢ text_place x → q ≢ volatile_place x → e.file q ≡ d.file q) → IsApart x d e
apart_text x d e dirs files = record {
  dirs = λ q _. dirs q;
  kept = λ q there. dirs q ∙ there;
  files = λ q _ text volatile. files q text volatile;
}

-- ---- on each outcome

file_stays : (x : NewImage) (d o : Content) → HasNewFile x d → IsOutcome d o → HasNewFile x o
file_stays x d o has out = (has.0, settled_stays d o (volume_place x) has.0 has.1 (new_settled x.says.format x.says.capacity has.0 has.2) out, has.2)

none_stays : (q : Place) (d o : Content) → d.file q ≡ None → IsOutcome d o → o.file q ≡ None
none_stays q d o none out = also_none IsFileOutcome (d.file q) (o.file q) (out.files q) none

pub image_stays : (x : NewImage) (d o : Content) → IsImage x d → IsOutcome d o → IsImage x o
image_stays x d o is out = record {
  folder = out.dirs (folder_of x) ∙ is.folder;
  file = file_stays x d o is.file out;
  text = text_stays d o (text_place x) (text_in x) is.text out;
  only = λ n file text. none_stays (place_in (folder_of x) n) d o (is.only n file text) out;
}

stays : (x : NewImage) (d o : Content) → IsNoneOrWhole x d → IsOutcome d o → IsNoneOrWhole x o
stays x d o (inl none) out = inl (none_stays (text_place x) d o none out)
stays x d o (inr whole) out = inr (image_stays x d o whole out)

pub on_each : (x : NewImage) (d : Content) → IsNoneOrWhole x d → IsNoneOrWholeOnEach x d
on_each x d is = record { now = is; outcomes = λ o out. stays x d o is out }
