-- Folders that are alike: what is known of one is known of the other.
use Rattle.std.proofs.Common.{◌≡◌, ℕ, Bool, true, false, nat_lt, if◌then◌else◌, List, Option, Some, None, refl, sym, ap, ◌∙◌, subst, inl, inr}
use Rattle.std.specs.Option.{is_some}
use Rattle.std.proofs.lemmas.Bool.{false≢true}
use Rattle.sd_names.specs.declared.id.Id.{Id}
use Rattle.sd_names.specs.declared.place.Dir.{Dir}
use Rattle.sd_names.specs.declared.place.Name.{Name}
use Rattle.shared_disk.specs.Calls.{synced}
use Rattle.shared_disk.specs.Changes.{grown, raised}
use Rattle.shared_disk.specs.Content.{Content, File, unless_by, without}
use Rattle.shared_disk.specs.Crash.{IsAlone, IsAlso, IsSettled}
use Rattle.shared_disk.specs.NameCalls.{ShowsName, place_in}
use Rattle.chain_model.specs.Growth.{MayGrow}
use Rattle.chain_model.specs.Records.{is_volume}
use Rattle.chain_gathering.specs.Knowing.{AreSettled, AreSettledTo, AreThere, AreVolumesTo, IsLastFile, IsNextFile, IsThere, KnowsFolder, KnowsListing, volumes_in}
use Rattle.chain_gathering.specs.Names.{name_of}
use Rattle.chain_gathering.specs.Steps.{IsKeptFile}
use Rattle.chain_gathering.specs.declared.found.Found.{Found}
use Rattle.chain_gathering.specs.declared.gathered.Gathered.{Gathered}
use Rattle.chain_gathering.specs.declared.names.VolumeName.{VolumeName}
use Rattle.chain_gathering.specs.declared.names.VolumeName.TheVariants.{Data, Text}
use Rattle.chain_gathering.specs.declared.stages.Seen.{Seen}

-- the second file is settled where the first is, and no other host has anything unsynced in it where none has in the first
pub record KeepsState (host : ℕ) (f g : File) : Type 0 where
  pub alone : IsAlone host f → IsAlone host g
  pub settled : IsSettled f → IsSettled g

-- the folder is there still, and so is each file of a volume, and no other
pub record IsAlike (dir : Dir) (host : ℕ) (d e : Content) : Type 0 where
  pub there : e.dir dir ≡ d.dir dir
  pub files : (o : VolumeName) → IsAlso (KeepsState host) (d.file (place_in dir (name_of o))) (e.file (place_in dir (name_of o)))

same_some : (f g : File) → Some f ≡ Some g → f ≡ g
same_some f g e = cc

pub also_back : (R : File → File → Type 0) (a b : Option File) (g : File) → IsAlso R a b → b ≡ Some g → (f : File) × (a ≡ Some f) × R f g
also_back R None None g w e = absurd cc
also_back R None (Some h) g w e = absurd w
also_back R (Some f) None g w e = absurd cc
also_back R (Some f) (Some h) g w e = (f, refl, subst (λ (x : File). R f x) (same_some h g e) w)

pub also_by : (R S : File → File → Type 0) (a b : Option File) → ((f g : File) → R f g → S f g) → IsAlso R a b → IsAlso S a b
also_by R S None None to w = tt
also_by R S None (Some g) to w = absurd w
also_by R S (Some f) None to w = absurd w
also_by R S (Some f) (Some g) to w = to f g w

pub also_some_same : (R : File → File → Type 0) (a b : Option File) → IsAlso R a b → is_some b ≡ is_some a
also_some_same R None None w = refl
also_some_same R None (Some g) w = absurd w
also_some_same R (Some f) None w = absurd w
also_some_same R (Some f) (Some g) w = refl

pub some_of : (o : Option File) → is_some o ≡ true → (f : File) × (o ≡ Some f)
some_of None e = absurd (false≢true e)
some_of (Some f) e = (f, refl)

pub some_is : (o : Option File) (f : File) → o ≡ Some f → is_some o ≡ true
some_is o f e = ap is_some e

-- ---- what keeps the state of a file

same_state : (host : ℕ) (f g : File) → g ≡ f → KeepsState host f g
same_state host f g e = record { alone = λ a. subst (IsAlone host) (sym e) a; settled = λ s. subst IsSettled (sym e) s }

pub synced_settled : (host : ℕ) (f : File) → IsAlone host f → IsSettled (synced host f)
synced_settled host f a = record { loose = a.loose; fresh = a.fresh }

synced_state : (host : ℕ) (f : File) → KeepsState host f (synced host f)
synced_state host f = record {
  alone = λ a. record { loose = ap (without host) a.loose; fresh = ap (unless_by host) a.fresh };
  settled = λ s. record { loose = ap (without host) s.loose; fresh = ap (unless_by host) s.fresh };
}

pub kept_state : (host : ℕ) (f g : File) → IsKeptFile host f g → KeepsState host f g
kept_state host f g (inl same) = same_state host f g same
kept_state host f g (inr put) = subst (λ (h : File). KeepsState host f h) (sym put) (synced_state host f)

grown_state : (host size : ℕ) (f : File) → KeepsState host f (grown size f)
grown_state host size f = go (nat_lt f.size size)
  where
    go : (t : Bool) → KeepsState host f (if t then raised size f else f)
    go true = record { alone = λ a. record { loose = a.loose; fresh = a.fresh }; settled = λ s. record { loose = s.loose; fresh = s.fresh } }
    go false = record { alone = λ a. a; settled = λ s. s }

pub may_grow_state : (host : ℕ) (f g : File) → MayGrow f g → KeepsState host f g
may_grow_state host f g (inl same) = same_state host f g same
may_grow_state host f g (inr grows) = subst (λ (h : File). KeepsState host f h) (sym grows.3) (grown_state host grows.0 f)

-- ---- what is known of a folder that is alike

is_back : (dir : Dir) (host : ℕ) (d e : Content) (o : VolumeName) (g : File) → IsAlike dir host d e → IsThere dir o e g → (f : File) × IsThere dir o d f × KeepsState host f g
is_back dir host d e o g alike there = also_back (KeepsState host) (d.file (place_in dir (name_of o))) (e.file (place_in dir (name_of o))) g (alike.files o) there

is_on : (dir : Dir) (host : ℕ) (d e : Content) (o : VolumeName) → IsAlike dir host d e → is_some (e.file (place_in dir (name_of o))) ≡ is_some (d.file (place_in dir (name_of o)))
is_on dir host d e o alike = also_some_same (KeepsState host) (d.file (place_in dir (name_of o))) (e.file (place_in dir (name_of o))) (alike.files o)

pub same_volume : (dir : Dir) (host : ℕ) (d e : Content) (v : Id) → IsAlike dir host d e → is_volume (volumes_in dir e) v ≡ is_volume (volumes_in dir d) v
same_volume dir host d e v alike = is_on dir host d e (Text v) alike

pub same_file_there : (dir : Dir) (host : ℕ) (d e : Content) (v : Id) → IsAlike dir host d e → is_some ((volumes_in dir e).file v) ≡ is_some ((volumes_in dir d).file v)
same_file_there dir host d e v alike = is_on dir host d e (Data v) alike

shown_back : (dir : Dir) (host : ℕ) (d e : Content) (o : VolumeName) → IsAlike dir host d e → ShowsName e dir (name_of o) → ShowsName d dir (name_of o)
shown_back dir host d e o alike shows = let b = is_back dir host d e o shows.0 alike shows.1 in (b.0, b.1)

shown_on : (dir : Dir) (host : ℕ) (d e : Content) (o : VolumeName) → IsAlike dir host d e → ShowsName d dir (name_of o) → ShowsName e dir (name_of o)
shown_on dir host d e o alike shows = some_of (e.file (place_in dir (name_of o))) (is_on dir host d e o alike ∙ some_is (d.file (place_in dir (name_of o))) shows.0 shows.1)

pub folder_alike : (dir : Dir) (host : ℕ) (d e : Content) → IsAlike dir host d e → KnowsFolder dir host d → KnowsFolder dir host e
folder_alike dir host d e alike k = record {
  there = alike.there ∙ k.there;
  alone = λ o g there. let b = is_back dir host d e o g alike there in b.2.alone (k.alone o b.0 b.1);
  ids = λ o g there. let b = is_back dir host d e o g alike there in k.ids o b.0 b.1;
  few = λ vs rising each. k.few vs rising (λ v h. sym (same_volume dir host d e v alike) ∙ each v h);
}

pub settled_alike : (dir : Dir) (host : ℕ) (d e : Content) → IsAlike dir host d e → AreSettled dir d → AreSettled dir e
settled_alike dir host d e alike s o g there = let b = is_back dir host d e o g alike there in b.2.settled (s o b.0 b.1)

settled_to_alike : (dir : Dir) (host : ℕ) (d e : Content) (after : Option Name) → IsAlike dir host d e → AreSettledTo dir after d → AreSettledTo dir after e
settled_to_alike dir host d e after alike s o g there passed = let b = is_back dir host d e o g alike there in b.2.settled (s o b.0 b.1 passed)

pub there_alike : (dir : Dir) (host : ℕ) (d e : Content) (ws : List Found) → IsAlike dir host d e → AreThere (volumes_in dir d) ws → AreThere (volumes_in dir e) ws
there_alike dir host d e ws alike are w h = are w h ∙ sym (same_file_there dir host d e w.id alike)

volumes_to_alike : (dir : Dir) (host : ℕ) (d e : Content) (after : Option Name) (vs : List Id) → IsAlike dir host d e → AreVolumesTo (volumes_in dir d) after vs → AreVolumesTo (volumes_in dir e) after vs
volumes_to_alike dir host d e after vs alike are = record {
  rising = are.rising;
  each = λ v h. same_volume dir host d e v alike ∙ are.each v h;
  passed = are.passed;
  all = λ v is passed. are.all v (sym (same_volume dir host d e v alike) ∙ is) passed;
}

last_alike : (dir : Dir) (host : ℕ) (d e : Content) (after : Option Name) (last : Option Id) → IsAlike dir host d e → IsLastFile (volumes_in dir d) after last → IsLastFile (volumes_in dir e) after last
last_alike dir host d e after None alike none = λ w is passed. none w (sym (same_file_there dir host d e w alike) ∙ is) passed
last_alike dir host d e after (Some v) alike some =
    (same_file_there dir host d e v alike ∙ some.0, some.1, λ w is passed. some.2 w (sym (same_file_there dir host d e w alike) ∙ is) passed)

pub listing_alike : (dir : Dir) (host : ℕ) (seen : Seen) (kept : Gathered) (d e : Content) → IsAlike dir host d e → KnowsListing dir host seen kept d → KnowsListing dir host seen kept e
listing_alike dir host seen kept d e alike k = record {
  folder = folder_alike dir host d e alike k.folder;
  settled = settled_to_alike dir host d e seen.after alike k.settled;
  volumes = k.volumes;
  are = volumes_to_alike dir host d e seen.after k.volumes alike k.are;
  count = k.count;
  found = k.found;
  files = there_alike dir host d e kept.found alike k.files;
  last = last_alike dir host d e seen.after seen.file alike k.last;
  unread = k.unread;
}

pub next_alike : (dir : Dir) (host : ℕ) (after : Option Name) (o : VolumeName) (d e : Content) → IsAlike dir host d e → IsNextFile dir after o d → IsNextFile dir after o e
next_alike dir host after o d e alike next = record {
  shows = shown_on dir host d e o alike next.shows;
  above = next.above;
  least = λ p shows above. next.least p (shown_back dir host d e p alike shows) above;
}
