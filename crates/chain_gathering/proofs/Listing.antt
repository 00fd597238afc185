-- How a listing's knowledge grows from name to name.
use Rattle.std.proofs.Common.{◌≡◌, ◌≢◌, ◌⊎◌, ℕ, ◌+◌, ◌-◌, ◌^◌, ◌<◌, min, Bool, true, false, List, [], ◌∷◌, ◌++◌, length, Option, Some, None, refl, sym, ap, ◌∙◌, subst, inl, inr, arith, length-append}
use Rattle.std.specs.List.{Contains}
use Rattle.std.specs.Option.{is_some}
use Rattle.std.specs.declared.cmp.Ordering.TheVariants.{Less, Greater}
use Rattle.std.proofs.lemmas.Bool.{false≢true}
use Rattle.sd_names.specs.Place.{NameHasIds}
use Rattle.sd_names.specs.declared.id.Id.{Id}
use Rattle.sd_names.specs.declared.place.Dir.{Dir}
use Rattle.sd_names.specs.declared.place.Name.{Name}
use Rattle.sd_names.specs.declared.place.Name.TheVariants as name
use Rattle.shared_disk.specs.Content.{Content, File}
use Rattle.shared_disk.specs.Crash.{IsSettled}
use Rattle.shared_disk.specs.NameCalls.{IsNameAbove, IsNextName, place_in}
use Rattle.shared_disk.specs.Places.{id_is}
use Rattle.shared_disk.proofs.AtPlace.{one_file}
use Rattle.shared_disk.proofs.Outcomes.{nothing_in}
use Rattle.shared_disk.proofs.Places.{id_is-itself, id_is-same}
use Rattle.chain_model.specs.Folder.{Volumes}
use Rattle.chain_model.specs.Opening.{AreVolumes, id_cmp}
use Rattle.chain_model.specs.Records.{is_volume}
use Rattle.chain_gathering.specs.Kept.{ids_found, is_last, noted}
use Rattle.chain_gathering.specs.Knowing.{AreSettled, AreSettledTo, AreThere, AreVolumesTo, IsLastFile, IsNextFile, IsThere, KnowsFolder, KnowsListing, volumes_in}
use Rattle.chain_gathering.specs.Names.{IsPassed, name_of, volume_name}
use Rattle.chain_gathering.specs.declared.found.Found.{Found}
use Rattle.chain_gathering.specs.declared.gathered.Gathered.{Gathered}
use Rattle.chain_gathering.specs.declared.names.VolumeName.{VolumeName}
use Rattle.chain_gathering.specs.declared.names.VolumeName.TheVariants.{Data, Text}
use Rattle.chain_gathering.specs.declared.stages.Seen.{Seen}
use Rattle.chain_gathering.proofs.Alike.{some_is, some_of}
use Rattle.chain_gathering.proofs.Lists.{noted_cases, noted_is, rising_none, rising_snoc, snoc_cases, snoc_new, snoc_old}
use Rattle.chain_gathering.proofs.Orders.{file_before_text, files_rise, greater_back, id_between, id_itself, own_file_first, passed_below, passed_itself, passed_next, passed_on, texts_are_rising}

-- ---- the names of volumes

pub named_back : (o : VolumeName) → volume_name (name_of o) ≡ Some o
named_back (Data v) = refl
named_back (Text v) = refl

-- a listing comes to a name: what of the volumes' names is passed then was passed before, or is that name
pub record ComesTo (dir : Dir) (before : Option Name) (n : Name) (d : Content) : Type 0 where
  pub above : IsNameAbove before n
  pub next : (o : VolumeName) (f : File) → IsThere dir o d f → IsPassed (Some n) (name_of o) → IsPassed before (name_of o) ⊎ (name_of o ≡ n)

pub comes_to_file : (dir : Dir) (host : ℕ) (before : Option Name) (o : VolumeName) (d : Content) → KnowsFolder dir host d → IsNextFile dir before o d → ComesTo dir before (name_of o) d
comes_to_file dir host before o d k next = record {
  above = next.above;
  next = λ p f there passed. passed_next before (name_of p) (name_of o) (k.ids p f there) (k.ids o next.shows.0 next.shows.1) (λ above. next.least p (f, there) above) passed;
}

pub comes_to_other : (dir : Dir) (host : ℕ) (before : Option Name) (n : Name) (d : Content) → KnowsFolder dir host d → NameHasIds n → IsNextName d dir before (Some n) → ComesTo dir before n d
comes_to_other dir host before n d k ids next = record {
  above = next.1;
  next = λ p f there passed. passed_next before (name_of p) n (k.ids p f there) ids (λ above. next.2 (name_of p) (f, there) above) passed;
}

pub is_next : (dir : Dir) (before : Option Name) (o : VolumeName) (d : Content) → IsNextName d dir before (Some (name_of o)) → IsNextFile dir before o d
is_next dir before o d next = record { shows = next.0; above = next.1; least = λ p shows above. next.2 (name_of p) shows above }

-- ---- a file that isn't a text

-- the name isn't that of a text, so the volumes stay the same
same_volumes : (dir : Dir) (host : ℕ) (before : Option Name) (n : Name) (vs : List Id) (d : Content) → ((v : Id) → name.Meta v ≡ n → ⊥) → ComesTo dir before n d
    → AreVolumesTo (volumes_in dir d) before vs → AreVolumesTo (volumes_in dir d) (Some n) vs
same_volumes dir host before n vs d other comes are = record {
  rising = are.rising;
  each = are.each;
  passed = λ v h. passed_on before (name.Meta v) n comes.above (are.passed v h);
  all = λ v is passed. all v is (some_of (d.file (place_in dir (name.Meta v))) is) passed;
}
  where
    all : (v : Id) → is_volume (volumes_in dir d) v ≡ true → (f : File) × (d.file (place_in dir (name.Meta v)) ≡ Some f) → IsPassed (Some n) (name.Meta v) → Contains vs v
    all v is there passed = go (comes.next (Text v) there.0 there.1 passed)
      where
        go : IsPassed before (name.Meta v) ⊎ (name.Meta v ≡ n) → Contains vs v
        go (inl was) = are.all v is was
        go (inr e) = absurd (other v e)

-- the name isn't that of a volume's own file, so the last one stays the same
same_last : (dir : Dir) (before : Option Name) (n : Name) (last : Option Id) (d : Content) → ((v : Id) → name.Volume v ≡ n → ⊥) → ComesTo dir before n d
    → IsLastFile (volumes_in dir d) before last → IsLastFile (volumes_in dir d) (Some n) last
same_last dir before n None d other comes none = λ w is passed. go w is (some_of (d.file (place_in dir (name.Volume w))) is) passed
  where
    fits : (w : Id) → is_some ((volumes_in dir d).file w) ≡ true → IsPassed before (name.Volume w) ⊎ (name.Volume w ≡ n) → ⊥
    fits w is (inl was) = none w is was
    fits w is (inr e) = other w e

    go : (w : Id) → is_some ((volumes_in dir d).file w) ≡ true → (f : File) × (d.file (place_in dir (name.Volume w)) ≡ Some f) → IsPassed (Some n) (name.Volume w) → ⊥
    go w is f passed = fits w is (comes.next (Data w) f.0 f.1 passed)
same_last dir before n (Some v) d other comes some =
    (some.0, passed_on before (name.Volume v) n comes.above some.1, λ w is passed. go w is (some_of (d.file (place_in dir (name.Volume w))) is) passed)
  where
    fits : (w : Id) → is_some ((volumes_in dir d).file w) ≡ true → IsPassed before (name.Volume w) ⊎ (name.Volume w ≡ n) → id_cmp w v ≢ Greater
    fits w is (inl was) = some.2 w is was
    fits w is (inr e) = absurd (other w e)

    go : (w : Id) → is_some ((volumes_in dir d).file w) ≡ true → (f : File) × (d.file (place_in dir (name.Volume w)) ≡ Some f) → IsPassed (Some n) (name.Volume w) → id_cmp w v ≢ Greater
    go w is f passed = fits w is (comes.next (Data w) f.0 f.1 passed)

-- what was passed is settled, and so is this one, if it is a volume's
settled_next : (dir : Dir) (before : Option Name) (n : Name) (d : Content) → ComesTo dir before n d → AreSettledTo dir before d
    → ((o : VolumeName) (f : File) → name_of o ≡ n → IsThere dir o d f → IsSettled f) → AreSettledTo dir (Some n) d
settled_next dir before n d comes settled here o f there passed = go (comes.next o f there passed)
  where
    go : IsPassed before (name_of o) ⊎ (name_of o ≡ n) → IsSettled f
    go (inl was) = settled o f there was
    go (inr e) = here o f e there

-- a name of another file is passed
not_named : (n : Name) (o : VolumeName) → volume_name n ≡ None → name_of o ≡ n → ⊥
not_named n o none e = let named : volume_name n ≡ Some o = ap volume_name (sym e) ∙ named_back o in cc

pub pass_other : (dir : Dir) (host : ℕ) (seen : Seen) (kept : Gathered) (n : Name) (d : Content) → volume_name n ≡ None → NameHasIds n → IsNextName d dir seen.after (Some n)
    → KnowsListing dir host seen kept d → KnowsListing dir host (record { after = Some n; file = seen.file; count = seen.count }) kept d
pass_other dir host seen kept n d none ids next k =
    let comes = comes_to_other dir host seen.after n d k.folder ids next in
    record {
      folder = k.folder;
      settled = settled_next dir seen.after n d comes k.settled (λ o f e there. absurd (not_named n o none e));
      volumes = k.volumes;
      are = same_volumes dir host seen.after n k.volumes d (λ v e. not_named n (Text v) none e) comes k.are;
      count = k.count;
      found = k.found;
      files = k.files;
      last = same_last dir seen.after n seen.file d (λ v e. not_named n (Data v) none e) comes k.last;
      unread = k.unread;
    }

-- ---- a volume's own file

volume_is : (v w : Id) → name.Volume v ≡ name.Volume w → v ≡ w
volume_is v w e = cc

text_is : (v w : Id) → name.Meta v ≡ name.Meta w → v ≡ w
text_is v w e = cc

name_is : (o p : VolumeName) → name_of o ≡ name_of p → o ≡ p
name_is (Data v) (Data w) e = ap (λ (u : Id). Data u) (volume_is v w e)
name_is (Data v) (Text w) e = absurd cc
name_is (Text v) (Data w) e = absurd cc
name_is (Text v) (Text w) e = ap (λ (u : Id). Text u) (text_is v w e)

settled_here : (dir : Dir) (o p : VolumeName) (f g : File) (d : Content) → IsThere dir p d g → IsSettled g → name_of o ≡ name_of p → IsThere dir o d f → IsSettled f
settled_here dir o p f g d there settled e is = subst IsSettled (one_file g f (d.file (place_in dir (name_of p))) there (ap (λ (n : Name). d.file (place_in dir n)) (sym e) ∙ is)) settled

next_last : (dir : Dir) (host : ℕ) (before : Option Name) (v : Id) (last : Option Id) (d : Content) → KnowsFolder dir host d → IsNextFile dir before (Data v) d → IsLastFile (volumes_in dir d) (Some (name.Volume v)) (Some v)
next_last dir host before v last d k next =
    (some_is (d.file (place_in dir (name.Volume v))) next.shows.0 next.shows.1, passed_itself (name.Volume v), λ w is passed. below w (some_of (d.file (place_in dir (name.Volume w))) is) passed)
  where
    below : (w : Id) → (f : File) × (d.file (place_in dir (name.Volume w)) ≡ Some f) → IsPassed (Some (name.Volume v)) (name.Volume w) → id_cmp w v ≢ Greater
    below w f passed = go ((comes_to_file dir host before (Data v) d k next).next (Data w) f.0 f.1 passed)
      where
        go : IsPassed before (name.Volume w) ⊎ (name.Volume w ≡ name.Volume v) → id_cmp w v ≢ Greater
        go (inl was) = files_rise w v (k.ids (Data w) f.0 f.1) (k.ids (Data v) next.shows.0 next.shows.1) (passed_below before (name.Volume w) (name.Volume v) was next.above)
        go (inr e) = subst (λ (u : Id). id_cmp w u ≢ Greater) (volume_is w v e) (id_itself w)

pub pass_file : (dir : Dir) (host : ℕ) (seen : Seen) (kept : Gathered) (v : Id) (g : File) (d : Content) → IsThere dir (Data v) d g → IsSettled g → IsNextFile dir seen.after (Data v) d
    → KnowsListing dir host seen kept d → KnowsListing dir host (record { after = Some (name.Volume v); file = Some v; count = seen.count }) kept d
pass_file dir host seen kept v g d there settled next k =
    let comes = comes_to_file dir host seen.after (Data v) d k.folder next in
    record {
      folder = k.folder;
      settled = settled_next dir seen.after (name.Volume v) d comes k.settled (λ o f e is. settled_here dir o (Data v) f g d there settled e is);
      volumes = k.volumes;
      are = same_volumes dir host seen.after (name.Volume v) k.volumes d (λ w e. cc) comes k.are;
      count = k.count;
      found = k.found;
      files = k.files;
      last = next_last dir host seen.after v seen.file d k.folder next;
      unread = k.unread;
    }

-- ---- a text

-- the volume of the text has its file exactly where that is the last one that was listed
own_file : (dir : Dir) (host : ℕ) (before : Option Name) (v : Id) (last : Option Id) (d : Content) → KnowsFolder dir host d → IsNextFile dir before (Text v) d
    → IsLastFile (volumes_in dir d) before last → is_last last v ≡ is_some ((volumes_in dir d).file v)
own_file dir host before v last d k next is = go last is (is_some ((volumes_in dir d).file v)) refl
  where
    -- its file is below its text, and so it was passed
    passed : (f : File) → d.file (place_in dir (name.Volume v)) ≡ Some f → IsPassed before (name.Volume v)
    passed f there above = next.least (Data v) (f, there) above (greater_back (name.Volume v) (name.Meta v) (own_file_first v))

    other : (u : Id) → IsLastFile (volumes_in dir d) before (Some u) → (f : File) → d.file (place_in dir (name.Volume v)) ≡ Some f → u ≡ v
    other u some f there =
        let g = some_of (d.file (place_in dir (name.Volume u))) some.0 in
        id_between u v
        (file_before_text u v (k.ids (Data u) g.0 g.1) (k.ids (Text v) next.shows.0 next.shows.1) (passed_below before (name.Volume u) (name.Meta v) some.1 next.above))
        (some.2 v (some_is (d.file (place_in dir (name.Volume v))) f there) (passed f there))

    same : (u : Id) (t : Bool) → IsLastFile (volumes_in dir d) before (Some u) → id_is u v ≡ t → (b : Bool) → is_some ((volumes_in dir d).file v) ≡ b → id_is u v ≡ b
    same u t some e true is = let f = some_of (d.file (place_in dir (name.Volume v))) is in subst (λ (w : Id). id_is u w ≡ true) (other u some f.0 f.1) (id_is-itself u)
    same u true some e false is = absurd (false≢true (sym is ∙ subst (λ (w : Id). is_some ((volumes_in dir d).file w) ≡ true) (id_is-same u v e) some.0))
    same u false some e false is = e

    go : (l : Option Id) → IsLastFile (volumes_in dir d) before l → (b : Bool) → is_some ((volumes_in dir d).file v) ≡ b → is_last l v ≡ is_some ((volumes_in dir d).file v)
    go None none true is = let f = some_of (d.file (place_in dir (name.Volume v))) is in absurd (none v is (passed f.0 f.1))
    go None none false is = sym is
    go (Some u) some b is = same u (id_is u v) some refl b is ∙ sym is

next_volumes : (dir : Dir) (host : ℕ) (before : Option Name) (v : Id) (vs : List Id) (d : Content) → KnowsFolder dir host d → IsNextFile dir before (Text v) d
    → AreVolumesTo (volumes_in dir d) before vs → AreVolumesTo (volumes_in dir d) (Some (name.Meta v)) (vs ++ v ∷ [])
next_volumes dir host before v vs d k next are = record {
  rising = rising_snoc vs v are.rising (λ u h. below u h (some_of (d.file (place_in dir (name.Meta u))) (are.each u h)));
  each = λ u h. each u (snoc_cases u v vs h);
  passed = λ u h. passed u (snoc_cases u v vs h);
  all = λ u is was. all u is (some_of (d.file (place_in dir (name.Meta u))) is) was;
}
  where
    below : (u : Id) → Contains vs u → (f : File) × (d.file (place_in dir (name.Meta u)) ≡ Some f) → id_cmp u v ≡ Less
    below u h f =
        texts_are_rising u v (k.ids (Text u) f.0 f.1) (k.ids (Text v) next.shows.0 next.shows.1) (passed_below before (name.Meta u) (name.Meta v) (are.passed u h) next.above)

    each : (u : Id) → Contains vs u ⊎ (v ≡ u) → is_volume (volumes_in dir d) u ≡ true
    each u (inl h) = are.each u h
    each u (inr e) = subst (λ (w : Id). is_volume (volumes_in dir d) w ≡ true) e (some_is (d.file (place_in dir (name.Meta v))) next.shows.0 next.shows.1)

    passed : (u : Id) → Contains vs u ⊎ (v ≡ u) → IsPassed (Some (name.Meta v)) (name.Meta u)
    passed u (inl h) = passed_on before (name.Meta u) (name.Meta v) next.above (are.passed u h)
    passed u (inr e) = subst (λ (w : Id). IsPassed (Some (name.Meta v)) (name.Meta w)) e (passed_itself (name.Meta v))

    fits : (u : Id) → is_volume (volumes_in dir d) u ≡ true → IsPassed before (name.Meta u) ⊎ (name.Meta u ≡ name.Meta v) → Contains (vs ++ v ∷ []) u
    fits u is (inl was) = snoc_old u v vs (are.all u is was)
    fits u is (inr e) = subst (λ (w : Id). Contains (vs ++ v ∷ []) w) (sym (text_is u v e)) (snoc_new v vs)

    all : (u : Id) → is_volume (volumes_in dir d) u ≡ true → (f : File) × (d.file (place_in dir (name.Meta u)) ≡ Some f) → IsPassed (Some (name.Meta v)) (name.Meta u) → Contains (vs ++ v ∷ []) u
    all u is f was = fits u is ((comes_to_file dir host before (Text v) d k next).next (Text u) f.0 f.1 was)

next_there : (x : Volumes) (ws : List Found) (v : Id) (last : Option Id) → is_last last v ≡ is_some (x.file v) → AreThere x ws → AreThere x (noted ws v last)
next_there x ws v last own are w h = go (noted_cases ws v last w h)
  where
    go : Contains ws w ⊎ (record { id = v; has_file = is_last last v } ≡ w) → w.has_file ≡ is_some (x.file w.id)
    go (inl c) = are w c
    go (inr e) = subst (λ (u : Found). u.has_file ≡ is_some (x.file u.id)) e own

counted : (n m : ℕ) → n ≡ m → m + 1 < 2 ^ 64 → min (n + 1) (2 ^ 64 - 1) ≡ m + 1
counted n m e few = omega (arith, e, few)

pub pass_text : (dir : Dir) (host : ℕ) (seen : Seen) (kept : Gathered) (v : Id) (g : File) (d : Content) → IsThere dir (Text v) d g → IsSettled g → IsNextFile dir seen.after (Text v) d
    → KnowsListing dir host seen kept d
    → KnowsListing dir host (record { after = Some (name.Meta v); file = seen.file; count = min (seen.count + 1) (2 ^ 64 - 1) }) (record { found = noted kept.found v seen.file; records = kept.records }) d
pass_text dir host seen kept v g d there settled next k =
    let comes = comes_to_file dir host seen.after (Text v) d k.folder next in
    let are = next_volumes dir host seen.after v k.volumes d k.folder next k.are in
    let more : length (k.volumes ++ v ∷ []) ≡ length k.volumes + 1 = length-append k.volumes (v ∷ []) in
    let few : length k.volumes + 1 < 2 ^ 64 = subst (λ (n : ℕ). n < 2 ^ 64) more (k.folder.few (k.volumes ++ v ∷ []) are.rising are.each) in
    record {
      folder = k.folder;
      settled = settled_next dir seen.after (name.Meta v) d comes k.settled (λ o f e is. settled_here dir o (Text v) f g d there settled e is);
      volumes = k.volumes ++ v ∷ [];
      are = are;
      count = counted seen.count (length k.volumes) k.count few ∙ sym more;
      found = noted_is kept.found k.volumes v seen.file k.found;
      files = next_there (volumes_in dir d) kept.found v seen.file (own_file dir host seen.after v seen.file d k.folder next k.last) k.files;
      last = same_last dir seen.after (name.Meta v) seen.file d (λ w e. cc) comes k.last;
      unread = k.unread;
    }

-- ---- all names were passed

pub all_settled : (dir : Dir) (host : ℕ) (seen : Seen) (kept : Gathered) (d : Content) → IsNextName d dir seen.after None → KnowsListing dir host seen kept d → AreSettled dir d
all_settled dir host seen kept d last k o f there = k.settled o f there (λ above. last (name_of o) (f, there) above)

pub all_volumes : (dir : Dir) (host : ℕ) (seen : Seen) (kept : Gathered) (d : Content) → IsNextName d dir seen.after None → (k : KnowsListing dir host seen kept d) → AreVolumes (volumes_in dir d) k.volumes
all_volumes dir host seen kept d last k = record {
  rising = k.are.rising;
  each = k.are.each;
  all = λ v is. let f = some_of (d.file (place_in dir (name.Meta v))) is in k.are.all v is (λ above. last (name.Meta v) f above);
}

-- ---- a listing that hasn't begun

pub knows_at_first : (dir : Dir) (host : ℕ) (kept : Gathered) (d : Content) → kept.found ≡ [] → kept.records ≡ [] → KnowsFolder dir host d
    → KnowsListing dir host (record { after = None; file = None; count = 0 }) kept d
knows_at_first dir host kept d found records k = record {
  folder = k;
  settled = λ o f there passed. absurd (passed tt);
  volumes = [];
  are = record { rising = rising_none; each = λ v h. absurd (nothing_in v h); passed = λ v h. absurd (nothing_in v h); all = λ v is passed. absurd (passed tt) };
  count = refl;
  found = ap ids_found found;
  files = λ w h. absurd (nothing_in w (subst (λ (ws : List Found). Contains ws w) found h));
  last = λ w is passed. passed tt;
  unread = records;
}
