-- Calls that make, remove and move folders leave a well-formed content well formed, and what follows of a new folder.
use Rattle.std.proofs.Common.{◌≡◌, ◌≢◌, Bool, true, false, Some, Ok, Err, Result, refl, sym, ap, ◌∙◌, inl, inr}
use Rattle.std.proofs.lemmas.Bool.{false≢true}
use Rattle.std.proofs.lemmas.Option.{none-some}
use Rattle.sd_names.specs.declared.id.Id.{Id}
use Rattle.sd_names.specs.declared.place.Dir.{Dir}
use Rattle.sd_names.specs.declared.place.Dir.TheVariants.{Root, Domain, DomMd, Images, Image, Removed, Master, Tasks}
use Rattle.sd_names.specs.declared.place.Place.{Place}
use Rattle.shared_disk.specs.declared.disk.DiskAnswer.{DiskAnswer}
use Rattle.shared_disk.specs.declared.disk.DiskAnswer.TheVariants.{NoFile, Exists, OutOfFile, NotEmpty, Failed}
use Rattle.sd_names.specs.Place.{parent_of}
use Rattle.shared_disk.specs.Calls.{IsDirMade, IsDirPut, MakesDir}
use Rattle.shared_disk.specs.Content.{Content, File, IsEmpty}
use Rattle.shared_disk.specs.NameCalls.{AreImageDirs, HasEntry, IsDirMoved, IsDirRemoved, MovesDir, RemovesDir, ShowsDir, place_in}
use Rattle.shared_disk.specs.Places.{dir_is}
use Rattle.shared_disk.specs.WellFormed.{IsWellFormed, IsWellFormedFile}
use Rattle.shared_disk.proofs.Places.{dir_is-itself, dir_is-same}
use Rattle.shared_disk.proofs.WellFormed.{same_keeps}

apart : (q dir : Dir) → dir_is q dir ≡ false → q ≢ dir
apart q dir t u = false≢true (sym t ∙ ap (λ (x : Dir). dir_is x dir) u ∙ dir_is-itself dir)

-- a folder is made: what was there is there
stays_step : (d e : Content) (dir q : Dir) (t : Bool) → dir_is q dir ≡ t → IsDirPut d dir true e → d.dir q ≡ true → e.dir q ≡ true
stays_step d e dir q true t put there = ap (λ (x : Dir). e.dir x) (dir_is-same q dir t) ∙ put.here
stays_step d e dir q false t put there = put.others q (apart q dir t) ∙ there

stays : (d e : Content) (dir q : Dir) → IsDirPut d dir true e → d.dir q ≡ true → e.dir q ≡ true
stays d e dir q put there = stays_step d e dir q (dir_is q dir) refl put there

parent_step : (d e : Content) (dir q : Dir) (t : Bool) → dir_is q dir ≡ t → IsWellFormed d → IsDirMade d dir e → e.dir q ≡ true → e.dir (parent_of q) ≡ true
parent_step d e dir q true t ok w there =
    let same = dir_is-same q dir t in stays d e dir (parent_of q) w.put (ap (λ (x : Dir). d.dir (parent_of x)) same ∙ w.above)
parent_step d e dir q false t ok w there = stays d e dir (parent_of q) w.put (ok.parents q (sym (w.put.others q (apart q dir t)) ∙ there))

dir_made_keeps : (d e : Content) (dir : Dir) → IsWellFormed d → IsDirMade d dir e → IsWellFormed e
dir_made_keeps d e dir ok w = record {
  root = stays d e dir Root w.put ok.root;
  parents = λ q there. parent_step d e dir q (dir_is q dir) refl ok w there;
  folders = λ p f here. stays d e dir p.dir w.put (ok.folders p f (sym (w.put.files p) ∙ here));
  files = λ p f here. ok.files p f (sym (w.put.files p) ∙ here);
}

pub make_dir_keeps : (d e : Content) (dir : Dir) (answer : Result (Unit {0}) DiskAnswer) → IsWellFormed d → MakesDir d dir answer e → IsWellFormed e
make_dir_keeps d e dir (Ok t) ok w = dir_made_keeps d e dir ok w
make_dir_keeps d e dir (Err Failed) ok (inl same) = same_keeps d e ok same
make_dir_keeps d e dir (Err Failed) ok (inr w) = dir_made_keeps d e dir ok w
make_dir_keeps d e dir (Err NoFile) ok w = same_keeps d e ok w.0
make_dir_keeps d e dir (Err Exists) ok w = same_keeps d e ok w.0
make_dir_keeps d e dir (Err OutOfFile) ok w = absurd w
make_dir_keeps d e dir (Err NotEmpty) ok w = absurd w

-- A new folder shows nothing: what it showed would have stood in a folder that wasn't there.
no_folder_inside : (d e : Content) (dir q : Dir) (t : Bool) → dir_is q dir ≡ t → IsWellFormed d → IsDirMade d dir e → ShowsDir e dir q → ⊥
no_folder_inside d e dir q true t ok w shows =
    let itself : dir ≡ parent_of dir = sym shows.inside ∙ ap (λ (x : Dir). parent_of x) (dir_is-same q dir t) in
    false≢true (sym w.free ∙ ap (λ (x : Dir). d.dir x) itself ∙ w.above)
no_folder_inside d e dir q false t ok w shows =
    false≢true (sym w.free ∙ ap (λ (x : Dir). d.dir x) (sym shows.inside) ∙ ok.parents q (sym (w.put.others q (apart q dir t)) ∙ shows.there))

pub new_folder_is_empty : (d e : Content) (dir : Dir) → IsWellFormed d → MakesDir d dir (Ok tt) e → HasEntry e dir → ⊥
new_folder_is_empty d e dir ok w (inl shows) =
    false≢true (sym w.free ∙ ok.folders (place_in dir shows.0) shows.1.0 (sym (w.put.files (place_in dir shows.0)) ∙ shows.1.1))
new_folder_is_empty d e dir ok w (inr shows) = no_folder_inside d e dir shows.0 (dir_is shows.0 dir) refl ok w shows.1

-- an empty folder
only_root : (d : Content) (q : Dir) (t : Bool) → dir_is q Root ≡ t → IsEmpty d → d.dir q ≡ true → d.dir (parent_of q) ≡ true
only_root d q true t empty there = ap (λ (x : Dir). d.dir (parent_of x)) (dir_is-same q Root t) ∙ empty.root
only_root d q false t empty there = absurd (false≢true (sym (empty.dirs q (apart q Root t)) ∙ there))

pub empty_is_well_formed : (d : Content) → IsEmpty d → IsWellFormed d
empty_is_well_formed d empty = record {
  root = empty.root;
  parents = λ q there. only_root d q (dir_is q Root) refl empty there;
  folders = λ p f here. absurd (none-some f (sym (empty.files p) ∙ here));
  files = λ p f here. absurd (none-some f (sym (empty.files p) ∙ here));
}

-- a folder is removed: it showed nothing, so it is the folder of nothing that is there
not_inside : (d : Content) (dir q : Dir) (t : Bool) → dir_is q Root ≡ t → dir ≢ Root → d.dir q ≡ true → (HasEntry d dir → ⊥) → parent_of q ≢ dir
not_inside d dir q true t below there empty is = below (sym is ∙ ap (λ (x : Dir). parent_of x) (dir_is-same q Root t))
not_inside d dir q false t below there empty is = empty (inr (q, record { other = apart q Root t; inside = is; there = there }))

not_removed : (d e : Content) (dir q : Dir) → IsDirRemoved d dir e → e.dir q ≡ true → q ≢ dir
not_removed d e dir q w there is = false≢true (sym w.put.here ∙ ap (λ (x : Dir). e.dir x) (sym is) ∙ there)

dir_removed_keeps : (d e : Content) (dir : Dir) → dir ≢ Root → IsWellFormed d → IsDirRemoved d dir e → IsWellFormed e
dir_removed_keeps d e dir below ok w = record {
  root = w.put.others Root (λ is. below (sym is)) ∙ ok.root;
  parents = λ q there.
      let was : d.dir q ≡ true = sym (w.put.others q (not_removed d e dir q w there)) ∙ there in
      w.put.others (parent_of q) (not_inside d dir q (dir_is q Root) refl below was w.empty) ∙ ok.parents q was;
  folders = λ p f here.
      let was : d.file p ≡ Some f = sym (w.put.files p) ∙ here in
      w.put.others p.dir (λ is. w.empty (inl (p.name, (f, ap (λ (x : Dir). d.file (place_in x p.name)) (sym is) ∙ was)))) ∙ ok.folders p f was;
  files = λ p f here. ok.files p f (sym (w.put.files p) ∙ here);
}

pub remove_dir_keeps : (d e : Content) (dir : Dir) (answer : Result (Unit {0}) DiskAnswer) → dir ≢ Root → IsWellFormed d → RemovesDir d dir answer e → IsWellFormed e
remove_dir_keeps d e dir (Ok t) below ok w = dir_removed_keeps d e dir below ok w
remove_dir_keeps d e dir (Err Failed) below ok (inl same) = same_keeps d e ok same
remove_dir_keeps d e dir (Err Failed) below ok (inr w) = dir_removed_keeps d e dir below ok w
remove_dir_keeps d e dir (Err NoFile) below ok w = same_keeps d e ok w.0
remove_dir_keeps d e dir (Err NotEmpty) below ok w = same_keeps d e ok w.0
remove_dir_keeps d e dir (Err Exists) below ok w = absurd w
remove_dir_keeps d e dir (Err OutOfFile) below ok w = absurd w

-- a folder of an image, which holds no folder
is_image : Dir → Bool
is_image (Image sd image) = true
is_image (Removed sd image) = true
is_image _ = false

parent_holds_dirs : (q : Dir) → is_image (parent_of q) ≡ false
unfolding is_image
parent_holds_dirs Root = refl
parent_holds_dirs (Domain sd) = refl
parent_holds_dirs (DomMd sd) = refl
parent_holds_dirs (Images sd) = refl
parent_holds_dirs (Image sd image) = refl
parent_holds_dirs (Removed sd image) = refl
parent_holds_dirs (Master sd) = refl
parent_holds_dirs (Tasks sd) = refl

record AreImages (from to : Dir) : Type 0 where
  first : is_image from ≡ true
  second : is_image to ≡ true
  beside : parent_of to ≡ parent_of from

images : (from to : Dir) → AreImageDirs from to → AreImages from to
unfolding is_image
images (Image sd i) (Image other j) is = record { first = refl; second = refl; beside = ap (λ (x : Id). Images x) (sym is) }
images (Image sd i) (Removed other j) is = record { first = refl; second = refl; beside = ap (λ (x : Id). Images x) (sym is) }
images (Removed sd i) (Image other j) is = record { first = refl; second = refl; beside = ap (λ (x : Id). Images x) (sym is) }
images (Removed sd i) (Removed other j) is = record { first = refl; second = refl; beside = ap (λ (x : Id). Images x) (sym is) }
images _ _ is = absurd is

not_image : (p q : Dir) → is_image p ≡ false → is_image q ≡ true → p ≢ q
not_image p q no_image image is = false≢true (sym no_image ∙ ap (λ (x : Dir). is_image x) is ∙ image)

-- what isn't one of the two folders stays as it was
holds_step : (d e : Content) (from to q : Dir) → IsWellFormed d → AreImages from to → IsDirMoved d from to e → is_image q ≡ false → d.dir q ≡ true → e.dir q ≡ true
holds_step d e from to q ok are w other there = w.dirs q (not_image q from other are.first) (not_image q to other are.second) ∙ there

moved_parent : (d e : Content) (from to q : Dir) (s t : Bool) → dir_is q to ≡ s → dir_is q from ≡ t → IsWellFormed d → AreImages from to → IsDirMoved d from to e → e.dir q ≡ true
    → d.dir (parent_of q) ≡ true
moved_parent d e from to q true t is other ok are w there =
    ap (λ (x : Dir). d.dir (parent_of x)) (dir_is-same q to is) ∙ ap (λ (x : Dir). d.dir x) are.beside ∙ ok.parents from w.there
moved_parent d e from to q false true other is ok are w there =
    absurd (false≢true (sym w.gone ∙ ap (λ (x : Dir). e.dir x) (sym (dir_is-same q from is)) ∙ there))
moved_parent d e from to q false false s t ok are w there = ok.parents q (sym (w.dirs q (apart q from t) (apart q to s)) ∙ there)

moved_file : (d e : Content) (from to : Dir) (p : Place) (f : File) (s t : Bool) → dir_is p.dir to ≡ s → dir_is p.dir from ≡ t → IsWellFormed d → IsDirMoved d from to e → e.file p ≡ Some f
    → (e.dir p.dir ≡ true) × IsWellFormedFile f
moved_file d e from to p f true t is other ok w here =
    let same = dir_is-same p.dir to is in
    let was : d.file (place_in from p.name) ≡ Some f = sym (w.files p.name) ∙ ap (λ (x : Dir). e.file (place_in x p.name)) (sym same) ∙ here in
    (ap (λ (x : Dir). e.dir x) same ∙ w.made, ok.files (place_in from p.name) f was)
moved_file d e from to p f false true other is ok w here =
    absurd (none-some f (sym (w.left p.name) ∙ ap (λ (x : Dir). e.file (place_in x p.name)) (sym (dir_is-same p.dir from is)) ∙ here))
moved_file d e from to p f false false s t ok w here =
    let was : d.file p ≡ Some f = sym (w.others p (apart p.dir from t) (apart p.dir to s)) ∙ here in
    (w.dirs p.dir (apart p.dir from t) (apart p.dir to s) ∙ ok.folders p f was, ok.files p f was)

dir_moved_keeps : (d e : Content) (from to : Dir) → AreImages from to → IsWellFormed d → IsDirMoved d from to e → IsWellFormed e
unfolding is_image
dir_moved_keeps d e from to are ok w = record {
  root = holds_step d e from to Root ok are w refl ok.root;
  parents = λ q there. holds_step d e from to (parent_of q) ok are w (parent_holds_dirs q) (moved_parent d e from to q (dir_is q to) (dir_is q from) refl refl ok are w there);
  folders = λ p f here. (moved_file d e from to p f (dir_is p.dir to) (dir_is p.dir from) refl refl ok w here).0;
  files = λ p f here. (moved_file d e from to p f (dir_is p.dir to) (dir_is p.dir from) refl refl ok w here).1;
}

pub move_dir_keeps : (d e : Content) (from to : Dir) (answer : Result (Unit {0}) DiskAnswer) → AreImageDirs from to → IsWellFormed d → MovesDir d from to answer e → IsWellFormed e
move_dir_keeps d e from to (Ok t) are ok w = dir_moved_keeps d e from to (images from to are) ok w
move_dir_keeps d e from to (Err Failed) are ok (inl same) = same_keeps d e ok same
move_dir_keeps d e from to (Err Failed) are ok (inr w) = dir_moved_keeps d e from to (images from to are) ok w
move_dir_keeps d e from to (Err NoFile) are ok w = same_keeps d e ok w.0
move_dir_keeps d e from to (Err Exists) are ok w = same_keeps d e ok w.0
move_dir_keeps d e from to (Err OutOfFile) are ok w = absurd w
move_dir_keeps d e from to (Err NotEmpty) are ok w = absurd w
