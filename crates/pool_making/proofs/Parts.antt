-- So much of a domain, through the changes of a making, and the whole on each outcome.
use Rattle.std.proofs.Common.{◌≡◌, ◌≢◌, ℕ, ◌+◌, ◌<◌, Bool, true, false, List, [], Option, Some, None, refl, sym, ap, subst, ◌∙◌, inl, inr, arith, eq-eqb}
use Rattle.std.proofs.lemmas.Bool.Decides.{nat_tests}
use Rattle.std.proofs.Common.{nat_lt}
use Rattle.std.proofs.lemmas.Bool.{false≢true}
use Rattle.sd_names.specs.declared.id.Id.{Id}
use Rattle.sd_names.specs.declared.place.Dir.{Dir}
use Rattle.sd_names.specs.declared.place.Place.{Place}
use Rattle.shared_disk.specs.Calls.{IsDirPut, IsPut, created, synced}
use Rattle.shared_disk.specs.Content.{Content, File, unless_by, zero_sector}
use Rattle.shared_disk.specs.Crash.{IsFileOutcome, IsOutcome}
use Rattle.shared_disk.proofs.Places.{dir_is-itself, dir_is-same}
use Rattle.shared_disk.specs.Places.{dir_is}
use Rattle.shared_disk.proofs.AtPlace.{also_none, settled_stays}
use Rattle.whole_file.proofs.Texts.{text_stays}
use Rattle.pool_making.proofs.Apart.{area_not_text, area_not_new, areas_apart, image_apart, one_area, one_folder}
use Rattle.pool_making.specs.Layout.{area_place, area_size, folder_of, metadata_new_of, metadata_of, zeros}
use Rattle.pool_making.specs.Pool.{HasAreas, HasFolders, HasNoImages, IsDomain, IsNoDomain, IsNoneOrWhole, IsNoneOrWholeOnEach, IsPart, area_rank, folder_rank}
use Rattle.pool_making.specs.declared.layout.Area.{Area}
use Rattle.pool_making.specs.declared.layout.Folder.{Folder}

-- the folders are there still, where none goes
folders_kept : (n : ℕ) (sd : Id) (d e : Content) → HasFolders n sd d → ((q : Dir) → d.dir q ≡ true → e.dir q ≡ true) → HasFolders n sd e
folders_kept n sd d e has kept f less = kept (folder_of sd f) (has f less)

-- one more folder
one_more : (f : Folder) (sd : Id) (e : Content) (g : Folder) (t : Bool) → nat_lt (folder_rank g) (folder_rank f) ≡ t → HasFolders (folder_rank f) sd e → e.dir (folder_of sd f) ≡ true
    → folder_rank g < folder_rank f + 1 → e.dir (folder_of sd g) ≡ true
one_more f sd e g true is has here less = has g (grind (arith, nat_tests, is))
one_more f sd e g false is has here less =
    let same : folder_rank g ≡ folder_rank f = grind (arith, nat_tests, is, less) in
    ap (λ (x : Folder). e.dir (folder_of sd x)) (one_folder g f same) ∙ here

pub folders_more : (f : Folder) (sd : Id) (e : Content) → HasFolders (folder_rank f) sd e → e.dir (folder_of sd f) ≡ true → HasFolders (folder_rank f + 1) sd e
folders_more f sd e has here g less = one_more f sd e g (nat_lt (folder_rank g) (folder_rank f)) refl has here less

-- no folder but those of the making came, so no image has one
images_kept : (sd : Id) (f : Folder) (d e : Content) → HasNoImages sd d → IsDirPut d (folder_of sd f) true e → HasNoImages sd e
images_kept sd f d e empty put q shows =
    empty q (record { other = shows.other; inside = shows.inside; there = sym (put.others q (image_apart sd f q shows.inside)) ∙ shows.there })

pub images_same : (sd : Id) (d e : Content) → HasNoImages sd d → ((q : Dir) → e.dir q ≡ d.dir q) → HasNoImages sd e
images_same sd d e empty same q shows = empty q (record { other = shows.other; inside = shows.inside; there = sym (same q) ∙ shows.there })

dir_kept : (d e : Content) (p q : Dir) (t : Bool) → dir_is q p ≡ t → IsDirPut d p true e → d.dir q ≡ true → e.dir q ≡ true
dir_kept d e p q true is put there = ap (λ (x : Dir). e.dir x) (dir_is-same q p is) ∙ put.here
dir_kept d e p q false is put there = put.others q (λ same. false≢true (sym is ∙ ap (λ (x : Dir). dir_is x p) same ∙ dir_is-itself p)) ∙ there

pub dirs_kept : (f : Folder) (sd : Id) (d e : Content) → IsDirPut d (folder_of sd f) true e → (q : Dir) → d.dir q ≡ true → e.dir q ≡ true
dirs_kept f sd d e put q there = dir_kept d e (folder_of sd f) q (dir_is q (folder_of sd f)) refl put there

-- a folder was made, or was there
pub part_made : (f : Folder) (sd : Id) (d e : Content) → IsPart sd (folder_rank f) 0 d → IsDirPut d (folder_of sd f) true e → IsPart sd (folder_rank f + 1) 0 e
part_made f sd d e part put = record {
  none = put.files (metadata_of sd) ∙ part.none;
  empty = images_kept sd f d e part.empty put;
  dirs = folders_more f sd e (folders_kept (folder_rank f) sd d e part.dirs (dirs_kept f sd d e put)) put.here;
  files = λ a less. absurd (nothing_less less);
}
  where
    nothing_less : {n : ℕ} → n < 0 → ⊥
    nothing_less less = omega (arith, less)

pub part_there : (f : Folder) (sd : Id) (d : Content) → IsPart sd (folder_rank f) 0 d → d.dir (folder_of sd f) ≡ true → IsPart sd (folder_rank f + 1) 0 d
part_there f sd d part here = record { none = part.none; empty = part.empty; dirs = folders_more f sd d part.dirs here; files = part.files }

-- a file of zeros changed
pub part_put : (a : Area) (sd : Id) (d e : Content) (new : Option File) → IsPart sd 5 (area_rank a) d → IsPut d (area_place sd a) new e → IsPart sd 5 (area_rank a) e
part_put a sd d e new part put = record {
  none = put.others (metadata_of sd) (λ same. area_not_text sd a (sym same)) ∙ part.none;
  empty = images_same sd d e part.empty put.dirs;
  dirs = λ f less. put.dirs (folder_of sd f) ∙ part.dirs f less;
  files = λ b less. put.others (area_place sd b) (areas_apart sd b a less) ∙ part.files b less;
}

-- one more file of zeros
area_more : (a : Area) (sd : Id) (e : Content) (b : Area) (t : Bool) → nat_lt (area_rank b) (area_rank a) ≡ t → HasAreas (area_rank a) sd e → e.file (area_place sd a) ≡ Some (zeros (area_size a))
    → area_rank b < area_rank a + 1 → e.file (area_place sd b) ≡ Some (zeros (area_size b))
area_more a sd e b true is has here less = has b (grind (arith, nat_tests, is))
area_more a sd e b false is has here less =
    let same : area_rank a ≡ area_rank b = grind (arith, nat_tests, is, less) in
    subst (λ (x : Area). e.file (area_place sd x) ≡ Some (zeros (area_size x))) (one_area a b same) here

pub part_synced : (a : Area) (sd : Id) (e : Content) → IsPart sd 5 (area_rank a) e → e.file (area_place sd a) ≡ Some (zeros (area_size a)) → IsPart sd 5 (area_rank a + 1) e
part_synced a sd e part here = record {
  none = part.none;
  empty = part.empty;
  dirs = part.dirs;
  files = λ b less. area_more a sd e b (nat_lt (area_rank b) (area_rank a)) refl part.files here less;
}

-- a file that its host made is zeros on the medium, once it is synced
pub synced_zeros : (host size : ℕ) → synced host (created host size) ≡ zeros size
synced_zeros host size = ap (λ (o : Option ℕ). record { size = size; stable = λ _. zero_sector; loose = []; fresh = o }) (own host)
  where
    own : (host : ℕ) → unless_by host (Some host) ≡ None
    own host = rw (eq-eqb host host refl) refl

-- the domain that doesn't count, and the one that is there whole, are so on each outcome
none_stays : (sd : Id) (d o : Content) → IsNoDomain sd d → IsOutcome d o → IsNoDomain sd o
none_stays sd d o none out = also_none IsFileOutcome (d.file (metadata_of sd)) (o.file (metadata_of sd)) (out.files (metadata_of sd)) none

pub domain_stays : (sd : Id) (text : List ℕ) (d o : Content) → IsDomain sd text d → IsOutcome d o → IsDomain sd text o
domain_stays sd text d o is out = record {
  text = text_stays d o (metadata_of sd) text is.text out;
  empty = images_same sd d o is.empty out.dirs;
  dirs = λ f less. out.dirs (folder_of sd f) ∙ is.dirs f less;
  files = λ a less. settled_stays d o (area_place sd a) (zeros (area_size a)) (is.files a less) (record { loose = refl; fresh = refl }) out;
}

stays : (sd : Id) (text : List ℕ) (d o : Content) → IsNoneOrWhole sd text d → IsOutcome d o → IsNoneOrWhole sd text o
stays sd text d o (inl none) out = inl (none_stays sd d o none out)
stays sd text d o (inr whole) out = inr (domain_stays sd text d o whole out)

pub on_each : (sd : Id) (text : List ℕ) (d : Content) → IsNoneOrWhole sd text d → IsNoneOrWholeOnEach sd text d
on_each sd text d is = record { now = is; outcomes = λ o out. stays sd text d o is out }

-- what is there behind a replacement's step, which changes the text and the file beside it
pub part_written : (sd : Id) (d e : Content) → IsPart sd 5 3 d → ((q : Dir) → e.dir q ≡ d.dir q) → ((q : Place) → q ≢ metadata_of sd → q ≢ metadata_new_of sd → e.file q ≡ d.file q)
    → HasNoImages sd e × HasFolders 5 sd e × HasAreas 3 sd e
part_written sd d e part dirs files =
    (images_same sd d e part.empty dirs, λ f less. dirs (folder_of sd f) ∙ part.dirs f less, λ a less. files (area_place sd a) (area_not_text sd a) (area_not_new sd a) ∙ part.files a less)
