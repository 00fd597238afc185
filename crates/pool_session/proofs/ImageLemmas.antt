-- An image's folder among those of its domain, and its file once it is made.
use Rattle.std.proofs.Common.{◌≡◌, ℕ, ◌/◌, List, ◌∷◌, [], ◌⊎◌, true, Option, Some, None, Ok, Err, eq-eqb, refl, sym, subst, ◌∙◌, inl, inr, arith}
use Rattle.std.proofs.lemmas.Bool.{false≢true}
use Rattle.sd_names.specs.declared.id.Id.{Id}
use Rattle.sd_names.specs.declared.place.Dir.{Dir}
use Rattle.sd_names.specs.declared.place.Dir.TheVariants.{Root, Domain, DomMd, Images, Image as ImageDir, Master, Tasks}
use Rattle.sd_names.specs.declared.place.Place.{Place}
use Rattle.shared_disk.specs.Content.{Content, File, zero_sector}
use Rattle.shared_disk.specs.Calls.{IsPut, Creates, Syncs, created, synced}
use Rattle.shared_disk.specs.declared.disk.DiskAnswer.{DiskAnswer}
use Rattle.shared_disk.specs.declared.disk.DiskAnswer.TheVariants.{NoFile, Exists, OutOfFile, NotEmpty, Failed}
use Rattle.shared_disk.proofs.AtPlace.{no_file, one_file}
use Rattle.pool_session.specs.declared.image.Image.{Image}
use Rattle.pool_session.specs.Capacity.{IsCapacity}
use Rattle.pool_session.specs.Image.{HasPartOfImage, HoldsFlat, IsAlone, file_of}
use Rattle.pool_session.specs.Folders.{HasFolders, HasJust, IsAmong, folders_of, with_made}

-- the images folder is one of the domain's
pub images_among : (sd : Id) → IsAmong (with_made (Root ∷ []) (folders_of sd)) (Images sd)
images_among sd = inr (inr (inl refl))

not_among : (sd image : Id) → ((ImageDir sd image ≡ Tasks sd) ⊎ ((ImageDir sd image ≡ Master sd) ⊎ ((ImageDir sd image ≡ Images sd) ⊎ ((ImageDir sd image ≡ DomMd sd) ⊎ ((ImageDir sd image ≡ Domain sd) ⊎ ((ImageDir sd image ≡ Root) ⊎ ⊥)))))) → ⊥
not_among sd image (inl e) = cc
not_among sd image (inr (inl e)) = cc
not_among sd image (inr (inr (inl e))) = cc
not_among sd image (inr (inr (inr (inl e)))) = cc
not_among sd image (inr (inr (inr (inr (inl e))))) = cc
not_among sd image (inr (inr (inr (inr (inr (inl e)))))) = cc
not_among sd image (inr (inr (inr (inr (inr (inr none)))))) = none

-- an image's folder isn't
pub image_not_among : (sd image : Id) → IsAmong (with_made (Root ∷ []) (folders_of sd)) (ImageDir sd image) → ⊥
image_not_among sd image among = not_among sd image among

-- beside the image's file nothing has changed
folders_kept : (dirs : List Dir) (d e : Content) → HasFolders dirs d → ((q : Dir) → e.dir q ≡ d.dir q) → HasFolders dirs e
folders_kept dirs d e has same = record {
  there = λ q among. same q ∙ has.there q among;
  only = λ q not. same q ∙ has.only q not;
}

pub alone_put : (image : Image) (d e : Content) (file : Option File) → IsAlone image d → IsPut d (file_of image) file e → IsAlone image e
alone_put image d e file alone put = record {
  folders = folders_kept _ d e alone.folders put.dirs;
  others = λ q other. put.others q other ∙ alone.others q other;
}

-- no file is there yet
pub alone_without : (image : Image) (d : Content) → HasJust (ImageDir image.sd image.image ∷ with_made (Root ∷ []) (folders_of image.sd)) d → IsAlone image d
alone_without image d has = record { folders = has.folders; others = λ q other. has.files q }

-- what is made and then synced is put there
pub put_twice : (d e f : Content) (p : Place) (a b : Option File) → IsPut d p a e → IsPut e p b f → IsPut d p b f
put_twice d e f p a b first second = record {
  dirs = λ q. second.dirs q ∙ first.dirs q;
  here = second.here;
  others = λ q other. second.others q other ∙ first.others q other;
}

-- A call that is refused, though the folder is there and the file isn't, has failed, and made the file or not.
pub create_failed : (d e : Content) (host : ℕ) (p : Place) (size : ℕ) (answer : DiskAnswer) → d.dir p.dir ≡ true → d.file p ≡ None → Creates d host p size (Err answer) e
    → (answer ≡ Failed) × ((e ≡ d) ⊎ IsPut d p (Some (created host size)) e)
create_failed d e host p size Failed folder free (inl same) = (refl, inl same)
create_failed d e host p size Failed folder free (inr made) = (refl, inr made.put)
create_failed d e host p size NoFile folder free call = absurd (false≢true (sym call.1 ∙ folder))
create_failed d e host p size Exists folder free call = absurd (no_file call.2 (d.file p) free call.3)
create_failed d e host p size OutOfFile folder free call = absurd call
create_failed d e host p size NotEmpty folder free call = absurd call

-- a call that is refused, though the file is there, has failed and changed nothing
pub sync_failed : (d e : Content) (host : ℕ) (p : Place) (f : File) (answer : DiskAnswer) → d.file p ≡ Some f → Syncs d host p (Err answer) e → (answer ≡ Failed) × (e ≡ d)
sync_failed d e host p f Failed there same = (refl, same)
sync_failed d e host p f NoFile there call = absurd (no_file f (d.file p) call.1 there)
sync_failed d e host p f Exists there call = absurd call
sync_failed d e host p f OutOfFile there call = absurd call
sync_failed d e host p f NotEmpty there call = absurd call

pub synced_put : (d e : Content) (host : ℕ) (p : Place) (f : File) → d.file p ≡ Some f → Syncs d host p (Ok tt) e → IsPut d p (Some (synced host f)) e
synced_put d e host p f there call =
    subst (λ (g : File). IsPut d p (Some (synced host g)) e) (one_file call.0 f (d.file p) call.1 there) call.2

-- a file that was made and synced holds zeros
pub created_holds : (image : Image) (host : ℕ) (d e : Content) → IsCapacity image.capacity
    → IsAlone image d → IsPut d (file_of image) (Some (synced host (created host (image.capacity / 512)))) e → HoldsFlat image (λ _. zero_sector) e
created_holds image host d e capacity alone put = record {
  file = synced host (created host (image.capacity / 512));
  there = put.here;
  size = (let whole = capacity.whole in omega arith);
  synced = refl;
  settled = rw (eq-eqb host host refl) refl;
  sectors = λ k. refl;
  alone = alone_put image d e (Some (synced host (created host (image.capacity / 512)))) alone put;
}

-- what a fault leaves of a file that is made
pub part_left : (image : Image) (host : ℕ) (d e : Content) → HasJust (ImageDir image.sd image.image ∷ with_made (Root ∷ []) (folders_of image.sd)) d
    → (e ≡ d) ⊎ IsPut d (file_of image) (Some (created host (image.capacity / 512))) e → HasPartOfImage host image e
part_left image host d e has (inl same) = inl (inr (subst (HasJust (ImageDir image.sd image.image ∷ with_made (Root ∷ []) (folders_of image.sd))) (sym same) has))
part_left image host d e has (inr put) = inr (record {
  there = put.here;
  alone = alone_put image d e (Some (created host (image.capacity / 512))) (alone_without image d has) put;
})
