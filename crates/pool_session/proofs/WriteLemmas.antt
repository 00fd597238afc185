-- What is known in the course of a write, and what each of its steps leaves.
use Rattle.std.proofs.Common.{◌≡◌, ℕ, ◌+◌, ◌-◌, ◌*◌, ◌/◌, ◌<◌, ◌≤◌, ◌&&◌, ◌⊎◌, nat_le, nat_lt, Bool, List, [], length, true, false, Option, Some, None, Ok, unwrap_or, if◌then◌else◌, refl, sym, ap, ◌∙◌, subst, inl, inr, arith}
use Rattle.std.proofs.lemmas.Bool.Decides.{nat_tests}
use Rattle.std.proofs.lemmas.Bool.{false≢true}
use Rattle.std.proofs.Math.Decide.{dec_lt}
use Rattle.sd_names.specs.declared.place.Place.{Place}
use Rattle.shared_disk.specs.Content.{Content, File, own_of, unless_by, without, seen, sector_of}
use Rattle.shared_disk.specs.Calls.{wrote, synced, sectors_in, WriteAt, Syncs, IsPut}
use Rattle.raw_layer.specs.declared.write.RawWrite.{RawWrite}
use Rattle.raw_layer.specs.declared.write.Stage.{Stage}
use Rattle.raw_layer.specs.declared.write.Stage.TheVariants.{Begun, Fits, Written}
use Rattle.pool_session.specs.declared.image.Image.{Image}
use Rattle.pool_session.specs.Image.{HoldsFlat, IsAlone, SeenFlat, Mixed, laid, file_of}
use Rattle.shared_disk.proofs.OwnWrites.{own_of-writes_hit, own_of-writes_miss, without_writes}
use Rattle.pool_session.proofs.ImageLemmas.{alone_put}

-- the file has the part written, and not yet synced, over these sectors
pub record HoldsWrite (image : Image) (at : ℕ) (part : List ℕ) (flat : ℕ → List ℕ) (e : Content) : Type 0 where
  pub file : File
  pub there : e.file (file_of image) ≡ Some (wrote (λ _. true) 1 at part file)
  pub size : 512 * file.size ≡ image.capacity
  pub synced : file.loose ≡ []
  pub settled : file.fresh ≡ None
  pub sectors : (k : ℕ) → file.stable k ≡ flat k
  pub alone : IsAlone image e

-- by the stage of the write
abbrev pub Knows : Stage → Image → ℕ → List ℕ → (ℕ → List ℕ) → Content → Type 0
Knows (Begun known) image at part flat e = (known ≡ image.capacity) × HoldsFlat image flat e
Knows Fits image at part flat e = HoldsFlat image flat e
Knows Written image at part flat e = HoldsWrite image at part flat e

le_passes : (a b : ℕ) → a ≤ b → nat_le a b ≡ true
le_passes a b h = grind (arith, nat_tests)

lt_passes : (a b : ℕ) → a < b → nat_lt a b ≡ true
lt_passes a b h = grind (arith, nat_tests)

le_fails : (a b : ℕ) → b < a → nat_le a b ≡ false
le_fails a b h = grind (arith, nat_tests)

lt_fails : (a b : ℕ) → b ≤ a → nat_lt a b ≡ false
lt_fails a b h = grind (arith, nat_tests)

laid_inside : (at : ℕ) (bytes : List ℕ) (flat : ℕ → List ℕ) (k : ℕ) → at ≤ k → k < at + length bytes / 512 → laid at bytes flat k ≡ sector_of bytes (k - at)
laid_inside at bytes flat k low high = rw (le_passes at k low, lt_passes k (at + length bytes / 512) high) refl

laid_below : (at : ℕ) (bytes : List ℕ) (flat : ℕ → List ℕ) (k : ℕ) → k < at → laid at bytes flat k ≡ flat k
laid_below at bytes flat k low = rw (le_fails at k low) refl

both_false : {A : Type 0} (b : Bool) (x y : A) → (if b && false then x else y) ≡ y
both_false true x y = refl
both_false false x y = refl

laid_above : (at : ℕ) (bytes : List ℕ) (flat : ℕ → List ℕ) (k : ℕ) → at + length bytes / 512 ≤ k → laid at bytes flat k ≡ flat k
laid_above at bytes flat k high = rw (lt_fails k (at + length bytes / 512) high) (both_false (nat_le at k) (sector_of bytes (k - at)) (flat k))

-- a sector that was written
seen_hit : (did : ℕ → Bool) (at : ℕ) (bytes : List ℕ) (f : File) (j : ℕ) → j < sectors_in bytes → did j ≡ true
    → seen 1 (wrote did 1 at bytes f) (at + j) ≡ sector_of bytes j
seen_hit did at bytes f j within done = ap (λ o. unwrap_or o (f.stable (at + j))) (own_of-writes_hit did 1 at bytes (sectors_in bytes) f.loose j within done)

-- a sector that wasn't
seen_miss : (did : ℕ → Bool) (at : ℕ) (bytes : List ℕ) (f : File) (k : ℕ) → f.loose ≡ [] → ((j : ℕ) → j < sectors_in bytes → did j ≡ true → k ≡ at + j → ⊥)
    → seen 1 (wrote did 1 at bytes f) k ≡ f.stable k
seen_miss did at bytes f k alone apart =
    ap (λ o. unwrap_or o (f.stable k)) (own_of-writes_miss did 1 at bytes (sectors_in bytes) f.loose k apart ∙ ap (own_of 1 k) alone)

seen_inside : (did : ℕ → Bool) (at : ℕ) (bytes : List ℕ) (f : File) (j : ℕ) (b : Bool) → f.loose ≡ [] → j < sectors_in bytes → did j ≡ b
    → (seen 1 (wrote did 1 at bytes f) (at + j) ≡ f.stable (at + j)) ⊎ (seen 1 (wrote did 1 at bytes f) (at + j) ≡ laid at bytes f.stable (at + j))
seen_inside did at bytes f j true alone within done =
    let same : at + j - at ≡ j = omega arith in
    inr (seen_hit did at bytes f j within done ∙ ap (sector_of bytes) (sym same) ∙ sym (laid_inside at bytes f.stable (at + j) (omega arith) (omega arith)))
seen_inside did at bytes f j false alone within undone =
    inl (seen_miss did at bytes f (at + j) alone (λ i below done is.
    let same : i ≡ j = omega arith in
    false≢true (sym undone ∙ ap did (sym same) ∙ done)))

-- what the host sees after a write of those sectors that were done
pub seen_after : (did : ℕ → Bool) (at : ℕ) (bytes : List ℕ) (f : File) (k : ℕ) → f.loose ≡ []
    → (seen 1 (wrote did 1 at bytes f) k ≡ f.stable k) ⊎ (seen 1 (wrote did 1 at bytes f) k ≡ laid at bytes f.stable k)
seen_after did at bytes f k alone =
    elim (dec_lt k at) [
      | yes low ↦ inl (seen_miss did at bytes f k alone (λ j below done is. let lt : k < at = low in omega arith))
      | no not_low ↦ elim (dec_lt k (at + sectors_in bytes)) [
        | yes high ↦
            let is : at + (k - at) ≡ k = omega arith in
            subst (λ i. (seen 1 (wrote did 1 at bytes f) i ≡ f.stable i) ⊎ (seen 1 (wrote did 1 at bytes f) i ≡ laid at bytes f.stable i)) is
            (seen_inside did at bytes f (k - at) (did (k - at)) alone (omega arith) refl)
        | no not_high ↦ inl (seen_miss did at bytes f k alone (λ j below done is. omega arith))
      ]
    ]

-- after all of them were done
pub seen_laid : (at : ℕ) (bytes : List ℕ) (f : File) (k : ℕ) → f.loose ≡ [] → seen 1 (wrote (λ _. true) 1 at bytes f) k ≡ laid at bytes f.stable k
seen_laid at bytes f k alone =
    elim (dec_lt k at) [
      | yes low ↦ seen_miss (λ _. true) at bytes f k alone (λ j below done is. let lt : k < at = low in omega arith) ∙ sym (laid_below at bytes f.stable k low)
      | no not_low ↦ elim (dec_lt k (at + sectors_in bytes)) [
        | yes high ↦
            let is : at + (k - at) ≡ k = omega arith in
            subst (λ i. seen 1 (wrote (λ _. true) 1 at bytes f) i ≡ sector_of bytes (k - at)) is (seen_hit (λ _. true) at bytes f (k - at) (omega arith) refl)
            ∙ sym (laid_inside at bytes f.stable k (omega arith) high)
        | no not_high ↦ seen_miss (λ _. true) at bytes f k alone (λ j below done is. omega arith) ∙ sym (laid_above at bytes f.stable k (omega arith))
      ]
    ]

laid_same : (at : ℕ) (bytes : List ℕ) (old flat : ℕ → List ℕ) (k : ℕ) → old k ≡ flat k → laid at bytes old k ≡ laid at bytes flat k
laid_same at bytes old flat k e = ap (λ sector. if nat_le at k && nat_lt k (at + length bytes / 512) then sector_of bytes (k - at) else sector) e

-- one file stands at one place
pub same_file : (d : Content) (p q : Place) (f g : File) → p ≡ q → d.file p ≡ Some f → d.file q ≡ Some g → f ≡ g
same_file d p q f g same there here = cc

either_flat : (at : ℕ) (bytes : List ℕ) (old flat : ℕ → List ℕ) (now : List ℕ) (k : ℕ) → (now ≡ old k) ⊎ (now ≡ laid at bytes old k) → old k ≡ flat k → (now ≡ flat k) ⊎ (now ≡ laid at bytes flat k)
either_flat at bytes old flat now k (inl is) e = inl (is ∙ e)
either_flat at bytes old flat now k (inr is) e = inr (is ∙ laid_same at bytes old flat k e)

module _ (image : Image) (flat : ℕ → List ℕ) (w : RawWrite) (at faults : ℕ) (part : List ℕ) (d e : Content) (from : w.at ≡ at) (place : w.place ≡ file_of image) where
  -- beside the image's file nothing has changed
  still_alone : (file : Option File) → IsAlone image d → IsPut d w.place file e → IsAlone image e
  still_alone file alone put = alone_put image d e file alone (subst (λ (p : Place). IsPut d p file e) place put)

  same_alone : IsAlone image d → e ≡ d → IsAlone image e
  same_alone alone same = subst (IsAlone image) (sym same) alone

  -- a write that was done
  pub after_write : HoldsFlat image flat d → WriteAt d 1 w.place (w.at / 512) part (Ok tt) e → HoldsWrite image (at / 512) part flat e
  after_write holds wrote_is =
      let same = same_file d w.place (file_of image) wrote_is.0 holds.file place wrote_is.1 holds.there in
      record {
        file = holds.file;
        there = ap e.file (sym place) ∙ wrote_is.3.here ∙ (rw (from, same) refl);
        size = holds.size;
        synced = holds.synced;
        settled = holds.settled;
        sectors = holds.sectors;
        alone = still_alone _ holds.alone wrote_is.3;
      }

  -- a sync that was done
  pub after_sync : HoldsWrite image (at / 512) part flat d → Syncs d 1 w.place (Ok tt) e → HoldsFlat image (laid (at / 512) part flat) e
  after_sync holds sync_is =
      let same = same_file d w.place (file_of image) sync_is.0 (wrote (λ _. true) 1 (at / 512) part holds.file) place sync_is.1 holds.there in
      record {
        file = synced 1 (wrote (λ _. true) 1 (at / 512) part holds.file);
        there = ap e.file (sym place) ∙ sync_is.2.here ∙ (rw same refl);
        size = holds.size;
        synced = without_writes (λ _. true) 1 (at / 512) (sectors_in part) part holds.file.loose ∙ ap (without 1) holds.synced;
        settled = ap (unless_by 1) holds.settled;
        sectors = λ k. seen_laid (at / 512) part holds.file k holds.synced ∙ laid_same (at / 512) part holds.file.stable flat k (holds.sectors k);
        alone = still_alone _ holds.alone sync_is.2;
      }

  -- what host 1 sees where nothing was written
  pub unchanged_seen : HoldsFlat image flat d → e ≡ d → SeenFlat image flat e
  unchanged_seen holds same = record {
    file = holds.file;
    there = ap (λ (c : Content). c.file (file_of image)) same ∙ holds.there;
    size = holds.size;
    settled = holds.settled;
    sectors = λ k. ap (λ ls. unwrap_or (own_of 1 k ls) (holds.file.stable k)) holds.synced ∙ holds.sectors k;
    alone = same_alone holds.alone same;
  }

  -- where the write was done and not synced
  pub written_seen : HoldsWrite image (at / 512) part flat d → e ≡ d → SeenFlat image (laid (at / 512) part flat) e
  written_seen holds same = record {
    file = wrote (λ _. true) 1 (at / 512) part holds.file;
    there = ap (λ (c : Content). c.file (file_of image)) same ∙ holds.there;
    size = holds.size;
    settled = holds.settled;
    sectors = λ k. seen_laid (at / 512) part holds.file k holds.synced ∙ laid_same (at / 512) part holds.file.stable flat k (holds.sectors k);
    alone = same_alone holds.alone same;
  }

  -- where some of its sectors were done
  pub partly_seen : (f : File) (did : ℕ → Bool) → HoldsFlat image flat d → d.file w.place ≡ Some f → IsPut d w.place (Some (wrote did 1 (w.at / 512) part f)) e
      → (mixed : ℕ → List ℕ) × Mixed (at / 512) part flat mixed × SeenFlat image mixed e
  partly_seen f did holds there put =
      let same = same_file d w.place (file_of image) f holds.file place there holds.there in
      let g = wrote did 1 (at / 512) part holds.file in (
        seen 1 g,
        λ k. either_flat (at / 512) part holds.file.stable flat (seen 1 g k) k (seen_after did (at / 512) part holds.file k holds.synced) (holds.sectors k),
        record {
          file = g;
          there = ap e.file (sym place) ∙ put.here ∙ (rw (from, same) refl);
          size = holds.size;
          settled = holds.settled;
          sectors = λ k. refl;
          alone = still_alone _ holds.alone put;
        },
      )
