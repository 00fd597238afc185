-- What a removal knows, through changes of others and crashes.
use Rattle.std.proofs.Common.{◌≡◌, ◌⊎◌, Option, Some, None, refl, sym, ap, ◌∙◌, inl, inr}
use Rattle.std.proofs.lemmas.Bool.{false≢true}
use Rattle.sd_names.specs.declared.id.Id.{Id}
use Rattle.sd_names.specs.declared.place.Dir.{Dir}
use Rattle.sd_names.specs.declared.place.Dir.TheVariants as dir
use Rattle.sd_names.specs.declared.place.Name.{Name}
use Rattle.sd_names.specs.declared.place.Place.{Place}
use Rattle.shared_disk.specs.Content.{Content, File}
use Rattle.shared_disk.specs.NameCalls.{ShowsName, place_in}
use Rattle.shared_disk.specs.WellFormed.{IsWellFormed}
use Rattle.image_removing.specs.Steps.{HaveIds, IsGone, IsOwnGone, IsReady, KnowsIn}
use Rattle.image_removing.specs.declared.removing.Pass.{Pass}
use Rattle.image_removing.specs.declared.removing.Pass.TheVariants.{Earlier, Moved}
use Rattle.image_removing.specs.declared.removing.Stage.{Stage}
use Rattle.image_removing.specs.declared.removing.Stage.TheVariants.{Listing, Removing, Ending, Moving}

module _ (own removed : Dir) (d e : Content) (own_is : e.dir own ≡ d.dir own) (removed_is : e.dir removed ≡ d.dir removed)
    (files : (q : Place) → (q.dir ≡ own) ⊎ (q.dir ≡ removed) → e.file q ≡ d.file q) where
  shown_own : (n : Name) → ShowsName e own n → ShowsName d own n
  shown_own n shows = (shows.0, sym (files (place_in own n) (inl refl)) ∙ shows.1)

  shown_removed : (n : Name) → ShowsName e removed n → ShowsName d removed n
  shown_removed n shows = (shows.0, sym (files (place_in removed n) (inr refl)) ∙ shows.1)

  ids_kept : HaveIds own removed d → HaveIds own removed e
  ids_kept ids n (inl shows) = ids n (inl (shown_own n shows))
  ids_kept ids n (inr shows) = ids n (inr (shown_removed n shows))

  own_kept : (pass : Pass) → IsOwnGone pass own d → IsOwnGone pass own e
  own_kept Earlier gone = tt
  own_kept Moved gone = own_is ∙ gone

  ready_kept : (s : Stage) → IsReady s own removed d → IsReady s own removed e
  ready_kept (Listing pass after) k = (λ n shows. k.0 n (shown_removed n shows), own_kept pass k.1)
  ready_kept (Removing pass n) k = (λ m shows. k.0 m (shown_removed m shows), own_kept pass k.1)
  ready_kept (Ending pass) k = (λ n shows. k.0 n (shown_removed n shows), own_kept pass k.1)
  ready_kept Moving k = removed_is ∙ k

  pub knows_kept : (s : Stage) → KnowsIn s own removed d → KnowsIn s own removed e
  knows_kept s k = (ids_kept k.0, ready_kept s k.1)

-- no file stands where no folder is
pub no_files : (sd image : Id) (d : Content) (q : Place) → IsWellFormed d → IsGone sd image d → (q.dir ≡ dir.Image sd image) ⊎ (q.dir ≡ dir.Removed sd image) → d.file q ≡ None
no_files sd image d q well gone inside = go (d.file q) refl inside
  where
    there : (f : File) → d.file q ≡ Some f → (q.dir ≡ dir.Image sd image) ⊎ (q.dir ≡ dir.Removed sd image) → ⊥
    there f is (inl own) = false≢true (sym gone.own ∙ ap (λ (x : Dir). d.dir x) (sym own) ∙ well.folders q f is)
    there f is (inr own) = false≢true (sym gone.removed ∙ ap (λ (x : Dir). d.dir x) (sym own) ∙ well.folders q f is)

    go : (o : Option File) → d.file q ≡ o → (q.dir ≡ dir.Image sd image) ⊎ (q.dir ≡ dir.Removed sd image) → d.file q ≡ None
    go None is own = is
    go (Some f) is own = absurd (there f is own)
