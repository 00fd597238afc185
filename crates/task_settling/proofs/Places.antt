-- Where a file stands whose image is cleared away, and where it stood before.
use Rattle.std.proofs.Common.{◌≡◌, ◌≢◌, ◌⊎◌, Option, Some, None, refl, sym, ap, subst, ◌∙◌, inl, inr}
use Rattle.sd_names.specs.declared.id.Id.{Id}
use Rattle.sd_names.specs.declared.place.Dir.{Dir}
use Rattle.sd_names.specs.declared.place.Dir.TheVariants as dir
use Rattle.sd_names.specs.declared.place.Name.{Name}
use Rattle.sd_names.specs.declared.place.Place.{Place}
use Rattle.shared_disk.specs.Content.{Content, File}
use Rattle.shared_disk.specs.NameCalls.{place_in}
use Rattle.folder_layout.specs.Layout.{HoldsName}
use Rattle.lease_area.specs.Hold.{leases_of}
use Rattle.image_clearing.specs.Steps.{IsApart}
use Rattle.pool_model.proofs.Roles.{is_place}

pub none_some : {A : Type 0} (o : Option A) (a : A) → o ≡ None → o ≡ Some a → ⊥
none_some o a e f = cc

-- a place that is, or isn't, in a folder
in_dir : (at : Place) (q : Dir) → (at.dir ≡ q) ⊎ (at.dir ≢ q)
in_dir at q = go (is_place at (place_in q at.name))
  where
    go : (at ≡ place_in q at.name) ⊎ (at ≢ place_in q at.name) → (at.dir ≡ q) ⊎ (at.dir ≢ q)
    go (inl same) = inl (ap (λ (x : Place). x.dir) same)
    go (inr apart) = inr (λ same. apart (ap (λ (x : Dir). place_in x at.name) same))

as_in : (at : Place) (q : Dir) → at.dir ≡ q → at ≡ place_in q at.name
as_in at q same = ap (λ (x : Dir). place_in x at.name) same

-- a file of the second content stood in the first one, at its place or, before its folder was moved, in the image's own
pub record StoodAt (sd image : Id) (at : Place) (f : File) (d : Content) : Type 0 where
  pub was : Place
  pub there : d.file was ≡ Some f
  pub name : was.name ≡ at.name
  pub folder : (was.dir ≡ at.dir) ⊎ ((was.dir ≡ dir.Image sd image) × (at.dir ≡ dir.Removed sd image))

module _ (sd image : Id) (d e : Content) (apart : IsApart sd image d e) where
  stayed : (at : Place) (f : File) → e.file at ≡ d.file at → e.file at ≡ Some f → StoodAt sd image at f d
  stayed at f same there = record { was = at; there = sym same ∙ there; name = refl; folder = inl refl }

  in_own : (n : Name) (f : File) → e.file (place_in (dir.Image sd image) n) ≡ Some f → StoodAt sd image (place_in (dir.Image sd image) n) f d
  in_own n f there = go (apart.own n)
    where
      go : (e.file (place_in (dir.Image sd image) n) ≡ d.file (place_in (dir.Image sd image) n)) ⊎ (e.file (place_in (dir.Image sd image) n) ≡ None)
          → StoodAt sd image (place_in (dir.Image sd image) n) f d
      go (inl same) = stayed (place_in (dir.Image sd image) n) f same there
      go (inr none) = absurd (none_some (e.file (place_in (dir.Image sd image) n)) f none there)

  in_removed : (n : Name) (f : File) → e.file (place_in (dir.Removed sd image) n) ≡ Some f → StoodAt sd image (place_in (dir.Removed sd image) n) f d
  in_removed n f there = go (apart.removed n)
    where
      go : (e.file (place_in (dir.Removed sd image) n) ≡ d.file (place_in (dir.Removed sd image) n))
          ⊎ ((e.file (place_in (dir.Removed sd image) n) ≡ None) ⊎ (e.file (place_in (dir.Removed sd image) n) ≡ d.file (place_in (dir.Image sd image) n)))
          → StoodAt sd image (place_in (dir.Removed sd image) n) f d
      go (inl same) = stayed (place_in (dir.Removed sd image) n) f same there
      go (inr (inl none)) = absurd (none_some (e.file (place_in (dir.Removed sd image) n)) f none there)
      go (inr (inr moved)) = record { was = place_in (dir.Image sd image) n; there = sym moved ∙ there; name = refl; folder = inr (refl, refl) }

  pub stood_at : (at : Place) (f : File) → at ≢ leases_of sd → e.file at ≡ Some f → StoodAt sd image at f d
  stood_at at f other there = first (in_dir at (dir.Image sd image))
    where
      second : at.dir ≢ dir.Image sd image → (at.dir ≡ dir.Removed sd image) ⊎ (at.dir ≢ dir.Removed sd image) → StoodAt sd image at f d
      second own (inl same) = let is = as_in at (dir.Removed sd image) same in
          subst (λ (x : Place). StoodAt sd image x f d) (sym is) (in_removed at.name f (subst (λ (x : Place). e.file x ≡ Some f) is there))
      second own (inr removed) = stayed at f (apart.files at own removed other) there

      first : (at.dir ≡ dir.Image sd image) ⊎ (at.dir ≢ dir.Image sd image) → StoodAt sd image at f d
      first (inl same) = let is = as_in at (dir.Image sd image) same in
          subst (λ (x : Place). StoodAt sd image x f d) (sym is) (in_own at.name f (subst (λ (x : Place). e.file x ≡ Some f) is there))
      first (inr own) = second own (in_dir at (dir.Removed sd image))

-- such a place may hold the name
pub still_holds : (sd image : Id) (at : Place) (f : File) (d : Content) (stood : StoodAt sd image at f d) → HoldsName stood.was.dir stood.was.name → HoldsName at.dir at.name
still_holds sd image at f d stood holds = go stood.folder
  where
    named : HoldsName stood.was.dir at.name
    named = subst (λ (n : Name). HoldsName stood.was.dir n) stood.name holds

    go : (stood.was.dir ≡ at.dir) ⊎ ((stood.was.dir ≡ dir.Image sd image) × (at.dir ≡ dir.Removed sd image)) → HoldsName at.dir at.name
    go (inl same) = subst (λ (q : Dir). HoldsName q at.name) same named
    go (inr (was, is)) = subst (λ (q : Dir). HoldsName q at.name) (sym is) (subst (λ (q : Dir). HoldsName q at.name) was named)
