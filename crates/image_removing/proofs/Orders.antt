-- Names in order, and the folders of an image told apart.
use Rattle.std.proofs.Common.{◌≡◌, ◌≢◌, ◌⊎◌, Bool, true, false, refl, sym, ap, ◌∙◌, inl, inr}
use Rattle.std.specs.declared.cmp.Ordering.{Ordering}
use Rattle.std.specs.declared.cmp.Ordering.TheVariants.{Less, Equal, Greater}
use Rattle.std.proofs.lemmas.Bool.{false≢true}
use Rattle.sd_names.specs.Place.{NameHasIds, name_cmp, parent_of}
use Rattle.sd_names.specs.declared.id.Id.{Id}
use Rattle.sd_names.specs.declared.place.Dir.{Dir}
use Rattle.sd_names.specs.declared.place.Dir.TheVariants as dir
use Rattle.sd_names.specs.declared.place.Name.{Name}
use Rattle.sd_names.proofs.PlaceLemmas.{name_cmp-equal}

-- a name that isn't below another one is that or above it
pub same_or_above : (n m : Name) → NameHasIds n → NameHasIds m → name_cmp n m ≢ Greater → (m ≡ n) ⊎ (name_cmp n m ≡ Less)
same_or_above n m is_n is_m low = go (name_cmp n m) refl
  where
    go : (o : Ordering) → name_cmp n m ≡ o → (m ≡ n) ⊎ (name_cmp n m ≡ Less)
    go Less e = inr e
    go Equal e = inl (sym (name_cmp-equal n m is_n is_m e))
    go Greater e = absurd (low e)

-- the image's own folder isn't the removed one
abbrev is_removed : Dir → Bool
is_removed (dir.Removed sd image) = true
is_removed _ = false

pub own_apart : (sd image : Id) → dir.Image sd image ≢ dir.Removed sd image
own_apart sd image same = false≢true (ap is_removed same)

-- no folder stands in a removed one
holds_none : (q : Dir) → is_removed (parent_of q) ≡ false
holds_none dir.Root = refl
holds_none (dir.Domain sd) = refl
holds_none (dir.DomMd sd) = refl
holds_none (dir.Images sd) = refl
holds_none (dir.Image sd image) = refl
holds_none (dir.Removed sd image) = refl
holds_none (dir.Master sd) = refl
holds_none (dir.Tasks sd) = refl

pub none_inside : (sd image : Id) (q : Dir) → parent_of q ≡ dir.Removed sd image → ⊥
none_inside sd image q inside = false≢true (sym (holds_none q) ∙ ap is_removed inside)
