-- The files of an image: which of them this host has synced.
use Rattle.std.proofs.Common.{◌≡◌, ◌≢◌, ◌⊎◌, ℕ, ◌==◌, Bool, true, false, if◌then◌else◌, Option, Some, None, refl, sym, ap, ◌∙◌, subst, inl, inr, eq-eqb, unwrap_or}
use Rattle.std.proofs.lemmas.Bool.{false≢true}
use Rattle.std.proofs.lemmas.Option.{none-some}
use Rattle.sd_names.specs.declared.id.Id.{Id}
use Rattle.sd_names.specs.declared.place.Dir.TheVariants as dir
use Rattle.sd_names.specs.declared.place.Name.{Name}
use Rattle.sd_names.specs.declared.place.Place.{Place}
use Rattle.shared_disk.specs.Calls.{IsPut, synced}
use Rattle.shared_disk.specs.Content.{Content, File, unless_by}
use Rattle.shared_disk.specs.Crash.{IsSettledFor}
use Rattle.shared_disk.specs.NameCalls.{IsNameAbove, IsNextName, place_in}
use Rattle.shared_disk.specs.Places.{name_is, place_is}
use Rattle.shared_disk.specs.WellFormed.{IsWellFormed}
use Rattle.shared_disk.proofs.AtPlace.{no_file, one_file}
use Rattle.shared_disk.proofs.Outcomes.{without_apart}
use Rattle.shared_disk.proofs.Places.{name_is-itself, name_is-same, place_is-itself, place_is-same}
use Rattle.lease_area.specs.Hold.{leases_of}
use Rattle.image_removing.proofs.Orders.{same_or_above}
use Rattle.sector_freeing.specs.Knowing.{AreSynced, AreSyncedBut, HaveIds}

-- ---- a file that is synced

none_fresh : (host : ℕ) (o : Option ℕ) → unless_by host o ≢ Some host
none_fresh host None is = none-some host is
none_fresh host (Some m) is = go (m == host) refl is
  where
    go : (t : Bool) → (m == host) ≡ t → (if t then None else Some m) ≡ Some host → ⊥
    go true same is = none-some host is
    go false apart is = false≢true (sym apart ∙ eq-eqb m host (ap (λ (x : Option ℕ). unwrap_or x m) is))

pub synced_settled : (host : ℕ) (f : File) → IsSettledFor host (synced host f)
synced_settled host f = record { loose = without_apart host f.loose; fresh = none_fresh host f.fresh }

-- ---- a file that takes the place of another

-- no name joins
pub shown_before : (d e : Content) (p q : Place) (f g h : File) → d.file p ≡ Some f → IsPut d p (Some g) e → e.file q ≡ Some h → (x : File) × (d.file q ≡ Some x)
shown_before d e p q f g h was put there = go (place_is q p) refl
  where
    go : (t : Bool) → place_is q p ≡ t → (x : File) × (d.file q ≡ Some x)
    go true is = (f, ap (λ (r : Place). d.file r) (place_is-same q p is) ∙ was)
    go false apart = (h, sym (put.others q (λ same. false≢true (sym apart ∙ ap (λ (r : Place). place_is r p) same ∙ place_is-itself p))) ∙ there)

pub ids_put : (sd : Id) (d e : Content) (p : Place) (f g : File) → d.file p ≡ Some f → IsPut d p (Some g) e → HaveIds sd d → HaveIds sd e
ids_put sd d e p f g was put ids image n shows = ids image n (shown_before d e p (place_in (dir.Image sd image) n) f g shows.0 was put shows.1)

-- ---- the leases file isn't among an image's

pub leases_apart : (sd image other : Id) (n : Name) → place_in (dir.Image sd image) n ≢ leases_of other
leases_apart sd image other n same = folder_apart (ap (λ (q : Place). q.dir) same)
  where
    folder_apart : dir.Image sd image ≡ dir.DomMd other → ⊥
    folder_apart e = cc

-- ---- the files of a folder

-- a folder that isn't there has none
pub none_there : (host : ℕ) (sd image : Id) (d : Content) → IsWellFormed d → d.dir (dir.Image sd image) ≡ false → AreSynced host sd image d
none_there host sd image d well gone n f there = absurd (false≢true (sym gone ∙ well.folders (place_in (dir.Image sd image) n) f there))

-- none is left behind the last name
pub none_above : (host : ℕ) (sd image : Id) (after : Option Name) (d : Content) → AreSyncedBut (IsNameAbove after) host (dir.Image sd image) d → IsNextName d (dir.Image sd image) after None → AreSynced host sd image d
none_above host sd image after d known last n f there = go (known n f there)
  where
    go : IsNameAbove after n ⊎ IsSettledFor host f → IsSettledFor host f
    go (inl above) = absurd (last n (f, there) above)
    go (inr is) = is

-- the next name is left, and those above it
pub next_left : (host : ℕ) (sd image : Id) (after : Option Name) (n : Name) (d : Content) → HaveIds sd d → AreSyncedBut (IsNameAbove after) host (dir.Image sd image) d
    → IsNextName d (dir.Image sd image) after (Some n) → AreSyncedBut (λ m. (m ≡ n) ⊎ IsNameAbove (Some n) m) host (dir.Image sd image) d
next_left host sd image after n d ids known next m f there = go (known m f there)
  where
    go : IsNameAbove after m ⊎ IsSettledFor host f → ((m ≡ n) ⊎ IsNameAbove (Some n) m) ⊎ IsSettledFor host f
    go (inl above) = inl (same_or_above n m (ids image n next.0) (ids image m (f, there)) (next.2 m (f, there) above))
    go (inr is) = inr is

-- that file is gone
pub one_gone : (host : ℕ) (sd image : Id) (n : Name) (d : Content) → AreSyncedBut (λ m. (m ≡ n) ⊎ IsNameAbove (Some n) m) host (dir.Image sd image) d → d.file (place_in (dir.Image sd image) n) ≡ None
    → AreSyncedBut (IsNameAbove (Some n)) host (dir.Image sd image) d
one_gone host sd image n d known none m f there = go (known m f there)
  where
    go : ((m ≡ n) ⊎ IsNameAbove (Some n) m) ⊎ IsSettledFor host f → IsNameAbove (Some n) m ⊎ IsSettledFor host f
    go (inl (inl same)) = absurd (no_file f (d.file (place_in (dir.Image sd image) m)) (ap (λ (x : Name). d.file (place_in (dir.Image sd image) x)) same ∙ none) there)
    go (inl (inr above)) = inl above
    go (inr is) = inr is

-- it is synced
module _ (host : ℕ) (sd image : Id) (n : Name) (f : File) (d e : Content) (put : IsPut d (place_in (dir.Image sd image) n) (Some (synced host f)) e) where
  other_name : (m : Name) → name_is m n ≡ false → place_in (dir.Image sd image) m ≢ place_in (dir.Image sd image) n
  other_name m apart same = false≢true (sym apart ∙ ap (λ (q : Place). name_is q.name n) same ∙ name_is-itself n)

  pub one_synced : AreSyncedBut (λ m. (m ≡ n) ⊎ IsNameAbove (Some n) m) host (dir.Image sd image) d → AreSyncedBut (IsNameAbove (Some n)) host (dir.Image sd image) e
  one_synced known m g there = go (name_is m n) refl
    where
      left : ((m ≡ n) ⊎ IsNameAbove (Some n) m) ⊎ IsSettledFor host g → name_is m n ≡ false → IsNameAbove (Some n) m ⊎ IsSettledFor host g
      left (inl (inl same)) apart = absurd (false≢true (sym apart ∙ ap (λ (x : Name). name_is x n) same ∙ name_is-itself n))
      left (inl (inr above)) apart = inl above
      left (inr is) apart = inr is

      go : (t : Bool) → name_is m n ≡ t → IsNameAbove (Some n) m ⊎ IsSettledFor host g
      go true is =
          let same : e.file (place_in (dir.Image sd image) m) ≡ Some (synced host f) = ap (λ (x : Name). e.file (place_in (dir.Image sd image) x)) (name_is-same m n is) ∙ put.here in
          inr (subst (λ (x : File). IsSettledFor host x) (one_file (synced host f) g (e.file (place_in (dir.Image sd image) m)) same there) (synced_settled host f))
      go false apart = left (known m g (sym (put.others (place_in (dir.Image sd image) m) (other_name m apart)) ∙ there)) apart
