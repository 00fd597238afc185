-- Which folders are there.
use Rattle.std.specs.Prelude.{◌≡◌, ◌≢◌, ◌⊎◌, true, false, List, [], ◌∷◌, Option, Some, None}
use Rattle.sd_names.specs.declared.id.Id.{Id}
use Rattle.sd_names.specs.declared.place.Dir.{Dir}
use Rattle.sd_names.specs.declared.place.Dir.TheVariants.{Root, Domain, DomMd, Images, Master, Tasks}
use Rattle.sd_names.specs.declared.place.Place.{Place}
use Rattle.shared_disk.specs.Content.{Content}
use Rattle.sd_names.specs.Place.{parent_of}

-- the folder is one of these
abbrev pub IsAmong : List Dir → Dir → Type 0
IsAmong [] q = ⊥
IsAmong (dir ∷ dirs) q = (q ≡ dir) ⊎ IsAmong dirs q

-- these folders are there and no others
pub record HasFolders (dirs : List Dir) (d : Content) : Type 0 where
  pub there : (q : Dir) → IsAmong dirs q → d.dir q ≡ true
  pub only : (q : Dir) → (IsAmong dirs q → ⊥) → d.dir q ≡ false

-- these folders are there and no others, and no file is
pub record HasJust (dirs : List Dir) (d : Content) : Type 0 where
  pub folders : HasFolders dirs d
  pub files : (q : Place) → d.file q ≡ None

-- the folders of the first list alone are there, or with them the first of the second, or its first two, and so on
abbrev pub HasSome : List Dir → List Dir → Content → Type 0
HasSome known [] d = HasJust known d
HasSome known (dir ∷ dirs) d = HasJust known d ⊎ HasSome (dir ∷ known) dirs d

-- The folders can be made one after the other where those of the first list are there: each stands in one that is there
-- by then, and isn't there itself.
abbrev pub IsOrderly : List Dir → List Dir → Type 0
IsOrderly known [] = Unit {0}
IsOrderly known (dir ∷ dirs) = (dir ≢ Root) × IsAmong known (parent_of dir) × (IsAmong known dir → ⊥) × IsOrderly (dir ∷ known) dirs

-- of these folders none but the first stands in Root
abbrev pub IsUnderFirst : List Dir → Type 0
IsUnderFirst [] = Unit {0}
IsUnderFirst (dir ∷ dirs) = (q : Dir) → IsAmong dirs q → parent_of q ≢ Root

-- those of the first list, and then each of the second
abbrev pub with_made : List Dir → List Dir → List Dir
with_made known [] = known
with_made known (dir ∷ dirs) = with_made (dir ∷ known) dirs

-- the folders of a domain, in the order in which they are made
abbrev pub folders_of : Id → List Dir
folders_of sd = Domain sd ∷ DomMd sd ∷ Images sd ∷ Master sd ∷ Tasks sd ∷ []

-- the domain's folders and Root are there, and nothing else
abbrev pub HasDomain : Id → Content → Type 0
HasDomain sd d = HasJust (with_made (Root ∷ []) (folders_of sd)) d

-- Root is there and the first so many of the domain's folders, and nothing else
abbrev pub HasPartOfDomain : Id → Content → Type 0
HasPartOfDomain sd d = HasSome (Root ∷ []) (folders_of sd) d

-- where the disk tells what it holds, the domain's folder isn't there
abbrev pub HasNoFolder : Id → Option Content → Type 0
HasNoFolder sd content = (d : Content) → content ≡ Some d → d.dir (Domain sd) ≡ false

-- these folders weren't there and were made, and nothing else has changed
pub record AreMade (dirs : List Dir) (d e : Content) : Type 0 where
  pub absent : (q : Dir) → IsAmong dirs q → d.dir q ≡ false
  pub there : (q : Dir) → IsAmong dirs q → e.dir q ≡ true
  pub others : (q : Dir) → (IsAmong dirs q → ⊥) → e.dir q ≡ d.dir q
  pub files : (q : Place) → e.file q ≡ d.file q

-- some of these folders may have been made, and nothing else has changed: each that was there is there
pub record MayBeMade (dirs : List Dir) (d e : Content) : Type 0 where
  pub kept : (q : Dir) → d.dir q ≡ true → e.dir q ≡ true
  pub others : (q : Dir) → (IsAmong dirs q → ⊥) → e.dir q ≡ d.dir q
  pub files : (q : Place) → e.file q ≡ d.file q
