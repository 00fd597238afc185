-- Listing the folders under the root, to find a pool that is there.
use Rattle.std.specs.Prelude.{◌≡◌, ◌≢◌, ℕ, zero, suc, Bool, true, false, Option, Some, None}
use Rattle.std.specs.declared.cmp.Ordering.TheVariants.{Less, Greater}
use Rattle.sd_names.specs.Id.{IsIdBytes}
use Rattle.sd_names.specs.Place.{dir_cmp}
use Rattle.sd_names.specs.declared.id.Id.{Id}
use Rattle.sd_names.specs.declared.place.Dir.{Dir}
use Rattle.sd_names.specs.declared.place.Dir.TheVariants as dir
use Rattle.shared_disk.specs.Content.{Content, File}
use Rattle.shared_disk.specs.NameCalls.{IsNextDir}
use Rattle.sd_names.specs.declared.refusal.Refusal.{Refusal}
use Rattle.sd_names.specs.declared.refusal.Refusal.TheVariants.{PoolExists}
use Rattle.pool_making.specs.Layout.{metadata_of}
use Rattle.pool_making.specs.declared.making.Stage.{Stage}
use Rattle.pool_making.specs.declared.making.Stage.TheVariants.{Listing, Checking}

-- of each domain whose folder is this one or a lesser one, or a lesser one alone
abbrev pub IsTo : (Id → Type 0) → Option Dir → Type 0
IsTo P None = Unit {0}
IsTo P (Some after) = (p : Id) → IsIdBytes p.0 → dir_cmp (dir.Domain p) after ≢ Greater → P p

abbrev pub IsBelow : (Id → Type 0) → Id → Type 0
IsBelow P q = (p : Id) → IsIdBytes p.0 → dir_cmp (dir.Domain p) (dir.Domain q) ≡ Less → P p

-- none of those has a text
abbrev pub HaveNoneTo : Option Dir → Content → Type 0
HaveNoneTo after d = IsTo (λ p. d.file (metadata_of p) ≡ None) after

abbrev pub HaveNoneBelow : Id → Content → Type 0
HaveNoneBelow q d = IsBelow (λ p. d.file (metadata_of p) ≡ None) q

-- the domain has a text, and no lesser one has
pub record IsLeastPool (q : Id) (d : Content) : Type 0 where
  pub there : (f : File) × (d.file (metadata_of q) ≡ Some f)
  pub least : HaveNoneBelow q d

-- at most so many folders are listed from here on
abbrev pub ListsAtMost : ℕ → Content → Option Dir → Type 0
ListsAtMost zero d after = (q : Dir) → IsNextDir d dir.Root after (Some q) → ⊥
ListsAtMost (suc n) d after = (q : Dir) → IsNextDir d dir.Root after (Some q) → ListsAtMost n d (Some q)

-- ---- the texts of an earlier moment

-- each text that was there then still is
abbrev pub AreStillThere : (Id → Bool) → Content → Type 0
AreStillThere had d = (p : Id) → had p ≡ true → d.file (metadata_of p) ≡ None → ⊥

-- what a listing has passed had none then
abbrev pub HadNone : (Id → Bool) → Stage → Type 0
HadNone had (Listing after) = IsTo (λ p. had p ≡ false) after
HadNone had (Checking q) = IsBelow (λ p. had p ≡ false) q
HadNone had _ = (p : Id) → IsIdBytes p.0 → had p ≡ false

-- 31 names a domain that has a text, below which none had one then
abbrev pub IsFirstFound : Refusal → (Id → Bool) → Content → Type 0
IsFirstFound (PoolExists q) had d = ((f : File) × (d.file (metadata_of q) ≡ Some f)) × IsBelow (λ p. had p ≡ false) q
IsFirstFound refusal had d = Unit {0}
