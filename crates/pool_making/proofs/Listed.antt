-- What a listing of the folders under the root tells of the domains in them.
use Rattle.std.proofs.Common.{◌≡◌, ◌≢◌, Bool, true, false, [], Option, Some, None, refl, sym, ap, subst, ◌∙◌}
use Rattle.std.proofs.lemmas.Bool.{false≢true}
use Rattle.std.specs.Ordering.{ordering_reverse}
use Rattle.std.specs.declared.cmp.Ordering.{Ordering}
use Rattle.std.specs.declared.cmp.Ordering.TheVariants.{Less, Equal, Greater}
use Rattle.sd_names.proofs.PlaceLemmas.{dir_cmp-equal, dir_cmp-total}
use Rattle.sd_names.specs.Id.{IsIdBytes}
use Rattle.sd_names.specs.Place.{dir_cmp}
use Rattle.sd_names.specs.declared.id.Id.{Id}
use Rattle.sd_names.specs.declared.place.Dir.{Dir}
use Rattle.sd_names.specs.declared.place.Dir.TheVariants as dir
use Rattle.shared_disk.specs.Content.{Content, File}
use Rattle.shared_disk.specs.NameCalls.{IsDirAbove, IsNextDir, ShowsDir}
use Rattle.shared_disk.specs.WellFormed.{IsWellFormed}
use Rattle.pool_making.specs.Layout.{metadata_of}
use Rattle.pool_making.specs.Listing.{HaveNoneBelow, HaveNoneTo, IsBelow, IsTo}

-- one answer isn't another
abbrev is_greater : Ordering → Bool
is_greater Greater = true
is_greater _ = false

abbrev is_less : Ordering → Bool
is_less Less = true
is_less _ = false

not_greater : (o : Ordering) → is_greater o ≡ false → o ≢ Greater
not_greater o is same = false≢true (sym is ∙ ap is_greater same)

-- a file of a domain whose folder isn't there isn't there
file_gone : (d : Content) (p : Id) (o : Option File) → d.file (metadata_of p) ≡ o → IsWellFormed d → d.dir (dir.Domain p) ≡ false → d.file (metadata_of p) ≡ None
file_gone d p None is well gone = is
file_gone d p (Some f) is well gone =
    absurd (false≢true (sym gone ∙ well.parents (dir.DomMd p) (well.folders (metadata_of p) f is)))

abbrev is_root : Dir → Bool
is_root dir.Root = true
is_root _ = false

shows : (d : Content) (p : Id) → d.dir (dir.Domain p) ≡ true → ShowsDir d dir.Root (dir.Domain p)
shows d p there = record { other = λ same. false≢true (ap is_root same); inside = refl; there = there }

abbrev domain_in : Dir → Id
domain_in (dir.Domain p) = p
domain_in _ = record { 0 = [] }

-- what is so of each domain without a text
module _ (P : Id → Type 0) (d : Content) (well : IsWellFormed d) (bare : (p : Id) → d.file (metadata_of p) ≡ None → P p) where
  -- a folder that isn't above another one isn't behind it
  behind : (after : Dir) (p : Id) (o : Ordering) → dir_cmp after (dir.Domain p) ≡ o → o ≢ Less → IsTo P (Some after) → IsIdBytes p.0 → P p
  behind after p Less is apart known id = absurd (apart refl)
  behind after p Equal is apart known id = known p id (not_greater _ (ap is_greater (dir_cmp-total.antisymm (dir.Domain p) after ∙ ap ordering_reverse is)))
  behind after p Greater is apart known id = known p id (not_greater _ (ap is_greater (dir_cmp-total.antisymm (dir.Domain p) after ∙ ap ordering_reverse is)))

  -- a folder is above the one that was listed last, or was passed
  above : (after : Option Dir) (p : Id) → IsTo P after → IsIdBytes p.0 → (IsDirAbove after (dir.Domain p) → P p) → P p
  above None p known id if_above = if_above tt
  above (Some after) p known id if_above = by_order (dir_cmp after (dir.Domain p)) refl
    where
      by_order : (o : Ordering) → dir_cmp after (dir.Domain p) ≡ o → P p
      by_order Less is = if_above is
      by_order Equal is = behind after p Equal is (λ same. false≢true (ap is_less same)) known id
      by_order Greater is = behind after p Greater is (λ same. false≢true (ap is_less same)) known id

  -- a folder that is there, or isn't
  by_folder : (p : Id) (t : Bool) → d.dir (dir.Domain p) ≡ t → (ShowsDir d dir.Root (dir.Domain p) → P p) → P p
  by_folder p true is if_there = if_there (shows d p is)
  by_folder p false is if_there = bare p (file_gone d p (d.file (metadata_of p)) refl well is)

  -- below the next folder it is so
  pub is_below : (after : Option Dir) (q : Id) → IsTo P after → IsNextDir d dir.Root after (Some (dir.Domain q)) → IsBelow P q
  is_below after q known next p id less =
      by_folder p (d.dir (dir.Domain p)) refl (λ there. above after p known id
      (λ higher. absurd (next.2 (dir.Domain p) there higher (dir_cmp-total.antisymm (dir.Domain q) (dir.Domain p) ∙ ap ordering_reverse less))))

  -- behind the last folder it is so of all
  pub is_left : (after : Option Dir) (p : Id) → IsTo P after → IsNextDir d dir.Root after None → IsIdBytes p.0 → P p
  is_left after p known next id =
      by_folder p (d.dir (dir.Domain p)) refl (λ there. above after p known id (λ higher. absurd (next (dir.Domain p) there higher)))

-- up to a folder of which it is so
pub is_to : (P : Id → Type 0) (q : Id) → IsBelow P q → P q → IsIdBytes q.0 → IsTo P (Some (dir.Domain q))
is_to P q below here id p has apart = by_order (dir_cmp (dir.Domain p) (dir.Domain q)) refl
  where
    by_order : (o : Ordering) → dir_cmp (dir.Domain p) (dir.Domain q) ≡ o → P p
    by_order Less is = below p has is
    by_order Equal is = subst (λ (x : Dir). P (domain_in x)) (sym (dir_cmp-equal (dir.Domain p) (dir.Domain q) has id is)) here
    by_order Greater is = absurd (apart is)

-- below the next folder no domain has a text, and behind the last one none has
pub none_below : (d : Content) (after : Option Dir) (q : Id) → IsWellFormed d → HaveNoneTo after d → IsNextDir d dir.Root after (Some (dir.Domain q)) → HaveNoneBelow q d
none_below d after q well known next = is_below (λ p. d.file (metadata_of p) ≡ None) d well (λ p none. none) after q known next

pub none_left : (d : Content) (after : Option Dir) (p : Id) → IsWellFormed d → HaveNoneTo after d → IsNextDir d dir.Root after None → IsIdBytes p.0 → d.file (metadata_of p) ≡ None
none_left d after p well known next id = is_left (λ p. d.file (metadata_of p) ≡ None) d well (λ p none. none) after p known next id

-- up to a folder whose domain has no text
pub none_to : (d : Content) (q : Id) → HaveNoneBelow q d → d.file (metadata_of q) ≡ None → IsIdBytes q.0 → HaveNoneTo (Some (dir.Domain q)) d
none_to d q below none id = is_to (λ p. d.file (metadata_of p) ≡ None) q below none id

-- the folders under the root are those of domains
abbrev pub is_domain : Dir → Bool
is_domain (dir.Domain p) = true
is_domain _ = false

pub under_root : (d : Content) (q : Dir) → ShowsDir d dir.Root q → is_domain q ≡ true
under_root d dir.Root is = absurd (is.other refl)
under_root d (dir.Domain p) is = refl
under_root d (dir.DomMd p) is = absurd (false≢true (ap is_root is.inside))
under_root d (dir.Images p) is = absurd (false≢true (ap is_root is.inside))
under_root d (dir.Image p i) is = absurd (false≢true (ap is_root is.inside))
under_root d (dir.Removed p i) is = absurd (false≢true (ap is_root is.inside))
under_root d (dir.Master p) is = absurd (false≢true (ap is_root is.inside))
under_root d (dir.Tasks p) is = absurd (false≢true (ap is_root is.inside))
