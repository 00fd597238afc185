-- The least name and the least folder, where one more is looked at, and as a content shows them.
use Rattle.std.proofs.Common.{◌≡◌, ◌≢◌, ℕ, ◌⊎◌, Bool, true, false, List, [], ◌∷◌, ◌++◌, Option, Some, None, Ordering, Less, Equal, Greater, refl, sym, ap, subst, subst₂, ◌∙◌, inl, inr}
use Rattle.std.specs.Cmp.{IsTotalOrder}
use Rattle.std.specs.List.{Contains, list_any}
use Rattle.std.specs.Ordering.{is_gt, ordering_reverse}
use Rattle.std.proofs.lemmas.List.{get_or_default}
use Rattle.std.proofs.lemmas.Bool.{false≢true}
use Rattle.std.proofs.lemmas.Cmp.{tied_itself, upto}
use Rattle.std.proofs.lemmas.List.Elements.{Contains-append_cases}
use Rattle.std.proofs.lemmas.Option.{none-some, same_Some}
use Rattle.sd_names.proofs.PlaceLemmas.{dir_cmp-total, name_cmp-total}
use Rattle.sd_names.specs.Place.{dir_cmp, name_cmp}
use Rattle.sd_names.specs.declared.place.Dir.{Dir}
use Rattle.sd_names.specs.declared.place.Dir.TheVariants.{Root}
use Rattle.sd_names.specs.declared.place.Name.{Name}
use Rattle.sd_names.specs.declared.place.Place.{Place}
use Rattle.memory_disk.specs.declared.entry.FileEntry.{FileEntry}
use Rattle.memory_disk.specs.declared.entry.Write.{Write}
use Rattle.memory_disk.specs.declared.sector_map.Sectors.{Sectors}
use Rattle.memory_disk.specs.Listing.{HasDir, HasName, IsLeastDir, IsLeastName, IsLeast, IsLesser}
use Rattle.shared_disk.specs.NameCalls.{IsDirAbove, IsNameAbove, IsNextDir, IsNextName, ShowsDir, ShowsName, place_in}
use Rattle.sd_names.specs.Place.{parent_of}
use Rattle.shared_disk.specs.Places.{dir_is}
use Rattle.memory_disk.specs.Store.{AreApart, content_of, file_of, found, has_dir, slot}
use Rattle.memory_disk.proofs.Contents.{file_at, none_at, or_true}
use Rattle.shared_disk.proofs.Outcomes.{contains_here, contains_more, cons_cases, nothing_in}
use Rattle.shared_disk.proofs.Places.{dir_is-apart, dir_is-itself, dir_is-same}
use Rattle.memory_disk.proofs.Slots.{found_at, found_slot, slot_within}

below_gt : (o : Ordering) → o ≢ Greater → is_gt o ≡ false
below_gt Less h = refl
below_gt Equal h = refl
below_gt Greater h = absurd (h refl)

not_gt : (o : Ordering) → is_gt o ≡ false → o ≢ Greater
not_gt o h e = false≢true (sym h ∙ ap is_gt e)

not_above : {K : Type 0} {R : K → K → Ordering} → IsTotalOrder R → (a b c : K) → R a b ≢ Greater → R b c ≢ Greater → R a c ≢ Greater
not_above {R = R} o a b c h k = not_gt (R a c) (upto o a b c (below_gt (R a b) h) (below_gt (R b c) k))

not_itself : {K : Type 0} {R : K → K → Ordering} → IsTotalOrder R → (a : K) → R a a ≢ Greater
not_itself {R = R} o a = not_gt (R a a) (ap is_gt (tied_itself o a))

not_back : {K : Type 0} {R : K → K → Ordering} → IsTotalOrder R → (a b : K) → R a b ≡ Greater → R b a ≢ Greater
not_back {R = R} o a b e = not_gt (R b a) (ap is_gt (o.antisymm b a ∙ ap ordering_reverse e))

-- where one more has the property, the least is the lesser of it and the least so far
pub least_more : {K : Type 0} {R : K → K → Ordering} (o : IsTotalOrder R) (S T P : K → Type 0) (x is : K) (least : Option K) → T x → P x → ((y : K) → S y → T y) → ((y : K) → T y → S y ⊎ (y ≡ x))
    → IsLesser R least x is → IsLeast S P R least → IsLeast T P R (Some is)
least_more {R = R} o S T P x is None has above wider cases lesser none = (
  subst T (sym lesser) has,
  subst P (sym lesser) above,
  λ y h p. elim (cases y h) [ inl s ↦ absurd (none y s p) | inr e ↦ subst₂ (λ a b. R a b ≢ Greater) (sym lesser) (sym e) (not_itself o x) ],
)
least_more {R = R} o S T P x is (Some l) has above wider cases (inl w) least = (
  subst T (sym w.0) (wider l least.0),
  subst P (sym w.0) least.1,
  λ y h p. elim (cases y h) [
    | inl s ↦ subst (λ a. R a y ≢ Greater) (sym w.0) (least.2 y s p)
    | inr e ↦ subst₂ (λ a b. R a b ≢ Greater) (sym w.0) (sym e) w.1
  ],
)
least_more {R = R} o S T P x is (Some l) has above wider cases (inr w) least = (
  subst T (sym w.0) has,
  subst P (sym w.0) above,
  λ y h p. elim (cases y h) [
    | inl s ↦ subst (λ a. R a y ≢ Greater) (sym w.0) (not_above o x l y (not_back o l x w.1) (least.2 y s p))
    | inr e ↦ subst₂ (λ a b. R a b ≢ Greater) (sym w.0) (sym e) (not_itself o x)
  ],
)

-- where the same have the property
pub least_same : {K : Type 0} (R : K → K → Ordering) (S T P : K → Type 0) (least : Option K) → ((y : K) → S y → T y) → ((y : K) → T y → P y → S y) → IsLeast S P R least → IsLeast T P R least
least_same R S T P None wider cases none = λ y h p. none y (cases y h p) p
least_same R S T P (Some l) wider cases least = (wider l least.0, least.1, λ y h p. least.2 y (cases y h p) p)

-- the last of some
contains_last : {X : Type 0} (xs : List X) (x : X) → Contains (xs ++ x ∷ []) x
contains_last [] x = contains_here x []
contains_last (y ∷ ys) x = contains_more y x (ys ++ x ∷ []) (contains_last ys x)

contains_front : {X : Type 0} (xs : List X) (x y : X) → Contains xs y → Contains (xs ++ x ∷ []) y
contains_front [] x y h = absurd (nothing_in y h)
contains_front {X} (z ∷ zs) x y h =
    elim (cons_cases z y zs h) [
      | inl e ↦ subst (λ (w : X). Contains (z ∷ zs ++ x ∷ []) w) e (contains_here z (zs ++ x ∷ []))
      | inr g ↦ contains_more z y (zs ++ x ∷ []) (contains_front zs x y g)
    ]

one_cases : {X : Type 0} (x y : X) → Contains (x ∷ []) y → x ≡ y
one_cases x y h = elim (cons_cases x y [] h) [ inl e ↦ e | inr g ↦ absurd (nothing_in y g) ]

-- names
pub name_wider : (front : List (Option FileEntry)) (s : Option FileEntry) (dir : Dir) (name : Name) → HasName front dir name → HasName (front ++ s ∷ []) dir name
name_wider front s dir name h = (h.0, contains_front front s (Some h.0) h.1, h.2)

pub name_cases : (front : List (Option FileEntry)) (s : Option FileEntry) (dir : Dir) (name : Name) → HasName (front ++ s ∷ []) dir name → HasName front dir name ⊎ ((f : FileEntry) × (s ≡ Some f) × (f.place ≡ place_in dir name))
name_cases front s dir name h =
    elim (Contains-append_cases front (s ∷ []) (Some h.0) h.1) [ inl g ↦ inl (h.0, g, h.2) | inr g ↦ inr (h.0, one_cases s (Some h.0) g, h.2) ]

pub name_more : (front : List (Option FileEntry)) (f : FileEntry) (dir : Dir) (after least : Option Name) (is : Name) → f.place.dir ≡ dir → IsNameAbove after f.place.name → IsLesser name_cmp least f.place.name is
    → IsLeastName front dir after least → IsLeastName (front ++ Some f ∷ []) dir after (Some is)
name_more front f dir after least is at above lesser was =
    least_more name_cmp-total (HasName front dir) (HasName (front ++ Some f ∷ []) dir) (IsNameAbove after) f.place.name is least
    (f, contains_last front (Some f), λ i. record { dir = at i; name = f.place.name }) above (name_wider front (Some f) dir)
    (λ name h. elim (name_cases front (Some f) dir name h) [ inl g ↦ inl g | inr g ↦ inr (ap (λ (p : Place). p.name) (sym g.2) ∙ ap (λ (x : FileEntry). x.place.name) (sym (same_Some f g.0 g.1))) ]) lesser was

pub name_same : (front : List (Option FileEntry)) (s : Option FileEntry) (dir : Dir) (after least : Option Name) → ((f : FileEntry) → s ≡ Some f → f.place.dir ≡ dir → IsNameAbove after f.place.name → ⊥)
    → IsLeastName front dir after least → IsLeastName (front ++ s ∷ []) dir after least
name_same front s dir after least none was =
    least_same name_cmp (HasName front dir) (HasName (front ++ s ∷ []) dir) (IsNameAbove after) least (name_wider front s dir)
    (λ name h above. elim (name_cases front s dir name h) [
      | inl g ↦ g
      | inr g ↦ absurd (none g.0 g.1 (ap (λ (p : Place). p.dir) g.2) (subst (λ (n : Name). IsNameAbove after n) (ap (λ (p : Place). p.name) (sym g.2)) above))
    ]) was

-- folders
pub dir_wider : (front : List Dir) (d dir q : Dir) → HasDir front dir q → HasDir (front ++ d ∷ []) dir q
dir_wider front d dir q h = (contains_front front d q h.0, h.1, h.2)

pub dir_cases : (front : List Dir) (d dir q : Dir) → HasDir (front ++ d ∷ []) dir q → HasDir front dir q ⊎ (q ≡ d)
dir_cases front d dir q h = elim (Contains-append_cases front (d ∷ []) q h.0) [ inl g ↦ inl (g, h.1, h.2) | inr g ↦ inr (sym (one_cases d q g)) ]

pub dir_more : (front : List Dir) (d dir : Dir) (after least : Option Dir) (is : Dir) → d ≢ Root → parent_of d ≡ dir → IsDirAbove after d → IsLesser dir_cmp least d is
    → IsLeastDir front dir after least → IsLeastDir (front ++ d ∷ []) dir after (Some is)
dir_more front d dir after least is other at above lesser was =
    least_more dir_cmp-total (HasDir front dir) (HasDir (front ++ d ∷ []) dir) (IsDirAbove after) d is least (contains_last front d, other, at) above (dir_wider front d dir) (dir_cases front d dir) lesser was

pub dir_same : (front : List Dir) (d dir : Dir) (after least : Option Dir) → (d ≢ Root → parent_of d ≡ dir → IsDirAbove after d → ⊥) → IsLeastDir front dir after least → IsLeastDir (front ++ d ∷ []) dir after least
dir_same front d dir after least none was =
    least_same dir_cmp (HasDir front dir) (HasDir (front ++ d ∷ []) dir) (IsDirAbove after) least (dir_wider front d dir)
    (λ q h above. elim (dir_cases front d dir q h) [
      | inl g ↦ g
      | inr e ↦ absurd (none (λ u. h.1 (e ∙ u)) (ap parent_of (sym e) ∙ h.2) (subst (λ (x : Dir). IsDirAbove after x) e above))
    ]) was

-- as a content shows them
pub slot_in : (n : ℕ) (slots : List (Option FileEntry)) (f : FileEntry) → slot n slots ≡ Some f → Contains slots (Some f)
slot_in n slots f is = let within = slot_within n slots f is in (n, within, get_or_default slots n (Some f) None within ∙ is)

in_slot : (slots : List (Option FileEntry)) (f : FileEntry) → Contains slots (Some f) → (n : ℕ) × (slot n slots ≡ Some f)
in_slot slots f h = (h.0, get_or_default slots h.0 None (Some f) h.1 ∙ h.2)

shows_step : (dirs : List Dir) (slots : List (Option FileEntry)) (stable : Sectors) (log : List Write) (dir : Dir) (name : Name) (o : Option (ℕ × FileEntry)) → found (place_in dir name) 0 slots ≡ o
    → ShowsName (content_of dirs slots stable log) dir name → HasName slots dir name
shows_step dirs slots stable log dir name None e h = absurd (none-some h.0 (sym (none_at _ (found (place_in dir name) 0 slots) e) ∙ h.1))
shows_step dirs slots stable log dir name (Some r) e h = let w = found_slot (place_in dir name) slots r.0 r.1 e in (r.1, slot_in r.0 slots r.1 w.0, w.1)

pub name_shown : (dirs : List Dir) (slots : List (Option FileEntry)) (stable : Sectors) (log : List Write) (dir : Dir) (name : Name) → ShowsName (content_of dirs slots stable log) dir name → HasName slots dir name
name_shown dirs slots stable log dir name h = shows_step dirs slots stable log dir name (found (place_in dir name) 0 slots) refl h

pub shown_name : (dirs : List Dir) (slots : List (Option FileEntry)) (stable : Sectors) (log : List Write) (dir : Dir) (name : Name) → AreApart slots → HasName slots dir name → ShowsName (content_of dirs slots stable log) dir name
shown_name dirs slots stable log dir name apart h =
    let at = in_slot slots h.0 h.1 in
    (file_of stable log at.0 h.0, file_at dirs slots stable log (place_in dir name) (found_at (place_in dir name) slots at.0 h.0 apart at.1 h.2))

next_name_step : (dirs : List Dir) (slots : List (Option FileEntry)) (stable : Sectors) (log : List Write) (dir : Dir) (after least : Option Name) → IsLeast (ShowsName (content_of dirs slots stable log) dir) (IsNameAbove after) name_cmp least
    → IsNextName (content_of dirs slots stable log) dir after least
next_name_step dirs slots stable log dir after None h = h
next_name_step dirs slots stable log dir after (Some name) h = h

pub is_next_name : (dirs : List Dir) (slots : List (Option FileEntry)) (stable : Sectors) (log : List Write) (dir : Dir) (after least : Option Name) → AreApart slots → IsLeastName slots dir after least
    → IsNextName (content_of dirs slots stable log) dir after least
is_next_name dirs slots stable log dir after least apart h =
    next_name_step dirs slots stable log dir after least (least_same name_cmp (HasName slots dir) (ShowsName (content_of dirs slots stable log) dir) (IsNameAbove after) least
    (λ name g. shown_name dirs slots stable log dir name apart g) (λ name g above. name_shown dirs slots stable log dir name g) h)

-- a folder that is there was made, or is Root
listed_step : (q d : Dir) (ds : List Dir) (b : Bool) → dir_is d q ≡ b → (list_any (λ r. dir_is r q) ds ≡ true → Contains ds q) → list_any (λ r. dir_is r q) (d ∷ ds) ≡ true → Contains (d ∷ ds) q
listed_step q d ds true t more h = subst (λ (x : Dir). Contains (d ∷ ds) x) (dir_is-same d q t) (contains_here d ds)
listed_step q d ds false t more h = contains_more d q ds (more (rw t at h))

listed : (q : Dir) (ds : List Dir) → list_any (λ r. dir_is r q) ds ≡ true → Contains ds q
listed q [] h = absurd (false≢true h)
listed q (d ∷ ds) h = listed_step q d ds (dir_is d q) refl (listed q ds) h

pub dir_listed : (q : Dir) (dirs : List Dir) → q ≢ Root → has_dir dirs q ≡ true → Contains dirs q
dir_listed q dirs other h = listed q dirs (rw (dir_is-apart Root q (λ e. other (sym e))) at h)

there_step : (q d : Dir) (ds : List Dir) → (d ≡ q) ⊎ (list_any (λ r. dir_is r q) ds ≡ true) → list_any (λ r. dir_is r q) (d ∷ ds) ≡ true
there_step q d ds (inl e) = let t : dir_is d q ≡ true = subst (λ (x : Dir). dir_is d x ≡ true) e (dir_is-itself d) in rw t refl
there_step q d ds (inr h) = rw h (or_true (dir_is d q))

list_there : (q : Dir) (ds : List Dir) → Contains ds q → list_any (λ r. dir_is r q) ds ≡ true
list_there q [] h = absurd (nothing_in q h)
list_there q (d ∷ ds) h = there_step q d ds (elim (cons_cases d q ds h) [ inl e ↦ inl e | inr g ↦ inr (list_there q ds g) ])

pub listed_dir : (q : Dir) (dirs : List Dir) → Contains dirs q → has_dir dirs q ≡ true
listed_dir q dirs h = rw (list_there q dirs h) (or_true (dir_is Root q))

pub dir_shown : (dirs : List Dir) (slots : List (Option FileEntry)) (stable : Sectors) (log : List Write) (dir q : Dir) → ShowsDir (content_of dirs slots stable log) dir q → HasDir dirs dir q
dir_shown dirs slots stable log dir q h = (dir_listed q dirs h.other h.there, h.other, h.inside)

pub shown_dir : (dirs : List Dir) (slots : List (Option FileEntry)) (stable : Sectors) (log : List Write) (dir q : Dir) → HasDir dirs dir q → ShowsDir (content_of dirs slots stable log) dir q
shown_dir dirs slots stable log dir q h = record { other = h.1; inside = h.2; there = listed_dir q dirs h.0 }

next_dir_step : (dirs : List Dir) (slots : List (Option FileEntry)) (stable : Sectors) (log : List Write) (dir : Dir) (after least : Option Dir) → IsLeast (ShowsDir (content_of dirs slots stable log) dir) (IsDirAbove after) dir_cmp least
    → IsNextDir (content_of dirs slots stable log) dir after least
next_dir_step dirs slots stable log dir after None h = h
next_dir_step dirs slots stable log dir after (Some q) h = h

pub is_next_dir : (dirs : List Dir) (slots : List (Option FileEntry)) (stable : Sectors) (log : List Write) (dir : Dir) (after least : Option Dir) → IsLeastDir dirs dir after least
    → IsNextDir (content_of dirs slots stable log) dir after least
is_next_dir dirs slots stable log dir after least h =
    next_dir_step dirs slots stable log dir after least (least_same dir_cmp (HasDir dirs dir) (ShowsDir (content_of dirs slots stable log) dir) (IsDirAbove after) least
    (λ q g. shown_dir dirs slots stable log dir q g) (λ q g above. dir_shown dirs slots stable log dir q g) h)
