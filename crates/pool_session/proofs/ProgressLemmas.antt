-- Folders that are made one after the other, over a disk that holds anything.
use Rattle.std.proofs.Common.{◌≡◌, ◌≢◌, ◌⊎◌, List, [], ◌∷◌, Bool, true, false, ap, refl, sym, subst, ◌∙◌, inl, inr}
use Rattle.std.proofs.lemmas.Bool.{false≢true}
use Rattle.sd_names.specs.declared.place.Dir.{Dir}
use Rattle.sd_names.specs.declared.place.Dir.TheVariants.{Root}
use Rattle.sd_names.specs.declared.place.Place.{Place}
use Rattle.sd_names.specs.declared.refusal.Refusal.{Refusal}
use Rattle.shared_disk.specs.Content.{Content}
use Rattle.sd_names.specs.Place.{parent_of}
use Rattle.shared_disk.specs.Calls.{IsDirMade, IsSame}
use Rattle.shared_disk.specs.WellFormed.{IsWellFormed}
use Rattle.pool_session.specs.Fault.{SameOrFault}
use Rattle.pool_session.specs.FileCalls.{DirRefused}
use Rattle.pool_session.specs.Folders.{AreMade, IsAmong, IsUnderFirst, MayBeMade}

-- of these folders those of the second list are left to be made
pub record Progress (dirs left : List Dir) (d e : Content) : Type 0 where
  pub inside : (q : Dir) → IsAmong left q → IsAmong dirs q
  pub kept : (q : Dir) → d.dir q ≡ true → e.dir q ≡ true
  pub others : (q : Dir) → (IsAmong dirs q → ⊥) → e.dir q ≡ d.dir q
  pub files : (q : Place) → e.file q ≡ d.file q
  pub each : (q : Dir) → IsAmong dirs q → IsAmong left q ⊎ ((d.dir q ≡ false) × (e.dir q ≡ true))

pub none_made : (dirs : List Dir) (d : Content) → Progress dirs dirs d d
none_made dirs d = record { inside = λ q among. among; kept = λ q there. there; others = λ q not. refl; files = λ q. refl; each = λ q among. inl among }

made_keeps : (d e : Content) (dir q : Dir) → IsDirMade d dir e → d.dir q ≡ true → e.dir q ≡ true
made_keeps d e dir q made there = made.put.others q (λ is. false≢true (sym made.free ∙ ap d.dir (sym is) ∙ there)) ∙ there

not_before : (d e : Content) (q : Dir) (b : Bool) → d.dir q ≡ b → (d.dir q ≡ true → e.dir q ≡ true) → e.dir q ≡ false → d.dir q ≡ false
not_before d e q false was keeps absent = was
not_before d e q true was keeps absent = absurd (false≢true (sym absent ∙ keeps was))

made_each : (dirs left : List Dir) (dir : Dir) (d e f : Content) (q : Dir) → Progress dirs (dir ∷ left) d e → IsDirMade e dir f
    → IsAmong (dir ∷ left) q ⊎ ((d.dir q ≡ false) × (e.dir q ≡ true)) → IsAmong left q ⊎ ((d.dir q ≡ false) × (f.dir q ≡ true))
made_each dirs left dir d e f q progress made (inl (inl is)) =
    inr (not_before d e q (d.dir q) refl (progress.kept q) (ap e.dir is ∙ made.free), ap f.dir is ∙ made.put.here)
made_each dirs left dir d e f q progress made (inl (inr among)) = inl among
made_each dirs left dir d e f q progress made (inr was) = inr (was.0, made_keeps e f dir q made was.1)

-- one more is made
pub one_made : (dirs left : List Dir) (dir : Dir) (d e f : Content) → Progress dirs (dir ∷ left) d e → IsDirMade e dir f → Progress dirs left d f
one_made dirs left dir d e f progress made = record {
  inside = λ q among. progress.inside q (inr among);
  kept = λ q there. made_keeps e f dir q made (progress.kept q there);
  others = λ q not. made.put.others q (λ is. not (subst (λ (p : Dir). IsAmong dirs p) (sym is) (progress.inside dir (inl refl)))) ∙ progress.others q not;
  files = λ q. made.put.files q ∙ progress.files q;
  each = λ q among. made_each dirs left dir d e f q progress made (progress.each q among);
}

all_of : (dirs : List Dir) (d e : Content) (q : Dir) → ⊥ ⊎ ((d.dir q ≡ false) × (e.dir q ≡ true)) → (d.dir q ≡ false) × (e.dir q ≡ true)
all_of dirs d e q (inl none) = absurd none
all_of dirs d e q (inr both) = both

-- none is left
pub all_made : (dirs : List Dir) (d e : Content) → Progress dirs [] d e → AreMade dirs d e
all_made dirs d e progress = record {
  absent = λ q among. (let both = all_of dirs d e q (progress.each q among) in both.0);
  there = λ q among. (let both = all_of dirs d e q (progress.each q among) in both.1);
  others = progress.others;
  files = progress.files;
}

some_made : (dirs left : List Dir) (d e : Content) → Progress dirs left d e → MayBeMade dirs d e
some_made dirs left d e progress = record { kept = progress.kept; others = progress.others; files = progress.files }

-- Those that are known were made, but for Root, and no others; before the first was made nothing has changed, and then none that is
-- left stands in Root.
pub record Rooted (dirs known left : List Dir) (d e : Content) : Type 0 where
  pub made : (q : Dir) → IsAmong known q → (q ≡ Root) ⊎ ((d.dir q ≡ false) × (e.dir q ≡ true))
  pub unknown : (q : Dir) → (IsAmong known q → ⊥) → e.dir q ≡ d.dir q
  pub under : ((left ≡ dirs) × IsSame d e) ⊎ ((q : Dir) → IsAmong left q → parent_of q ≢ Root)

root_known : (d : Content) (q : Dir) → (q ≡ Root) ⊎ ⊥ → (q ≡ Root) ⊎ ((d.dir q ≡ false) × (d.dir q ≡ true))
root_known d q (inl is) = inl is
root_known d q (inr none) = absurd none

pub none_rooted : (dirs : List Dir) (d : Content) → Rooted dirs (Root ∷ []) dirs d d
none_rooted dirs d = record { made = λ q among. root_known d q among; unknown = λ q not. refl; under = inl (refl, refl) }

module _ (dirs known left : List Dir) (dir : Dir) (d e f : Content) (rooted : Rooted dirs known (dir ∷ left) d e) (new : IsAmong known dir → ⊥) where
  known_made : (q : Dir) → IsDirMade e dir f → (q ≡ Root) ⊎ ((d.dir q ≡ false) × (e.dir q ≡ true)) → (q ≡ Root) ⊎ ((d.dir q ≡ false) × (f.dir q ≡ true))
  known_made q made (inl root) = inl root
  known_made q made (inr was) = inr (was.0, made_keeps e f dir q made was.1)

  now_known : (q : Dir) → IsDirMade e dir f → (q ≡ dir) ⊎ IsAmong known q → (q ≡ Root) ⊎ ((d.dir q ≡ false) × (f.dir q ≡ true))
  now_known q made (inl is) = inr (ap d.dir is ∙ sym (rooted.unknown dir new) ∙ made.free, ap f.dir is ∙ made.put.here)
  now_known q made (inr among) = known_made q made (rooted.made q among)

  now_under : IsUnderFirst dirs → ((dir ∷ left ≡ dirs) × IsSame d e) ⊎ ((q : Dir) → IsAmong (dir ∷ left) q → parent_of q ≢ Root) → (q : Dir) → IsAmong left q → parent_of q ≢ Root
  now_under first (inl is) = subst (λ (all : List Dir). IsUnderFirst all) (sym is.0) first
  now_under first (inr under) = λ q among. under q (inr among)

  pub one_rooted : IsUnderFirst dirs → IsDirMade e dir f → Rooted dirs (dir ∷ known) left d f
  one_rooted first made = record {
    made = λ q among. now_known q made among;
    unknown = λ q not. made.put.others q (λ is. not (inl is)) ∙ rooted.unknown q (λ among. not (inr among));
    under = inr (now_under first rooted.under);
  }

  above_there : IsWellFormed e → (parent_of dir ≡ Root) ⊎ ((d.dir (parent_of dir) ≡ false) × (e.dir (parent_of dir) ≡ true)) → e.dir (parent_of dir) ≡ true
  above_there well (inl root) = ap e.dir root ∙ well.root
  above_there well (inr made) = made.1

  above_new : (parent_of dir ≢ Root) → (parent_of dir ≡ Root) ⊎ ((d.dir (parent_of dir) ≡ false) × (e.dir (parent_of dir) ≡ true)) → d.dir (parent_of dir) ≡ false
  above_new other (inl root) = absurd (other root)
  above_new other (inr made) = made.0

  -- one that was there
  found : IsWellFormed d → IsAmong known (parent_of dir) → e.dir dir ≡ true → IsSame e f → ((dir ∷ left ≡ dirs) × IsSame d e) ⊎ ((q : Dir) → IsAmong (dir ∷ left) q → parent_of q ≢ Root) → IsSame d f
  found well above there same (inl is) = same ∙ is.1
  found well above there same (inr under) =
      absurd (false≢true (sym (above_new (under dir (inl refl)) (rooted.made (parent_of dir) above)) ∙ well.parents dir (sym (rooted.unknown dir new) ∙ there)))

  -- the next one was refused
  pub next_refused : (refusal : Refusal) → IsWellFormed d → IsWellFormed e → IsAmong known (parent_of dir) → Progress dirs (dir ∷ left) d e → DirRefused dir refusal e f → SameOrFault refusal (MayBeMade dirs) d f
  next_refused refusal well_d well_e above progress (inl (same, inl absent)) = absurd (false≢true (sym absent ∙ above_there well_e (rooted.made (parent_of dir) above)))
  next_refused refusal well_d well_e above progress (inl (same, inr there)) = inl (found well_d above there same rooted.under)
  next_refused refusal well_d well_e above progress (inr (n, is, inl same)) =
      inr (n, is, subst (λ (c : Content). MayBeMade dirs d c) (sym same) (some_made dirs (dir ∷ left) d e progress))
  next_refused refusal well_d well_e above progress (inr (n, is, inr made)) = inr (n, is, some_made dirs left d f (one_made dirs left dir d e f progress made))
