-- What one item that was admitted, or has a fault, says of its position.
use Rattle.std.proofs.Common.{◌≡◌, ◌⊎◌, inl, inr, ℕ, suc, ◌*◌, ◌/◌, ◌<◌, ◌≤◌, nat_lt, arith, Bool, true, false, Option, Some, None, refl, sym, ap, ◌∙◌, subst, eqb-true}
use Rattle.std.specs.Prelude.{◌==◌, ◌&&◌, ◌||◌, not, if◌then◌else◌}
use Rattle.std.proofs.Math.Nat.{div-lt_iff_lt-mul}
use Rattle.std.proofs.lemmas.Nat.{pow_pos}
use Rattle.std.proofs.lemmas.Bool.{cases_lt}
use Rattle.std.proofs.lemmas.Bool.Decides.{nat_tests}
use Rattle.sd_names.specs.declared.fault.LayerFault.{LayerFault}
use Rattle.sd_names.specs.declared.fault.LayerFault.TheVariants.{LowRefcount, Shared}
use Rattle.image_model.specs.Layer.{Tables, cluster_size, count_of}
use Rattle.image_model.specs.Soundness.{FaultAt, FirstFault, Item, again, item, names, own, own_fault, uncounted}
use Rattle.layer_walk.specs.Items.{NamesCluster}
use Rattle.layer_walk.specs.Checked.{Checked, Finding, against, free_after, low_name, or_fault, shared_name, with_name, without_name}
use Rattle.layer_walk.specs.Bits.{room_of}
use Rattle.layer_walk.specs.Marks.{Admits, MarksFile, KeepsFile, KeepsWalk, free_by, used_by}
use Rattle.layer_walk.specs.Positions.{Holds, HoldsBy, IsItem, IsStopped, ReachedAt, StopsBy}
use Rattle.layer_walk.specs.declared.marks.Marks.{Marks}
use Rattle.layer_walk.proofs.Admit.{advance, inside, named_before}

-- ---- what is wrong with an item, in the first walk

module _ (cluster : ℕ) (free : ℕ → Bool) where
  fine_name : (o : Option ℕ) (f : Option LayerFault) → None ≡ or_fault f (shared_name cluster free o) → (f ≡ None) × ((place : ℕ) → o ≡ Some place → free (place / cluster) ≡ true)
  fine_name o (Some fault) e = absurd cc
  fine_name None None e = (refl, λ place is. absurd cc)
  fine_name (Some p) None e = (refl, λ place is. let same : p ≡ place = cc in ap (λ n. free (n / cluster)) (sym same) ∙ test (free (p / cluster)) e)
    where
      test : (b : Bool) → None ≡ (if b then None else Some (Shared p)) → b ≡ true
      test true e = refl
      test false e = absurd cc

  -- a fault is the item's own, or its name is one of a cluster that isn't free
  abbrev pub IsShared : Option ℕ → LayerFault → Type 0
  IsShared o fault = (place : ℕ) × (o ≡ Some place) × (free (place / cluster) ≡ false) × (fault ≡ Shared place)

  faulty_name : (o : Option ℕ) (f : Option LayerFault) (fault : LayerFault) → Some fault ≡ or_fault f (shared_name cluster free o)
      → (f ≡ Some fault) ⊎ ((f ≡ None) × IsShared o fault)
  faulty_name o (Some g) fault e = inl cc
  faulty_name None None fault e = absurd cc
  faulty_name (Some p) None fault e = test (free (p / cluster)) refl e
    where
      test : (b : Bool) → free (p / cluster) ≡ b → Some fault ≡ (if b then None else Some (Shared p)) → (◌≡◌ {A = Option LayerFault} None (Some fault)) ⊎ ((◌≡◌ {A = Option LayerFault} None None) × IsShared (Some p) fault)
      test true is e = absurd cc
      test false is e = inr (refl, (p, refl, is, cc))

-- ---- and in the second

module _ (size cluster : ℕ) (free : ℕ → Bool) where
  high_name : (o : Option ℕ) (place : ℕ) → None ≡ low_name size cluster free o → o ≡ Some place → place < size → free (place / cluster) ≡ true
  high_name None place e is lt = absurd cc
  high_name (Some p) place e is lt =
      let same : p ≡ place = cc in
      ap (λ n. free (n / cluster)) (sym same) ∙ test (nat_lt p size) (free (p / cluster)) (subst (λ n. nat_lt n size ≡ true) (sym same) (below place size lt)) e
    where
      below : (a b : ℕ) → a < b → nat_lt a b ≡ true
      below a b lt = grind (arith, nat_tests)

      test : (a b : Bool) → a ≡ true → None ≡ (if a && not b then Some (LowRefcount p) else None) → b ≡ true
      test true true f e = refl
      test true false f e = absurd cc
      test false b f e = absurd cc

  found_name : (o : Option ℕ) (fault : LayerFault) → Some fault ≡ low_name size cluster free o → (place : ℕ) × (o ≡ Some place) × (free (place / cluster) ≡ false) × (fault ≡ LowRefcount place)
  found_name None fault e = absurd cc
  found_name (Some p) fault e = test (nat_lt p size) (free (p / cluster)) refl e
    where
      test : (a b : Bool) → free (p / cluster) ≡ b → Some fault ≡ (if a && not b then Some (LowRefcount p) else None)
          → (place : ℕ) × (Some p ≡ Some place) × (free (place / cluster) ≡ false) × (fault ≡ LowRefcount place)
      test true false is e = (p, refl, is, cc)
      test true true is e = absurd cc
      test false b is e = absurd cc

-- ---- the clusters that were named

-- a cluster that begins in the file has a bit
pub has_bit : (t : Tables) (m : Marks) (place : ℕ) → MarksFile m t → place < t.file.size → place / cluster_size t < room_of m.free
has_bit t m place fits lt = (div-lt_iff_lt-mul (pow_pos t.header.cluster_bits)).1 (omega (arith, lt, wide))
  where
    wide : t.file.size ≤ room_of m.free * cluster_size t
    wide = subst (λ s. s ≤ room_of m.free * cluster_size t) fits.size (subst (λ c. m.size ≤ room_of m.free * c) fits.cluster m.room)

below : (a b : ℕ) → a < b → nat_lt a b ≡ true
below a b lt = grind (arith, nat_tests)

not_used : (a f : Bool) → f ≡ true → (a && not f) ≡ false
not_used true true e = refl
not_used false f e = refl
not_used true false e = absurd cc

is_used : (a f : Bool) → a ≡ true → f ≡ false → (a && not f) ≡ true
is_used true false e g = refl
is_used true true e g = absurd cc
is_used false f e g = absurd cc

module _ (t : Tables) (before after : Marks) (room : room_of after.free ≡ room_of before.free) where
  used_after : (o : Option ℕ) (c : ℕ) → free_by after c ≡ without_name (cluster_size t) (free_by before) o c
      → ((place : ℕ) → o ≡ Some place → place / cluster_size t < room_of before.free)
      → used_by after c ≡ with_name (cluster_size t) (used_by before) o c
  used_after None c is inner = ap (λ n. nat_lt c n && not (free_by after c)) room ∙ ap (λ f. nat_lt c (room_of before.free) && not f) is
  used_after (Some place) c is inner = ap (λ n. nat_lt c n && not (free_by after c)) room ∙ go (c == place / cluster_size t) refl is
    where
      here : c ≡ place / cluster_size t → nat_lt c (room_of before.free) ≡ true
      here same = subst (λ n. nat_lt n (room_of before.free) ≡ true) (sym same) (below _ _ (inner place refl))

      go : (b : Bool) → (c == place / cluster_size t) ≡ b → free_by after c ≡ (if b then false else free_by before c) → nat_lt c (room_of before.free) && not (free_by after c) ≡ (b || used_by before c)
      go true e f = is_used _ _ (here (eqb-true c (place / cluster_size t) e)) f
      go false e f = ap (λ g. nat_lt c (room_of before.free) && not g) f

-- a map with the same free clusters
same_checked : (t : Tables) (capacity n : ℕ) (before after : Marks) → room_of after.free ≡ room_of before.free → ((c : ℕ) → free_by after c ≡ free_by before c) → Checked t capacity n (used_by before) → Checked t capacity n (used_by after)
same_checked t capacity n before after room same known = record {
  once = known.once;
  aligned = known.aligned;
  marked = λ c e. known.marked c (sym (used c) ∙ e);
  unmarked = λ c b. used c ∙ known.unmarked c b;
}
  where
    used : (c : ℕ) → used_by after c ≡ used_by before c
    used c = ap (λ n. nat_lt c n && not (free_by after c)) room ∙ ap (λ f. nat_lt c (room_of before.free) && not f) (same c)

-- ---- one position more, in the first walk

module _ (t : Tables) (capacity n : ℕ) (before after : Marks) (x : Item) (is : IsItem t.file.size x (item t capacity n)) (aligned : NamesCluster (cluster_size t) x)
    (known : Checked t capacity n (used_by before)) (fits : MarksFile before t) (room : room_of after.free ≡ room_of before.free) where
  first_wrong : (fault : LayerFault) → ((c : ℕ) → free_by after c ≡ free_by before c)
      → (own_fault t.file.size x ≡ Some fault) ⊎ ((own_fault t.file.size x ≡ None) × IsShared (cluster_size t) (free_by before) x.name fault) → IsStopped t capacity n after fault
  first_wrong fault same (inl e) = record { checked = same_checked t capacity n before after room same known; here = own (sym is.own ∙ e) }
  first_wrong fault same (inr e) =
      let fine : own_fault t.file.size (item t capacity n) ≡ None = sym is.own ∙ e.0 in
      let equal : x ≡ item t capacity n = is.same fine in
      let place : ℕ = e.1.0 in
      let name : names t capacity n ≡ Some place = ap (λ (y : Item). y.name) (sym equal) ∙ e.1.1 in
      let named = named_before t capacity n (used_by before) known (subst (NamesCluster (cluster_size t)) equal aligned) place fine name
      (is_used _ _ (below _ _ (has_bit t before place fits (inside t.file.size (item t capacity n) place fine name))) e.1.2) in
      record { checked = same_checked t capacity n before after room same known; here = subst (FaultAt t capacity n) (sym e.1.3) (again fine name named) }

  first_fine : ((c : ℕ) → free_by after c ≡ without_name (cluster_size t) (free_by before) x.name c)
      → (own_fault t.file.size x ≡ None) × ((place : ℕ) → x.name ≡ Some place → free_by before (place / cluster_size t) ≡ true) → Checked t capacity (suc n) (used_by after)
  first_fine marks e =
      let fine : own_fault t.file.size (item t capacity n) ≡ None = sym is.own ∙ e.0 in
      let equal : x ≡ item t capacity n = is.same fine in
      let free : (place : ℕ) → names t capacity n ≡ Some place → free_by before (place / cluster_size t) ≡ true = λ place at. e.1 place (ap (λ (y : Item). y.name) equal ∙ at) in
      advance t capacity n (used_by before) known (subst (NamesCluster (cluster_size t)) equal aligned) (used_by after) fine
      (λ place at. not_used _ _ (free place at))
      (λ c. used_after t before after room (names t capacity n) c (marks c ∙ ap (λ y. without_name (cluster_size t) (free_by before) y.name c) equal)
      (λ place at. has_bit t before place fits (inside t.file.size (item t capacity n) place fine at)))

-- ---- in the second

module _ (t : Tables) (capacity n : ℕ) (before after : Marks) (x : Item) (is : IsItem t.file.size x (item t capacity n))
    (known : Finding t capacity n (free_by before)) where
  -- the position of a name with the count 0 isn't one of those that were looked at
  later : n ≤ known.at
  later = go (cases_lt known.at n)
    where
      go : (known.at < n) ⊎ (n ≤ known.at) → n ≤ known.at
      go (inl lt) = let some = known.counted known.at known.place lt known.name in absurd (omega (arith, some, known.none))
      go (inr le) = le

  within : n < known.stop
  within = omega (arith, later, known.before)

  equal : x ≡ item t capacity n
  equal = is.same (known.once n within).fine

  second_wrong : (fault : LayerFault) → (place : ℕ) × (x.name ≡ Some place) × (free_by before (place / cluster_size t) ≡ false) × (fault ≡ LowRefcount place) → FirstFault t capacity fault
  second_wrong fault e =
      let name : names t capacity n ≡ Some e.0 = ap (λ (y : Item). y.name) (sym equal) ∙ e.1 in
      subst (FirstFault t capacity) (sym e.3) (record {
        at = n;
        here = uncounted (known.once n within).fine name ((known.once n within).once e.0 name) (known.low n e.0 within name e.2);
        before = λ m lt. record { fine = (known.once m (omega (arith, lt, within))).fine; once = (known.once m (omega (arith, lt, within))).once; counted = λ place at. known.counted m place lt at };
      })

  second_fine : ((c : ℕ) → free_by after c ≡ free_by before c) → ((place : ℕ) → x.name ≡ Some place → place < t.file.size → free_by before (place / cluster_size t) ≡ true)
      → Finding t capacity (suc n) (free_by after)
  second_fine marks high = record {
    stop = known.stop;
    once = known.once;
    high = λ m place lt at e. known.high m place lt at (sym (marks (place / cluster_size t)) ∙ e);
    low = λ m place lt at e. known.low m place lt at (sym (marks (place / cluster_size t)) ∙ e);
    at = known.at;
    before = known.before;
    place = known.place;
    name = known.name;
    none = known.none;
    counted = λ m place lt at. go m place lt at (cases_lt m n);
  }
    where
      go : (m place : ℕ) → m < suc n → names t capacity m ≡ Some place → (m < n) ⊎ (n ≤ m) → 0 < count_of t (place / cluster_size t)
      go m place lt at (inl less) = known.counted m place less at
      go m place lt at (inr more) =
          let same : n ≡ m = omega (arith, lt, more) in
          let here : names t capacity n ≡ Some place = ap (names t capacity) same ∙ at in
          known.high n place within here
          (high place (ap (λ (y : Item). y.name) equal ∙ here) (inside t.file.size (item t capacity n) place (known.once n within).fine here))

-- ---- in either

moved_by : (o : Option ℕ) (t : Tables) (capacity n : ℕ) (before after : Marks) (x : Item) (result : Option LayerFault) → MarksFile before t → room_of after.free ≡ room_of before.free → after.noted ≡ o
    → result ≡ against o t.file.size (cluster_size t) (free_by before) x
    → (result ≡ None → (c : ℕ) → free_by after c ≡ free_after o (cluster_size t) (free_by before) x.name c)
    → ((fault : LayerFault) → result ≡ Some fault → (c : ℕ) → free_by after c ≡ free_by before c)
    → IsItem t.file.size x (item t capacity n) → NamesCluster (cluster_size t) x → HoldsBy o t capacity n before → ReachedAt t capacity n after result
moved_by None t capacity n before after x None fits room mode verdict marks same is aligned known =
    subst (λ o. HoldsBy o t capacity (suc n) after) (sym mode)
    (first_fine t capacity n before after x is aligned known fits room (marks refl) (fine_name (cluster_size t) (free_by before) x.name (own_fault t.file.size x) verdict))
moved_by None t capacity n before after x (Some fault) fits room mode verdict marks same is aligned known =
    subst (λ o. StopsBy o t capacity n after fault) (sym mode)
    (first_wrong t capacity n before after x is aligned known fits room fault (same fault refl) (faulty_name (cluster_size t) (free_by before) x.name (own_fault t.file.size x) fault verdict))
moved_by (Some noted) t capacity n before after x None fits room mode verdict marks same is aligned known =
    subst (λ o. HoldsBy o t capacity (suc n) after) (sym mode)
    (second_fine t capacity n before after x is known (marks refl) (λ place at lt. high_name t.file.size (cluster_size t) (free_by before) x.name place verdict at lt))
moved_by (Some noted) t capacity n before after x (Some fault) fits room mode verdict marks same is aligned known =
    subst (λ o. StopsBy o t capacity n after fault) (sym mode)
    (second_wrong t capacity n before after x is known fault (found_name t.file.size (cluster_size t) (free_by before) x.name fault verdict))

pub moved : (t : Tables) (capacity n : ℕ) (before after : Marks) (x : Item) (result : Option LayerFault) → Admits before after x result → MarksFile before t
    → IsItem t.file.size x (item t capacity n) → NamesCluster (cluster_size t) x → Holds t capacity n before → ReachedAt t capacity n after result
moved t capacity n before after x result admits fits is aligned known =
    moved_by before.noted t capacity n before after x result fits admits.keeps.file.room admits.keeps.noted
    (admits.verdict ∙ ap (λ s. against before.noted s before.cluster (free_by before) x) fits.size ∙ ap (λ c. against before.noted t.file.size c (free_by before) x) fits.cluster)
    (λ e c. admits.marks e c ∙ ap (λ k. free_after before.noted k (free_by before) x.name c) fits.cluster)
    admits.same is aligned known

-- what was admitted has no fault of its own
fine_by : (o : Option ℕ) (t : Tables) (capacity n : ℕ) (before : Marks) (x : Item) → None ≡ against o t.file.size (cluster_size t) (free_by before) x
    → IsItem t.file.size x (item t capacity n) → HoldsBy o t capacity n before → own_fault t.file.size (item t capacity n) ≡ None
fine_by None t capacity n before x verdict is known = sym is.own ∙ (fine_name (cluster_size t) (free_by before) x.name (own_fault t.file.size x) verdict).0
fine_by (Some noted) t capacity n before x verdict is known = (known.once n (within t capacity n before before x is known)).fine

pub admitted_fine : (t : Tables) (capacity n : ℕ) (before after : Marks) (x : Item) → Admits before after x None → MarksFile before t
    → IsItem t.file.size x (item t capacity n) → Holds t capacity n before → own_fault t.file.size (item t capacity n) ≡ None
admitted_fine t capacity n before after x admits fits is known =
    fine_by before.noted t capacity n before x
    (admits.verdict ∙ ap (λ s. against before.noted s before.cluster (free_by before) x) fits.size ∙ ap (λ c. against before.noted t.file.size c (free_by before) x) fits.cluster)
    is known

pub same_item : (size : ℕ) (x y : Item) → x ≡ y → IsItem size x y
same_item size x y e = record { own = ap (own_fault size) e; same = λ fine. e }

-- ---- the map is of the same file still

pub fits_file : (t : Tables) (before after : Marks) → KeepsFile before after → MarksFile before t → MarksFile after t
fits_file t before after keeps fits = record { size = keeps.size ∙ fits.size; cluster = keeps.cluster ∙ fits.cluster }

pub fits_after : (t : Tables) (before after : Marks) → KeepsWalk before after → MarksFile before t → MarksFile after t
fits_after t before after keeps fits = fits_file t before after keeps.file fits

pub file_same : (m : Marks) → KeepsFile m m
file_same m = record { size = refl; cluster = refl; room = refl }

pub file_both : (a b c : Marks) → KeepsFile a b → KeepsFile b c → KeepsFile a c
file_both a b c x y = record { size = y.size ∙ x.size; cluster = y.cluster ∙ x.cluster; room = y.room ∙ x.room }

pub keeps_same : (m : Marks) → KeepsWalk m m
keeps_same m = record { file = file_same m; noted = refl }

pub keeps_both : (a b c : Marks) → KeepsWalk a b → KeepsWalk b c → KeepsWalk a c
keeps_both a b c x y = record { file = file_both a b c x.file y.file; noted = y.noted ∙ x.noted }
