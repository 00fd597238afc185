-- Files by number, and the number that is found at a place.
use Rattle.std.proofs.Common.{◌≡◌, ◌≢◌, ◌^◌, ℕ, zero, suc, ◌+◌, ◌-◌, ◌<◌, ◌≤◌, ◌==◌, Bool, true, false, if◌then◌else◌, List, [], ◌∷◌, ◌++◌, length, get_or, drop, drop-cons, map, set, Option, Some, None, is_some, count_by, unwrap_or, eq-eqb, eqb-true, refl, sym, ap, ◌∙◌, subst, arith, add-one, get_or-set_same, get_or-set_other}
use Rattle.std.specs.Option.{option_map, IsSome}
use Rattle.std.proofs.lemmas.Bool.{false≢true}
use Rattle.std.proofs.lemmas.Option.{none-some, same_Some}
use Rattle.std.proofs.Props.{props}
use Rattle.std.proofs.lemmas.List.Sums.{sum_by-append, sum_by-set, sum_by_push}
use Rattle.std.proofs.lemmas.List.{get_or_past, get_or_push}
use Rattle.sd_names.specs.declared.place.Dir.{Dir}
use Rattle.sd_names.specs.declared.place.Place.{Place}
use Rattle.memory_disk.specs.declared.entry.FileEntry.{FileEntry}
use Rattle.memory_disk.specs.Files.{entry_moved}
use Rattle.shared_disk.specs.NameCalls.{place_in}
use Rattle.shared_disk.specs.Places.{dir_is, place_is}
use Rattle.memory_disk.specs.Store.{AreApart, IsSlotPut, found, slot}
use Rattle.shared_disk.proofs.Places.{dir_is-same, place_is-same, place_is-itself, place_is-apart, not_false}

number_same : (n m : ℕ) (g f : FileEntry) → ◌≡◌ {A = Option (ℕ × FileEntry)} (Some (n, g)) (Some (m, f)) → n ≡ m
number_same n m g f e = ap (λ (o : Option (ℕ × FileEntry)). unwrap_or (option_map (λ (r : ℕ × FileEntry). r.0) o) n) e

entry_same : (n m : ℕ) (g f : FileEntry) → ◌≡◌ {A = Option (ℕ × FileEntry)} (Some (n, g)) (Some (m, f)) → g ≡ f
entry_same n m g f e = ap (λ (o : Option (ℕ × FileEntry)). unwrap_or (option_map (λ (r : ℕ × FileEntry). r.1) o) g) e

-- what is found stands at the place, under its number
pub record IsFound (p : Place) (n : ℕ) (slots : List (Option FileEntry)) (m : ℕ) (f : FileEntry) : Type 0 where
  pub from : n ≤ m
  pub is : slot (m - n) slots ≡ Some f
  pub at : f.place ≡ p

later : (p : Place) (n : ℕ) (s : Option FileEntry) (slots : List (Option FileEntry)) (m : ℕ) (f : FileEntry) → IsFound p (n + 1) slots m f → IsFound p n (s ∷ slots) m f
later p n s slots m f w =
    let k : m - n ≡ suc (m - (n + 1)) = omega (arith, w.from) in
    record { from = omega (arith, w.from); is = rw k w.is; at = w.at }

found_step : (p : Place) (n : ℕ) (k : FileEntry) (slots : List (Option FileEntry)) (m : ℕ) (f : FileEntry) (b : Bool) → place_is k.place p ≡ b → found p n (Some k ∷ slots) ≡ Some (m, f)
    → (found p (n + 1) slots ≡ Some (m, f) → IsFound p (n + 1) slots m f) → IsFound p n (Some k ∷ slots) m f
found_step p n k slots m f true t e more =
    let at : n ≡ m = number_same n m k f (rw t at e) in
    let is : k ≡ f = entry_same n m k f (rw t at e) in
    let z : m - n ≡ 0 = omega arith in
    record { from = omega arith; is = rw z (ap (λ (x : FileEntry). Some x) is); at = ap (λ (x : FileEntry). x.place) (sym is) ∙ place_is-same k.place p t }
found_step p n k slots m f false t e more = later p n (Some k) slots m f (more (rw t at e))

pub found_is : (p : Place) (n : ℕ) (slots : List (Option FileEntry)) (m : ℕ) (f : FileEntry) → found p n slots ≡ Some (m, f) → IsFound p n slots m f
found_is p n [] m f e = absurd (none-some (m, f) e)
found_is p n (None ∷ slots) m f e = later p n None slots m f (found_is p (n + 1) slots m f e)
found_is p n (Some k ∷ slots) m f e = found_step p n k slots m f (place_is k.place p) refl e (found_is p (n + 1) slots m f)

-- where nothing is found nothing stands at the place
hit : (p : Place) (n : ℕ) (k f : FileEntry) (slots : List (Option FileEntry)) → found p n (Some k ∷ slots) ≡ None → k ≡ f → f.place ≡ p → ⊥
hit p n k f slots e is at =
    let t : place_is k.place p ≡ true = subst (λ (x : Place). place_is k.place x ≡ true) (ap (λ (x : FileEntry). x.place) is ∙ at) (place_is-itself k.place) in
    none-some (n, k) (sym (rw t at e))

missed : (p : Place) (n : ℕ) (k : FileEntry) (slots : List (Option FileEntry)) (b : Bool) → place_is k.place p ≡ b → found p n (Some k ∷ slots) ≡ None → found p (n + 1) slots ≡ None
missed p n k slots true t e = absurd (none-some (n, k) (sym (rw t at e)))
missed p n k slots false t e = rw t at e

pub found_none : (p : Place) (n : ℕ) (slots : List (Option FileEntry)) → found p n slots ≡ None → (i : ℕ) (f : FileEntry) → slot i slots ≡ Some f → f.place ≡ p → ⊥
found_none p n [] e i f is at = none-some f (sym (get_or_past [] i None (omega arith)) ∙ is)
found_none p n (None ∷ slots) e zero f is at = none-some f is
found_none p n (None ∷ slots) e (suc i) f is at = found_none p (n + 1) slots e i f is at
found_none p n (Some k ∷ slots) e zero f is at = hit p n k f slots e (same_Some k f is) at
found_none p n (Some k ∷ slots) e (suc i) f is at = found_none p (n + 1) slots (missed p n k slots (place_is k.place p) refl e) i f is at

-- a file is found at its place
all_step : (p : Place) (slots : List (Option FileEntry)) (m : ℕ) (f : FileEntry) (o : Option (ℕ × FileEntry)) → found p 0 slots ≡ o → AreApart slots → slot m slots ≡ Some f → f.place ≡ p → found p 0 slots ≡ Some (m, f)
all_step p slots m f None e apart is at = absurd (found_none p 0 slots e m f is at)
all_step p slots m f (Some r) e apart is at =
    let w = found_is p 0 slots r.0 r.1 e in
    let z : r.0 - 0 ≡ r.0 = omega arith in
    let there : slot r.0 slots ≡ Some r.1 = rw z at w.is in
    let number : r.0 ≡ m = apart r.0 m r.1 f there is (w.at ∙ sym at) in
    let entry : r.1 ≡ f = same_Some r.1 f (sym there ∙ ap (λ (i : ℕ). slot i slots) number ∙ is) in
    e ∙ (λ i. Some (number i, entry i))

pub found_at : (p : Place) (slots : List (Option FileEntry)) (m : ℕ) (f : FileEntry) → AreApart slots → slot m slots ≡ Some f → f.place ≡ p → found p 0 slots ≡ Some (m, f)
found_at p slots m f apart is at = all_step p slots m f (found p 0 slots) refl apart is at

-- and nothing where no file stands
gone_step : (p : Place) (slots : List (Option FileEntry)) (o : Option (ℕ × FileEntry)) → found p 0 slots ≡ o → ((i : ℕ) (f : FileEntry) → slot i slots ≡ Some f → f.place ≡ p → ⊥) → found p 0 slots ≡ None
gone_step p slots None e never = e
gone_step p slots (Some r) e never =
    let w = found_is p 0 slots r.0 r.1 e in
    let z : r.0 - 0 ≡ r.0 = omega arith in
    absurd (never r.0 r.1 (rw z at w.is) w.at)

pub found_gone : (p : Place) (slots : List (Option FileEntry)) → ((i : ℕ) (f : FileEntry) → slot i slots ≡ Some f → f.place ≡ p → ⊥) → found p 0 slots ≡ None
found_gone p slots never = gone_step p slots (found p 0 slots) refl never

pub found_slot : (p : Place) (slots : List (Option FileEntry)) (m : ℕ) (f : FileEntry) → found p 0 slots ≡ Some (m, f) → (slot m slots ≡ Some f) × (f.place ≡ p)
found_slot p slots m f e =
    let w = found_is p 0 slots m f e in
    let z : m - 0 ≡ m = omega arith in
    (rw z at w.is, w.at)

-- the loop that looks for a place
pub found_here : (p : Place) (n : ℕ) (slots : List (Option FileEntry)) (f : FileEntry) → n < length slots → Some f ≡ get_or slots n (Some f) → f.place ≡ p → found p n (drop n slots) ≡ Some (n, f)
found_here p n slots f within is at =
    let cut : drop n slots ≡ Some f ∷ drop (suc n) slots = drop-cons slots n (Some f) within ∙ ap (λ (x : Option FileEntry). x ∷ drop (suc n) slots) (sym is) in
    let t : place_is f.place p ≡ true = subst (λ (x : Place). place_is f.place x ≡ true) at (place_is-itself f.place) in
    rw cut (rw t refl)

pub found_past : (p : Place) (n : ℕ) (slots : List (Option FileEntry)) (f : FileEntry) → n < length slots → Some f ≡ get_or slots n (Some f) → f.place ≢ p → found p n (drop n slots) ≡ found p (n + 1) (drop (n + 1) slots)
found_past p n slots f within is h =
    let cut : drop n slots ≡ Some f ∷ drop (suc n) slots = drop-cons slots n (Some f) within ∙ ap (λ (x : Option FileEntry). x ∷ drop (suc n) slots) (sym is) in
    rw cut (rw (place_is-apart f.place p h) (rw add-one refl))

pub found_free : (p : Place) (n : ℕ) (slots : List (Option FileEntry)) → n < length slots → None ≡ get_or slots n None → found p n (drop n slots) ≡ found p (n + 1) (drop (n + 1) slots)
found_free p n slots within is =
    let cut : drop n slots ≡ None ∷ drop (suc n) slots = drop-cons slots n None within ∙ ap (λ (x : Option FileEntry). x ∷ drop (suc n) slots) (sym is) in
    ap (λ (fs : List (Option FileEntry)). found p n fs) cut ∙ ap (λ (k : ℕ). found p (n + 1) (drop k slots)) (sym (add-one n))

-- a number that has a file is within
pub slot_within : (n : ℕ) (slots : List (Option FileEntry)) (f : FileEntry) → slot n slots ≡ Some f → n < length slots
slot_within n [] f is = absurd (none-some f (sym (get_or_past [] n None (omega arith)) ∙ is))
slot_within zero (s ∷ slots) f is = omega arith
slot_within (suc n) (s ∷ slots) f is = let w = slot_within n slots f is in omega (arith, w)

-- one number is written
put_step : (n i : ℕ) (new : Option FileEntry) (slots : List (Option FileEntry)) (b : Bool) → (i == n) ≡ b → n < length slots → slot i (set slots n new) ≡ (if b then new else slot i slots)
put_step n i new slots true t within = let e : i ≡ n = eqb-true i n t in rw e (get_or-set_same slots n new None within)
put_step n i new slots false t within = get_or-set_other slots n i new None (λ e. false≢true (sym t ∙ eq-eqb i n e))

pub slot_set : (n : ℕ) (new : Option FileEntry) (slots : List (Option FileEntry)) → n < length slots → IsSlotPut n new slots (set slots n new)
slot_set n new slots within = λ i. put_step n i new slots (i == n) refl within

push_other : (i : ℕ) (new : Option FileEntry) (slots : List (Option FileEntry)) → i ≢ length slots → slot i (slots ++ new ∷ []) ≡ slot i slots
push_other zero new [] apart = absurd (apart refl)
push_other (suc i) new [] apart = get_or_past [] i None (omega arith) ∙ sym (get_or_past [] (suc i) None (omega arith))
push_other zero new (s ∷ slots) apart = refl
push_other (suc i) new (s ∷ slots) apart = push_other i new slots (λ e. apart (omega (arith, e)))

push_step : (n i : ℕ) (new : Option FileEntry) (slots : List (Option FileEntry)) (b : Bool) → (i == n) ≡ b → n ≡ length slots → slot i (slots ++ new ∷ []) ≡ (if b then new else slot i slots)
push_step n i new slots true t end = let e : i ≡ n = eqb-true i n t in get_or_push slots new None i (sym (e ∙ end))
push_step n i new slots false t end = push_other i new slots (λ e. false≢true (sym t ∙ eq-eqb i n (e ∙ sym end)))

pub slot_push : (n : ℕ) (new : Option FileEntry) (slots : List (Option FileEntry)) → n ≡ length slots → IsSlotPut n new slots (slots ++ new ∷ [])
slot_push n new slots end = λ i. push_step n i new slots (i == n) refl end

-- what is at a number, after one was written
pub put_here : (n : ℕ) (new : Option FileEntry) (before after : List (Option FileEntry)) → IsSlotPut n new before after → slot n after ≡ new
put_here n new before after put = let t : (n == n) ≡ true = eq-eqb n n refl in rw t at (put n)

pub put_other : (n i : ℕ) (new : Option FileEntry) (before after : List (Option FileEntry)) → IsSlotPut n new before after → i ≢ n → slot i after ≡ slot i before
put_other n i new before after put apart = let t : (i == n) ≡ false = not_false (i == n) (λ t. apart (eqb-true i n t)) in rw t at (put i)

put_itself_step : (n i : ℕ) (f : FileEntry) (slots : List (Option FileEntry)) (b : Bool) → (i == n) ≡ b → slot n slots ≡ Some f → slot i slots ≡ (if b then Some f else slot i slots)
put_itself_step n i f slots true t is = ap (λ (k : ℕ). slot k slots) (eqb-true i n t) ∙ is
put_itself_step n i f slots false t is = refl

pub put_itself : (n : ℕ) (f : FileEntry) (slots : List (Option FileEntry)) → slot n slots ≡ Some f → IsSlotPut n (Some f) slots slots
put_itself n f slots is = λ i. put_itself_step n i f slots (i == n) refl is

-- a map over the files
map_step : (h : FileEntry → FileEntry) (i : ℕ) (slots : List (Option FileEntry)) → slot i (map (option_map h) slots) ≡ option_map h (slot i slots)
map_step h i [] = get_or_past [] i None (omega arith) ∙ ap (λ (o : Option FileEntry). option_map h o) (sym (get_or_past [] i None (omega arith)))
map_step h zero (s ∷ slots) = refl
map_step h (suc i) (s ∷ slots) = map_step h i slots

pub slot_map : (h : FileEntry → FileEntry) (i : ℕ) (slots : List (Option FileEntry)) → slot i (map (option_map h) slots) ≡ option_map h (slot i slots)
slot_map h i slots = map_step h i slots

some_step : (h : FileEntry → FileEntry) (o : Option FileEntry) (g : FileEntry) → option_map h o ≡ Some g → (f : FileEntry) × (o ≡ Some f) × (h f ≡ g)
some_step h None g e = absurd (none-some g e)
some_step h (Some f) g e = (f, refl, same_Some (h f) g e)

-- where each comes from
pub slot_mapped : (h : FileEntry → FileEntry) (i : ℕ) (slots : List (Option FileEntry)) (g : FileEntry) → slot i (map (option_map h) slots) ≡ Some g → (f : FileEntry) × (slot i slots ≡ Some f) × (h f ≡ g)
slot_mapped h i slots g e = some_step h (slot i slots) g (sym (slot_map h i slots) ∙ e)

-- files stay apart
apart_step : (n : ℕ) (new : Option FileEntry) (before after : List (Option FileEntry)) (i j : ℕ) (f g : FileEntry) (a b : Bool) → (i == n) ≡ a → (j == n) ≡ b → IsSlotPut n new before after → AreApart before
    → ((k : ℕ) (x y : FileEntry) → slot k before ≡ Some x → new ≡ Some y → x.place ≡ y.place → k ≡ n) → slot i after ≡ Some f → slot j after ≡ Some g → f.place ≡ g.place → i ≡ j
apart_step n new before after i j f g true true s t put apart own is js at = eqb-true i n s ∙ sym (eqb-true j n t)
apart_step n new before after i j f g true false s t put apart own is js at =
    let e : slot i after ≡ new = rw s at (put i) in
    let h : slot j after ≡ slot j before = rw t at (put j) in
    eqb-true i n s ∙ sym (own j g f (sym h ∙ js) (sym e ∙ is) (sym at))
apart_step n new before after i j f g false true s t put apart own is js at =
    let e : slot i after ≡ slot i before = rw s at (put i) in
    let h : slot j after ≡ new = rw t at (put j) in
    own i f g (sym e ∙ is) (sym h ∙ js) at ∙ sym (eqb-true j n t)
apart_step n new before after i j f g false false s t put apart own is js at =
    let e : slot i after ≡ slot i before = rw s at (put i) in
    let h : slot j after ≡ slot j before = rw t at (put j) in
    apart i j f g (sym e ∙ is) (sym h ∙ js) at

pub put_apart : (n : ℕ) (new : Option FileEntry) (before after : List (Option FileEntry)) → IsSlotPut n new before after → AreApart before
    → ((k : ℕ) (x y : FileEntry) → slot k before ≡ Some x → new ≡ Some y → x.place ≡ y.place → k ≡ n) → AreApart after
put_apart n new before after put apart own = λ i j f g is js at. apart_step n new before after i j f g (i == n) (j == n) refl refl put apart own is js at

pub map_apart : (h : FileEntry → FileEntry) (slots : List (Option FileEntry)) → AreApart slots
    → ((i j : ℕ) (f g : FileEntry) → slot i slots ≡ Some f → slot j slots ≡ Some g → (h f).place ≡ (h g).place → f.place ≡ g.place) → AreApart (map (option_map h) slots)
map_apart h slots apart same = λ i j f g is js at.
    let x = slot_mapped h i slots f is in
    let y = slot_mapped h j slots g js in
    apart i j x.0 y.0 x.1 y.1 (same i j x.0 y.0 x.1 y.1 (ap (λ (z : FileEntry). z.place) x.2 ∙ at ∙ ap (λ (z : FileEntry). z.place) (sym y.2)))

-- the count of files
pub count_put : (n : ℕ) (new : Option FileEntry) (slots : List (Option FileEntry)) → n < length slots
    → count_by is_some (set slots n new) + (if is_some (slot n slots) then 1 else 0) ≡ count_by is_some slots + (if is_some new then 1 else 0)
count_put n new slots within = sum_by-set (λ (o : Option FileEntry). if is_some o then 1 else 0) slots n new None within

pub count_push : (f : FileEntry) (slots : List (Option FileEntry)) → count_by is_some (slots ++ Some f ∷ []) ≡ count_by is_some slots + 1
count_push f slots = sum_by_push (λ (o : Option FileEntry). if is_some o then 1 else 0) slots (Some f)

count_cons : (o : Option FileEntry) (slots : List (Option FileEntry)) → count_by is_some (o ∷ slots) ≡ count_by is_some slots + (if is_some o then 1 else 0)
count_cons o slots = omega (arith, sum_by-append (λ (x : Option FileEntry). if is_some x then 1 else 0) (o ∷ []) slots)

pub count_map : (h : FileEntry → FileEntry) (slots : List (Option FileEntry)) → count_by is_some (map (option_map h) slots) ≡ count_by is_some slots
count_map h [] = refl
count_map h (None ∷ slots) = count_cons None (map (option_map h) slots) ∙ ap (λ (n : ℕ). n + 0) (count_map h slots) ∙ sym (count_cons None slots)
count_map h (Some f ∷ slots) = count_cons (Some (h f)) (map (option_map h) slots) ∙ ap (λ (n : ℕ). n + 1) (count_map h slots) ∙ sym (count_cons (Some f) slots)

-- entries with the same fields are one
pub entry_is : (p : Place) (size : ℕ) (fresh : Option ℕ) (a b : size < 2 ^ 55) → ◌≡◌ {A = FileEntry} (record { place = p; size = size; fresh = fresh; fits = a }) (record { place = p; size = size; fresh = fresh; fits = b })
entry_is p size fresh a b =
    let one : IsProp (size < 2 ^ 55) = hlevel props in
    let e : a ≡ b = one a b in
    λ i. record { place = p; size = size; fresh = fresh; fits = e i }

some_of : {A : Type 0} (o : Option A) → IsSome o → (x : A) × (o ≡ Some x)
some_of None h = absurd (cc)
some_of (Some x) h = (x, refl)

pub slot_within_some : (n : ℕ) (slots : List (Option FileEntry)) → IsSome (slot n slots) → n < length slots
slot_within_some n slots there = let f = some_of (slot n slots) there in slot_within n slots f.0 f.1

-- two files that aren't in the second folder are at one place only if they were before the first folder was moved
moved_step : (from to : Dir) (f g : FileEntry) (a b : Bool) → dir_is f.place.dir from ≡ a → dir_is g.place.dir from ≡ b → f.place.dir ≢ to → g.place.dir ≢ to
    → (entry_moved from to f).place ≡ (entry_moved from to g).place → f.place ≡ g.place
moved_step from to f g true true s t apart other at =
    let e : place_in to f.place.name ≡ place_in to g.place.name = rw t at (rw s at at) in
    let name : f.place.name ≡ g.place.name = ap (λ (p : Place). p.name) e in
    let dir : f.place.dir ≡ g.place.dir = dir_is-same f.place.dir from s ∙ sym (dir_is-same g.place.dir from t) in
    λ i. record { dir = dir i; name = name i }
moved_step from to f g true false s t apart other at =
    let e : place_in to f.place.name ≡ g.place = rw t at (rw s at at) in absurd (other (ap (λ (p : Place). p.dir) (sym e)))
moved_step from to f g false true s t apart other at =
    let e : f.place ≡ place_in to g.place.name = rw t at (rw s at at) in absurd (apart (ap (λ (p : Place). p.dir) e))
moved_step from to f g false false s t apart other at = rw t at (rw s at at)

pub moved_from : (from to : Dir) (f g : FileEntry) → f.place.dir ≢ to → g.place.dir ≢ to → (entry_moved from to f).place ≡ (entry_moved from to g).place → f.place ≡ g.place
moved_from from to f g apart other at = moved_step from to f g (dir_is f.place.dir from) (dir_is g.place.dir from) refl refl apart other at

-- what is at a place is at the number that was found there
pub number_at : (p : Place) (slots : List (Option FileEntry)) (n : ℕ) (g : FileEntry) → AreApart slots → found p 0 slots ≡ Some (n, g) → (i : ℕ) (f : FileEntry) → slot i slots ≡ Some f → f.place ≡ p → i ≡ n
number_at p slots n g apart e i f is at = let w = found_slot p slots n g e in apart i n f g is w.0 (at ∙ sym w.1)
