-- What the content of a store is after a folder is removed, and after one is moved.
use Rattle.std.proofs.Common.{◌≡◌, ◌≢◌, ◌⊎◌, ℕ, ◌<◌, ◌≤◌, ◌||◌, Bool, true, false, not, List, [], ◌∷◌, length, map, Option, Some, None, is_some, refl, sym, ap, subst, ◌∙◌, inl, inr, arith}
use Rattle.std.specs.List.{filter, list_any}
use Rattle.std.specs.Option.{option_map}
use Rattle.std.proofs.lemmas.Bool.{false≢true}
use Rattle.sd_names.specs.declared.place.Dir.{Dir}
use Rattle.sd_names.specs.declared.place.Dir.TheVariants.{Root, Image, Removed}
use Rattle.sd_names.specs.declared.place.Name.{Name}
use Rattle.sd_names.specs.declared.place.Place.{Place}
use Rattle.memory_disk.specs.declared.entry.FileEntry.{FileEntry}
use Rattle.memory_disk.specs.declared.entry.Write.{Write}
use Rattle.memory_disk.specs.declared.sector_map.Sectors.{Sectors}
use Rattle.shared_disk.specs.Calls.{IsDirPut}
use Rattle.shared_disk.specs.Content.{Content}
use Rattle.memory_disk.specs.Files.{entry_moved}
use Rattle.memory_disk.specs.Listing.{IsLeastDir, IsLeastName, dir_moved}
use Rattle.shared_disk.specs.NameCalls.{AnswersDirAbove, AnswersNameAbove, AreImageDirs, HasEntry, IsDirMoved, IsNextDir, IsNextName, place_in}
use Rattle.shared_disk.specs.Places.{dir_is}
use Rattle.memory_disk.specs.Store.{AreApart, AreHoused, content_of, file_of, found, has_dir, slot, slot_size}
use Rattle.memory_disk.proofs.Contents.{Carries, carried, none_at, or_true}
use Rattle.shared_disk.proofs.Places.{dir_is-apart, dir_is-itself, dir_is-same}
use Rattle.memory_disk.proofs.Listed.{slot_in}
use Rattle.memory_disk.proofs.Slots.{found_gone, slot_map, slot_mapped}
use Rattle.memory_disk.proofs.Within.{left_out_fewer}

-- what a listing answers is above what it was asked
pub answers_name : (slots : List (Option FileEntry)) (dir : Dir) (after least : Option Name) → IsLeastName slots dir after least → AnswersNameAbove after least
answers_name slots dir after None h = tt
answers_name slots dir after (Some name) h = h.1

pub answers_dir : (dirs : List Dir) (dir : Dir) (after least : Option Dir) → IsLeastDir dirs dir after least → AnswersDirAbove after least
answers_dir dirs dir after None h = tt
answers_dir dirs dir after (Some q) h = h.1

-- a folder has entries where a listing answers one
pub entry_name : (d : Content) (dir : Dir) (least : Option Name) → IsNextName d dir None least → is_some least ≡ true → HasEntry d dir
entry_name d dir None h e = absurd (false≢true e)
entry_name d dir (Some name) h e = inl (name, h.0)

pub entry_dir : (d : Content) (dir : Dir) (least : Option Dir) → IsNextDir d dir None least → is_some least ≡ true → HasEntry d dir
entry_dir d dir None h e = absurd (false≢true e)
entry_dir d dir (Some q) h e = inr (q, h.0)

pub no_entry : (d : Content) (dir : Dir) (name : Option Name) (sub : Option Dir) → IsNextName d dir None name → IsNextDir d dir None sub → is_some name ≡ false → is_some sub ≡ false → HasEntry d dir → ⊥
no_entry d dir (Some name) sub h g s t e = false≢true (sym s)
no_entry d dir None (Some sub) h g s t e = false≢true (sym t)
no_entry d dir None None h g s t (inl e) = h e.0 e.1 tt
no_entry d dir None None h g s t (inr e) = g e.0 e.1 tt

-- a folder that is taken out of a list
any_step : (q x d : Dir) (ds : List Dir) (b : Bool) → dir_is d x ≡ b → q ≢ x → list_any (λ r. dir_is r q) (filter (λ r. not (dir_is r x)) ds) ≡ list_any (λ r. dir_is r q) ds
    → list_any (λ r. dir_is r q) (filter (λ r. not (dir_is r x)) (d ∷ ds)) ≡ list_any (λ r. dir_is r q) (d ∷ ds)
any_step q x d ds true t apart h =
    let out : dir_is d q ≡ false = dir_is-apart d q (λ e. apart (sym e ∙ dir_is-same d x t)) in
    rw (t, out) h
any_step q x d ds false t apart h = rw t (ap (λ (b : Bool). dir_is d q || b) h)

any_kept : (q x : Dir) (ds : List Dir) → q ≢ x → list_any (λ r. dir_is r q) (filter (λ r. not (dir_is r x)) ds) ≡ list_any (λ r. dir_is r q) ds
any_kept q x [] apart = refl
any_kept q x (d ∷ ds) apart = any_step q x d ds (dir_is d x) refl apart (any_kept q x ds apart)

gone_step : (x d : Dir) (ds : List Dir) (b : Bool) → dir_is d x ≡ b → list_any (λ r. dir_is r x) (filter (λ r. not (dir_is r x)) ds) ≡ false → list_any (λ r. dir_is r x) (filter (λ r. not (dir_is r x)) (d ∷ ds)) ≡ false
gone_step x d ds true t h = rw t h
gone_step x d ds false t h = rw (t, t) h

any_gone : (x : Dir) (ds : List Dir) → list_any (λ r. dir_is r x) (filter (λ r. not (dir_is r x)) ds) ≡ false
any_gone x [] = refl
any_gone x (d ∷ ds) = gone_step x d ds (dir_is d x) refl (any_gone x ds)

pub is_dir_removed : (dirs dirs1 : List Dir) (slots : List (Option FileEntry)) (stable : Sectors) (log : List Write) (dir : Dir) → dir ≢ Root → dirs1 ≡ filter (λ r. not (dir_is r dir)) dirs
    → IsDirPut (content_of dirs slots stable log) dir false (content_of dirs1 slots stable log)
is_dir_removed dirs dirs1 slots stable log dir other is = record {
  files = λ p. refl;
  here = ap (λ (ds : List Dir). has_dir ds dir) is ∙ rw (dir_is-apart Root dir (λ e. other (sym e))) (any_gone dir dirs);
  others = λ q apart. ap (λ (ds : List Dir). has_dir ds q) is ∙ ap (λ (b : Bool). dir_is Root q || b) (any_kept q dir dirs apart);
}

pub fewer_dirs : (dir : Dir) (dirs : List Dir) → dir ≢ Root → has_dir dirs dir ≡ true → length (filter (λ r. not (dir_is r dir)) dirs) < length dirs
fewer_dirs dir dirs other there = left_out_fewer (λ r. dir_is r dir) dirs (rw (dir_is-apart Root dir (λ e. other (sym e))) at there)

pub housed_kept : (dirs dirs1 : List Dir) (slots : List (Option FileEntry)) (dir : Dir) → dirs1 ≡ filter (λ r. not (dir_is r dir)) dirs → ((n : ℕ) (f : FileEntry) → slot n slots ≡ Some f → f.place.dir ≢ dir)
    → AreHoused dirs slots → AreHoused dirs1 slots
housed_kept dirs dirs1 slots dir is none housed = λ n f at.
    ap (λ (ds : List Dir). has_dir ds f.place.dir) is ∙ ap (λ (b : Bool). dir_is Root f.place.dir || b) (any_kept f.place.dir dir dirs (none n f at)) ∙ housed n f at

-- a folder in place of another in a list
moved_step : (from to q d : Dir) (ds : List Dir) (b : Bool) → dir_is d from ≡ b → q ≢ from → q ≢ to → list_any (λ r. dir_is r q) (map (dir_moved from to) ds) ≡ list_any (λ r. dir_is r q) ds
    → list_any (λ r. dir_is r q) (map (dir_moved from to) (d ∷ ds)) ≡ list_any (λ r. dir_is r q) (d ∷ ds)
moved_step from to q d ds true t apart other h =
    let a : dir_is to q ≡ false = dir_is-apart to q (λ e. other (sym e)) in
    let c : dir_is d q ≡ false = dir_is-apart d q (λ e. apart (sym e ∙ dir_is-same d from t)) in
    rw (t, a, c) h
moved_step from to q d ds false t apart other h = rw t (ap (λ (b : Bool). dir_is d q || b) h)

any_moved : (from to q : Dir) (ds : List Dir) → q ≢ from → q ≢ to → list_any (λ r. dir_is r q) (map (dir_moved from to) ds) ≡ list_any (λ r. dir_is r q) ds
any_moved from to q [] apart other = refl
any_moved from to q (d ∷ ds) apart other = moved_step from to q d ds (dir_is d from) refl apart other (any_moved from to q ds apart other)

left_step : (from to d : Dir) (ds : List Dir) (b : Bool) → dir_is d from ≡ b → from ≢ to → list_any (λ r. dir_is r from) (map (dir_moved from to) ds) ≡ false → list_any (λ r. dir_is r from) (map (dir_moved from to) (d ∷ ds)) ≡ false
left_step from to d ds true t apart h = let a : dir_is to from ≡ false = dir_is-apart to from (λ e. apart (sym e)) in rw (t, a) h
left_step from to d ds false t apart h = rw (t, t) h

any_left : (from to : Dir) (ds : List Dir) → from ≢ to → list_any (λ r. dir_is r from) (map (dir_moved from to) ds) ≡ false
any_left from to [] apart = refl
any_left from to (d ∷ ds) apart = left_step from to d ds (dir_is d from) refl apart (any_left from to ds apart)

made_step : (from to d : Dir) (ds : List Dir) (b : Bool) → dir_is d from ≡ b → (list_any (λ r. dir_is r from) ds ≡ true → list_any (λ r. dir_is r to) (map (dir_moved from to) ds) ≡ true)
    → list_any (λ r. dir_is r from) (d ∷ ds) ≡ true → list_any (λ r. dir_is r to) (map (dir_moved from to) (d ∷ ds)) ≡ true
made_step from to d ds true t more h = rw (t, dir_is-itself to) refl
made_step from to d ds false t more h = rw t (rw (more (rw t at h)) (or_true (dir_is d to)))

any_made : (from to : Dir) (ds : List Dir) → list_any (λ r. dir_is r from) ds ≡ true → list_any (λ r. dir_is r to) (map (dir_moved from to) ds) ≡ true
any_made from to [] h = absurd (false≢true h)
any_made from to (d ∷ ds) h = made_step from to d ds (dir_is d from) refl (any_made from to ds) h

-- images' folders aren't the root
pub not_root : (from to : Dir) → AreImageDirs from to → (from ≢ Root) × (to ≢ Root)
not_root (Image sd image) (Image other next) h = (λ e. cc, λ e. cc)
not_root (Image sd image) (Removed other next) h = (λ e. cc, λ e. cc)
not_root (Removed sd image) (Image other next) h = (λ e. cc, λ e. cc)
not_root (Removed sd image) (Removed other next) h = (λ e. cc, λ e. cc)
not_root _ _ h = absurd h

-- files of a folder that is moved
entry_size : (from to : Dir) (f : FileEntry) (b : Bool) → dir_is f.place.dir from ≡ b → (entry_moved from to f).size ≡ f.size
entry_size from to f true t = rw t refl
entry_size from to f false t = rw t refl

entry_here : (from to : Dir) (f : FileEntry) → f.place.dir ≡ from → (entry_moved from to f).place ≡ place_in to f.place.name
entry_here from to f e = let t : dir_is f.place.dir from ≡ true = subst (λ (x : Dir). dir_is f.place.dir x ≡ true) e (dir_is-itself f.place.dir) in rw t refl

entry_away : (from to : Dir) (f : FileEntry) → f.place.dir ≢ from → entry_moved from to f ≡ f
entry_away from to f apart = rw (dir_is-apart f.place.dir from apart) refl

entry_file : (stable : Sectors) (log : List Write) (n : ℕ) (from to : Dir) (f : FileEntry) (b : Bool) → dir_is f.place.dir from ≡ b → file_of stable log n (entry_moved from to f) ≡ file_of stable log n f
entry_file stable log n from to f true t = rw t refl
entry_file stable log n from to f false t = rw t refl

size_step : (from to : Dir) (o : Option FileEntry) → slot_size o ≤ slot_size (option_map (entry_moved from to) o)
size_step from to None = omega arith
size_step from to (Some f) = let e = entry_size from to f (dir_is f.place.dir from) refl in omega (arith, e)

pub moved_wider : (from to : Dir) (slots slots1 : List (Option FileEntry)) → slots1 ≡ map (option_map (entry_moved from to)) slots → (i : ℕ) → slot_size (slot i slots) ≤ slot_size (slot i slots1)
moved_wider from to slots slots1 is = λ i.
    subst (λ (o : Option FileEntry). slot_size (slot i slots) ≤ slot_size o) (sym (ap (λ (ss : List (Option FileEntry)). slot i ss) is ∙ slot_map (entry_moved from to) i slots)) (size_step from to (slot i slots))

-- where an entry comes from
record IsMovedFrom (from to : Dir) (slots : List (Option FileEntry)) (n : ℕ) (g : FileEntry) : Type 0 where
  pub file : FileEntry
  pub was : slot n slots ≡ Some file
  pub cases : ((file.place.dir ≡ from) × (g.place ≡ place_in to file.place.name)) ⊎ ((file.place.dir ≢ from) × (file ≡ g))

from_step : (from to : Dir) (f g : FileEntry) (b : Bool) → dir_is f.place.dir from ≡ b → entry_moved from to f ≡ g → ((f.place.dir ≡ from) × (g.place ≡ place_in to f.place.name)) ⊎ ((f.place.dir ≢ from) × (f ≡ g))
from_step from to f g true t e = let at = dir_is-same f.place.dir from t in inl (at, ap (λ (x : FileEntry). x.place) (sym e) ∙ entry_here from to f at)
from_step from to f g false t e =
    let apart : f.place.dir ≢ from = λ u. false≢true (sym t ∙ subst (λ (x : Dir). dir_is f.place.dir x ≡ true) u (dir_is-itself f.place.dir)) in
    inr (apart, sym (entry_away from to f apart) ∙ e)

moved_at : (from to : Dir) (slots slots1 : List (Option FileEntry)) (n : ℕ) (g : FileEntry) → slots1 ≡ map (option_map (entry_moved from to)) slots → slot n slots1 ≡ Some g → IsMovedFrom from to slots n g
moved_at from to slots slots1 n g is at =
    let w = slot_mapped (entry_moved from to) n slots g (ap (λ (ss : List (Option FileEntry)). slot n ss) (sym is) ∙ at) in
    record { file = w.0; was = w.1; cases = from_step from to w.0 g (dir_is w.0.place.dir from) refl w.2 }

now_at : (from to : Dir) (slots slots1 : List (Option FileEntry)) (n : ℕ) (f : FileEntry) → slots1 ≡ map (option_map (entry_moved from to)) slots → slot n slots ≡ Some f → slot n slots1 ≡ Some (entry_moved from to f)
now_at from to slots slots1 n f is at =
    ap (λ (ss : List (Option FileEntry)). slot n ss) is ∙ slot_map (entry_moved from to) n slots ∙ ap (λ (o : Option FileEntry). option_map (entry_moved from to) o) at

-- no file stands in a folder that isn't there
pub none_housed : (dirs : List Dir) (slots : List (Option FileEntry)) (dir : Dir) → has_dir dirs dir ≡ false → AreHoused dirs slots → (n : ℕ) (f : FileEntry) → slot n slots ≡ Some f → f.place.dir ≢ dir
none_housed dirs slots dir none housed n f at e = false≢true (sym none ∙ ap (λ (x : Dir). has_dir dirs x) (sym e) ∙ housed n f at)

-- files stand in folders that are there
pub moved_housed : (dirs dirs1 : List Dir) (slots slots1 : List (Option FileEntry)) (from to : Dir) → from ≢ Root → dirs1 ≡ map (dir_moved from to) dirs → slots1 ≡ map (option_map (entry_moved from to)) slots
    → has_dir dirs from ≡ true → has_dir dirs to ≡ false → AreHoused dirs slots → AreHoused dirs1 slots1
moved_housed dirs dirs1 slots slots1 from to other folders files there free housed = λ n g at.
    let w = moved_at from to slots slots1 n g files at in
    let made : has_dir dirs1 to ≡ true =
    ap (λ (ds : List Dir). has_dir ds to) folders ∙ rw (any_made from to dirs (rw (dir_is-apart Root from (λ e. other (sym e))) at there)) (or_true (dir_is Root to)) in
    elim w.cases [
      | inl x ↦ ap (λ (p : Place). has_dir dirs1 p.dir) x.1 ∙ made
      | inr x ↦ (
          let apart : w.file.place.dir ≢ to = none_housed dirs slots to free housed n w.file w.was in
          ap (λ (y : FileEntry). has_dir dirs1 y.place.dir) (sym x.1) ∙ ap (λ (ds : List Dir). has_dir ds w.file.place.dir) folders
          ∙ ap (λ (b : Bool). dir_is Root w.file.place.dir || b) (any_moved from to w.file.place.dir dirs x.0 apart) ∙ housed n w.file w.was)
    ]

-- the files of the folder stand in the other
moved_carries : (dirs : List Dir) (slots slots1 : List (Option FileEntry)) (stable : Sectors) (log : List Write) (from to : Dir) (name : Name) → slots1 ≡ map (option_map (entry_moved from to)) slots
    → has_dir dirs to ≡ false → AreHoused dirs slots → Carries slots slots1 stable stable log log (place_in from name) (place_in to name)
moved_carries dirs slots slots1 stable log from to name files free housed = record {
  there = λ n f is at. (
    entry_moved from to f,
    now_at from to slots slots1 n f files is,
    entry_here from to f (ap (λ (p : Place). p.dir) at) ∙ ap (λ (p : Place). place_in to p.name) at,
    entry_file stable log n from to f (dir_is f.place.dir from) refl,
  );
  back = λ n g is at.
      let w = moved_at from to slots slots1 n g files is in
      elim w.cases [
        | inl x ↦ (w.file, w.was, (λ i. record { dir = x.0 i; name = (ap (λ (p : Place). p.name) (sym x.1 ∙ at)) i }))
        | inr x ↦ absurd (none_housed dirs slots to free housed n w.file w.was (ap (λ (y : FileEntry). y.place.dir) x.1 ∙ ap (λ (p : Place). p.dir) at))
      ];
}

-- other files stay
others_carry : (slots slots1 : List (Option FileEntry)) (stable : Sectors) (log : List Write) (from to : Dir) (q : Place) → slots1 ≡ map (option_map (entry_moved from to)) slots
    → q.dir ≢ from → q.dir ≢ to → Carries slots slots1 stable stable log log q q
others_carry slots slots1 stable log from to q files apart other = record {
  there = λ n f is at.
      let away : entry_moved from to f ≡ f = entry_away from to f (λ e. apart (ap (λ (p : Place). p.dir) (sym at) ∙ e)) in
      (f, now_at from to slots slots1 n f files is ∙ ap (λ (x : FileEntry). Some x) away, at, refl);
  back = λ n g is at.
      let w = moved_at from to slots slots1 n g files is in
      elim w.cases [
        | inl x ↦ absurd (other (ap (λ (p : Place). p.dir) (sym at ∙ x.1)))
        | inr x ↦ (w.file, w.was, ap (λ (y : FileEntry). y.place) x.1 ∙ at)
      ];
}

pub is_dir_moved : (dirs dirs1 : List Dir) (slots slots1 : List (Option FileEntry)) (stable : Sectors) (log : List Write) (from to : Dir) → from ≢ Root → to ≢ Root → from ≢ to → dirs1 ≡ map (dir_moved from to) dirs
    → slots1 ≡ map (option_map (entry_moved from to)) slots → AreApart slots1 → has_dir dirs from ≡ true → has_dir dirs to ≡ false → AreHoused dirs slots
    → IsDirMoved (content_of dirs slots stable log) from to (content_of dirs1 slots1 stable log)
is_dir_moved dirs dirs1 slots slots1 stable log from to other next apart folders files once there free housed = record {
  there = there;
  free = free;
  gone = ap (λ (ds : List Dir). has_dir ds from) folders ∙ rw (dir_is-apart Root from (λ e. other (sym e))) (any_left from to dirs apart);
  made = ap (λ (ds : List Dir). has_dir ds to) folders ∙ rw (any_made from to dirs (rw (dir_is-apart Root from (λ e. other (sym e))) at there)) (or_true (dir_is Root to));
  dirs = λ q h k. ap (λ (ds : List Dir). has_dir ds q) folders ∙ ap (λ (b : Bool). dir_is Root q || b) (any_moved from to q dirs h k);
  files = λ name. carried dirs dirs1 slots slots1 stable stable log log (place_in from name) (place_in to name) once (moved_carries dirs slots slots1 stable log from to name files free housed);
  left = λ name. none_at _ (found (place_in from name) 0 slots1) (found_gone (place_in from name) slots1 (λ n g is at.
      let w = moved_at from to slots slots1 n g files is in
      elim w.cases [
        | inl x ↦ apart (ap (λ (p : Place). p.dir) (sym at ∙ x.1))
        | inr x ↦ x.0 (ap (λ (y : FileEntry). y.place.dir) x.1 ∙ ap (λ (p : Place). p.dir) at)
      ]));
  others = λ q h k. carried dirs dirs1 slots slots1 stable stable log log q q once (others_carry slots slots1 stable log from to q files h k);
}

-- a folder that shows no name has no file
pub no_file_in : (slots : List (Option FileEntry)) (dir : Dir) (least : Option Name) → IsLeastName slots dir None least → is_some least ≡ false → (n : ℕ) (f : FileEntry) → slot n slots ≡ Some f → f.place.dir ≢ dir
no_file_in slots dir (Some name) h e n f is at = false≢true (sym e)
no_file_in slots dir None h e n f is at = h f.place.name (f, slot_in n slots f is, λ i. record { dir = at i; name = f.place.name }) tt
