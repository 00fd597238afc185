-- What the content of a store is after a folder or a file is added, and after a write.
use Rattle.std.proofs.Common.{◌≡◌, ◌≢◌, ℕ, suc, ◌+◌, ◌<◌, ◌==◌, ◌||◌, Bool, true, false, if◌then◌else◌, List, [], ◌∷◌, ◌++◌, length, get_or, drop, drop-cons, reverse, Option, Some, None, is_some, unwrap_or, eq-eqb, eqb-true, refl, sym, ap, ◌∙◌, add-one, subst}
use Rattle.std.specs.Option.{option_map}
use Rattle.std.specs.List.{list_any}
use Rattle.std.proofs.lemmas.Bool.{false≢true}
use Rattle.std.proofs.lemmas.List.{reverse-append}
use Rattle.std.proofs.lemmas.Option.{same_Some}
use Rattle.sd_names.specs.declared.place.Dir.{Dir}
use Rattle.sd_names.specs.declared.place.Dir.TheVariants.{Root}
use Rattle.sd_names.specs.declared.place.Place.{Place}
use Rattle.memory_disk.specs.declared.entry.FileEntry.{FileEntry}
use Rattle.memory_disk.specs.declared.entry.Write.{Write}
use Rattle.memory_disk.specs.declared.sector_map.Sectors.{Sectors}
use Rattle.shared_disk.specs.Content.{File, Loose, IsEmpty, zero_sector, writes, sector_of}
use Rattle.shared_disk.specs.Calls.{IsPut, IsDirPut, wrote, sectors_in}
use Rattle.shared_disk.specs.Places.{dir_is}
use Rattle.memory_disk.specs.Sectors.{sector_at}
use Rattle.memory_disk.specs.Store.{AreApart, IsSlotPut, has_dir, found, loose_in, loose_of, file_of, content_of, slot}
use Rattle.shared_disk.proofs.Places.{dir_is-itself, dir_is-apart, not_false}
use Rattle.memory_disk.proofs.Slots.{found_at, found_gone, found_none, found_slot, put_here, put_itself, put_other}

none_some : {A : Type 0} (o : Option A) (x : A) → o ≡ None → o ≡ Some x → ⊥
none_some o x e h = cc

pub some_of : {A B : Type 0} (g : A → B) (o : Option A) → is_some o ≡ true → (x : B) × (option_map g o ≡ Some x)
some_of g (Some a) e = (g a, refl)
some_of g None e = absurd (false≢true e)

pub none_of : {A : Type 0} (o : Option A) → is_some o ≡ false → o ≡ None
none_of (Some a) e = absurd (false≢true (sym e))
none_of None e = refl

-- folders
or_false : (b : Bool) → (b || false) ≡ b
or_false true = refl
or_false false = refl

pub or_true : (b : Bool) → (b || true) ≡ true
or_true true = refl
or_true false = refl

or_true2 : (a b : Bool) → (a || (b || true)) ≡ true
or_true2 true b = refl
or_true2 false b = or_true b

or_or : (a b c : Bool) → (a || (b || c)) ≡ ((a || b) || c)
or_or true b c = refl
or_or false b c = refl

pub list_any-push : (p : Dir → Bool) (xs : List Dir) (x : Dir) → list_any p (xs ++ x ∷ []) ≡ (list_any p xs || p x)
list_any-push p [] x = or_false (p x)
list_any-push p (y ∷ ys) x = rw (list_any-push p ys x) (or_or (p y) (list_any p ys) (p x))

pub is_dir_made : (dirs new : List Dir) (files : List (Option FileEntry)) (stable : Sectors) (log : List Write) (q : Dir)
    → new ≡ dirs ++ q ∷ [] → IsDirPut (content_of dirs files stable log) q true (content_of new files stable log)
is_dir_made dirs new files stable log q is = record {
  files = λ p. refl;
  here = rw is (rw (list_any-push (λ r. dir_is r q) dirs q) (rw (dir_is-itself q) (or_true2 (dir_is Root q) (list_any (λ r. dir_is r q) dirs))));
  others = λ r h. rw is (rw (list_any-push (λ s. dir_is s r) dirs q) (rw (dir_is-apart q r (λ e. h (sym e))) (rw or_false refl)));
}

pub dir_here : (q : Dir) (n : ℕ) (dirs : List Dir) (d : Dir) → n < length dirs → get_or dirs n d ≡ q → has_dir (drop n dirs) q ≡ true
dir_here q n dirs d within e =
    let t : dir_is (get_or dirs n d) q ≡ true = subst (λ (x : Dir). dir_is (get_or dirs n d) x ≡ true) e (dir_is-itself (get_or dirs n d)) in
    rw (drop-cons dirs n d within) (rw t (or_true (dir_is Root q)))

pub dir_past : (q : Dir) (n : ℕ) (dirs : List Dir) (d : Dir) → n < length dirs → get_or dirs n d ≢ q → has_dir (drop n dirs) q ≡ has_dir (drop (n + 1) dirs) q
dir_past q n dirs d within h = rw (drop-cons dirs n d within) (rw (dir_is-apart (get_or dirs n d) q h) (rw add-one refl))

-- what a content has at a place
pub file_at : (dirs : List Dir) (files : List (Option FileEntry)) (stable : Sectors) (log : List Write) (p : Place) {n : ℕ} {f : FileEntry}
    → found p 0 files ≡ Some (n, f) → (content_of dirs files stable log).file p ≡ Some (file_of stable log n f)
file_at dirs files stable log p e = ap (λ (o : Option (ℕ × FileEntry)). option_map (λ (r : ℕ × FileEntry). file_of stable log r.0 r.1) o) e

pub none_at : {A B : Type 0} (g : A → B) (o : Option A) → o ≡ None → option_map g o ≡ None
none_at g o e = ap (λ o. option_map g o) e

-- writes
pub loose_push : (n : ℕ) (log : List Write) (w : Write) → loose_of n (log ++ w ∷ []) ≡ loose_in n (w ∷ reverse log)
loose_push n log w = ap (λ (ws : List Write). loose_in n ws) (reverse-append log (w ∷ []))

-- the unsynced writes of each file after so many sectors of a piece were written
abbrev pub LogsWrites : ℕ → ℕ → ℕ → List ℕ → ℕ → List Write → List Write → Type 0
LogsWrites host number first bytes i before after =
    (m : ℕ) → loose_of m after ≡ (if number == m then writes (λ _. true) host first bytes i ++ loose_of m before else loose_of m before)

more_step : (host number first i m : ℕ) (was_first : Bool) (bytes b : List ℕ) (before : List Loose) (log : List Write) (t : Bool) → (number == m) ≡ t → b ≡ sector_of bytes i
    → loose_in m log ≡ (if t then writes (λ _. true) host first bytes i ++ before else before)
    → loose_in m (record { host = host; file = number; sector = first + i; bytes = b; first = was_first } ∷ log) ≡ (if t then writes (λ _. true) host first bytes (suc i) ++ before else before)
more_step host number first i m was_first bytes b before log true e h is =
    rw e (λ j. record { host = host; sector = first + i; bytes = h j } ∷ is j)
more_step host number first i m was_first bytes b before log false e h is = rw e is

pub logs_more : (host number first i : ℕ) (bytes b : List ℕ) (before log after : List Write) (was_first : Bool) → after ≡ log ++ record { host = host; file = number; sector = first + i; bytes = b; first = was_first } ∷ []
    → b ≡ sector_of bytes i → LogsWrites host number first bytes i before log → LogsWrites host number first bytes (i + 1) before after
logs_more host number first i bytes b before log after was_first is h logs = λ m.
    let w : Write = record { host = host; file = number; sector = first + i; bytes = b; first = was_first } in
    ap (λ (ws : List Write). loose_of m ws) is ∙ loose_push m log w
    ∙ rw add-one (more_step host number first i m was_first bytes b (loose_of m before) (reverse log) (number == m) refl h (logs m))

-- A file of the one content stands in the other, at another place maybe: the numbers and what is kept under them tell.
pub record Carries (slots slots1 : List (Option FileEntry)) (stable stable1 : Sectors) (log log1 : List Write) (p q : Place) : Type 0 where
  pub there : (n : ℕ) (f : FileEntry) → slot n slots ≡ Some f → f.place ≡ p → (g : FileEntry) × (slot n slots1 ≡ Some g) × (g.place ≡ q) × (file_of stable1 log1 n g ≡ file_of stable log n f)
  pub back : (n : ℕ) (g : FileEntry) → slot n slots1 ≡ Some g → g.place ≡ q → (f : FileEntry) × (slot n slots ≡ Some f) × (f.place ≡ p)

carried_step : (dirs dirs1 : List Dir) (slots slots1 : List (Option FileEntry)) (stable stable1 : Sectors) (log log1 : List Write) (p q : Place) (o : Option (ℕ × FileEntry)) → found p 0 slots ≡ o
    → AreApart slots1 → Carries slots slots1 stable stable1 log log1 p q → (content_of dirs1 slots1 stable1 log1).file q ≡ (content_of dirs slots stable log).file p
carried_step dirs dirs1 slots slots1 stable stable1 log log1 p q None e apart c =
    let gone : found q 0 slots1 ≡ None = found_gone q slots1 (λ n g is at. let f = c.back n g is at in found_none p 0 slots e n f.0 f.1 f.2) in
    none_at _ (found q 0 slots1) gone ∙ sym (none_at _ (found p 0 slots) e)
carried_step dirs dirs1 slots slots1 stable stable1 log log1 p q (Some r) e apart c =
    let f = found_slot p slots r.0 r.1 e in
    let g = c.there r.0 r.1 f.0 f.1 in
    file_at dirs1 slots1 stable1 log1 q (found_at q slots1 r.0 g.0 apart g.1 g.2) ∙ ap (λ (x : File). Some x) g.3 ∙ sym (file_at dirs slots stable log p e)

pub carried : (dirs dirs1 : List Dir) (slots slots1 : List (Option FileEntry)) (stable stable1 : Sectors) (log log1 : List Write) (p q : Place)
    → AreApart slots1 → Carries slots slots1 stable stable1 log log1 p q → (content_of dirs1 slots1 stable1 log1).file q ≡ (content_of dirs slots stable log).file p
carried dirs dirs1 slots slots1 stable stable1 log log1 p q apart c = carried_step dirs dirs1 slots slots1 stable stable1 log log1 p q (found p 0 slots) refl apart c

-- one number is put, and what is kept under all others is as it was
put_carries : (slots slots1 : List (Option FileEntry)) (stable stable1 : Sectors) (log log1 : List Write) (number : ℕ) (new : Option FileEntry) (q : Place) → IsSlotPut number new slots slots1
    → ((m : ℕ) (g : FileEntry) → m ≢ number → file_of stable1 log1 m g ≡ file_of stable log m g)
    → ((f : FileEntry) → slot number slots ≡ Some f → f.place ≢ q) → ((f : FileEntry) → new ≡ Some f → f.place ≢ q) → Carries slots slots1 stable stable1 log log1 q q
put_carries slots slots1 stable stable1 log log1 number new q put same was is = record {
  there = λ n f at e.
      let apart : n ≢ number = λ u. was f (ap (λ (k : ℕ). slot k slots) (sym u) ∙ at) e in
      (f, put_other number n new slots slots1 put apart ∙ at, e, same n f apart);
  back = λ n g at e.
      let apart : n ≢ number = λ u. is g (sym (put_here number new slots slots1 put) ∙ ap (λ (k : ℕ). slot k slots1) (sym u) ∙ at) e in
      (g, sym (put_other number n new slots slots1 put apart) ∙ at, e);
}

-- a change of one file
pub is_put : (dirs dirs1 : List Dir) (files files1 : List (Option FileEntry)) (stable stable1 : Sectors) (log log1 : List Write) (p : Place) (number : ℕ) (f f1 : FileEntry) (new : File)
    → dirs1 ≡ dirs → AreApart files1 → found p 0 files ≡ Some (number, f) → f1.place ≡ f.place → IsSlotPut number (Some f1) files files1
    → ((m : ℕ) (g : FileEntry) → m ≢ number → file_of stable1 log1 m g ≡ file_of stable log m g) → file_of stable1 log1 number f1 ≡ new
    → IsPut (content_of dirs files stable log) p (Some new) (content_of dirs1 files1 stable1 log1)
is_put dirs dirs1 files files1 stable stable1 log log1 p number f f1 new folders apart was place put same here =
    let is = found_slot p files number f was in record {
      dirs = λ q. ap (λ (ds : List Dir). has_dir ds q) folders;
      here = file_at dirs1 files1 stable1 log1 p (found_at p files1 number f1 apart (put_here number (Some f1) files files1 put) (place ∙ is.1)) ∙ ap (λ (x : File). Some x) here;
      others = λ q h. carried dirs dirs1 files files1 stable stable1 log log1 q q apart
          (put_carries files files1 stable stable1 log log1 number (Some f1) q put same
          (λ g e u. h (sym u ∙ ap (λ (x : FileEntry). x.place) (sym (same_Some f g (sym is.0 ∙ e))) ∙ is.1))
          (λ g e u. h (sym u ∙ ap (λ (x : FileEntry). x.place) (sym (same_Some f1 g e)) ∙ place ∙ is.1)));
    }

-- a file that is added
pub is_created : (dirs dirs1 : List Dir) (files files1 : List (Option FileEntry)) (stable stable1 : Sectors) (log log1 : List Write) (number : ℕ) (maker : Option ℕ) (f : FileEntry)
    → dirs1 ≡ dirs → stable1 ≡ stable → log1 ≡ log → AreApart files1 → slot number files ≡ None → IsSlotPut number (Some f) files files1
    → ((k : ℕ) → sector_at stable 0 number k ≡ None) → loose_of number log ≡ [] → f.fresh ≡ maker → found f.place 0 files ≡ None
    → IsPut (content_of dirs files stable log) f.place (Some (record { size = f.size; stable = λ _. zero_sector; loose = []; fresh = maker })) (content_of dirs1 files1 stable1 log1)
is_created dirs dirs1 files files1 stable stable1 log log1 number maker f folders sectors writes apart free put no_stable no_log fresh none = record {
  dirs = λ q. ap (λ (ds : List Dir). has_dir ds q) folders;
  here =
      let at : found f.place 0 files1 ≡ Some (number, f) = found_at f.place files1 number f apart (put_here number (Some f) files files1 put) refl in
      file_at dirs1 files1 stable1 log1 f.place at
      ∙ ap (λ (x : File). Some x) (λ i. file_of (sectors i) (writes i) number f)
      ∙ ap (λ (x : File). Some x) (λ i. record { size = f.size; stable = λ k. unwrap_or (no_stable k i) zero_sector; loose = no_log i; fresh = fresh i });
  others = λ q h. carried dirs dirs1 files files1 stable stable1 log log1 q q apart
      (put_carries files files1 stable stable1 log log1 number (Some f) q put (λ m g apart. λ i. file_of (sectors i) (writes i) m g)
      (λ g e u. none_some (slot number files) g free e)
      (λ g e u. h (sym u ∙ ap (λ (x : FileEntry). x.place) (sym (same_Some f g e)))));
}

number_is : (n : ℕ) → (n == n) ≡ true
number_is n = eq-eqb n n refl

pub is_written : (dirs : List Dir) (files : List (Option FileEntry)) (stable : Sectors) (log log1 : List Write) (p : Place) (number : ℕ) (f : FileEntry) (host first count : ℕ) (bytes : List ℕ)
    → AreApart files → found p 0 files ≡ Some (number, f) → count ≡ sectors_in bytes → LogsWrites host number first bytes count log log1
    → IsPut (content_of dirs files stable log) p (Some (wrote (λ _. true) host first bytes (file_of stable log number f))) (content_of dirs files stable log1)
is_written dirs files stable log log1 p number f host first count bytes apart was all logs =
    let at : loose_of number log1 ≡ writes (λ _. true) host first bytes count ++ loose_of number log = rw number_is at (logs number) in
    let here : loose_of number log1 ≡ writes (λ _. true) host first bytes (sectors_in bytes) ++ loose_of number log = rw (← all) at in
    let other : (m : ℕ) → m ≢ number → loose_of m log1 ≡ loose_of m log = λ m apart. rw (not_false (number == m) (λ t. apart (sym (eqb-true number m t)))) at (logs m) in
    let is = found_slot p files number f was in
    is_put dirs dirs files files stable stable log log1 p number f f _ refl apart was refl (put_itself number f files is.0)
    (λ m g apart. λ i. record { size = g.size; stable = λ k. unwrap_or (sector_at stable 0 m k) zero_sector; loose = other m apart i; fresh = g.fresh })
    (λ i. record { size = f.size; stable = λ k. unwrap_or (sector_at stable 0 number k) zero_sector; loose = here i; fresh = f.fresh })

-- the same folders, files and stable sectors
pub same_content : (dirs dirs1 : List Dir) (files files1 : List (Option FileEntry)) (stable stable1 : Sectors) (log : List Write) → dirs1 ≡ dirs → files1 ≡ files → stable1 ≡ stable
    → content_of dirs files stable log ≡ content_of dirs1 files1 stable1 log
same_content dirs dirs1 files files1 stable stable1 log d f s = let e = sym d in let g = sym f in let t = sym s in λ i. content_of (e i) (g i) (t i) log

-- no folders and no files
pub is_empty : (dirs : List Dir) (files : List (Option FileEntry)) (stable : Sectors) (log : List Write) → dirs ≡ [] → files ≡ [] → IsEmpty (content_of dirs files stable log)
is_empty dirs files stable log d f = record {
  root = refl;
  dirs = λ q apart. rw d (rw (dir_is-apart Root q (λ e. apart (sym e))) refl);
  files = λ p. rw f refl;
}
