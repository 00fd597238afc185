-- Sectors and unsynced writes stay within the sizes of their files, and files in folders that are there.
use Rattle.std.proofs.Common.{◌≡◌, ℕ, zero, suc, ◌<◌, ◌≤◌, ◌==◌, ◌||◌, Bool, true, false, not, if◌then◌else◌, List, [], ◌∷◌, ◌++◌, length, get_or, reverse, Option, Some, None, eqb-true, refl, sym, ap, subst, ◌∙◌, inl, inr, arith}
use Rattle.std.specs.List.{Contains, filter, list_any}
use Rattle.std.proofs.lemmas.Bool.{false≢true}
use Rattle.std.proofs.lemmas.List.Sums.{count_by-le-length, length-filter}
use Rattle.std.proofs.lemmas.Option.{same_Some}
use Rattle.sd_names.specs.declared.place.Dir.{Dir}
use Rattle.memory_disk.specs.declared.entry.FileEntry.{FileEntry}
use Rattle.memory_disk.specs.declared.entry.Write.{Write}
use Rattle.memory_disk.specs.declared.sector_map.Sectors.{Sectors}
use Rattle.shared_disk.specs.Content.{Loose, own_of}
use Rattle.memory_disk.specs.Sectors.{sector_at}
use Rattle.memory_disk.specs.Cells.{key_eq}
use Rattle.memory_disk.specs.Store.{AreHoused, IsLogWithin, IsSlotPut, IsStableWithin, has_dir, loose_in, loose_of, or_else, slot, slot_size}
use Rattle.memory_disk.proofs.Contents.{loose_push}
use Rattle.shared_disk.proofs.Outcomes.{contains_here, contains_more, cons_cases, own_among, no_writes}
use Rattle.memory_disk.proofs.Synced.{filter-reverse}

-- a file that has as many sectors as before, or more
put_size : (n i : ℕ) (f g : FileEntry) (before after : List (Option FileEntry)) (b : Bool) → (i == n) ≡ b → IsSlotPut n (Some g) before after → slot n before ≡ Some f → f.size ≤ g.size
    → slot_size (slot i before) ≤ slot_size (slot i after)
put_size n i f g before after true t put is le =
    let e : i ≡ n = eqb-true i n t in
    let was : slot i before ≡ Some f = ap (λ (k : ℕ). slot k before) e ∙ is in
    let now : slot i after ≡ Some g = rw t at (put i) in
    rw (was, now) le
put_size n i f g before after false t put is le = let same : slot i after ≡ slot i before = rw t at (put i) in rw same (omega arith)

pub put_wider : (n : ℕ) (f g : FileEntry) (before after : List (Option FileEntry)) → IsSlotPut n (Some g) before after → slot n before ≡ Some f → f.size ≤ g.size
    → (i : ℕ) → slot_size (slot i before) ≤ slot_size (slot i after)
put_wider n f g before after put is le = λ i. put_size n i f g before after (i == n) refl put is le

add_size : (n i : ℕ) (g : FileEntry) (before after : List (Option FileEntry)) (b : Bool) → (i == n) ≡ b → IsSlotPut n (Some g) before after → slot n before ≡ None
    → slot_size (slot i before) ≤ slot_size (slot i after)
add_size n i g before after true t put is =
    let was : slot i before ≡ None = ap (λ (k : ℕ). slot k before) (eqb-true i n t) ∙ is in rw was (omega arith)
add_size n i g before after false t put is = let same : slot i after ≡ slot i before = rw t at (put i) in rw same (omega arith)

pub add_wider : (n : ℕ) (g : FileEntry) (before after : List (Option FileEntry)) → IsSlotPut n (Some g) before after → slot n before ≡ None
    → (i : ℕ) → slot_size (slot i before) ≤ slot_size (slot i after)
add_wider n g before after put is = λ i. add_size n i g before after (i == n) refl put is

pub stable_wider : (before after : List (Option FileEntry)) (stable : Sectors) → ((i : ℕ) → slot_size (slot i before) ≤ slot_size (slot i after)) → IsStableWithin before stable → IsStableWithin after stable
stable_wider before after stable wider within = λ n k past. let le = wider n in within n k (omega (arith, le, past))

pub log_wider : (before after : List (Option FileEntry)) (log : List Write) → ((i : ℕ) → slot_size (slot i before) ≤ slot_size (slot i after)) → IsLogWithin before log → IsLogWithin after log
log_wider before after log wider within = λ n l h. let le = wider n in let lt = within n l h in omega (arith, le, lt)

-- folders of files
housed_step : (dirs : List Dir) (n i : ℕ) (f g : FileEntry) (before after : List (Option FileEntry)) (b : Bool) → (i == n) ≡ b → IsSlotPut n (Some g) before after → has_dir dirs g.place.dir ≡ true
    → AreHoused dirs before → slot i after ≡ Some f → has_dir dirs f.place.dir ≡ true
housed_step dirs n i f g before after true t put there housed is =
    let e : g ≡ f = same_Some g f (sym (rw t at (put i)) ∙ is) in
    subst (λ (x : FileEntry). has_dir dirs x.place.dir ≡ true) e there
housed_step dirs n i f g before after false t put there housed is = housed i f (sym (rw t at (put i)) ∙ is)

pub put_housed : (dirs : List Dir) (n : ℕ) (g : FileEntry) (before after : List (Option FileEntry)) → IsSlotPut n (Some g) before after → has_dir dirs g.place.dir ≡ true → AreHoused dirs before → AreHoused dirs after
put_housed dirs n g before after put there housed = λ i f is. housed_step dirs n i f g before after (i == n) refl put there housed is

-- a part of the log
part_step : (p : Write → Bool) (n : ℕ) (w : Write) (ws : List Write) (l : Loose) (a b : Bool) → p w ≡ a → (w.file == n) ≡ b → (Contains (loose_in n (filter p ws)) l → Contains (loose_in n ws) l)
    → Contains (loose_in n (filter p (w ∷ ws))) l → Contains (loose_in n (w ∷ ws)) l
part_step p n w ws l true true s t more h =
    let x : Loose = record { host = w.host; sector = w.sector; bytes = w.bytes } in
    rw t (elim (cons_cases x l (loose_in n (filter p ws)) (rw (s, t) at h)) [
      | inl e ↦ subst (λ (y : Loose). Contains (x ∷ loose_in n ws) y) e (contains_here x (loose_in n ws))
      | inr g ↦ contains_more x l (loose_in n ws) (more g)
    ])
part_step p n w ws l true false s t more h = rw t (more (rw (s, t) at h))
part_step p n w ws l false true s t more h = rw t (contains_more (record { host = w.host; sector = w.sector; bytes = w.bytes }) l (loose_in n ws) (more (rw s at h)))
part_step p n w ws l false false s t more h = rw t (more (rw s at h))

part_in : (p : Write → Bool) (n : ℕ) (ws : List Write) (l : Loose) → Contains (loose_in n (filter p ws)) l → Contains (loose_in n ws) l
part_in p n [] l h = h
part_in p n (w ∷ ws) l h = part_step p n w ws l (p w) (w.file == n) refl refl (part_in p n ws l) h

pub part_among : (p : Write → Bool) (n : ℕ) (log : List Write) (l : Loose) → Contains (loose_of n (filter p log)) l → Contains (loose_of n log) l
part_among p n log l h = part_in p n (reverse log) l (subst (λ (ws : List Write). Contains (loose_in n ws) l) (sym (filter-reverse p log)) h)

pub log_part : (p : Write → Bool) (slots : List (Option FileEntry)) (log part : List Write) → part ≡ filter p log → IsLogWithin slots log → IsLogWithin slots part
log_part p slots log part is within = λ n l h. within n l (part_among p n log l (subst (λ (ws : List Write). Contains (loose_of n ws) l) is h))

-- one more write
more_step : (n : ℕ) (w : Write) (ws : List Write) (size : ℕ) (l : Loose) (b : Bool) → (w.file == n) ≡ b → (w.file ≡ n → w.sector < size) → ((m : Loose) → Contains (loose_in n ws) m → m.sector < size)
    → Contains (loose_in n (w ∷ ws)) l → l.sector < size
more_step n w ws size l true t here within h =
    elim (cons_cases (record { host = w.host; sector = w.sector; bytes = w.bytes }) l (loose_in n ws) (rw t at h)) [
      | inl e ↦ subst (λ (x : ℕ). x < size) (ap (λ (y : Loose). y.sector) e) (here (eqb-true w.file n t))
      | inr g ↦ within l g
    ]
more_step n w ws size l false t here within h = within l (rw t at h)

pub log_more : (slots : List (Option FileEntry)) (log log1 : List Write) (w : Write) → log1 ≡ log ++ w ∷ [] → w.sector < slot_size (slot w.file slots) → IsLogWithin slots log → IsLogWithin slots log1
log_more slots log log1 w is here within = λ n l h.
    let g : Contains (loose_in n (w ∷ reverse log)) l = subst (λ (ls : List Loose). Contains ls l) (ap (λ (ws : List Write). loose_of n ws) is ∙ loose_push n log w) h in
    more_step n w (reverse log) (slot_size (slot n slots)) l (w.file == n) refl (λ e. subst (λ (m : ℕ). w.sector < slot_size (slot m slots)) e here) (within n) g

-- no host wrote past the size
past_step : (host k size : ℕ) (ls : List Loose) (o : Option (List ℕ)) → own_of host k ls ≡ o → ((l : Loose) → Contains ls l → l.sector < size) → size ≤ k → own_of host k ls ≡ None
past_step host k size ls None e within past = e
past_step host k size ls (Some b) e within past =
    let w = own_among host k ls b e in
    let lt = within w.write w.among in
    absurd (omega (arith, lt, w.at, past))

pub own_past : (host k size : ℕ) (ls : List Loose) → ((l : Loose) → Contains ls l → l.sector < size) → size ≤ k → own_of host k ls ≡ None
own_past host k size ls within past = past_step host k size ls (own_of host k ls) refl within past

-- a free number has no writes
pub none_loose : (n : ℕ) (slots : List (Option FileEntry)) (log : List Write) → IsLogWithin slots log → slot n slots ≡ None → loose_of n log ≡ []
none_loose n slots log within free = no_writes (loose_of n log) (λ l h. let lt : l.sector < slot_size (slot n slots) = within n l h in let z : l.sector < 0 = rw free at lt in omega (arith, z))

-- a sync of a file
settled_step : (host number n k : ℕ) (slots : List (Option FileEntry)) (stable : Sectors) (log : List Write) (o : Option (List ℕ)) (b : Bool) → (number == n) ≡ b → IsStableWithin slots stable → IsLogWithin slots log
    → slot_size (slot n slots) ≤ k → o ≡ (if b then or_else (own_of host k (loose_of number log)) (sector_at stable 0 n k) else sector_at stable 0 n k) → o ≡ None
settled_step host number n k slots stable log o true t within writes past is =
    let e : number ≡ n = eqb-true number n t in
    let mine : own_of host k (loose_of number log) ≡ None = own_past host k (slot_size (slot number slots)) (loose_of number log) (writes number) (subst (λ (m : ℕ). slot_size (slot m slots) ≤ k) (sym e) past) in
    is ∙ rw mine (within n k past)
settled_step host number n k slots stable log o false t within writes past is = is ∙ within n k past

pub stable_settled : (host number : ℕ) (slots : List (Option FileEntry)) (stable stable1 : Sectors) (log : List Write) → IsStableWithin slots stable → IsLogWithin slots log
    → ((n k : ℕ) → sector_at stable1 0 n k ≡ (if number == n then or_else (own_of host k (loose_of number log)) (sector_at stable 0 n k) else sector_at stable 0 n k))
    → IsStableWithin slots stable1
stable_settled host number slots stable stable1 log within writes at = λ n k past. settled_step host number n k slots stable log (sector_at stable1 0 n k) (number == n) refl within writes past (at n k)

-- nor sectors
pub free_stable : (n : ℕ) (slots : List (Option FileEntry)) (stable : Sectors) → IsStableWithin slots stable → slot n slots ≡ None → (k : ℕ) → sector_at stable 0 n k ≡ None
free_stable n slots stable within free = λ k. within n k (rw free (omega arith))

-- the last writes after one more
last_step : (w : Write) (ws : List Write) (h n j : ℕ) (a b t : Bool) → (w.host == h) ≡ a → (w.file == n) ≡ b → (w.sector == j) ≡ t
    → (if key_eq (w.host, w.file, w.sector) (h, n, j) then Some w.bytes else own_of h j (loose_in n ws)) ≡ own_of h j (loose_in n (w ∷ ws))
last_step w ws h n j true true true x y z = rw (x, y, z, x) refl
last_step w ws h n j true true false x y z = rw (x, y, z, x) refl
last_step w ws h n j true false t x y z = rw (x, y) refl
last_step w ws h n j false true t x y z = rw (x, y, x) refl
last_step w ws h n j false false t x y z = rw (x, y) refl

pub own_newest : (w : Write) (ws : List Write) (h n j : ℕ) → own_of h j (loose_in n (w ∷ ws)) ≡ (if key_eq (w.host, w.file, w.sector) (h, n, j) then Some w.bytes else own_of h j (loose_in n ws))
own_newest w ws h n j = sym (last_step w ws h n j (w.host == h) (w.file == n) (w.sector == j) refl refl refl)

pub own_more : (log log1 : List Write) (w : Write) (h n j : ℕ) → log1 ≡ log ++ w ∷ []
    → (if key_eq (w.host, w.file, w.sector) (h, n, j) then Some w.bytes else own_of h j (loose_of n log)) ≡ own_of h j (loose_of n log1)
own_more log log1 w h n j is =
    last_step w (reverse log) h n j (w.host == h) (w.file == n) (w.sector == j) refl refl refl ∙ ap (λ (ls : List Loose). own_of h j ls) (sym (ap (λ (ws : List Write). loose_of n ws) is ∙ loose_push n log w))

-- a filter that leaves one out keeps fewer
fewer_step : (p : Write → Bool) (x : Write) (xs : List Write) (b : Bool) → p x ≡ b → length (filter p xs) < length xs → length (filter p (x ∷ xs)) < length (x ∷ xs)
fewer_step p x xs true e less = rw e (omega (arith, less))
fewer_step p x xs false e less = rw e (omega (arith, less))

pub filter_fewer : (p : Write → Bool) (log : List Write) (i : ℕ) (w : Write) → i < length log → w ≡ get_or log i w → p w ≡ false → length (filter p log) < length log
filter_fewer p [] i w within is out = absurd (omega (arith, within))
filter_fewer p (x ∷ xs) zero w within is out =
    let e : p x ≡ false = ap p (sym is) ∙ out in
    let some = length-filter p xs in
    let le = count_by-le-length p xs in
    rw e (omega (arith, some, le))
filter_fewer p (x ∷ xs) (suc i) w within is out = fewer_step p x xs (p x) refl (filter_fewer p xs i w (omega (arith, within)) is out)

pub filter_no_more : {X : Type 0} (p : X → Bool) (log part : List X) → part ≡ filter p log → length part ≤ length log
filter_no_more p log part is = let e = ap length is in let f = length-filter p log in let g = count_by-le-length p log in omega (arith, e, f, g)

-- and one that leaves out what there is some of
left_out_step : {X : Type 0} (p : X → Bool) (x : X) (xs : List X) (b : Bool) → p x ≡ b → (list_any p xs ≡ true → length (filter (λ y. not (p y)) xs) < length xs)
    → (b || list_any p xs) ≡ true → length (filter (λ y. not (p y)) (x ∷ xs)) < length (x ∷ xs)
left_out_step p x xs true e rest any = let le = filter_no_more (λ y. not (p y)) xs (filter (λ y. not (p y)) xs) refl in rw e (omega (arith, le))
left_out_step p x xs false e rest any = let less = rest any in rw e (omega (arith, less))

pub left_out_fewer : {X : Type 0} (p : X → Bool) (xs : List X) → list_any p xs ≡ true → length (filter (λ y. not (p y)) xs) < length xs
left_out_fewer p [] any = absurd (false≢true any)
left_out_fewer p (x ∷ xs) any = left_out_step p x xs (p x) refl (left_out_fewer p xs) any
