-- What the content of a store is after a sync.
use Rattle.std.proofs.Common.{◌≡◌, ◌≢◌, ℕ, ◌==◌, ◌&&◌, Bool, true, false, not, if◌then◌else◌, List, [], ◌∷◌, ◌++◌, reverse, Option, Some, None, unwrap_or, eq-eqb, eqb-true, refl, sym, ap, ◌∙◌}
use Rattle.std.specs.List.{filter}
use Rattle.std.proofs.lemmas.Bool.{false≢true}
use Rattle.std.proofs.lemmas.List.{reverse-append, append-nil}
use Rattle.std.proofs.lemmas.List.Elements.{filter-append}
use Rattle.sd_names.specs.declared.place.Dir.{Dir}
use Rattle.sd_names.specs.declared.place.Place.{Place}
use Rattle.memory_disk.specs.declared.entry.FileEntry.{FileEntry}
use Rattle.memory_disk.specs.declared.entry.Write.{Write}
use Rattle.memory_disk.specs.declared.sector_map.Sectors.{Sectors}
use Rattle.shared_disk.specs.Content.{own_of, without, unless_by, zero_sector}
use Rattle.shared_disk.specs.Calls.{IsPut, synced}
use Rattle.memory_disk.specs.Files.{entry_synced}
use Rattle.memory_disk.specs.Sectors.{sector_at}
use Rattle.memory_disk.specs.Store.{AreApart, IsSlotPut, found, is_by, loose_in, loose_of, others_of, or_else, file_of, content_of}
use Rattle.memory_disk.proofs.Contents.{is_put}
use Rattle.shared_disk.proofs.Places.{not_false}

reverse-cons : {A : Type 0} (x : A) (xs : List A) → reverse (x ∷ xs) ≡ reverse xs ++ x ∷ []
reverse-cons x xs = reverse-append (x ∷ []) xs

filter_last : {A : Type 0} (p : A → Bool) (x : A) (xs : List A) (b : Bool) → p x ≡ b → reverse (filter p xs) ++ filter p (x ∷ []) ≡ reverse (filter p (x ∷ xs))
filter_last p x xs true e = rw e (sym (reverse-cons x (filter p xs)))
filter_last p x xs false e = rw e (append-nil (reverse (filter p xs)))

pub filter-reverse : {A : Type 0} (p : A → Bool) (xs : List A) → filter p (reverse xs) ≡ reverse (filter p xs)
filter-reverse p [] = refl
filter-reverse p (x ∷ xs) =
    ap (λ ys. filter p ys) (reverse-cons x xs) ∙ filter-append p (reverse xs) (x ∷ []) ∙ ap (λ ys. ys ++ filter p (x ∷ [])) (filter-reverse p xs) ∙ filter_last p x xs (p x) refl

same_step : (host n : ℕ) (w : Write) (ws : List Write) (a b : Bool) → (w.host == host) ≡ a → (w.file == n) ≡ b
    → loose_in n (filter (λ v. not (is_by host n v)) ws) ≡ without host (loose_in n ws)
    → loose_in n (filter (λ v. not (is_by host n v)) (w ∷ ws)) ≡ without host (loose_in n (w ∷ ws))
same_step host n w ws true true e f h = rw (e, f, e) h
same_step host n w ws true false e f h = rw (e, f, f) h
same_step host n w ws false true e f h = rw (e, f, e) (ap (λ ls. record { host = w.host; sector = w.sector; bytes = w.bytes } ∷ ls) h)
same_step host n w ws false false e f h = rw (e, f) h

loose_same : (host n : ℕ) (ws : List Write) → loose_in n (filter (λ v. not (is_by host n v)) ws) ≡ without host (loose_in n ws)
loose_same host n [] = refl
loose_same host n (w ∷ ws) = same_step host n w ws (w.host == host) (w.file == n) refl refl (loose_same host n ws)

and_last : (a b : Bool) → (a && b) ≡ true → b ≡ true
and_last true b e = e
and_last false b e = absurd (false≢true e)

other_step : (host n m : ℕ) (w : Write) (ws : List Write) (a b : Bool) → m ≢ n → is_by host n w ≡ a → (w.file == m) ≡ b
    → loose_in m (filter (λ v. not (is_by host n v)) ws) ≡ loose_in m ws
    → loose_in m (filter (λ v. not (is_by host n v)) (w ∷ ws)) ≡ loose_in m (w ∷ ws)
other_step host n m w ws true true apart e f h = absurd (apart (sym (eqb-true w.file m f) ∙ eqb-true w.file n (and_last _ _ e)))
other_step host n m w ws true false apart e f h = rw (e, f) h
other_step host n m w ws false true apart e f h = rw (e, f) (ap (λ ls. record { host = w.host; sector = w.sector; bytes = w.bytes } ∷ ls) h)
other_step host n m w ws false false apart e f h = rw (e, f) h

loose_other : (host n m : ℕ) (ws : List Write) → m ≢ n → loose_in m (filter (λ v. not (is_by host n v)) ws) ≡ loose_in m ws
loose_other host n m [] apart = refl
loose_other host n m (w ∷ ws) apart = other_step host n m w ws (is_by host n w) (w.file == m) apart refl refl (loose_other host n m ws apart)

-- the unsynced writes of a file after those by a host in it are gone
pub others_same : (host n : ℕ) (log : List Write) → loose_of n (others_of host n log) ≡ without host (loose_of n log)
others_same host n log = ap (λ ws. loose_in n ws) (sym (filter-reverse (λ v. not (is_by host n v)) log)) ∙ loose_same host n (reverse log)

-- those of another file
pub others_other : (host n m : ℕ) (log : List Write) → m ≢ n → loose_of m (others_of host n log) ≡ loose_of m log
others_other host n m log apart = ap (λ ws. loose_in m ws) (sym (filter-reverse (λ v. not (is_by host n v)) log)) ∙ loose_other host n m (reverse log) apart

or_else_or : (a b : Option (List ℕ)) (d : List ℕ) → unwrap_or (or_else a b) d ≡ unwrap_or a (unwrap_or b d)
or_else_or (Some x) b d = refl
or_else_or None b d = refl

pub is_synced : (dirs dirs1 : List Dir) (files files1 : List (Option FileEntry)) (stable stable1 : Sectors) (log log1 : List Write) (p : Place) (number : ℕ) (f : FileEntry) (host : ℕ)
    → dirs1 ≡ dirs → AreApart files1 → found p 0 files ≡ Some (number, f) → IsSlotPut number (Some (entry_synced host f)) files files1
    → ((n k : ℕ) → sector_at stable1 0 n k ≡ (if number == n then or_else (own_of host k (loose_of number log)) (sector_at stable 0 n k) else sector_at stable 0 n k))
    → log1 ≡ others_of host number log
    → IsPut (content_of dirs files stable log) p (Some (synced host (file_of stable log number f))) (content_of dirs1 files1 stable1 log1)
is_synced dirs dirs1 files files1 stable stable1 log log1 p number f host folders apart was put at gone =
    let same : (n : ℕ) → (n == n) ≡ true = λ n. eq-eqb n n refl in
    let stable_here : (k : ℕ) → unwrap_or (sector_at stable1 0 number k) zero_sector ≡ unwrap_or (own_of host k (loose_of number log)) (unwrap_or (sector_at stable 0 number k) zero_sector)
    = λ k. ap (λ o. unwrap_or o zero_sector) (rw same at (at number k)) ∙ or_else_or (own_of host k (loose_of number log)) (sector_at stable 0 number k) zero_sector in
    let loose_here : loose_of number log1 ≡ without host (loose_of number log) = ap (λ ws. loose_of number ws) gone ∙ others_same host number log in
    let stable_other : (m k : ℕ) → m ≢ number → unwrap_or (sector_at stable1 0 m k) zero_sector ≡ unwrap_or (sector_at stable 0 m k) zero_sector
    = λ m k apart. ap (λ o. unwrap_or o zero_sector) (rw (not_false (number == m) (λ t. apart (sym (eqb-true number m t)))) at (at m k)) in
    let loose_else : (m : ℕ) → m ≢ number → loose_of m log1 ≡ loose_of m log = λ m apart. ap (λ ws. loose_of m ws) gone ∙ others_other host number m log apart in
    is_put dirs dirs1 files files1 stable stable1 log log1 p number f (entry_synced host f) _ folders apart was refl put
    (λ m g apart. λ i. record { size = g.size; stable = λ k. stable_other m k apart i; loose = loose_else m apart i; fresh = g.fresh })
    (λ i. record { size = f.size; stable = λ k. stable_here k i; loose = loose_here i; fresh = unless_by host f.fresh })
