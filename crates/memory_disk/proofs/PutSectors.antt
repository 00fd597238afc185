-- What the content of a store is after a file is raised, and after a sector is exchanged.
use Rattle.std.proofs.Common.{◌≡◌, ◌≢◌, ℕ, ◌<◌, ◌≤◌, ◌==◌, ◌&&◌, Bool, true, false, not, nat_lt, max, if◌then◌else◌, List, [], ◌∷◌, reverse, Option, Some, None, unwrap_or, eq-eqb, eqb-true, refl, sym, ap, subst, ◌∙◌, inl, inr, arith}
use Rattle.std.specs.List.{filter}
use Rattle.std.proofs.lemmas.Bool.{cases_lt, false≢true}
use Rattle.std.proofs.lemmas.Bool.Decides.{Decides-ltb}
use Rattle.sd_names.specs.declared.place.Dir.{Dir}
use Rattle.sd_names.specs.declared.place.Place.{Place}
use Rattle.memory_disk.specs.declared.entry.FileEntry.{FileEntry}
use Rattle.memory_disk.specs.declared.entry.Write.{Write}
use Rattle.memory_disk.specs.declared.sector_map.Sectors.{Sectors}
use Rattle.shared_disk.specs.Calls.{IsPut}
use Rattle.shared_disk.specs.Changes.{apart_from, exchanged, grown, raised}
use Rattle.shared_disk.specs.Content.{zero_sector}
use Rattle.memory_disk.specs.Sectors.{sector_at}
use Rattle.memory_disk.specs.Store.{AreApart, IsStableWithin, apart_of, content_of, file_of, found, is_at, loose_in, loose_of, slot, slot_size}
use Rattle.memory_disk.proofs.Contents.{is_put}
use Rattle.shared_disk.proofs.Places.{not_false}
use Rattle.memory_disk.proofs.Slots.{found_slot, put_itself}
use Rattle.memory_disk.proofs.Synced.{filter-reverse}

at_least : (k size : ℕ) → nat_lt k size ≡ false → size ≤ k
at_least k size t = elim (cases_lt k size) [ inl lt ↦ absurd (false≢true (sym t ∙ (Decides-ltb k size).1 lt)) | inr le ↦ le ]

-- a file with more sectors
stable_step : (stable : Sectors) (n k size : ℕ) (b : Bool) → nat_lt k size ≡ b → (size ≤ k → sector_at stable 0 n k ≡ None)
    → unwrap_or (sector_at stable 0 n k) zero_sector ≡ (if nat_lt k size then unwrap_or (sector_at stable 0 n k) zero_sector else zero_sector)
stable_step stable n k size true t none = rw t refl
stable_step stable n k size false t none =
    let past : size ≤ k = at_least k size t in
    rw t (ap (λ (o : Option (List ℕ)). unwrap_or o zero_sector) (none past))

raised_file : (slots : List (Option FileEntry)) (stable : Sectors) (log : List Write) (n size : ℕ) (f g : FileEntry) → IsStableWithin slots stable → slot n slots ≡ Some f → g.size ≡ size → g.fresh ≡ f.fresh
    → file_of stable log n g ≡ raised size (file_of stable log n f)
raised_file slots stable log n size f g within is sized fresh =
    let at : (k : ℕ) → unwrap_or (sector_at stable 0 n k) zero_sector ≡ (if nat_lt k f.size then unwrap_or (sector_at stable 0 n k) zero_sector else zero_sector) =
    λ k. stable_step stable n k f.size (nat_lt k f.size) refl (λ past. within n k (rw is past)) in
    λ i. record { size = sized i; stable = λ k. at k i; loose = loose_of n log; fresh = fresh i }

grown_step : (slots : List (Option FileEntry)) (stable : Sectors) (log : List Write) (n size : ℕ) (f g : FileEntry) (b : Bool) → nat_lt f.size size ≡ b → IsStableWithin slots stable → slot n slots ≡ Some f
    → g.size ≡ max f.size size → g.fresh ≡ f.fresh → file_of stable log n g ≡ grown size (file_of stable log n f)
grown_step slots stable log n size f g true t within is sized fresh =
    let lt : f.size < size = (Decides-ltb f.size size).0 t in
    rw t (raised_file slots stable log n size f g within is (omega (arith, sized, lt)) fresh)
grown_step slots stable log n size f g false t within is sized fresh =
    let le : size ≤ f.size = at_least f.size size t in
    let same : g.size ≡ f.size = omega (arith, sized, le) in
    rw t (λ i. record { size = same i; stable = λ k. unwrap_or (sector_at stable 0 n k) zero_sector; loose = loose_of n log; fresh = fresh i })

pub grown_file : (slots : List (Option FileEntry)) (stable : Sectors) (log : List Write) (n size : ℕ) (f g : FileEntry) → IsStableWithin slots stable → slot n slots ≡ Some f
    → g.size ≡ max f.size size → g.fresh ≡ f.fresh → file_of stable log n g ≡ grown size (file_of stable log n f)
grown_file slots stable log n size f g within is sized fresh = grown_step slots stable log n size f g (nat_lt f.size size) refl within is sized fresh

-- the writes of a sector are gone
here_step : (n k : ℕ) (w : Write) (ws : List Write) (a b : Bool) → (w.file == n) ≡ a → (w.sector == k) ≡ b → loose_in n (filter (λ v. not (is_at n k v)) ws) ≡ apart_from k (loose_in n ws)
    → loose_in n (filter (λ v. not (is_at n k v)) (w ∷ ws)) ≡ apart_from k (loose_in n (w ∷ ws))
here_step n k w ws true true s t h = rw (s, t) h
here_step n k w ws true false s t h = rw (s, t, s) (ap (λ ls. record { host = w.host; sector = w.sector; bytes = w.bytes } ∷ ls) h)
here_step n k w ws false b s t h = rw (s, s) h

apart_in : (n k : ℕ) (ws : List Write) → loose_in n (filter (λ v. not (is_at n k v)) ws) ≡ apart_from k (loose_in n ws)
apart_in n k [] = refl
apart_in n k (w ∷ ws) = here_step n k w ws (w.file == n) (w.sector == k) refl refl (apart_in n k ws)

pub apart_mine : (n k : ℕ) (log : List Write) → loose_of n (apart_of n k log) ≡ apart_from k (loose_of n log)
apart_mine n k log = ap (λ ws. loose_in n ws) (sym (filter-reverse (λ v. not (is_at n k v)) log)) ∙ apart_in n k (reverse log)

and_first : (a b : Bool) → (a && b) ≡ true → a ≡ true
and_first true b e = refl
and_first false b e = absurd (false≢true e)

and_second : (a b : Bool) → (a && b) ≡ true → b ≡ true
and_second true b e = e
and_second false b e = absurd (false≢true e)

other_step : (n m k : ℕ) (w : Write) (ws : List Write) (a b : Bool) → m ≢ n → is_at n k w ≡ a → (w.file == m) ≡ b → loose_in m (filter (λ v. not (is_at n k v)) ws) ≡ loose_in m ws
    → loose_in m (filter (λ v. not (is_at n k v)) (w ∷ ws)) ≡ loose_in m (w ∷ ws)
other_step n m k w ws true true apart s t h = absurd (apart (sym (eqb-true w.file m t) ∙ eqb-true w.file n (and_first _ _ s)))
other_step n m k w ws true false apart s t h = rw (s, t) h
other_step n m k w ws false true apart s t h = rw (s, t) (ap (λ ls. record { host = w.host; sector = w.sector; bytes = w.bytes } ∷ ls) h)
other_step n m k w ws false false apart s t h = rw (s, t) h

other_in : (n m k : ℕ) (ws : List Write) → m ≢ n → loose_in m (filter (λ v. not (is_at n k v)) ws) ≡ loose_in m ws
other_in n m k [] apart = refl
other_in n m k (w ∷ ws) apart = other_step n m k w ws (is_at n k w) (w.file == m) apart refl refl (other_in n m k ws apart)

pub apart_other : (n m k : ℕ) (log : List Write) → m ≢ n → loose_of m (apart_of n k log) ≡ loose_of m log
apart_other n m k log apart = ap (λ ws. loose_in m ws) (sym (filter-reverse (λ v. not (is_at n k v)) log)) ∙ other_in n m k (reverse log) apart

-- one sector is put
sector_step : (stable1 stable : Sectors) (n k j : ℕ) (next : List ℕ) (b : Bool) → (k == j) ≡ b → sector_at stable1 0 n j ≡ (if b then Some next else sector_at stable 0 n j)
    → unwrap_or (sector_at stable1 0 n j) zero_sector ≡ (if j == k then next else unwrap_or (sector_at stable 0 n j) zero_sector)
sector_step stable1 stable n k j next true t at =
    let back : (j == k) ≡ true = eq-eqb j k (sym (eqb-true k j t)) in
    ap (λ (o : Option (List ℕ)). unwrap_or o zero_sector) at ∙ rw back refl
sector_step stable1 stable n k j next false t at =
    let back : (j == k) ≡ false = not_false (j == k) (λ u. false≢true (sym t ∙ eq-eqb k j (sym (eqb-true j k u)))) in
    ap (λ (o : Option (List ℕ)). unwrap_or o zero_sector) at ∙ rw back refl

pub is_exchanged : (dirs dirs1 : List Dir) (slots slots1 : List (Option FileEntry)) (stable stable1 : Sectors) (log log1 : List Write) (p : Place) (number k : ℕ) (f : FileEntry) (next : List ℕ)
    → dirs1 ≡ dirs → slots1 ≡ slots → AreApart slots → found p 0 slots ≡ Some (number, f) → log1 ≡ apart_of number k log
    → ((n j : ℕ) → sector_at stable1 0 n j ≡ (if number == n && k == j then Some next else sector_at stable 0 n j))
    → IsPut (content_of dirs slots stable log) p (Some (exchanged k next (file_of stable log number f))) (content_of dirs1 slots1 stable1 log1)
is_exchanged dirs dirs1 slots slots1 stable stable1 log log1 p number k f next folders files apart was gone at =
    let is = found_slot p slots number f was in
    let same : (number == number) ≡ true = eq-eqb number number refl in
    let here : (j : ℕ) → unwrap_or (sector_at stable1 0 number j) zero_sector ≡ (if j == k then next else unwrap_or (sector_at stable 0 number j) zero_sector) =
    λ j. sector_step stable1 stable number k j next (k == j) refl (rw same at (at number j)) in
    let mine : loose_of number log1 ≡ apart_from k (loose_of number log) = ap (λ ws. loose_of number ws) gone ∙ apart_mine number k log in
    let other : (m j : ℕ) → m ≢ number → unwrap_or (sector_at stable1 0 m j) zero_sector ≡ unwrap_or (sector_at stable 0 m j) zero_sector =
    λ m j h. ap (λ (o : Option (List ℕ)). unwrap_or o zero_sector) (rw (not_false (number == m) (λ t. h (sym (eqb-true number m t)))) at (at m j)) in
    let rest : (m : ℕ) → m ≢ number → loose_of m log1 ≡ loose_of m log = λ m h. ap (λ ws. loose_of m ws) gone ∙ apart_other number m k log h in
    is_put dirs dirs1 slots slots1 stable stable1 log log1 p number f f _ folders (subst AreApart (sym files) apart) was refl (λ i. ap (λ ss. slot i ss) files ∙ put_itself number f slots is.0 i)
    (λ m g h. λ i. record { size = g.size; stable = λ j. other m j h i; loose = rest m h i; fresh = g.fresh })
    (λ i. record { size = f.size; stable = λ j. here j i; loose = mine i; fresh = f.fresh })

-- it lies within its file
within_step : (number n k j : ℕ) (slots : List (Option FileEntry)) (stable : Sectors) (o : Option (List ℕ)) (next : List ℕ) (b : Bool) → (number == n && k == j) ≡ b → IsStableWithin slots stable
    → k < slot_size (slot number slots) → slot_size (slot n slots) ≤ j → o ≡ (if b then Some next else sector_at stable 0 n j) → o ≡ None
within_step number n k j slots stable o next true t within here past is =
    let e : number ≡ n = eqb-true number n (and_first (number == n) (k == j) t) in
    let u : k ≡ j = eqb-true k j (and_second (number == n) (k == j) t) in
    let lt : k < slot_size (slot n slots) = subst (λ (m : ℕ). k < slot_size (slot m slots)) e here in
    absurd (omega (arith, u, lt, past))
within_step number n k j slots stable o next false t within here past is = is ∙ within n j past

pub put_within : (number k : ℕ) (slots : List (Option FileEntry)) (stable stable1 : Sectors) (next : List ℕ) → IsStableWithin slots stable → k < slot_size (slot number slots)
    → ((n j : ℕ) → sector_at stable1 0 n j ≡ (if number == n && k == j then Some next else sector_at stable 0 n j)) → IsStableWithin slots stable1
put_within number k slots stable stable1 next within here at = λ n j past. within_step number n k j slots stable (sector_at stable1 0 n j) next (number == n && k == j) refl within here past (at n j)

-- a sector that is put is one more at most
pub one_at_most : (there : Bool) → (if there then 0 else 1) ≤ 1
one_at_most true = omega arith
one_at_most false = omega arith
