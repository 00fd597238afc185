-- What is left of a store when a file is taken away.
use Rattle.std.proofs.Common.{◌≡◌, ◌≢◌, ℕ, ◌<◌, ◌≤◌, ◌==◌, Bool, true, false, not, List, [], ◌∷◌, reverse, Option, Some, None, unwrap_or, eq-eqb, eqb-true, refl, sym, ap, subst, ◌∙◌}
use Rattle.std.specs.List.{Contains, filter}
use Rattle.std.proofs.lemmas.Option.{none-some, same_Some}
use Rattle.std.proofs.lemmas.Bool.{false≢true}
use Rattle.sd_names.specs.declared.place.Dir.{Dir}
use Rattle.sd_names.specs.declared.place.Place.{Place}
use Rattle.memory_disk.specs.declared.entry.FileEntry.{FileEntry}
use Rattle.memory_disk.specs.declared.entry.Write.{Write}
use Rattle.memory_disk.specs.declared.sector_map.Sectors.{Sectors}
use Rattle.shared_disk.specs.Content.{Loose, zero_sector}
use Rattle.memory_disk.specs.Sectors.{sector_at}
use Rattle.memory_disk.specs.Store.{AreApart, AreHoused, IsCleared, IsLogWithin, IsSlotPut, IsStableWithin, found, loose_in, loose_of, outside_of, slot, slot_size}
use Rattle.shared_disk.proofs.Outcomes.{nothing_in}
use Rattle.memory_disk.proofs.Slots.{found_none, found_slot, put_other}
use Rattle.memory_disk.proofs.Synced.{filter-reverse}
use Rattle.memory_disk.proofs.Within.{part_among}

-- the writes of the file are gone
mine_step : (n : ℕ) (w : Write) (ws : List Write) (b : Bool) → (w.file == n) ≡ b → loose_in n (filter (λ v. not (v.file == n)) ws) ≡ [] → loose_in n (filter (λ v. not (v.file == n)) (w ∷ ws)) ≡ []
mine_step n w ws true e h = rw e h
mine_step n w ws false e h = rw (e, e) h

mine_in : (n : ℕ) (ws : List Write) → loose_in n (filter (λ v. not (v.file == n)) ws) ≡ []
mine_in n [] = refl
mine_in n (w ∷ ws) = mine_step n w ws (w.file == n) refl (mine_in n ws)

pub outside_mine : (n : ℕ) (log : List Write) → loose_of n (outside_of n log) ≡ []
outside_mine n log = ap (λ ws. loose_in n ws) (sym (filter-reverse (λ v. not (v.file == n)) log)) ∙ mine_in n (reverse log)

-- those of other files stay
other_step : (n m : ℕ) (w : Write) (ws : List Write) (a b : Bool) → m ≢ n → (w.file == n) ≡ a → (w.file == m) ≡ b
    → loose_in m (filter (λ v. not (v.file == n)) ws) ≡ loose_in m ws → loose_in m (filter (λ v. not (v.file == n)) (w ∷ ws)) ≡ loose_in m (w ∷ ws)
other_step n m w ws true true apart e f h = absurd (apart (sym (eqb-true w.file m f) ∙ eqb-true w.file n e))
other_step n m w ws true false apart e f h = rw (e, f) h
other_step n m w ws false true apart e f h = rw (e, f) (ap (λ ls. record { host = w.host; sector = w.sector; bytes = w.bytes } ∷ ls) h)
other_step n m w ws false false apart e f h = rw (e, f) h

other_in : (n m : ℕ) (ws : List Write) → m ≢ n → loose_in m (filter (λ v. not (v.file == n)) ws) ≡ loose_in m ws
other_in n m [] apart = refl
other_in n m (w ∷ ws) apart = other_step n m w ws (w.file == n) (w.file == m) apart refl refl (other_in n m ws apart)

pub outside_other : (n m : ℕ) (log : List Write) → m ≢ n → loose_of m (outside_of n log) ≡ loose_of m log
outside_other n m log apart = ap (λ ws. loose_in m ws) (sym (filter-reverse (λ v. not (v.file == n)) log)) ∙ other_in n m (reverse log) apart

-- what is left lies within its files
stable_step : (number n k : ℕ) (slots slots1 : List (Option FileEntry)) (stable stable1 : Sectors) (b : Bool) → (number == n) ≡ b → IsSlotPut number None slots slots1 → IsStableWithin slots stable
    → slot_size (slot n slots1) ≤ k → ((j : ℕ) → sector_at stable1 0 number j ≡ None) → ((m j : ℕ) → m ≢ number → sector_at stable1 0 m j ≡ sector_at stable 0 m j) → sector_at stable1 0 n k ≡ None
stable_step number n k slots slots1 stable stable1 true t put within past gone others = ap (λ (m : ℕ). sector_at stable1 0 m k) (sym (eqb-true number n t)) ∙ gone k
stable_step number n k slots slots1 stable stable1 false t put within past gone others =
    let apart : n ≢ number = λ e. false≢true (sym t ∙ eq-eqb number n (sym e)) in
    let same : slot n slots1 ≡ slot n slots = put_other number n None slots slots1 put apart in
    others n k apart ∙ within n k (rw (← same) past)

pub stable_left : (number : ℕ) (slots slots1 : List (Option FileEntry)) (stable stable1 : Sectors) → IsSlotPut number None slots slots1 → IsStableWithin slots stable
    → ((k : ℕ) → sector_at stable1 0 number k ≡ None) → ((n k : ℕ) → n ≢ number → sector_at stable1 0 n k ≡ sector_at stable 0 n k) → IsStableWithin slots1 stable1
stable_left number slots slots1 stable stable1 put within gone others = λ n k past. stable_step number n k slots slots1 stable stable1 (number == n) refl put within past gone others

log_step : (number n : ℕ) (slots slots1 : List (Option FileEntry)) (log : List Write) (l : Loose) (b : Bool) → (number == n) ≡ b → IsSlotPut number None slots slots1 → IsLogWithin slots log
    → Contains (loose_of n (outside_of number log)) l → l.sector < slot_size (slot n slots1)
log_step number n slots slots1 log l true t put within h =
    let e : n ≡ number = sym (eqb-true number n t) in
    absurd (nothing_in l (subst (λ (ls : List Loose). Contains ls l) (ap (λ (m : ℕ). loose_of m (outside_of number log)) e ∙ outside_mine number log) h))
log_step number n slots slots1 log l false t put within h =
    let same : slot n slots1 ≡ slot n slots = put_other number n None slots slots1 put (λ e. false≢true (sym t ∙ eq-eqb number n (sym e))) in
    rw same (within n l (part_among (λ v. not (v.file == number)) n log l h))

pub log_left : (number : ℕ) (slots slots1 : List (Option FileEntry)) (log log1 : List Write) → IsSlotPut number None slots slots1 → log1 ≡ outside_of number log → IsLogWithin slots log → IsLogWithin slots1 log1
log_left number slots slots1 log log1 put is within = λ n l h. log_step number n slots slots1 log l (number == n) refl put within (subst (λ (ws : List Write). Contains (loose_of n ws) l) is h)

-- and stands where it stood
left_step : (number n : ℕ) (slots slots1 : List (Option FileEntry)) (f : FileEntry) (b : Bool) → (n == number) ≡ b → IsSlotPut number None slots slots1 → slot n slots1 ≡ Some f → (n ≢ number) × (slot n slots ≡ Some f)
left_step number n slots slots1 f true t put is = absurd (none-some f (sym (rw t at (put n)) ∙ is))
left_step number n slots slots1 f false t put is = (λ e. false≢true (sym t ∙ eq-eqb n number e), sym (rw t at (put n)) ∙ is)

pub slot_left : (number n : ℕ) (slots slots1 : List (Option FileEntry)) (f : FileEntry) → IsSlotPut number None slots slots1 → slot n slots1 ≡ Some f → (n ≢ number) × (slot n slots ≡ Some f)
slot_left number n slots slots1 f put is = left_step number n slots slots1 f (n == number) refl put is

pub housed_left : (dirs : List Dir) (number : ℕ) (slots slots1 : List (Option FileEntry)) → IsSlotPut number None slots slots1 → AreHoused dirs slots → AreHoused dirs slots1
housed_left dirs number slots slots1 put housed = λ n f is. housed n f (slot_left number n slots slots1 f put is).1

-- the file that was found at a place is taken away
pub cleared : (p : Place) (number : ℕ) (f : FileEntry) (slots slots1 : List (Option FileEntry)) (stable stable1 : Sectors) (log log1 : List Write) → AreApart slots → found p 0 slots ≡ Some (number, f) → IsSlotPut number None slots slots1
    → ((n k : ℕ) → n ≢ number → sector_at stable1 0 n k ≡ sector_at stable 0 n k) → ((n : ℕ) → n ≢ number → loose_of n log1 ≡ loose_of n log)
    → IsCleared p slots stable log slots1 stable1 log1
cleared p number f slots slots1 stable stable1 log log1 apart was put sectors writes =
    let is = found_slot p slots number f was in record {
      kept = λ n g at. let w = slot_left number n slots slots1 g put at in (w.1, λ e. w.0 (apart n number g f w.1 is.0 (e ∙ sym is.1)));
      others = λ n g at h. put_other number n None slots slots1 put (λ e. h (ap (λ (x : FileEntry). x.place) (same_Some g f (sym at ∙ ap (λ (m : ℕ). slot m slots) e ∙ is.0)) ∙ is.1)) ∙ at;
      same = λ n g at. let w = slot_left number n slots slots1 g put at in
          λ i. record { size = g.size; stable = λ k. unwrap_or (sectors n k w.0 i) zero_sector; loose = writes n w.0 i; fresh = g.fresh };
    }

-- there was none
pub cleared_none : (p : Place) (slots : List (Option FileEntry)) (stable : Sectors) (log : List Write) → found p 0 slots ≡ None → IsCleared p slots stable log slots stable log
cleared_none p slots stable log none = record {
  kept = λ n f is. (is, λ e. found_none p 0 slots none n f is e);
  others = λ n f is h. is;
  same = λ n f is. refl;
}
