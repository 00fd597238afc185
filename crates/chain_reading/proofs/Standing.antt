-- What the part has so far stays true, as the run moves on.
use Rattle.std.proofs.Common.{◌≡◌, ◌⊎◌, ℕ, ◌+◌, ◌-◌, ◌<◌, ◌≤◌, Bool, true, false, List, length, slice_get, Option, Some, None, unwrap_or, refl, sym, ap, ◌∙◌, subst, inl, inr, arith}
use Rattle.std.specs.Prelude.{if◌then◌else◌, MatchBool}
use Rattle.std.proofs.Math.ListN.{drop_of_length-le}
use Rattle.std.proofs.Math.Nat.{sub-zero}
use Rattle.std.proofs.lemmas.Bool.{cases_lt, le-ltb, lt-ltb, false≢true}
use Rattle.sd_names.specs.declared.id.Id.{Id}
use Rattle.shared_disk.specs.Content.{File, sector_of, zero_sector}
use Rattle.chain_model.specs.Flat.{first_of}
use Rattle.chain_model.specs.Folder.{Volumes}
use Rattle.chain_model.specs.Own.{own}
use Rattle.volume_chain.specs.Chain.{path_in}
use Rattle.volume_chain.specs.declared.chain.Chain.{Chain}
use Rattle.volume_chain.proofs.Along.{next_begins}
use Rattle.chain_reading.specs.Knowing.{IsAsked, IsStanding, next_for, place_on, read_from, reads_as, records_of, wanted}
use Rattle.chain_reading.specs.Laying.{AreZeros, IsLaid, is_missing}
use Rattle.chain_reading.specs.Reading.{IsSamePart}
use Rattle.chain_reading.specs.declared.part.ReadPart.{ReadPart}

-- a sector as the path reads, by the volume that is asked first
pub read_here : (c : Chain) (x : Volumes) (i k : ℕ) (v : Id) → slice_get (path_in c) i ≡ Some v
    → read_from c x i k ≡ unwrap_or (own (records_of c) x v k) (read_from c x (i + 1) k)
read_here c x i k v is = ap (λ (ps : List Id). first_of (records_of c) x ps k) (next_begins (path_in c) i v is)

pub read_held : (c : Chain) (x : Volumes) (i k : ℕ) (v : Id) (s : List ℕ) → slice_get (path_in c) i ≡ Some v → own (records_of c) x v k ≡ Some s → read_from c x i k ≡ s
read_held c x i k v s is held = read_here c x i k v is ∙ ap (λ (o : Option (List ℕ)). unwrap_or o (read_from c x (i + 1) k)) held

pub read_past : (c : Chain) (x : Volumes) (i k : ℕ) (v : Id) → slice_get (path_in c) i ≡ Some v → own (records_of c) x v k ≡ None → read_from c x i k ≡ read_from c x (i + 1) k
read_past c x i k v is none = read_here c x i k v is ∙ ap (λ (o : Option (List ℕ)). unwrap_or o (read_from c x (i + 1) k)) none

-- the volume that is asked next
pub next_before : (p : ReadPart) (j : ℕ) → j < p.run.from → next_for p j ≡ p.index + 1
next_before p j less = ap (λ b. if b then p.index + 1 else p.index) (lt-ltb j p.run.from less)

pub next_behind : (p : ReadPart) (j : ℕ) → p.run.from ≤ j → next_for p j ≡ p.index
next_behind p j le = ap (λ b. if b then p.index + 1 else p.index) (le-ltb j p.run.from le)

-- ---- a sector, by whether it is missing

pub is_there : (p : ReadPart) (c : Chain) (x : Volumes) (part : List ℕ) (j : ℕ) → IsStanding p c x part j → is_missing p.missing j ≡ false → sector_of part j ≡ wanted p c x j
is_there p c x part j stands m =
    subst (λ b. MatchBool b (read_from c x (next_for p j) (p.first + j) ≡ wanted p c x j) (sector_of part j ≡ wanted p c x j)) m stands

pub is_asked : (p : ReadPart) (c : Chain) (x : Volumes) (part : List ℕ) (j i : ℕ) → IsStanding p c x part j → is_missing p.missing j ≡ true → next_for p j ≡ i
    → read_from c x i (p.first + j) ≡ wanted p c x j
is_asked p c x part j i stands m at =
    subst (λ n. read_from c x n (p.first + j) ≡ wanted p c x j) at
    (subst (λ b. MatchBool b (read_from c x (next_for p j) (p.first + j) ≡ wanted p c x j) (sector_of part j ≡ wanted p c x j)) m stands)

-- ---- the same part, later

module _ (p next : ReadPart) (c : Chain) (x : Volumes) (part part' : List ℕ) (same : IsSamePart p next) where
  same_wanted : (j : ℕ) → wanted next c x j ≡ wanted p c x j
  same_wanted j = ap (λ (v : Id). reads_as c x v (next.first + j)) same.volume ∙ ap (λ (n : ℕ). reads_as c x p.volume (n + j)) same.first

  Stays : Bool → ℕ → Type 0
  Stays b j = MatchBool b (read_from c x (next_for next j) (next.first + j) ≡ wanted next c x j) (sector_of part' j ≡ wanted next c x j)

  stands : (m : Bool) (j : ℕ) → is_missing next.missing j ≡ m → (m ≡ true → read_from c x (next_for next j) (p.first + j) ≡ wanted p c x j)
      → (m ≡ false → sector_of part' j ≡ wanted p c x j) → IsStanding next c x part' j
  unfolding Stays
  stands true j e asked there =
      let now : Stays true j = ap (λ (n : ℕ). read_from c x (next_for next j) (n + j)) same.first ∙ asked refl ∙ sym (same_wanted j) in
      subst (λ b. Stays b j) (sym e) now
  stands false j e asked there =
      let now : Stays false j = there refl ∙ sym (same_wanted j) in
      subst (λ b. Stays b j) (sym e) now

  -- a sector that is missing as before, or found as before
  pub kept : (j : ℕ) → IsStanding p c x part j → is_missing next.missing j ≡ is_missing p.missing j → (is_missing p.missing j ≡ false → sector_of part' j ≡ sector_of part j)
      → (is_missing p.missing j ≡ true → read_from c x (next_for next j) (p.first + j) ≡ wanted p c x j) → IsStanding next c x part' j
  kept j was m sector asked = stands (is_missing p.missing j) j m asked (λ f. sector f ∙ is_there p c x part j was f)

  -- a sector that isn't missing any more
  pub laid : (j : ℕ) → IsStanding p c x part j → is_missing next.missing j ≡ false → (is_missing p.missing j ≡ false → sector_of part' j ≡ sector_of part j)
      → (is_missing p.missing j ≡ true → sector_of part' j ≡ wanted p c x j) → IsStanding next c x part' j
  laid j was m sector found = go (is_missing p.missing j) refl
    where
      go : (b : Bool) → is_missing p.missing j ≡ b → IsStanding next c x part' j
      go true e = stands false j m (λ f. absurd (false≢true f)) (λ _. found e)
      go false e = stands false j m (λ f. absurd (false≢true f)) (λ _. sector e ∙ is_there p c x part j was e)

-- the volume that is asked is the one that is read or stands below it
pub still_from : (p next : ReadPart) (c : Chain) → IsSamePart p next → p.index ≤ next.index → place_on p.volume (path_in c) ≤ p.index → place_on next.volume (path_in c) ≤ next.index
still_from p next c same later from =
    let at : place_on next.volume (path_in c) ≡ place_on p.volume (path_in c) = ap (λ (v : Id). place_on v (path_in c)) same.volume in
    omega (arith, at, later, from)

-- ---- the moves

-- an index that is asked next before and after
same_next : (p next : ReadPart) (j : ℕ) → next.index ≡ p.index → (j < p.run.from → j < next.run.from) → (p.run.from ≤ j → next.run.from ≤ j) → next_for next j ≡ next_for p j
same_next p next j index low high = go (cases_lt j p.run.from)
  where
    go : (j < p.run.from) ⊎ (p.run.from ≤ j) → next_for next j ≡ next_for p j
    go (inl less) = next_before next j (low less) ∙ ap (λ (i : ℕ). i + 1) index ∙ sym (next_before p j less)
    go (inr le) = next_behind next j (high le) ∙ index ∙ sym (next_behind p j le)

-- The run is read, or it is none and the sectors behind it up to `end` are laid: they are what the volume holds.
pub each_laid : (p next : ReadPart) (c : Chain) (x : Volumes) (part part' bytes : List ℕ) (v : Id) (f : File) (from : ℕ) → IsSamePart p next → next.index ≡ p.index → IsAsked p c x v f
    → p.run.from ≤ from → from ≡ p.run.from → from ≤ next.run.from
    → ((j : ℕ) → from ≤ j → j < next.run.from → own (records_of c) x v (p.first + j) ≡ Some (sector_of bytes (j - from)))
    → IsLaid p.missing next.missing part part' from next.run.from bytes → (j : ℕ) → IsStanding p c x part j → IsStanding next c x part' j
each_laid p next c x part part' bytes v f from same index asked low start order held lays j was = go (cases_lt j from) (cases_lt j next.run.from)
  where
    go : (j < from) ⊎ (from ≤ j) → (j < next.run.from) ⊎ (next.run.from ≤ j) → IsStanding next c x part' j
    go (inl less) other = kept p next c x part part' same j was (lays.below j less) (lays.kept j)
        (λ m. ap (λ (i : ℕ). read_from c x i (p.first + j)) (next_before next j (omega (arith, less, order)) ∙ ap (λ (i : ℕ). i + 1) index)
        ∙ is_asked p c x part j (p.index + 1) was m (next_before p j (omega (arith, less, start))))
    go (inr le) (inl less) = laid p next c x part part' same j was (lays.found j le less) (lays.kept j)
        (λ m. lays.laid j le less m ∙ sym (read_held c x p.index (p.first + j) v (sector_of bytes (j - from)) asked.volume (held j le less))
        ∙ is_asked p c x part j p.index was m (next_behind p j (omega (arith, le, start))))
    go (inr le) (inr past) = kept p next c x part part' same j was (lays.above j past) (lays.kept j)
        (λ m. ap (λ (i : ℕ). read_from c x i (p.first + j)) (next_behind next j past ∙ index)
        ∙ is_asked p c x part j p.index was m (next_behind p j (omega (arith, le, start))))

-- The volume doesn't hold the sectors behind the run, which is none, up to where the next one begins.
pub each_skipped : (p next : ReadPart) (c : Chain) (x : Volumes) (part : List ℕ) (v : Id) (f : File) → IsSamePart p next → next.index ≡ p.index → next.missing ≡ p.missing → IsAsked p c x v f
    → p.run.from ≤ next.run.from
    → ((j : ℕ) → p.run.from ≤ j → j < next.run.from → is_missing p.missing j ≡ true → own (records_of c) x v (p.first + j) ≡ None)
    → (j : ℕ) → IsStanding p c x part j → IsStanding next c x part j
each_skipped p next c x part v f same index missing asked order none j was =
    kept p next c x part part same j was (ap (λ ms. is_missing ms j) missing) (λ _. refl) (λ m. go m (cases_lt j p.run.from) (cases_lt j next.run.from))
  where
    go : is_missing p.missing j ≡ true → (j < p.run.from) ⊎ (p.run.from ≤ j) → (j < next.run.from) ⊎ (next.run.from ≤ j) → read_from c x (next_for next j) (p.first + j) ≡ wanted p c x j
    go m (inl less) other = ap (λ (i : ℕ). read_from c x i (p.first + j)) (next_before next j (omega (arith, less, order)) ∙ ap (λ (i : ℕ). i + 1) index)
        ∙ is_asked p c x part j (p.index + 1) was m (next_before p j less)
    go m (inr le) (inl less) = ap (λ (i : ℕ). read_from c x i (p.first + j)) (next_before next j less ∙ ap (λ (i : ℕ). i + 1) index)
        ∙ sym (read_past c x p.index (p.first + j) v asked.volume (none j le less m)) ∙ is_asked p c x part j p.index was m (next_behind p j le)
    go m (inr le) (inr past) = ap (λ (i : ℕ). read_from c x i (p.first + j)) (next_behind next j past ∙ index) ∙ is_asked p c x part j p.index was m (next_behind p j le)

-- The next volume is asked: of the sectors behind the run, which is none, the volume holds none that is missing.
pub each_passed : (p next : ReadPart) (c : Chain) (x : Volumes) (part : List ℕ) (v : Id) → IsSamePart p next → next.index ≡ p.index + 1 → next.missing ≡ p.missing → next.run.from ≡ 0
    → slice_get (path_in c) p.index ≡ Some v → (j : ℕ) → (p.run.from ≤ j → is_missing p.missing j ≡ true → own (records_of c) x v (p.first + j) ≡ None)
    → IsStanding p c x part j → IsStanding next c x part j
each_passed p next c x part v same index missing from is j none was =
    kept p next c x part part same j was (ap (λ ms. is_missing ms j) missing) (λ _. refl) (λ m. ap (λ (i : ℕ). read_from c x i (p.first + j)) (next_behind next j (omega (arith, from)) ∙ index) ∙ go m (cases_lt j p.run.from))
  where
    go : is_missing p.missing j ≡ true → (j < p.run.from) ⊎ (p.run.from ≤ j) → read_from c x (p.index + 1) (p.first + j) ≡ wanted p c x j
    go m (inl less) = is_asked p c x part j (p.index + 1) was m (next_before p j less)
    go m (inr le) = sym (read_past c x p.index (p.first + j) v is (none le m)) ∙ is_asked p c x part j p.index was m (next_behind p j le)

-- Each sector is missing, and the volume itself is asked.
pub each_found : (p next : ReadPart) (c : Chain) (x : Volumes) (part : List ℕ) (j : ℕ) → IsSamePart p next → next.index ≡ place_on p.volume (path_in c) → next.run.from ≡ 0
    → is_missing next.missing j ≡ true → IsStanding next c x part j
each_found p next c x part j same index from m =
    let at : next_for next j ≡ place_on next.volume (path_in c) = next_behind next j (omega (arith, from)) ∙ index ∙ ap (λ (v : Id). place_on v (path_in c)) (sym same.volume) in
    let now : read_from c x (next_for next j) (next.first + j) ≡ wanted next c x j = ap (λ (i : ℕ). read_from c x i (next.first + j)) at in
    subst (λ b. MatchBool b (read_from c x (next_for next j) (next.first + j) ≡ wanted next c x j) (sector_of part j ≡ wanted next c x j)) (sym m) now

-- No volume is left: what is missing is zeros.
pub each_zero : (p : ReadPart) (c : Chain) (x : Volumes) (part part' bytes : List ℕ) (missing : List Bool) (to j : ℕ) → length (path_in c) ≤ p.index → AreZeros bytes → j < 128 → j < to
    → IsLaid p.missing missing part part' 0 to bytes → IsStanding p c x part j → sector_of part' j ≡ wanted p c x j
each_zero p c x part part' bytes missing to j none zeros few less lays was = go (is_missing p.missing j) refl
  where
    ended : (i : ℕ) → p.index ≤ i → read_from c x i (p.first + j) ≡ zero_sector
    ended i le = ap (λ (ps : List Id). first_of (records_of c) x ps (p.first + j)) (drop_of_length-le (path_in c) {i = i} (omega (arith, le, none)))

    any : (j < p.run.from) ⊎ (p.run.from ≤ j) → is_missing p.missing j ≡ true → zero_sector ≡ wanted p c x j
    any (inl before) m = sym (ended (p.index + 1) (omega arith)) ∙ is_asked p c x part j (p.index + 1) was m (next_before p j before)
    any (inr le) m = sym (ended p.index (omega arith)) ∙ is_asked p c x part j p.index was m (next_behind p j le)

    go : (b : Bool) → is_missing p.missing j ≡ b → sector_of part' j ≡ wanted p c x j
    go true m = lays.laid j (omega arith) less m ∙ ap (sector_of bytes) (sub-zero j) ∙ zeros j few ∙ any (cases_lt j p.run.from) m
    go false m = lays.kept j m ∙ is_there p c x part j was m
