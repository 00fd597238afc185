-- The counts of the 256 clusters that a sector has.
use Rattle.std.proofs.Common.{◌≡◌, ◌⊎◌, inl, inr, ℕ, ◌+◌, ◌-◌, ◌*◌, ◌^◌, ◌<◌, ◌≤◌, Bool, true, false, List, Option, Some, None, refl, sym, ap, ◌∙◌, subst, arith, nat_lt}
use Rattle.std.specs.Prelude.{◌==◌, ◌&&◌, not, if◌then◌else◌}
use Rattle.std.specs.Option.{is_some}
use Rattle.std.proofs.lemmas.Bool.{cases_lt}
use Rattle.std.proofs.lemmas.Bool.Decides.{nat_tests}
use Rattle.qcow_format.specs.Bytes.{number}
use Rattle.image_model.specs.Layer.{Tables, count_of}
use Rattle.layer_walk.specs.Bits.{room_of}
use Rattle.layer_walk.specs.Counting.{Counted, HasBits, HasCounts, HasNote, IsFound, MapsFile, Notes, PassesCounts, PassesNotes, TakesCount, TakesCounts, counted_bit}
use Rattle.layer_walk.specs.Marks.{free_by}
use Rattle.layer_walk.specs.declared.marks.Marks.{Marks}
use Rattle.layer_walk.proofs.Ranges.{bit_of_none, bits_noted, bits_on, fine_on, keeps_both, keeps_same, note_on}

-- ---- one after the other

pub counts_none : (first : ℕ) (sector : List ℕ) (m : Marks) → TakesCounts first 0 sector m m
counts_none first sector m = record { keeps = keeps_same m; noted = refl; inside = λ j lt w. absurd (omega (arith, lt)); outside = λ n far. refl }

pub counts_more : (first j : ℕ) (sector : List ℕ) (a b c : Marks) → TakesCounts first j sector a b → TakesCount (first + j) (number 2 (j * 2) sector) b c → TakesCounts first (j + 1) sector a c
counts_more first j sector a b c p q = record {
  keeps = keeps_both a b c p.keeps q.keeps;
  noted = q.noted ∙ p.noted;
  inside = λ i lt w. go i lt w (cases_lt i j);
  outside = λ n far. past n far;
}
  where
    go : (i : ℕ) → i < j + 1 → first + i < room_of a.free → (i < j) ⊎ (j ≤ i) → free_by c (first + i) ≡ (if nat_lt 0 (number 2 (i * 2) sector) then is_some a.noted else free_by a (first + i))
    go i lt w (inl less) = q.others (first + i) (λ e. omega (arith, less, e)) ∙ p.inside i less w
    go i lt w (inr more) =
        let same : j ≡ i = omega (arith, more, lt) in
        let here = q.here (subst (λ n. first + j < n) (sym p.keeps.room) (subst (λ n. first + n < room_of a.free) (sym same) w)) in
        subst (λ n. free_by c (first + n) ≡ (if nat_lt 0 (number 2 (n * 2) sector) then is_some a.noted else free_by a (first + n))) same
        (here
        ∙ ap (λ (o : Option ℕ). if nat_lt 0 (number 2 (j * 2) sector) then is_some o else free_by b (first + j)) p.noted
        ∙ ap (λ (f : Bool). if nat_lt 0 (number 2 (j * 2) sector) then is_some a.noted else f) (p.outside (first + j) (inr (omega arith))))

    past : (n : ℕ) → (n < first) ⊎ (first + (j + 1) ≤ n) → free_by c n ≡ free_by a n
    past n (inl low) = q.others n (λ e. omega (arith, low, e)) ∙ p.outside n (inl low)
    past n (inr high) = q.others n (λ e. omega (arith, high, e)) ∙ p.outside n (inr (omega (arith, high)))

pub found_none : (first : ℕ) (sector : List ℕ) (m : Marks) → IsFound first 0 sector m None
found_none first sector m = λ j lt zero. absurd (omega (arith, lt))

pub found_more : (first i : ℕ) (sector : List ℕ) (m : Marks) → IsFound first i sector m None → (number 2 (i * 2) sector ≡ 0 → free_by m (first + i) ≡ true) → IsFound first (i + 1) sector m None
found_more first i sector m known here = λ j lt zero. go j lt zero (cases_lt j i)
  where
    go : (j : ℕ) → j < i + 1 → number 2 (j * 2) sector ≡ 0 → (j < i) ⊎ (i ≤ j) → free_by m (first + j) ≡ true
    go j lt zero (inl less) = known j less zero
    go j lt zero (inr more) = let same : i ≡ j = omega (arith, more, lt) in subst (λ n. number 2 (n * 2) sector ≡ 0 → free_by m (first + n) ≡ true) same here zero

-- ---- a named one with the count 0

named_of : (b : Bool) → false ≡ not b → b ≡ true
named_of true e = refl
named_of false e = absurd cc

module _ (first : ℕ) (sector : List ℕ) (before after : Marks) where
  -- one is noted already
  pub notes_kept : is_some before.noted ≡ true → PassesNotes first sector before before
  notes_kept is = record {
    keeps = keeps_same before;
    bits = λ t room named maps end has counted. counted.bits;
    note = λ t room named maps end has counted. go t room named before.noted is counted.note;
  }
    where
      go : (t : Tables) (room : ℕ) (named : ℕ → Bool) (noted : Option ℕ) → is_some noted ≡ true → HasNote t room named noted first → HasNote t room named noted (first + 256)
      go t room named None is note = absurd cc
      go t room named (Some place) is note = note_on t room named place first (first + 256) (omega arith) note

  -- there is none
  pub notes_none : before.noted ≡ None → IsFound first 256 sector before None → PassesNotes first sector before before
  notes_none is found = record {
    keeps = keeps_same before;
    bits = λ t room named maps end has counted. counted.bits;
    note = λ t room named maps end has counted.
        let bits = subst (λ o. HasBits t room named (free_by before) o first) is counted.bits in
        let note = subst (λ o. HasNote t room named o first) is counted.note in
        subst (λ o. HasNote t room named o (first + 256)) (sym is) (fine_on t room named first (first + 256) note (λ c low high w n. go t room named bits has c low high w n (count_of t c) refl));
  }
    where
      go : (t : Tables) (room : ℕ) (named : ℕ → Bool) → HasBits t room named (free_by before) None first → HasCounts t first sector
          → (c : ℕ) → first ≤ c → c < first + 256 → c < room → named c ≡ true → (n : ℕ) → count_of t c ≡ n → 0 < n
      go t room named bits has c low high w is n same = positive n (λ zero. absurd (never zero))
        where
          positive : (n : ℕ) → (n ≡ 0 → ⊥) → 0 < n
          positive n some = omega (arith, some)

          split : first + (c - first) ≡ c
          split = omega (arith, low)

          never : n ≡ 0 → ⊥
          never zero =
              let e : number 2 ((c - first) * 2) sector ≡ 0 = has.count (c - first) (omega (arith, low, high)) ∙ ap (count_of t) split ∙ same ∙ zero in
              let f : free_by before c ≡ true = subst (λ m. free_by before m ≡ true) split (found (c - first) (omega (arith, low, high)) e) in
              let g : true ≡ false = sym f ∙ bits.above c low w ∙ ap not is in
              absurd cc

  -- one is found
  pub notes_found : (c : ℕ) → before.noted ≡ None → IsFound first 256 sector before (Some c) → Notes first c before after → PassesNotes first sector before after
  notes_found c is found notes = record {
    keeps = notes.keeps;
    bits = λ t room named maps end has counted.
        let bits = subst (λ o. HasBits t room named (free_by before) o first) is counted.bits in
        let note = subst (λ o. HasNote t room named o first) is counted.note in
        subst (λ o. HasBits t room named (free_by after) o first) (sym (noted t room named maps end bits))
        (bits_noted t room named (free_by before) (free_by after) (c * before.cluster) first bits note (λ n lt w. notes.filled n lt (subst (λ m. n < m) (sym maps.many) w)) notes.others);
    note = λ t room named maps end has counted.
        let bits = subst (λ o. HasBits t room named (free_by before) o first) is counted.bits in
        subst (λ o. HasNote t room named o (first + 256)) (sym (noted t room named maps end bits)) (record {
          fine = λ e. absurd cc;
          some = λ place e. record {
            cluster = c;
            below = omega (arith, found.1, found.2);
            inside = omega (arith, found.1, found.2, end);
            is_named = has_name t room named end bits;
            none = ap (count_of t) found.2 ∙ sym (has.count found.0 found.1) ∙ found.3;
            at = same_place (c * before.cluster) place e ∙ ap (λ n. c * n) maps.cluster;
          };
        });
  }
    where
      has_name : (t : Tables) (room : ℕ) (named : ℕ → Bool) → first + 256 ≤ room → HasBits t room named (free_by before) None first → named c ≡ true
      has_name t room named end bits = named_of (named c) (sym found.4 ∙ bits.above c (omega (arith, found.2)) (omega (arith, found.1, found.2, end)))

      noted : (t : Tables) (room : ℕ) (named : ℕ → Bool) → MapsFile t room named before → first + 256 ≤ room → HasBits t room named (free_by before) None first → after.noted ≡ Some (c * before.cluster)
      noted t room named maps end bits =
          notes.noted (subst (λ n. c * n < 2 ^ 64) (sym maps.cluster) (omega (arith, maps.inside c (has_name t room named end bits), maps.size, before.fits)))

      same_place : (a b : ℕ) → ◌≡◌ {A = Option ℕ} (Some a) (Some b) → b ≡ a
      same_place a b e = cc

-- ---- all of them

module _ (t : Tables) (room first : ℕ) (named : ℕ → Bool) (sector : List ℕ) (before after : Marks) (takes : TakesCounts first 256 sector before after) (has : HasCounts t first sector)
    (many : room_of before.free ≡ room) (end : first + 256 ≤ room) where
  bit_now : (noted : Option ℕ) → before.noted ≡ noted → HasBits t room named (free_by before) noted first → HasNote t room named noted (first + 256)
      → (j : ℕ) → j < 256 → free_by after (first + j) ≡ counted_bit t named noted (first + j)
  bit_now noted is bits note j lt =
      takes.inside j lt (subst (λ n. first + j < n) (sym many) (omega (arith, lt, end)))
      ∙ ap (λ n. if nat_lt 0 n then is_some before.noted else free_by before (first + j)) (has.count j lt)
      ∙ ap (λ (o : Option ℕ). if nat_lt 0 (count_of t (first + j)) then is_some o else free_by before (first + j)) is
      ∙ ap (λ (b : Bool). if nat_lt 0 (count_of t (first + j)) then is_some noted else b) (bits.above (first + j) (omega arith) (omega (arith, lt, end)))
      ∙ go noted note (named (first + j)) refl (nat_lt 0 (count_of t (first + j))) refl
    where
      none : nat_lt 0 (count_of t (first + j)) ≡ false → count_of t (first + j) ≡ 0
      none e = grind (arith, nat_tests)

      some : nat_lt 0 (count_of t (first + j)) ≡ true → (count_of t (first + j) == 0) ≡ false
      some e = grind (arith, nat_tests)

      after_and : (b : Bool) → not (b && false) ≡ true
      after_and true = refl
      after_and false = refl

      unnamed : count_of t (first + j) ≡ 0 → 0 < count_of t (first + j) → ⊥
      unnamed zero lt = omega (arith, zero, lt)

      go : (noted : Option ℕ) → HasNote t room named noted (first + 256) → (n : Bool) → named (first + j) ≡ n → (b : Bool) → nat_lt 0 (count_of t (first + j)) ≡ b
          → (if b then is_some noted else not (named (first + j))) ≡ counted_bit t named noted (first + j)
      go None note n m true e = sym (ap not (has.used j lt ∙ e))
      go None note true m false e = absurd (unnamed (none e) (note.fine refl (first + j) (omega (arith, lt)) (omega (arith, lt, end)) m))
      go None note false m false e = ap not m ∙ sym (ap not (has.used j lt ∙ e))
      go (Some place) note n m true e = sym (ap (λ (b : Bool). not (named (first + j) && b)) (some e) ∙ after_and (named (first + j)))
      go (Some place) note n m false e = sym (bit_of_none t named place (first + j) (none e))

  bits_counted : HasBits t room named (free_by before) before.noted first → HasNote t room named before.noted (first + 256) → HasBits t room named (free_by after) before.noted (first + 256)
  bits_counted bits note =
      bits_on t room named (free_by before) (free_by after) before.noted first (first + 256) bits (λ c lt w. takes.outside c (inl lt))
      (λ c low high w. mid c low high) (λ c far w. takes.outside c (inr far)) (omega arith)
    where
      mid : (c : ℕ) → first ≤ c → c < first + 256 → free_by after c ≡ counted_bit t named before.noted c
      mid c low high =
          let split : first + (c - first) ≡ c = omega (arith, low) in
          subst (λ n. free_by after n ≡ counted_bit t named before.noted n) split (bit_now before.noted refl bits note (c - first) (omega (arith, low, high)))

  pub counts_taken : HasBits t room named (free_by before) before.noted first → HasNote t room named before.noted (first + 256) → Counted t room named after (first + 256)
  counts_taken bits note = record {
    bits = subst (λ o. HasBits t room named (free_by after) o (first + 256)) (sym takes.noted) (bits_counted bits note);
    note = subst (λ o. HasNote t room named o (first + 256)) (sym takes.noted) note;
  }

pub counts_passed : (first : ℕ) (sector : List ℕ) (a b c : Marks) → PassesNotes first sector a b → TakesCounts first 256 sector b c → PassesCounts first sector a c
counts_passed first sector a b c notes takes = record {
  keeps = keeps_both a b c notes.keeps takes.keeps;
  counts = λ t room named maps end has counted.
      counts_taken t room first named sector b c takes has (notes.keeps.room ∙ maps.many) end (notes.bits t room named maps end has counted) (notes.note t room named maps end has counted);
}
