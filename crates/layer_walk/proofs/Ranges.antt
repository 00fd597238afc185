-- What the map says once the counts of more clusters are taken in.
use Rattle.std.proofs.Common.{◌≡◌, ◌≢◌, ◌⊎◌, inl, inr, ℕ, ◌+◌, ◌-◌, ◌*◌, ◌/◌, ◌^◌, ◌<◌, ◌≤◌, Bool, true, false, Option, Some, None, refl, sym, ap, ◌∙◌, subst, arith, ne_eqb}
use Rattle.std.specs.Prelude.{◌==◌, ◌&&◌, not}
use Rattle.std.specs.Option.{is_some}
use Rattle.std.proofs.lemmas.Bool.{cases_lt, cases_eq}
use Rattle.qcow_format.specs.declared.header.Header.{Header}
use Rattle.image_model.specs.File.{File}
use Rattle.image_model.specs.Layer.{Tables, block_place, block_span, count_of, is_used}
use Rattle.layer_walk.specs.Bits.{IsMissing}
use Rattle.layer_walk.specs.Counting.{HasBits, HasNote, IsUncounted, MapsFile, Notes, PassesRange, Uses, counted_bit, counts_in}
use Rattle.layer_walk.specs.Marks.{KeepsFile, free_by}
use Rattle.layer_walk.specs.declared.marks.Marks.{Marks}
use Rattle.layer_walk.proofs.Spans.{count_absent, span_some, used_first, used_other}

pub none_is : (o : Option ℕ) → is_some o ≡ false → o ≡ None
none_is None e = refl
none_is (Some x) e = absurd cc

pub keeps_same : (m : Marks) → KeepsFile m m
keeps_same m = record { size = refl; cluster = refl; room = refl }

pub keeps_both : (a b c : Marks) → KeepsFile a b → KeepsFile b c → KeepsFile a c
keeps_both a b c x y = record { size = y.size ∙ x.size; cluster = y.cluster ∙ x.cluster; room = y.room ∙ x.room }

pub maps_still : (t : Tables) (room : ℕ) (named : ℕ → Bool) (a b : Marks) → KeepsFile a b → MapsFile t room named a → MapsFile t room named b
maps_still t room named a b keeps maps = record {
  size = keeps.size ∙ maps.size;
  cluster = keeps.cluster ∙ maps.cluster;
  many = keeps.room ∙ maps.many;
  whole = maps.whole;
  inside = maps.inside;
}

-- ---- clusters further on

-- the clusters from `next` up to `end` have the bits that they are to have
pub bits_on : (t : Tables) (room : ℕ) (named f g : ℕ → Bool) (noted : Option ℕ) (next end : ℕ) → HasBits t room named f noted next
    → ((c : ℕ) → c < next → c < room → g c ≡ f c) → ((c : ℕ) → next ≤ c → c < end → c < room → g c ≡ counted_bit t named noted c) → ((c : ℕ) → end ≤ c → c < room → g c ≡ f c)
    → next ≤ end → HasBits t room named g noted end
bits_on t room named f g noted next end has low mid high le = record {
  below = λ c lt within. go c lt within (cases_lt c next);
  above = λ c far within. high c far within ∙ has.above c (omega (arith, far, le)) within;
}
  where
    go : (c : ℕ) → c < end → c < room → (c < next) ⊎ (next ≤ c) → g c ≡ counted_bit t named noted c
    go c lt within (inl less) = low c less within ∙ has.below c less within
    go c lt within (inr more) = mid c more lt within

pub uncounted_on : (t : Tables) (room : ℕ) (named : ℕ → Bool) (next end place : ℕ) → next ≤ end → IsUncounted t room named next place → IsUncounted t room named end place
uncounted_on t room named next end place le u = record {
  cluster = u.cluster;
  below = omega (arith, u.below, le);
  inside = u.inside;
  is_named = u.is_named;
  none = u.none;
  at = u.at;
}

-- where one is noted nothing more is asked
pub note_on : (t : Tables) (room : ℕ) (named : ℕ → Bool) (place next end : ℕ) → next ≤ end → HasNote t room named (Some place) next → HasNote t room named (Some place) end
note_on t room named place next end le note = record { fine = λ e. absurd cc; some = λ p e. uncounted_on t room named next end p le (note.some p e) }

-- where none is, those further on have counts too
pub fine_on : (t : Tables) (room : ℕ) (named : ℕ → Bool) (next end : ℕ) → HasNote t room named None next
    → ((c : ℕ) → next ≤ c → c < end → c < room → named c ≡ true → 0 < count_of t c) → HasNote t room named None end
fine_on t room named next end note more = record { fine = λ e c lt within is. go c lt within is (cases_lt c next); some = λ p e. absurd cc }
  where
    go : (c : ℕ) → c < end → c < room → named c ≡ true → (c < next) ⊎ (next ≤ c) → 0 < count_of t c
    go c lt within is (inl less) = note.fine refl c less within is
    go c lt within is (inr le) = more c le lt within is

-- one is noted now: the bits below `next` are those of clusters that have counts
pub bits_noted : (t : Tables) (room : ℕ) (named f g : ℕ → Bool) (place next : ℕ) → HasBits t room named f None next → HasNote t room named None next
    → ((c : ℕ) → c < next → c < room → g c ≡ true) → ((c : ℕ) → next ≤ c → g c ≡ f c) → HasBits t room named g (Some place) next
bits_noted t room named f g place next has note filled others = record {
  below = λ c lt within. filled c lt within ∙ sym (go c (named c) (note.fine refl c lt within) refl);
  above = λ c le within. others c le ∙ has.above c le within;
}
  where
    some_count : (n : ℕ) → 0 < n → (n == 0) ≡ false
    some_count n lt = ne_eqb n 0 (λ e. omega (arith, lt, e))

    go : (c : ℕ) (b : Bool) → (named c ≡ true → 0 < count_of t c) → named c ≡ b → not (named c && count_of t c == 0) ≡ true
    go c true fine is = ap (λ (a : Bool). not (a && count_of t c == 0)) is ∙ ap (λ (a : Bool). not (true && a)) (some_count (count_of t c) (fine is))
    go c false fine is = ap (λ (a : Bool). not (a && count_of t c == 0)) is

-- the bit of a cluster with the count 0, where one is noted
pub bit_of_none : (t : Tables) (named : ℕ → Bool) (place c : ℕ) → count_of t c ≡ 0 → counted_bit t named (Some place) c ≡ not (named c)
bit_of_none t named place c none = ap (λ n. not (named c && n == 0)) none ∙ go (named c)
  where
    go : (b : Bool) → not (b && 0 == 0) ≡ not b
    go true = refl
    go false = refl

-- ---- a range without a block

within_range : (s k c : ℕ) → k * s ≤ c → c < (k + 1) * s → c - k * s < s
within_range s k c low high = let width : (k + 1) * s ≡ k * s + s = omega arith in omega (arith, low, high, width)

count_in_range : (t : Tables) (k c : ℕ) → block_place t k ≡ 0 → k * block_span t ≤ c → c < (k + 1) * block_span t → count_of t c ≡ 0
count_in_range t k c none low high =
    let split : k * block_span t + (c - k * block_span t) ≡ c = omega (arith, low) in
    subst (λ n. count_of t n ≡ 0) split (count_absent t k (c - k * block_span t) (within_range (block_span t) k c low high) none)

used_in_range : (t : Tables) (k c : ℕ) → block_place t k ≡ 0 → k * block_span t ≤ c → c < (k + 1) * block_span t → c ≢ k * block_span t → is_used t c ≡ false
used_in_range t k c none low high other =
    let split : k * block_span t + (c - k * block_span t) ≡ c = omega (arith, low) in
    subst (λ n. is_used t n ≡ false) split (used_other t k (c - k * block_span t) (within_range (block_span t) k c low high) (omega (arith, low, other)) none)

ranges_rise : (s k : ℕ) → k * s ≤ (k + 1) * s
ranges_rise s k = let width : (k + 1) * s ≡ k * s + s = omega arith in omega (arith, width)

module _ (t : Tables) (room k : ℕ) (named f : ℕ → Bool) (none : block_place t k ≡ 0) where
  bits_kept : (noted : Option ℕ) → is_some noted ≡ true → HasBits t room named f noted (k * block_span t) → HasBits t room named f noted ((k + 1) * block_span t)
  bits_kept None is has = absurd cc
  bits_kept (Some place) is has =
      bits_on t room named f f (Some place) (k * block_span t) ((k + 1) * block_span t) has (λ c lt w. refl)
      (λ c low high w. has.above c low w ∙ sym (bit_of_none t named place c (count_in_range t k c none low high))) (λ c far w. refl) (ranges_rise (block_span t) k)

  note_kept : (noted : Option ℕ) → is_some noted ≡ true → HasNote t room named noted (k * block_span t) → HasNote t room named noted ((k + 1) * block_span t)
  note_kept None is note = absurd cc
  note_kept (Some place) is note = note_on t room named place (k * block_span t) ((k + 1) * block_span t) (ranges_rise (block_span t) k) note

  module _ (g : ℕ → Bool) (all : (c : ℕ) → k * block_span t ≤ c → c < (k + 1) * block_span t → c < room → f c ≡ true)
      (here : g (k * block_span t) ≡ false) (others : (c : ℕ) → c ≢ k * block_span t → g c ≡ f c) (some : 0 < block_span t) where
    bits_used : HasBits t room named f None (k * block_span t) → HasBits t room named g None ((k + 1) * block_span t)
    bits_used has =
        bits_on t room named f g None (k * block_span t) ((k + 1) * block_span t) has
        (λ c lt w. others c (λ e. omega (arith, e, lt))) (λ c low high w. go c low high w (cases_eq c (k * block_span t)))
        (λ c far w. others c (λ e. omega (arith, e, far, some, wider (block_span t) k))) (ranges_rise (block_span t) k)
      where
        wider : (s k : ℕ) → (k + 1) * s ≡ k * s + s
        wider s k = omega arith

        first : (s k : ℕ) → k * s + 0 ≡ k * s
        first s k = omega arith

        go : (c : ℕ) → k * block_span t ≤ c → c < (k + 1) * block_span t → c < room → (c ≡ k * block_span t) ⊎ (c ≢ k * block_span t) → g c ≡ not (is_used t c)
        go c low high w (inl same) =
            let used : is_used t (k * block_span t) ≡ true = subst (λ n. is_used t n ≡ true) (first (block_span t) k) (used_first t k some none) in
            ap g same ∙ here ∙ sym (ap (λ n. not (is_used t n)) same ∙ ap not used)
        go c low high w (inr other) = others c other ∙ all c low high w ∙ sym (ap not (used_in_range t k c none low high other))

    note_used : HasBits t room named f None (k * block_span t) → HasNote t room named None (k * block_span t) → HasNote t room named None ((k + 1) * block_span t)
    note_used has note = fine_on t room named (k * block_span t) ((k + 1) * block_span t) note (λ c low high w is. absurd (go c low high w is))
      where
        go : (c : ℕ) → k * block_span t ≤ c → c < (k + 1) * block_span t → c < room → named c ≡ true → ⊥
        go c low high w is = let e : true ≡ false = sym (all c low high w) ∙ has.above c low w ∙ ap not is in absurd cc

span_some_in : (header : Header) (file : File) → 12 ≤ header.cluster_bits → 0 < block_span (counts_in header file)
span_some_in header file low = span_some header.cluster_bits low

module _ (header : Header) (k : ℕ) (before after : Marks) where
  -- one is noted already
  pub range_noted : is_some before.noted ≡ true → PassesRange header k before before
  range_noted is = record {
    keeps = keeps_same before;
    counts = λ file room named maps none counted. record {
      bits = bits_kept (counts_in header file) room k named (free_by before) none before.noted is counted.bits;
      note = note_kept (counts_in header file) room k named (free_by before) none before.noted is counted.note;
    };
  }

  -- none is named in the range
  pub range_used : 12 ≤ header.cluster_bits → before.noted ≡ None → IsMissing (k * (2 ^ header.cluster_bits / 2)) (k * (2 ^ header.cluster_bits / 2) + 2 ^ header.cluster_bits / 2) before.free None
      → Uses (k * (2 ^ header.cluster_bits / 2)) before after → PassesRange header k before after
  range_used low is all uses = record {
    keeps = uses.keeps;
    counts = λ file room named maps none counted.
        let t = counts_in header file in
        let every = λ (c : ℕ) (a : k * block_span t ≤ c) (b : c < (k + 1) * block_span t) (w : c < room). all c a (omega (arith, b, wider (block_span t) k)) (subst (λ n. c < n) (sym maps.many) w) in
        let bits = subst (λ o. HasBits t room named (free_by before) o (k * block_span t)) is counted.bits in
        record {
          bits = subst (λ o. HasBits t room named (free_by after) o ((k + 1) * block_span t)) (sym (uses.noted ∙ is)) (bits_used t room k named (free_by before) none (free_by after) every uses.here uses.others (span_some_in header file low) bits);
          note = subst (λ o. HasNote t room named o ((k + 1) * block_span t)) (sym (uses.noted ∙ is))
              (note_used t room k named (free_by before) none (free_by after) every uses.here uses.others (span_some_in header file low) bits (subst (λ o. HasNote t room named o (k * block_span t)) is counted.note));
        };
  }
    where
      wider : (s k : ℕ) → (k + 1) * s ≡ k * s + s
      wider s k = omega arith

  -- one is
  pub range_uncounted : (c : ℕ) → before.noted ≡ None → IsMissing (k * (2 ^ header.cluster_bits / 2)) (k * (2 ^ header.cluster_bits / 2) + 2 ^ header.cluster_bits / 2) before.free (Some c)
      → Notes (k * (2 ^ header.cluster_bits / 2)) c before after → PassesRange header k before after
  range_uncounted c is found notes = record {
    keeps = notes.keeps;
    counts = λ file room named maps none counted.
        let t = counts_in header file in
        let bits = subst (λ o. HasBits t room named (free_by before) o (k * block_span t)) is counted.bits in
        let note = subst (λ o. HasNote t room named o (k * block_span t)) is counted.note in
        let has : named c ≡ true = named_of (named c) (sym found.3 ∙ bits.above c found.0 (subst (λ n. c < n) maps.many found.2)) in
        let noted : after.noted ≡ Some (c * before.cluster) = notes.noted (subst (λ n. c * n < 2 ^ 64) (sym maps.cluster) (omega (arith, maps.inside c has, maps.size, before.fits))) in
        let now = bits_noted t room named (free_by before) (free_by after) (c * before.cluster) (k * block_span t) bits note (λ n lt w. notes.filled n lt (subst (λ m. n < m) (sym maps.many) w)) notes.others in
        record {
          bits = subst (λ o. HasBits t room named (free_by after) o ((k + 1) * block_span t)) (sym noted) (bits_kept t room k named (free_by after) none (Some (c * before.cluster)) refl now);
          note = subst (λ o. HasNote t room named o ((k + 1) * block_span t)) (sym noted) (record {
            fine = λ e. absurd cc;
            some = λ place e. record {
              cluster = c;
              below = omega (arith, found.1, wider (block_span t) k);
              inside = subst (λ n. c < n) maps.many found.2;
              is_named = has;
              none = count_in_range t k c none found.0 (omega (arith, found.1, wider (block_span t) k));
              at = same_place (c * before.cluster) place e ∙ ap (λ n. c * n) maps.cluster;
            };
          });
        };
  }
    where
      wider : (s k : ℕ) → (k + 1) * s ≡ k * s + s
      wider s k = omega arith

      named_of : (b : Bool) → false ≡ not b → b ≡ true
      named_of true e = refl
      named_of false e = absurd cc

      same_place : (a b : ℕ) → ◌≡◌ {A = Option ℕ} (Some a) (Some b) → b ≡ a
      same_place a b e = cc
