-- Behind the zeros: the L1 entries that come into use name nothing, and past the capacity the layer is empty.
use Rattle.std.proofs.Common.{◌≡◌, ◌⊎◌, inl, inr, ℕ, ◌+◌, ◌*◌, ◌/◌, ◌%◌, ◌^◌, ◌<◌, ◌≤◌, Bool, true, false, List, get_or, replicate, Some, None, ap, ◌∙◌, arith, nat_lt}
use Rattle.std.specs.Prelude.{if◌then◌else◌}
use Rattle.std.proofs.Math.Nat.{div-add-mod}
use Rattle.std.proofs.lemmas.Nat.{pow_pos}
use Rattle.shared_disk.specs.Content.{File}
use Rattle.qcow_format.specs.Entry.{table_in}
use Rattle.qcow_format.specs.declared.entry.Entry.TheVariants.{Data}
use Rattle.qcow_format.specs.declared.header.Header.{Header}
use Rattle.image_model.specs.File.{file_of, sector_in}
use Rattle.image_model.specs.Layer.{byte_behind, entry_at, own_byte}
use Rattle.qcow_layer.specs.Opening.{capacity_kept, header_kept}
use Rattle.qcow_layer.specs.declared.layer.Layer.{Layer}
use Rattle.layer_writing.specs.Holding.{on_medium}
use Rattle.layer_heading.specs.Writing.{IsQuiet}
use Rattle.layer_sizing.specs.Blanks.{AreBlank}
use Rattle.layer_sizing.specs.Sized.{AreFree, IsEmptyPast, IsZeroing, l1_size_for}
use Rattle.layer_sizing.specs.Sizing.{tables_on}
use Rattle.layer_sizing.specs.Stages.{MayGet, last_cluster, rest_range, table_range}
use Rattle.layer_sizing.proofs.Heads.{eight_zeros}
use Rattle.layer_sizing.proofs.Ranges as ranges
use Rattle.layer_sizing.proofs.Spans.{mod_below, zero_at}

-- ---- bytes and words that are 0

module _ (n low high : ℕ) (s : ℕ → List ℕ) (blank : AreBlank low high s) where
  in_blank : (k i : ℕ) → i < 512 → low ≤ 512 * k + i → 512 * k + i < high → get_or (sector_in n s k) i 0 ≡ 0
  in_blank k i small ge lt = go (nat_lt k n)
    where
      go : (b : Bool) → get_or (if b then s k else replicate 512 0) i 0 ≡ 0
      go true = blank k i small ge lt
      go false = zero_at 512 i

  pub byte_blank : (b : ℕ) → low ≤ b → b < high → (file_of n s).byte b ≡ 0
  unfolding file_of
  byte_blank b ge lt = in_blank (b / 512) (b % 512) (omega arith) (omega (arith, ge)) (omega (arith, lt))

  pub word_blank : (w : ℕ) → low ≤ 8 * w → 8 * w + 8 ≤ high → (file_of n s).word w ≡ 0
  unfolding file_of
  word_blank w ge le = eight_zeros (w % 64 * 8) (sector_in n s (w / 64)) (λ j lt. in_blank (w / 64) (w % 64 * 8 + j) (omega (arith, lt)) (omega (arith, ge)) (omega (arith, lt, le)))

-- ---- the table's entries

pub free_behind : (layer_ : Layer) (larger host : ℕ) (g : File) (q : IsQuiet layer_ host g) (may : MayGet layer_ larger) (low end : ℕ) (f : File)
    → low ≡ (table_range (header_kept layer_) larger).at → end ≡ (table_range (header_kept layer_) larger).end → AreBlank low end f.stable → AreFree (tables_on layer_ f) (l1_size_for (header_kept layer_) larger)
free_behind layer_ larger host g q may low end f l e blank i ge lt =
    ap (λ w. table_in w at) (word_blank f.size low end f.stable blank (at / 8) (omega (arith, l, begins, even, ge)) (omega (arith, e, ends, even, lt)))
  where
    at : ℕ
    at = (header_kept layer_).l1_table_offset + 8 * i

    begins : (table_range (header_kept layer_) larger).at ≡ (header_kept layer_).l1_table_offset + 8 * (header_kept layer_).l1_size
    begins = ranges.table_low layer_ larger host g q may

    ends : (table_range (header_kept layer_) larger).end ≡ (header_kept layer_).l1_table_offset + 8 * l1_size_for (header_kept layer_) larger
    ends = ranges.table_end layer_ larger host g q may

    even : (header_kept layer_).l1_table_offset % 512 ≡ 0
    even = ranges.table_even layer_ larger host g q may

-- ---- past the capacity

pub still_empty : (layer_ : Layer) (g f : File) → IsEmptyPast (tables_on layer_ g) (capacity_kept layer_) → IsZeroing (header_kept layer_) (capacity_kept layer_) (on_medium g) (on_medium f)
    → IsEmptyPast (tables_on layer_ f) (capacity_kept layer_)
still_empty layer_ g f empty z i le = go (z.rest i le) (empty i le)
  where
    go : (own_byte (tables_on layer_ f) i ≡ own_byte (tables_on layer_ g) i) ⊎ (own_byte (tables_on layer_ f) i ≡ Some 0)
        → (own_byte (tables_on layer_ g) i ≡ None) ⊎ (own_byte (tables_on layer_ g) i ≡ Some 0) → (own_byte (tables_on layer_ f) i ≡ None) ⊎ (own_byte (tables_on layer_ f) i ≡ Some 0)
    go (inr blank) old = inr blank
    go (inl same) (inl none) = inl (same ∙ none)
    go (inl same) (inr blank) = inr (same ∙ blank)

module _ (layer_ : Layer) (larger host : ℕ) (g : File) (q : IsQuiet layer_ host g) (may : MayGet layer_ larger) (low end : ℕ) (f : File) (place : ℕ)
    (held : entry_at (tables_on layer_ g) (last_cluster layer_) ≡ Data place) (l : low ≡ (rest_range (header_kept layer_) (capacity_kept layer_) place).at)
    (e : end ≡ (rest_range (header_kept layer_) (capacity_kept layer_) place).end) (z : IsZeroing (header_kept layer_) (capacity_kept layer_) (on_medium g) (on_medium f)) (blank : AreBlank low end f.stable) where
  abbrev h : Header
  h = header_kept layer_

  abbrev capacity : ℕ
  capacity = capacity_kept layer_

  abbrev c : ℕ
  c = 2 ^ h.cluster_bits

  here : (i : ℕ) → capacity ≤ i → i / c ≡ capacity / c → own_byte (tables_on layer_ f) i ≡ Some 0
  here i le same =
      ranges.own_behind (tables_on layer_ f) i
      ∙ ap (byte_behind (tables_on layer_ f) (i % c)) (z.entries (i / c) ∙ ap (entry_at (tables_on layer_ g)) same ∙ held)
      ∙ ap (λ (x : ℕ). Some x) (byte_blank f.size low end f.stable blank (place + i % c) (omega (arith, l, begins, order)) (omega (arith, e, ends, below)))
    where
      begins : (rest_range h capacity place).at ≡ place + capacity % c
      begins = ranges.rest_low layer_ larger host g q may place held

      ends : (rest_range h capacity place).end ≡ place + c
      ends = ranges.rest_end layer_ larger host g q may place held

      below : i % c < c
      below = mod_below i c (pow_pos h.cluster_bits)

      order : capacity % c ≤ i % c
      order =
          let a = div-add-mod i c in
          let b = div-add-mod capacity c in
          let quotient : c * (i / c) ≡ c * (capacity / c) = ap (λ x. c * x) same in
          by (c * (capacity / c)) (capacity % c) (i % c) (omega (arith, a, b, quotient, le))
        where
          by : (q r r' : ℕ) → q + r ≤ q + r' → r ≤ r'
          by q r r' le = omega (arith, le)

  pub rest_empty : IsEmptyPast (tables_on layer_ f) capacity
  rest_empty = ranges.past_by f.size capacity f.stable h z.header z.sound (λ i le same. inr (here i le same))
