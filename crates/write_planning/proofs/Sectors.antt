-- Which of a part's clusters have their entries in one sector.
use Rattle.std.proofs.Common.{◌≡◌, ◌⊎◌, inl, inr, ℕ, ◌+◌, ◌-◌, ◌*◌, ◌/◌, ◌%◌, ◌<◌, ◌≤◌, min, sym, ap, ◌∙◌, arith}
use Rattle.std.proofs.lemmas.Nat.{div-add-mod', mod-mul-add, mod_below}
use Rattle.std.proofs.Math.Nat.{div-div-eq-div-mul}
use Rattle.write_planning.specs.Linked.{end_in, group_in, start_in}
use Rattle.write_planning.specs.Span.{count_of, first_of}
use Rattle.write_planning.specs.declared.span.Span.{Span}
use Rattle.write_planning.proofs.Meeting.{is_quotient}

pub in_sector : (s : Span) (sector j : ℕ) → start_in s sector ≤ j → j < end_in s sector → (first_of s + j) / 64 ≡ group_in s sector
in_sector s sector j low high = omega (arith, low, high)

pub starts_before : (s : Span) (sector start end : ℕ) → start ≡ start_in s sector → end ≡ end_in s sector → start < count_of s → start ≤ end
starts_before s sector start end from to lt = omega (arith, from, to, lt)

pub has_sector : (f n j : ℕ) → j < n → (sector : ℕ) × (sector < (f + n - 1) / 64 - f / 64 + 1) × (64 * (f / 64 + sector) - f ≤ j) × (j < min (64 * (f / 64 + sector + 1) - f) n)
has_sector f n j lt = ((f + j) / 64 - f / 64, omega (arith, lt), omega (arith, lt), omega (arith, lt))

pub starts_apart : (f s t : ℕ) → 64 * (f / 64 + s) - f ≡ 64 * (f / 64 + t) - f → s ≡ t
starts_apart f s t is = omega (arith, is)

pub starts_at : (f n j : ℕ) → j < n → (j ≡ 0) ⊎ ((f + j) % 64 ≡ 0) → (sector : ℕ) × (sector < (f + n - 1) / 64 - f / 64 + 1) × (64 * (f / 64 + sector) - f ≡ j)
starts_at f n j lt (inl none) = (0, omega arith, omega (arith, none))
starts_at f n j lt (inr whole) = ((f + j) / 64 - f / 64, omega (arith, lt), omega (arith, whole))

-- a whole number of tables is one of sectors
pub whole_sectors : (x width : ℕ) → width % 512 ≡ 0 → x % (width / 8) ≡ 0 → x % 64 ≡ 0
whole_sectors x width whole is =
    let per : width / 8 ≡ 64 * (width / 512) = omega (arith, whole) in
    let times = ap (λ n. x / (width / 8) * n) per in
    let one = div-add-mod' x (width / 8) in
    let all : x ≡ 64 * (x / (width / 8) * (width / 512)) = omega (arith, times, one, is) in
    multiple x (x / (width / 8) * (width / 512)) all
  where
    multiple : (x k : ℕ) → x ≡ 64 * k → x % 64 ≡ 0
    multiple x k e = omega (arith, e)

-- the table of a cluster, by its sector
by_sector : (x width : ℕ) → 4096 ≤ width → width % 512 ≡ 0 → x / (width / 8) ≡ x / 64 / (width / 512)
by_sector x width low whole =
    let per : width / 8 ≡ 64 * (width / 512) = omega (arith, whole) in
    ap (λ n. x / n) per ∙ sym (div-div-eq-div-mul x 64 (width / 512))

-- clusters of one sector are under one table
pub same_table : (x y width : ℕ) → 4096 ≤ width → width % 512 ≡ 0 → x / 64 ≡ y / 64 → x / (width / 8) ≡ y / (width / 8)
same_table x y width low whole is = by_sector x width low whole ∙ ap (λ n. n / (width / 512)) is ∙ sym (by_sector y width low whole)

-- a sector that doesn't begin a table is under the table of the sector before
pub table_goes_on : (x y width : ℕ) → 4096 ≤ width → width % 512 ≡ 0 → y ≡ 64 * (x / 64 + 1) → (y % (width / 8) ≡ 0 → ⊥) → x / (width / 8) ≡ y / (width / 8)
table_goes_on x y width low whole next inside = by_sector x width low whole ∙ quotient ∙ ap (λ n. n / (width / 512)) back ∙ sym (by_sector y width low whole)
  where
    back : x / 64 + 1 ≡ y / 64
    back = omega (arith, next)

    pos : 0 < width / 512
    pos = omega (arith, low)

    begins : (x / 64 + 1) % (width / 512) ≡ 0 → ⊥
    begins none = inside (
        let per : width / 8 ≡ 64 * (width / 512) = omega (arith, whole) in
        let one = div-add-mod' (x / 64 + 1) (width / 512) in
        let times = ap (λ n. (x / 64 + 1) / (width / 512) * n) per in
        let all : y ≡ (x / 64 + 1) / (width / 512) * (width / 8) + 0 = omega (arith, next, one, times, none) in
        ap (λ n. n % (width / 8)) all ∙ mod-mul-add ((x / 64 + 1) / (width / 512)) (width / 8) 0 (omega (arith, low))
        )

    quotient : x / 64 / (width / 512) ≡ (x / 64 + 1) / (width / 512)
    quotient =
        let one = div-add-mod' (x / 64 + 1) (width / 512) in
        let rest = mod_below (x / 64 + 1) (width / 512) pos in
        let some : 0 < (x / 64 + 1) % (width / 512) = positive ((x / 64 + 1) % (width / 512)) begins in
        is_quotient (x / 64) ((x / 64 + 1) / (width / 512)) (width / 512) pos (omega (arith, one, some)) (omega (arith, one, rest))
      where
        positive : (n : ℕ) → (n ≡ 0 → ⊥) → 0 < n
        positive n ne = omega (arith, ne)
