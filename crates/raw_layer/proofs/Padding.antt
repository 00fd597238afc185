-- What was read, and zeros behind it, sector by sector.
use Rattle.std.proofs.Common.{◌≡◌, ℕ, ◌+◌, ◌-◌, ◌*◌, ◌%◌, ◌<◌, ◌≤◌, min, List, ◌++◌, length, take, drop, replicate, arith, ap, sym, ◌∙◌, subst, length-take, length-append}
use Rattle.std.proofs.lemmas.List.{take-append-drop, length-replicate}
use Rattle.shared_disk.specs.Content.{File, Sees, sector_of, zero_sector}
use Rattle.shared_disk.specs.Calls.{ReadsAs}
use Rattle.shared_disk.proofs.Sectors.{sector_front, sector_of_zeros}
use Rattle.raw_layer.specs.Raw.{ReadsSector}

-- the bytes up to a count, and zeros behind them
abbrev padded : List ℕ → ℕ → List ℕ
padded xs count = take count xs ++ replicate (length xs - count) 0

-- a sector below the count is as it was
padded_below : (xs : List ℕ) (count k : ℕ) → count ≤ length xs → 512 * (k + 1) ≤ count → sector_of (padded xs count) k ≡ sector_of xs k
padded_below xs count k fits below =
    let front : 512 * (k + 1) ≤ length (take count xs) = omega (arith, length-take count xs) in
    let whole = sector_front (take count xs) (drop count xs) k front in
    sector_front (take count xs) (replicate (length xs - count) 0) k front ∙ sym whole ∙ ap (λ (ys : List ℕ). sector_of ys k) (take-append-drop count xs)

-- a sector past the count is zeros
padded_above : (xs : List ℕ) (count k : ℕ) → count ≤ length xs → count ≤ 512 * k → 512 * (k + 1) ≤ length xs → sector_of (padded xs count) k ≡ zero_sector
padded_above xs count k fits above within =
    sector_of_zeros (take count xs) (length xs - count) k (omega (arith, length-take count xs)) (omega (arith, length-take count xs))

pub reads_padded : (host : ℕ) (f : File) (at count : ℕ) (before xs : List ℕ) → length xs ≡ length before → length xs % 512 ≡ 0
    → count ≡ min (length before) (512 * (f.size - at)) → ReadsAs host f at count before xs
    → (k : ℕ) → 512 * (k + 1) ≤ length (padded xs count)
    → ReadsSector host f (at + k) (sector_of (padded xs count) k)
reads_padded host f at count before xs same whole is reads k within =
    let fits : count ≤ length xs = omega arith in
    let inside : 512 * (k + 1) ≤ length xs = omega (arith, length-append (take count xs) (replicate {A = ℕ} (length xs - count) 0), length-take count xs, length-replicate {A = ℕ} (length xs - count) 0) in (
      λ (below : at + k < f.size).
          let first : 512 * (k + 1) ≤ count = omega arith in
          subst (Sees host f (at + k)) (sym (padded_below xs count k fits first)) (reads.sectors k first),
      λ (above : f.size ≤ at + k). padded_above xs count k fits (omega arith) inside,
    )
