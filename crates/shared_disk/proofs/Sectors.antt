-- Sectors of bytes that are put together.
use Rattle.std.proofs.Common.{◌≡◌, ℕ, ◌+◌, ◌-◌, ◌*◌, ◌≤◌, List, ◌++◌, length, drop, replicate, refl, arith, length-drop}
use Rattle.std.proofs.Math.Seq.{drop-append-add}
use Rattle.std.proofs.lemmas.List.{take-append-le, drop-append-le, take-replicate, drop-replicate}
use Rattle.shared_disk.specs.Content.{sector_of, zero_sector}

-- a sector that lies in the front
pub sector_front : (xs ys : List ℕ) (k : ℕ) → 512 * (k + 1) ≤ length xs → sector_of (xs ++ ys) k ≡ sector_of xs k
sector_front xs ys k within =
    let before : 512 * k ≤ length xs = omega arith in
    let whole : 512 ≤ length (drop (512 * k) xs) = omega (arith, length-drop (512 * k) xs) in
    rw (drop-append-le (512 * k) xs ys before, take-append-le 512 (drop (512 * k) xs) ys whole) refl

-- a sector that lies behind the front, in zeros
pub sector_of_zeros : (xs : List ℕ) (n k : ℕ) → length xs ≤ 512 * k → 512 * (k + 1) ≤ length xs + n → sector_of (xs ++ replicate n 0) k ≡ zero_sector
unfolding zero_sector
sector_of_zeros xs n k behind within =
    let from : 512 * k ≡ length xs + (512 * k - length xs) = omega arith in
    let enough : 512 ≤ n - (512 * k - length xs) = omega arith in
    rw (from, drop-append-add xs (replicate {A = ℕ} n 0) (512 * k - length xs), drop-replicate {X = ℕ} (512 * k - length xs) n 0, take-replicate {X = ℕ} 512 (n - (512 * k - length xs)) 0 enough) refl
