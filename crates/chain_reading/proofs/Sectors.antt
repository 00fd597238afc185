-- One sector of some bytes is written.
use Rattle.std.proofs.Common.{◌≡◌, ◌≢◌, ◌⊎◌, ℕ, ◌+◌, ◌-◌, ◌*◌, ◌<◌, ◌≤◌, List, length, take, drop, sym, ap, ◌∙◌, inl, inr, arith}
use Rattle.std.proofs.lemmas.Bool.{cases_lt}
use Rattle.std.proofs.lemmas.List.{take-take, drop-take}
use Rattle.std.proofs.lemmas.Slice.{take-put_mid_below, drop-put_mid, between-put_mid}
use borrow.Rule.Slice.PartMut.{put_mid}
use Rattle.shared_disk.specs.Content.{sector_of}

-- these bytes with others from sector k on
abbrev pub with_bytes : ℕ → List ℕ → List ℕ → List ℕ
with_bytes k s v = put_mid (512 * k) (512 * k + 512 - 512 * k) s v

front : (n i : ℕ) (s : List ℕ) → 512 * i + 512 ≤ n → sector_of (take n s) i ≡ sector_of s i
front n i s within =
    let m : ℕ = n - 512 * i in
    let e : n ≡ 512 * i + m = omega arith in
    let g : 512 ≤ m = omega arith in
    ap (λ (k : ℕ). take 512 (drop (512 * i) (take k s))) e
    ∙ ap (λ (xs : List ℕ). take 512 xs) (drop-take (512 * i) m s) ∙ take-take 512 m (drop (512 * i) s) g

pub written_here : (k m : ℕ) (s v bytes : List ℕ) → 512 * (k + 1) ≤ length s → length v ≡ 512 → v ≡ take (512 * m + 512 - 512 * m) (drop (512 * m) bytes)
    → sector_of (with_bytes k s v) k ≡ sector_of bytes m
written_here k m s v bytes within len is =
    let e : 512 ≡ (512 * k + 512) - 512 * k = omega arith in
    let g : 512 * m + 512 - 512 * m ≡ 512 = omega arith in
    ap (λ (n : ℕ). take n (drop (512 * k) (with_bytes k s v))) e
    ∙ between-put_mid (512 * k) (512 * k + 512 - 512 * k) s v (512 * k + 512) (omega arith) (len ∙ e)
    ∙ is ∙ ap (λ (n : ℕ). take n (drop (512 * m) bytes)) g

below : (k : ℕ) (s v : List ℕ) (i : ℕ) → 512 * (k + 1) ≤ length s → i < k → sector_of (with_bytes k s v) i ≡ sector_of s i
below k s v i within less =
    sym (front (512 * k) i (with_bytes k s v) (omega arith))
    ∙ ap (λ (xs : List ℕ). sector_of xs i) (take-put_mid_below (512 * k) (512 * k + 512 - 512 * k) s v (512 * k) (omega arith) (omega arith))
    ∙ front (512 * k) i s (omega arith)

above : (k : ℕ) (s v : List ℕ) (i : ℕ) → 512 * (k + 1) ≤ length s → length v ≡ 512 → k < i → sector_of (with_bytes k s v) i ≡ sector_of s i
above k s v i within len less =
    ap (λ (xs : List ℕ). take 512 xs) (drop-put_mid (512 * k) (512 * k + 512 - 512 * k) s v (512 * i) (omega arith) (omega arith) (omega (arith, len)))

pub written_elsewhere : (k : ℕ) (s v : List ℕ) (i : ℕ) → 512 * (k + 1) ≤ length s → length v ≡ 512 → i ≢ k → sector_of (with_bytes k s v) i ≡ sector_of s i
written_elsewhere k s v i within len apart = go (cases_lt i k)
  where
    go : (i < k) ⊎ (k ≤ i) → sector_of (with_bytes k s v) i ≡ sector_of s i
    go (inl less) = below k s v i within less
    go (inr le) = above k s v i within len (omega (arith, le, apart))
