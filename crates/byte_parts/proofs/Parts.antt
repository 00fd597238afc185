-- Parts of a block, and what stands at their places.
use Rattle.std.proofs.Common.{◌≡◌, ℕ, ◌+◌, ◌-◌, List, ◌++◌, length, take, drop, replicate, sym, arith, append_assoc}
use Rattle.std.proofs.lemmas.List.{take_at, drop_at, drop-replicate}
use borrow.Rule.Slice.PartMut.{put_mid}

pub put_mid-front : (front part : List ℕ) (at k left zeros : ℕ) → length front ≡ at → k ≡ length part → zeros ≡ length part + left → put_mid at k (front ++ replicate zeros 0) part ≡ front ++ part ++ replicate left 0
put_mid-front front part at k left zeros h same all =
    let e : zeros - k ≡ left = omega arith in
    rw (take_at front (replicate zeros 0) at h, drop_at front (replicate zeros 0) at h, drop-replicate {X = ℕ} k zeros 0, e) (sym (append_assoc front part (replicate left 0)))

-- a part between others
pub middle : (front part rest : List ℕ) (n k : ℕ) → length front ≡ n → length part ≡ k → take k (drop n (front ++ part ++ rest)) ≡ part
middle front part rest n k h g =
    rw (append_assoc front part rest, drop_at front (part ++ rest) n h) (take_at part rest k g)
