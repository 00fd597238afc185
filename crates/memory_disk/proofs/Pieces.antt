-- Sectors of a list of bytes.
use Rattle.std.proofs.Common.{◌≡◌, ℕ, ◌+◌, ◌-◌, ◌*◌, ◌<◌, ◌≤◌, List, length, take, drop, sym, ap, ◌∙◌, arith}
use Rattle.std.proofs.lemmas.List.{take-take, drop-take, drop-drop}
use Rattle.std.proofs.lemmas.Slice.{take-put_mid_below, drop-put_mid, between-put_mid}
use borrow.Rule.Slice.PartMut.{put_mid}
use Rattle.shared_disk.specs.Content.{sector_of}

pub sector_of-take : (n i : ℕ) (s : List ℕ) → 512 * i + 512 ≤ n → sector_of (take n s) i ≡ sector_of s i
sector_of-take n i s within =
    let m : ℕ = n - 512 * i in
    let e : n ≡ 512 * i + m = omega arith in
    let g : 512 ≤ m = omega arith in
    ap (λ (k : ℕ). take 512 (drop (512 * i) (take k s))) e
    ∙ ap (λ (xs : List ℕ). take 512 xs) (drop-take (512 * i) m s) ∙ take-take 512 m (drop (512 * i) s) g

pub put_here : (k : ℕ) (s v : List ℕ) (n : ℕ) → 512 * (k + 1) ≤ length s → length v ≡ 512 → sector_of (put_mid (512 * k) n s v) k ≡ v
put_here k s v n within len =
    let e : 512 ≡ (512 * k + 512) - 512 * k = omega arith in
    ap (λ (m : ℕ). take m (drop (512 * k) (put_mid (512 * k) n s v))) e ∙ between-put_mid (512 * k) n s v (512 * k + 512) (omega arith) (len ∙ e)

pub put_others : (k : ℕ) (s v : List ℕ) (n i : ℕ) → 512 * (k + 1) ≤ length s → i < k → sector_of (put_mid (512 * k) n s v) i ≡ sector_of s i
put_others k s v n i within below =
    sym (sector_of-take (512 * k) i (put_mid (512 * k) n s v) (omega arith))
    ∙ ap (λ (xs : List ℕ). sector_of xs i) (take-put_mid_below (512 * k) n s v (512 * k) (omega arith) (omega arith))
    ∙ sector_of-take (512 * k) i s (omega arith)

pub put_rest : (k : ℕ) (s v : List ℕ) (n : ℕ) → 512 * (k + 1) ≤ length s → length v ≡ 512 → n ≡ 512 → drop (512 * (k + 1)) (put_mid (512 * k) n s v) ≡ drop (512 * (k + 1)) s
put_rest k s v n within len e = drop-put_mid (512 * k) n s v (512 * (k + 1)) (omega arith) (omega arith) (len ∙ sym e)

pub drop_more : (i : ℕ) (s t : List ℕ) → drop (512 * i) s ≡ drop (512 * i) t → drop (512 * (i + 1)) s ≡ drop (512 * (i + 1)) t
drop_more i s t e =
    let n : 512 * (i + 1) ≡ 512 * i + 512 = omega arith in
    ap (λ (k : ℕ). drop k s) n ∙ sym (drop-drop 512 (512 * i) s) ∙ ap (λ (xs : List ℕ). drop 512 xs) e ∙ drop-drop 512 (512 * i) t ∙ ap (λ (k : ℕ). drop k t) (sym n)
