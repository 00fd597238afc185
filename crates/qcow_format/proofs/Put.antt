-- What stands at a place once bytes were laid over others.
use Rattle.std.proofs.Common.{◌≡◌, ℕ, zero, suc, ◌+◌, ◌-◌, ◌^◌, ◌<◌, ◌≤◌, List, ◌++◌, length, get_or, take, drop, refl, sym, ap, ◌∙◌, arith}
use Rattle.std.proofs.Math.Seq.{get_or-append_right}
use Rattle.std.proofs.lemmas.List.{drop_at, get_or-drop, get_or-take, get_or_append_left, length-append, length-take, length-drop}
use Rattle.byteorder.specs.Endian.{big_from}
use Rattle.byteorder.specs.Numbers.{big_number-reads_back, length-bytes_high_first}
use Rattle.sd_names.specs.declared.kinds.Format.{Format}
use Rattle.sd_names.specs.declared.kinds.Format.TheVariants.{Raw, Cow}
use Rattle.qcow_format.specs.Bytes.{number, put, bytes_of}
use Rattle.qcow_format.specs.Written.{format_bytes}

pub length-bytes_of : (n x : ℕ) → length (bytes_of n x) ≡ n
unfolding bytes_of
length-bytes_of n x = length-bytes_high_first n x

pub length-format_bytes : (format : Format) → length (format_bytes format) ≡ 16
unfolding format_bytes bytes_of
length-format_bytes Raw = refl
length-format_bytes Cow = refl

pub length-put : (at : ℕ) (new bytes : List ℕ) → at + length new ≤ length bytes → length (put at new bytes) ≡ length bytes
unfolding put
length-put at new bytes fits =
    omega (arith, length-append (take at bytes) (new ++ drop (length new) (drop at bytes)), length-append new (drop (length new) (drop at bytes)), length-take at bytes, length-drop (length new) (drop at bytes), length-drop at bytes)

-- the bytes in front of a place
pub get_or-put_before : (at : ℕ) (new bytes : List ℕ) (i : ℕ) → at ≤ length bytes → i < at → get_or (put at new bytes) i 0 ≡ get_or bytes i 0
unfolding put
get_or-put_before at new bytes i fits lt =
    get_or_append_left (take at bytes) (new ++ drop (length new) (drop at bytes)) 0 i (omega (arith, length-take at bytes)) ∙ get_or-take at bytes i 0 lt

-- the bytes behind what was laid over
pub get_or-put_behind : (at : ℕ) (new bytes : List ℕ) (i : ℕ) → at ≤ length bytes → at + length new ≤ i → get_or (put at new bytes) i 0 ≡ get_or bytes i 0
unfolding put
get_or-put_behind at new bytes i fits le =
    let len : length (take at bytes) ≡ at = omega (arith, length-take at bytes) in
    let first = get_or-append_right (take at bytes) (new ++ drop (length new) (drop at bytes)) i 0 (omega arith) in
    let second = get_or-append_right new (drop (length new) (drop at bytes)) (i - length (take at bytes)) 0 (omega arith) in
    let place : at + (length new + (i - length (take at bytes) - length new)) ≡ i = omega arith in
    first ∙ second ∙ get_or-drop (length new) (drop at bytes) (i - length (take at bytes) - length new) 0
    ∙ get_or-drop at bytes (length new + (i - length (take at bytes) - length new)) 0
    ∙ ap (λ (k : ℕ). get_or bytes k 0) place

-- a number is that of its bytes
big_from-same : (i n : ℕ) (xs ys : List ℕ) → ((k : ℕ) → i ≤ k → k < i + n → get_or xs k 0 ≡ get_or ys k 0) → big_from i n xs ≡ big_from i n ys
big_from-same i zero xs ys same = refl
big_from-same i (suc n) xs ys same =
    let first = same i (omega arith) (omega arith) in
    let rest = big_from-same (suc i) n xs ys (λ k low high. same k (omega arith) (omega arith)) in
    rw (first, rest) refl

pub number-same : (n at : ℕ) (xs ys : List ℕ) → ((k : ℕ) → at ≤ k → k < at + n → get_or xs k 0 ≡ get_or ys k 0) → number n at xs ≡ number n at ys
unfolding number
number-same n at xs ys same =
    big_from-same 0 n (drop at xs) (drop at ys) (λ k low high. get_or-drop at xs k 0 ∙ same (at + k) (omega arith) (omega arith) ∙ sym (get_or-drop at ys k 0))

-- a number that was laid over
pub number-put_same : (n at x : ℕ) (bytes : List ℕ) → at ≤ length bytes → x < 256 ^ n → number n at (put at (bytes_of n x) bytes) ≡ x
unfolding number put bytes_of
number-put_same n at x bytes fits lt =
    ap (λ (xs : List ℕ). big_from 0 n xs) (drop_at (take at bytes) (bytes_of n x ++ drop (length (bytes_of n x)) (drop at bytes)) at (omega (arith, length-take at bytes)))
    ∙ big_number-reads_back n x (drop (length (bytes_of n x)) (drop at bytes)) lt

-- a number in front of what was laid over, and one behind it
pub number-put_before : (n at b : ℕ) (new bytes : List ℕ) → b ≤ length bytes → at + n ≤ b → number n at (put b new bytes) ≡ number n at bytes
number-put_before n at b new bytes fits before =
    number-same n at (put b new bytes) bytes (λ k low high. get_or-put_before b new bytes k fits (omega arith))

pub number-put_behind : (n at b : ℕ) (new bytes : List ℕ) → b ≤ length bytes → b + length new ≤ at → number n at (put b new bytes) ≡ number n at bytes
number-put_behind n at b new bytes fits behind =
    number-same n at (put b new bytes) bytes (λ k low high. get_or-put_behind b new bytes k fits (omega arith))
