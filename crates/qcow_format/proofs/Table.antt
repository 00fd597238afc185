-- Fields that stand one behind the other.
use Rattle.std.proofs.Common.{◌≡◌, ℕ, ◌+◌, ◌≤◌, List, [], ◌∷◌, length, refl, ◌∙◌, arith}
use Rattle.std.specs.List.{AllByRecursion}
use Rattle.qcow_format.specs.Bytes.{number, put, bytes_of}
use Rattle.qcow_format.specs.Written.{Field, puts, HaveWidth}
use Rattle.qcow_format.proofs.Put.{length-bytes_of, length-put, number-put_same, number-put_before, number-put_behind}

-- fields between two places, each behind the one before
abbrev pub Stand : ℕ → ℕ → List Field → Type 0
Stand from to [] = from ≤ to
Stand from to (f ∷ fs) = (from ≤ f.at) × Stand (f.at + f.width) to fs

abbrev pub Read : List ℕ → List Field → Type 0
Read bytes fs = AllByRecursion (λ f. number f.width f.at bytes ≡ f.value) fs

stands : (from to : ℕ) (fs : List Field) → Stand from to fs → from ≤ to
stands from to [] h = h
stands from to (f ∷ fs) h = let rest = stands (f.at + f.width) to fs h.1 in omega arith

length-put_field : (f : Field) (to : ℕ) (bytes : List ℕ) → f.at + f.width ≤ to → to ≤ length bytes → length (put f.at (bytes_of f.width f.value) bytes) ≡ length bytes
length-put_field f to bytes le fits = length-put f.at (bytes_of f.width f.value) bytes (omega (arith, length-bytes_of f.width f.value))

pub length-puts : (from to : ℕ) (fs : List Field) (bytes : List ℕ) → Stand from to fs → to ≤ length bytes → length (puts fs bytes) ≡ length bytes
length-puts from to [] bytes h fits = refl
length-puts from to (f ∷ fs) bytes h fits =
    let le = stands (f.at + f.width) to fs h.1 in
    let one = length-put_field f to bytes le fits in
    length-puts (f.at + f.width) to fs (put f.at (bytes_of f.width f.value) bytes) h.1 (omega arith) ∙ one

-- a number in front of the fields
pub number-puts_before : (n at from to : ℕ) (fs : List Field) (bytes : List ℕ) → at + n ≤ from → Stand from to fs → to ≤ length bytes → number n at (puts fs bytes) ≡ number n at bytes
number-puts_before n at from to [] bytes before h fits = refl
number-puts_before n at from to (f ∷ fs) bytes before h fits =
    let le = stands (f.at + f.width) to fs h.1 in
    let one = length-put_field f to bytes le fits in
    number-puts_before n at (f.at + f.width) to fs (put f.at (bytes_of f.width f.value) bytes) (omega arith) h.1 (omega arith)
    ∙ number-put_before n at f.at (bytes_of f.width f.value) bytes (omega arith) (omega arith)

-- and one behind them
pub number-puts_behind : (n at from to : ℕ) (fs : List Field) (bytes : List ℕ) → to ≤ at → Stand from to fs → to ≤ length bytes → number n at (puts fs bytes) ≡ number n at bytes
number-puts_behind n at from to [] bytes behind h fits = refl
number-puts_behind n at from to (f ∷ fs) bytes behind h fits =
    let le = stands (f.at + f.width) to fs h.1 in
    let one = length-put_field f to bytes le fits in
    number-puts_behind n at (f.at + f.width) to fs (put f.at (bytes_of f.width f.value) bytes) behind h.1 (omega arith)
    ∙ number-put_behind n at f.at (bytes_of f.width f.value) bytes (omega arith) (omega (arith, length-bytes_of f.width f.value))

-- what was written is read
pub puts_read : (from to : ℕ) (fs : List Field) (bytes : List ℕ) → Stand from to fs → HaveWidth fs → to ≤ length bytes → Read (puts fs bytes) fs
puts_read from to [] bytes h widths fits = tt
puts_read from to (f ∷ fs) bytes h widths fits =
    let le = stands (f.at + f.width) to fs h.1 in
    let one = length-put_field f to bytes le fits in
    let next = put f.at (bytes_of f.width f.value) bytes in (
      number-puts_before f.width f.at (f.at + f.width) to fs next (omega arith) h.1 (omega arith)
          ∙ number-put_same f.width f.at f.value bytes (omega arith) widths.0,
      puts_read (f.at + f.width) to fs next h.1 widths.1 (omega arith),
    )

-- bytes in which numbers up to a place are the same
pub Read-same : (from to : ℕ) (fs : List Field) (xs ys : List ℕ) → Stand from to fs → ((n at : ℕ) → at + n ≤ to → number n at ys ≡ number n at xs) → Read xs fs → Read ys fs
Read-same from to [] xs ys h same r = tt
Read-same from to (f ∷ fs) xs ys h same r =
    let le = stands (f.at + f.width) to fs h.1 in
    (same f.width f.at (omega arith) ∙ r.0, Read-same (f.at + f.width) to fs xs ys h.1 same r.1)
