-- A digest has twenty bytes, and its text reads as itself.
use Rattle.std.proofs.Common.{◌≡◌, ℕ, zero, suc, ◌*◌, ◌/◌, ◌%◌, ◌<◌, false, List, [], ◌∷◌, length, get_or, refl, arith, length-append, All, Some}
use Rattle.std.specs.Int.{to_be_bytes, w32}
use Rattle.std.specs.List.{list_any}
use Rattle.std.proofs.lemmas.List.Elements.{All-append, All-nil, All-from_recursion, All-head, All-tail}
use Rattle.std.proofs.lemmas.Slice.Eq.{bytes_eq-Decides}
use Rattle.hex.specs.Hex.{IsBytes, encode_lower, encode_with, lower_digits}
use Rattle.hex.proofs.HexLemmas.{decode_sized-encode_lower}
use Rattle.sha1.specs.Sha1.{sha1, digest_bytes, hash_after, padded_message}
use Rattle.kv_text.specs.Text.{IsOneLine, is_line_feed}
use Rattle.kv_text.proofs.ReadBack.{both_false}
use Rattle.domain_meta.specs.Values.{digest_of}

word_bytes : (n : ℕ) → All (λ (b : ℕ). b < 256) (to_be_bytes w32 n)
word_bytes n =
    All-from_recursion (λ (b : ℕ). b < 256) (to_be_bytes w32 n) (omega arith, (omega arith, (omega arith, (omega arith, tt))))

word_length : (n : ℕ) → length (to_be_bytes w32 n) ≡ 4
word_length n = refl

digest_all : (h : List ℕ) (n : ℕ) → All (λ (b : ℕ). b < 256) (digest_bytes h n)
unfolding digest_bytes
digest_all h zero = All-nil (λ (b : ℕ). b < 256)
digest_all h (suc n) =
    All-append (λ (b : ℕ). b < 256) (digest_bytes h n) (to_be_bytes w32 (get_or h n 0)) (digest_all h n) (word_bytes (get_or h n 0))

digest_length : (h : List ℕ) (n : ℕ) → length (digest_bytes h n) ≡ 4 * n
unfolding digest_bytes
digest_length h zero = refl
digest_length h (suc n) =
    let e = digest_length h n in
    let f = length-append (digest_bytes h n) (to_be_bytes w32 (get_or h n 0)) in
    omega (arith, e, f, word_length (get_or h n 0))

bytes_at : (xs : List ℕ) → All (λ (b : ℕ). b < 256) xs → IsBytes xs
bytes_at [] all i = omega arith
bytes_at (x ∷ xs) all zero = All-head (λ (b : ℕ). b < 256) x xs all
bytes_at (x ∷ xs) all (suc i) = bytes_at xs (All-tail (λ (b : ℕ). b < 256) x xs all) i

pub sha1_length : (m : List ℕ) → length (sha1 m) ≡ 20
unfolding sha1
sha1_length m = digest_length (hash_after (padded_message m) _) 5

pub sha1_bytes : (m : List ℕ) → IsBytes (sha1 m)
unfolding sha1
sha1_bytes m = bytes_at _ (digest_all (hash_after (padded_message m) _) 5)

-- the text of a digest
pub digest_back : (m : List ℕ) → digest_of (encode_lower (sha1 m)) ≡ Some (sha1 m)
unfolding digest_of
digest_back m =
    rw (decode_sized-encode_lower (sha1 m) 20 (sha1_length m) (sha1_bytes m), (bytes_eq-Decides (encode_lower (sha1 m)) (encode_lower (sha1 m))).1 refl) refl

-- the text of a digest has no line feed
digit_at : (t : List ℕ) (k : ℕ) → IsOneLine t → is_line_feed (get_or t k 0) ≡ false
digit_at [] k h = refl
digit_at (x ∷ t) zero h = (both_false (is_line_feed x) (list_any is_line_feed t) h).0
digit_at (x ∷ t) (suc k) h = digit_at t k (both_false (is_line_feed x) (list_any is_line_feed t) h).1

pub hex_line : (bytes : List ℕ) → IsOneLine (encode_lower bytes)
unfolding encode_with
hex_line [] = refl
hex_line (b ∷ bytes) =
    rw (digit_at lower_digits (b / 16) refl, digit_at lower_digits (b % 16) refl) (hex_line bytes)
