-- What a small file reads as, from what the disk read of it.
use Rattle.std.proofs.Common.{◌≡◌, ℕ, zero, suc, ◌+◌, ◌-◌, ◌*◌, ◌<◌, ◌≤◌, ◌==◌, min, Bool, true, false, List, [], ◌∷◌, ◌++◌, length, take, replicate, unwrap_or, eqb-true, refl, sym, ap, ◌∙◌, subst, arith, length-take, nat_le, append_assoc, append-nil}
use Rattle.std.proofs.Math.Seq.{take-add, take-length}
use Rattle.std.proofs.lemmas.List.Elements.{All-head, All-tail}
use Rattle.std.proofs.lemmas.Bool.Decides.{nat_tests}
use Rattle.shared_disk.specs.Content.{File, Loose, Sees, own_of, seen, sector_of, without}
use Rattle.shared_disk.specs.Calls.{ReadsAs}
use Rattle.shared_disk.proofs.NameOutcomes.{alone_sees}
use Rattle.whole_file.specs.Text.{HasNoZero, IsTextFile, before_zero, bytes_of, longest, padded, sectors_for, text_of}
use Rattle.whole_file.proofs.Texts.{length_padded}

front_step : (b : ℕ) (xs ys : List ℕ) (t : Bool) → (b == 0) ≡ t → (length (before_zero xs) < length xs → before_zero (xs ++ ys) ≡ before_zero xs)
    → length (before_zero (b ∷ xs)) < length (b ∷ xs) → before_zero (b ∷ xs ++ ys) ≡ before_zero (b ∷ xs)
front_step b xs ys true t more less = rw t refl
front_step b xs ys false t more less =
    let rest : length (b ∷ before_zero xs) < length (b ∷ xs) = rw t at less in
    rw t (ap (λ (zs : List ℕ). b ∷ zs) (more (omega (arith, rest))))

-- the text of a front that has a zero byte is the text
pub text_in_front : (xs ys : List ℕ) → length (before_zero xs) < length xs → before_zero (xs ++ ys) ≡ before_zero xs
text_in_front [] ys less = absurd (nothing_less less)
  where
    nothing_less : 0 < 0 → ⊥
    nothing_less less = omega (arith, less)
text_in_front (b ∷ xs) ys less = front_step b xs ys (b == 0) refl (text_in_front xs ys) less

longer_step : (b : ℕ) (xs ys : List ℕ) (t : Bool) → (b == 0) ≡ t → length (before_zero xs) ≤ length (before_zero (xs ++ ys))
    → length (before_zero (b ∷ xs)) ≤ length (before_zero (b ∷ xs ++ ys))
longer_step b xs ys true t more = rw t (omega arith)
longer_step b xs ys false t more = rw t (omega (arith, more))

-- what follows makes no text shorter
pub text_of_front : (xs ys : List ℕ) → length (before_zero xs) ≤ length (before_zero (xs ++ ys))
text_of_front [] ys = omega arith
text_of_front (b ∷ xs) ys = longer_step b xs ys (b == 0) refl (text_of_front xs ys)

-- a text without zero bytes ends where the zeros begin
zeros_alone : (n : ℕ) → before_zero (replicate n 0) ≡ []
zeros_alone zero = refl
zeros_alone (suc n) = refl

byte_step : (b n : ℕ) (text : List ℕ) (t : Bool) → (b == 0) ≡ t → 0 < b → before_zero (text ++ replicate n 0) ≡ text → before_zero (b ∷ text ++ replicate n 0) ≡ b ∷ text
byte_step b n text true t some more = absurd (not_zero b (eqb-true b 0 t) some)
  where
    not_zero : (b : ℕ) → b ≡ 0 → 0 < b → ⊥
    not_zero b is some = omega (arith, is, some)
byte_step b n text false t some more = rw t (ap (λ (zs : List ℕ). b ∷ zs) more)

pub text_before_zeros : (text : List ℕ) (n : ℕ) → HasNoZero text → before_zero (text ++ replicate n 0) ≡ text
text_before_zeros [] n fine = zeros_alone n
text_before_zeros (b ∷ text) n fine = byte_step b n text (b == 0) refl (All-head (λ (x : ℕ). 0 < x) b text fine) (text_before_zeros text n (All-tail (λ (x : ℕ). 0 < x) b text fine))

-- the bytes of sectors that are those of a list
pub bytes_of_list : (sectors : ℕ → List ℕ) (xs : List ℕ) (n : ℕ) → 512 * n ≤ length xs → ((k : ℕ) → k < n → sectors k ≡ sector_of xs k) → bytes_of sectors n ≡ take (512 * n) xs
bytes_of_list sectors xs zero fits same = refl
bytes_of_list sectors xs (suc n) fits same =
    ap (λ (ys : List ℕ). ys ++ sectors n) (bytes_of_list sectors xs n (omega (arith, fits)) (λ k below. same k (omega (arith, below))))
    ∙ ap (λ (ys : List ℕ). take (512 * n) xs ++ ys) (same n (omega arith))
    ∙ sym (take-add (512 * n) 512 xs) ∙ ap (λ (m : ℕ). take m xs) (one_more n)
  where
    one_more : (n : ℕ) → 512 * n + 512 ≡ 512 * suc n
    one_more n = omega arith

-- the first sectors stand at the front
pub bytes_of_more : (sectors : ℕ → List ℕ) (n m : ℕ) → (ys : List ℕ) × (bytes_of sectors (n + m) ≡ bytes_of sectors n ++ ys)
bytes_of_more sectors n zero = ([], ap (λ (k : ℕ). bytes_of sectors k) (none n) ∙ sym (append-nil (bytes_of sectors n)))
  where
    none : (n : ℕ) → n + 0 ≡ n
    none n = omega arith
bytes_of_more sectors n (suc m) =
    let more = bytes_of_more sectors n m in
    (more.0 ++ sectors (n + m), ap (λ (k : ℕ). bytes_of sectors k) (one n m) ∙ ap (λ (xs : List ℕ). xs ++ sectors (n + m)) more.1 ∙ append_assoc (bytes_of sectors n) more.0 (sectors (n + m)))
  where
    one : (n m : ℕ) → n + suc m ≡ suc (n + m)
    one n m = omega arith

-- a file that has a text reads as it
pub text_read_again : (host : ℕ) (text : List ℕ) (f : File) → HasNoZero text → IsTextFile text f → text_of host f ≡ text
text_read_again host text f fine is =
    let n : ℕ = sectors_for (length text) in
    let whole : 512 * f.size ≡ length (padded text) = omega (arith, is.size, length_padded text) in
    let sees : (k : ℕ) → k < f.size → seen host f k ≡ sector_of (padded text) k =
    λ k below. ap (λ (ls : List Loose). unwrap_or (own_of host k ls) (f.stable k)) is.settled.loose ∙ is.sectors k below in
    ap before_zero (bytes_of_list (seen host f) (padded text) f.size (omega (arith, whole)) sees ∙ ap (λ (m : ℕ). take m (padded text)) whole ∙ take-length (padded text))
    ∙ text_before_zeros text (512 * n - length text) fine

from_zero : (k : ℕ) → 0 + k ≡ k
from_zero k = omega arith

-- the sectors that the disk read are the front of the file's bytes
read_front : (host : ℕ) (f : File) (count : ℕ) (before xs : List ℕ) (m : ℕ) → without host f.loose ≡ [] → count ≡ 512 * m → count ≤ length xs → ReadsAs host f 0 count before xs
    → bytes_of (seen host f) m ≡ take count xs
read_front host f count before xs m alone is fits reads =
    bytes_of_list (seen host f) xs m (omega (arith, is, fits)) (λ k below. sym (alone_sees host k f (sector_of xs k) alone (subst (λ (j : ℕ). Sees host f j (sector_of xs k)) (from_zero k) (reads.sectors k (omega (arith, is, below)))))) ∙ ap (λ (n : ℕ). take n xs) (sym is)

-- what a front of the text tells of it
pub record TellsText (front text : List ℕ) : Type 0 where
  pub long : longest < length (before_zero front) → longest < length text
  pub short : length (before_zero front) ≤ longest → before_zero front ≡ text

whole_text : (front text : List ℕ) → before_zero front ≡ text → TellsText front text
whole_text front text same = record { long = λ more. subst (λ (xs : List ℕ). longest < length xs) same more; short = λ less. same }

front_of_text : (front rest text : List ℕ) → length front ≡ 8704 → before_zero (front ++ rest) ≡ text → TellsText front text
front_of_text front rest text len same = record {
  long = λ more. subst (λ (xs : List ℕ). longest < length xs) same (omega (arith, more, text_of_front front rest));
  short = λ less. sym (text_in_front front rest (omega (arith, len, less))) ∙ same;
}

room_step : (host : ℕ) (f : File) (count : ℕ) (before xs : List ℕ) (t : Bool) → nat_le f.size 17 ≡ t → without host f.loose ≡ [] → length before ≡ 8704 → length xs ≡ 8704
    → count ≡ min (length before) (512 * (f.size - 0)) → ReadsAs host f 0 count before xs → TellsText (take count xs) (text_of host f)
room_step host f count before xs true t alone len1 len2 is reads =
    let small : f.size ≤ 17 = grind (arith, nat_tests) in
    let all : count ≡ 512 * f.size = omega (arith, is, len1, small) in
    whole_text (take count xs) (text_of host f) (sym (ap before_zero (read_front host f count before xs f.size alone all (omega (arith, all, small, len2)) reads)))
room_step host f count before xs false t alone len1 len2 is reads =
    let large : 17 < f.size = grind (arith, nat_tests) in
    let all : count ≡ 512 * 17 = omega (arith, is, len1, large) in
    let front = read_front host f count before xs 17 alone all (omega (arith, all, len2)) reads in
    let more = bytes_of_more (seen host f) 17 (f.size - 17) in
    let size : f.size ≡ 17 + (f.size - 17) = omega (arith, large) in
    front_of_text (take count xs) more.0 (text_of host f) (length-take count xs ∙ omega (arith, all, len2))
    (ap before_zero (ap (λ (ys : List ℕ). ys ++ more.0) (sym front) ∙ sym more.1 ∙ ap (λ (n : ℕ). bytes_of (seen host f) n) (sym size)))

-- the room of 17 sectors has the front of the text: all of it, where it ends there
pub text_in_room : (host : ℕ) (f : File) (count : ℕ) (before xs : List ℕ) → without host f.loose ≡ [] → length before ≡ 8704 → length xs ≡ 8704
    → count ≡ min (length before) (512 * (f.size - 0)) → ReadsAs host f 0 count before xs → TellsText (take count xs) (text_of host f)
text_in_room host f count before xs alone len1 len2 is reads = room_step host f count before xs (nat_le f.size 17) refl alone len1 len2 is reads
