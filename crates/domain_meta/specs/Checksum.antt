-- The checksum of a domain's text: the SHA-1 (FIPS 180-4) of its lines, but for the checksum's own, sorted by their
-- bytes, without their line feeds, one after the other.
use Rattle.std.specs.Prelude.{ℕ, Bool, not, ◌==◌, ◌&&◌, List, [], ◌∷◌, length, filter, take_while, nat_eq, if◌then◌else◌, codes}
use Rattle.std.specs.Cmp.Lexicographic.{slice_cmp}
use Rattle.std.specs.List.{concat, starts_with}
use Rattle.std.specs.Ordering.{is_le, nat_cmp}
use Rattle.kv_text.specs.Text.{lines, is_eof}
use Rattle.sha1.specs.Sha1.{sha1}

abbrev pub is_checksum : List ℕ → Bool
is_checksum line = starts_with nat_eq line (codes "_SHA_CKSUM=")

-- a line that the checksum covers: any but an empty one and the checksum's own
abbrev pub is_covered : List ℕ → Bool
is_covered line = not (length line == 0) && not (is_checksum line)

-- of these lines, those before a line `EOF` that the checksum covers
abbrev pub covered_of : List (List ℕ) → List (List ℕ)
covered_of ls = filter is_covered (take_while (λ line. not (is_eof line)) ls)

-- a line among sorted ones
abbrev pub placed : List ℕ → List (List ℕ) → List (List ℕ)
placed line [] = line ∷ []
placed line (first ∷ more) =
    if is_le (slice_cmp nat_cmp line first) then line ∷ first ∷ more else first ∷ placed line more

-- lines in the order of their bytes
abbrev pub in_order : List (List ℕ) → List (List ℕ)
in_order [] = []
in_order (line ∷ more) = placed line (in_order more)

unfoldable pub checksum_of : List ℕ → List ℕ
checksum_of text = sha1 (concat (in_order (covered_of (lines text))))
