-- What the value of each key of a domain's text means.
use Rattle.std.specs.Prelude.{ℕ, Bool, true, ◌==◌, ◌&&◌, List, [], ◌∷◌, length, take, drop, nat_le, Option, Some, None, if◌then◌else◌, codes, option_and_then, option_map}
use Rattle.std.specs.Cmp.Lexicographic.{slice_cmp}
use Rattle.std.specs.List.{slice_split}
use Rattle.std.specs.Ordering.{is_lt, nat_cmp}
use Rattle.std.specs.Result.{result_ok}
use Rattle.std.specs.Str.{bytes_eq}
use Rattle.hex.specs.Hex.{decode_sized, encode_lower}
use Rattle.decimal_numbers.specs.Number.{number_of}
use Rattle.sd_names.specs.Id.{id_of}
use Rattle.sd_names.specs.declared.id.Id.{Id}
use Rattle.sd_names.specs.declared.kinds.Role.{Role}
use Rattle.sd_names.specs.declared.kinds.Role.TheVariants.{Master, Regular}

-- CLASS: `Data`
unfoldable pub class_of : List ℕ → Option Unit
class_of value = if bytes_eq value (codes "Data") then Some tt else None

unfoldable pub role_of : List ℕ → Option Role
role_of value =
    if bytes_eq value (codes "Master") then Some Master else if bytes_eq value (codes "Regular") then Some Regular else None

-- the version of a role's master
abbrev pub version_of_role : Role → ℕ
version_of_role Master = 1
version_of_role Regular = 0

-- the version that goes with a role, or where ROLE has none, with either
abbrev pub is_version_of : Option Role → ℕ → Bool
is_version_of (Some role) n = n == version_of_role role
is_version_of None n = nat_le n 1

-- MASTER_VERSION
unfoldable pub master_version_of : Option Role → List ℕ → Option ℕ
master_version_of role value =
    option_and_then (λ n. if is_version_of role n then Some n else None) (number_of value)

abbrev pub is_comma : ℕ → Bool
is_comma byte = byte == 44

-- one domain of a pool: its identifier, and `:Active`
unfoldable pub domain_of : List ℕ → Option Id
domain_of word = if bytes_eq (drop 36 word) (codes ":Active") then id_of (take 36 word) else None

-- the domains of these words, if each is one
abbrev pub domains_of_words : List (List ℕ) → Option (List Id)
domains_of_words [] = Some []
domains_of_words (word ∷ more) =
    option_and_then (λ id. option_map (λ ids. id ∷ ids) (domains_of_words more)) (domain_of word)

abbrev pub is_below : Id → Id → Bool
is_below a b = is_lt (slice_cmp nat_cmp a.0 b.0)

-- each identifier is above the one before it
abbrev pub is_rising : List Id → Bool
is_rising [] = true
is_rising (id ∷ []) = true
is_rising (id ∷ next ∷ more) = is_below id next && is_rising (next ∷ more)

-- at most four domains that rise; between commas there is always a word
unfoldable pub listed_of : List ℕ → Option (List Id)
listed_of value =
    option_and_then (λ ids. if nat_le (length ids) 4 && is_rising ids then Some ids else None) (domains_of_words (slice_split is_comma value))

-- POOL_DOMAINS: a master lists the pool's domains, and any other domain none. Where ROLE has no role, either may stand
unfoldable pub domains_of : Option Role → List ℕ → Option (List Id)
domains_of (Some Master) value = listed_of value
domains_of (Some Regular) value = if length value == 0 then Some [] else None
domains_of None value = if length value == 0 then Some [] else listed_of value

-- _SHA_CKSUM: the 40 hexadecimal digits of a digest, in lower case
unfoldable pub digest_of : List ℕ → Option (List ℕ)
digest_of value =
    option_and_then (λ digest. if bytes_eq (encode_lower digest) value then Some digest else None) (result_ok (decode_sized value 20))
