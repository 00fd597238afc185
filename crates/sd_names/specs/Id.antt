-- The text of an identifier.
use Rattle.std.specs.Prelude.{◌≡◌, ◌==◌, ℕ, ◌<◌, List, length, replicate, All, Option, None, if◌then◌else◌}
use Rattle.std.specs.Option.{option_map}
use Rattle.std.specs.Str.{str_to_ascii_lowercase}
use Rattle.uuid.specs.Text.{hyphenated_text, lower, parsed_hyphenated}
use Rattle.sd_names.specs.declared.id.Id.{Id}

-- sixteen bytes, as every identifier of a program has
pub record IsIdBytes (bytes : List ℕ) : Type 0 where
  pub sixteen : length bytes ≡ 16
  pub in_range : All (λ b. b < 256) bytes

-- the identifier of zeros (RFC 9562, section 5.9): no parent, or no image
abbrev pub zero_id : Id
zero_id = record { 0 = replicate 16 0 }

-- the hyphenated lower-case hexadecimal text of RFC 9562, section 4: groups of 8, 4, 4, 4 and 12 digits
abbrev pub id_text : List ℕ → List ℕ
id_text bytes = hyphenated_text lower bytes

-- a text that is read as these bytes: in lower case it is theirs
abbrev pub ReadsAs : List ℕ → List ℕ → Type 0
ReadsAs text bytes = str_to_ascii_lowercase text ≡ id_text bytes

-- the identifier of a text of 36 bytes in the hyphenated form, in either case
unfoldable pub id_of : List ℕ → Option Id
id_of text = if length text == 36 then option_map (λ bytes. record { 0 = bytes }) (parsed_hyphenated text) else None
