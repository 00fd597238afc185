-- What words ask for: plain ones as they stand, others by `clap`'s function for the table of commands.
use Rattle.std.specs.Prelude.{ℕ, ◌==◌, ◌&&◌, Bool, not, if◌then◌else◌, List, [], ◌∷◌, length, take, drop, slice_index, nat_lt, unwrap_or, codes, Option, Some, None}
use Rattle.std.specs.List.{list_all}
use Rattle.std.specs.Option.{option_map, option_and_then, option_or}
use Rattle.std.specs.Str.{bytes_eq}
use Rattle.std.specs.Str.Parse.{digits_value, without_leading_plus}
use Rattle.clap.specs.Walk.{Row, is_empty}
use Rattle.clap.specs.Words.{first_of, all_of, fault_of, subcommand_of}
use Rattle.clap.specs.ValueTests.{is_unsigned_in}
use Rattle.decimal_numbers.specs.Number.{number_of}
use Rattle.command_words.specs.Asked.{Asked, session, run}
use Rattle.command_words.specs.Shapes.{table}

-- a moment, and the words behind it
abbrev pub moment_before : List (List ℕ) → List ℕ → Option (Option ℕ × List (List ℕ))
moment_before rest text = option_map (λ n. (Some n, rest)) (number_of text)

-- the moment in the word behind `--moment`
abbrev pub moment_behind : List (List ℕ) → Option (Option ℕ × List (List ℕ))
moment_behind [] = None
moment_behind (text ∷ rest) = moment_before rest text

-- the moment at the front of words, if the option stands there, and the words behind it; none where the option has no
-- number
abbrev pub moment_at : List (List ℕ) → Option (Option ℕ × List (List ℕ))
moment_at [] = Some (None, [])
moment_at (word ∷ rest) =
    if bytes_eq word (codes "--moment") then moment_behind rest
    else if bytes_eq (take 9 word) (codes "--moment=") then moment_before rest (drop 9 word)
    else Some (None, word ∷ rest)

-- a line of a script as a plain word
abbrev pub is_line : List ℕ → Bool
is_line word = nat_lt 0 (length word) && not (slice_index word 0 == 45)

-- some lines
abbrev pub are_lines : List (List ℕ) → Bool
are_lines words = nat_lt 0 (length words) && list_all is_line words

-- a command of this name, with a moment and the words behind it
abbrev pub plain_with : List ℕ → Option ℕ → List (List ℕ) → Option Asked
plain_with name moment rest =
    if bytes_eq name (codes "session") then (if length rest == 0 then Some (session moment) else None)
    else if bytes_eq name (codes "run") then (if are_lines rest then Some (run moment rest) else None)
    else None

-- what plain words ask for
unfoldable pub plain : List (List ℕ) → Option Asked
plain [] = None
plain (name ∷ rest) = option_and_then (λ found. plain_with name found.0 found.1) (moment_at rest)

-- the number of a text that `clap` lets through as one: a plus may stand in front
abbrev pub number_in : List ℕ → Option ℕ
number_in text = if is_unsigned_in 0 18446744073709551615 text then Some (digits_value 10 (without_leading_plus text)) else None

-- the moment among a command's matches
abbrev pub moment_in : List Row → Option ℕ
moment_in rows = option_and_then number_in (first_of (codes "moment") rows)

-- the lines among them
abbrev pub lines_in : List Row → List (List ℕ)
lines_in rows = unwrap_or (all_of (codes "line") rows) []

-- a command and its matches
abbrev pub command_in : List ℕ × List Row → Option Asked
command_in (name, rows) =
    if bytes_eq name (codes "session") then Some (session (moment_in rows))
    else if bytes_eq name (codes "run") then Some (run (moment_in rows) (lines_in rows))
    else None

-- what words ask for by `clap`'s function; nothing where it refuses them
unfoldable pub matched : List (List ℕ) → Option Asked
matched words = if is_empty (fault_of table words) then option_and_then command_in (subcommand_of table words) else None

-- what words ask for
abbrev pub asked : List (List ℕ) → Option Asked
asked words = option_or (plain words) (matched words)
