-- What a line of a script says.
use Rattle.std.specs.Prelude.{◌≡◌, ℕ, ◌==◌, Bool, true, false, ◌&&◌, if◌then◌else◌, List, [], ◌∷◌, length, nat_lt, nat_le, slice_index, codes, Option, Some, None, Result, Ok, Err}
use Rattle.std.specs.List.{list_all}
use Rattle.std.specs.Str.{bytes_eq}
use Rattle.sd_names.specs.declared.refusal.Refusal.{Refusal}
use Rattle.sd_names.specs.declared.refusal.Refusal.TheVariants.{BadLine, LineTooLong, UnknownVerb, BadArgument}
use Rattle.sd_names.specs.declared.verb.Verb.{Verb}
use Rattle.script_lines.specs.Words.{words}
use Rattle.script_lines.specs.Argument.{number, Value, number_value, number_in, values_of}
use Rattle.script_lines.specs.VerbWord.{verb_of}
use Rattle.script_lines.specs.Verbs.{kinds_of, word_of, values_of_verb}
use Rattle.script_lines.specs.declared.verb_names.VerbWord.{VerbWord}
use Rattle.script_lines.specs.declared.line.Said.{Said}
use Rattle.script_lines.specs.declared.line.Said.TheVariants as said

-- a verb and the values of its arguments
pub record Call : Type 0 where
  pub verb : VerbWord
  pub values : List Value

-- an event of a host, a refusal, or nothing
pub data Event : Type 0 where
  silent : Event
  refused : Refusal → Event
  boot : ℕ → Event
  down : ℕ → Event
  step : ℕ → ℕ → Event
  end : ℕ → Event
  begin : ℕ → Call → Event
  whole : ℕ → Call → Event

-- what a line says before it is known which verbs are built: a verb carries the values of its arguments, or why they are refused
pub data Spoken : Type 0 where
  event : Event → Spoken
  call : Bool → ℕ → VerbWord → Result (List Value) Refusal → Spoken

-- whether there are words
abbrev pub has_words : List (List ℕ) → Bool
has_words [] = false
has_words (word ∷ rest) = true

-- an event that takes no arguments
abbrev pub alone : Event → List (List ℕ) → Event
alone said args = if has_words args then refused (BadArgument 1) else said

-- so many steps, 1 to 1,000,000
abbrev pub stepped : ℕ → Result (List Value) Refusal → Event
stepped host (Ok (number_value n ∷ rest)) = step host n
stepped host (Ok _) = refused (BadArgument 1)
stepped host (Err refusal) = refused refusal

-- a verb with its arguments
abbrev pub calling : Bool → ℕ → Option VerbWord → List (List ℕ) → Spoken
calling is_whole host None args = event (refused UnknownVerb)
calling is_whole host (Some verb) args = call is_whole host verb (values_of (kinds_of verb) 1 args)

-- a verb that only begins
abbrev pub beginning : ℕ → List (List ℕ) → Spoken
beginning host [] = event (refused UnknownVerb)
beginning host (word ∷ args) = calling false host (verb_of word) args

-- what a host is told
unfoldable pub told : ℕ → List ℕ → List (List ℕ) → Spoken
told host word args =
    if bytes_eq word (codes "boot") then event (alone (boot host) args)
    else if bytes_eq word (codes "down") then event (alone (down host) args)
    else if bytes_eq word (codes "end") then event (alone (end host) args)
    else if bytes_eq word (codes "step") then event (stepped host (values_of (number 1 1000000 ∷ []) 1 args))
    else if bytes_eq word (codes "begin") then beginning host args
    else calling true host (verb_of word) args

-- a host and what it is told, as words
abbrev pub told_by : Option ℕ → List ℕ → List (List ℕ) → Spoken
told_by None word args = event (refused BadLine)
told_by (Some host) word args = told host word args

unfoldable pub words_said : List (List ℕ) → Spoken
words_said (host ∷ word ∷ args) = told_by (number_in 1 250 host) word args
words_said _ = event (refused BadLine)

-- a byte that a line may have
abbrev pub is_printable : ℕ → Bool
is_printable byte = nat_le 32 byte && nat_le byte 126

-- what a line says
unfoldable pub spoken : List ℕ → Spoken
spoken line =
    if length line == 0 then event silent
    else if slice_index line 0 == 35 then event silent
    else if nat_lt 200000 (length line) then event (refused LineTooLong)
    else if list_all is_printable line then words_said (words line)
    else event (refused BadLine)

-- the values of a verb that was read
abbrev pub values_read : Result Verb Refusal → Result (List Value) Refusal
values_read (Ok verb) = Ok (values_of_verb verb)
values_read (Err refusal) = Err refusal

-- what the program's values say
abbrev pub spoken_by : Said → Spoken
spoken_by said.Silent = event silent
spoken_by (said.Refused refusal) = event (refused refusal)
spoken_by (said.Boot host) = event (boot host)
spoken_by (said.Down host) = event (down host)
spoken_by (said.Step host count) = event (step host count)
spoken_by (said.End host) = event (end host)
spoken_by (said.Call is_whole host name verb) = call is_whole host name (values_read verb)

-- a verb of this name, if one was read
abbrev pub IsNamed : VerbWord → Result Verb Refusal → Type 0
IsNamed name (Ok verb) = word_of verb ≡ name
IsNamed name (Err refusal) = Unit {0}

-- a verb that was read has the name that stands beside it
abbrev pub NamesItsVerb : Said → Type 0
NamesItsVerb (said.Call is_whole host name verb) = IsNamed name verb
NamesItsVerb _ = Unit {0}
