-- The event of a line, once it is known which verbs are built.
use Rattle.std.specs.Prelude.{ℕ, Bool, true, false, if◌then◌else◌, List, Result, Ok, Err}
use Rattle.sd_names.specs.declared.refusal.Refusal.{Refusal}
use Rattle.sd_names.specs.declared.refusal.Refusal.TheVariants.{UnknownVerb}
use Rattle.script_lines.specs.Argument.{Value}
use Rattle.script_lines.specs.Verbs.{word_of, values_of_verb}
use Rattle.script_lines.specs.Said.{Event, silent, refused, boot, down, step, end, begin, whole, Spoken, event, call, spoken}
use Rattle.script_lines.specs.declared.verb_names.VerbWord.{VerbWord}
use Rattle.script_lines.specs.declared.event.Line.{Line}
use Rattle.script_lines.specs.declared.event.Line.TheVariants as line

-- a verb's event, if its arguments were read
abbrev pub called : Bool → ℕ → VerbWord → Result (List Value) Refusal → Event
called true host verb (Ok values) = whole host (record { verb = verb; values = values })
called false host verb (Ok values) = begin host (record { verb = verb; values = values })
called is_whole host verb (Err refusal) = refused refusal

-- what is said once it is known which verbs are built
abbrev pub settled : (VerbWord → Bool) → Spoken → Event
settled is_built (event e) = e
settled is_built (call is_whole host verb values) =
    if is_built verb then called is_whole host verb values else refused UnknownVerb

-- the event of a line, or why it is refused: a verb that isn't built is unknown
abbrev pub event_of : (VerbWord → Bool) → List ℕ → Event
event_of is_built bytes = settled is_built (spoken bytes)

-- the event of a line
abbrev pub event_by : Line → Event
event_by line.Silent = silent
event_by (line.Refused refusal) = refused refusal
event_by (line.Boot host) = boot host
event_by (line.Down host) = down host
event_by (line.Step host count) = step host count
event_by (line.End host) = end host
event_by (line.Begin host verb) = begin host (record { verb = word_of verb; values = values_of_verb verb })
event_by (line.Whole host verb) = whole host (record { verb = word_of verb; values = values_of_verb verb })
