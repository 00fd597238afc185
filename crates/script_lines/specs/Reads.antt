-- What a reader of arguments has read.
use Rattle.std.specs.Prelude.{◌≡◌, ◌++◌, List, Option}
use Rattle.script_lines.specs.Words.{words}
use Rattle.script_lines.specs.Argument.{Kind, Value, values_of, read_before}
use Rattle.script_lines.specs.declared.arguments.Arguments.{Arguments}

-- arguments of these kinds were read, or the one at the new place was refused: whatever kinds are to follow, the
-- old reader's arguments are these values before the new one's
abbrev pub Reads : {T : Type 0} → List Kind → (T → List Value) → Arguments → Arguments → Option T → Type 0
Reads kinds values old new read =
    (more : List Kind) → values_of (kinds ++ more) old.place (words old.rest.now)
    ≡ read_before values read new.place (values_of more new.place (words new.rest.now))
