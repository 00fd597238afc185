-- What the words after the program's name ask for.
use Rattle.std.specs.Prelude.{ℕ, List, Option, map}
use Rattle.command_words.specs.declared.command.Command.{Command}
use Rattle.command_words.specs.declared.command.Command.TheVariants as command

-- a session of the source's script, or a run of lines; with the moment, where the words give one
pub data Asked : Type 0 where
  session : Option ℕ → Asked
  run : Option ℕ → List (List ℕ) → Asked

-- what a command asks for
abbrev pub asked_by : Command → Asked
asked_by (command.Session moment) = session moment
asked_by (command.Run moment lines) = run moment (map (λ line. line.now) lines.items)

-- the moment that the words give
abbrev pub moment_of : Asked → Option ℕ
moment_of (session moment) = moment
moment_of (run moment lines) = moment
