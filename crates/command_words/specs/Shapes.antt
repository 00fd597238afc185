-- The table of commands, as `clap` sees it.
use Rattle.std.specs.Prelude.{true, false, [], ◌∷◌, Some, codes}
use Rattle.clap.specs.Lexer.{usize_max}
use Rattle.clap.specs.Words.{App, Rule, Shape, new_rule}
use Rattle.clap.specs.Simple.{new_shape}
use Rattle.clap.specs.declared.builder.value_parser.ValueParser.TheVariants.{Unsigned}

-- `--moment N`, N below 2 ^ 64
abbrev pub moment_rule : Rule
moment_rule = record (new_rule (codes "moment")) {
  long = Some (codes "moment");
  parser = Some (Unsigned 0 18446744073709551615);
}

-- `LINE..`, at least one
abbrev pub line_rule : Rule
line_rule = record (new_rule (codes "line")) {
  required = true;
  range = Some (record { start_inclusive = 1; end_inclusive = usize_max });
}

-- `session [--moment N]`
abbrev pub session_shape : Shape
session_shape = record (new_shape (codes "session")) { rules = moment_rule ∷ [] }

-- `run [--moment N] LINE..`
abbrev pub run_shape : Shape
run_shape = record (new_shape (codes "run")) { rules = moment_rule ∷ line_rule ∷ [] }

-- one of the two
unfoldable pub table : App
table = record {
  top = record (new_shape (codes "vdsm")) { is_leaf = false; no_binary_name = true; subcommand_required = true };
  subs = session_shape ∷ run_shape ∷ [];
}
