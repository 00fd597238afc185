use Rattle.std.proofs.Common.{◌≡◌, true, [], codes, ap, ap₂, ◌∙◌}
use Rattle.std.proofs.lemmas.Result.{IfOk-weaker}
use Rattle.clap.specs.Words.{App, app_of, with_subcommand}
use Rattle.clap.specs.declared.builder.command.Command.{Command}
use Rattle.clap.specs.declared.builder.command.Command.TheOpen.{Command-F}
use Rattle.clap.specs.Simple.{app_of_fields, new_shape}
use Rattle.command_words.specs.Shapes.{session_shape, table}
use Rattle.command_words.proofs.table.table.Goals as goal

-- the table before its commands
abbrev bare : App
bare = record {
  top = record (new_shape (codes "vdsm")) { no_binary_name = true; subcommand_required = true };
  subs = [];
}

pub returns : goal.returns
unfolding table
returns c =
    let required : app_of c.subcommand_required.result ≡ bare =
    ap app_of_fields c.subcommand_required.ensures
    ∙ ap (λ (f : Command-F Command). app_of_fields (record f { subcommand_required = true })) c.no_binary_name.ensures
    ∙ ap (λ (a : App). record { top = record a.top { no_binary_name = true; subcommand_required = true }; subs = a.subs }) c.new.ensures.app in
    let first : app_of c.in_ok-subcommand.field-0 ≡ with_subcommand bare session_shape =
    c.in_ok-subcommand.ensures.shape c.in_ok-session.ensures.local
    ∙ ap₂ with_subcommand required (ap (λ (a : App). a.top) c.in_ok-session.ensures.shape) in
    IfOk-weaker c.subcommand-2.result _ _ (λ command h. h.shape c.in_ok-run.ensures.local
    ∙ ap₂ with_subcommand first (ap (λ (a : App). a.top) c.in_ok-run.ensures.shape)) c.subcommand-2.ensures
