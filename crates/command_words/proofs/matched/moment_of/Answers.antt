use Rattle.std.proofs.Common.{ap, ◌∙◌, codes}
use Rattle.clap.specs.Words.{found_of}
use Rattle.clap.proofs.WalkLemmas.{first_value-rows}
use Rattle.std.specs.Option.{option_and_then}
use Rattle.command_words.specs.Words.{number_in}
use Rattle.command_words.proofs.MatchLemmas.{number_parsed}
use Rattle.command_words.proofs.matched.moment_of.Goals as goal

pub returns-in-Some : goal.returns-in-Some
returns-in-Some c =
    let rows = first_value-rows (found_of c.args.matches.now) (codes "moment") in
    c.ok.ensures.value ∙ number_parsed c.in-Some.text.now c.parse.result c.parse.ensures.value.0
    ∙ ap (option_and_then number_in) (c.in-Some.ensures ∙ rows)

pub returns-in-None : goal.returns-in-None
returns-in-None c =
    let rows = first_value-rows (found_of c.args.matches.now) (codes "moment") in
    ap (option_and_then number_in) (c.in-None.ensures ∙ rows)
