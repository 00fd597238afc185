use Rattle.std.proofs.Common.{ap, ◌∙◌, codes, unwrap_or, map, []}
use Rattle.clap.specs.Words.{found_of}
use Rattle.clap.proofs.WalkLemmas.{raw_values-rows}
use Rattle.command_words.proofs.matched.lines_of.Goals as goal

pub returns-in-Ok : goal.returns-in-Ok
returns-in-Ok c =
    let rows = raw_values-rows (found_of c.args.matches.now) (codes "line") in
    ap (map (λ line. line.now)) c.in-Ok.ensures.items ∙ ap (λ o. unwrap_or o []) (c.in-Some.ensures ∙ rows)

pub returns-in-None : goal.returns-in-None
returns-in-None c =
    let rows = raw_values-rows (found_of c.args.matches.now) (codes "line") in
    ap (map (λ line. line.now)) c.new.ensures.items ∙ ap (λ o. unwrap_or o []) (c.in-None.ensures ∙ rows)
