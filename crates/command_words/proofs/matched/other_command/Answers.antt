use Rattle.std.proofs.Common.{◌≡◌, map, [], sym, ap, subst, inl, inr, ◌∙◌}
use Rattle.std.specs.Option.{option_and_then}
use Rattle.std.proofs.lemmas.Result.{IfOk-weaker}
use Rattle.clap.specs.Words.{app_of, is_simple, is_simple_and_free, fault_of, subcommand_of, subcommand_rows_of, App, IsAmong, kind_of}
use Rattle.command_words.specs.Shapes.{table}
use Rattle.command_words.specs.Words.{command_in}
use Rattle.command_words.proofs.MatchLemmas.{matched_free, matched_refused, table_simple, table_free}
use Rattle.command_words.proofs.matched.other_command.Goals as goal

pub returns-in-Ok-try_get_matches_from : goal.returns-in-Ok-try_get_matches_from
returns-in-Ok-try_get_matches_from c =
    let texts = map (λ w. w.now) c.args.words.now in
    let app : app_of c.in-Ok.table ≡ table = c.in-Ok.ensures in
    let m = c.in-Ok-try_get_matches_from in
    let none : fault_of table texts ≡ [] =
    ap (λ (a : App). fault_of a texts) (sym app) ∙ m.ensures.kinds (ap is_simple_and_free app ∙ table_free) in
    let rows : subcommand_rows_of m.matches ≡ subcommand_of table texts =
    (m.ensures.matches (ap is_simple app ∙ table_simple)).1 ∙ ap (λ (a : App). subcommand_of a texts) app in
    IfOk-weaker c.command_of.result _ _ (λ found h. h ∙ ap (option_and_then command_in) rows ∙ sym (matched_free texts none)) c.command_of.ensures

pub returns : goal.returns
returns c =
    let texts = map (λ w. w.now) c.args.words.now in
    let app : app_of c.in-Ok.table ≡ table = c.in-Ok.ensures in
    let e = c.in-Err-try_get_matches_from in
    elim (e.ensures.kinds (ap is_simple_and_free app ∙ table_free)) [
      | inl memory ↦ absurd (c.in_default.not-OutOfMemory (c.kind.ensures ∙ memory))
      | inr among ↦ matched_refused texts (kind_of e.error) (subst (λ (a : App). IsAmong (kind_of e.error) (fault_of a texts)) app among)
    ]
