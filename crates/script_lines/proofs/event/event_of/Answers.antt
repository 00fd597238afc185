use Rattle.std.proofs.Common.{◌≡◌, true, false, sym, ◌∙◌, ap}
use Rattle.script_lines.specs.Verbs.{word_of, values_of_verb}
use Rattle.script_lines.specs.Event.{settled}
use Rattle.script_lines.proofs.EventLemmas.{whole_same, begin_same}
use Rattle.script_lines.proofs.event.event_of.Goals as goal

pub returns-in-Silent : goal.returns-in-Silent
returns-in-Silent g c = λ built says. ap (settled built) c.in-Silent.ensures.says

pub returns-in-Refused : goal.returns-in-Refused
returns-in-Refused g c = λ built says. ap (settled built) c.in-Refused.ensures.says

pub returns-in-Boot : goal.returns-in-Boot
returns-in-Boot g c = λ built says. ap (settled built) c.in-Boot.ensures.says

pub returns-in-Down : goal.returns-in-Down
returns-in-Down g c = λ built says. ap (settled built) c.in-Down.ensures.says

pub returns-in-Step : goal.returns-in-Step
returns-in-Step g c = λ built says. ap (settled built) c.in-Step.ensures.says

pub returns-in-End : goal.returns-in-End
returns-in-End g c = λ built says. ap (settled built) c.in-End.ensures.says

pub returns-then-not-is_built : goal.returns-then-not-is_built
returns-then-not-is_built g c = λ built says.
    let test : built c.in-Call.name ≡ false = sym (says c.in-Call.name c.is_built.result c.is_built.ensures) ∙ c.if-not-is_built.true in
    rw test at (ap (settled built) c.in-Call.ensures.says)

pub returns-then-is_whole : goal.returns-then-is_whole
returns-then-is_whole g c = λ built says.
    let test : built c.in-Call.name ≡ true = sym (says c.in-Call.name c.is_built.result c.is_built.ensures) ∙ c.if-not-is_built.false in
    let said = rw (test, c.in-Ok.is, c.if-is_whole.true) at (ap (settled built) c.in-Call.ensures.says) in
    let same : word_of c.in-Ok.verb ≡ c.in-Call.name = rw c.in-Ok.is at c.in-Call.ensures.named in
    whole_same c.in-Call.host (word_of c.in-Ok.verb) c.in-Call.name (values_of_verb c.in-Ok.verb) same ∙ said

pub returns-in-Ok : goal.returns-in-Ok
returns-in-Ok g c = λ built says.
    let test : built c.in-Call.name ≡ true = sym (says c.in-Call.name c.is_built.result c.is_built.ensures) ∙ c.if-not-is_built.false in
    let said = rw (test, c.in-Ok.is, c.if-is_whole.false) at (ap (settled built) c.in-Call.ensures.says) in
    let same : word_of c.in-Ok.verb ≡ c.in-Call.name = rw c.in-Ok.is at c.in-Call.ensures.named in
    begin_same c.in-Call.host (word_of c.in-Ok.verb) c.in-Call.name (values_of_verb c.in-Ok.verb) same ∙ said

pub returns : goal.returns
returns g c = λ built says.
    let test : built c.in-Call.name ≡ true = sym (says c.in-Call.name c.is_built.result c.is_built.ensures) ∙ c.if-not-is_built.false in
    rw (test, c.in-Err.is) at (ap (settled built) c.in-Call.ensures.says)
