use Rattle.std.proofs.Common.{◌∙◌, sym}
use Rattle.decimal_numbers.proofs.NumberLemmas.{numeral_utf8, number_parsed, number_none}
use Rattle.decimal_numbers.proofs.reading.number.Goals as goal

pub returns-then-not-is_numeral : goal.returns-then-not-is_numeral
returns-then-not-is_numeral c =
    number_none c.args.word.now (sym c.is_numeral.ensures ∙ c.if-not-is_numeral.true)

pub returns-in-Ok : goal.returns-in-Ok
returns-in-Ok c =
    let word = c.args.word.now in
    c.ok.ensures.value ∙ number_parsed word c.parse.result (rw c.in-Ok.ensures.cases.0 at c.parse.ensures.value.0)
    (sym c.is_numeral.ensures ∙ c.if-not-is_numeral.false)

pub returns-in-Err : goal.returns-in-Err
returns-in-Err c =
    absurd (c.in-Err.ensures.cases.0
    (numeral_utf8 c.args.word.now (sym c.is_numeral.ensures ∙ c.if-not-is_numeral.false)))
