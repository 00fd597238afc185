use Rattle.std.proofs.Common.{ap, ◌∙◌, subst}
use Rattle.volume_chain.specs.declared.chain.Chain.{Chain}
use Rattle.commit_reading.specs.Reading.{IsFound}
use Rattle.chain_reading.specs.Knowing.{place_on}
use Rattle.commit_reading.proofs.Steps.{data_looked, ended_looked, more_looks, none_looked, zero_looked}
use Rattle.commit_reading.proofs.reading.CommitReading.look.Goals as goal

pub returns-in-More-clause-content : goal.returns-in-More-clause-content
returns-in-More-clause-content g c d tells =
    let t = c.in-More.ensures.content d tells in
    let index = c.place_on-index.ensures ∙ ap (place_on c.args.self.sub.top) c.path.ensures in
    (t.0, t.1, λ part. more_looks c.args.self c.args.chain.now c.args.host c.args.looking part d t.0 c.place_on-index.result index c.with.result c.in-More.next c.with.ensures t.2)

pub returns-in-Absent-clause-content : goal.returns-in-Absent-clause-content
returns-in-Absent-clause-content g c d tells =
    let t = c.in-Done.ensures.content d tells in
    let index = c.place_on-index.ensures ∙ ap (place_on c.args.self.sub.top) c.path.ensures in
    (t.0, t.1, λ part. none_looked c.args.self c.args.chain.now c.args.host c.args.looking part d t.0 c.place_on-index.result index c.in-Done.looked c.in-Absent.is t.2)

pub returns-in-Zero-clause-content : goal.returns-in-Zero-clause-content
returns-in-Zero-clause-content g c d tells =
    let t = c.in-Done.ensures.content d tells in
    let index = c.place_on-index.ensures ∙ ap (place_on c.args.self.sub.top) c.path.ensures in
    (t.0, t.1, λ part. zero_looked c.args.self c.args.chain.now c.args.host c.args.looking part d t.0 c.place_on-index.result index c.found.result c.in-Done.looked c.in-Zero.field-0 c.in-Zero.is (subst (λ (ch : Chain). IsFound c.args.self ch c.found.result) c.in-Done.ensures.chain c.found.ensures) t.2)

pub returns-in-Data-clause-content : goal.returns-in-Data-clause-content
returns-in-Data-clause-content g c d tells =
    let t = c.in-Done.ensures.content d tells in
    let index = c.place_on-index.ensures ∙ ap (place_on c.args.self.sub.top) c.path.ensures in
    (t.0, t.1, λ part. data_looked c.args.self c.args.chain.now c.args.host c.args.looking part d t.0 c.place_on-index.result index c.found-in-Data.result c.in-Done.looked c.in-Data.field-0 c.in-Data.is (subst (λ (ch : Chain). IsFound c.args.self ch c.found-in-Data.result) c.in-Done.ensures.chain c.found-in-Data.ensures) t.2)

pub returns-in-Ended-clause-content : goal.returns-in-Ended-clause-content
returns-in-Ended-clause-content g c d tells =
    let t = c.in-Ended.ensures.content d tells in
    let index = c.place_on-index.ensures ∙ ap (place_on c.args.self.sub.top) c.path.ensures in
    (t.0, t.1, λ part. ended_looked c.args.self c.args.chain.now c.args.host c.args.looking part d t.0 c.place_on-index.result index c.in-Ended.field-0 tt c.in-Ended.refusal t.2)
