use Rattle.std.proofs.Common.{◌≡◌, ◌∙◌, ◌++◌, sym, ap, arith, length, List, Option, option_map}
use Rattle.sd_names.specs.declared.id.Id.{Id}
use Rattle.domain_meta.specs.Values.{domains_of_words}
use Rattle.domain_meta.proofs.Domains.{listed_none, none_here, too_many}
use Rattle.domain_meta.proofs.listed.domains.Goals as goal

pub returns-in_default-clause-none : goal.returns-in_default-clause-none
returns-in_default-clause-none c =
    let none = ap domains_of_words c.first_word.ensures ∙ none_here c.first_word.result.0.now _ (sym c.domain.ensures ∙ c.in_default.is) in
    sym (listed_none c.args.value.now (c.loop.invariant.words ∙ ap (λ (o : Option (List Id)). option_map (λ left. c.loop.ids ++ left) o) none))

pub returns-clause-none : goal.returns-clause-none
returns-clause-none c =
    let four : length c.loop.ids ≡ 4 = omega (arith, c.loop.invariant.count) in
    sym (too_many c.args.value.now c.loop.rest.now c.loop.ids four c.loop.invariant.words)
