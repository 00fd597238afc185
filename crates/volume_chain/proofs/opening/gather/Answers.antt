use Rattle.std.proofs.Common.{refl, subst}
use Rattle.volume_chain.specs.Checking.{IsChecked}
use Rattle.volume_chain.proofs.Begun.{still_image}
use Rattle.volume_chain.proofs.Gathers.{done_gathers, done_shape, ended_gathers, more_gathers}
use Rattle.volume_chain.proofs.opening.gather.Goals as goal

pub returns-in-More-clause-shape : goal.returns-in-More-clause-shape
returns-in-More-clause-shape g c =
    (refl, λ s. (still_image c.args.target c.args.gathering c.in-More.next (c.in-More.ensures.falls (λ n. 0)).target c.in-More.ensures.valid s.0, c.in-More.ensures.order s.1, s.2))

pub returns-in-More-clause-content : goal.returns-in-More-clause-content
returns-in-More-clause-content g c d tells =
    let call = c.in-More.ensures.content d tells in
    let same = (c.in-More.ensures.falls (λ n. 0)).target in
    (call.0, call.1, more_gathers c.args.target c.args.volumes c.args.gathering c.in-More.next c.args.host d call.0 same c.in-More.ensures.valid call.2)

pub returns-in-Done-clause-shape : goal.returns-in-Done-clause-shape
returns-in-Done-clause-shape g c =
    done_shape c.args.target c.args.volumes c.args.gathering c.in-Done.gathered c.checked.result c.in-Done.ensures.valid
    (subst (λ xs. IsChecked c.args.target xs c.args.volumes c.checked.result) c.into_records.ensures c.checked.ensures.turn)

pub returns-in-Done-clause-content : goal.returns-in-Done-clause-content
returns-in-Done-clause-content g c d tells =
    let call = c.in-Done.ensures.content d tells in
    let checked = subst (λ xs. IsChecked c.args.target xs c.args.volumes c.checked.result) c.into_records.ensures c.checked.ensures.turn in
    (call.0, call.1, done_gathers c.args.target c.args.volumes c.args.gathering c.in-Done.gathered c.args.host c.checked.result d call.0 c.in-Done.ensures.valid call.2 checked)

pub returns-in-Ended-clause-content : goal.returns-in-Ended-clause-content
returns-in-Ended-clause-content g c d tells =
    let call = c.in-Ended.ensures.content d tells in
    (call.0, call.1, ended_gathers c.args.target c.args.volumes c.args.gathering c.args.host c.in-Ended.refusal d call.0 c.in-Ended.ensures.refusals call.2)
