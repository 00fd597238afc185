use Rattle.std.proofs.Common.{◌≡◌, ℕ, ◌*◌, length, arith}
use Rattle.std.proofs.lemmas.List.{length-take}
use Rattle.cluster_filling.proofs.Calls.{call_on}
use Rattle.cluster_filling.proofs.Steps.{step_on}
use Rattle.cluster_filling.proofs.filling.Filling.step.Goals as goal

pub returns-clause-content : goal.returns-clause-content
returns-clause-content g c d tells =
    let t = c.fill.ensures.content d tells in
    let size : length c.fill.new.piece ≡ 512 * c.piece-count.result = omega (arith, c.fill.auto.piece, length-take {A = ℕ}, c.requires.room, c.piece-count.ensures.few) in
    (t.0, t.1, step_on c.args.self c.args.chain.now c.args.host c.args.part.now c.args.room.now c.fill.new.piece _ c.piece-count.result c.fill.result d t.0 c.piece-count.ensures.value size t.2)

pub returns-clause-steps : goal.returns-clause-steps
returns-clause-steps g c d tells =
    let t = c.fill.ensures.steps d tells in
    let size : length c.fill.new.piece ≡ 512 * c.piece-count.result = omega (arith, c.fill.auto.piece, length-take {A = ℕ}, c.requires.room, c.piece-count.ensures.few) in
    (t.0, t.1, call_on c.args.self c.args.chain.now c.args.host c.args.part.now c.args.room.now c.fill.new.piece _ c.piece-count.result _ c.fill.result d t.0 c.piece-count.ensures.value size t.2)
