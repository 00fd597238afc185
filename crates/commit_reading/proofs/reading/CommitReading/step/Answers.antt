use Rattle.std.proofs.Common.{◌≡◌, ℕ, ◌*◌, ◌++◌, drop, length, sym, subst, arith}
use Rattle.std.proofs.lemmas.List.{length-take}
use Rattle.commit_reading.specs.Pieces.{count_of}
use Rattle.commit_reading.specs.Reading.{ReadsIn}
use Rattle.commit_reading.proofs.Steps.{asks, in_front, next_turn}
use Rattle.sd_names.specs.declared.turn.Turn.TheVariants.{More}
use Rattle.commit_reading.proofs.reading.CommitReading.step.Goals as goal

pub returns-in-Begun-clause-content : goal.returns-in-Begun-clause-content
returns-in-Begun-clause-content g c d tells =
    (d, tells, subst (λ s. ReadsIn s c.args.self c.args.chain.now c.args.host c.args.part.now c.args.part.now (More c.ask.result) d d) (sym c.in-Begun.is) (asks c.args.self c.ask.result c.args.chain.now c.args.host c.args.part.now d c.ask.ensures))

pub returns-in-Looking-clause-content : goal.returns-in-Looking-clause-content
returns-in-Looking-clause-content g c d tells =
    let t = c.look.ensures.content d tells in
    (t.0, t.1, subst (λ s. ReadsIn s c.args.self c.args.chain.now c.args.host c.args.part.now c.args.part.now c.look.result d t.0) (sym c.in-Looking.is) (t.2 c.args.part.now))

pub returns-in-Next-clause-content : goal.returns-in-Next-clause-content
returns-in-Next-clause-content g c d tells = (
  d,
  tells,
  subst (λ s. ReadsIn s c.args.self c.args.chain.now c.args.host c.args.part.now c.args.part.now c.next.result d d) (sym c.in-Next.is)
      (next_turn c.args.self c.in-Next.pieces c.args.chain.now c.args.host c.args.part.now d c.next.result c.next.ensures),
)

pub returns-in-Reading-clause-content : goal.returns-in-Reading-clause-content
returns-in-Reading-clause-content g c d tells =
    let t = c.read.ensures.content d tells in
    let size : length c.read.new.piece ≡ 512 * count_of c.in-Reading.pieces = omega (arith, c.read.auto.piece, length-take {A = ℕ}, c.requires.part, c.length.ensures.value, c.length.ensures.few) in (
      t.0,
      t.1,
      subst (λ s. ReadsIn s c.args.self c.args.chain.now c.args.host c.args.part.now (c.read.new.piece ++ drop c.length.result c.args.part.now) c.read.result d t.0) (sym c.in-Reading.is)
          (in_front c.args.self c.in-Reading.pieces c.in-Reading.read c.args.chain.now c.args.host c.args.part.now c.read.new.piece (drop c.length.result c.args.part.now) c.length.result c.read.result d t.0 c.length.ensures.value size t.2),
    )
