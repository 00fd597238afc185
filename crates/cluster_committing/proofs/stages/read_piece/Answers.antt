use Rattle.std.proofs.Common.{ℕ, Option, ◌∙◌, refl, subst}
use Rattle.sd_names.specs.declared.turn.Turn.TheVariants.{Done}
use Rattle.commit_reading.specs.Reading.{IsNextOf, ReadsOn, from_of, number_of, sub_of}
use Rattle.commit_reading.specs.declared.pieces.Pieces.{Pieces}
use Rattle.guest_writing.specs.Guest as guest
use Rattle.cluster_committing.proofs.Steps.{read_ended, read_more, read_none, read_some}
use Rattle.cluster_committing.proofs.stages.read_piece.Goals as goal

pub returns-in-More-clause-content : goal.returns-in-More-clause-content
returns-in-More-clause-content g c d tells =
    let t = c.in-More.ensures.content d tells in
    (t.0, t.1, λ room. read_more c.args.work c.in-More.next c.args.sub c.args.cluster c.args.chain.now c.args.chain.now c.args.host c.args.part.now c.step.new.part room d t.0 c.requires.way refl c.in-More.ensures.way t.2)

pub returns-in-Done-None-clause-content : goal.returns-in-Done-None-clause-content
returns-in-Done-None-clause-content g c d tells =
    let t = c.in-Done-None.ensures.content d tells in (
      t.0,
      t.1,
      λ room. read_none c.args.work tt c.args.sub c.args.cluster c.args.chain.now c.args.chain.now c.args.host c.args.part.now c.step.new.part room d t.0 c.requires.way refl
          (subst (λ (o : Option Pieces). ReadsOn c.args.work c.args.chain.now c.args.host c.args.part.now c.step.new.part (Done o) d t.0) c.in-Done-None.field-0-is t.2),
    )

pub returns-in-Done-Some-clause-content : goal.returns-in-Done-Some-clause-content
returns-in-Done-Some-clause-content g c d tells =
    let t = c.in-Done-Some.ensures.content d tells in (
      t.0,
      t.1,
      λ room. read_some c.args.work c.in-Done-Some.pieces c.begin-writing.result c.args.sub c.args.cluster c.args.chain.now c.args.chain.now c.args.host c.args.part.now c.step.new.part room d t.0 c.requires.way refl
          (c.step.auto.part ∙ c.requires.part)
          (subst (λ (o : Option Pieces). IsNextOf (from_of c.args.work c.args.chain.now) (sub_of c.args.work) (number_of c.args.work) c.args.chain.now o) c.in-Done-Some.field-0-is c.in-Done-Some.ensures.way)
          (subst (λ (n : ℕ). guest.IsBegun c.args.sub.base n c.begin-writing.result) c.at.ensures c.begin-writing.ensures)
          (subst (λ (o : Option Pieces). ReadsOn c.args.work c.args.chain.now c.args.host c.args.part.now c.step.new.part (Done o) d t.0) c.in-Done-Some.field-0-is t.2),
    )

pub returns-in-Ended-clause-content : goal.returns-in-Ended-clause-content
returns-in-Ended-clause-content g c d tells =
    let t = c.in-Ended.ensures.content d tells in
    (t.0, t.1, λ room. read_ended c.args.work tt tt c.in-Ended.refusal c.args.sub c.args.cluster c.args.chain.now c.args.chain.now c.args.host c.args.part.now c.step.new.part room d t.0 c.requires.way refl t.2)
