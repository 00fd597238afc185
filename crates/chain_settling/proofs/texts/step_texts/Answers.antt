use Rattle.std.proofs.Common.{refl}
use Rattle.chain_settling.proofs.Begins.{list_ends, volume_changes, volume_stays}
use Rattle.chain_settling.specs.declared.stages.Part.TheVariants.{Parents, Types}
use Rattle.chain_settling.proofs.texts.step_texts.Goals as goal

pub returns-in-Parents-clause-content : goal.returns-in-Parents-clause-content
returns-in-Parents-clause-content c = rw c.in-Parents.is (list_ends c.args.chain Parents c.args.at _ c.in-End.ensures.work refl)

pub returns-in-Types-clause-content : goal.returns-in-Types-clause-content
returns-in-Types-clause-content c = rw c.in-Types.is (list_ends c.args.chain Types c.args.at _ c.in-End.ensures.work refl)

pub returns-in-Stays-clause-content : goal.returns-in-Stays-clause-content
returns-in-Stays-clause-content c = volume_stays c.args.chain c.args.part c.args.at c.in-Stays.field-0 c.in-Stays.ensures.work.1 c.in-Stays.ensures.work.2

pub returns-in-Changes-clause-content : goal.returns-in-Changes-clause-content
returns-in-Changes-clause-content c =
    volume_changes c.args.chain c.args.part c.args.at c.in-Changes.id c.in-Changes.change c.begin_text.result c.in-Changes.ensures.work.1 c.in-Changes.ensures.work.2 c.begin_text.ensures.fit c.begin_text.ensures.begun
