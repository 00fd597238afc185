use Rattle.chain_settling.proofs.settling.step_stage.Goals as goal

pub returns-in-Tidying-clause-content : goal.returns-in-Tidying-clause-content
returns-in-Tidying-clause-content g c d tells = rw c.in-Tidying.is (c.tidy.ensures.content d tells)
