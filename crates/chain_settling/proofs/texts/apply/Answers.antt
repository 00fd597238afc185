use Rattle.chain_settling.proofs.Valid.{valid_changed}
use Rattle.chain_settling.specs.declared.texts.Change.TheVariants.{Parent, Voltype}
use Rattle.chain_settling.proofs.texts.apply.Goals as goal

pub returns-in-Parent-clause-valid : goal.returns-in-Parent-clause-valid
returns-in-Parent-clause-valid c = valid_changed c.args.chain.now c.write_parent.new.self c.args.id.now (Parent c.in-Parent.up) c.has_sixteen_bytes.ensures c.requires c.write_parent.ensures.records

pub returns-in-Voltype-clause-valid : goal.returns-in-Voltype-clause-valid
returns-in-Voltype-clause-valid c = valid_changed c.args.chain.now c.write_voltype.new.self c.args.id.now (Voltype c.in-Voltype.voltype) tt c.requires c.write_voltype.ensures.records
