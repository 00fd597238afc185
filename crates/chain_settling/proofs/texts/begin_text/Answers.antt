use Rattle.std.proofs.Common.{List, sym, ap, ◌∙◌}
use Rattle.chain_records.specs.Records.{records_in}
use Rattle.chain_records.specs.declared.volume.Volume.{Volume}
use Rattle.chain_settling.proofs.Started.{begun_text, fit_text, never_without, same_chain}
use Rattle.chain_settling.proofs.Valid.{can_be_written}
use Rattle.chain_settling.proofs.texts.begin_text.Goals as goal

pub begin-write-requires : goal.begin-write-requires
begin-write-requires c = can_be_written c.in-Some.says.now (c.apply.ensures.valid c.args.id c.in-Some.says.now (ap (λ (xs : List Volume). records_in xs c.args.id) (sym c.records.ensures) ∙ sym c.in-Some.ensures))

pub returns-in-Some-clause-fit : goal.returns-in-Some-clause-fit
returns-in-Some-clause-fit c =
    fit_text c.args.chain c.apply.new.chain c.args.part c.args.at c.args.id c.in-Some.says.now c.begin-write.result c.requires.fit c.requires.place c.requires.inside c.apply.ensures.rest c.apply.ensures.ids c.apply.ensures.valid
    (ap (λ (xs : List Volume). records_in xs c.args.id) (sym c.records.ensures) ∙ sym c.in-Some.ensures) c.begin-write.ensures.text

pub returns-in-Some-clause-same : goal.returns-in-Some-clause-same
returns-in-Some-clause-same c = same_chain c.args.chain c.apply.new.chain c.apply.ensures.rest c.apply.ensures.ids c.apply.ensures.files

pub returns-in-Some-clause-begun : goal.returns-in-Some-clause-begun
returns-in-Some-clause-begun c =
    begun_text c.args.chain c.apply.new.chain c.args.part c.args.at c.args.id c.args.change c.in-Some.says.now c.begin-write.result c.apply.ensures.rest c.apply.ensures.ids c.apply.ensures.files c.apply.ensures.records
    (ap (λ (xs : List Volume). records_in xs c.args.id) (sym c.records.ensures) ∙ sym c.in-Some.ensures)
    (c.folder.result) c.version.result c.folder.ensures c.version.ensures c.begin-write.ensures.file c.begin-write.ensures.volatile c.begin-write.ensures.version c.begin-write.ensures.stage

pub returns-in-None-clause-fit : goal.returns-in-None-clause-fit
returns-in-None-clause-fit c = absurd (never_without c.args.chain c.apply.new.chain c.args.at c.args.id c.args.change c.requires.place c.apply.ensures.records (ap (λ (xs : List Volume). records_in xs c.args.id) (sym c.records.ensures) ∙ sym c.in-None.ensures))

pub returns-in-None-clause-same : goal.returns-in-None-clause-same
returns-in-None-clause-same c = same_chain c.args.chain c.apply.new.chain c.apply.ensures.rest c.apply.ensures.ids c.apply.ensures.files

pub returns-in-None-clause-begun : goal.returns-in-None-clause-begun
returns-in-None-clause-begun c = absurd (never_without c.args.chain c.apply.new.chain c.args.at c.args.id c.args.change c.requires.place c.apply.ensures.records (ap (λ (xs : List Volume). records_in xs c.args.id) (sym c.records.ensures) ∙ sym c.in-None.ensures))
