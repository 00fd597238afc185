use Rattle.std.proofs.Common.{◌∙◌, List, ap}
use Rattle.chain_records.specs.declared.volume.Volume.{Volume}
use Rattle.chain_records.specs.Records.{files_of, ids_of, records_in}
use Rattle.chain_records.specs.Rewriting.{naming}
use Rattle.chain_records.proofs.Changed.{at_some, one_changed, same_files, same_ids}
use Rattle.chain_records.proofs.records.VolumeRecords.write_parent.Goals as goal

pub returns-in-Some-clause-ids : goal.returns-in-Some-clause-ids
returns-in-Some-clause-ids c =
    let at = at_some c.args.self.now c.args.id.now c.in-Some.at c.in-Some.ensures.some in
    ap (λ (xs : List Volume). ids_of xs) (c.put_parent.ensures at.0 at.1) ∙ same_ids c.args.self.now c.in-Some.at at.0 (naming c.args.parent) at.1

pub returns-in-Some-clause-records : goal.returns-in-Some-clause-records
returns-in-Some-clause-records c = λ u.
    let at = at_some c.args.self.now c.args.id.now c.in-Some.at c.in-Some.ensures.some in
    ap (λ (xs : List Volume). records_in xs u) (c.put_parent.ensures at.0 at.1)
    ∙ one_changed c.args.self.now c.args.id.now c.in-Some.at at.0 (naming c.args.parent) c.in-Some.ensures.some at.1 u

pub returns-in-Some-clause-files : goal.returns-in-Some-clause-files
returns-in-Some-clause-files c =
    let at = at_some c.args.self.now c.args.id.now c.in-Some.at c.in-Some.ensures.some in
    ap (λ (xs : List Volume). files_of xs) (c.put_parent.ensures at.0 at.1) ∙ same_files c.args.self.now c.in-Some.at at.0 (naming c.args.parent) at.1
