use Rattle.whole_file.specs.Replace.{stage_of}
use Rattle.unsynced_laws.proofs.Unsynced.{replaced}
use Rattle.unsynced_laws.proofs.laws.replacements_leave_only_theirs.Goals as goal

pub returns : goal.returns
returns c r host faults text turn d e call = replaced r (stage_of r) host faults text turn d e call
