use Rattle.qcow_layer.proofs.Known.{longer_seen, untouched}
use Rattle.qcow_layer.proofs.laws.grown_files_are_seen.Goals as goal

pub returns-clause-untouched : goal.returns-clause-untouched
returns-clause-untouched c host count place sectors d e same seen = untouched host count place sectors d e same seen

pub returns-clause-grown : goal.returns-clause-grown
returns-clause-grown c host count size place sectors d e seen none grows = longer_seen host count size place sectors d e seen none grows
