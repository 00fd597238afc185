use Rattle.qcow_format.proofs.Again.{header_again}
use Rattle.qcow_format.proofs.New.{new_header_again}
use Rattle.qcow_format.proofs.header.headers_read_again.Goals as goal

pub returns-clause-shaped : goal.returns-clause-shaped
returns-clause-shaped c = header_again

pub returns-clause-fresh : goal.returns-clause-fresh
returns-clause-fresh c = new_header_again
