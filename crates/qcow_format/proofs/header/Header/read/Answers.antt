use Rattle.std.proofs.Common.{arith}
use Rattle.qcow_format.proofs.Accepted.{read_is_header}
use Rattle.qcow_format.proofs.header.Header.read.Goals as goal

pub returns-clause-sound : goal.returns-clause-sound
returns-clause-sound c =
    read_is_header c.args.head.now c.header_in.result (λ i. omega (arith, c.type_inv.head i)) c.header_in.ensures
