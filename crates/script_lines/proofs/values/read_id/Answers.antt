use Rattle.script_lines.proofs.IdentifierLemmas.{id_found, id_missing}
use Rattle.script_lines.proofs.values.read_id.Goals as goal

pub returns-in_err-id : goal.returns-in_err-id
returns-in_err-id c = rw c.from_residual.ensures (id_missing c.args.word.now c.in_err-id.ensures.refused)

pub returns : goal.returns
returns c = id_found c.args.word.now c.in_ok-id.id.0 c.has_sixteen_bytes.ensures c.in_ok-id.ensures.read
