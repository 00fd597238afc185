use Rattle.script_lines.proofs.DataLemmas.{written_ok, written_err, byte_of-ok, byte_of-err}
use Rattle.script_lines.proofs.data.decode_byte.Goals as goal

pub returns-in-Ok : goal.returns-in-Ok
returns-in-Ok c =
    byte_of-ok c.args.digits.now c.decode_to_slice.new.out (written_ok _ _ _ c.in-Ok.ensures.value)

pub returns-in-Err : goal.returns-in-Err
returns-in-Err c =
    byte_of-err c.args.digits.now c.in-Err.field-0 (written_err _ _ _ c.in-Err.ensures.value)
