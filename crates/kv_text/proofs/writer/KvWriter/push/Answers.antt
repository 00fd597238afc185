use Rattle.std.proofs.Common.{sym, arith}
use Rattle.kv_text.proofs.Line.{length-line, drop-line}
use Rattle.kv_text.proofs.writer.KvWriter.push.Goals as goal

pub append-requires-3 : goal.append-requires-3
append-requires-3 c = omega (arith, length-line c.args.key.now c.args.value.now)

pub append-requires-4 : goal.append-requires-4
append-requires-4 c = omega (arith, length-line c.args.key.now c.args.value.now)

pub returns-clause-room : goal.returns-clause-room
returns-clause-room c =
    rw (c.append-4.ensures.room, c.append-3.ensures.room, c.append-2.ensures.room, c.append.ensures.room) (sym (drop-line c.args.key.now c.args.value.now _))
