use Rattle.std.proofs.Common.{◌+◌, ◌-◌, length, arith}
use Rattle.byte_parts.proofs.Parts.{put_mid-front}
use Rattle.byte_parts.proofs.put.Goals as goal

pub returns-clause-part : goal.returns-clause-part
returns-clause-part c = λ front left zeros h all e.
    let at = c.args.at in let part = c.args.part.now in
    rw (e, c.copy_from_slice.ensures.after) (put_mid-front front part at (at + length part - at) left zeros h (omega arith) all)
