use Rattle.std.proofs.Common.{◌≡◌, ◌/◌, length, arith}
use Rattle.pool_session.specs.Fault.{IsFault}
use Rattle.pool_session.proofs.MachineLemmas.{front_read, reads_front}
use Rattle.pool_session.specs.Image.{file_of}
use Rattle.pool_session.proofs.machine.read_front.Goals as goal

pub returns-clause-content : goal.returns-clause-content
returns-clause-content g c d flat tells holds =
    let read = c.read.ensures.content d flat tells holds in
    let long : length c.read.new.part ≡ c.args.count = omega arith in (
      read.0,
      reads_front c.read.result (λ refusal. IsFault (g.D.SharedDisk.faults c.args.disk.now) (g.D.SharedDisk.faults c.read.new.disk) refusal)
          (c.args.at / 512) c.args.count flat c.read.new.part c.split_at_mut-front.result.1.now long read.1,
    )

pub returns-clause-read : goal.returns-clause-read
returns-clause-read g c =
    let content = g.D.SharedDisk.content in
    let long : length c.read.new.part ≡ c.args.count = omega arith in
    front_read c.read.result (content c.args.disk.now) (content c.read.new.disk) c.args.host c.args.count (file_of c.args.image.now) (c.args.at / 512) c.read.new.part c.split_at_mut-front.result.1.now long c.read.ensures.read
