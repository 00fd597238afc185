use Rattle.std.proofs.Common.{◌≡◌, ◌/◌, length, arith}
use Rattle.qcow_layer.proofs.Pieces.{sector_seen}
use Rattle.qcow_layer.proofs.reading.read_sector.Goals as goal

pub returns-in-Ok-clause-content : goal.returns-in-Ok-clause-content
returns-in-Ok-clause-content g c d tells =
    let call = c.in-Ok.ensures.call d tells in
    let len : length c.read_at.new.into ≡ 512 = omega arith in
    (call.0, call.1, (call.2.0, sector_seen c.args.host c.args.place (c.args.at / 512) c.in-Ok.field-0 d call.2.1 c.read_at.new.into call.2.2 len call.2.3 call.2.4))
