use Rattle.std.proofs.Common.{◌+◌, arith}
use Rattle.place_writing.proofs.Pieces.{from_whole, is_piece, offset_whole}
use Rattle.write_planning.specs.Span.{first_of}
use Rattle.place_writing.proofs.places.whole_piece.Goals as goal

pub returns-clause-from : goal.returns-clause-from
returns-clause-from c =
    let s = c.args.span.now in
    let of = c.piece.ensures in
    let low = s.part.low in
    from_whole s.at s.length s.width (first_of s + c.args.index) c.piece.result (omega (arith, low)) s.part.whole of.some of.within of.place of.inside of.all c.requires.at

pub returns-clause-offset : goal.returns-clause-offset
returns-clause-offset c =
    let s = c.args.span.now in
    let of = c.piece.ensures in
    let low = s.part.low in
    offset_whole s.at s.length s.width (first_of s + c.args.index) c.piece.result (omega (arith, low)) s.part.whole of.some of.within of.place of.inside of.all c.requires.at

pub returns-clause-size : goal.returns-clause-size
returns-clause-size c =
    let s = c.args.span.now in
    let of = c.piece.ensures in
    let low = s.part.low in
    is_piece s.at s.length s.width (first_of s + c.args.index) c.piece.result (omega (arith, low)) s.part.whole of.some of.within of.place of.inside of.all c.requires.at c.requires.length s.part.few
