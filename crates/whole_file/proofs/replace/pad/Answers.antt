use Rattle.std.proofs.Common.{◌*◌, ◌++◌, take, length, List, ℕ, ap, ◌∙◌, arith}
use borrow.Rule.Slice.PartMut.{post_of}
use Rattle.whole_file.proofs.Texts.{padded_in_room}
use Rattle.whole_file.proofs.replace.pad.Goals as goal

pub returns : goal.returns
returns c =
    ap (λ (front : List ℕ). take (c.div_ceil.result * 512) (front ++ post_of 0 (length c.args.text.now) c.args.room.now)) (c.copy_from_slice.ensures.after)
    ∙ padded_in_room c.args.text.now c.args.room.now (c.div_ceil.result * 512) c.requires.fits c.requires.zeros (omega (arith, c.div_ceil.ensures))
