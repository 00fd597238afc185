-- The text was written from the buffer's start on, and `EOF` behind it.
use Rattle.std.proofs.Common.{◌≡◌, ◌≤◌, ◌+◌, ◌++◌, ◌==◌, ℕ, List, length, take, refl, ap, ◌∙◌, arith, length-append}
use Rattle.std.proofs.lemmas.List.{take_at, length-take-le}
use Rattle.volume_meta.proofs.Joined.{take-front-four}
use Rattle.kv_text.specs.Written.{written, room}
use Rattle.volume_meta.specs.Text.{volume_text, first_lines, last_lines}
use Rattle.volume_meta.proofs.writing.write_into.Goals as goal
use Rattle.volume_meta.proofs.writing.write_into.Goals.{After-finish-len}

short : (c : After-finish-len) → c.finish-len.result + 4 ≤ 8192
short c = omega (arith, ap length c.new-writer.ensures.written, ap length c.new-writer.ensures.room)

pub overflow_add-len : goal.overflow_add-len
overflow_add-len c = omega (arith, short c)

whole : (c : After-finish-len) → take c.finish-len.result c.finish-len.new.self.0 ≡ first_lines (c.args.version == 5) c.args.volume.now ++ last_lines (c.args.version == 5) c.args.volume.now
whole c =
    let w = c.push_last.new.writer in
    let first = rw c.new-writer.ensures.written at c.push_first.ensures.written in
    rw (c.finish-len.ensures.buffer, c.finish-len.ensures.len) (take_at (written w) (room w) (length (written w)) refl ∙ c.push_last.ensures.written ∙ ap (λ (l : List ℕ). l ++ last_lines (c.args.version == 5) c.args.volume.now) first)

pub returns-clause-text : goal.returns-clause-text
unfolding volume_text
returns-clause-text c =
    let w = c.push_last.new.writer in let n = c.finish-len.result in let xs = c.finish-len.new.self.0 in let ys = c.copy_from_slice.new.self in
    let long : n ≤ length xs = omega (arith, ap length c.finish-len.ensures.buffer, length-append (written w) (room w)) in
    let four : length ys ≡ 4 = ap length c.copy_from_slice.ensures.after in
    take-front-four n (take n xs) ys _ _ (length-take-le n xs long) four (whole (goal.at.returns-clause-text c).After-finish-len) ∙ rw c.copy_from_slice.ensures.after refl
