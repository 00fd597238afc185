use Rattle.std.proofs.Common.{take, drop, slice_index, arith, sym}
use Rattle.std.proofs.lemmas.List.{length-take-le}
use Rattle.hex.specs.Hex.{encode_lower}
use Rattle.script_lines.specs.Printed.{run, piece_text, printed, printed_behind}
use Rattle.script_lines.proofs.PrintedLemmas.{run_printed, digits_printed, pushed}
use Rattle.script_lines.proofs.printed.push_piece.Goals as goal

pub returns-then-run-gt0-clause-items : goal.returns-then-run-gt0-clause-items
returns-then-run-gt0-clause-items c =
    let bytes = c.args.bytes.now in
    let size = c.run_length-run.result in
    pushed c.args.text.now.items c.push_run.new.text.items (piece_text (run size (slice_index bytes 0)))
    (printed_behind (drop size bytes)) (printed bytes) c.push_run.ensures.items
    (run_printed bytes size c.requires.whole c.if-run-gt0.true c.run_length-run.ensures.within c.run_length-run.ensures.run)

pub slice_bounds-push_digits-end : goal.slice_bounds-push_digits-end
slice_bounds-push_digits-end c =
    sym (length-take-le 512 c.args.bytes.now (omega (arith, c.requires.whole, c.requires.some)))

pub push_digits-requires-clause-whole : goal.push_digits-requires-clause-whole
push_digits-requires-clause-whole c =
    length-take-le 512 c.args.bytes.now (omega (arith, c.requires.whole, c.requires.some))

pub returns-clause-items : goal.returns-clause-items
returns-clause-items c =
    let bytes = c.args.bytes.now in
    pushed c.args.text.now.items c.push_digits.new.text.items (encode_lower (take 512 bytes)) (printed_behind (drop 512 bytes))
    (printed bytes) c.push_digits.ensures.items
    (digits_printed bytes c.requires.whole c.requires.some (omega (arith, c.run_length-run.ensures.run, c.if-run-gt0.false)))
