use Rattle.std.proofs.lemmas.List.{take-take}
use Rattle.std.proofs.Common.{length-take, ◌≡◌, ◌≤◌, List, ℕ, take, arith, sym, ◌∙◌}
use Rattle.whole_file.specs.Text.{before_zero}
use Rattle.whole_file.proofs.Reading.{text_in_room}
use Rattle.whole_file.proofs.read.read_text.Goals as goal

pub returns-then-length-gt-LONGEST-clause-content : goal.returns-then-length-gt-LONGEST-clause-content
returns-then-length-gt-LONGEST-clause-content g c d tells =
    let call = c.in-Ok.ensures.call d tells in
    (call.0, call.1, (call.2.0, (call.2.1, call.2.2, λ alone. (text_in_room c.args.host call.2.1 c.in-Ok.count c.args.into.now c.read_at.new.into alone (omega arith) (omega arith) call.2.3 call.2.4).long (omega (arith, c.text_length-length.ensures.value)))))

pub returns-else-length-gt-LONGEST-clause-content : goal.returns-else-length-gt-LONGEST-clause-content
returns-else-length-gt-LONGEST-clause-content g c d tells =
    let n : ℕ = c.text_length-length.result in
    let xs : List ℕ = c.read_at.new.into in
    let within : n ≤ c.in-Ok.count = omega (arith, c.text_length-length.ensures.bound, length-take c.in-Ok.count xs) in
    let whole : take n xs ≡ before_zero (take c.in-Ok.count xs) = sym (take-take n c.in-Ok.count xs within) ∙ c.text_length-length.ensures.front in
    let call = c.in-Ok.ensures.call d tells in
    (call.0, call.1, (call.2.0, (call.2.1, call.2.2, λ alone. whole ∙ (text_in_room c.args.host call.2.1 c.in-Ok.count c.args.into.now c.read_at.new.into alone (omega arith) (omega arith) call.2.3 call.2.4).short (omega (arith, c.text_length-length.ensures.value)))))
