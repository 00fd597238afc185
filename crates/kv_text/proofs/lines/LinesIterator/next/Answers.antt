-- The lemmas of `Steps` say what the first line of a text leaves.
use Rattle.std.proofs.Common.{◌≡◌, ◌∷◌, ◌∙◌, ap, sym, refl, rules, true, false}
use Rattle.kv_text.specs.Text.{is_eof, item_of, items_from, next_number, lines}
use Rattle.kv_text.specs.Left.{Left}
use Rattle.kv_text.proofs.Steps.{items-eof, closed-eof, items-next, closed-next}
use Rattle.kv_text.proofs.lines.LinesIterator.next.Goals as goal
use Rattle.kv_text.proofs.lines.LinesIterator.next.Goals.{After-read_line, After-eq}

pub returns-then-eq-clause-steps : goal.returns-then-eq-clause-steps
returns-then-eq-clause-steps c =
    let inside = c.loop-self.self-inside in
    let e = rw c.as_slice.ensures at c.eq.ensures in
    let eof : is_eof c.first_line.result.0.now ≡ true = sym e ∙ c.if-eq.true in
    let none = items-eof inside.rest.now c.first_line.result.0.now inside.number inside.ended c.args.self.now c.loop-self.invariant c.first_line.ensures.line eof in
    let closed = closed-eof inside.rest.now c.first_line.result.0.now inside.number inside.ended c.args.self.now c.loop-self.invariant c.first_line.ensures.line eof in
    (none, refl, sym closed, sym closed)

other : (c : After-read_line) → is_eof c.first_line.result.0.now ≡ false
other c = let e = rw c.as_slice.ensures at c.eq.ensures in sym e ∙ c.if-eq.false

next_item : (c : After-read_line) → c.args.self.now.items ≡ item_of c.loop-self.self-inside.number c.first_line.result.0.now ∷ items_from (next_number c.loop-self.self-inside.number) (lines c.first_line.result.1.now)
next_item c =
    let inside = c.loop-self.self-inside in
    items-next inside.rest.now c.first_line.result.0.now c.first_line.result.1.now inside.number inside.ended c.args.self.now c.loop-self.invariant c.first_line.ensures.line c.first_line.ensures.rest (other c) (sym c.is_empty-in-loop-self.ensures ∙ c.if-not-is_empty.true)

pub returns-then-not-is_empty-clause-steps : goal.returns-then-not-is_empty-clause-steps
returns-then-not-is_empty-clause-steps c =
    let inside = c.loop-self.self-inside in
    let closed = closed-next inside.rest.now c.first_line.result.0.now c.first_line.result.1.now inside.number inside.ended c.args.self.now c.loop-self.invariant c.first_line.ensures.line c.first_line.ensures.rest (other c) in
    (rw (c.read_line.ensures, c.saturating_add-self-inside.ensures) (next_item c), closed, ap (λ (l : Left). l.ended) c.loop-self.invariant)

pub returns-then-not-is_empty-clause-goes : goal.returns-then-not-is_empty-clause-goes
returns-then-not-is_empty-clause-goes c =
    let e = rw (← c.saturating_add-self-inside.ensures) at (next_item c) in search rules
