use Rattle.std.proofs.Common.{◌≡◌, ℕ, ◌+◌, ◌-◌, ◌<◌, ◌≢◌, [], List, length, get_or, ap, ◌∙◌, arith}
use Rattle.std.specs.HashMap.{get}
use Rattle.memory_disk.specs.Cells.{cell_at, key_eq}
use Rattle.memory_disk.specs.declared.cell.Cell.{Cell}
use Rattle.memory_disk.proofs.Cells.{indexed_less, taken, taken_last, taken_moved}
use Rattle.memory_disk.proofs.sector_map.Sectors.take_cell.Goals as goal

none : Cell
none = record { key = (0, 0, 0); bytes = [] }

-- the cells after the last one came in the place of one
moved_cell : (cells after : List Cell) (i n : ℕ) → n ≡ length cells → ((d : Cell) → i + 1 < n → get_or after i d ≡ get_or cells (n - 1) d) → i + 1 < length cells → cell_at after i ≡ cell_at cells (length cells - 1)
unfolding none
moved_cell cells after i n is by less = by none (omega (arith, is, less)) ∙ ap (λ (m : ℕ). cell_at cells (m - 1)) is

other_cells : (cells after : List Cell) (i n : ℕ) → n ≡ length cells → ((k : ℕ) (d : Cell) → k ≢ i → k + 1 < n → get_or after k d ≡ get_or cells k d) → (j : ℕ) → j ≢ i → j + 1 < length cells → cell_at after j ≡ cell_at cells j
unfolding none
other_cells cells after i n is by j apart less = by j none apart (omega (arith, is, less))

pub invariant_of-self-clause-indexed : goal.invariant_of-self-clause-indexed
invariant_of-self-clause-indexed c =
    let cells = c.args.self.now.cells.items in
    let after = c.swap_remove.new.self.items in
    let all : c.args.self.now.cells.len ≡ length cells = omega (arith, c.args.self.now.cells.ok.0) in
    let len : length after + 1 ≡ length cells = omega (arith, c.swap_remove.ensures.len, c.swap_remove.new.self.ok.0, c.args.self.now.cells.ok.0) in
    let end : c.args.number ≡ length after = omega (arith, c.if-number-len.true, c.len.ensures, c.swap_remove.new.self.ok.0) in
    indexed_less cells after (get key_eq c.args.self.now.index) (get key_eq c.args.self.now.index) c.args.number c.args.self.now.indexed
    (taken_last cells after (get key_eq c.args.self.now.index) c.args.number len end (moved_cell cells after c.args.number _ all c.swap_remove.ensures.by_index.0) (other_cells cells after c.args.number _ all c.swap_remove.ensures.by_index.1) c.args.self.now.indexed)

pub invariant_of-self-2-clause-indexed : goal.invariant_of-self-2-clause-indexed
invariant_of-self-2-clause-indexed c =
    let cells = c.args.self.now.cells.items in
    let after = c.swap_remove.new.self.items in
    let all : c.args.self.now.cells.len ≡ length cells = omega (arith, c.args.self.now.cells.ok.0) in
    let len : length after + 1 ≡ length cells = omega (arith, c.swap_remove.ensures.len, c.swap_remove.new.self.ok.0, c.args.self.now.cells.ok.0) in
    let within : c.args.number < length after = omega (arith, c.if-number-len.false, c.len.ensures, c.swap_remove.new.self.ok.0, c.args.self.now.cells.ok.0, c.swap_remove.ensures.len, c.requires.there) in
    let key : c.key_at.result ≡ (cell_at after c.args.number).key = c.key_at.ensures ∙ ap (λ (cs : List Cell). (cell_at cs c.args.number).key) c.deref.ensures.value in
    indexed_less cells after (get key_eq c.args.self.now.index) (get key_eq c.name_cell.new.index) c.args.number c.args.self.now.indexed
    (taken_moved cells after (get key_eq c.args.self.now.index) (get key_eq c.name_cell.new.index) c.args.number c.key_at.result len within (moved_cell cells after c.args.number _ all c.swap_remove.ensures.by_index.0)
    (other_cells cells after c.args.number _ all c.swap_remove.ensures.by_index.1) key c.name_cell.ensures.names)

pub returns-clause-at : goal.returns-clause-at
returns-clause-at c = λ o f k.
    let cells = c.args.self.now.cells.items in
    let after = c.swap_remove.new.self.items in
    let all : c.args.self.now.cells.len ≡ length cells = omega (arith, c.args.self.now.cells.ok.0) in
    let len : length after + 1 ≡ length cells = omega (arith, c.swap_remove.ensures.len, c.swap_remove.new.self.ok.0, c.args.self.now.cells.ok.0) in
    let within : c.args.number < length after = omega (arith, c.if-number-len.false, c.len.ensures, c.swap_remove.new.self.ok.0, c.args.self.now.cells.ok.0, c.swap_remove.ensures.len, c.requires.there) in
    let key : c.key_at.result ≡ (cell_at after c.args.number).key = c.key_at.ensures ∙ ap (λ (cs : List Cell). (cell_at cs c.args.number).key) c.deref.ensures.value in
    taken cells after (get key_eq c.args.self.now.index) (get key_eq c.name_cell.new.index) c.args.number (o, f, k) c.args.self.now.indexed
    (taken_moved cells after (get key_eq c.args.self.now.index) (get key_eq c.name_cell.new.index) c.args.number c.key_at.result len within (moved_cell cells after c.args.number _ all c.swap_remove.ensures.by_index.0)
    (other_cells cells after c.args.number _ all c.swap_remove.ensures.by_index.1) key c.name_cell.ensures.names)
