use Rattle.std.proofs.Common.{◌≡◌, ℕ, List, Option, Some, None, length, if◌then◌else◌, ap, subst, ◌∙◌, arith}
use Rattle.std.specs.HashMap.{get}
use Rattle.memory_disk.specs.Cells.{key_eq}
use Rattle.memory_disk.specs.Sectors.{sector_at}
use Rattle.memory_disk.proofs.Cells.{added, indexed_more, pushed_here, pushed_len, pushed_others}
use Rattle.memory_disk.proofs.sector_map.Sectors.add.Goals as goal

pub invariant_of-self-clause-indexed : goal.invariant_of-self-clause-indexed
invariant_of-self-clause-indexed c =
    let before = c.make_room.new.self.cells.items in
    let end : c.len-number.result ≡ length before = omega (arith, c.len-number.ensures, c.make_room.new.self.cells.ok.0) in
    let names = subst (λ (i : ℕ). (q : ℕ × ℕ × ℕ) → get key_eq c.name_cell.new.index q ≡ (if key_eq c.args.key q then Some i else get key_eq c.make_room.new.self.index q)) end c.name_cell.ensures.names in
    let none : sector_at c.make_room.new.self c.args.key.0 c.args.key.1 c.args.key.2 ≡ None = c.make_room.ensures.at c.args.key.0 c.args.key.1 c.args.key.2 ∙ c.requires.none in
    indexed_more before c.push_reserved.new.self.items (get key_eq c.make_room.new.self.index) (get key_eq c.name_cell.new.index) c.args.key c.args.bytes.now c.make_room.new.self.indexed none
    (pushed_len before c.push_reserved.new.self.items _ c.push_reserved.ensures.items) (pushed_here before c.push_reserved.new.self.items _ c.push_reserved.ensures.items)
    (pushed_others before c.push_reserved.new.self.items _ c.push_reserved.ensures.items) names

pub returns-clause-at : goal.returns-clause-at
returns-clause-at c = λ o f k.
    let before = c.make_room.new.self.cells.items in
    let end : c.len-number.result ≡ length before = omega (arith, c.len-number.ensures, c.make_room.new.self.cells.ok.0) in
    let names = subst (λ (i : ℕ). (q : ℕ × ℕ × ℕ) → get key_eq c.name_cell.new.index q ≡ (if key_eq c.args.key q then Some i else get key_eq c.make_room.new.self.index q)) end c.name_cell.ensures.names in
    added before c.push_reserved.new.self.items (get key_eq c.make_room.new.self.index) (get key_eq c.name_cell.new.index) c.args.key (o, f, k) c.args.bytes.now
    (pushed_len before c.push_reserved.new.self.items _ c.push_reserved.ensures.items) (pushed_here before c.push_reserved.new.self.items _ c.push_reserved.ensures.items)
    (pushed_others before c.push_reserved.new.self.items _ c.push_reserved.ensures.items) (names (o, f, k))
    ∙ ap (λ (v : Option (List ℕ)). if key_eq c.args.key (o, f, k) then Some c.args.bytes.now else v) (c.make_room.ensures.at o f k)
