use Rattle.std.proofs.Common.{◌≡◌, true, not, is_some, ap, sym, ◌∙◌, refl, arith}
use Rattle.memory_disk.specs.Sectors.{sector_at}
use Rattle.memory_disk.specs.Store.{is_at}
use Rattle.memory_disk.proofs.Cells.{at_most_one}
use Rattle.memory_disk.proofs.Within.{filter_no_more}
use Rattle.memory_disk.proofs.store.Store.has_sector_room.Goals as goal
use Rattle.memory_disk.proofs.store.Store.has_sector_room.Goals.{then-has_room, else-has_room}

pub returns-then-is_some-clause-room : goal.returns-then-is_some-clause-room
returns-then-is_some-clause-room c = λ _.
    let fewer = filter_no_more (λ v. not (is_at c.args.number c.args.k v)) c.args.self.now.log.items _ refl in
    elim c.if-has_room.branch [
      | then-has_room w ↦ (let one = at_most_one (is_some (sector_at c.args.self.now.stable 0 c.args.number c.args.k)) in
          omega (arith, fewer, one, c.has_room.ensures.0 w.if-has_room.true))
      | else-has_room w ↦ (
          let there : is_some (sector_at c.args.self.now.stable 0 c.args.number c.args.k) ≡ true = ap is_some (sym w.get.ensures) ∙ sym w.is_some.ensures ∙ sym w.value-is ∙ c.if-is_some.true in
          rw there (omega (arith, fewer, c.args.self.now.used)))
    ]
