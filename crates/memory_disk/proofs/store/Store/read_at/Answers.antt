use Rattle.std.proofs.Common.{◌≡◌, ◌-◌, ◌*◌, ◌/◌, ℕ, min, length, drop, Some, refl, ◌∙◌, inl, below_more, subst, arith}
use Rattle.memory_disk.specs.Store.{found, file_of}
use Rattle.memory_disk.proofs.Contents.{file_at}
use Rattle.memory_disk.proofs.Pieces.{drop_more}
use Rattle.memory_disk.proofs.store.Store.read_at.Goals as goal
use Rattle.memory_disk.proofs.store.Store.read_at.Goals.{then-left-room, else-left-room}

pub loop-i-preserved : goal.loop-i-preserved
loop-i-preserved c = record {
  sectors = below_more _ _ (λ k h. c.put_sector.ensures.others k h ∙ c.loop-i.invariant.sectors k h) (c.put_sector.ensures.here ∙ c.seen.ensures);
  rest = c.put_sector.ensures.rest ∙ drop_more c.loop-i.i c.loop-i.into c.args.into.now c.loop-i.invariant.rest;
}

pub returns-clause-call : goal.returns-clause-call
returns-clause-call c =
    let at : found c.args.place 0 c.args.self.now.files.slots.items ≡ Some c.in-Some.found = cc in
    let end : c.loop-i.i ≡ c.if-left-room.count = omega arith in
    let count : 512 * c.if-left-room.count ≡ min (length c.args.into.now) (512 * (c.in-Some.found.1.size - c.args.at / 512)) =
    elim c.if-left-room.branch [ then-left-room w ↦ omega arith | else-left-room w ↦ omega arith ] in (
      refl,
      file_of c.args.self.now.stable c.args.self.now.log.items c.in-Some.found.0 c.in-Some.found.1,
      file_at c.args.self.now.dirs.items c.args.self.now.files.slots.items c.args.self.now.stable c.args.self.now.log.items c.args.place at,
      count,
      record {
        sectors = λ k h. inl (c.loop-i.invariant.sectors k (omega arith));
        rest = subst (λ (n : ℕ). drop (512 * n) c.loop-i.into ≡ drop (512 * n) c.args.into.now) end c.loop-i.invariant.rest;
      },
    )
