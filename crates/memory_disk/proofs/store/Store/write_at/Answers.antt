use Rattle.std.proofs.Common.{◌≡◌, ◌/◌, true, length, Some, refl, ap, subst, ◌∙◌, arith, length-append}
use Rattle.shared_disk.specs.Content.{Content}
use Rattle.shared_disk.specs.Calls.{IsPut, wrote}
use Rattle.memory_disk.specs.Held.{held}
use Rattle.memory_disk.specs.Store.{found, file_of}
use Rattle.memory_disk.proofs.Contents.{file_at, logs_more, is_written, same_content}
use Rattle.memory_disk.proofs.Slots.{found_slot}
use Rattle.memory_disk.proofs.store.Store.write_at.Goals as goal

pub returns-then-file-first-clause-call : goal.returns-then-file-first-clause-call
returns-then-file-first-clause-call c =
    let at : found c.args.place 0 c.args.self.now.files.slots.items ≡ Some c.in-Some.found = cc in (
      refl,
      file_of c.args.self.now.stable c.args.self.now.log.items c.in-Some.found.0 c.in-Some.found.1,
      file_at c.args.self.now.dirs.items c.args.self.now.files.slots.items c.args.self.now.stable c.args.self.now.log.items c.args.place at,
      c.if-file-first.true,
    )

pub write_sector-requires-clause-there : goal.write_sector-requires-clause-there
write_sector-requires-clause-there c =
    let at : found c.args.place 0 c.args.self.now.files.slots.items ≡ Some c.in-Some.found = cc in
    let there = (found_slot c.args.place c.args.self.now.files.slots.items c.in-Some.found.0 c.in-Some.found.1 at).0 in
    rw (c.loop-i.invariant.files, there) (omega arith)

pub loop-i-preserved : goal.loop-i-preserved
loop-i-preserved c = record {
  dirs = c.write_sector.ensures.dirs ∙ c.loop-i.invariant.dirs;
  files = c.write_sector.ensures.files ∙ c.loop-i.invariant.files;
  stable = c.write_sector.ensures.stable ∙ c.loop-i.invariant.stable;
  room = c.write_sector.ensures.room ∙ c.loop-i.invariant.room;
  logged = omega (arith, simp length-append at (ap length c.write_sector.ensures.log.1), c.loop-i.invariant.logged);
  loose = logs_more c.args.host c.in-Some.found.0 (c.args.at / 512) c.loop-i.i c.args.bytes.now _ c.args.self.now.log.items c.loop-i.self.log.items c.write_sector.new.self.log.items c.write_sector.ensures.log.0 c.write_sector.ensures.log.1 c.sector.ensures c.loop-i.invariant.loose;
}

pub returns-clause-call : goal.returns-clause-call
returns-clause-call c =
    let at : found c.args.place 0 c.args.self.now.files.slots.items ≡ Some c.in-Some.found = cc in
    let all : c.loop-i.i ≡ length c.args.bytes.now / 512 = omega arith in
    let file = file_of c.args.self.now.stable c.args.self.now.log.items c.in-Some.found.0 c.in-Some.found.1 in (
      file,
      file_at c.args.self.now.dirs.items c.args.self.now.files.slots.items c.args.self.now.stable c.args.self.now.log.items c.args.place at,
      omega arith,
      subst (λ (e : Content). IsPut (held c.args.self.now) c.args.place (Some (wrote (λ _. true) c.args.host (c.args.at / 512) c.args.bytes.now file)) e)
          (same_content c.args.self.now.dirs.items c.loop-i.self.dirs.items c.args.self.now.files.slots.items c.loop-i.self.files.slots.items c.args.self.now.stable c.loop-i.self.stable c.loop-i.self.log.items
          (ap (λ v. v.items) c.loop-i.invariant.dirs) (ap (λ v. v.slots.items) c.loop-i.invariant.files) c.loop-i.invariant.stable)
          (is_written c.args.self.now.dirs.items c.args.self.now.files.slots.items c.args.self.now.stable c.args.self.now.log.items c.loop-i.self.log.items c.args.place c.in-Some.found.0 c.in-Some.found.1
          c.args.host (c.args.at / 512) c.loop-i.i c.args.bytes.now c.args.self.now.files.apart at all c.loop-i.invariant.loose),
    )
