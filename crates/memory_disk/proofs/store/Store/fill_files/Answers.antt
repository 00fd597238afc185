use Rattle.std.proofs.Common.{List, Option, ap, subst₂, ◌∙◌}
use Rattle.memory_disk.specs.Settled.{IsSettling}
use Rattle.memory_disk.specs.declared.entry.FileEntry.{FileEntry}
use Rattle.memory_disk.specs.declared.entry.Write.{Write}
use Rattle.memory_disk.specs.declared.files.Files.{Files}
use Rattle.memory_disk.proofs.Settling.{settling_more}
use Rattle.memory_disk.proofs.Turning.{taken_more}
use Rattle.memory_disk.proofs.store.Store.fill_files.Goals as goal

pub loop-number-preserved : goal.loop-number-preserved
loop-number-preserved c = record {
  dirs = c.fill_number.ensures.dirs ∙ c.loop-number.invariant.dirs;
  files = c.fill_number.ensures.files ∙ c.loop-number.invariant.files;
  log = c.fill_number.ensures.log ∙ c.loop-number.invariant.log;
  room = c.fill_number.ensures.room ∙ c.loop-number.invariant.room;
  at = settling_more c.args.host c.args.self.now.files.slots.items c.args.self.now.log.items c.args.self.now.stable c.loop-number.self.stable c.fill_number.new.self.stable c.loop-number.invariant.at
      (subst₂ (λ (slots : List (Option FileEntry)) (log : List Write). IsSettling c.args.host slots log c.loop-number.self.stable c.fill_number.new.self.stable) (ap (λ (fs : Files). fs.slots.items) c.loop-number.invariant.files) (ap (λ v. v.items) c.loop-number.invariant.log) c.fill_number.ensures.at);
  picks = taken_more _ _ _ c.loop-number.invariant.picks c.fill_number.ensures.picks;
}
