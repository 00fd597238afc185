use Rattle.std.proofs.Common.{List, Option, ap, sym, subst, subst₂, ◌∙◌}
use Rattle.memory_disk.specs.Settled.{IsFreshSlot, IsSettling}
use Rattle.memory_disk.specs.declared.entry.FileEntry.{FileEntry}
use Rattle.memory_disk.specs.declared.entry.Write.{Write}
use Rattle.memory_disk.proofs.Settling.{settling_more}
use Rattle.memory_disk.specs.declared.files.Files.{Files}
use Rattle.memory_disk.proofs.Turning.{taken_more}
use Rattle.memory_disk.proofs.store.Store.fill_file.Goals as goal

pub fill_picked-requires-clause-fresh : goal.fill_picked-requires-clause-fresh
fill_picked-requires-clause-fresh c = subst (λ (fs : Files). IsFreshSlot c.args.host c.args.number fs.slots.items) (sym c.loop-k.invariant.files) c.requires.fresh

pub loop-k-preserved : goal.loop-k-preserved
loop-k-preserved c = record {
  dirs = c.fill_picked.ensures.dirs ∙ c.loop-k.invariant.dirs;
  files = c.fill_picked.ensures.files ∙ c.loop-k.invariant.files;
  log = c.fill_picked.ensures.log ∙ c.loop-k.invariant.log;
  room = c.fill_picked.ensures.room ∙ c.loop-k.invariant.room;
  at = settling_more c.args.host c.args.self.now.files.slots.items c.args.self.now.log.items c.args.self.now.stable c.loop-k.self.stable c.fill_picked.new.self.stable c.loop-k.invariant.at
      (subst₂ (λ (slots : List (Option FileEntry)) (log : List Write). IsSettling c.args.host slots log c.loop-k.self.stable c.fill_picked.new.self.stable) (ap (λ (fs : Files). fs.slots.items) c.loop-k.invariant.files) (ap (λ v. v.items) c.loop-k.invariant.log) c.fill_picked.ensures.at);
  picks = taken_more _ _ _ c.loop-k.invariant.picks c.fill_picked.ensures.picks;
}

pub returns-then-not-fill_picked-clause-picks : goal.returns-then-not-fill_picked-clause-picks
returns-then-not-fill_picked-clause-picks c = taken_more _ _ _ c.loop-k.invariant.picks c.fill_picked.ensures.picks
