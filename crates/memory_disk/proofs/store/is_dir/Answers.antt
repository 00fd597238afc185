use Rattle.std.proofs.Common.{sym, ◌∙◌}
use Rattle.std.proofs.lemmas.Bool.{false≢true}
use Rattle.sd_names.specs.declared.place.Dir.TheVariants.{Root}
use Rattle.memory_disk.proofs.Contents.{dir_here, dir_past}
use Rattle.memory_disk.proofs.store.is_dir.Goals as goal

pub returns-then-is-2 : goal.returns-then-is-2
returns-then-is-2 c = sym (c.loop-made.invariant ∙ dir_here c.args.dir c.loop-made.made-index c.args.dirs.now Root c.loop-made-test.true (c.is-in-loop-made.ensures.0 c.if-is-2.true))

pub loop-made-preserved : goal.loop-made-preserved
loop-made-preserved c = c.loop-made.invariant ∙ dir_past c.args.dir c.loop-made.made-index c.args.dirs.now Root c.loop-made-test.true (λ e. false≢true (c.if-is-2.ensures.1 e))
