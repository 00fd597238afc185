use Rattle.std.proofs.Common.{get_or, set, ap, ◌∙◌, arith}
use Rattle.std.proofs.lemmas.List.{get_or_default}
use Rattle.std.proofs.lemmas.List.Edits.{map_over_more}
use Rattle.sd_names.specs.declared.place.Dir.{Dir}
use Rattle.memory_disk.specs.Listing.{dir_moved}
use Rattle.memory_disk.proofs.listing.move_one.Goals as goal

pub loop-i-preserved : goal.loop-i-preserved
loop-i-preserved c =
    ap (λ (x : Dir). set c.loop-i.dirs c.loop-i.i x) c.moved_dir.ensures
    ∙ map_over_more (dir_moved c.args.from c.args.to) c.args.dirs.now c.loop-i.dirs c.loop-i.i (get_or c.loop-i.dirs c.loop-i.i _) c.loop-i-test.true c.loop-i.invariant
    (get_or_default c.loop-i.dirs c.loop-i.i _ _ (omega (arith, c.loop-i.auto.dirs, c.loop-i-test.true)))
