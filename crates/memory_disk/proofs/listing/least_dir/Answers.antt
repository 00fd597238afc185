use Rattle.std.proofs.Common.{◌≡◌, ◌+◌, ◌++◌, ◌∷◌, [], List, take, get_or, sym, subst, take_all, arith}
use Rattle.std.proofs.lemmas.List.{take_more}
use Rattle.sd_names.specs.declared.place.Dir.{Dir}
use Rattle.memory_disk.specs.Listing.{IsLeastDir}
use Rattle.memory_disk.proofs.listing.least_dir.Goals as goal

pub loop-made-preserved : goal.loop-made-preserved
loop-made-preserved c =
    let more : take (c.loop-made.made-index + 1) c.args.dirs.now ≡ take c.loop-made.made-index c.args.dirs.now ++ get_or c.args.dirs.now c.loop-made.made-index _ ∷ [] = take_more c.args.dirs.now c.loop-made.made-index _ c.loop-made-test.true in
    subst (λ (ds : List Dir). IsLeastDir ds c.args.dir c.args.after c.with_dir-least.result) (sym more) (c.with_dir-least.ensures (take c.loop-made.made-index c.args.dirs.now) c.loop-made.invariant)

pub returns : goal.returns
returns c =
    subst (λ (ds : List Dir). IsLeastDir ds c.args.dir c.args.after c.loop-made.least) (take_all c.loop-made.made-index c.args.dirs.now (omega arith)) c.loop-made.invariant
