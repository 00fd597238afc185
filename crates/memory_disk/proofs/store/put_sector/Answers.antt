use Rattle.std.proofs.Common.{◌≡◌, ◌∙◌, length, arith, ap}
use Rattle.memory_disk.proofs.Pieces.{put_here, put_others, put_rest}
use Rattle.memory_disk.proofs.store.put_sector.Goals as goal

pub returns-clause-here : goal.returns-clause-here
returns-clause-here c =
    let len : length c.copy_from_slice.new.self ≡ 512 = ap length c.copy_from_slice.ensures.after ∙ c.told-bytes in
    put_here c.args.k c.args.into.now c.copy_from_slice.new.self _ c.requires len ∙ c.copy_from_slice.ensures.after

pub returns-clause-others : goal.returns-clause-others
returns-clause-others c = λ i h. put_others c.args.k c.args.into.now c.copy_from_slice.new.self _ i c.requires h

pub returns-clause-rest : goal.returns-clause-rest
returns-clause-rest c =
    let len : length c.copy_from_slice.new.self ≡ 512 = ap length c.copy_from_slice.ensures.after ∙ c.told-bytes in
    put_rest c.args.k c.args.into.now c.copy_from_slice.new.self _ c.requires len (omega arith)
