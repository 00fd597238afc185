use Rattle.std.proofs.Common.{◌≡◌, ℕ, length, arith}
use Rattle.std.proofs.lemmas.List.{length-take, length-drop}
use Rattle.chain_reading.proofs.Sectors.{written_elsewhere, written_here}
use Rattle.cluster_filling.proofs.laying.copy_sector.Goals as goal

pub returns-clause-here : goal.returns-clause-here
returns-clause-here c =
    let len : length c.copy_from_slice.new.self ≡ 512 = omega (arith, c.requires.within, c.copy_from_slice.ensures.len, length-take {A = ℕ}, length-drop {A = ℕ}) in
    written_here c.args.k c.args.m c.args.piece.now c.copy_from_slice.new.self c.args.bytes.now c.requires.within len c.copy_from_slice.ensures.after

pub returns-clause-others : goal.returns-clause-others
returns-clause-others c = λ i apart.
    let len : length c.copy_from_slice.new.self ≡ 512 = omega (arith, c.requires.within, c.copy_from_slice.ensures.len, length-take {A = ℕ}, length-drop {A = ℕ}) in
    written_elsewhere c.args.k c.args.piece.now c.copy_from_slice.new.self i c.requires.within len apart
