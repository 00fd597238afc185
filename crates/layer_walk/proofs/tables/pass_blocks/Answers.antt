use Rattle.std.proofs.Common.{◌≡◌, ℕ, ◌+◌, ◌*◌, ◌/◌, ◌%◌, ◌<◌, Some, None, Ok, subst, arith}
use Rattle.qcow_format.specs.Bytes.{number}
use Rattle.layer_walk.specs.Positions.{PassesBlock, PassesBlocks}
use Rattle.layer_walk.proofs.Passing.{block_found, block_next}
use Rattle.layer_walk.proofs.tables.pass_blocks.Goals as goal

-- where the entry with an index stands in its sector
in_row : (k j : ℕ) → j < 64 → j ≡ (k / 64 * 64 + j) % 64
in_row k j lt = omega (arith, lt)

pub returns-in-Some : goal.returns-in-Some
returns-in-Some c =
    let n : ℕ = c.args.k / 64 * 64 + c.loop-j.j in
    block_found c.args.header.now c.args.k n c.args.sector.now c.args.marks.now c.loop-j.marks c.admit_block.new.marks (omega (arith, c.loop-j.auto.j)) (omega (arith, c.loop-j-test.true)) c.loop-j.invariant
    (c.args.k / 64 * 64 + 64) c.in-Some.place
    (subst (λ j. PassesBlock c.args.header.now n (number 8 (8 * j) c.args.sector.now) c.loop-j.marks c.admit_block.new.marks (Ok (Some c.in-Some.place))) (in_row c.args.k c.loop-j.j c.loop-j-test.true)
    (subst (λ b. PassesBlock c.args.header.now n b c.loop-j.marks c.admit_block.new.marks (Ok (Some c.in-Some.place))) c.word_at.ensures
    (subst (λ o. PassesBlock c.args.header.now n c.word_at.result c.loop-j.marks c.admit_block.new.marks (Ok o)) c.in-Some.is c.in-Ok.ensures)))

pub loop-j-preserved : goal.loop-j-preserved
loop-j-preserved c =
    let n : ℕ = c.args.k / 64 * 64 + c.loop-j.j in
    subst (λ m. PassesBlocks c.args.header.now c.args.k m c.args.sector.now c.args.marks.now c.admit_block.new.marks (Ok None)) (omega arith)
    (block_next c.args.header.now c.args.k n c.args.sector.now c.args.marks.now c.loop-j.marks c.admit_block.new.marks (omega (arith, c.loop-j.auto.j)) (omega (arith, c.loop-j-test.true)) c.loop-j.invariant
    (subst (λ j. PassesBlock c.args.header.now n (number 8 (8 * j) c.args.sector.now) c.loop-j.marks c.admit_block.new.marks (Ok None)) (in_row c.args.k c.loop-j.j c.loop-j-test.true)
    (subst (λ b. PassesBlock c.args.header.now n b c.loop-j.marks c.admit_block.new.marks (Ok None)) c.word_at.ensures
    (subst (λ o. PassesBlock c.args.header.now n c.word_at.result c.loop-j.marks c.admit_block.new.marks (Ok o)) c.in_default.is c.in-Ok.ensures))))

pub returns : goal.returns
returns c =
    subst (λ m. PassesBlocks c.args.header.now c.args.k m c.args.sector.now c.args.marks.now c.loop-j.marks (Ok None)) (omega (arith, c.loop-j-test.false, c.loop-j.auto.j-end)) c.loop-j.invariant
