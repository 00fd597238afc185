use Rattle.std.proofs.Common.{◌≡◌, ℕ, ◌+◌, ◌*◌, ◌/◌, ◌%◌, ◌≤◌, List, length, arith, subst, sym}
use Rattle.shared_disk.specs.Content.{sector_of}
use Rattle.raw_layer.specs.Raw.{ReadsSector}
use Rattle.raw_layer.proofs.Padding.{reads_padded}
use Rattle.raw_layer.proofs.read.RawRead.step.Goals as goal

-- what the disk read, and zeros behind it, is what the file reads as
pub returns-in-Ok-clause-content : goal.returns-in-Ok-clause-content
returns-in-Ok-clause-content g c d tells =
    let call = c.in-Ok.ensures.call d tells in
    let same : length c.read_at.new.into ≡ length c.args.part.now = omega arith in
    let whole : length c.read_at.new.into % 512 ≡ 0 = omega arith in
    let sectors = reads_padded c.args.host call.2.1 (c.args.self.at / 512) c.in-Ok.count c.args.part.now c.read_at.new.into same whole call.2.3 call.2.4 in
    let P : List ℕ → Type 0 = λ part. (k : ℕ) → 512 * (k + 1) ≤ length part → ReadsSector c.args.host call.2.1 (c.args.self.at / 512 + k) (sector_of part k) in
    (call.0, call.1, (call.2.0, (call.2.1, call.2.2, subst P (sym c.zero_from.ensures) sectors)))
