use Rattle.std.proofs.Common.{◌≡◌, ◌-◌, ◌++◌, min, length, take, ap, ◌∙◌, arith}
use Rattle.script_loop.proofs.LineLemmas.{push_kept}
use Rattle.script_loop.proofs.line.Line.push.Goals as goal

pub returns : goal.returns
returns c line holds =
    let kept = c.args.self.now.bytes.items in
    let piece = c.args.piece.now in
    let same : c.len-space.result ≡ length kept = omega (arith, c.args.self.now.bytes.ok.0) in
    let size : c.min.result ≡ min (length piece) (200001 - length kept) = omega (arith, c.min.ensures, same) in
    c.push_all.ensures.items ∙ ap (λ n. kept ++ take n piece) size ∙ push_kept 200001 kept line piece holds
