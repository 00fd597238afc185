use Rattle.std.proofs.Common.{◌≡◌, ◌/◌, ◌%◌, ◌≤◌, subst, sym}
use Rattle.layer_walk.proofs.Spans.{span_least, span_most, span_whole}
use Rattle.layer_walk.proofs.counted.block_span.Goals as goal

pub returns-clause-least : goal.returns-clause-least
returns-clause-least c = subst (λ n. 2048 ≤ n / 2) (sym c.cluster_bytes.ensures) (span_least c.args.header.now.cluster_bits c.requires.low)

pub returns-clause-most : goal.returns-clause-most
returns-clause-most c = subst (λ n. n / 2 ≤ 1048576) (sym c.cluster_bytes.ensures) (span_most c.args.header.now.cluster_bits c.requires.high)

pub returns-clause-whole : goal.returns-clause-whole
returns-clause-whole c = subst (λ n. n / 2 % 256 ≡ 0) (sym c.cluster_bytes.ensures) (span_whole c.args.header.now.cluster_bits c.requires.low)
