use Rattle.std.proofs.Common.{◌≤◌, ◌%◌, min, sym, ap, ◌∙◌, subst}
use Rattle.layer_linking.proofs.Sizes.{even_of, some_of}
use Rattle.layer_linking.proofs.filling.piece_bytes.Goals as goal

pub returns-clause-some : goal.returns-clause-some
returns-clause-some c = subst (λ n. 512 ≤ n) (sym (c.min.ensures ∙ ap (λ n. min n 65536) c.cluster_bytes.ensures)) (some_of c.args.header.now.cluster_bits c.requires.low)

pub returns-clause-sectors : goal.returns-clause-sectors
returns-clause-sectors c = ap (λ n. n % 512) (c.min.ensures ∙ ap (λ n. min n 65536) c.cluster_bytes.ensures) ∙ even_of c.args.header.now.cluster_bits c.requires.low
