use Rattle.std.proofs.Common.{◌+◌, ◌-◌, ◌*◌, ◌^◌, sym, subst, arith}
use Rattle.layer_walk.specs.Items.{item_of}
use Rattle.layer_walk.specs.Positions.{IsHead, IsNamed}
use Rattle.layer_walk.proofs.Heads.{l1_head, own_head, table_head}
use Rattle.layer_walk.proofs.head.head_item.Goals as goal

pub returns-then-n-eq0 : goal.returns-then-n-eq0
returns-then-n-eq0 c = subst (λ n. IsHead c.args.header.now n (item_of c.named.result)) (sym c.if-n-eq0.true) (own_head c.args.header.now (item_of c.named.result) c.named.ensures)

pub returns-then-n-l1 : goal.returns-then-n-l1
returns-then-n-l1 c =
    l1_head c.args.header.now c.args.n (item_of c.named-then-n-l1.result) c.if-n-eq0.false (omega (arith, c.if-n-l1.true, c.l1_clusters-l1.ensures.value)) c.named-then-n-l1.ensures

pub returns : goal.returns
returns c =
    table_head c.args.header.now c.args.n (item_of c.named-2.result) (omega (arith, c.if-n-l1.false, c.l1_clusters-l1.ensures.value)) c.requires.inside
    (subst (λ m. IsNamed 48 (c.args.header.now.refcount_table_offset + (c.args.n - 1 - m) * 2 ^ c.args.header.now.cluster_bits) (2 ^ c.args.header.now.cluster_bits) (item_of c.named-2.result)) c.l1_clusters-l1.ensures.value c.named-2.ensures)
