use Rattle.std.proofs.Common.{◌-◌, subst, sym, arith}
use Rattle.std.proofs.lemmas.Nat.{pow_pos}
use Rattle.layer_walk.proofs.Spans.{pages}
use Rattle.layer_walk.specs.Marks.{IsNew}
use Rattle.qcow_layer.specs.Left.{Falls}
use Rattle.qcow_layer.specs.Stages.{BeginsWork, roof}
use Rattle.qcow_layer.specs.declared.stages.Stage.TheVariants.{Sized}
use Rattle.qcow_layer.proofs.Starts.{begin_falls, header_fine, header_small, no_memory}
use Rattle.qcow_layer.proofs.starting.begin_work.Goals as goal

pub returns-then-header-target-clause-next : goal.returns-then-header-target-clause-next
returns-then-header-target-clause-next c = header_small c.args.target c.args.length c.args.header c.if-header-target.true c.args.parent

pub new-requires : goal.new-requires
new-requires c = let p = pages c.args.header.cluster_bits c.requires.low in let q = pow_pos (c.args.header.cluster_bits - 12) in omega (arith, p, q, c.cluster_bytes.ensures)

pub returns-in-Ok-clause-falls : goal.returns-in-Ok-clause-falls
returns-in-Ok-clause-falls c =
    subst (λ turn. Falls (Sized c.args.length) turn) (sym c.passed.ensures.turn)
    (begin_falls c.args.target c.args.length
    (record { header = c.args.header; parent = c.args.parent; marks = c.in-Ok.marks; low = _; high = _; few = _; l1_aligned = _; table_aligned = _ })
    c.begin_walk.result c.begin_walk.ensures.keeps c.begin_walk.ensures.falls)

pub returns-in-Ok-clause-next : goal.returns-in-Ok-clause-next
returns-in-Ok-clause-next c =
    subst (λ turn. BeginsWork c.args.target c.args.length c.args.header c.args.parent turn) (sym c.passed.ensures.turn)
    (header_fine c.args.target c.args.length
    (record { header = c.args.header; parent = c.args.parent; marks = c.in-Ok.marks; low = _; high = _; few = _; l1_aligned = _; table_aligned = _ })
    c.begin_walk.result c.if-header-target.false
    (subst (λ n. IsNew c.args.length n (roof c.args.target.greatest) c.in-Ok.marks) c.cluster_bytes.ensures (subst (λ n. IsNew c.args.length c.cluster_bytes.result n c.in-Ok.marks) c.roof.ensures c.in-Ok.ensures))
    c.begin_walk.ensures.keeps c.begin_walk.ensures.next)

pub returns-in-Err-clause-next : goal.returns-in-Err-clause-next
returns-in-Err-clause-next c = no_memory c.args.target c.args.length c.args.header c.if-header-target.false c.args.parent
