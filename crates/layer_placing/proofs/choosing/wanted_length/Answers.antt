use Rattle.std.proofs.Common.{◌≡◌, ◌+◌, ◌-◌, ◌*◌, length, sym, ap, ◌∙◌, subst, arith}
use Rattle.std.specs.Prelude.{slice_index}
use Rattle.layer_placing.specs.Chosen.{IsWantedLength, listed}
use Rattle.layer_placing.proofs.Least.{few_wanted, some_wanted}
use Rattle.layer_placing.proofs.choosing.wanted_length.Goals as goal

pub returns-then-count : goal.returns-then-count
returns-then-count c = few_wanted c.args.layer.now c.args.count c.args.most c.cluster_width-cluster.result (listed c.least_free-chosen.result) c.cluster_width-cluster.ensures.value c.least_free-chosen.ensures (omega (arith, c.count.ensures.count, c.if-count.true))

pub returns : goal.returns
returns c =
    let all : length (listed c.least_free-chosen.result) ≡ c.args.count = omega (arith, c.count.ensures.count, c.if-count.false, c.least_free-chosen.ensures.many) in
    subst (λ x. IsWantedLength c.args.layer.now c.args.count c.args.most ((x + 1) * c.cluster_width-cluster.result))
    (sym (c.get.ensures ∙ ap (λ n. slice_index (listed c.least_free-chosen.result) (n - 1)) c.count-2.ensures.count))
    (some_wanted c.args.layer.now c.args.count c.args.most c.cluster_width-cluster.result (listed c.least_free-chosen.result) c.cluster_width-cluster.ensures.value c.least_free-chosen.ensures all c.requires.some)
