use Rattle.std.proofs.Common.{◌≡◌, ◌<◌, ℕ, ◌≤◌, false}
use Rattle.qcow_layer.specs.Knowing.{is_free}
use Rattle.qcow_layer.proofs.layer.Layer.least_free.Given as goal

abbrev pub invariant-loop-cluster : goal.invariant-loop-cluster
invariant-loop-cluster l = (c : ℕ) → l.fn.first ≤ c → c < l.cluster → is_free l.fn.self c ≡ false
