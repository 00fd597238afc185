use Rattle.std.proofs.Common.{ℕ, ◌<◌, ◌≡◌}
use Rattle.std.proofs.Math.ListN.{get_or}
use Rattle.kept_files.specs.declared.kept.Kept.{Kept}
use Rattle.kept_files.specs.Kept.{kept_node}
use Rattle.kept_files.specs.OpenFiles.{kept_files}
use Rattle.kept_files.proofs.open_files.OpenFiles.find.Given as goal

abbrev pub invariant-loop-k : goal.invariant-loop-k
invariant-loop-k l = (j : ℕ) (d : Kept) → j < l.k → kept_node (get_or (kept_files l.self) j d) ≡ l.node → ⊥
