-- The files that are kept open.
use Rattle.std.proofs.Common.{◌≡◌, ℕ, List, get_or, set, ap, ◌∙◌}
use Rattle.std.proofs.Math.Seq.{map-set_same}
use Rattle.kept_files.specs.declared.kept.Kept.{Kept}
use Rattle.kept_files.specs.Kept.{IsSameFile, kept_descriptor, kept_node}
use Rattle.kept_files.specs.OpenFiles.{KeepsSame}

pub keeps_same-set : (files : List Kept) (k : ℕ) (old new : Kept) → old ≡ get_or files k old → IsSameFile old new → KeepsSame files (set files k new)
keeps_same-set files k old new at same =
    (map-set_same kept_descriptor files k new old (same.0 ∙ ap kept_descriptor at), map-set_same kept_node files k new old (same.1 ∙ ap kept_node at))
