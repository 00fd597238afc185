use Rattle.std.proofs.Common.{◌∙◌, ℕ, subst}
use Rattle.kept_files.specs.Kept.{kept_descriptor}
use Rattle.kept_files.specs.Opened.{Raises}
use Rattle.folder_disk.proofs.folder.Folder.grow.Goals as goal

pub returns-in-Ok-clause-grown : goal.returns-in-Ok-clause-grown
returns-in-Ok-clause-grown g c =
    let grown = c.in-Ok.ensures.grown in
    let raised = subst (λ (n : ℕ). Raises (kept_descriptor c.in_ok-kept.kept) n c.args.length c.in-Ok.grown.raised) c.stored.ensures grown.0 in
    (kept_descriptor c.in_ok-kept.kept, c.in_ok-kept.found, (raised, grown.1, grown.2 ∙ c.in_ok-kept.ensures.place))
