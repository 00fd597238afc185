use Rattle.std.proofs.Common.{sym, ◌∙◌}
use Rattle.memory_disk.proofs.files.Files.is_fresh.Goals as goal

pub returns-in-Some : goal.returns-in-Some
returns-in-Some c = λ t. (c.in-Some.file, sym c.entry.ensures ∙ c.in-Some.is, c.is_made_by.ensures t)
