use Rattle.std.proofs.Common.{◌∙◌, ℕ, List, ap}
use Rattle.sd_names.specs.declared.id.Id.{Id}
use Rattle.chain_records.proofs.Finding.{found_all}
use Rattle.chain_records.proofs.found.FoundVolumes.as_slice.Goals as goal

pub returns-clause-all : goal.returns-clause-all
returns-clause-all c = λ vs found few.
    c.as_slice.ensures.value ∙ found_all vs c.self.inside.ids.items (ap (λ (f : List Id × ℕ). f.0) c.self.view_is ∙ found.0) few
