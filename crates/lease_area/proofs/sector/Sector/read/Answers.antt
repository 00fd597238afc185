use Rattle.std.proofs.Common.{◌∙◌, ap}
use Rattle.lease_area.specs.Sector.{sector_in}
use Rattle.lease_area.proofs.Fields.{sector_back}
use Rattle.lease_area.proofs.sector.Sector.read.Goals as goal

pub returns-clause-only : goal.returns-clause-only
returns-clause-only c = λ s is e. c.sector_in.ensures.exact ∙ ap sector_in e ∙ sector_back s is
