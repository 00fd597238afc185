use Rattle.sector_freeing.proofs.Managed.{all_spent}
use Rattle.sector_freeing.proofs.laws.freed_domains_leave_nothing.Goals as goal

pub returns : goal.returns
returns c up d p stands none = all_spent up d p stands none
