use Rattle.guest_laws.proofs.Writes.{file_steps}
use Rattle.guest_laws.proofs.laws.files_are_written.Goals as goal

pub returns : goal.returns
returns c = file_steps
