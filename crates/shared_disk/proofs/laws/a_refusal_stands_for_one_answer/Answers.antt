use Rattle.shared_disk.proofs.Refusals.{one_answer, of_disk, risen}
use Rattle.shared_disk.proofs.laws.a_refusal_stands_for_one_answer.Goals as goal

pub returns-clause-one : goal.returns-clause-one
returns-clause-one c = one_answer

pub returns-clause-of_disk : goal.returns-clause-of_disk
returns-clause-of_disk c = of_disk

pub returns-clause-risen : goal.returns-clause-risen
returns-clause-risen c = risen
