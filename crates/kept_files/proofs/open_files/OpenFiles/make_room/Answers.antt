use Rattle.kept_files.proofs.OpenFilesLemmas.{keeps_same-set}
use Rattle.kept_files.proofs.open_files.OpenFiles.make_room.Goals as goal

pub returns-in_err-flush-in-Some-clause-stay : goal.returns-in_err-flush-in-Some-clause-stay
returns-in_err-flush-in-Some-clause-stay c = keeps_same-set _ _ _ _ c.index_mut.ensures.value c.flush.ensures.same

pub returns-in_ok-flush-in-Some-clause-stay : goal.returns-in_ok-flush-in-Some-clause-stay
returns-in_ok-flush-in-Some-clause-stay c = keeps_same-set _ _ _ _ c.index_mut.ensures.value c.flush.ensures.same
