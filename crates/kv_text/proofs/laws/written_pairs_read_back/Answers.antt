use Rattle.kv_text.proofs.ReadBack.{items_open, items_closed, eof_closed}
use Rattle.kv_text.proofs.laws.written_pairs_read_back.Goals as goal

pub returns-clause-open : goal.returns-clause-open
returns-clause-open c = items_open

pub returns-clause-closed : goal.returns-clause-closed
returns-clause-closed c = items_closed

pub returns-clause-ended : goal.returns-clause-ended
returns-clause-ended c = eof_closed
