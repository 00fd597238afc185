use Rattle.pool_making.proofs.Passed.{checks, lists}
use Rattle.pool_making.proofs.laws.listings_find_the_first_text.Goals as goal

pub returns-clause-listed : goal.returns-clause-listed
returns-clause-listed c m host faults turn after had d e well still known call = lists m had d well still after faults turn e call.0 known call.1 call.2

pub returns-clause-checked : goal.returns-clause-checked
returns-clause-checked c m host faults turn q had d e well still id known call = checks m had d well still q faults turn e call.0 id known call.1 call.2
