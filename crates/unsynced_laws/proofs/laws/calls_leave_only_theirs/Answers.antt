use Rattle.unsynced_laws.proofs.Unsynced.{enlarged, gone, made, moved_on, put_out, renamed, written}
use Rattle.unsynced_laws.proofs.laws.calls_leave_only_theirs.Goals as goal

pub returns-clause-written : goal.returns-clause-written
returns-clause-written c = written

pub returns-clause-created : goal.returns-clause-created
returns-clause-created c = made

pub returns-clause-synced : goal.returns-clause-synced
returns-clause-synced c = put_out

pub returns-clause-grown : goal.returns-clause-grown
returns-clause-grown c = enlarged

pub returns-clause-exchanged : goal.returns-clause-exchanged
returns-clause-exchanged c = moved_on

pub returns-clause-renamed : goal.returns-clause-renamed
returns-clause-renamed c = renamed

pub returns-clause-removed : goal.returns-clause-removed
returns-clause-removed c = gone
