use Rattle.guest_writing.proofs.Standing.{path_kept, stands, stands_in_all, stands_still}
use Rattle.guest_writing.proofs.laws.volumes_stand_open.Goals as goal

pub returns-clause-begin : goal.returns-clause-begin
returns-clause-begin c = stands

pub returns-clause-kept : goal.returns-clause-kept
returns-clause-kept c w chain next v at count kept s = stands_still w.stage chain next v at count kept s

pub returns-clause-all : goal.returns-clause-all
returns-clause-all c = stands_in_all

pub returns-clause-same : goal.returns-clause-same
returns-clause-same c w chain next kept = path_kept w.stage chain next kept
