use Rattle.lease_area.proofs.WholeScan.{all_read, empty_least, found_least}
use Rattle.lease_area.proofs.laws.scans_find_the_least.Goals as goal

pub returns-clause-reads : goal.returns-clause-reads
returns-clause-reads c steps host sd image folders before rooms seen scan = all_read host sd image folders before rooms seen steps scan

pub returns-clause-found : goal.returns-clause-found
returns-clause-found c steps host sd image folders before rooms seen scan = found_least host sd image folders before rooms seen steps scan

pub returns-clause-empty : goal.returns-clause-empty
returns-clause-empty c steps host sd image folders before rooms seen scan = empty_least host sd image folders before rooms seen steps scan
