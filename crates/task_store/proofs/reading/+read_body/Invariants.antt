use Rattle.std.proofs.Common.{◌-◌}
use Rattle.task_store.proofs.reading.+read_body.Given as goal

abbrev pub decreases-read_body : goal.decreases-read_body
decreases-read_body l = 16 - l.number
