use Rattle.script_lines.proofs.SpelledEventLemmas.{event_reads}
use Rattle.script_lines.proofs.laws.spelled_events_read_again.Goals as goal

pub returns : goal.returns
returns c = event_reads
