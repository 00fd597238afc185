use Rattle.script_lines.proofs.PrintedAgainLemmas.{printed_reads}
use Rattle.script_lines.proofs.laws.printed_data_reads_again.Goals as goal

pub returns : goal.returns
returns c = printed_reads
