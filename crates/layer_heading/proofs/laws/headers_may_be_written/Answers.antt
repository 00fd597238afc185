use Rattle.layer_heading.proofs.Writes.{written_again}
use Rattle.layer_heading.proofs.laws.headers_may_be_written.Goals as goal

pub returns : goal.returns
returns c h next first rest len is same fine named = written_again h next first rest len is same fine named
