use Rattle.std.proofs.Common.{ℕ, subst}
use Rattle.chain_reading.specs.Reading as reads
use Rattle.commit_reading.specs.Pieces.{count_of}
use Rattle.commit_reading.proofs.Steps.{some_count}
use Rattle.commit_reading.proofs.reading.CommitReading.next.Goals as goal

pub returns : goal.returns
returns c = record {
  some = some_count c.length.result (count_of c.args.pieces) c.length.ensures.value c.if-length-eq0.false;
  read = c.begin-read.result;
  is = c.with.ensures;
  begun = subst (λ (n : ℕ). reads.IsBegun c.begin-read.result c.args.self.sub.top n) c.at.ensures c.begin-read.ensures;
}
