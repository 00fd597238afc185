use Rattle.decimal_numbers.proofs.NumberLemmas.{number_of-decimal, decimal_short}
use Rattle.decimal_numbers.proofs.laws.numbers_read_back.Goals as goal

pub returns-clause-same : goal.returns-clause-same
returns-clause-same c = number_of-decimal

pub returns-clause-short : goal.returns-clause-short
returns-clause-short c = decimal_short
