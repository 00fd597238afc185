use Rattle.layer_linking.proofs.Given.{row_given, spare_given, zero_given}
use Rattle.layer_linking.proofs.laws.places_may_be_given.Goals as goal

pub returns-clause-spare : goal.returns-clause-spare
returns-clause-spare c t capacity m place spare low = spare_given t capacity m place spare low

pub returns-clause-zero : goal.returns-clause-zero
returns-clause-zero c file capacity k place h is sound zero some = zero_given file capacity k place h is sound zero some

pub returns-clause-row : goal.returns-clause-row
returns-clause-row c file capacity k h is lt = row_given file capacity k h is lt
