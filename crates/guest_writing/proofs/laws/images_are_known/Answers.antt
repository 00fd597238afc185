use Rattle.guest_writing.proofs.Known.{all_come, others_known, rest_settled}
use Rattle.guest_writing.proofs.laws.images_are_known.Goals as goal

pub returns-clause-others : goal.returns-clause-others
returns-clause-others c w chain l x old host start room d k = others_known w.stage chain l x old host start room d k.stage

pub returns-clause-rest : goal.returns-clause-rest
returns-clause-rest c w chain l x old host start room d k = rest_settled w.stage chain l x old host start room d k.stage

pub returns-clause-comes : goal.returns-clause-comes
returns-clause-comes c w chain l x old host start room d k = all_come w.stage chain l x old host start room d k.stage
