use Rattle.std.proofs.Common.{◌∙◌, ap}
use Rattle.mail_box.specs.Spelling.{message_of}
use Rattle.mail_box.proofs.Fields.{message_of-message_bytes}
use Rattle.mail_box.proofs.message.Message.read.Goals as goal

pub returns-clause-only : goal.returns-clause-only
returns-clause-only c = λ m is e. c.message_in.ensures ∙ ap message_of e ∙ message_of-message_bytes m is
