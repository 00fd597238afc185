use Rattle.mail_box.proofs.Scan.{messages_of-length}
use Rattle.mail_box.proofs.mailbox.Mailbox.messages.Goals as goal

pub returns-clause-few : goal.returns-clause-few
returns-clause-few c = rw c.new.ensures (messages_of-length c.args.self.now)
