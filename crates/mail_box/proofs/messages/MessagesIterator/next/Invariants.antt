use Rattle.std.proofs.Common.{◌≡◌, ◌-◌}
use Rattle.mail_box.specs.Spelling.{messages_from}
use Rattle.mail_box.proofs.messages.MessagesIterator.next.Given as goal

abbrev pub invariant-loop-self : goal.invariant-loop-self
invariant-loop-self l = messages_from l.self-inside.mailbox.now l.self-inside.next ≡ l.fn.self

abbrev pub decreases-loop-self : goal.decreases-loop-self
decreases-loop-self l = 63 - l.self-inside.next
