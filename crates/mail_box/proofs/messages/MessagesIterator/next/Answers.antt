use Rattle.std.proofs.Common.{◌∙◌, ap, sym, rules}
use Rattle.mail_box.specs.Spelling.{message_of}
use Rattle.mail_box.proofs.Scan.{messages_from-some, messages_from-none}
use Rattle.mail_box.proofs.messages.MessagesIterator.next.Goals as goal

pub returns-in-Some-clause-steps : goal.returns-in-Some-clause-steps
returns-in-Some-clause-steps c =
    let inside = c.loop-self.self-inside in
    sym c.loop-self.invariant ∙ messages_from-some inside.mailbox.now inside.next c.in-Some.message c.loop-self-test.true (sym (c.in-Some.ensures.exact ∙ ap message_of c.slot.ensures))

pub returns-in-Some-clause-goes : goal.returns-in-Some-clause-goes
returns-in-Some-clause-goes c =
    let inside = c.loop-self.self-inside in
    let e = sym c.loop-self.invariant ∙ messages_from-some inside.mailbox.now inside.next c.in-Some.message c.loop-self-test.true (sym (c.in-Some.ensures.exact ∙ ap message_of c.slot.ensures)) in
    search rules

pub loop-self-preserved : goal.loop-self-preserved
loop-self-preserved c =
    let inside = c.loop-self.self-inside in
    sym (messages_from-none inside.mailbox.now inside.next c.loop-self-test.true (sym (c.in_default.ensures.exact ∙ ap message_of c.slot.ensures))) ∙ c.loop-self.invariant
