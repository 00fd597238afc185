use Rattle.std.proofs.Common.{◌∙◌, ap, sym, arith}
use Rattle.mail_box.specs.Slots.{seal_of}
use Rattle.mail_box.proofs.Seal.{is_sealed-set}
use Rattle.mail_box.proofs.mailbox.Mailbox.seal.Goals as goal

pub returns-clause-sealed : goal.returns-clause-sealed
returns-clause-sealed c =
    is_sealed-set c.self.inside.slots c.digest-seal.result (omega arith) (c.digest-seal.ensures ∙ ap seal_of (sym c.self.view_is))
