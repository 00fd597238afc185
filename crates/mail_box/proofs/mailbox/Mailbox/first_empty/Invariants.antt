use Rattle.std.proofs.Common.{ℕ, ◌<◌}
use Rattle.mail_box.specs.Slots.{slot_at, IsEmpty}
use Rattle.mail_box.proofs.mailbox.Mailbox.first_empty.Given as goal

abbrev pub invariant-loop-k : goal.invariant-loop-k
invariant-loop-k l = (j : ℕ) → j < l.k → IsEmpty (slot_at l.self j) → ⊥
