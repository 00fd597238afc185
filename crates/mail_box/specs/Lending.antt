-- What a box becomes while one of its slots is lent.
use Rattle.std.specs.Prelude.{ℕ, List, slice_set}
use Rattle.std.specs.Borrow.{Lends, MutBor, Fml, Array, u8}
use Rattle.mail_box.specs.contracts.mailbox.Mailbox.{the_row}

-- the box ends with the last bytes behind the lent slot in slot k, and every other slot as it was
abbrev pub LendsSlot : MutBor (List (List ℕ)) → ℕ → MutBor (List ℕ) → Fml
LendsSlot mailbox k slot = Lends the_row (Array u8 0) mailbox slot (slice_set mailbox.now k)
