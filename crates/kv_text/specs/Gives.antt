-- What a reader answers, where memory may run out.
use Rattle.std.specs.Prelude.{◌≡◌, ◌⊎◌, Result, Ok, Err, IsOk}

-- An answer is what the text says. Want of memory, told by one fault, comes only where the text has no fault.
abbrev pub Gives : {X E : Type 0} → E → Result X E → Result X E → Type 0
Gives memory (Ok x) read = Ok x ≡ read
Gives memory (Err e) read = (Err e ≡ read) ⊎ ((e ≡ memory) × IsOk read)
