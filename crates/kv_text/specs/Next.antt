-- What a reader of lines gives next.
use Rattle.std.specs.Prelude.{◌≡◌, ℕ, [], ◌∷◌, Option, Some, None, Result}
use Rattle.kv_text.specs.declared.pair.Pair.{Pair}
use Rattle.kv_text.specs.Left.{Left}
use Rattle.kv_text.specs.Shown.{shown}

-- A reader that has `old` left gives what stands first there, and then has `new` left. Where nothing is left
-- it gives nothing, and has met a line `EOF` exactly where there was one.
abbrev pub IsNext : Left → Option (Result Pair ℕ) → Left → Type 0
IsNext old (Some item) new =
    (old.items ≡ shown item ∷ new.items) × (new.closed ≡ old.closed) × (new.ended ≡ old.ended)
IsNext old None new =
    (old.items ≡ []) × (new.items ≡ []) × (new.closed ≡ old.closed) × (new.ended ≡ old.closed)
