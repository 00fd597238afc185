-- What a call of a stream in memory does.
use Rattle.std.specs.Prelude.{◌≡◌, ℕ, ◌+◌, ◌-◌, ◌^◌, min, max, List, slice_get, Option, Some, None, Result, MatchResult}
use Rattle.sd_names.specs.declared.turn.Failed.{Failed}

-- how many bytes the read of a number gives at most into so much room: 0 counts as 1, and past the list there is no bound
abbrev pub least_one : Option ℕ → ℕ → ℕ
least_one (Some most) size = max most 1
least_one None size = size

abbrev pub most_of : List ℕ → ℕ → ℕ → ℕ
most_of pieces call size = least_one (slice_get pieces call) size

-- the count of faults goes up by one in a call that fails, as long as it fits, and in no other
abbrev pub Raises : ℕ → ℕ → Result ℕ Failed → Type 0
Raises before after result = MatchResult result (λ _. after ≡ before) (λ _. after ≡ min (before + 1) (2 ^ 64 - 1))
