-- Picks that are taken in turn.
use Rattle.std.specs.Prelude.{◌≡◌, ℕ, zero, suc, List, ◌++◌, take, drop}
use Rattle.memory_disk.specs.declared.picks.Pick.{Pick}
use Rattle.memory_disk.specs.declared.picks.Picks.{Picks}

-- the picks to come, the next one first: those from the turn on, then those before it
abbrev pub coming : List Pick → ℕ → List Pick
coming picks turn = drop turn picks ++ take turn picks

abbrev pub to_come : Picks → List Pick
to_come p = coming p.picks.items p.turn

-- the picks to come once so many were taken: each that is taken goes to the end
abbrev pub turned : ℕ → List Pick → List Pick
turned zero picks = picks
turned (suc n) picks = turned n (drop 1 picks ++ take 1 picks)

-- some picks were taken, in turn
abbrev pub AreTaken : List Pick → List Pick → Type 0
AreTaken before after = (n : ℕ) × (after ≡ turned n before)
