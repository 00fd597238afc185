-- What the memory disks show of themselves.
use Rattle.std.specs.Prelude.{◌≡◌, ℕ, List, [], Option, Some}
use Rattle.memory_disk.specs.declared.failing.ListedCalls.{ListedCalls}
use Rattle.memory_disk.specs.declared.failing.NoCalls.{NoCalls}
use Rattle.memory_disk.specs.declared.in_memory.InMemory.{InMemory}
use Rattle.memory_disk.specs.declared.picks.Pick.{Pick}
use Rattle.memory_disk.specs.Turns.{to_come}
use Rattle.shared_disk.specs.Content.{Content}
use Rattle.memory_disk.specs.Held.{held, limits_with, units}
use Rattle.shared_disk.specs.Limits.{Limits}

-- what it holds, which it tells
abbrev pub content_of_memory : InMemory ListedCalls → Option Content
content_of_memory m = Some (held m.store)

-- how many units it has room for
abbrev pub room_of_memory : InMemory ListedCalls → ℕ
room_of_memory m = m.store.room

-- the numbers of the calls that fail
abbrev pub failing_of_memory : InMemory ListedCalls → List ℕ
failing_of_memory m = m.failing.calls.items

-- how many units it uses
abbrev pub units_of_memory : InMemory ListedCalls → ℕ
units_of_memory m = units m.store

-- these three, which it tells
abbrev pub limits_of_memory : InMemory ListedCalls → Option Limits
limits_of_memory m = Some (limits_with (failing_of_memory m) m.store)

-- the picks to come, the next one first
abbrev pub picks_of : {F : Type 0} → InMemory F → List Pick
picks_of m = to_come m.picks

-- how many calls were made, and how many of them failed
abbrev pub calls_of : {F : Type 0} → InMemory F → ℕ
calls_of m = m.calls

abbrev pub faults_of : {F : Type 0} → InMemory F → ℕ
faults_of m = m.faults

-- the second memory disk is the first, but for what it holds and its room
pub record IsOnlyStore (m n : InMemory ListedCalls) : Type 0 where
  pub failing : n.failing ≡ m.failing
  pub picks : n.picks ≡ m.picks
  pub calls : n.calls ≡ m.calls
  pub faults : n.faults ≡ m.faults

-- the same of the disk that fails for want of room alone
abbrev pub content_of_honest : InMemory NoCalls → Option Content
content_of_honest h = Some (held h.store)

abbrev pub room_of_honest : InMemory NoCalls → ℕ
room_of_honest h = h.store.room

abbrev pub units_of_honest : InMemory NoCalls → ℕ
units_of_honest h = units h.store

-- no call fails but for want of room
abbrev pub limits_of_honest : InMemory NoCalls → Option Limits
limits_of_honest h = Some (limits_with [] h.store)
