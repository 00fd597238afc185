-- What the streams in memory hold.
use Rattle.std.specs.Prelude.{ℕ, List, drop}
use Rattle.script_loop.specs.declared.memory.MemorySource.{MemorySource}
use Rattle.script_loop.specs.declared.memory.MemorySink.{MemorySink}
use Rattle.script_loop.specs.declared.script.Script.{Script}

-- the bytes that are still to come
abbrev pub source_left : MemorySource → List ℕ
source_left s = drop s.at s.bytes.items

-- how often it has failed
abbrev pub source_faults : MemorySource → ℕ
source_faults s = s.faults

-- the bytes that were given
abbrev pub sink_given : MemorySink → List ℕ
sink_given s = s.bytes.items

-- how often it has failed
abbrev pub sink_faults : MemorySink → ℕ
sink_faults s = s.faults

-- the most bytes of each read, and the numbers of the reads that fail
abbrev pub source_pieces : MemorySource → List ℕ
source_pieces s = s.pieces.items

abbrev pub source_failing : MemorySource → List ℕ
source_failing s = s.failing.items

-- how many reads and how many writes were made
abbrev pub source_calls : MemorySource → ℕ
source_calls s = s.calls

abbrev pub sink_calls : MemorySink → ℕ
sink_calls s = s.calls

-- the most bytes that are given, and the numbers of the writes that fail
abbrev pub sink_room : MemorySink → ℕ
sink_room s = s.room

abbrev pub sink_failing : MemorySink → List ℕ
sink_failing s = s.failing.items

-- the bytes of a script that are still to come
abbrev pub script_left : Script → List ℕ
script_left s = drop s.at s.text.items
