-- What a writer of lines has written, and what of its buffer it has left.
use Rattle.std.specs.Prelude.{ℕ, List, take, drop}
use Rattle.std.specs.Borrow.{MutBor}
use Rattle.kv_text.specs.declared.writer.KvWriter.{KvWriter}

-- the bytes that were written
abbrev pub written : KvWriter → List ℕ
written writer = take writer.len writer.into.now

-- the bytes of the buffer behind them
abbrev pub room : KvWriter → List ℕ
room writer = drop writer.len writer.into.now

-- the buffer that is lent to it
abbrev pub buffer : KvWriter → MutBor (List ℕ)
buffer writer = writer.into
