use Rattle.std.proofs.Common.{rules}
use Rattle.std.proofs.lemmas.List.{drop-drop}
use Rattle.std.proofs.lemmas.Slice.{overwrites}
use Rattle.kv_text.proofs.writer.KvWriter.append.Goals as goal

pub returns-clause-room : goal.returns-clause-room
returns-clause-room c = rw drop-drop (search (rules, overwrites))
