use Rattle.std.proofs.Common.{◌≤◌}
use Rattle.folder_disk.proofs.folder.Folder.take_away_piece.Given as goal

abbrev pub invariant-loop-end : goal.invariant-loop-end
invariant-loop-end g l = l.start ≤ l.end
