use Rattle.std.proofs.Common.{◌≡◌, drop}
use Rattle.memory_disk.specs.Store.{has_dir}
use Rattle.memory_disk.proofs.store.is_dir.Given as goal

abbrev pub invariant-loop-made : goal.invariant-loop-made
invariant-loop-made l = has_dir l.dirs l.dir ≡ has_dir (drop l.made-index l.dirs) l.dir
