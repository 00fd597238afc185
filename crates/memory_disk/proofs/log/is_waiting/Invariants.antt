use Rattle.memory_disk.proofs.log.is_waiting.Given as goal

abbrev pub invariant-loop-write : goal.invariant-loop-write
invariant-loop-write l = Unit {0}
