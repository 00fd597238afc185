use Rattle.std.proofs.Common.{map, take}
use Rattle.std.specs.List.{concat}
use Rattle.sha1.specs.Sha1.{Holds}
use Rattle.domain_meta.proofs.checksum.digest_of.Given as goal

-- the hasher holds the lines so far
abbrev pub invariant-loop-line : goal.invariant-loop-line
invariant-loop-line l = Holds l.hasher (concat (map (λ line. line.now) (take l.line-index l.lines)))
