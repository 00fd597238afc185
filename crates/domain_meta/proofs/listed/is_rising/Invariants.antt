use Rattle.std.proofs.Common.{◌≡◌, ◌-◌, drop}
use Rattle.domain_meta.specs.Values.{is_rising}
use Rattle.domain_meta.proofs.listed.is_rising.Given as goal

abbrev pub invariant-loop-next : goal.invariant-loop-next
invariant-loop-next l = is_rising (drop (l.next - 1) l.ids) ≡ is_rising l.ids
