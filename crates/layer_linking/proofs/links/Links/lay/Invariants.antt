use Rattle.std.proofs.Common.{◌≡◌, ◌*◌}
use Rattle.link_laws.specs.Links.{laid}
use Rattle.layer_linking.specs.Links.{to_of}
use Rattle.layer_linking.proofs.links.Links.lay.Given as goal

abbrev pub invariant-loop-m : goal.invariant-loop-m
invariant-loop-m l = l.sector ≡ laid (to_of l.self) (64 * l.self.group) l.m l.initial.sector
