-- All volumes of the path stay open while parts are written.
use Rattle.std.proofs.Common.{◌≡◌, ℕ, ◌+◌, ◌^◌, ◌≤◌, List, length, Some, sym, ap, ◌∙◌}
use Rattle.sd_names.specs.declared.id.Id.{Id}
use Rattle.volume_chain.specs.Chain.{reading_in}
use Rattle.volume_chain.specs.declared.chain.Chain.{Chain}
use Rattle.volume_chain.proofs.Along.{next_among}
use Rattle.guest_writing.specs.Guest.{IsWrittenChain}
use Rattle.guest_writing.specs.Way.{StandsOpen}
use Rattle.guest_writing.specs.declared.guest.GuestWrite.{GuestWrite}
use Rattle.guest_writing.proofs.Standing.{path_kept, stands_in_all}
use Rattle.chain_write.specs.Open.{AreAllOpen}

pub written_all : (w : GuestWrite) (c next : Chain) → IsWrittenChain w c next → AreAllOpen c → AreAllOpen next
written_all w c next kept all = let same = path_kept w.stage c next kept in same.1 ∙ all ∙ sym (ap (λ (vs : List Id). length vs) same.0)

-- the volume that guests write stands open
pub reading_stands : (c : Chain) (v : Id) (at count : ℕ) → AreAllOpen c → reading_in c ≡ Some v → at + count ≤ 2 ^ 62 → StandsOpen c v at count
reading_stands c v at count all first ends = stands_in_all c v at count all (next_among c.path 0 v first) ends
