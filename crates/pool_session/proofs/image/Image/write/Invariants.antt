use Rattle.std.proofs.Common.{◌≡◌, ℕ, ◌/◌, List, Some}
use Rattle.shared_disk.specs.Content.{Content}
use Rattle.raw_layer.specs.Raw.{left_of}
use Rattle.pool_session.specs.Image.{file_of, HoldsFlat}
use Rattle.pool_session.proofs.AnyLemmas.{Sofar}
use Rattle.pool_session.proofs.WriteLemmas.{Knows}
use Rattle.pool_session.proofs.image.Image.write.Given as goal

-- what is known of the file, by the stage of the write
abbrev pub invariant-loop-next : goal.invariant-loop-next
invariant-loop-next g l =
    let content = g.D.SharedDisk.content in
    let faults = g.D.SharedDisk.faults in
    (l.write.at ≡ l.at) × (l.write.place ≡ file_of l.self) × (faults l.disk ≡ faults l.fn.disk)
    × ((d : Content) (flat : ℕ → List ℕ) → l.host ≡ 1 → content l.fn.disk ≡ Some d → HoldsFlat l.self flat d
    → (e : Content) × (content l.disk ≡ Some e) × Knows l.write.stage l.self (l.at / 512) l.part flat e)
    × ((d : Content) → content l.fn.disk ≡ Some d → (e : Content) × (content l.disk ≡ Some e) × Sofar l.write.stage l.self.capacity l.host (file_of l.self) (l.at / 512) l.part d e)

abbrev pub decreases-loop-next : goal.decreases-loop-next
decreases-loop-next g l = left_of l.write.stage
