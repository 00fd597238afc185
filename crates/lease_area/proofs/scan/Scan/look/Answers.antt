use Rattle.std.proofs.Common.{◌*◌, ◌+◌, List, ℕ, ap, ◌∙◌}
use Rattle.shared_disk.specs.Content.{sector_of}
use Rattle.lease_area.specs.Noted.{noted_one}
use Rattle.lease_area.specs.Sector.{sector_in}
use Rattle.lease_area.specs.declared.scanned.Scanned.{Scanned}
use Rattle.lease_area.proofs.Noting.{noted_next}
use Rattle.lease_area.proofs.scan.Scan.look.Goals as goal

pub loop-k-preserved : goal.loop-k-preserved
loop-k-preserved c =
    let made = c.note-seen.ensures in
    let next = noted_next c.args.self.now.image (128 * c.args.self.now.made) c.args.room.now c.loop-k.k c.args.self.now.seen in
    made
    ∙ ap (λ (n : ℕ). noted_one c.args.self.now.image (128 * n + c.loop-k.k) (sector_in c.sector.result) c.loop-k.seen) c.from.ensures
    ∙ ap (λ (b : List ℕ). noted_one c.args.self.now.image (128 * c.args.self.now.made + c.loop-k.k) (sector_in b) c.loop-k.seen) c.sector.ensures
    ∙ ap (λ (s : Scanned). noted_one c.args.self.now.image (128 * c.args.self.now.made + c.loop-k.k) (sector_in (sector_of c.args.room.now c.loop-k.k)) s) c.loop-k.invariant
    ∙ next
