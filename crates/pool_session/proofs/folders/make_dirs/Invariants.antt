use Rattle.std.proofs.Common.{◌≡◌, ◌∷◌, [], List, Some, drop, false}
use Rattle.sd_names.specs.declared.place.Dir.{Dir}
use Rattle.sd_names.specs.declared.place.Dir.TheVariants.{Root}
use Rattle.shared_disk.specs.Content.{Content}
use Rattle.pool_session.specs.Folders.{HasJust, HasSome, IsAmong, IsOrderly, with_made}
use Rattle.pool_session.proofs.ProgressLemmas.{Progress, Rooted}
use Rattle.pool_session.proofs.folders.make_dirs.Given as goal

-- the folders so far are there, and those that are left can be made
abbrev pub invariant-loop-dir : goal.invariant-loop-dir
invariant-loop-dir g l =
    let content = g.D.SharedDisk.content in
    let faults = g.D.SharedDisk.faults in
    (known : List Dir) × IsOrderly known (drop l.dir-index l.dirs)
    × (with_made known (drop l.dir-index l.dirs) ≡ with_made (Root ∷ []) l.dirs)
    × (faults l.disk ≡ faults l.fn.disk)
    × ((e : Content) → HasSome known (drop l.dir-index l.dirs) e → HasSome (Root ∷ []) l.dirs e)
    × ((d : Content) → content l.fn.disk ≡ Some d → HasJust (Root ∷ []) d → (e : Content) × (content l.disk ≡ Some e) × HasJust known e)
    × ((d : Content) → content l.fn.disk ≡ Some d → (e : Content) × (content l.disk ≡ Some e)
    × ((q : Dir) → e.dir q ≡ false → d.dir q ≡ false)
    × (((q : Dir) → IsAmong (drop l.dir-index l.dirs) q → d.dir q ≡ false) → (q : Dir) → IsAmong l.dirs q → d.dir q ≡ false))
    × ((d : Content) → content l.fn.disk ≡ Some d → (e : Content) × (content l.disk ≡ Some e) × Progress l.dirs (drop l.dir-index l.dirs) d e × Rooted l.dirs known (drop l.dir-index l.dirs) d e)
