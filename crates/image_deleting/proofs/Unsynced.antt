-- Whose unsynced writes a step of a deletion leaves.
use Rattle.std.proofs.Common.{ℕ, sym, subst}
use Rattle.sd_names.specs.UpSet.{Hosts}
use Rattle.shared_disk.specs.Calls.{IsSame}
use Rattle.shared_disk.specs.Content.{Content}
use Rattle.lease_area.specs.Hold.{domain_of as lease_domain, leases_of, record_of, slot_of}
use Rattle.lease_area.specs.Move.{image_taken, next_sector}
use Rattle.lease_area.specs.Sector.{sector_bytes}
use Rattle.lease_area.specs.declared.sector.Kind.TheVariants.{Task as ForTask}
use Rattle.lease_area.specs.declared.sector.Sector.TheVariants.{Empty, Lease}
use Rattle.task_store.specs.TaskText.{text_of}
use Rattle.task_store.specs.declared.task.Task.{Task}
use Rattle.task_files.specs.Write.{CallOf as WriteCall, replacing, stage_of as write_stage}
use Rattle.task_files.specs.declared.write.TaskWrite.{TaskWrite}
use Rattle.image_removing.specs.Removing.{RemovalTurn, own_folder as own_of, removed_folder as removed_of, removed_place}
use Rattle.image_removing.specs.Steps.{CallIn as RemovalCallIn}
use Rattle.image_removing.specs.declared.removing.ImageRemoving.{ImageRemoving}
use Rattle.image_removing.specs.declared.removing.Stage.{Stage as RemovalStage}
use Rattle.image_removing.specs.declared.removing.Stage.TheVariants as removal
use Rattle.unsynced_laws.specs.Unsynced.{HasOnlyOf, LeavesOnlyOf, LeavesOnlyOld}
use Rattle.unsynced_laws.proofs.Unsynced.{folder_gone, folder_moved, gone, moved_on, named, replaced}
use Rattle.image_deleting.specs.Calls.{CallIn, WriteTurn}
use Rattle.image_deleting.specs.Deleting.{DeleteTurn}
use Rattle.image_deleting.specs.RemovalTask.{domain_of, image_of}
use Rattle.image_deleting.specs.declared.deleting.Stage.{Stage}
use Rattle.image_deleting.specs.declared.deleting.Stage.TheVariants.{Scanning, Taking, Opening, Removing, Clearing, Ending}
use Rattle.image_deleting.specs.declared.removal_task.RemovalTask.{RemovalTask}

nothing : (host : ℕ) (d e : Content) → IsSame d e → LeavesOnlyOf host d e
nothing host d e same those own has = subst (λ (c : Content). HasOnlyOf those c) (sym same) has

text_written : (w : TaskWrite) (t : Task) (host faults : ℕ) (step : WriteTurn) (d e : Content) → WriteCall w host faults t step d e → LeavesOnlyOf host d e
text_written w t host faults step d e call = replaced w.replace (write_stage w) host faults (text_of t) (replacing step) d e call

files_removed : (s : RemovalStage) (r : ImageRemoving) (faults : ℕ) (step : RemovalTurn) (d e : Content) → RemovalCallIn s r faults step d e → LeavesOnlyOld d e
files_removed (removal.Listing pass after) r faults step d e w those has = named d e (removed_of r) after w.0 w.1 those has
files_removed (removal.Removing pass n) r faults step d e w those has = gone d e (removed_place r n) w.0 w.1 those has
files_removed (removal.Ending pass) r faults step d e w those has = folder_gone d e (removed_of r) w.0 w.1 those has
files_removed removal.Moving r faults step d e w those has = folder_moved d e (own_of r) (removed_of r) w.0 w.1 those has

pub leaves_only : (s : Stage) (t : RemovalTask) (host : ℕ) (up : Hosts) (faults : ℕ) (turn : DeleteTurn) (d e : Content) → CallIn s t host up faults turn d e → LeavesOnlyOf host d e
leaves_only (Scanning s) t host up faults turn d e w those own has = nothing host d e w.4.0 those own has
leaves_only (Taking slot found) t host up faults turn d e w those own has =
    moved_on d e host slot (leases_of (domain_of t)) (sector_bytes (Lease found)) (sector_bytes (next_sector (image_taken up host ForTask (image_of t) (Lease found)) (Lease found))) w.1.0 w.1.1 those has
leaves_only (Opening lease w) t host up faults turn d e call those own has = text_written w t.begun host faults call.0 d e call.1 those own has
leaves_only (Removing lease r) t host up faults turn d e w those own has = files_removed _ r faults w.0 d e w.1 those has
leaves_only (Clearing lease) t host up faults turn d e w those own has =
    moved_on d e host (slot_of lease) (leases_of (lease_domain lease)) (sector_bytes (Lease (record_of lease))) (sector_bytes Empty) w.1.0 w.1.1 those has
leaves_only (Ending w) t host up faults turn d e call those own has = text_written w t.done host faults call.0 d e call.1 those own has
