-- Whose unsynced writes a step of a creation leaves.
use Rattle.std.proofs.Common.{ℕ, Option, Some, None, sym, subst}
use Rattle.sd_names.specs.UpSet.{Hosts}
use Rattle.sd_names.specs.declared.place.Dir.TheVariants as dir
use Rattle.sd_names.specs.declared.turn.Turn.{Turn}
use Rattle.shared_disk.specs.Calls.{IsSame}
use Rattle.shared_disk.specs.Content.{Content}
use Rattle.lease_area.specs.Hold.{domain_of as lease_domain, leases_of, record_of, slot_of}
use Rattle.lease_area.specs.Move.{freed}
use Rattle.lease_area.specs.Sector.{sector_bytes}
use Rattle.lease_area.specs.declared.sector.Sector.TheVariants.{Empty, Lease}
use Rattle.task_store.specs.TaskText.{text_of}
use Rattle.task_store.specs.declared.task.Task.{Task}
use Rattle.task_files.specs.Write.{CallOf as WriteCall, replacing, stage_of as write_stage}
use Rattle.task_files.specs.declared.write.TaskWrite.{TaskWrite}
use Rattle.layer_creating.specs.Creating.{CallIn as LayerCallIn, WritesNext, made_of, place_of}
use Rattle.layer_creating.specs.declared.backing.Backing.{Backing}
use Rattle.layer_creating.specs.declared.creating.Creating.{Creating}
use Rattle.layer_creating.specs.declared.creating.Made.{Made}
use Rattle.layer_creating.specs.declared.creating.Made.TheVariants as made_stage
use Rattle.whole_file.specs.Replace.{stage_of as replace_stage}
use Rattle.image_making.specs.Making.{image_of as made_in, text_of as text_made}
use Rattle.image_making.specs.NewImage.{folder_of, volume_place}
use Rattle.image_making.specs.Steps.{CallOf as MakingCall, MakeTurn}
use Rattle.image_making.specs.declared.making.ImageMaking.{ImageMaking}
use Rattle.image_making.specs.declared.making.Stage.{Stage as MakingStage}
use Rattle.image_making.specs.declared.making.Stage.TheVariants as making
use Rattle.unsynced_laws.specs.Unsynced.{HasOnlyOf, LeavesOnlyOf}
use Rattle.unsynced_laws.proofs.Unsynced.{folder_made, made, moved_on, named, put_out, replaced, written}
use Rattle.image_creating.specs.Calls.{CallIn, WriteTurn}
use Rattle.image_creating.specs.Creating.{CreateTurn}
use Rattle.image_creating.specs.ImageTask.{domain_of, held, image_of}
use Rattle.image_creating.specs.declared.creating.Stage.{Stage}
use Rattle.image_creating.specs.declared.creating.Stage.TheVariants.{Asking, Scanning, Opening, Taking, Making, Ending, Releasing}
use Rattle.image_creating.specs.declared.image_task.ImageTask.{ImageTask}

nothing : (host : ℕ) (d e : Content) → IsSame d e → LeavesOnlyOf host d e
nothing host d e same those own has = subst (λ (c : Content). HasOnlyOf those c) (sym same) has

text_written : (w : TaskWrite) (t : Task) (host faults : ℕ) (step : WriteTurn) (d e : Content) → WriteCall w host faults t step d e → LeavesOnlyOf host d e
text_written w t host faults step d e call = replaced w.replace (write_stage w) host faults (text_of t) (replacing step) d e call

-- a sector is written into a layer's file, or its file is made or synced
next_written : (b : Option Backing) (c : Creating) (host faults : ℕ) (step : Turn Creating (Unit {0}) (Unit {0})) (d e : Content) → WritesNext b c host faults step d e → LeavesOnlyOf host d e
next_written None c host faults step d e w those own has = written d e host _ (place_of c) _ w.0 w.1 those own has
next_written (Some b) c host faults step d e w those own has = written d e host _ (place_of c) _ w.0 w.1 those own has

layer_made : (k : Made) (c : Creating) (host faults : ℕ) (step : Turn Creating (Unit {0}) (Unit {0})) (d e : Content) → LayerCallIn k c host faults step d e → LeavesOnlyOf host d e
layer_made made_stage.Begun c host faults step d e w those own has = made d e host _ (place_of c) w.0 w.1 those own has
layer_made made_stage.Created c host faults step d e w those own has = written d e host _ (place_of c) _ w.0 w.1 those own has
layer_made made_stage.Counted c host faults step d e w those own has = written d e host _ (place_of c) _ w.0 w.1 those own has
layer_made made_stage.Tabled c host faults step d e w those own has = next_written _ c host faults step d e w those own has
layer_made made_stage.Named c host faults step d e w those own has = written d e host _ (place_of c) _ w.0 w.1 those own has
layer_made made_stage.Headed c host faults step d e w those own has = put_out d e host (place_of c) w.0 w.1 those has

files_made : (s : MakingStage) (m : ImageMaking) (host faults : ℕ) (step : MakeTurn) (d e : Content) → MakingCall s m host faults step d e → LeavesOnlyOf host d e
files_made making.Begun m host faults step d e w those own has = folder_made d e (folder_of (made_in m)) w.0 w.1 those has
files_made making.Filling m host faults step d e w those own has = made d e host _ (volume_place (made_in m)) w.0 w.1 those own has
files_made making.Syncing m host faults step d e w those own has = put_out d e host (volume_place (made_in m)) w.0 w.1 those has
files_made (making.Layering c) m host faults step d e w those own has = layer_made (made_of c) c host faults w.0 d e w.1 those own has
files_made (making.Writing r) m host faults step d e w those own has = replaced r (replace_stage r) host faults (text_made m) w.0 d e w.1 those own has

pub leaves_only : (s : Stage) (t : ImageTask) (host : ℕ) (up : Hosts) (faults : ℕ) (turn : CreateTurn) (d e : Content) → CallIn s t host up faults turn d e → LeavesOnlyOf host d e
leaves_only (Asking m) t host up faults turn d e w those own has = named d e (dir.Image (domain_of t) (image_of t)) None w.0 w.1 those has
leaves_only (Scanning m s) t host up faults turn d e w those own has = nothing host d e w.4.0 those own has
leaves_only (Opening m slot w) t host up faults turn d e call those own has = text_written w t.begun host faults call.0 d e call.1 those own has
leaves_only (Taking m slot) t host up faults turn d e w those own has =
    moved_on d e host slot (leases_of (domain_of t)) (sector_bytes Empty) (sector_bytes (held t host)) w.1.0 w.1.1 those has
leaves_only (Making m lease) t host up faults turn d e w those own has = files_made _ m host faults w.0 d e w.1 those own has
leaves_only (Ending lease w) t host up faults turn d e call those own has = text_written w t.done host faults call.0 d e call.1 those own has
leaves_only (Releasing lease) t host up faults turn d e w those own has =
    moved_on d e host (slot_of lease) (leases_of (lease_domain lease)) (sector_bytes (Lease (record_of lease))) (sector_bytes (Lease (freed (record_of lease)))) w.1.0 w.1.1 those has
