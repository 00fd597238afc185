-- Whose unsynced writes a step of a making leaves.
use Rattle.std.proofs.Common.{ℕ, None}
use Rattle.sd_names.specs.declared.place.Dir.TheVariants.{Root, Images}
use Rattle.sd_names.specs.declared.turn.Turn.{Turn}
use Rattle.shared_disk.specs.Content.{Content}
use Rattle.whole_file.specs.Replace.{stage_of}
use Rattle.unsynced_laws.specs.Unsynced.{LeavesOnlyOf}
use Rattle.unsynced_laws.proofs.Unsynced.{folder_made, gone, listed, made, measured, put_out, replaced}
use Rattle.pool_making.specs.Layout.{area_place, area_size, folder_of, metadata_of}
use Rattle.pool_making.specs.Making.{domain_of, text_of}
use Rattle.pool_making.specs.Steps.{CallOf}
use Rattle.pool_making.specs.declared.making.MakePool.{MakePool}
use Rattle.pool_making.specs.declared.making.Stage.{Stage}
use Rattle.pool_making.specs.declared.making.Stage.TheVariants.{Listing, Checking, Searching, Making, Clearing, Creating, Syncing, Writing}

pub leaves_only : (m : MakePool) (s : Stage) (host faults : ℕ) (turn : Turn MakePool (Unit {0}) (Unit {0})) (d e : Content) → CallOf s m host faults turn d e
    → LeavesOnlyOf host d e
leaves_only m (Listing after) host faults turn d e w those own has = listed d e Root after w.0 w.1 those has
leaves_only m (Checking q) host faults turn d e w those own has = measured d e (metadata_of q) w.0 w.1 those has
leaves_only m Searching host faults turn d e w those own has = listed d e (Images (domain_of m)) None w.0 w.1 those has
leaves_only m (Making f) host faults turn d e w those own has = folder_made d e (folder_of (domain_of m) f) w.0 w.1 those has
leaves_only m (Clearing a) host faults turn d e w those own has = gone d e (area_place (domain_of m) a) w.0 w.1 those has
leaves_only m (Creating a) host faults turn d e w those own has = made d e host (area_size a) (area_place (domain_of m) a) w.0 w.1 those own has
leaves_only m (Syncing a) host faults turn d e w those own has = put_out d e host (area_place (domain_of m) a) w.0 w.1 those has
leaves_only m (Writing r) host faults turn d e w those own has =
    replaced r (stage_of r) host faults (text_of m) w.0 d e w.1 those own has
