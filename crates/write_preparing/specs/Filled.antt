-- What is known of a layer's file once all new clusters of a part are written whole, before it is synced.
use Rattle.std.specs.Prelude.{◌≡◌, ℕ, ◌+◌, ◌<◌, ◌≤◌, List, Option, Some}
use Rattle.shared_disk.specs.Calls.{synced}
use Rattle.shared_disk.specs.Content.{File, seen}
use Rattle.image_model.specs.File.{sector_in}
use Rattle.volume_meta.specs.declared.record.VolumeRecord.{VolumeRecord}
use Rattle.qcow_layer.specs.Opening.{capacity_kept, header_kept}
use Rattle.qcow_layer.specs.declared.layer.Layer.{Layer}
use Rattle.chain_model.specs.Own.{own_in, sectors_of}
use Rattle.own_laws.specs.Sectors.{cluster_of, sector_at}
use Rattle.chain_laws.specs.Laid.{IsInPart, Laying, sector_in_part}
use Rattle.part_laws.specs.Steps.{StandsFor}
use Rattle.write_planning.specs.Linked.{place_at}
use Rattle.write_planning.specs.Plan.{span_of}
use Rattle.write_planning.specs.Span.{at_of, count_of, first_of, length_of}
use Rattle.write_preparing.specs.Placed.{clusters_of, plan_of}
use Rattle.write_preparing.specs.Preparing.{IsPrepared}
use Rattle.write_preparing.specs.declared.placed.Placed.{Placed}

-- What is to stand at a new place for a sector that the volume itself holds so or doesn't: the part's in the part, and past it what
-- the volume reads as.
pub record StandsWhole (l : Laying) (k : ℕ) (held : Option (List ℕ)) (there : List ℕ) : Type 0 where
  pub stands : StandsFor l k held there
  pub part : IsInPart l.part k → there ≡ sector_in_part l.part k

-- The first clusters that the part meets, so many, are written whole where they get a place: there the host sees of each of the
-- volume's sectors what it is to be.
abbrev pub AreFilled : Placed → ℕ → Layer → Laying → VolumeRecord → ℕ → File → Type 0
AreFilled p count w l x host f =
    (j place k : ℕ) → j < count → place_at (plan_of p) (clusters_of p) j ≡ Some place → cluster_of (header_kept w) k ≡ first_of (span_of (plan_of p)) + j → k < sectors_of x
    → StandsWhole l k (own_in x (synced host f) k) (sector_in f.size (seen host f) (sector_at (header_kept w) place k))

-- so it is of all of them, and the part lies within the volume
pub record IsFilled (p : Placed) (w : Layer) (l : Laying) (x : VolumeRecord) (host : ℕ) (f : File) : Type 0 where
  pub prepared : IsPrepared p w l x host f
  pub within : at_of (span_of (plan_of p)) + length_of (span_of (plan_of p)) ≤ capacity_kept w
  pub filled : AreFilled p (count_of (span_of (plan_of p))) w l x host f
