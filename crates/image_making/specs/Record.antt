-- What holds of the record of a new image's only volume.
use Rattle.std.specs.Prelude.{◌≡◌}
use Rattle.sd_names.specs.Id.{zero_id}
use Rattle.sd_names.specs.declared.kinds.Legality.TheVariants.{Legal}
use Rattle.sd_names.specs.declared.kinds.VolType.TheVariants.{Leaf}
use Rattle.volume_meta.specs.declared.record.VolumeRecord.{VolumeRecord}
use Rattle.volume_texts.specs.Legible.{IsLegible}

-- The record of an image's only volume: a LEGAL leaf without a parent, into which nothing was merged.
pub record IsBase (r : VolumeRecord) : Type 0 where
  pub legible : IsLegible r
  pub legal : r.legality ≡ Legal
  pub leaf : r.voltype ≡ Leaf
  pub parent : r.parent ≡ zero_id
  pub generation : r.generation ≡ 0
