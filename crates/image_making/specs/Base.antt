-- The record of a new image's only volume.
use Rattle.std.specs.Prelude.{ℕ, false, List, codes}
use Rattle.sd_names.specs.Id.{zero_id}
use Rattle.sd_names.specs.declared.id.Id.{Id}
use Rattle.sd_names.specs.declared.kinds.Legality.TheVariants.{Legal}
use Rattle.sd_names.specs.declared.kinds.VolType.TheVariants.{Leaf}
use Rattle.volume_meta.specs.declared.record.VolumeRecord.{VolumeRecord}
use Rattle.image_making.specs.declared.base.Shape.{Shape}

-- a LEGAL leaf without a parent, of generation 0
abbrev pub base_record : Id → Id → Shape → List ℕ → VolumeRecord
base_record sd image shape text = record {
  capacity = shape.capacity;
  ctime = shape.ctime;
  description = text;
  disk_type = codes "DATA";
  domain = sd;
  format = shape.format;
  generation = 0;
  image = image;
  legality = Legal;
  merged = false;
  parent = zero_id;
  kind = shape.kind;
  voltype = Leaf;
}
