-- Which volume a file is of.
use Rattle.sd_names.specs.Id.{zero_id}
use Rattle.sd_names.specs.declared.id.Id.{Id}
use Rattle.sd_names.specs.declared.place.Name.{Name}
use Rattle.sd_names.specs.declared.place.Name.TheVariants.{Volume}

-- the volume whose file this is; zeros where it isn't the file of a volume
abbrev pub volume_of : Name → Id
volume_of (Volume v) = v
volume_of _ = zero_id
