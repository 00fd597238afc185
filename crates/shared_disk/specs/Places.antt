-- Whether two identifiers, folders, names or places are one.
use Rattle.std.specs.Prelude.{Bool, true, false, ◌&&◌}
use Rattle.std.specs.Str.{bytes_eq}
use Rattle.sd_names.specs.declared.id.Id.{Id}
use Rattle.sd_names.specs.declared.place.Dir.{Dir}
use Rattle.sd_names.specs.declared.place.Dir.TheVariants.{Root, Domain, DomMd, Images, Image, Removed, Master, Tasks}
use Rattle.sd_names.specs.declared.place.Name.{Name}
use Rattle.sd_names.specs.declared.place.Name.TheVariants.{Metadata, MetadataNew, Leases, Inbox, Outbox, Volume, Meta, MetaNew, MetaVolatile, VolumeLease, Task, TaskNew}
use Rattle.sd_names.specs.declared.place.Place.{Place}

abbrev pub id_is : Id → Id → Bool
id_is a b = bytes_eq a.0 b.0

abbrev pub dir_is : Dir → Dir → Bool
dir_is Root Root = true
dir_is (Domain a) (Domain b) = id_is a b
dir_is (DomMd a) (DomMd b) = id_is a b
dir_is (Images a) (Images b) = id_is a b
dir_is (Image a c) (Image b d) = id_is a b && id_is c d
dir_is (Removed a c) (Removed b d) = id_is a b && id_is c d
dir_is (Master a) (Master b) = id_is a b
dir_is (Tasks a) (Tasks b) = id_is a b
dir_is _ _ = false

abbrev pub name_is : Name → Name → Bool
name_is Metadata Metadata = true
name_is MetadataNew MetadataNew = true
name_is Leases Leases = true
name_is Inbox Inbox = true
name_is Outbox Outbox = true
name_is (Volume a) (Volume b) = id_is a b
name_is (Meta a) (Meta b) = id_is a b
name_is (MetaNew a) (MetaNew b) = id_is a b
name_is (MetaVolatile a) (MetaVolatile b) = id_is a b
name_is (VolumeLease a) (VolumeLease b) = id_is a b
name_is (Task a) (Task b) = id_is a b
name_is (TaskNew a) (TaskNew b) = id_is a b
name_is _ _ = false

abbrev pub place_is : Place → Place → Bool
place_is p q = dir_is p.dir q.dir && name_is p.name q.name
