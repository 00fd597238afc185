-- What the verbs make: a pool with its master, an image with its first volume, a file of whole clusters.
use Rattle.std.specs.Prelude.{ℕ, ◌+◌, ◌-◌, ◌*◌, ◌/◌, ◌%◌, ◌^◌, ◌==◌, ◌||◌, nat_lt, false, if◌then◌else◌, Option, Some, None, Ok}
use Rattle.std.specs.Option.{option_map}
use Rattle.sd_names.specs.declared.id.Id.{Id}
use Rattle.sd_names.specs.declared.kinds.Format.{Format}
use Rattle.sd_names.specs.declared.kinds.Format.TheVariants.{Raw, Cow}
use Rattle.shared_disk.specs.Content.{zero_sector}
use Rattle.shared_disk.specs.Places.{id_is}
use Rattle.volume_meta.specs.declared.record.VolumeRecord.{VolumeRecord}
use Rattle.domain_meta.specs.declared.record.DomainRecord.{DomainRecord}
use Rattle.lease_area.specs.declared.sector.Sector.TheVariants.{Empty}
use Rattle.image_model.specs.Room.{Missing, Room}
use Rattle.pool_model.specs.Pool.{Image, Pool, Volume, at_id, empty_box}

-- The domain of a record is the master. It lists itself, has no images, and boxes of zeros.
abbrev pub master_pool : DomainRecord → Pool → Pool
master_pool r p = record p {
  master = Some r.sduuid;
  domain = at_id p.domain r.sduuid (Some r);
  sector = at_id p.sector r.sduuid (λ k. Empty);
  box = λ side. at_id (p.box side) r.sduuid (λ h. empty_box);
  image = at_id p.image r.sduuid (λ i. None);
}

-- ---- an image with one volume of zeros

-- the length of a new volume's file, in bytes: its capacity, or 20 clusters
abbrev pub made_length : Format → ℕ → ℕ
made_length Raw capacity = capacity
made_length Cow capacity = 1310720

-- the room of a new layer of 20 clusters of 65,536 bytes: header, refcount table, its first block and the L1 table are used
abbrev pub made_room : Room
made_room = record {
  length = 1310720;
  version = 3;
  cluster = 65536;
  mapped = 2 ^ 42;
  covered = 2 ^ 44;
  kind = λ k. Missing;
  table = λ k. false;
  used = λ c. nat_lt c 4 || (c % 32768 == 0);
}

abbrev pub room_made : Format → Option Room
room_made Raw = None
room_made Cow = Some made_room

abbrev pub base_volume : VolumeRecord → Volume
base_volume y = record {
  says = Ok y;
  length = Some (made_length y.format y.capacity);
  room = room_made y.format;
  flat = λ k. zero_sector;
}

abbrev pub base_image : VolumeRecord → Id → Image
base_image y v = record {
  fault = None;
  volume = λ w. if id_is w v then Some (base_volume y) else None;
  torn = None;
}

-- ---- a file of whole clusters

abbrev pub whole_length : Room → ℕ
whole_length r = (r.length + (r.cluster - 1)) / r.cluster * r.cluster

-- a layer whose file has whole clusters, zeros behind what it had
abbrev pub grown_volume : Room → Volume → Volume
grown_volume r x = record x { length = Some (whole_length r); room = Some (record r { length = whole_length r }) }

abbrev pub grown_image : Id → Room → Image → Image
grown_image w r m = record m { volume = λ u. if id_is u w then option_map (grown_volume r) (m.volume u) else m.volume u }
