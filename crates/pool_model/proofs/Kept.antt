-- What standing disks keep.
use Rattle.sd_names.specs.UpSet.{Hosts}
use Rattle.shared_disk.specs.Content.{Content}
use Rattle.pool_model.specs.Covered.{Covered, Keeps}
use Rattle.pool_model.specs.Pool.{Pool}
use Rattle.pool_model.specs.Standing.{ImageStands, Stands}

pub standing_covered : (up : Hosts) (d : Content) (p : Pool) → Stands up d p → Covered d p
standing_covered up d p stands sd r listed i = record {
  image = λ none. (one.gone none).image;
  folder = λ none. (one.gone none).folder;
  removed = λ none. (one.gone none).removed;
  recovered = λ named idle. (one.there named idle).1.removed;
  texts = λ named idle v f. (one.there named idle).1.texts v f;
}
  where
    one : ImageStands up d p sd r.version i
    one = stands.image sd r listed i

pub standing_keeps : (up : Hosts) (d : Content) (p : Pool) → Stands up d p → Keeps up d p
standing_keeps up d p stands = record {
  covered = standing_covered up d p stands;
  alive = stands.alive;
  held = λ sd r listed i. (stands.image sd r listed i).held;
}
