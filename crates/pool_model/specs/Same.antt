-- Two pools that one disk stands for, with no host up: all that a pool says of it is one, but for what the disk doesn't tell.
use Rattle.std.specs.Prelude.{◌≡◌, ℕ, ◌<◌, Option, Some, None, Ok}
use Rattle.sd_names.specs.declared.id.Id.{Id}
use Rattle.sd_names.specs.declared.kinds.Legality.TheVariants.{Legal}
use Rattle.volume_meta.specs.declared.record.VolumeRecord.{VolumeRecord}
use Rattle.chain_model.specs.Own.{sectors_of}
use Rattle.pool_model.specs.Leases.{IsNamed, IsUnnamed}
use Rattle.pool_model.specs.Pool.{Box, Image, Pool, Side, Volume}
use Rattle.pool_model.specs.Tasks.{IsMaking}

-- Flat lists count where the volume is LEGAL and the image can be opened, below the volume's capacity.
pub record IsSameVolume (m : Image) (x y : Volume) : Type 0 where
  pub says : y.says ≡ x.says
  pub length : y.length ≡ x.length
  pub room : y.room ≡ x.room
  pub flat : (z : VolumeRecord) → m.fault ≡ None → x.says ≡ Ok z → z.legality ≡ Legal → (k : ℕ) → k < sectors_of z → y.flat k ≡ x.flat k

abbrev pub AlsoSameVolume : Image → Option Volume → Option Volume → Type 0
AlsoSameVolume m None None = Unit {0}
AlsoSameVolume m None (Some y) = ⊥
AlsoSameVolume m (Some x) None = ⊥
AlsoSameVolume m (Some x) (Some y) = IsSameVolume m x y

pub record IsSameImage (m n : Image) : Type 0 where
  pub fault : n.fault ≡ m.fault
  pub torn : n.torn ≡ m.torn
  pub volumes : (v : Id) → AlsoSameVolume m (m.volume v) (n.volume v)

abbrev pub AlsoSameImage : Option Image → Option Image → Type 0
AlsoSameImage None None = Unit {0}
AlsoSameImage None (Some n) = ⊥
AlsoSameImage (Some m) None = ⊥
AlsoSameImage (Some m) (Some n) = IsSameImage m n

pub record IsSameBox (b c : Box) : Type 0 where
  pub sectors : (k : ℕ) → k < 8 → c.sector k ≡ b.sector k
  pub writings : c.writings ≡ b.writings

-- History isn't compared, and an image that an open task makes or removes by its sector alone.
pub record SamePool (p q : Pool) : Type 0 where
  pub master : q.master ≡ p.master
  pub domain : (sd : Id) → q.domain sd ≡ p.domain sd
  pub stray : (sd : Id) → q.stray sd ≡ p.stray sd
  pub shows : (sd : Id) → q.shows sd ≡ p.shows sd
  pub sector : (sd : Id) (k : ℕ) → q.sector sd k ≡ p.sector sd k
  pub box : (side : Side) (sd : Id) (h : ℕ) → IsSameBox (p.box side sd h) (q.box side sd h)
  pub task : (t : Id) → q.task t ≡ p.task t
  pub named : (sd i : Id) → IsNamed p sd i → (IsMaking p sd i → ⊥) → AlsoSameImage (p.image sd i) (q.image sd i)
  pub unnamed : (sd i : Id) → IsUnnamed p sd i → q.image sd i ≡ p.image sd i
