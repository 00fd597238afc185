-- The pool: what the disk means to those who use it, with no file, table or unsynced write in it.
-- Claim: at each moment the disk stands for one such pool (`Standing`), and the replies are those that it gives.
use Rattle.std.specs.Prelude.{ℕ, Bool, false, List, [], if◌then◌else◌, ◌==◌, Option, None, Result}
use Rattle.sd_names.specs.declared.fault.DomainFault.{DomainFault}
use Rattle.sd_names.specs.declared.fault.VolumeFault.{VolumeFault}
use Rattle.sd_names.specs.declared.id.Id.{Id}
use Rattle.sd_names.specs.declared.refusal.Refusal.{Refusal}
use Rattle.shared_disk.specs.Content.{zero_sector}
use Rattle.shared_disk.specs.Places.{id_is}
use Rattle.volume_meta.specs.declared.record.VolumeRecord.{VolumeRecord}
use Rattle.domain_meta.specs.declared.record.DomainRecord.{DomainRecord}
use Rattle.task_store.specs.declared.task.Task.{Task}
use Rattle.lease_area.specs.declared.sector.Sector.{Sector}
use Rattle.lease_area.specs.declared.sector.Sector.TheVariants.{Empty}
use Rattle.image_model.specs.Room.{Room}

-- A volume. Its record has the parent that counts for the one that its text names, and LEAF for its place in the chain:
-- a text may lag behind in these two until the image is opened.
pub record Volume : Type 0 where
  -- what its text says, or what is wrong with it
  pub says : Result VolumeRecord VolumeFault
  -- its file's length in bytes, where the file is there
  pub length : Option ℕ
  -- the room of a layer whose header can be read
  pub room : Option Room
  -- its sectors of 512 bytes, below its capacity, where it is LEGAL and the image can be opened
  pub flat : ℕ → List ℕ

-- A write that runs or was cut: these bytes are laid over the reading volume from this sector on, and files have these
-- rooms once it is done, but for their lengths.
pub record Torn : Type 0 where
  pub at : ℕ
  pub bytes : List ℕ
  pub room : Id → Option Room

-- An image that a lease sector names: why it can't be opened, its volumes, and the write of which each sector may be old or new.
pub record Image : Type 0 where
  pub fault : Option Refusal
  pub volume : Id → Option Volume
  pub torn : Option Torn

-- a writing of a box that runs or was cut: its host, and the eight sectors that it writes
pub record Writing : Type 0 where
  pub host : ℕ
  pub sector : ℕ → List ℕ

-- a box of eight sectors, each of which may also be that of one of the writings
pub record Box : Type 0 where
  pub sector : ℕ → List ℕ
  pub writings : List Writing

pub data Side : Type 0 where
  inbox : Side
  outbox : Side

-- What has happened, as counts that never fall, from any start: how often an image was given a sector, and how often hosts
-- other than this one took its sector.
pub record History : Type 0 where
  pub named : Id → Id → ℕ
  pub foreign : Id → Id → ℕ → ℕ

-- The pool, by identifiers of domains, images and tasks, and by the numbers of sectors and boxes.
pub record Pool : Type 0 where
  -- the domain that is the master of the pool
  pub master : Option Id
  -- the domains that the master lists, with their records
  pub domain : Id → Option DomainRecord
  -- the other domains whose text is there: what it says, or what is wrong with it
  pub stray : Id → Option (Result DomainRecord DomainFault)
  -- the domains that aren't listed and whose images folder shows a folder
  pub shows : Id → Bool
  -- the lease sectors of listed domains, 0 to 1,023
  pub sector : Id → ℕ → Sector
  -- their boxes, by the host's number
  pub box : Side → Id → ℕ → Box
  pub image : Id → Id → Option Image
  pub task : Id → Option Task
  pub history : History

-- ---- the pool with one thing changed

abbrev pub at_id : {A : Type 0} → (Id → A) → Id → A → Id → A
at_id f i a j = if id_is j i then a else f j

abbrev pub at_number : {A : Type 0} → (ℕ → A) → ℕ → A → ℕ → A
at_number f k a j = if j == k then a else f j

abbrev pub put_sector : Pool → Id → ℕ → Sector → Pool
put_sector p sd k s = record p { sector = at_id p.sector sd (at_number (p.sector sd) k s) }

abbrev pub put_image : Pool → Id → Id → Option Image → Pool
put_image p sd i m = record p { image = at_id p.image sd (at_id (p.image sd) i m) }

abbrev pub put_task : Pool → Id → Option Task → Pool
put_task p t x = record p { task = at_id p.task t x }

-- ---- nothing

abbrev pub empty_box : Box
empty_box = record { sector = λ k. zero_sector; writings = [] }

-- a pool that isn't made yet
abbrev pub no_pool : History → Pool
no_pool history = record {
  master = None;
  domain = λ sd. None;
  stray = λ sd. None;
  shows = λ sd. false;
  sector = λ sd k. Empty;
  box = λ side sd h. empty_box;
  image = λ sd i. None;
  task = λ t. None;
  history = history;
}
