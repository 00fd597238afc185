-- No stray folder or file, nothing left to recover, and no unsynced write but those that leases allow.
-- Claim: the first and the last after every call of the disk and any crash there; the second once recovery has answered ok.
use Rattle.std.specs.Prelude.{◌≡◌, ◌⊎◌, false, Some, None}
use Rattle.sd_names.specs.UpSet.{Hosts}
use Rattle.sd_names.specs.declared.id.Id.{Id}
use Rattle.sd_names.specs.declared.place.Dir.TheVariants as dir
use Rattle.sd_names.specs.declared.place.Name.{Name}
use Rattle.sd_names.specs.declared.place.Name.TheVariants as name
use Rattle.sd_names.specs.declared.place.Place.{Place}
use Rattle.shared_disk.specs.Content.{Content, File}
use Rattle.shared_disk.specs.NameCalls.{place_in}
use Rattle.domain_meta.specs.declared.record.DomainRecord.{DomainRecord}
use Rattle.pool_model.specs.Leases.{IsNamed, IsTasked, IsUnnamed}
use Rattle.pool_model.specs.Pool.{Pool}
use Rattle.pool_model.specs.Standing.{IsAlive, IsHeldFile, IsVolumeName}
use Rattle.pool_model.specs.Tasks.{IsMaking, NoneOpen}

-- What no sector names has no folder, and the pool has no such image: so its sector comes first and goes last. A removed
-- image's folder is there only while its task is open. A volume's file has its text, but where a task makes or removes the image.
pub record IsCovered (d : Content) (p : Pool) (sd i : Id) : Type 0 where
  pub image : IsUnnamed p sd i → p.image sd i ≡ None
  pub folder : IsUnnamed p sd i → d.dir (dir.Image sd i) ≡ false
  pub removed : IsUnnamed p sd i → d.dir (dir.Removed sd i) ≡ false
  pub recovered : IsNamed p sd i → (IsMaking p sd i → ⊥) → d.dir (dir.Removed sd i) ≡ false
  pub texts : IsNamed p sd i → (IsMaking p sd i → ⊥) → (v : Id) (f : File) → d.file (place_in (dir.Image sd i) (name.Volume v)) ≡ Some f
      → (g : File) × (d.file (place_in (dir.Image sd i) (name.Meta v)) ≡ Some g)

abbrev pub Covered : Content → Pool → Type 0
Covered d p = (sd : Id) (r : DomainRecord) → p.domain sd ≡ Some r → (i : Id) → IsCovered d p sd i

-- no task is open, and no sector is held for one
pub record Tidy (d : Content) (p : Pool) : Type 0 where
  pub covered : Covered d p
  pub none_open : NoneOpen p
  pub none_held : (sd i : Id) → IsTasked p sd i → ⊥

-- Each unsynced write is of a host that is up, and in the files of volumes and their texts of one that holds the image.
pub record Keeps (up : Hosts) (d : Content) (p : Pool) : Type 0 where
  pub covered : Covered d p
  pub alive : (q : Place) (f : File) → d.file q ≡ Some f → IsAlive up f
  pub held : (sd : Id) (r : DomainRecord) → p.domain sd ≡ Some r → (i : Id) (n : Name) (f : File) → IsVolumeName n
      → (d.file (place_in (dir.Image sd i) n) ≡ Some f) ⊎ (d.file (place_in (dir.Removed sd i) n) ≡ Some f) → IsHeldFile p sd i f
