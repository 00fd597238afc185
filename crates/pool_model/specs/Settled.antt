-- A chain as opening an image leaves it, in a folder in which nothing is unsynced.
-- Claim: of each image that `open` was answered ok for, and after each verb of the manager that opens an image.
use Rattle.std.specs.Prelude.{◌≡◌, ◌↔◌, true, List, Option, Some, unwrap_or}
use Rattle.sd_names.specs.Id.{zero_id}
use Rattle.sd_names.specs.declared.id.Id.{Id}
use Rattle.sd_names.specs.declared.kinds.VolType.TheVariants.{Leaf}
use Rattle.volume_meta.specs.declared.record.VolumeRecord.{VolumeRecord}
use Rattle.chain_model.specs.Chain.{path_of}
use Rattle.chain_model.specs.Folder.{Volumes}
use Rattle.chain_model.specs.Headers.{NameNext}
use Rattle.chain_model.specs.Reading.{IsReading}
use Rattle.chain_model.specs.Records.{Records, is_legal, parent}
use Rattle.chain_model.specs.Up.{IsUp}

-- some volume names this one as its parent
abbrev pub IsParent : Records → Id → Type 0
IsParent r v = (u : Id) × (parent r u ≡ Some v)

-- Each header of the path names the next volume of it, each text names the parent that counts, and a LEGAL volume is a LEAF
-- exactly where no text names it.
pub record IsSettledChain (r : Records) (x : Volumes) : Type 0 where
  pub reading : Id
  pub below : List Id
  pub reads : IsReading r reading below
  pub headers : NameNext r x (path_of r reading below)
  pub parents : (v : Id) (y : VolumeRecord) (up : Option Id) → r v ≡ Some y → IsUp r v up → y.parent ≡ unwrap_or up zero_id
  pub leaves : (v : Id) (y : VolumeRecord) → r v ≡ Some y → is_legal r v ≡ true → (y.voltype ≡ Leaf) ↔ (IsParent r v → ⊥)
