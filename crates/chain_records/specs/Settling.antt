-- What settling makes of the records of an image: each volume names its parent that counts.
use Rattle.std.specs.Prelude.{◌≡◌, ◌⊎◌, true, List, Contains, Option, Some, None, unwrap_or}
use Rattle.sd_names.specs.Id.{zero_id}
use Rattle.sd_names.specs.declared.id.Id.{Id}
use Rattle.sd_names.specs.declared.kinds.VolType.{VolType}
use Rattle.volume_meta.specs.declared.record.VolumeRecord.{VolumeRecord}
use Rattle.chain_model.specs.Records.{Records, is_passed, parent}
use Rattle.chain_model.specs.Chain.{IsBelow}
use Rattle.chain_model.specs.Folder.{Volumes}
use Rattle.chain_model.specs.Headers.{backing}
use Rattle.chain_model.specs.Up.{up_of}

-- w is the parent of v that counts
abbrev pub IsOver : Records → Id → Id → Type 0
IsOver r v w = (vs : List Id) × IsBelow r v vs × (up_of r vs ≡ Some w)

-- the parent of v is passed over
abbrev pub HasPassedParent : Records → Id → Type 0
HasPassedParent r v = (w : Id) × (parent r v ≡ Some w) × (is_passed r w ≡ true)

-- once each volume names its parent that counts, some volume names v
abbrev pub IsNamed : Records → Id → Type 0
IsNamed r v = (u : Id) × IsOver r u v

-- a record whose parent and VOLTYPE may have been rewritten, the parent to the one that counts, zeros standing for none
abbrev pub IsRewritten : Records → Id → Option VolumeRecord → Option VolumeRecord → Type 0
IsRewritten r v None o = o ≡ None
IsRewritten r v (Some x) o =
    (p : Id) × (t : VolType) × (o ≡ Some (record x { parent = p; voltype = t }))
    × ((vs : List Id) → IsBelow r v vs → p ≡ unwrap_or (up_of r vs) zero_id)

-- the records s are those of r once all parents are rewritten
abbrev pub AreRewritten : Records → Records → Type 0
AreRewritten r s = (v : Id) → IsRewritten r v (r v) (s v)

-- on the way there: some records are rewritten, and the others are as they were
abbrev pub ArePartlyRewritten : Records → Records → Type 0
ArePartlyRewritten r s = (v : Id) → (s v ≡ r v) ⊎ IsRewritten r v (r v) (s v)

-- Each header along a path names the parent that counts, and that of a base none. What it names is read with the records s.
abbrev pub NameUps : Records → Records → Volumes → List Id → Type 0
NameUps r s y path = (u : Id) (us : List Id) → Contains path u → IsBelow r u us → backing s y u ≡ up_of r us
