-- Records of a list that are rewritten.
use Rattle.std.specs.Prelude.{◌≡◌, ℕ, zero, suc, List, [], ◌∷◌, if◌then◌else◌, option_map}
use Rattle.sd_names.specs.declared.id.Id.{Id}
use Rattle.sd_names.specs.declared.kinds.VolType.{VolType}
use Rattle.shared_disk.specs.Places.{id_is}
use Rattle.volume_meta.specs.declared.record.VolumeRecord.{VolumeRecord}
use Rattle.chain_model.specs.Records.{Records}
use Rattle.chain_records.specs.declared.volume.Volume.{Volume}

-- the first volume of an identifier stands at this place
abbrev pub IsAt : List Volume → Id → ℕ → Type 0
IsAt [] v i = ⊥
IsAt (x ∷ xs) v zero = x.id ≡ v
IsAt (x ∷ xs) v (suc i) = (x.id ≡ v → ⊥) × IsAt xs v i

-- a record that names this parent, or has this VOLTYPE, and is else as it was
abbrev pub naming : Id → VolumeRecord → VolumeRecord
naming p x = record x { parent = p }

abbrev pub typed : VolType → VolumeRecord → VolumeRecord
typed t x = record x { voltype = t }

-- a volume with a changed record
abbrev pub with_meta : (VolumeRecord → VolumeRecord) → Volume → Volume
with_meta f x = record x { meta = f x.meta }

-- records of which that of v is changed
abbrev pub changed : Id → (VolumeRecord → VolumeRecord) → Records → Records
changed v f r u = if id_is v u then option_map f (r u) else r u
