-- Names other than those of volumes and their texts say nothing on any outcome.
use Rattle.std.proofs.Common.{◌≡◌, ℕ, List, Option, Some, None, refl, sym, subst}
use Rattle.std.specs.Option.{option_map}
use Rattle.sd_names.specs.declared.id.Id.{Id}
use Rattle.sd_names.specs.declared.place.Name.TheVariants.{Metadata, MetadataNew, Leases, Inbox, Outbox, Volume, Meta, MetaNew, MetaVolatile, VolumeLease, Task, TaskNew}
use Rattle.shared_disk.specs.Content.{File}
use Rattle.shared_disk.specs.Crash.{IsAlso, IsFileOutcome, stable_file}
use Rattle.shared_disk.proofs.Outcomes.{stable_outcome}
use Rattle.chain_model.specs.Folder.{Folder, HoldSameVolumes, IsFolderOutcome, OnEachFolder, Volumes, volumes_of}
use Rattle.chain_model.specs.Records.{Records}
use Rattle.chain_model.specs.Flat.{IsFlat}
use Rattle.chain_model.proofs.Flats.{same_volumes}

-- a folder with these volumes, and with the other names of another
pub with_volumes : Folder → Volumes → Folder
with_volumes F x (Meta v) = x.text v
with_volumes F x (Volume v) = x.file v
with_volumes F x Metadata = option_map stable_file (F Metadata)
with_volumes F x MetadataNew = option_map stable_file (F MetadataNew)
with_volumes F x Leases = option_map stable_file (F Leases)
with_volumes F x Inbox = option_map stable_file (F Inbox)
with_volumes F x Outbox = option_map stable_file (F Outbox)
with_volumes F x (MetaNew v) = option_map stable_file (F (MetaNew v))
with_volumes F x (MetaVolatile v) = option_map stable_file (F (MetaVolatile v))
with_volumes F x (VolumeLease v) = option_map stable_file (F (VolumeLease v))
with_volumes F x (Task v) = option_map stable_file (F (Task v))
with_volumes F x (TaskNew v) = option_map stable_file (F (TaskNew v))

stable_at : (a : Option File) → IsAlso IsFileOutcome a (option_map stable_file a)
stable_at None = tt
stable_at (Some f) = stable_outcome f

pub volumes_outcome : (F : Folder) (x : Volumes) → ((v : Id) → IsAlso IsFileOutcome (F (Meta v)) (x.text v)) → ((v : Id) → IsAlso IsFileOutcome (F (Volume v)) (x.file v)) → IsFolderOutcome F (with_volumes F x)
unfolding with_volumes
volumes_outcome F x text file (Meta v) = text v
volumes_outcome F x text file (Volume v) = file v
volumes_outcome F x text file Metadata = stable_at (F Metadata)
volumes_outcome F x text file MetadataNew = stable_at (F MetadataNew)
volumes_outcome F x text file Leases = stable_at (F Leases)
volumes_outcome F x text file Inbox = stable_at (F Inbox)
volumes_outcome F x text file Outbox = stable_at (F Outbox)
volumes_outcome F x text file (MetaNew v) = stable_at (F (MetaNew v))
volumes_outcome F x text file (MetaVolatile v) = stable_at (F (MetaVolatile v))
volumes_outcome F x text file (VolumeLease v) = stable_at (F (VolumeLease v))
volumes_outcome F x text file (Task v) = stable_at (F (Task v))
volumes_outcome F x text file (TaskNew v) = stable_at (F (TaskNew v))

pub volumes_of_with : (F : Folder) (x : Volumes) → volumes_of (with_volumes F x) ≡ x
unfolding with_volumes
volumes_of_with F x = refl

with_same : (F O : Folder) → HoldSameVolumes (with_volumes F (volumes_of O)) O
unfolding with_volumes
with_same F O = record { text = λ v. refl; file = λ v. refl }

pub outcome_with : (F G O : Folder) → HoldSameVolumes F G → IsFolderOutcome G O → (P : Folder) × IsFolderOutcome F P × HoldSameVolumes P O
outcome_with F G O same o = (
  with_volumes F (volumes_of O),
  volumes_outcome F (volumes_of O) (λ v. subst (λ (a : Option File). IsAlso IsFileOutcome a (O (Meta v))) (same.text v) (o (Meta v))) (λ v. subst (λ (a : Option File). IsAlso IsFileOutcome a (O (Volume v))) (same.file v) (o (Volume v))),
  with_same F O,
)

pub flats_elsewhere : (r : Records) (flats : Id → ℕ → List ℕ) (F G : Folder) → HoldSameVolumes F G → OnEachFolder F (λ o. IsFlat r flats (volumes_of o)) → OnEachFolder G (λ o. IsFlat r flats (volumes_of o))
flats_elsewhere r flats F G same each O o =
    let before = outcome_with F G O same o in
    subst (λ (x : Volumes). IsFlat r flats x) (sym (same_volumes before.0 O before.2)) (each before.0 before.1)
