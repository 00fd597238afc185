-- What is kept of the volumes of an image.
use Rattle.std.specs.Prelude.{◌≡◌, nat_lt, if◌then◌else◌, Bool, false, List, [], ◌∷◌, ◌++◌, length, map, drop, Option, Some, None}
use Rattle.sd_names.specs.declared.id.Id.{Id}
use Rattle.shared_disk.specs.Places.{id_is}
use Rattle.volume_meta.specs.Valid.{IsValid}
use Rattle.volume_meta.specs.declared.record.VolumeRecord.{VolumeRecord}
use Rattle.chain_records.specs.Records.{records_in}
use Rattle.chain_gathering.specs.declared.found.Found.{Found}
use Rattle.chain_records.specs.declared.volume.Volume.{Volume}
use Rattle.chain_gathering.specs.declared.gathered.Gathered.{Gathered}

abbrev pub found_in : Gathered → List Found
found_in g = g.found

abbrev pub records_kept : Gathered → List Volume
records_kept g = g.records

-- each record of a list is valid, as all are that were read
abbrev pub AreValid : List Volume → Type 0
AreValid xs = (v : Id) (x : VolumeRecord) → records_in xs v ≡ Some x → IsValid x

-- the volumes of each list
abbrev pub ids_found : List Found → List Id
ids_found ws = map (λ w. w.id) ws

-- the first volume whose file isn't there
abbrev pub first_missing : List Found → Option Id
first_missing [] = None
first_missing (w ∷ ws) = if w.has_file then first_missing ws else Some w.id

abbrev pub first_id : List Found → Option Id
first_id [] = None
first_id (w ∷ ws) = Some w.id

-- the first volume whose text isn't read yet
abbrev pub next_of : Gathered → Option Id
next_of g = first_id (drop (length g.records) g.found)

-- whether its file is there
abbrev pub first_file : List Found → Bool
first_file [] = false
first_file (w ∷ ws) = w.has_file

abbrev pub next_has_file : Gathered → Bool
next_has_file g = first_file (drop (length g.records) g.found)

-- this is the last one
abbrev pub is_last : Option Id → Id → Bool
is_last None v = false
is_last (Some u) v = id_is u v

-- one volume more, where there is room for it; its file is there where the last one that was listed is its own
abbrev pub noted : List Found → Id → Option Id → List Found
noted ws v last = if nat_lt (length ws) 32 then ws ++ record { id = v; has_file = is_last last v } ∷ [] else ws

-- one record more
abbrev pub kept_with : Gathered → Id → VolumeRecord → Gathered
kept_with g v x = record { found = g.found; records = g.records ++ record { id = v; meta = x; has_file = next_has_file g } ∷ [] }
