-- Volumes and their records, as a list.
use Rattle.std.specs.Prelude.{Bool, List, [], ◌∷◌, map, Option, Some, None, if◌then◌else◌}
use Rattle.sd_names.specs.declared.id.Id.{Id}
use Rattle.shared_disk.specs.Places.{id_is}
use Rattle.chain_model.specs.Records.{Records}
use Rattle.chain_records.specs.declared.volume.Volume.{Volume}

abbrev pub ids_of : List Volume → List Id
ids_of xs = map (λ x. x.id) xs

-- whether the file of each is there
abbrev pub files_of : List Volume → List Bool
files_of xs = map (λ x. x.has_file) xs

-- the record of each volume of a list
abbrev pub records_in : List Volume → Records
records_in [] v = None
records_in (x ∷ xs) v = if id_is x.id v then Some x.meta else records_in xs v

-- the first volume of a list whose file isn't there
abbrev pub first_missing : List Volume → Option Id
first_missing [] = None
first_missing (x ∷ xs) = if x.has_file then first_missing xs else Some x.id
