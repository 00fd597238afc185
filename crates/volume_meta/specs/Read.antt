-- What a volume's text says: its record, or the first thing wrong with it. First comes a text that is too long, then
-- the missing line `EOF`, then a line that is no pair, then a key that isn't there, then a value that its key may not
-- have, the keys in the order in which they are written.
use Rattle.std.specs.Prelude.{ℕ, Bool, true, false, ◌==◌, nat_le, List, [], ◌∷◌, length, Option, Some, None, Result, Ok, Err, if◌then◌else◌, codes}
use Rattle.kv_text.specs.Ids.{this_id}
use Rattle.kv_text.specs.Keys.{◌>>=◌, description_of, needed, optional, shape_fault, unless_fault, value}
use Rattle.decimal_numbers.specs.Number.{number_of}
use Rattle.kv_text.specs.Text.{KeyValue, pairs, has_eof}
use Rattle.kv_text.specs.declared.fault.TextFault.{TextFault}
use Rattle.kv_text.specs.declared.fault.TextFault.TheVariants as fault
use Rattle.sd_names.specs.Id.{id_of}
use Rattle.sd_names.specs.declared.id.Id.{Id}
use Rattle.sd_names.specs.declared.fault.Key.{Key}
use Rattle.sd_names.specs.declared.fault.Key.TheVariants as key
use Rattle.sd_names.specs.declared.fault.VolumeFault.{VolumeFault}
use Rattle.sd_names.specs.declared.fault.VolumeFault.TheVariants.{TooLong, NoEof, BadLine, MissingKey, BadValue}
use Rattle.volume_meta.specs.declared.record.VolumeRecord.{VolumeRecord}
use Rattle.volume_meta.specs.Values.{capacity_of, size_of, generation_of, disk_type_of, format_of, legality_of, kind_of, voltype_of, merged_of}

-- the keys that have to be there: version 5 has CAP, and version 4 has SIZE
abbrev pub needed_keys : Bool → List Key
needed_keys true =
    key.Cap ∷ key.Domain ∷ key.Format ∷ key.Image ∷ key.Legality ∷ key.Puuid ∷ key.Alloc ∷ key.VolType ∷ []
needed_keys false =
    key.Domain ∷ key.Format ∷ key.Image ∷ key.Legality ∷ key.Puuid ∷ key.Size ∷ key.Alloc ∷ key.VolType ∷ []

-- a value that version 5 has and no other, and one that every other version has
abbrev pub in_five : Bool → Result ℕ TextFault → Result (Option ℕ) TextFault
in_five true read = read >>= (λ n. Ok (Some n))
in_five false read = Ok None

abbrev pub in_others : Option ℕ → Result ℕ TextFault → Result ℕ TextFault
in_others (Some n) read = Ok n
in_others None read = read

-- the values of the keys, each looked at in its place. The capacity stands in CAP in version 5, and in SIZE in any other
unfoldable pub fields_of : Bool → Id → Id → List KeyValue → Result VolumeRecord TextFault
fields_of five sd image ps = do
  cap ← in_five five (needed key.Cap capacity_of (value key.Cap ps))
  ctime ← optional key.Ctime 0 number_of (value key.Ctime ps)
  description ← optional key.Description [] description_of (value key.Description ps)
  disk_type ← optional key.DiskType (codes "DATA") disk_type_of (value key.DiskType ps)
  domain ← needed key.Domain (this_id sd) (value key.Domain ps)
  format ← needed key.Format format_of (value key.Format ps)
  generation ← optional key.Gen 0 generation_of (value key.Gen ps)
  own ← needed key.Image (this_id image) (value key.Image ps)
  legality ← needed key.Legality legality_of (value key.Legality ps)
  merged ← optional key.Merged false (merged_of legality) (value key.Merged ps)
  parent ← needed key.Puuid id_of (value key.Puuid ps)
  capacity ← in_others cap (needed key.Size size_of (value key.Size ps))
  kind ← needed key.Alloc kind_of (value key.Alloc ps)
  voltype ← needed key.VolType voltype_of (value key.VolType ps)
  Ok (record {
    capacity = capacity;
    ctime = ctime;
    description = description;
    disk_type = disk_type;
    domain = domain;
    format = format;
    generation = generation;
    image = own;
    legality = legality;
    merged = merged;
    parent = parent;
    kind = kind;
    voltype = voltype;
  })

-- a fault of lines, keys and values as one of a volume's text
abbrev pub fault_of : TextFault → VolumeFault
fault_of (fault.BadLine number) = BadLine number
fault_of (fault.MissingKey k) = MissingKey k
fault_of (fault.BadValue k) = BadValue k

abbrev pub with_fault : {X : Type 0} → Result X TextFault → Result X VolumeFault
with_fault (Ok x) = Ok x
with_fault (Err e) = Err (fault_of e)

-- the record of a volume's text, or the first thing wrong with it
unfoldable pub read_volume : ℕ → Id → Id → List ℕ → Result VolumeRecord VolumeFault
read_volume version sd image text =
    if nat_le (length text) 8192 then (
    if has_eof text
    then with_fault (unless_fault (shape_fault text (needed_keys (version == 5))) (fields_of (version == 5) sd image (pairs text)))
    else Err NoEof)
    else Err TooLong
