-- What a domain's text says: its record, or the first thing wrong with it. First comes a text that is too long, then a
-- line that is no pair, then a key that isn't there, then a checksum that is none, or not that of the lines, and then a value that its key may
-- not have, the keys in the order in which they are written.
use Rattle.std.specs.Prelude.{ℕ, nat_le, List, [], ◌∷◌, length, Option, Some, None, Result, Ok, Err, if◌then◌else◌, option_and_then, option_map}
use Rattle.std.specs.Str.{bytes_eq}
use Rattle.kv_text.specs.Ids.{this_id}
use Rattle.kv_text.specs.Keys.{◌>>=◌, description_of, needed, optional, shape_fault, unless_fault, value}
use Rattle.decimal_numbers.specs.Number.{number_of}
use Rattle.kv_text.specs.Text.{KeyValue, pairs}
use Rattle.kv_text.specs.declared.fault.TextFault.{TextFault}
use Rattle.kv_text.specs.declared.fault.TextFault.TheVariants as fault
use Rattle.sd_names.specs.Id.{id_of}
use Rattle.sd_names.specs.declared.id.Id.{Id}
use Rattle.sd_names.specs.declared.fault.DomainFault.{DomainFault}
use Rattle.sd_names.specs.declared.fault.DomainFault.TheVariants.{TooLong, BadLine, MissingKey, BadValue, Checksum}
use Rattle.sd_names.specs.declared.fault.Key.{Key}
use Rattle.sd_names.specs.declared.fault.Key.TheVariants as key
use Rattle.sd_names.specs.declared.kinds.Role.{Role}
use Rattle.domain_meta.specs.Checksum.{checksum_of}
use Rattle.domain_meta.specs.Values.{class_of, digest_of, domains_of, master_version_of, role_of}
use Rattle.domain_meta.specs.declared.record.DomainRecord.{DomainRecord}

-- the keys that have to be there: all but DESCRIPTION
abbrev pub needed_keys : List Key
needed_keys =
    key.Class ∷ key.MasterVersion ∷ key.PoolDomains ∷ key.PoolUuid ∷ key.Role ∷ key.SdUuid ∷ key.Version ∷ key.ShaCksum ∷ []

-- a fault of lines, keys and values as one of a domain's text
abbrev pub fault_of : TextFault → DomainFault
fault_of (fault.BadLine number) = BadLine number
fault_of (fault.MissingKey k) = MissingKey k
fault_of (fault.BadValue k) = BadValue k

abbrev pub with_fault : {X : Type 0} → Result X TextFault → Result X DomainFault
with_fault (Ok x) = Ok x
with_fault (Err e) = Err (fault_of e)

-- the digest that stands in a text has to be the one that its lines have
abbrev pub same_digest : List ℕ → List ℕ → Option DomainFault
same_digest found computed = if bytes_eq found computed then None else Some (Checksum found computed)

-- the role that a text's ROLE has, if it has one
abbrev pub role_in : List KeyValue → Option Role
role_in ps = option_and_then role_of (value key.Role ps)

unfoldable pub fields_of : Id → List KeyValue → Result DomainRecord TextFault
fields_of sd ps = do
  class ← needed key.Class class_of (value key.Class ps)
  description ← optional key.Description [] description_of (value key.Description ps)
  master_version ← needed key.MasterVersion (master_version_of (role_in ps)) (value key.MasterVersion ps)
  domains ← needed key.PoolDomains (domains_of (role_in ps)) (value key.PoolDomains ps)
  pool ← needed key.PoolUuid id_of (value key.PoolUuid ps)
  role ← needed key.Role role_of (value key.Role ps)
  sduuid ← needed key.SdUuid (this_id sd) (value key.SdUuid ps)
  version ← needed key.Version number_of (value key.Version ps)
  Ok (record {
    version = version;
    role = role;
    sduuid = sduuid;
    pool = pool;
    domains = domains;
    master_version = master_version;
    description = description;
  })

-- the fields, once the digest in the text is that of its lines
unfoldable pub checked_fields : Id → List ℕ → Result DomainRecord DomainFault
checked_fields sd text = do
  found ← with_fault (needed key.ShaCksum digest_of (value key.ShaCksum (pairs text)))
  unless_fault (same_digest found (checksum_of text)) (with_fault (fields_of sd (pairs text)))

unfoldable pub read_domain : Id → List ℕ → Result DomainRecord DomainFault
read_domain sd text =
    if nat_le (length text) 8192
    then unless_fault (option_map fault_of (shape_fault text needed_keys)) (checked_fields sd text)
    else Err TooLong
