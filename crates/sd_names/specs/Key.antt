-- The keys of the texts beside volumes and domains.
use Rattle.std.specs.Prelude.{ℕ, List, codes}
use Rattle.sd_names.specs.declared.fault.Key.{Key}
use Rattle.sd_names.specs.declared.fault.Key.TheVariants.{Alloc, Cap, Class, Ctime, Description, DiskType, Domain, Format, Gen, Image, Legality, MasterVersion, Merged, Mtime, PoolDomains, PoolUuid, Puuid, Role, SdUuid, ShaCksum, Size, Version, VolType}

-- a key as it is written
abbrev pub key_name : Key → List ℕ
key_name Alloc = codes "TYPE"
key_name Cap = codes "CAP"
key_name Class = codes "CLASS"
key_name Ctime = codes "CTIME"
key_name Description = codes "DESCRIPTION"
key_name DiskType = codes "DISKTYPE"
key_name Domain = codes "DOMAIN"
key_name Format = codes "FORMAT"
key_name Gen = codes "GEN"
key_name Image = codes "IMAGE"
key_name Legality = codes "LEGALITY"
key_name MasterVersion = codes "MASTER_VERSION"
key_name Merged = codes "MERGED"
key_name Mtime = codes "MTIME"
key_name PoolDomains = codes "POOL_DOMAINS"
key_name PoolUuid = codes "POOL_UUID"
key_name Puuid = codes "PUUID"
key_name Role = codes "ROLE"
key_name SdUuid = codes "SDUUID"
key_name ShaCksum = codes "_SHA_CKSUM"
key_name Size = codes "SIZE"
key_name Version = codes "VERSION"
key_name VolType = codes "VOLTYPE"
