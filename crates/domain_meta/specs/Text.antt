-- The text of a domain, whole: its lines in the order in which they are written.
use Rattle.std.specs.Prelude.{ℕ, ◌≤◌, List, [], ◌∷◌, ◌++◌, length, map, codes, decimal}
use Rattle.std.specs.List.{join_with_byte}
use Rattle.hex.specs.Hex.{encode_lower}
use Rattle.kv_text.specs.Text.{KeyValue, IsOneLine, line, text_of}
use Rattle.sd_names.specs.Id.{id_text}
use Rattle.sd_names.specs.Key.{key_name}
use Rattle.sd_names.specs.declared.id.Id.{Id}
use Rattle.sd_names.specs.declared.fault.Key.{Key}
use Rattle.sd_names.specs.declared.fault.Key.TheVariants as key
use Rattle.sd_names.specs.declared.kinds.Role.{Role}
use Rattle.sd_names.specs.declared.kinds.Role.TheVariants.{Master, Regular}
use Rattle.domain_meta.specs.Checksum.{checksum_of}
use Rattle.domain_meta.specs.declared.record.DomainRecord.{DomainRecord}

abbrev pub role_text : Role → List ℕ
role_text Master = codes "Master"
role_text Regular = codes "Regular"

-- `ID:Active`
abbrev pub domain_text_of : Id → List ℕ
domain_text_of id = id_text id.0 ++ codes ":Active"

-- the domains of a pool, with a comma between each two
abbrev pub domains_text : List Id → List ℕ
domains_text ids = join_with_byte 44 (map domain_text_of ids)

-- a word behind words, with a comma where there are some
abbrev pub behind : List ℕ → List ℕ → List ℕ
behind [] word = word
behind (first ∷ more) word = (first ∷ more) ++ 44 ∷ word

abbrev pub pair_of : Key → List ℕ → KeyValue
pair_of k value = record { key = key_name k; value = value }

-- the pairs that the checksum covers, in the order of their keys
unfoldable pub domain_pairs : DomainRecord → List KeyValue
domain_pairs r =
    pair_of key.Class (codes "Data")
    ∷ pair_of key.Description r.description
    ∷ pair_of key.MasterVersion (decimal r.master_version)
    ∷ pair_of key.PoolDomains (domains_text r.domains)
    ∷ pair_of key.PoolUuid (id_text r.pool.0)
    ∷ pair_of key.Role (role_text r.role)
    ∷ pair_of key.SdUuid (id_text r.sduuid.0)
    ∷ pair_of key.Version (decimal r.version)
    ∷ []

-- the whole text, which the checksum of the lines before it closes
unfoldable pub domain_text : DomainRecord → List ℕ
domain_text r =
    text_of (domain_pairs r) ++ line (key_name key.ShaCksum) (encode_lower (checksum_of (text_of (domain_pairs r))))

-- a record that may stand in a text: the text then fits 8,192 bytes
pub record HasShortTexts (r : DomainRecord) : Type 0 where
  pub description : length r.description ≤ 4096
  pub one_line : IsOneLine r.description
  pub few : length r.domains ≤ 4
