-- Records whose fields are in their ranges.
use Rattle.std.specs.Prelude.{◌≡◌, ℕ, ◌≤◌, ◌<◌, ◌^◌, List, [], length, true, All, Option, Some, None}
use Rattle.kv_text.specs.Text.{IsOneLine}
use Rattle.sd_names.specs.Id.{IsIdBytes}
use Rattle.sd_names.specs.declared.id.Id.{Id}
use Rattle.sd_names.specs.declared.kinds.Role.{Role}
use Rattle.sd_names.specs.declared.kinds.Role.TheVariants.{Master, Regular}
use Rattle.domain_meta.specs.Values.{is_rising, version_of_role}
use Rattle.domain_meta.specs.declared.record.DomainRecord.{DomainRecord}

-- a master lists one to four domains that rise, and any other domain none
abbrev pub Lists : Role → List Id → Type 0
Lists Master ids = (1 ≤ length ids) × (length ids ≤ 4) × (is_rising ids ≡ true)
Lists Regular ids = ids ≡ []

-- what a master's version and the domains that are listed have to be, where it is known which role a text has
abbrev pub GoesWith : Option Role → ℕ → Type 0
GoesWith (Some role) n = n ≡ version_of_role role
GoesWith None n = Unit {0}

abbrev pub MayList : Option Role → List Id → Type 0
MayList (Some role) ids = Lists role ids
MayList None ids = Unit {0}

-- each field is in its range, and the description has no line feed
pub record IsValid (r : DomainRecord) : Type 0 where
  pub version : r.version < 2 ^ 64
  pub master_version : r.master_version ≡ version_of_role r.role
  pub lists : Lists r.role r.domains
  pub domains : All (λ id. IsIdBytes id.0) r.domains
  pub sduuid : IsIdBytes r.sduuid.0
  pub pool : IsIdBytes r.pool.0
  pub description : length r.description ≤ 4096
  pub one_line : IsOneLine r.description
