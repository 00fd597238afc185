-- Temporary names in an image's folder.
use Rattle.std.specs.Prelude.{ℕ, Option, Some, None}
use Rattle.sd_names.specs.declared.place.Name.{Name}
use Rattle.sd_names.specs.declared.place.Name.TheVariants as name
use Rattle.settling_steps.specs.declared.names.Temporary.{Temporary}
use Rattle.settling_steps.specs.declared.names.Temporary.TheVariants.{New, Volatile}

-- the names of texts that are being written, which nobody reads
abbrev pub name_of : Temporary → Name
name_of (New v) = name.MetaNew v
name_of (Volatile v) = name.MetaVolatile v

abbrev pub temporary_name : Name → Option Temporary
temporary_name (name.MetaNew v) = Some (New v)
temporary_name (name.MetaVolatile v) = Some (Volatile v)
temporary_name _ = None

-- how many steps a name takes: the listing that gives it, and the removal of a temporary one
abbrev pub price : Name → ℕ
price (name.MetaNew v) = 2
price (name.MetaVolatile v) = 2
price _ = 1
