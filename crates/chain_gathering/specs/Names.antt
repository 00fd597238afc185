-- The files of an image's volumes, by their names, and how far a listing has come.
use Rattle.std.specs.Prelude.{ℕ, ◌+◌, ◌≤◌, Bool, true, if◌then◌else◌, List, [], ◌∷◌, Option, Some, None}
use Rattle.std.specs.Ordering.{is_lt}
use Rattle.sd_names.specs.Place.{name_cmp}
use Rattle.sd_names.specs.declared.place.Dir.{Dir}
use Rattle.sd_names.specs.declared.place.Name.{Name}
use Rattle.sd_names.specs.declared.place.Name.TheVariants as name
use Rattle.shared_disk.specs.Content.{Content}
use Rattle.shared_disk.specs.NameCalls.{IsNameAbove, ShowsName}
use Rattle.chain_gathering.specs.declared.names.VolumeName.{VolumeName}
use Rattle.chain_gathering.specs.declared.names.VolumeName.TheVariants.{Data, Text}

abbrev pub name_of : VolumeName → Name
name_of (Data v) = name.Volume v
name_of (Text v) = name.Meta v

-- the file of a volume that has a name; other names say nothing of an image
abbrev pub volume_name : Name → Option VolumeName
volume_name (name.Volume v) = Some (Data v)
volume_name (name.Meta v) = Some (Text v)
volume_name _ = None

-- a listing that has come to a name has passed each name that isn't above it; one that hasn't begun has passed none
abbrev pub IsPassed : Option Name → Name → Type 0
IsPassed after n = IsNameAbove after n → ⊥

-- How many steps a name takes at the most: the listing that gives it, the sync of a volume's file or text, and the reading
-- of a text.
abbrev pub price : Name → ℕ
price (name.Volume v) = 2
price (name.Meta v) = 3
price _ = 1

-- what the names above each cost, where the folder shows these: a name and those above it cost no more than those above
-- what it is above
abbrev pub IsCost : Dir → Content → (Option Name → ℕ) → Type 0
IsCost dir d cost = (before : Option Name) (n : Name) → ShowsName d dir n → IsNameAbove before n → cost (Some n) + price n ≤ cost before

abbrev pub is_above : Option Name → Name → Bool
is_above None n = true
is_above (Some b) n = is_lt (name_cmp b n)

-- the prices of those of some names that are above one
abbrev pub cost_by : (Name → ℕ) → List Name → Option Name → ℕ
cost_by priced [] before = 0
cost_by priced (n ∷ ns) before = (if is_above before n then priced n else 0) + cost_by priced ns before

abbrev pub cost_of : List Name → Option Name → ℕ
cost_of names before = cost_by price names before
