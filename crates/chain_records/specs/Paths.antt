-- Chains and paths of volumes.
use Rattle.std.specs.Prelude.{◌≡◌, ℕ, ◌<◌, true, List, Contains, Option, Some, option_map}
use Rattle.sd_names.specs.declared.id.Id.{Id}
use Rattle.chain_model.specs.Records.{Records, is_legal}
use Rattle.chain_model.specs.Chain.{IsBelow, path_of}
use Rattle.chain_model.specs.Reading.{IsReading}
use Rattle.chain_model.specs.Up.{up_of}

-- a volume whose parents end
abbrev pub HasChain : Records → Id → Type 0
HasChain r v = (vs : List Id) × IsBelow r v vs

-- a LEGAL volume u reads through v
abbrev pub ReadsThrough : Records → Id → Id → Type 0
ReadsThrough r v u = (us : List Id) × (is_legal r u ≡ true) × IsBelow r u us × Contains (path_of r u us) v

-- the path of the reading volume
abbrev pub IsReadingPath : Records → List Id → Type 0
IsReadingPath r path = (v : Id) × (vs : List Id) × IsReading r v vs × (path ≡ path_of r v vs)

-- that of this volume, if it is the reading one
abbrev pub IsReadingPathOf : Records → Id → List Id → Type 0
IsReadingPathOf r v path = (vs : List Id) × IsReading r v vs × (path ≡ path_of r v vs)

-- these have all LEGAL volumes
abbrev pub HaveAllLegal : Records → List Id → Type 0
HaveAllLegal r path = (u : Id) → is_legal r u ≡ true → Contains path u

-- the capacity of a volume, in bytes
abbrev pub capacity_in : Records → Id → Option ℕ
capacity_in r v = option_map (λ x. x.capacity) (r v)

-- a volume is smaller than its parent that counts
abbrev pub IsSmaller : Records → Id → Type 0
IsSmaller r v =
    (vs : List Id) × IsBelow r v vs × (w : Id) × (up_of r vs ≡ Some w)
    × (own : ℕ) × (other : ℕ) × (capacity_in r v ≡ Some own) × (capacity_in r w ≡ Some other) × (own < other)
