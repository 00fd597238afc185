-- What a host keeps between its lines, and the state of the whole machine.
use Rattle.std.specs.Prelude.{◌≡◌, ◌≢◌, ℕ, ◌<◌, Bool, List, Option, Some, None}
use Rattle.sd_names.specs.UpSet.{Hosts}
use Rattle.sd_names.specs.declared.id.Id.{Id}
use Rattle.pool_model.specs.Pool.{Pool}
use Rattle.pool_model.specs.Marks.{Mark}
use Rattle.pool_model.specs.Role.{Role, outside}
use Rattle.pool_model.specs.Sizes.{Sizes}
use Rattle.pool_model.specs.Verb.{Verb}

-- The merge of an open image: base and top, and for a live one the front and the end in clusters of the top.
pub data Phase : Type 0 where
  none : Phase
  prepared : (base top : Id) → Phase
  copied : (base top : Id) → Phase
  filling : (base top : Id) (front end : ℕ) → Phase
  synced : (base top : Id) → Phase

-- an image that the host has open; where a fault broke it, the count of faults then
pub record Opened : Type 0 where
  pub sd : Id
  pub image : Id
  pub phase : Phase
  pub broken : Option ℕ

-- What no program keeps, and a claim on a running verb takes from the moment of its begin: what history said then, which
-- folders held a domain's text, and what the bound on steps counts.
pub record Kept : Type 0 where
  pub named : Id → Id → ℕ
  pub foreign : Id → Id → ℕ
  pub texts : Id → Bool
  pub sizes : Sizes

-- a verb that runs, the marks that are still to come, how many tasks it has settled and how many steps it has had
pub record Running : Type 0 where
  pub verb : Verb
  pub marks : List Mark
  pub tally : ℕ
  pub steps : ℕ
  pub kept : Kept

-- A host that is up. It has eight places for open images.
pub record HostState : Type 0 where
  pub role : Role
  pub opened : ℕ → Option Opened
  pub running : Option Running

abbrev pub places : ℕ
places = 8

-- a host that was just booted knows nothing
abbrev pub booted : HostState
booted = record { role = outside; opened = λ s. None; running = None }

-- The state: the pool, the time in seconds since 1970 at which the session began, the hosts that are up, and what each keeps.
pub record State : Type 0 where
  pub pool : Pool
  pub moment : ℕ
  pub up : Hosts
  pub host : ℕ → HostState

-- ---- open images

-- the host has the image open, in this place
pub record OpenAt (x : HostState) (sd i : Id) (s : ℕ) (o : Opened) : Type 0 where
  pub place : s < places
  pub there : x.opened s ≡ Some o
  pub domain : o.sd ≡ sd
  pub image : o.image ≡ i

abbrev pub HasOpen : HostState → Id → Id → Type 0
HasOpen x sd i = (s : ℕ) × ((o : Opened) × OpenAt x sd i s o)

-- the second has this in a place, and in all others what the first has
pub record SetsPlace (x : HostState) (s : ℕ) (o : Option Opened) (y : HostState) : Type 0 where
  pub here : y.opened s ≡ o
  pub others : (k : ℕ) → k ≢ s → y.opened k ≡ x.opened k

-- the same images are open
abbrev pub SameOpen : HostState → HostState → Type 0
SameOpen x y = (s : ℕ) → y.opened s ≡ x.opened s

-- what the host has open is as before but for this image, which is no longer open
abbrev pub Closes : Id → Id → HostState → HostState → Type 0
Closes sd i x y = (s : ℕ) × ((o : Opened) × OpenAt x sd i s o × SetsPlace x s None y)

-- or which is broken, at this count of faults, so that its merge is dropped
abbrev pub Breaks : Id → Id → ℕ → HostState → HostState → Type 0
Breaks sd i n x y = (s : ℕ) × ((o : Opened) × OpenAt x sd i s o × SetsPlace x s (Some (record o { phase = none; broken = Some n })) y)

-- or which is open now, in a place that was free
abbrev pub Opens : Id → Id → HostState → HostState → Type 0
Opens sd i x y = (s : ℕ) × (s < places) × (x.opened s ≡ None) × SetsPlace x s (Some (record { sd = sd; image = i; phase = none; broken = None })) y
