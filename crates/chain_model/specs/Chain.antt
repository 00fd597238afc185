-- The chain of volumes below a volume, and the path by which it reads.
use Rattle.std.specs.Prelude.{◌≡◌, false, not, List, [], ◌∷◌, filter, Contains, Some, None}
use Rattle.sd_names.specs.declared.id.Id.{Id}
use Rattle.chain_model.specs.Records.{Records, parent, is_passed}

-- What stands below a volume: its parent first, and last a volume that has none. Parents in a ring have no such list.
abbrev pub IsBelow : Records → Id → List Id → Type 0
IsBelow r v [] = parent r v ≡ None
IsBelow r v (w ∷ ws) = (parent r v ≡ Some w) × IsBelow r w ws

-- from a volume by its parents to another, in one step or more
pub data HasAncestor (r : Records) : Id → Id → Type 0 where
  nearest : {v w : Id} → parent r v ≡ Some w → HasAncestor r v w
  farther : {v w u : Id} → parent r v ≡ Some w → HasAncestor r w u → HasAncestor r v u

-- parents form a ring: a volume is its own ancestor
abbrev pub HasRing : Records → Type 0
HasRing r = (v : Id) × HasAncestor r v v

-- the parents of a volume come to a ring, and so never end
abbrev pub ComesToRing : Records → Id → Type 0
ComesToRing r v = (u : Id) × HasAncestor r v u × HasAncestor r u u

-- those below a volume that count: merged ones are passed over
abbrev pub counting : Records → List Id → List Id
counting r vs = filter (λ w. not (is_passed r w)) vs

-- a volume reads through itself, and then through those below it that count
abbrev pub path_of : Records → Id → List Id → List Id
path_of r v vs = v ∷ counting r vs

-- no volume of a chain is passed over, as an opening leaves it
abbrev pub AllCount : Records → List Id → Type 0
AllCount r vs = (w : Id) → Contains vs w → is_passed r w ≡ false
