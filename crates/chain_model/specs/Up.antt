-- The parent that counts.
use Rattle.std.specs.Prelude.{◌≡◌, true, false, List, slice_get, Option, Some, None}
use Rattle.sd_names.specs.declared.id.Id.{Id}
use Rattle.chain_model.specs.Records.{Records, parent, is_passed}
use Rattle.chain_model.specs.Chain.{counting}

-- the first volume below that counts
abbrev pub up_of : Records → List Id → Option Id
up_of r vs = slice_get (counting r vs) 0

-- from a volume by its parents, passing over merged ones, to one that counts
pub data LeadsTo (r : Records) : Id → Id → Type 0 where
  next : {v w : Id} → parent r v ≡ Some w → is_passed r w ≡ false → LeadsTo r v w
  past : {v w u : Id} → parent r v ≡ Some w → is_passed r w ≡ true → LeadsTo r w u → LeadsTo r v u

-- The parent that counts, of any volume. Where merged volumes form a ring, so that none is reached, it is the parent itself.
pub record IsUp (r : Records) (v : Id) (up : Option Id) : Type 0 where
  pub base : parent r v ≡ None → up ≡ None
  pub reached : (w : Id) → LeadsTo r v w → up ≡ Some w
  pub ring : ((w : Id) → LeadsTo r v w → ⊥) → up ≡ parent r v
