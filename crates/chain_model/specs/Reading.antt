-- The volume that guests read and write.
use Rattle.std.specs.Prelude.{◌≡◌, true, List, Contains}
use Rattle.sd_names.specs.declared.id.Id.{Id}
use Rattle.chain_model.specs.Records.{Records, is_legal}
use Rattle.chain_model.specs.Chain.{IsBelow, path_of}

-- the LEGAL volume on whose path each other LEGAL one stands
pub record IsReading (r : Records) (v : Id) (vs : List Id) : Type 0 where
  pub below : IsBelow r v vs
  pub legal : is_legal r v ≡ true
  pub all : (u : Id) → is_legal r u ≡ true → Contains (path_of r v vs) u

-- no volume is that
abbrev pub HasNoReading : Records → Type 0
HasNoReading r = (v : Id) (vs : List Id) → IsReading r v vs → ⊥
