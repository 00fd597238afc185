-- Who reads a sector of a volume.
use Rattle.std.specs.Prelude.{◌≡◌, ◌≢◌, ◌⊎◌, ℕ, true, List, [], ◌∷◌, Some}
use Rattle.sd_names.specs.declared.id.Id.{Id}
use Rattle.chain_model.specs.Folder.{Volumes}
use Rattle.chain_model.specs.Records.{Records, is_legal}
use Rattle.chain_model.specs.Chain.{IsBelow, path_of}
use Rattle.chain_model.specs.Own.{own}

-- On this path b doesn't come, or some volume above it holds the sector.
abbrev pub IsClear : Records → Volumes → Id → ℕ → List Id → Type 0
IsClear r x b k [] = Unit {0}
IsClear r x b k (w ∷ ws) = (w ≢ b) × (((s : List ℕ) × (own r x w k ≡ Some s)) ⊎ IsClear r x b k ws)

-- No other LEGAL volume reads this sector of b.
abbrev pub IsCovered : Records → Id → ℕ → Volumes → Type 0
IsCovered r b k x = (u : Id) (us : List Id) → is_legal r u ≡ true → u ≢ b → IsBelow r u us → IsClear r x b k (path_of r u us)
