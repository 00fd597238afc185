-- What the program knows of the chain that it writes, whatever the folder tells.
use Rattle.std.specs.Prelude.{◌≡◌, length}
use Rattle.volume_chain.specs.Chain.{open_in, path_in}
use Rattle.volume_chain.specs.declared.chain.Chain.{Chain}

-- all volumes of the path are open
abbrev pub AreAllOpen : Chain → Type 0
AreAllOpen c = length (open_in c) ≡ length (path_in c)
