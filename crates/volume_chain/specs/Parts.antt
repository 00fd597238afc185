-- An open chain of which a part is changed.
use Rattle.std.specs.Prelude.{ℕ, List, slice_set}
use Rattle.chain_records.specs.declared.volume.Volume.{Volume}
use Rattle.volume_chain.specs.declared.chain.Chain.{Chain}
use Rattle.volume_chain.specs.declared.volumes.OpenVolume.{OpenVolume}

-- the version by which the image's texts are read and written
abbrev pub version_of : Chain → ℕ
version_of c = c.target.version

-- the chain with these records
abbrev pub with_records : Chain → List Volume → Chain
with_records c xs = record c { records = xs }

-- the chain with these open volumes, and with this one at a place of its path
abbrev pub with_volumes : Chain → List OpenVolume → Chain
with_volumes c os = record c { volumes = os }

abbrev pub with_open : Chain → ℕ → OpenVolume → Chain
with_open c at o = with_volumes c (slice_set c.volumes at o)
