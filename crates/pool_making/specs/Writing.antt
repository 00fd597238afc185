-- The record of a new master, and the length of its text where it is written.
use Rattle.std.specs.Prelude.{ℕ, List, [], ◌∷◌}
use Rattle.sd_names.specs.declared.id.Id.{Id}
use Rattle.sd_names.specs.declared.kinds.Role.TheVariants.{Master}
use Rattle.domain_meta.specs.declared.record.DomainRecord.{DomainRecord}
use Rattle.whole_file.specs.Replace.{length_of}
use Rattle.pool_making.specs.declared.making.Stage.{Stage}
use Rattle.pool_making.specs.declared.making.Stage.TheVariants.{Listing, Checking, Searching, Making, Clearing, Creating, Syncing, Writing}

-- a master that is the only domain of its pool
abbrev pub only_master : Id → Id → ℕ → List ℕ → DomainRecord
only_master pool sd version text = record {
  version = version;
  role = Master;
  sduuid = sd;
  pool = pool;
  domains = sd ∷ [];
  master_version = 1;
  description = text;
}

-- the length of the text that is written; where none is, this one
abbrev pub length_kept : Stage → ℕ → ℕ
length_kept (Writing r) length = length_of r
length_kept (Listing after) length = length
length_kept (Checking q) length = length
length_kept Searching length = length
length_kept (Making f) length = length
length_kept (Clearing a) length = length
length_kept (Creating a) length = length
length_kept (Syncing a) length = length
