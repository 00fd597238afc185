-- The call of each step, by its stage, whatever stands in the folder: some answer that fits the call, and the turn that follows.
use Rattle.std.specs.Prelude.{ℕ}
use Rattle.sd_names.specs.declared.id.Id.{Id}
use Rattle.shared_disk.specs.Content.{Content}
use Rattle.sector_freeing.specs.Freeing.{FreeTurn, domain_of, stage_of}
use Rattle.sector_freeing.specs.Inner.{Frees, ListsName, ReadsOn, SyncsOne}
use Rattle.sector_freeing.specs.declared.freeing.SectorFreeing.{SectorFreeing}
use Rattle.sector_freeing.specs.declared.freeing.Stage.{Stage}
use Rattle.sector_freeing.specs.declared.freeing.Stage.TheVariants.{Looking, Listing, Syncing, Freeing}

abbrev pub CallIn : Stage → Id → ℕ → ℕ → FreeTurn → Content → Content → Type 0
CallIn (Looking from) sd host faults turn d e = ReadsOn sd from host faults turn d e
CallIn (Listing slot r after) sd host faults turn d e = ListsName sd slot r after faults turn d e
CallIn (Syncing slot r n) sd host faults turn d e = SyncsOne sd slot r n host faults turn d e
CallIn (Freeing slot r) sd host faults turn d e = Frees sd slot r host faults turn d e

abbrev pub CallOf : SectorFreeing → ℕ → ℕ → FreeTurn → Content → Content → Type 0
CallOf s host faults turn d e = CallIn (stage_of s) (domain_of s) host faults turn d e
