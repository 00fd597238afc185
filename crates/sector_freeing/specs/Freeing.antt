-- Freeing the sectors that are held for a task: of which domain, how far it is, and which refusals may come.
use Rattle.std.specs.Prelude.{◌≡◌}
use Rattle.sd_names.specs.declared.id.Id.{Id}
use Rattle.sd_names.specs.declared.refusal.Refusal.{Refusal}
use Rattle.sd_names.specs.declared.turn.Turn.{Turn}
use Rattle.shared_disk.specs.Step.{IsDiskRefusal}
use Rattle.lease_area.specs.Hold.{IsGivingRefusal}
use Rattle.sector_freeing.specs.declared.freeing.SectorFreeing.{SectorFreeing}
use Rattle.sector_freeing.specs.declared.freeing.Stage.{Stage}
use Rattle.sector_freeing.specs.declared.freeing.Stage.TheVariants.{Freeing}

abbrev pub FreeTurn : Type 0
FreeTurn = Turn SectorFreeing (Unit {0}) (Unit {0})

abbrev pub domain_of : SectorFreeing → Id
domain_of s = s.sd

abbrev pub stage_of : SectorFreeing → Stage
stage_of s = s.stage

-- the freeing of this domain's sectors, in this stage
pub record IsAt (sd : Id) (now : Stage) (next : SectorFreeing) : Type 0 where
  pub domain : domain_of next ≡ sd
  pub now_in : stage_of next ≡ now

abbrev pub MayRefuse : Stage → Refusal → Type 0
MayRefuse (Freeing slot r) refusal = IsGivingRefusal refusal
MayRefuse _ refusal = IsDiskRefusal refusal
