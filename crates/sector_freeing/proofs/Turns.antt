-- What a turn tells, from what its call answered.
use Rattle.std.proofs.Common.{◌≡◌, ℕ, ◌<◌, ◌≤◌, sym, subst, arith}
use Rattle.sd_names.specs.declared.id.Id.{Id}
use Rattle.sd_names.specs.declared.refusal.Refusal.{Refusal}
use Rattle.sd_names.specs.declared.refusal.Refusal.TheVariants.{DiskFault}
use Rattle.sd_names.specs.declared.turn.Turn.TheVariants.{More, Done, Ended}
use Rattle.shared_disk.specs.Content.{Content}
use Rattle.shared_disk.specs.Step.{GoesOn}
use Rattle.sector_freeing.specs.Freeing.{FreeTurn, IsAt, stage_of}
use Rattle.sector_freeing.specs.Inner.{LooksFrom}
use Rattle.sector_freeing.specs.Knowing.{HasNoneBelow, HaveIds, Knows, KnowsIn}
use Rattle.sector_freeing.specs.Steps.{After}
use Rattle.sector_freeing.specs.declared.freeing.SectorFreeing.{SectorFreeing}
use Rattle.sector_freeing.specs.declared.freeing.Stage.{Stage}
use Rattle.sector_freeing.specs.declared.freeing.Stage.TheVariants.{Looking}

-- what is known of a freeing in a stage
pub known_at : (host : ℕ) (sd : Id) (s : Stage) (next : SectorFreeing) (d : Content) → IsAt sd s next → KnowsIn s host sd d → Knows host next d
known_at host sd s next d at known = subst (λ (a : Id). KnowsIn (stage_of next) host a d) (sym at.domain) (subst (λ (z : Stage). KnowsIn z host sd d) (sym at.now_in) known)

pub after_more : (host : ℕ) (sd : Id) (s : Stage) (faults : ℕ) (turn : FreeTurn) (e : Content) → GoesOn (IsAt sd s) turn → KnowsIn s host sd e → After host sd faults turn e
after_more host sd s faults (More next) e at known = (at.domain, known_at host sd s next e at known)
after_more host sd s faults (Done u) e at known = absurd at
after_more host sd s faults (Ended u refusal) e at known = absurd at

pub after_fault : (host : ℕ) (sd : Id) (faults : ℕ) (turn : FreeTurn) (refusal : Refusal) (e : Content) → turn ≡ Ended tt refusal → refusal ≡ DiskFault faults → After host sd faults turn e
after_fault host sd faults turn refusal e is told = subst (λ (z : FreeTurn). After host sd faults z e) (sym is) told

-- the sectors from this one on come next, or there are none
pub after_looks : (host : ℕ) (sd : Id) (from faults : ℕ) (turn : FreeTurn) (e : Content) → LooksFrom sd from turn → HaveIds sd e → HasNoneBelow sd from e → After host sd faults turn e
after_looks host sd from faults (More next) e by ids none = (by.0.domain, known_at host sd (Looking from) next e by.0 (ids, none))
after_looks host sd from faults (Done u) e past ids none = record {
  file = none.file;
  there = none.there;
  area = none.area;
  none = λ k r slot below is. none.none k r slot (sooner k from below past) is;
}
  where
    sooner : (k from : ℕ) → k < 1024 → 1024 ≤ from → k < from
    sooner k from below past = omega (arith, below, past)
after_looks host sd from faults (Ended u refusal) e by ids none = absurd by
