-- Fewer steps are left behind each step of a freeing, on every disk: fewer sectors, or fewer names of the image at hand.
use Rattle.std.specs.Prelude.{◌≡◌, ◌⊎◌, ℕ, ◌+◌, ◌-◌, ◌*◌, ◌<◌, ◌≤◌, Option, Some}
use Rattle.sd_names.specs.Turn.{MatchTurn}
use Rattle.sd_names.specs.declared.id.Id.{Id}
use Rattle.sd_names.specs.declared.place.Name.{Name}
use Rattle.shared_disk.specs.NameCalls.{IsNameAbove}
use Rattle.sector_freeing.specs.Freeing.{FreeTurn, domain_of, stage_of}
use Rattle.sector_freeing.specs.declared.freeing.SectorFreeing.{SectorFreeing}
use Rattle.sector_freeing.specs.declared.freeing.Stage.{Stage}
use Rattle.sector_freeing.specs.declared.freeing.Stage.TheVariants.{Looking, Listing, Syncing, Freeing}

-- what the names above one cost, in an image's folder
abbrev pub Costs : Type 0
Costs = Option Name → ℕ

-- the sectors that are left, each counted twice: it is read, and it is worked on
abbrev pub ahead : Stage → ℕ
ahead (Looking from) = 2 * (1024 - from) + 1
ahead (Listing slot r after) = 2 * (1024 - slot)
ahead (Syncing slot r n) = 2 * (1024 - slot)
ahead (Freeing slot r) = 2 * (1024 - slot)

-- the steps that are left at a sector: two for each name, its listing and its sync; one listing more, and the exchange
abbrev pub left_at : Costs → Stage → ℕ
left_at cost (Looking from) = 1
left_at cost (Listing slot r after) = cost after + 2
left_at cost (Syncing slot r n) = cost (Some n) + 3
left_at cost (Freeing slot r) = 1

-- what the names above it cost, and its own two steps, the names above the one before it cost too
abbrev pub IsPaidFor : Costs → Stage → Stage → Type 0
IsPaidFor cost (Listing slot r after) (Syncing s q n) = cost (Some n) + 2 ≤ cost after
IsPaidFor cost _ _ = Unit {0}

-- the name that is listed is above the one before it
abbrev pub Rises : Stage → Stage → Type 0
Rises (Listing slot r after) (Syncing s q n) = IsNameAbove after n
Rises _ _ = Unit {0}

-- fewer sectors are left, or as many, and fewer steps at the one at hand
abbrev pub IsLess : Costs → Stage → Stage → Type 0
IsLess cost s now = (ahead now < ahead s) ⊎ ((ahead now ≡ ahead s) × (IsPaidFor cost s now → left_at cost now < left_at cost s))

pub record IsNearer (cost : Costs) (s : Stage) (sd : Id) (next : SectorFreeing) : Type 0 where
  pub domain : domain_of next ≡ sd
  pub rises : Rises s (stage_of next)
  pub falls : IsLess cost s (stage_of next)

abbrev pub NearsIn : Stage → Id → FreeTurn → Type 0
NearsIn s sd turn = (cost : Costs) → MatchTurn turn (IsNearer cost s sd) (λ _. 0 < left_at cost s) (λ _ _. 0 < left_at cost s)

abbrev pub Nears : SectorFreeing → FreeTurn → Type 0
Nears s turn = NearsIn (stage_of s) (domain_of s) turn
