-- What a step of a gathering leaves.
use Rattle.std.specs.Prelude.{◌≡◌, ◌⊎◌, ℕ, ◌+◌, ◌-◌, ◌<◌, ◌≤◌, false, true, length, take, Option, Some, None, Ok}
use Rattle.sd_names.specs.Place.{NameHasIds}
use Rattle.sd_names.specs.Turn.{MatchTurn}
use Rattle.sd_names.specs.declared.absence.Absence.TheVariants as absence
use Rattle.sd_names.specs.declared.fault.VolumeFault.TheVariants as fault
use Rattle.sd_names.specs.declared.id.Id.{Id}
use Rattle.sd_names.specs.declared.place.Dir.{Dir}
use Rattle.sd_names.specs.declared.place.Name.{Name}
use Rattle.sd_names.specs.declared.place.Name.TheVariants as name
use Rattle.sd_names.specs.declared.place.Place.{Place}
use Rattle.sd_names.specs.declared.refusal.Refusal.{Refusal}
use Rattle.sd_names.specs.declared.refusal.Refusal.TheVariants.{ChainTooLong, DiskFault, MetaCorrupt, OutOfMemory, Vanished}
use Rattle.shared_disk.specs.Calls.{synced}
use Rattle.shared_disk.specs.Content.{Content, File}
use Rattle.shared_disk.specs.Crash.{IsAlso, IsOutcome}
use Rattle.shared_disk.specs.NameCalls.{IsNameAbove, ShowsName, place_in}
use Rattle.shared_disk.specs.Step.{IsDiskRefusal}
use Rattle.volume_meta.specs.declared.record.VolumeRecord.{VolumeRecord}
use Rattle.chain_model.specs.Records.{is_volume, text_of}
use Rattle.chain_records.specs.Records.{ids_of}
use Rattle.chain_gathering.specs.Kept.{AreValid, ids_found, next_of}
use Rattle.chain_gathering.specs.Knowing.{AreSettled, IsFirst, IsGathered, KnowsStage, volumes_in}
use Rattle.chain_gathering.specs.Names.{name_of, price}
use Rattle.chain_gathering.specs.Stages.{GatheringTurn, dir_in, image_in}
use Rattle.chain_gathering.specs.declared.gathered.Gathered.{Gathered}
use Rattle.chain_gathering.specs.declared.gathering.Gathering.{Gathering}
use Rattle.chain_gathering.specs.declared.names.VolumeName.{VolumeName}
use Rattle.chain_gathering.specs.declared.stages.Stage.{Stage}
use Rattle.chain_gathering.specs.declared.stages.Stage.TheVariants.{Listing, Syncing, Reading}
use Rattle.chain_gathering.specs.declared.stages.Target.{Target}

-- ---- on every disk

-- The refusals of each stage: the count of too many volumes once all were listed; a fault of the text that is read next, or
-- want of memory for its record. 120 and 122 come in each.
abbrev pub IsOwnRefusal : Gathered → Stage → Refusal → Type 0
IsOwnRefusal kept (Listing seen) (ChainTooLong n) = (n ≡ seen.count) × (32 < n)
IsOwnRefusal kept Reading (MetaCorrupt v fault.Memory) = ⊥
IsOwnRefusal kept Reading (MetaCorrupt v _) = next_of kept ≡ Some v
IsOwnRefusal kept Reading OutOfMemory = Unit {0}
IsOwnRefusal _ _ _ = ⊥

abbrev pub IsGatheringRefusal : Gathered → Stage → Refusal → Type 0
IsGatheringRefusal kept stage refusal = IsDiskRefusal refusal ⊎ IsOwnRefusal kept stage refusal

-- the steps that are left, `cost after` being what the names above `after` cost
abbrev pub left_of : (Option Name → ℕ) → Gathered → Stage → ℕ
left_of cost kept (Listing seen) = cost seen.after + length kept.found + 2
left_of cost kept (Syncing seen o) = cost (Some (name_of o)) + (price (name_of o) - 1) + length kept.found + 2
left_of cost kept Reading = length kept.found - length kept.records + 1

-- where a step lists a name, this holds of the name before it and of that one
abbrev pub MeetsAt : (Option Name → Option Name → Type 0) → Stage → Stage → Type 0
MeetsAt R (Listing seen) (Listing next) = R seen.after next.after
MeetsAt R (Listing seen) (Syncing next o) = R seen.after (Some (name_of o))
MeetsAt R (Listing seen) Reading = Unit {0}
MeetsAt R (Syncing seen o) next = Unit {0}
MeetsAt R Reading next = Unit {0}

-- the name that is listed is above the one before it
abbrev pub IsRise : Option Name → Option Name → Type 0
IsRise before None = ⊥
IsRise before (Some n) = IsNameAbove before n × NameHasIds n

-- the folder shows it
abbrev pub IsShown : Dir → Content → Option Name → Option Name → Type 0
IsShown dir d before None = ⊥
IsShown dir d before (Some n) = ShowsName d dir n

-- what the names above it cost, and it itself, the names above the one before it cost too
abbrev pub IsPaid : (Option Name → ℕ) → Option Name → Option Name → Type 0
IsPaid cost before None = ⊥
IsPaid cost before (Some n) = cost (Some n) + price n ≤ cost before

-- such a turn
abbrev pub MeetsBy : (Option Name → Option Name → Type 0) → Stage → GatheringTurn → Type 0
MeetsBy R stage turn = MatchTurn turn (λ next. MeetsAt R stage next.stage) (λ _. Unit {0}) (λ _ _. Unit {0})

-- It is of the same image, and fewer steps are left where the name that was listed is paid for.
pub record IsNearer (cost : Option Name → ℕ) (g : Gathering) (stage : Stage) (next : Gathering) : Type 0 where
  pub target : next.target ≡ g.target
  pub falls : MeetsAt (IsPaid cost) stage next.stage → left_of cost next.kept next.stage < left_of cost g.kept stage

-- a turn from this stage comes nearer to the end
abbrev pub NearsBy : Gathering → Stage → GatheringTurn → Type 0
NearsBy g stage turn = (cost : Option Name → ℕ) → MatchTurn turn
    (IsNearer cost g stage)
    (λ _. 0 < left_of cost g.kept stage)
    (λ _ _. 0 < left_of cost g.kept stage)

-- the records are those of the volumes that were found first, in their order
pub record AreOfFound (kept : Gathered) : Type 0 where
  pub short : length kept.records ≤ length kept.found
  pub order : ids_of kept.records ≡ take (length kept.records) (ids_found kept.found)

-- so they stay, and at the end each volume that was found has its record
abbrev pub KeepsOrder : Gathered → GatheringTurn → Type 0
KeepsOrder kept turn = MatchTurn turn
    (λ next. AreOfFound kept → AreOfFound next.kept)
    (λ gathered. AreOfFound kept → ids_of gathered.records ≡ ids_found gathered.found)
    (λ _ _. Unit {0})

-- the records that are kept stay valid
abbrev pub KeepsValid : Gathered → GatheringTurn → Type 0
KeepsValid kept turn = MatchTurn turn
    (λ next. AreValid kept.records → AreValid next.kept.records)
    (λ gathered. AreValid kept.records → AreValid gathered.records)
    (λ _ _. Unit {0})

-- ---- where the content is told

-- a file as it was, or synced by the host
abbrev pub IsKeptFile : ℕ → File → File → Type 0
IsKeptFile host f g = (g ≡ f) ⊎ (g ≡ synced host f)

-- what isn't there any more, where a step ends by 122
abbrev pub IsGoneAt : Target → Gathered → Stage → Content → Type 0
IsGoneAt t kept (Listing seen) d = d.dir (dir_in t) ≡ false
IsGoneAt t kept (Syncing seen o) d = d.file (place_in (dir_in t) (name_of o)) ≡ None
IsGoneAt t kept Reading d = (v : Id) × (next_of kept ≡ Some v) × (d.file (place_in (dir_in t) (name.Meta v)) ≡ None)

abbrev pub IsGone : Target → Gathered → Stage → Refusal → Content → Type 0
IsGone t kept stage (Vanished a) d = (a ≡ absence.NoFile) × IsGoneAt t kept stage d
IsGone t kept stage _ d = Unit {0}

-- where a step tells a fault of a text, or has no memory for its record, that text is there
abbrev pub IsOfText : Target → Gathered → Refusal → Content → Type 0
IsOfText t kept (MetaCorrupt v fault) d = (next_of kept ≡ Some v) × (is_volume (volumes_in (dir_in t) d) v ≡ true)
IsOfText t kept OutOfMemory d = (v : Id) × (next_of kept ≡ Some v) × (is_volume (volumes_in (dir_in t) d) v ≡ true)
IsOfText t kept _ d = Unit {0}

-- the text that was read has no fault
abbrev pub HasNoFault : Target → Gathered → Content → Type 0
HasNoFault t kept d = (v : Id) × (next_of kept ≡ Some v) × (x : VolumeRecord) × (text_of (image_in t) (volumes_in (dir_in t) d) v ≡ Some (Ok x))

-- A refusal of the image is that of the first check that refuses. At each but a fault of the disk all is settled.
abbrev pub IsRefused : Target → Gathered → Refusal → Content → Type 0
IsRefused t kept (DiskFault n) d = Unit {0}
IsRefused t kept (ChainTooLong n) d = AreSettled (dir_in t) d × IsFirst (image_in t) (volumes_in (dir_in t) d) (ChainTooLong n)
IsRefused t kept (MetaCorrupt v fault) d = AreSettled (dir_in t) d × IsFirst (image_in t) (volumes_in (dir_in t) d) (MetaCorrupt v fault)
IsRefused t kept OutOfMemory d = AreSettled (dir_in t) d × HasNoFault t kept d
IsRefused t kept _ d = ⊥

-- what a step's turn tells
abbrev pub After : Gathering → ℕ → GatheringTurn → Content → Type 0
After g host turn e = MatchTurn turn
    (λ next. KnowsStage next.target next.kept host e next.stage)
    (λ kept. IsGathered g.target kept e)
    (λ _ refusal. IsRefused g.target g.kept refusal e)

-- A step changes nothing but that what this host had not synced of one of the volumes' files and texts reaches the medium.
-- What crashes may leave then they might have left before.
pub record Gathers (g : Gathering) (host : ℕ) (turn : GatheringTurn) (d e : Content) : Type 0 where
  pub dirs : (q : Dir) → e.dir q ≡ d.dir q
  pub files : (o : VolumeName) → IsAlso (IsKeptFile host) (d.file (place_in (dir_in g.target) (name_of o))) (e.file (place_in (dir_in g.target) (name_of o)))
  pub others : (q : Place) → ((o : VolumeName) → q ≡ place_in (dir_in g.target) (name_of o) → ⊥) → e.file q ≡ d.file q
  pub outcomes : (o : Content) → IsOutcome e o → IsOutcome d o
  pub shows : MeetsBy (IsShown (dir_in g.target) d) g.stage turn
  pub gone : MatchTurn turn (λ _. Unit {0}) (λ _. Unit {0}) (λ _ refusal. IsGone g.target g.kept g.stage refusal d)
  pub there : MatchTurn turn (λ _. Unit {0}) (λ _. Unit {0}) (λ _ refusal. IsOfText g.target g.kept refusal d)
  pub after : KnowsStage g.target g.kept host d g.stage → After g host turn e
