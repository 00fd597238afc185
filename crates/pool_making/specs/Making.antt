-- Making a pool: which one, and how far it is.
use Rattle.std.specs.Prelude.{◌≡◌, ◌⊎◌, ℕ, ◌+◌, ◌-◌, ◌*◌, ◌<◌, List, length, Option, Some, None}
use Rattle.sd_names.specs.declared.id.Id.{Id}
use Rattle.sd_names.specs.declared.place.Dir.{Dir}
use Rattle.sd_names.specs.declared.place.Dir.TheVariants as dir
use Rattle.sd_names.specs.declared.refusal.Refusal.{Refusal}
use Rattle.sd_names.specs.declared.refusal.Refusal.TheVariants.{DomainExists, PoolExists}
use Rattle.shared_disk.specs.Step.{IsDiskRefusal}
use Rattle.shared_disk.specs.NameCalls.{IsDirAbove}
use Rattle.domain_meta.specs.Text.{domain_text}
use Rattle.domain_meta.specs.declared.record.DomainRecord.{DomainRecord}
use Rattle.whole_file.specs.Replace.{IsSameReplace, length_of, replace_left, stage_of as replace_stage, target_of, volatile_of}
use Rattle.whole_file.specs.declared.replace.Replace.{Replace}
use Rattle.whole_file.specs.declared.replace.Stage.TheVariants.{Begun}
use Rattle.pool_making.specs.Layout.{area_after, folder_after, metadata_new_of, metadata_of}
use Rattle.pool_making.specs.Pool.{area_rank, folder_rank}
use Rattle.pool_making.specs.declared.layout.Area.{Area}
use Rattle.pool_making.specs.declared.layout.Area.TheVariants.{Leases}
use Rattle.pool_making.specs.declared.layout.Folder.{Folder}
use Rattle.pool_making.specs.declared.layout.Folder.TheVariants as folder
use Rattle.pool_making.specs.declared.making.MakePool.{MakePool}
use Rattle.pool_making.specs.declared.making.Stage.{Stage}
use Rattle.pool_making.specs.declared.making.Stage.TheVariants.{Listing, Checking, Searching, Making, Clearing, Creating, Syncing, Writing}

-- the record of the new domain, the domain, its text, and how far the making is
abbrev pub record_of : MakePool → DomainRecord
record_of m = m.domain

abbrev pub domain_of : MakePool → Id
domain_of m = m.domain.sduuid

abbrev pub text_of : MakePool → List ℕ
text_of m = domain_text m.domain

abbrev pub stage_of : MakePool → Stage
stage_of m = m.stage

-- the same making in another stage
pub record IsAt (m : MakePool) (now : Stage) (next : MakePool) : Type 0 where
  pub same : record_of next ≡ record_of m
  pub now_in : stage_of next ≡ now

-- what is made behind a folder, and behind a file of zeros
abbrev pub behind_folder : Option Folder → Stage
behind_folder (Some f) = Making f
behind_folder None = Clearing Leases

-- the replacement that gives a domain its text has begun
pub record IsBegun (m : MakePool) (r : Replace) : Type 0 where
  pub target : target_of r ≡ metadata_of (domain_of m)
  pub volatile : volatile_of r ≡ metadata_new_of (domain_of m)
  pub length : length (text_of m) ≡ length_of r
  pub stage : replace_stage r ≡ Begun

abbrev pub IsBehindArea : MakePool → Option Area → Stage → Type 0
IsBehindArea m (Some a) next = next ≡ Clearing a
IsBehindArea m None next = (r : Replace) × (next ≡ Writing r) × IsBegun m r

-- a listing goes on behind a folder, or ends
abbrev pub IsListedNext : Option Dir → Stage → Type 0
IsListedNext after next =
    ((q : Id) × IsDirAbove after (dir.Domain q) × (next ≡ Checking q))
    ⊎ (((q : Dir) × IsDirAbove after q × (next ≡ Listing (Some q))) ⊎ (next ≡ Searching))

-- which stage follows
abbrev pub IsNext : Stage → MakePool → Stage → Type 0
IsNext (Listing after) m next = IsListedNext after next
IsNext (Checking q) m next = next ≡ Listing (Some (dir.Domain q))
IsNext Searching m next = next ≡ Making folder.Domain
IsNext (Making f) m next = next ≡ behind_folder (folder_after f)
IsNext (Clearing a) m next = next ≡ Creating a
IsNext (Creating a) m next = next ≡ Syncing a
IsNext (Syncing a) m next = IsBehindArea m (area_after a) next
IsNext (Writing r) m next = (s : Replace) × (next ≡ Writing s) × IsSameReplace r s × (replace_left s < replace_left r)

-- the same making, in the stage that follows
pub record IsNearer (m next : MakePool) : Type 0 where
  pub same : record_of next ≡ record_of m
  pub stage : IsNext (stage_of m) m (stage_of next)

-- only the last stage ends it
abbrev pub IsLastOf : Stage → Type 0
IsLastOf (Writing r) = Unit {0}
IsLastOf _ = ⊥

-- How many more steps a making takes at the most, where so many folders are still to be listed.
abbrev pub left_of : ℕ → Stage → ℕ
left_of n (Listing after) = 2 * n + 21
left_of n (Checking q) = 2 * n + 22
left_of n Searching = 20
left_of n (Making f) = 19 - folder_rank f
left_of n (Clearing a) = 14 - 3 * area_rank a
left_of n (Creating a) = 13 - 3 * area_rank a
left_of n (Syncing a) = 12 - 3 * area_rank a
left_of n (Writing r) = replace_left r

-- the refusals of a making
abbrev pub IsMakeRefusal : Refusal → Type 0
IsMakeRefusal (PoolExists q) = Unit {0}
IsMakeRefusal DomainExists = Unit {0}
IsMakeRefusal refusal = IsDiskRefusal refusal
