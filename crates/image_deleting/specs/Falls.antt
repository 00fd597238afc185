-- How many more steps a deletion takes at the most, by what the names of the image's files cost.
use Rattle.std.specs.Prelude.{ℕ, ◌+◌, ◌<◌, Option, None}
use Rattle.sd_names.specs.Turn.{MatchTurn}
use Rattle.sd_names.specs.declared.place.Name.{Name}
use Rattle.lease_area.specs.Scan.{scan_left}
use Rattle.task_files.specs.Write.{write_left}
use Rattle.image_removing.specs.Falls.{Costs, IsPaid, IsRise, MeetsAt, steps_left}
use Rattle.image_removing.specs.Removing.{stage_of as removal_stage}
use Rattle.image_removing.specs.declared.removing.Pass.{Pass}
use Rattle.image_removing.specs.declared.removing.Pass.TheVariants.{Earlier, Moved}
use Rattle.image_deleting.specs.Deleting.{DeleteTurn, stage_of}
use Rattle.image_deleting.specs.declared.deleting.DeleteImage.{DeleteImage}
use Rattle.image_deleting.specs.declared.deleting.Stage.{Stage}
use Rattle.image_deleting.specs.declared.deleting.Stage.TheVariants.{Scanning, Taking, Opening, Removing, Clearing, Ending}

-- the steps of a whole removal of files
abbrev pub files_left : Costs → ℕ
files_left cost = cost Earlier None + 2 + (cost Moved None + 3)

-- 8 read the sectors, 1 takes and 1 empties the image's, 5 write each of the task's texts; between them the files go
abbrev pub left_of : Costs → Stage → ℕ
left_of cost (Scanning s) = scan_left s + files_left cost + 12
left_of cost (Taking slot found) = files_left cost + 12
left_of cost (Opening lease w) = write_left w + files_left cost + 6
left_of cost (Removing lease r) = steps_left cost r + 6
left_of cost (Clearing lease) = 6
left_of cost (Ending w) = write_left w

abbrev pub deletion_left : Costs → DeleteImage → ℕ
deletion_left cost c = left_of cost (stage_of c)

-- where a step lists a name, this holds of the pass, of the name before it and of that one
abbrev pub MeetsIn : (Pass → Option Name → Name → Type 0) → Stage → Stage → Type 0
MeetsIn R (Removing lease r) (Removing kept next) = MeetsAt R (removal_stage r) (removal_stage next)
MeetsIn R _ _ = Unit {0}

abbrev pub Rises : Stage → DeleteTurn → Type 0
Rises s turn = MatchTurn turn (λ next. MeetsIn IsRise s (stage_of next)) (λ _. Unit {0}) (λ _ _. Unit {0})

-- fewer steps are left where the name that was listed is paid for
abbrev pub Nears : Stage → DeleteTurn → Type 0
Nears s turn = (cost : Costs) → MatchTurn turn
    (λ next. MeetsIn (IsPaid cost) s (stage_of next) → deletion_left cost next < left_of cost s)
    (λ _. 0 < left_of cost s)
    (λ _ _. 0 < left_of cost s)
