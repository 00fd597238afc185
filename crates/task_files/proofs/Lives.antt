-- What stands in a task's file, on each outcome and after each step of its life.
use Rattle.std.proofs.Common.{◌≡◌, List, ◌∷◌, Option, Some, None, ◌∙◌, inl, inr}
use Rattle.sd_names.specs.declared.place.Place.{Place}
use Rattle.shared_disk.specs.Content.{Content}
use Rattle.shared_disk.specs.Crash.{IsFileOutcome, IsOutcome}
use Rattle.shared_disk.proofs.AtPlace.{also_none, kept_on_each}
use Rattle.shared_disk.proofs.Outcomes.{contains_here, contains_more}
use Rattle.task_store.specs.TaskText.{text_of}
use Rattle.task_store.specs.declared.task.Task.{Task}
use Rattle.whole_file.proofs.Texts.{text_stays}
use Rattle.task_files.specs.TaskFile.{HasOneOf, HasOneOnEach, HasTask, IsOldOr, IsOldOrOnEach}

-- what stands in the file is there on each outcome
pub task_stays : (d o : Content) (place : Place) (was : Option Task) → HasTask place was d → IsOutcome d o → HasTask place was o
task_stays d o place None has out = also_none IsFileOutcome (d.file place) (o.file place) (out.files place) has
task_stays d o place (Some t) has out = text_stays d o place (text_of t) has out

one_stays : (d o : Content) (place : Place) (ts : List Task) → HasOneOf place ts d → IsOutcome d o → HasOneOf place ts o
one_stays d o place ts (inl has) out = inl (task_stays d o place None has out)
one_stays d o place ts (inr has) out = inr (has.0, has.1, task_stays d o place (Some has.0) has.2 out)

pub one_on_each : (d : Content) (place : Place) (ts : List Task) → HasOneOf place ts d → HasOneOnEach place ts d
one_on_each d place ts has = record { now = has; outcomes = λ o out. one_stays d o place ts has out }

-- a file that is as it was has what it had
one_kept : (d e : Content) (place : Place) (ts : List Task) → HasOneOf place ts d → e.file place ≡ d.file place → HasOneOf place ts e
one_kept d e place ts (inl has) same = inl (same ∙ has)
one_kept d e place ts (inr has) same = inr (has.0, has.1, (has.2.0, same ∙ has.2.1, has.2.2))

-- it has one of more texts
one_of_more : (d : Content) (place : Place) (t : Task) (ts : List Task) → HasOneOf place ts d → HasOneOf place (t ∷ ts) d
one_of_more d place t ts (inl has) = inl has
one_of_more d place t ts (inr has) = inr (has.0, contains_more t has.0 ts has.1, has.2)

one_written : (d e : Content) (place : Place) (t : Task) (ts : List Task) → HasOneOf place ts d → IsOldOr place (Some t) d e → HasOneOf place (t ∷ ts) e
one_written d e place t ts has (inl same) = one_of_more e place t ts (one_kept d e place ts has same)
one_written d e place t ts has (inr new) = inr (t, contains_here t ts, new)

one_removed : (d e : Content) (place : Place) (ts : List Task) → HasOneOf place ts d → IsOldOr place None d e → HasOneOf place ts e
one_removed d e place ts has (inl same) = one_kept d e place ts has same
one_removed d e place ts has (inr gone) = inl gone

pub goes_on_written : (d e : Content) (place : Place) (t : Task) (ts : List Task) → HasOneOf place ts d → IsOldOr place (Some t) d e → HasOneOnEach place (t ∷ ts) e
goes_on_written d e place t ts has is = one_on_each e place (t ∷ ts) (one_written d e place t ts has is)

pub goes_on_removed : (d e : Content) (place : Place) (ts : List Task) → HasOneOf place ts d → IsOldOr place None d e → HasOneOnEach place ts e
goes_on_removed d e place ts has is = one_on_each e place ts (one_removed d e place ts has is)

-- what was left as it was, or got this task, is so on each outcome
pub old_or_on_each : (d e : Content) (place : Place) (new : Option Task) → IsOldOr place new d e → IsOldOrOnEach place new d e
old_or_on_each d e place new (inl same) o out = inl (kept_on_each d e o place same out)
old_or_on_each d e place new (inr has) o out = inr (task_stays e o place new has out)
