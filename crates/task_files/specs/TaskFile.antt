-- The file of a task, and what may stand in it.
use Rattle.std.specs.Prelude.{◌≡◌, ◌⊎◌, List, Contains, Option, Some, None}
use Rattle.sd_names.specs.declared.id.Id.{Id}
use Rattle.sd_names.specs.declared.place.Dir.TheVariants.{Tasks}
use Rattle.sd_names.specs.declared.place.Name.TheVariants as name
use Rattle.sd_names.specs.declared.place.Place.{Place}
use Rattle.shared_disk.specs.Content.{Content}
use Rattle.shared_disk.specs.Crash.{IsOutcome}
use Rattle.shared_disk.specs.NameCalls.{place_in}
use Rattle.task_store.specs.TaskText.{text_of}
use Rattle.task_store.specs.declared.task.Task.{Task}
use Rattle.whole_file.specs.Text.{HasText}

-- the file of a task of a domain, and the one beside it that becomes it
abbrev pub task_place : Id → Id → Place
task_place sd t = place_in (Tasks sd) (name.Task t)

abbrev pub volatile_place : Id → Id → Place
volatile_place sd t = place_in (Tasks sd) (name.TaskNew t)

-- the place has the whole text of this task, on the medium; without a task, no file
abbrev pub HasTask : Place → Option Task → Content → Type 0
HasTask place None d = d.file place ≡ None
HasTask place (Some t) d = HasText d place (text_of t)

-- the place is as it was, or has this task
abbrev pub IsOldOr : Place → Option Task → Content → Content → Type 0
IsOldOr place new d e = (e.file place ≡ d.file place) ⊎ HasTask place new e

-- What crashes may leave at the place of the second folder: what they may leave there of the first one, or this task.
abbrev pub IsOldOrOnEach : Place → Option Task → Content → Content → Type 0
IsOldOrOnEach place new d e =
    (o : Content) → IsOutcome e o → ((p : Content) × IsOutcome d p × (o.file place ≡ p.file place)) ⊎ HasTask place new o

-- the place has no file, or the whole text of one of these tasks
abbrev pub HasOneOf : Place → List Task → Content → Type 0
HasOneOf place ts d = HasTask place None d ⊎ ((t : Task) × Contains ts t × HasTask place (Some t) d)

-- so as it is, and whatever crashes leave
pub record HasOneOnEach (place : Place) (ts : List Task) (d : Content) : Type 0 where
  pub now : HasOneOf place ts d
  pub outcomes : (o : Content) → IsOutcome d o → HasOneOf place ts o
