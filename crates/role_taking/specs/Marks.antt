-- The marks of `spm-start` that are still to come, by how far a taking is.
use Rattle.std.specs.Prelude.{ℕ, ◌+◌, ◌-◌, ◌^◌, min, List, ◌∷◌, Option, Some, None}
use Rattle.sd_names.specs.declared.turn.Turn.{Turn}
use Rattle.sd_names.specs.declared.turn.Turn.TheVariants.{Done, Ended, More}
use Rattle.spm_role.specs.Start.{stage_of}
use Rattle.spm_role.specs.declared.spm.Spm.{Spm}
use Rattle.spm_role.specs.declared.start.Stage.{Stage}
use Rattle.spm_role.specs.declared.start.Stage.TheVariants.{Begun, Known, Listed, Seen}
use Rattle.pool_model.specs.Marks.{Mark, change, check, domain_read, is_master, lead, owner_is, recovery, unled, version_is}
use Rattle.pool_model.specs.State.{HostState, Kept, Running}
use Rattle.pool_model.specs.Turns.{Answer, more, refused}
use Rattle.pool_model.specs.Verb.{Verb}
use Rattle.pool_model.specs.Verb as verb
use Rattle.role_taking.specs.Asked.{Asked}
use Rattle.role_taking.specs.declared.taking.RoleTaking.{RoleTaking}
use Rattle.role_taking.specs.declared.taking.RoleTaking.TheVariants.{Starting, Taken}

-- behind what is asked of the text
abbrev pub role_marks : Asked → List Mark
role_marks a = check (unled a.sd) ∷ check (owner_is a.sd a.prev) ∷ check (version_is a.sd a.lver) ∷ change (lead a.sd a.prev a.lver) ∷ recovery

abbrev pub all_marks : Asked → List Mark
all_marks a = domain_read a.sd (check (is_master a.sd) ∷ role_marks a)

abbrev pub stage_marks : Asked → Stage → List Mark
stage_marks a Begun = all_marks a
stage_marks a Known = role_marks a
stage_marks a (Seen x) = role_marks a
stage_marks a (Listed x pool) = role_marks a

abbrev pub marks_left : Asked → RoleTaking → List Mark
marks_left a (Starting s) = stage_marks a (stage_of s)
marks_left a (Taken spm) = recovery

-- ---- the running verb

abbrev pub verb_of : Asked → Verb
verb_of a = verb.spm_start a.sd a.prev a.lver

abbrev pub running_with : Asked → Kept → ℕ → List Mark → Running
running_with a k steps ms = record { verb = verb_of a; marks = ms; tally = 0; steps = steps; kept = k }

abbrev pub next_steps : ℕ → ℕ
next_steps steps = min (steps + 1) (2 ^ 64 - 1)

-- a host that runs this, and is as this one in all else
abbrev pub runs : HostState → Option Running → HostState
runs x run = record { role = x.role; opened = x.opened; running = run }

-- what a turn leaves running: once the role is taken and the list read, the recovery is to come
abbrev pub running_after : Asked → Kept → ℕ → Turn RoleTaking Spm (Unit {0}) → Option Running
running_after a k steps (More next) = Some (running_with a k (next_steps steps) (marks_left a next))
running_after a k steps (Done spm) = Some (running_with a k (next_steps steps) recovery)
running_after a k steps (Ended _ e) = None

-- what a turn answers: the verb isn't at its end with it, unless it was refused
abbrev pub answer_of : Turn RoleTaking Spm (Unit {0}) → Answer
answer_of (More next) = more
answer_of (Done spm) = more
answer_of (Ended _ e) = refused e
