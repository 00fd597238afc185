-- A step of a settling is a turn of the host's machine.
use Rattle.std.proofs.Common.{ℕ, List, ◌∷◌, Some, None, ◌+◌, refl, sym, subst, inl, inr}
use Rattle.sd_names.specs.UpSet.{Hosts}
use Rattle.sd_names.specs.declared.refusal.Refusal.{Refusal}
use Rattle.sd_names.specs.declared.refusal.Refusal.TheVariants.{DiskFault}
use Rattle.sd_names.specs.declared.turn.Turn.TheVariants.{More, Done, Ended}
use Rattle.shared_disk.specs.Content.{Content}
use Rattle.task_store.specs.declared.task.Task.{Task}
use Rattle.pool_model.specs.Kept.{StillKept}
use Rattle.pool_model.specs.Marks.{Mark, repeat, settle}
use Rattle.pool_model.specs.Pool.{Pool}
use Rattle.pool_model.specs.State.{HostState, Kept, Running}
use Rattle.pool_model.specs.Turns.{Cut, HostTurns, IsIdle, Refused, maker}
use Rattle.pool_model.specs.Verb.{Verb}
use Rattle.task_settling.specs.Settling.{SettleTurn}
use Rattle.task_settling.specs.Steps.{Stepped}
use Rattle.task_settling.specs.Turns.{Recovers, answer_of, running_after, running_with, runs}

-- where the disk failed in a verb that recovers, the host is as before
pub cut_by : (v : Verb) (ns : List Mark) (n : ℕ) (x y : HostState) → Recovers v → IsIdle x y x.role → Cut v ns n x y
cut_by v ns n x y (inl is) idle = subst (λ (w : Verb). Cut w ns n x y) (sym is) idle
cut_by v ns n x y (inr (sd, (prev, (lver, is)))) idle = subst (λ (w : Verb). Cut w ns n x y) (sym is) idle

module _ (h faults : ℕ) (up : Hosts) (v : Verb) (k l : Kept) (tally steps : ℕ) (x : HostState) (ms : List Mark) (task : Task) (d e : Content) (p : Pool) (recovers : Recovers v) (kept : StillKept k l) where
  abbrev run : Running
  run = running_with v k tally steps (repeat settle ∷ ms)

  abbrev before : HostState
  before = runs x (Some run)

  failed : (refusal : Refusal) (done : Stepped h up task faults (Ended tt refusal) d p e) → Refused (maker h up run) run before p (DiskFault faults) (runs x None) done.pool
  failed refusal done = record {
    marks = repeat settle ∷ ms;
    tally = (done.passes (maker h up run) ms tally).0;
    pool = done.pool;
    passing = (done.passes (maker h up run) ms tally).1;
    gives = inl refl;
    running = refl;
    cut = cut_by v (repeat settle ∷ ms) faults before (runs x None) recovers (record { role_is = refl; opened = λ s. refl });
  }

  pub settling_turns : (turn : SettleTurn) (done : Stepped h up task faults turn d p e) → HostTurns h up before p (answer_of turn) (runs x (running_after v l tally steps ms turn)) done.pool
  settling_turns (More next) done = (
    run,
    refl,
    record {
      marks = repeat settle ∷ ms;
      tally = tally;
      kept = l;
      passing = done.passes (maker h up run) ms tally;
      keeps = kept;
      running = refl;
      idle = record { role_is = refl; opened = λ s. refl };
    },
  )
  settling_turns (Done state) done = (
    run,
    refl,
    record {
      marks = ms;
      tally = tally + 1;
      kept = l;
      passing = done.passes (maker h up run) ms tally;
      keeps = kept;
      running = refl;
      idle = record { role_is = refl; opened = λ s. refl };
    },
  )
  settling_turns (Ended u refusal) done = (run, refl, subst (λ (r : Refusal). Refused (maker h up run) run before p r (runs x None) done.pool) (sym done.after) (failed refusal done))
