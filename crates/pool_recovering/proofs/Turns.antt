-- A step of a recovery is a turn of the host's machine.
use Rattle.std.proofs.Common.{◌≡◌, ◌⊎◌, ℕ, ◌+◌, Bool, true, false, List, ◌∷◌, Some, None, refl, sym, subst, inl, inr}
use Rattle.std.specs.List.{list_any}
use Rattle.sd_names.specs.UpSet.{Hosts}
use Rattle.sd_names.specs.declared.id.Id.{Id}
use Rattle.sd_names.specs.declared.refusal.Refusal.{Refusal}
use Rattle.sd_names.specs.declared.refusal.Refusal.TheVariants.{DiskFault, OutOfMemory}
use Rattle.sd_names.specs.declared.turn.Turn.TheVariants.{More, Done, Ended}
use Rattle.shared_disk.specs.Content.{Content}
use Rattle.pool_model.specs.Kept.{StillKept}
use Rattle.pool_model.specs.Marks.{Mark, repeat, settle}
use Rattle.pool_model.specs.Pool.{Pool}
use Rattle.pool_model.specs.Role.{Role}
use Rattle.pool_model.specs.Rules.{Maker}
use Rattle.pool_model.specs.State.{HostState, Kept, Running}
use Rattle.pool_model.specs.Turns.{FreedUnless, HostTurns, MayLackMemory, Refused, is_take, maker, role_refused}
use Rattle.pool_model.specs.Verb.{Verb}
use Rattle.task_listing.specs.Listing.{Noted}
use Rattle.task_settling.specs.Turns.{Recovers, running_with, runs}
use Rattle.task_settling.proofs.Turns.{cut_by}
use Rattle.pool_recovering.specs.Recovering.{RecoveryTurn}
use Rattle.pool_recovering.specs.Steps.{Stepped}
use Rattle.pool_recovering.specs.Turns.{answer_of, running_after}

-- in a verb that recovers there may be no memory at any mark
may_lack : (v : Verb) (ns : List Mark) → Recovers v → MayLackMemory v ns
may_lack v ns (inl is) = subst (λ (w : Verb). MayLackMemory w ns) (sym is) tt
may_lack v ns (inr (sd, (prev, (lver, is)))) = subst (λ (w : Verb). MayLackMemory w ns) (sym is) tt

-- it has no lease of an image to give back
gives_none : (c : Maker) (v : Verb) (b : Bool) (q : Pool) → Recovers v → FreedUnless b c v q q
gives_none c v true q recovers = refl
gives_none c v false q (inl is) = subst (λ (w : Verb). FreedUnless false c w q q) (sym is) refl
gives_none c v false q (inr (sd, (prev, (lver, is)))) = subst (λ (w : Verb). FreedUnless false c w q q) (sym is) refl

-- and keeps its role
keeps_role : (v : Verb) (role : Role) → Recovers v → role ≡ role_refused v role
keeps_role v role (inl is) = subst (λ (w : Verb). role ≡ role_refused w role) (sym is) refl
keeps_role v role (inr (sd, (prev, (lver, is)))) = subst (λ (w : Verb). role ≡ role_refused w role) (sym is) refl

module _ (h faults : ℕ) (up : Hosts) (v : Verb) (k l : Kept) (tally steps : ℕ) (x : HostState) (ms : List Mark) (master : Id) (tasks : List Noted) (d e : Content) (p : Pool)
    (recovers : Recovers v) (kept : StillKept k l) where
  abbrev run : Running
  run = running_with v k tally steps (repeat settle ∷ ms)

  abbrev before : HostState
  before = runs x (Some run)

  failed : (refusal : Refusal) (done : Stepped h up master tasks faults (Ended tt refusal) d p e) → Refused (maker h up run) run before p (DiskFault faults) (runs x None) done.pool
  failed refusal done = record {
    marks = repeat settle ∷ ms;
    tally = (done.passes (maker h up run) ms tally).0;
    pool = done.pool;
    passing = (done.passes (maker h up run) ms tally).1;
    gives = inl refl;
    running = refl;
    cut = cut_by v (repeat settle ∷ ms) faults before (runs x None) recovers (record { role_is = refl; opened = λ s. refl });
  }

  lacking : (refusal : Refusal) (done : Stepped h up master tasks faults (Ended tt refusal) d p e) → Refused (maker h up run) run before p OutOfMemory (runs x None) done.pool
  lacking refusal done = record {
    marks = repeat settle ∷ ms;
    tally = (done.passes (maker h up run) ms tally).0;
    pool = done.pool;
    passing = (done.passes (maker h up run) ms tally).1;
    may = may_lack v (repeat settle ∷ ms) recovers;
    gives = gives_none (maker h up run) v (list_any is_take (repeat settle ∷ ms)) done.pool recovers;
    running = refl;
    idle = record { role_is = keeps_role v x.role recovers; opened = λ s. refl };
  }

  refused_by : (refusal : Refusal) (done : Stepped h up master tasks faults (Ended tt refusal) d p e) → (refusal ≡ OutOfMemory) ⊎ (refusal ≡ DiskFault faults)
      → Refused (maker h up run) run before p refusal (runs x None) done.pool
  refused_by refusal done (inl is) = subst (λ (r : Refusal). Refused (maker h up run) run before p r (runs x None) done.pool) (sym is) (lacking refusal done)
  refused_by refusal done (inr is) = subst (λ (r : Refusal). Refused (maker h up run) run before p r (runs x None) done.pool) (sym is) (failed refusal done)

  pub recovery_turns : (turn : RecoveryTurn) (done : Stepped h up master tasks faults turn d p e)
      → HostTurns h up before p (answer_of turn) (runs x (running_after v l tally steps ms turn)) done.pool
  recovery_turns (More next) done = (
    run,
    refl,
    record {
      marks = repeat settle ∷ ms;
      tally = tally;
      kept = l;
      passing = done.passes (maker h up run) ms tally;
      keeps = kept;
      running = refl;
      idle = record { role_is = refl; opened = λ s. refl };
    },
  )
  recovery_turns (Done count) done = (
    run,
    refl,
    record {
      marks = ms;
      tally = tally + count;
      kept = l;
      passing = done.passes (maker h up run) ms tally;
      keeps = kept;
      running = refl;
      idle = record { role_is = refl; opened = λ s. refl };
    },
  )
  recovery_turns (Ended u refusal) done = (run, refl, refused_by refusal done done.after)
