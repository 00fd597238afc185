-- A step of a freeing is a turn of the host's machine.
use Rattle.std.proofs.Common.{◌≡◌, ℕ, List, [], ◌∷◌, Some, None, refl, sym, subst, inl}
use Rattle.sd_names.specs.UpSet.{Hosts}
use Rattle.sd_names.specs.declared.id.Id.{Id}
use Rattle.sd_names.specs.declared.refusal.Refusal.{Refusal}
use Rattle.sd_names.specs.declared.refusal.Refusal.TheVariants.{DiskFault}
use Rattle.sd_names.specs.declared.turn.Turn.TheVariants.{More, Done, Ended}
use Rattle.sd_names.specs.declared.verb.Payload.{Payload}
use Rattle.shared_disk.specs.Content.{Content}
use Rattle.pool_model.specs.Kept.{StillKept}
use Rattle.pool_model.specs.Marks.{Mark, liberate, repeat}
use Rattle.pool_model.specs.Pool.{Pool}
use Rattle.pool_model.specs.Rules.{Spent}
use Rattle.pool_model.specs.State.{HostState, Kept, Running}
use Rattle.pool_model.specs.Turns.{Ends, GivesBytes, HostTurns, Refused, done, maker, more}
use Rattle.pool_model.specs.Verb.{Verb}
use Rattle.task_settling.specs.Turns.{Recovers, runs}
use Rattle.task_settling.proofs.Turns.{cut_by}
use Rattle.sector_freeing.specs.Freeing.{FreeTurn}
use Rattle.sector_freeing.specs.Stepped.{Stepped}
use Rattle.sector_freeing.specs.Turns.{answer_of, frees_next, running_after}

module _ (h faults : ℕ) (up : Hosts) (v : Verb) (k l : Kept) (tally steps : ℕ) (x : HostState) (ms : List Mark) (sd : Id) (d e : Content) (p : Pool) (recovers : Recovers v) (kept : StillKept k l) where
  abbrev run : Running
  run = frees_next v k tally steps ms

  abbrev before : HostState
  before = runs x (Some run)

  failed : (refusal : Refusal) (did : Stepped h up sd faults (Ended tt refusal) d p e) → Refused (maker h up run) run before p (DiskFault faults) (runs x None) did.pool
  failed refusal did = record {
    marks = repeat liberate ∷ ms;
    tally = tally;
    pool = did.pool;
    passing = did.passes.stays (maker h up run) ms tally;
    gives = inl refl;
    running = refl;
    cut = cut_by v (repeat liberate ∷ ms) faults before (runs x None) recovers (record { role_is = refl; opened = λ s. refl });
  }

  goes_on : (turn : FreeTurn) (did : Stepped h up sd faults turn d p e) → HostTurns h up before p more (runs x (running_after v l tally steps ms (Done tt))) did.pool
  goes_on turn did = (
    run,
    refl,
    record {
      marks = repeat liberate ∷ ms;
      tally = tally;
      kept = l;
      passing = did.passes.stays (maker h up run) ms tally;
      keeps = kept;
      running = refl;
      idle = record { role_is = refl; opened = λ s. refl };
    },
  )

  pub freeing_turns : (turn : FreeTurn) (did : Stepped h up sd faults turn d p e) → HostTurns h up before p (answer_of turn) (runs x (running_after v l tally steps ms turn)) did.pool
  freeing_turns (More next) did = goes_on (More next) did
  freeing_turns (Done u) did = goes_on (Done u) did
  freeing_turns (Ended u refusal) did = (run, refl, subst (λ (r : Refusal). Refused (maker h up run) run before p r (runs x None) did.pool) (sym did.after) (failed refusal did))

pub freeing_ends : (h faults : ℕ) (up : Hosts) (v : Verb) (k : Kept) (tally steps : ℕ) (x y : HostState) (reply : Payload) (sd : Id) (d e : Content) (p : Pool)
    → (did : Stepped h up sd faults (Done tt) d p e) → Spent liberate did.pool → y.running ≡ None → Ends h v tally (runs x (Some (frees_next v k tally steps []))) did.pool reply [] y → GivesBytes reply []
    → HostTurns h up (runs x (Some (frees_next v k tally steps []))) p (done reply []) y did.pool
freeing_ends h faults up v k tally steps x y reply sd d e p did nothing idle ends gives = (
  frees_next v k tally steps [],
  refl,
  record {
    tally = tally;
    passing = did.passes.ends nothing (maker h up (frees_next v k tally steps [])) [] tally;
    running = idle;
    ends = ends;
    gives = gives;
  },
)
