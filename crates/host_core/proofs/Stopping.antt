-- The step of `spm-stop`: one exchange of sector 0, and the turns of the machine that it is.
use Rattle.std.proofs.Common.{◌≡◌, ℕ, ◌<◌, true, false, List, [], ◌∷◌, Option, Some, None, Result, Ok, Err, refl, sym, ap, subst, ◌∙◌, inl, inr, arith}
use Rattle.sd_names.specs.UpSet.{Hosts, is_up}
use Rattle.sd_names.specs.declared.id.Id.{Id}
use Rattle.sd_names.specs.declared.place.Name.TheVariants as name
use Rattle.sd_names.specs.declared.refusal.Refusal.{Refusal}
use Rattle.sd_names.specs.declared.refusal.Refusal.TheVariants.{DiskFault}
use Rattle.sd_names.specs.declared.verb.Payload.TheVariants as payload
use Rattle.shared_disk.specs.Calls.{IsSame}
use Rattle.shared_disk.specs.Content.{Content}
use Rattle.lease_area.specs.Hold.{GivesUp, IsMoved, Stands as StandsAt}
use Rattle.lease_area.specs.Move.{LeaseMove, freed}
use Rattle.lease_area.specs.Sector.{IsRecord, IsSector, sector_bytes}
use Rattle.lease_area.specs.declared.sector.Kind.TheVariants as kind
use Rattle.lease_area.specs.declared.sector.LeaseRecord.{LeaseRecord}
use Rattle.lease_area.specs.declared.sector.Sector.{Sector}
use Rattle.lease_area.specs.declared.sector.Sector.TheVariants.{Lease}
use Rattle.pool_model.specs.Laws.{with_role}
use Rattle.pool_model.specs.Leases.{Holds, IsGuest}
use Rattle.pool_model.specs.Marks.{Mark, change, check, still_leads, yield}
use Rattle.pool_model.specs.Pool.{Pool}
use Rattle.pool_model.specs.Rules.{IsHeldAt, Passing, changed, here, passed}
use Rattle.pool_model.specs.Standing.{LeasesStand, MasterLists, MasterStands, Stands, file_in}
use Rattle.pool_model.specs.State.{Kept, Opened, Running}
use Rattle.pool_model.specs.Turns.{Answer, HostTurns, done, maker, refused}
use Rattle.pool_model.specs.Verb as verb
use Rattle.pool_model.proofs.Kept.{standing_keeps}
use Rattle.pool_model.proofs.OneDomain.{listed_here}
use Rattle.pool_model.proofs.Roles.{names_stay, names_stood, nothing_changed, nothing_owned, role_changed, role_frame, role_owned}
use Rattle.host_core.specs.Knows.{HostKnows, WritesNoBox}
use Rattle.host_core.specs.Memory.{IsFit, IsSound, Leader, Memory}
use Rattle.host_core.specs.State.{state_of}
use Rattle.host_core.specs.Steps.{HostSteps, Stepped, answer_of}
use Rattle.host_core.specs.declared.progress.Progress.{Progress}
use Rattle.host_core.specs.declared.progress.Progress.TheVariants.{Done}
use Rattle.host_core.specs.declared.progress.Reply.TheVariants as reply
use Rattle.host_core.specs.declared.work.Work.{Work}
use Rattle.host_core.specs.declared.work.Work.TheVariants as work

nothing_open : (o : Opened) → ◌≡◌ {A = Option Opened} None (Some o) → ⊥
nothing_open o e = cc

not_task : kind.Free ≡ kind.Task → ⊥
not_task e = cc

pub freed_fits : (r : LeaseRecord) → IsRecord r → IsRecord (freed r)
freed_fits r x = record { owner = refl; version = x.version; image = x.image }

-- what is answered, by what giving the role up answered
abbrev pub progress_of : Result (Unit {0}) Refusal → Progress
progress_of (Ok _) = Done (reply.Ok payload.SpmStop)
progress_of (Err e) = Done (reply.Refused e)

module _ (up : Hosts) (id moment steps : ℕ) (bytes : List ℕ) (l : Leader) (k : Kept) (p : Pool) (d e : Content) (own : l.lease.owner ≡ id)
    (rests : l.begun ≡ None) (move : LeaseMove up id false 0 (Lease l.lease) (Lease (freed l.lease))) (stands : Stands up d p) where
  abbrev before : Memory
  before = record { id = id; moment = moment; leading = Some l; work = Some work.Stop; steps = steps; bytes = bytes }

  abbrev after : Memory
  after = record { id = id; moment = moment; leading = None; work = None; steps = steps; bytes = bytes }

  abbrev run : Running
  run = record {
    verb = verb.spm_stop;
    marks = check (still_leads l.master l.lease.version) ∷ change (yield l.master l.lease.version) ∷ [];
    tally = 0;
    steps = steps;
    kept = k;
  }

  abbrev new : LeaseRecord
  new = freed l.lease

  abbrev q : Pool
  q = with_role p l.master new

  module _ (knows : HostKnows k before p) where
    lists : MasterLists p l.master
    lists = subst (λ (o : Option Id). MasterStands p o) knows.machine.role.master stands.master

    leases : LeasesStand (p.sector l.master) (file_in l.master name.Leases d)
    leases = (listed_here up d p l.master lists.is stands lists.listed).leases

    within : 0 < leases.file.size
    within = omega (arith, leases.size)

    -- what stands in sector 0
    stands_at : StandsAt d l.master 0 (sector_bytes (Lease l.lease))
    stands_at = record {
      file = leases.file;
      there = leases.there;
      within = within;
      settled = leases.settled;
      bytes_are = leases.each 0 (omega arith) ∙ ap (λ (s : Sector). sector_bytes s) knows.lease;
    }

    fits : IsRecord new
    fits = freed_fits l.lease (subst (λ (s : Sector). IsSector s) knows.lease (leases.fits 0))

    held : IsHeldAt (p.sector l.master 0) id l.lease.version
    held = record { lease = l.lease; sector = knows.lease; owner = own; version_is = refl }

    holds : (sd i : Id) (h : ℕ) → is_up up h ≡ true → Holds p h sd i → Holds q h sd i
    holds sd i h alive (inl (n, (r, names, is, owner))) = inl (n, (r, names_stay p l.master new sd i n r names, is, owner))
    holds sd i h alive (inr (lead, tasked)) = absurd (knows.machine.role.none_held rests sd i tasked)

    -- the marks pass
    passes : Passing (maker id up run) run.marks 0 p [] 0 q
    passes = passed (λ r refusal. refusal.0 held) (changed (l.lease, knows.lease, own, refl, refl) here)

    guests : (sd i : Id) → IsGuest q sd i id → IsGuest p sd i id
    guests sd i (n, (r, names, is, owner)) = (n, (r, names_stood p l.master new sd i n r names, is, owner))

    -- a host without open images and without a verb
    knows_after : (o : Pool) → ((sd i : Id) → o.image sd i ≡ p.image sd i) → ((sd i : Id) → IsGuest o sd i id → IsGuest p sd i id) → WritesNoBox id o
        → HostKnows k after o
    knows_after o images guest boxes = record {
      machine = record {
        role = tt;
        opened = λ s x low is. absurd (nothing_open x is);
        once = λ sd i s r x y at to. absurd (nothing_open x at.there);
        torn = λ sd i m t is there cut.
            let at = knows.machine.torn sd i m t (guest sd i is) (sym (images sd i) ∙ there) cut in absurd (nothing_open at.1.0 at.1.1.there);
        making = tt;
        texts = tt;
      };
      lease = tt;
      lists = tt;
      boxes = boxes;
      steps = tt;
    }

    moved_step : (answer : Answer) → HostTurns id up (state_of k before) p answer (state_of k after) q → IsMoved d l.master 0 (Lease new) e
        → Stepped up k before d p answer after e
    moved_step answer turn moved = record {
      pool = q;
      kept = k;
      turns = turn;
      stands = frame;
      knows = knows_after q (λ sd i. refl) guests knows.boxes;
      keeps = standing_keeps up e q frame;
      owned = role_owned up d e p l.master new stands knows.machine.role.master moved fits not_task holds id verb.spm_stop
          (subst (λ (s : Sector). LeaseMove up id false 0 s (Lease new)) (sym knows.lease) move);
      changes = role_changed id up p l.master new (subst (λ (s : Sector). LeaseMove up id false 0 s (Lease new)) (sym knows.lease) move);
    }
      where
        frame : Stands up e q
        frame = role_frame up d e p l.master new stands knows.machine.role.master moved fits not_task holds

    same_step : (answer : Answer) → HostTurns id up (state_of k before) p answer (state_of k after) p → IsSame d e → Stepped up k before d p answer after e
    same_step answer turn same = subst (λ (c : Content). Stepped up k before d p answer after c) (sym same) (record {
      pool = p;
      kept = k;
      turns = turn;
      stands = stands;
      knows = knows_after p (λ sd i. refl) (λ sd i guest. guest) knows.boxes;
      keeps = standing_keeps up d p stands;
      owned = nothing_owned id up verb.spm_stop p d;
      changes = nothing_changed id up p;
    })

    done_turn : HostTurns id up (state_of k before) p (done payload.SpmStop []) (state_of k after) q
    done_turn = (
      run,
      refl,
      record {
        tally = 0;
        passing = passes;
        running = refl;
        ends = record { role_is = refl; opened = λ s. refl };
        gives = refl;
      },
    )

    fault_turn : (faults : ℕ) (marks : List Mark) (o : Pool) → Passing (maker id up run) run.marks 0 p marks 0 o
        → HostTurns id up (state_of k before) p (refused (DiskFault faults)) (state_of k after) o
    fault_turn faults marks o passing = (
      run,
      refl,
      record {
        marks = marks;
        tally = 0;
        pool = o;
        passing = passing;
        gives = inl refl;
        running = refl;
        cut = record { role_is = refl; opened = λ s. refl };
      },
    )

    stops : (faults : ℕ) (result : Result (Unit {0}) Refusal) → GivesUp l.master 0 l.lease (Lease new) faults (sector_bytes (Lease l.lease)) result d e
        → Stepped up k before d p (answer_of (progress_of result) bytes) after e
    stops faults (Ok u) (is, moved) = moved_step (done payload.SpmStop []) done_turn moved
    stops faults (Err refusal) (inl (other, is, same)) = absurd (other refl)
    stops faults (Err refusal) (inr (fault, inl same)) =
        subst (λ (r : Refusal). Stepped up k before d p (refused r) after e) (sym fault)
        (same_step (refused (DiskFault faults)) (fault_turn faults run.marks p here) same)
    stops faults (Err refusal) (inr (fault, inr (is, moved))) =
        subst (λ (r : Refusal). Stepped up k before d p (refused r) after e) (sym fault)
        (moved_step (refused (DiskFault faults)) (fault_turn faults [] q passes) moved)

-- the step of a host that gives its role back, by what the host kept
pub stop_leaves : (up : Hosts) (x : Memory) (l : Leader) (now : Option Leader) (d e : Content) (faults : ℕ) (result : Result (Unit {0}) Refusal)
    → IsSound x.id x.leading x.work → x.work ≡ Some work.Stop → x.leading ≡ Some l → now ≡ None
    → LeaseMove up x.id false 0 (Lease l.lease) (Lease (freed l.lease))
    → ((b : List ℕ) → StandsAt d l.master 0 b → GivesUp l.master 0 l.lease (Lease (freed l.lease)) faults b result d e)
    → HostSteps up x d (answer_of (progress_of result) x.bytes) (record x { leading = now; work = None }) e
stop_leaves up x l now d e faults result sound works leads left move gives =
    subst (λ (o : Option Leader). HostSteps up x d (answer_of (progress_of result) x.bytes) (record x { leading = o; work = None }) e) (sym left)
    (subst (λ (w : Option Work). HostSteps up (record x { work = w }) d (answer_of (progress_of result) x.bytes) (record x { leading = None; work = None }) e) (sym works)
    (subst (λ (o : Option Leader). HostSteps up (record x { leading = o; work = Some work.Stop }) d (answer_of (progress_of result) x.bytes) (record x { leading = None; work = None }) e)
    (sym leads)
    (λ k p stands knows. stops up x.id x.moment x.steps x.bytes l k p d e own rests move stands knows faults result
    (gives (sector_bytes (Lease l.lease)) (stands_at up x.id x.moment x.steps x.bytes l k p d e own rests move stands knows)))))
  where
    here_is : IsSound x.id (Some l) (Some work.Stop)
    here_is = subst (λ (o : Option Leader). IsSound x.id o (Some work.Stop)) leads (subst (λ (w : Option Work). IsSound x.id x.leading w) works sound)

    own : l.lease.owner ≡ x.id
    own = here_is.own

    rests : l.begun ≡ None
    rests = here_is.fit

-- whoever gives its role back is the manager
pub nobody : (o : Option Leader) (w : Option Work) → IsFit w o → w ≡ Some work.Stop → o ≡ None → ⊥
nobody o w fit works none = subst (λ (x : Option Leader). IsFit (Some work.Stop) x) none (subst (λ (x : Option Work). IsFit x o) works fit)
