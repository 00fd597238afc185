-- A step that clears the image of a step away, on a disk that stands for a pool.
use Rattle.std.proofs.Common.{◌≡◌, ◌≢◌, ◌⊎◌, ℕ, ◌-◌, ◌≤◌, List, ◌∷◌, Option, Some, drop, length, refl, sym, ap, subst, ◌∙◌, inl, inr}
use Rattle.std.specs.Prelude.{All, Contains}
use Rattle.std.proofs.lemmas.List.Elements.{All-cons}
use Rattle.sd_names.specs.UpSet.{Hosts}
use Rattle.sd_names.specs.declared.id.Id.{Id}
use Rattle.sd_names.specs.declared.refusal.Refusal.{Refusal}
use Rattle.sd_names.specs.declared.refusal.Refusal.TheVariants.{DiskFault}
use Rattle.sd_names.specs.declared.turn.Turn.TheVariants.{More, Done, Ended}
use Rattle.shared_disk.specs.Calls.{IsSame}
use Rattle.shared_disk.specs.Content.{Content}
use Rattle.shared_disk.specs.Step.{GoesOn}
use Rattle.shared_disk.specs.WellFormed.{IsWellFormed}
use Rattle.lease_area.specs.Hold.{IsMoved}
use Rattle.lease_area.specs.declared.sector.LeaseRecord.{LeaseRecord}
use Rattle.lease_area.specs.declared.sector.Sector.TheVariants.{Empty}
use Rattle.task_store.specs.declared.task.Task.{Task}
use Rattle.task_store.specs.declared.undo.Undo.{Undo}
use Rattle.chain_model.proofs.Settled.{is_one}
use Rattle.image_removing.specs.Steps.{IsGone as HasNoFolder}
use Rattle.image_removing.specs.declared.removing.ImageRemoving.{ImageRemoving}
use Rattle.lease_area.specs.declared.scan.Scan.{Scan}
use Rattle.image_clearing.specs.Clearing.{ClearTurn, domain_of, image_of, stage_of as clearing_stage}
use Rattle.image_clearing.specs.Knowing.{IsEmptying, IsHeld, IsReady, IsRemoving, Knows as KnowsClearing}
use Rattle.image_clearing.specs.Steps.{StepsIn}
use Rattle.image_clearing.specs.declared.clearing.ImageClearing.{ImageClearing}
use Rattle.image_clearing.specs.declared.clearing.Stage.{Stage as ClearingStage}
use Rattle.image_clearing.specs.declared.clearing.Stage.TheVariants as clearing
use Rattle.pool_model.specs.Leases.{Leads, NamesAt}
use Rattle.pool_model.specs.Marks.{Mark, repeat, settle}
use Rattle.pool_model.specs.Owned.{OwnedChange, OwnedPool}
use Rattle.pool_model.specs.Pool.{Pool}
use Rattle.pool_model.specs.Rules.{Maker, Passing, here}
use Rattle.pool_model.specs.Standing.{Stands}
use Rattle.pool_model.specs.Tasks.{IsMaking, IsRemoved, IsStepDone}
use Rattle.pool_model.specs.Verb.{Verb}
use Rattle.pool_model.proofs.Kept.{standing_keeps}
use Rattle.pool_model.proofs.Roles.{nothing_changed, nothing_owned}
use Rattle.task_settling.specs.Inner.{ClearsImage, GoesBehind, IsCleared, IsSameClearing}
use Rattle.task_settling.specs.Knowing.{ClearsLast, HaveIds, Knows, KnowsStage, KnowsTask}
use Rattle.task_settling.specs.Settling.{IsAt, SettleTurn, cleared_by, settled_of, stage_of}
use Rattle.task_settling.specs.Steps.{After, ChangesOnly, IsSettlingChange, Passes, Stepped}
use Rattle.task_settling.specs.declared.settling.Stage.{Stage}
use Rattle.task_settling.specs.declared.settling.Stage.TheVariants.{Clearing}
use Rattle.task_settling.specs.declared.settling.TaskSettling.{TaskSettling}
use Rattle.task_settling.proofs.Begun.{behind_knows}
use Rattle.task_settling.proofs.Emptying.{emptying_stands, image_gone, image_same, leads_stay, unnamed_now, without_image}
use Rattle.task_settling.proofs.Emptying as emptying
use Rattle.task_settling.proofs.Facts.{built_clears, held_names, ids_after, making_of, removed_in}
use Rattle.task_settling.proofs.Lists.{behind_less, last_among}
use Rattle.task_settling.proofs.Machine.{all_done_stay, done_by, emptying_passes, removed_stays}
use Rattle.task_settling.proofs.Owned.{emptying_changed, emptying_owned, removing_owned}
use Rattle.task_settling.proofs.Removing.{removing_stands}
use Rattle.task_settling.proofs.Removing as removing

-- What a step did to the pool, while the task stays open.
pub record Did (h : ℕ) (up : Hosts) (task : Task) (d : Content) (p : Pool) (e : Content) (q : Pool) : Type 0 where
  pub stands : Stands up e q
  pub passes : (c : Maker) (ms : List Mark) (n : ℕ) → Passing c (repeat settle ∷ ms) n p (repeat settle ∷ ms) n q
  pub owned : (v : Verb) → OwnedChange h up v p d e
  pub changes : OwnedPool h up p q
  pub images : ChangesOnly task p q
  pub tasks : (t : Id) → q.task t ≡ p.task t
  pub only : IsSettlingChange task p q
  pub master : q.master ≡ p.master
  pub leads : Leads p h → Leads q h
  pub done : (sd i : Id) → IsRemoved sd i p → IsRemoved sd i q

module _ (h : ℕ) (up : Hosts) (d e : Content) (p : Pool) (master : Id) (task : Task) (count : ℕ) (c : ImageClearing) (faults : ℕ) (stands : Stands up d p) (ids : HaveIds d) (known : KnowsTask h master task p)
    (last : ClearsLast count task c d p) (few : count ≤ length task.steps) (well : IsWellFormed e) where
  abbrev sd : Id
  sd = domain_of c

  abbrev image : Id
  image = image_of c

  making : IsMaking p sd image
  making = making_of p task count last.step sd image known.opened last.last last.clears

  -- ---- what it did

  did_nothing : IsSame d e → Did h up task d p e p
  did_nothing same = record {
    stands = subst (λ (x : Content). Stands up x p) (sym same) stands;
    passes = λ m ms n. here;
    owned = λ v. subst (λ (x : Content). OwnedChange h up v p d x) (sym same) (nothing_owned h up v p d);
    changes = nothing_changed h up p;
    images = λ a j. inl refl;
    tasks = λ t. refl;
    only = inl refl;
    master = refl;
    leads = λ lead. lead;
    done = λ a j removed. removed;
  }

  module _ (slot : ℕ) (r : LeaseRecord) (held : IsHeld sd image slot r d) where
    names : NamesAt p sd image slot r
    names = held_names up d p sd image stands making slot r held

    did_remove : (step : ClearTurn) (m : ImageRemoving) → StepsIn (clearing.Removing slot r m) sd image faults step d e → Did h up task d p e p
    did_remove step m steps = record {
      stands = removing_stands up d e p sd image stands making (slot, (r, names)) steps.apart steps.changes;
      passes = λ k ms n. here;
      owned = λ v. removing_owned up d e p sd image h v stands (removing.domains_kept up d e p sd image stands making (slot, (r, names)) steps.apart steps.changes) steps.apart steps.changes
          (inr (known.leads, (slot, (r, names, held.held))));
      changes = nothing_changed h up p;
      images = λ a j. inl refl;
      tasks = λ t. refl;
      only = inl refl;
      master = refl;
      leads = λ lead. lead;
      done = λ a j removed. removed;
    }

    did_empty : IsMoved d sd slot Empty e → HasNoFolder sd image e → Did h up task d p e (without_image p sd image slot)
    did_empty moved gone = record {
      stands = emptying_stands up d e p sd image slot r stands making names moved gone well;
      passes = emptying_passes p sd image slot r names task known.opened count last.step last.last last.clears last.behind held.held;
      owned = λ v. emptying_owned up d e p sd image slot r (stands.tasks.inside sd image making) h v stands (emptying.domains_kept up d e p sd image slot r stands making names moved gone well) moved names
          held.held known.leads;
      changes = emptying_changed up h p sd image slot r names held.held known.leads;
      images = λ a j. changed a j (is_one a sd) (is_one j image);
      tasks = λ t. refl;
      only = inr (inl (sd, (image, (slot, (r, names, refl)))));
      master = refl;
      leads = leads_stay p sd image slot r names h;
      done = removed_stays p sd image slot r names;
    }
      where
        changed : (a j : Id) → (a ≡ sd) ⊎ (a ≢ sd) → (j ≡ image) ⊎ (j ≢ image)
            → ((without_image p sd image slot).image a j ≡ p.image a j) ⊎ ((s : Undo) × Contains task.steps s × (cleared_by s ≡ Some (a, j)))
        changed a j (inr unlike) one = inl (image_same p sd image slot r names a j (λ same _. unlike same))
        changed a j (inl same) (inr unlike) = inl (image_same p sd image slot r names a j (λ _ alike. unlike alike))
        changed a j (inl same) (inl alike) = inr (last.step, last_among task.steps last.last.0 count last.step last.last.1, last.clears ∙ pair a j same alike)
          where
            pair : (a j : Id) → a ≡ sd → j ≡ image → ◌≡◌ {A = Option (Id × Id)} (Some (sd, image)) (Some (a, j))
            pair a j same alike = ap {B = Option (Id × Id)} (λ (x : Id). Some (x, image)) (sym same) ∙ ap {B = Option (Id × Id)} (λ (x : Id). Some (a, x)) (sym alike)

    emptied_removed : IsMoved d sd slot Empty e → HasNoFolder sd image e → IsRemoved sd image (without_image p sd image slot)
    emptied_removed moved gone = (image_gone p sd image slot r names, unnamed_now up d e p sd image slot r stands making names moved gone well)

  -- ---- the turn

  module _ (settled : Task) (turn : SettleTurn) (ids_now : HaveIds e) (q : Pool) (did : Did h up task d p e q) where
    known_now : KnowsTask h master task q
    known_now = record { master_is = did.master ∙ known.master_is; leads = did.leads known.leads; opened = (did.tasks task.id ∙ known.opened.0, known.opened.1) }

    behind_now : All (IsStepDone q) (drop count task.steps)
    behind_now = all_done_stay (drop count task.steps) p q did.done last.behind

    stepped : ((m : Maker) (ms : List Mark) (n : ℕ) → Passes m ms n p turn q) → After h task faults turn e q → Stepped h up task faults turn d p e
    stepped passes after = record {
      pool = q;
      passes = passes;
      stands = did.stands;
      after = after;
      keeps = standing_keeps up e q did.stands;
      owned = did.owned;
      changes = did.changes;
      images = did.images;
      tasks = λ t _. did.tasks t;
      only = did.only;
    }

  known_at : (q : Pool) (settled : Task) (count_is : ℕ) (next_c : ImageClearing) (next : TaskSettling) → IsAt master task settled (Clearing count_is next_c) next → KnowsTask h master task q → ClearsLast count_is task next_c e q
      → Knows h next e q
  known_at q settled n next_c next at known_q clears =
      subst (λ (m : Id). KnowsTask h m next.task q × KnowsStage (stage_of next) h m next.task (settled_of next) e q) (sym at.master_is)
      (subst (λ (x : Task). KnowsTask h master x q × KnowsStage (stage_of next) h master x (settled_of next) e q) (sym at.task_is)
      (known_q, subst (λ (s : Stage). KnowsStage s h master task (settled_of next) e q) (sym at.now_in) clears))

  module _ (settled : Task) (ids_now : HaveIds e) (q : Pool) (did : Did h up task d p e q) where
    more : (turn : SettleTurn) (next_c : ImageClearing) → (domain_of next_c ≡ sd) × (image_of next_c ≡ image) → KnowsClearing next_c e → GoesOn (IsAt master task settled (Clearing count next_c)) turn
        → Stepped h up task faults turn d p e
    more (More next) next_c same knows at =
        stepped settled (More next) ids_now q did (λ m ms n. did.passes m ms n) (known_at q settled count next_c next at (known_now settled (More next) ids_now q did) (record {
          step = last.step;
          last = last.last;
          clears = last.clears ∙ ap {B = Option (Id × Id)} (λ (x : Id). Some (x, image)) (sym same.0) ∙ ap {B = Option (Id × Id)} (λ (x : Id). Some (domain_of next_c, x)) (sym same.1);
          behind = behind_now settled (More next) ids_now q did;
          clearing = knows;
        }))
    more (Done s) next_c same knows at = absurd at
    more (Ended u refusal) next_c same knows at = absurd at

    done_behind : IsRemoved sd image q → All (IsStepDone q) (drop (count - 1) task.steps)
    done_behind removed = subst (λ (l : List Undo). All (IsStepDone q) l) (sym (behind_less task.steps last.last.0 count last.step few last.last.1))
        (All-cons (IsStepDone q) last.step (drop count task.steps) (done_by last.step sd image q last.clears removed) (all_done_stay (drop count task.steps) p q did.done last.behind))

    cleared : (turn : SettleTurn) → IsRemoved sd image q → GoesBehind master task settled (count - 1) turn → Stepped h up task faults turn d p e
    cleared (More next) removed behind =
        stepped settled (More next) ids_now q did (λ m ms n. did.passes m ms n)
        (behind_knows up e q h master task did.stands ids_now (known_now settled (More next) ids_now q did) (count - 1) next (done_behind removed) behind.0)
    cleared (Done s) removed behind = absurd behind
    cleared (Ended u refusal) removed behind = absurd (built_clears task.verb task.steps behind.step (stands.tasks.built task.id task known.opened) behind.among behind.clears)

    faulty : (turn : SettleTurn) (refusal : Refusal) → refusal ≡ DiskFault faults → turn ≡ Ended tt refusal → Stepped h up task faults turn d p e
    faulty turn refusal is ended = subst (λ (z : SettleTurn). Stepped h up task faults z d p e) (sym ended)
        (stepped settled (Ended tt refusal) ids_now q did (λ m ms n. (n, did.passes m ms n)) is)

  -- ---- each stage of the clearing

  module _ (settled : Task) (turn : SettleTurn) where
    at_scan : (s : Scan) (step : ClearTurn) → StepsIn (clearing.Scanning s) sd image faults step d e → IsSameClearing c step → IsCleared master task settled count step turn → Stepped h up task faults turn d p e
    at_scan s step steps same by = go step steps same by
      where
        nothing : (step : ClearTurn) → StepsIn (clearing.Scanning s) sd image faults step d e → Did h up task d p e p
        nothing step steps = did_nothing steps.changes

        go : (step : ClearTurn) → StepsIn (clearing.Scanning s) sd image faults step d e → IsSameClearing c step → IsCleared master task settled count step turn → Stepped h up task faults turn d p e
        go (More next) steps same by = more settled (ids_after sd image d e steps.apart ids) p (nothing (More next) steps) turn next same steps.after by
        go (Done u) steps same by = cleared settled (ids_after sd image d e steps.apart ids) p (nothing (Done u) steps) turn
            (removed_in up e p sd image (nothing (Done u) steps).stands making steps.after) by
        go (Ended u refusal) steps same by = faulty settled (ids_after sd image d e steps.apart ids) p (nothing (Ended u refusal) steps) turn refusal steps.after by

    at_remove : (slot : ℕ) (r : LeaseRecord) (m : ImageRemoving) → IsRemoving sd image slot r m d → (step : ClearTurn) → StepsIn (clearing.Removing slot r m) sd image faults step d e → IsSameClearing c step
        → IsCleared master task settled count step turn → Stepped h up task faults turn d p e
    at_remove slot r m knows (More next) steps same by =
        more settled (ids_after sd image d e steps.apart ids) p (did_remove slot r knows.sector (More next) m steps) turn next same steps.after by
    at_remove slot r m knows (Done u) steps same by = absurd steps.after
    at_remove slot r m knows (Ended u refusal) steps same by =
        faulty settled (ids_after sd image d e steps.apart ids) p (did_remove slot r knows.sector (Ended u refusal) m steps) turn refusal steps.after by

    at_empty : (slot : ℕ) (r : LeaseRecord) → IsEmptying sd image slot r d → (step : ClearTurn) → StepsIn (clearing.Emptying slot r) sd image faults step d e → IsSameClearing c step
        → IsCleared master task settled count step turn → Stepped h up task faults turn d p e
    at_empty slot r knows step steps same by = go step steps same by
      where
        still_gone : IsMoved d sd slot Empty e → HasNoFolder sd image e
        still_gone moved = record { own = moved.2.dirs _ ∙ knows.gone.own; removed = moved.2.dirs _ ∙ knows.gone.removed }

        go : (step : ClearTurn) → StepsIn (clearing.Emptying slot r) sd image faults step d e → IsSameClearing c step → IsCleared master task settled count step turn → Stepped h up task faults turn d p e
        go (More next) steps same by = kept steps.changes
          where
            kept : IsSame d e ⊎ IsMoved d sd slot Empty e → Stepped h up task faults turn d p e
            kept (inl nothing) = more settled (ids_after sd image d e steps.apart ids) p (did_nothing nothing) turn next same steps.after by
            kept (inr moved) = more settled (ids_after sd image d e steps.apart ids) (without_image p sd image slot) (did_empty slot r knows.sector moved (still_gone moved)) turn next same steps.after by
        go (Done u) steps same by = cleared settled (ids_after sd image d e steps.apart ids) (without_image p sd image slot) (did_empty slot r knows.sector steps.after.0 (still_gone steps.after.0)) turn
            (emptied_removed slot r knows.sector steps.after.0 (still_gone steps.after.0)) by
        go (Ended u refusal) steps same by = kept steps.changes
          where
            kept : IsSame d e ⊎ IsMoved d sd slot Empty e → Stepped h up task faults turn d p e
            kept (inl nothing) = faulty settled (ids_after sd image d e steps.apart ids) p (did_nothing nothing) turn refusal steps.after by
            kept (inr moved) = faulty settled (ids_after sd image d e steps.apart ids) (without_image p sd image slot) (did_empty slot r knows.sector moved (still_gone moved)) turn refusal steps.after by

    at_stage : (s : ClearingStage) (step : ClearTurn) → IsReady s sd image d → StepsIn s sd image faults step d e → IsSameClearing c step → IsCleared master task settled count step turn
        → Stepped h up task faults turn d p e
    at_stage (clearing.Scanning s) step ready steps same by = at_scan s step steps same by
    at_stage (clearing.Removing slot r m) step ready steps same by = at_remove slot r m ready step steps same by
    at_stage (clearing.Emptying slot r) step ready steps same by = at_empty slot r ready step steps same by

    pub clear_step : ClearsImage master task settled count c faults turn d e → Stepped h up task faults turn d p e
    clear_step (step, steps, same, by) = at_stage (clearing_stage c) step last.clearing (steps last.clearing) same by
