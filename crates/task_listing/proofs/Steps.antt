-- Each step of a listing, on a disk that stands for a pool.
use Rattle.std.proofs.Common.{◌≡◌, ◌≢◌, ◌⊎◌, ℕ, List, [], ◌∷◌, ◌++◌, Option, Some, None, Result, Ok, Err, refl, sym, ap, subst, ◌∙◌, inl, inr}
use Rattle.std.proofs.lemmas.List.Elements.{Contains-append_left, Contains-push, Contains-push_cases}
use Rattle.std.specs.Prelude.{Contains}
use Rattle.std.specs.declared.cmp.Ordering.TheVariants.{Less}
use Rattle.sd_names.specs.Id.{IsIdBytes}
use Rattle.sd_names.specs.Place.{name_cmp}
use Rattle.sd_names.specs.UpSet.{Hosts}
use Rattle.sd_names.specs.declared.id.Id.{Id}
use Rattle.sd_names.specs.declared.place.Dir.TheVariants as dir
use Rattle.sd_names.specs.declared.place.Name.{Name}
use Rattle.sd_names.specs.declared.place.Name.TheVariants as name
use Rattle.sd_names.specs.declared.refusal.Refusal.{Refusal}
use Rattle.sd_names.specs.declared.refusal.Refusal.TheVariants.{DiskFault, OutOfMemory}
use Rattle.sd_names.specs.declared.task_state.TaskState.{TaskState}
use Rattle.sd_names.specs.declared.task_state.TaskState.TheVariants as state
use Rattle.sd_names.specs.declared.turn.Turn.TheVariants.{Done, Ended, More}
use Rattle.shared_disk.specs.Calls.{IsSame}
use Rattle.shared_disk.specs.Content.{Content}
use Rattle.shared_disk.proofs.Outcomes.{nothing_in}
use Rattle.shared_disk.specs.NameCalls.{IsNameAbove, IsNextName, NextName, ShowsName}
use Rattle.shared_disk.specs.declared.disk.DiskAnswer.{DiskAnswer}
use Rattle.task_files.specs.Read.{Finds}
use Rattle.task_files.specs.TaskFile.{task_place}
use Rattle.task_store.specs.declared.task.Task.{Task}
use Rattle.chain_model.specs.Opening.{id_cmp}
use Rattle.pool_model.specs.Pool.{Pool}
use Rattle.pool_model.specs.Standing.{Stands, TaskAt}
use Rattle.task_listing.specs.Listing.{After, HasAll, HasListed, HasNoted, HaveIds, IsAt, IsBegun, IsOpenOne, IsToCome, KnowsListing, KnowsOpen, ListingTurn, Noted, domain_of, noted, noted_by, open_of, stage_for, stage_of, tasks_of}
use Rattle.task_listing.specs.declared.listing.Stage.{Stage}
use Rattle.task_listing.specs.declared.listing.Stage.TheVariants.{Asking, Reading}
use Rattle.task_listing.specs.declared.listing.TaskListing.{TaskListing}
use Rattle.task_listing.proofs.Ids.{id_asked}
use Rattle.task_listing.proofs.Reading.{found_task, no_file_no_task, read_refused}
use Rattle.task_listing.proofs.Order.{above_later, id_less, met_or_above, none_rise, one_task, rises_still, which_name}

some_none : (o : Option Task) (x : Task) → o ≡ None → o ≡ Some x → ⊥
some_none o x e f = cc

one_some : (o : Option Task) (x y : Task) → o ≡ Some x → o ≡ Some y → x ≡ y
one_some o x y e f = cc

module _ (up : Hosts) (d : Content) (p : Pool) (sd : Id) (stands : Stands up d p) (master : p.master ≡ Some sd) (ids : HaveIds sd d) where
  pub task_at : (t : Id) → TaskAt d sd t (p.task t)
  task_at t = stands.tasks.each sd t master

  -- a task of the pool has its file
  shown : (t : Id) (x : Task) → p.task t ≡ Some x → ShowsName d (dir.Tasks sd) (name.Task t)
  shown t x is = let at = subst (λ (o : Option Task). TaskAt d sd t o) is (task_at t) in (at.stored.file, at.stored.there)

  bytes_of : (t : Id) (x : Task) → p.task t ≡ Some x → IsIdBytes t.0
  bytes_of t x is = ids (name.Task t) (shown t x is)

  module _ (ts : List Noted) (kept : Option Task) where
    -- ---- no further name

    all_listed : (after : Option Name) → HasListed (Asking after) ts kept p → IsNextName d (dir.Tasks sd) after None → (t : Id) (x : Task) → p.task t ≡ Some x
        → Contains ts (t, x.state)
    all_listed after has none t x is = go (has.all t x is)
      where
        go : Contains ts (t, x.state) ⊎ IsNameAbove after (name.Task t) → Contains ts (t, x.state)
        go (inl among) = among
        go (inr above) = absurd (none (name.Task t) (shown t x is) above)

    open_one : (o : Option Task) → KnowsOpen ts o p → ((t : Id) (x : Task) → p.task t ≡ Some x → Contains ts (t, x.state)) → IsOpenOne o p
    open_one None closed all = λ t x is. closed t x.state (all t x is.0) is.1
    open_one (Some x) is all = is

    pub listed_all : (after : Option Name) → HasListed (Asking after) ts kept p → IsNextName d (dir.Tasks sd) after None → HasAll ts kept p
    listed_all after has none = (
      record { rising = has.order; each = has.each; all = all_listed after has none },
      open_one kept has.opened (all_listed after has none),
    )

    -- ---- the next name

    -- a task that was to come is the one that was met, or still to come
    met : (after : Option Name) (n : Name) → IsNextName d (dir.Tasks sd) after (Some n) → (t : Id) (x : Task) → p.task t ≡ Some x → IsNameAbove after (name.Task t)
        → (n ≡ name.Task t) ⊎ (name_cmp n (name.Task t) ≡ Less)
    met after n (shows, above, least) t x is to_come =
        met_or_above n (name.Task t) (ids n shows) (bytes_of t x is) (least (name.Task t) (shown t x is) to_come)

    met_task : (after : Option Name) (u : Id) → HasListed (Asking after) ts kept p → IsNextName d (dir.Tasks sd) after (Some (name.Task u))
        → HasListed (Reading u) ts kept p
    met_task after u has next = record {
      order = has.order;
      each = has.each;
      all = λ t x is. first t x is (has.all t x is);
      below = λ t v s x among is to_come. has.below t v s x among is (earlier v to_come);
      opened = has.opened;
    }
      where
        second : (t : Id) → (name.Task u ≡ name.Task t) ⊎ (name_cmp (name.Task u) (name.Task t) ≡ Less) → IsToCome (Reading u) t
        second t (inl same) = inl (sym (one_task u t same))
        second t (inr less) = inr less

        first : (t : Id) (x : Task) → p.task t ≡ Some x → Contains ts (t, x.state) ⊎ IsNameAbove after (name.Task t) → Contains ts (t, x.state) ⊎ IsToCome (Reading u) t
        first t x is (inl among) = inl among
        first t x is (inr to_come) = inr (second t (met after (name.Task u) next t x is to_come))

        earlier : (t : Id) → IsToCome (Reading u) t → IsNameAbove after (name.Task t)
        earlier t (inl same) = subst (λ (i : Id). IsNameAbove after (name.Task i)) (sym same) next.1
        earlier t (inr above) = above_later after (name.Task u) (name.Task t) next.1 above

    met_other : (after : Option Name) (n : Name) → ((u : Id) → n ≢ name.Task u) → HasListed (Asking after) ts kept p → IsNextName d (dir.Tasks sd) after (Some n)
        → HasListed (Asking (Some n)) ts kept p
    met_other after n other has next = record {
      order = has.order;
      each = has.each;
      all = λ t x is. first t x is (has.all t x is);
      below = λ t v s x among is to_come. has.below t v s x among is (above_later after n (name.Task v) next.1 to_come);
      opened = has.opened;
    }
      where
        second : (t : Id) → (n ≡ name.Task t) ⊎ (name_cmp n (name.Task t) ≡ Less) → IsToCome (Asking (Some n)) t
        second t (inl same) = absurd (other t same)
        second t (inr less) = less

        first : (t : Id) (x : Task) → p.task t ≡ Some x → Contains ts (t, x.state) ⊎ IsNameAbove after (name.Task t)
            → Contains ts (t, x.state) ⊎ IsToCome (Asking (Some n)) t
        first t x is (inl among) = inl among
        first t x is (inr to_come) = inr (second t (met after n next t x is to_come))

    pub met_name : (after : Option Name) (n : Name) → HasListed (Asking after) ts kept p → IsNextName d (dir.Tasks sd) after (Some n)
        → HasListed (stage_for n) ts kept p
    met_name after n has next = go (which_name n)
      where
        go : ((u : Id) × (n ≡ name.Task u)) ⊎ ((stage_for n ≡ Asking (Some n)) × ((u : Id) → n ≢ name.Task u)) → HasListed (stage_for n) ts kept p
        go (inl (u, is)) = subst (λ (m : Name). HasListed (stage_for m) ts kept p) (sym is)
            (met_task after u has (subst (λ (m : Name). IsNextName d (dir.Tasks sd) after (Some m)) is next))
        go (inr (is, other)) = subst (λ (s : Stage). HasListed s ts kept p) (sym is) (met_other after n other has next)

    -- ---- the file of a task

    pub passed_none : (u : Id) → HasListed (Reading u) ts kept p → p.task u ≡ None → HasListed (Asking (Some (name.Task u))) ts kept p
    passed_none u has none = record {
      order = has.order;
      each = has.each;
      all = λ t x is. first t x is (has.all t x is);
      below = λ t v s x among is to_come. has.below t v s x among is (inr to_come);
      opened = has.opened;
    }
      where
        first : (t : Id) (x : Task) → p.task t ≡ Some x → Contains ts (t, x.state) ⊎ IsToCome (Reading u) t
            → Contains ts (t, x.state) ⊎ IsToCome (Asking (Some (name.Task u))) t
        first t x is (inl among) = inl among
        first t x is (inr (inl same)) = absurd (some_none (p.task t) x (subst (λ (i : Id). p.task i ≡ None) (sym same) none) is)
        first t x is (inr (inr above)) = inr above

    module _ (u : Id) (y : Task) (has : HasListed (Reading u) ts kept p) (there : p.task u ≡ Some y) (id_is : y.id ≡ u) where
      abbrev now : List Noted
      now = ts ++ (u, y.state) ∷ []

      noted_open : (s : TaskState) → y.state ≡ s → (o : Option Task) → KnowsOpen ts o p → KnowsOpen now (noted_by s y o) p
      noted_open state.Open is o knows = (subst (λ (i : Id). p.task i ≡ Some y) (sym id_is) there, is)
      noted_open state.Done is None knows = λ t s among. go t s (Contains-push_cases ts (u, y.state) (t, s) among)
        where
          go : (t : Id) (s : TaskState) → Contains ts (t, s) ⊎ (◌≡◌ {A = Noted} (u, y.state) (t, s)) → s ≢ state.Open
          go t s (inl among) = knows t s among
          go t s (inr same) = λ open_is. done_open (sym is ∙ ap (λ (a : Noted). a.1) same ∙ open_is)
            where
              done_open : state.Done ≡ state.Open → ⊥
              done_open e = cc
      noted_open state.Done is (Some x) knows = knows
      noted_open state.Undone is None knows = λ t s among. go t s (Contains-push_cases ts (u, y.state) (t, s) among)
        where
          go : (t : Id) (s : TaskState) → Contains ts (t, s) ⊎ (◌≡◌ {A = Noted} (u, y.state) (t, s)) → s ≢ state.Open
          go t s (inl among) = knows t s among
          go t s (inr same) = λ open_is. undone_open (sym is ∙ ap (λ (a : Noted). a.1) same ∙ open_is)
            where
              undone_open : state.Undone ≡ state.Open → ⊥
              undone_open e = cc
      noted_open state.Undone is (Some x) knows = knows

      pub noted_task : HasListed (Asking (Some (name.Task u))) now (noted y kept) p
      noted_task = record {
        order = rises_still ts (u, y.state) has.order (λ a among. has.below a.0 u a.1 y among there (inl refl));
        each = λ t s among. each t s (Contains-push_cases ts (u, y.state) (t, s) among);
        all = λ t x is. all t x is (has.all t x is);
        below = λ t v s x among is above. below t v s x (Contains-push_cases ts (u, y.state) (t, s) among) is above;
        opened = noted_open y.state refl kept has.opened;
      }
        where
          each : (t : Id) (s : TaskState) → Contains ts (t, s) ⊎ (◌≡◌ {A = Noted} (u, y.state) (t, s)) → (x : Task) × (p.task t ≡ Some x) × (x.state ≡ s)
          each t s (inl among) = has.each t s among
          each t s (inr same) = (y, ap (λ (a : Noted). p.task a.0) (sym same) ∙ there, ap (λ (a : Noted). a.1) same)

          all : (t : Id) (x : Task) → p.task t ≡ Some x → Contains ts (t, x.state) ⊎ IsToCome (Reading u) t
              → Contains now (t, x.state) ⊎ IsToCome (Asking (Some (name.Task u))) t
          all t x is (inl among) = inl (Contains-append_left ts ((u, y.state) ∷ []) (t, x.state) among)
          all t x is (inr (inl same)) = inl (subst (λ (a : Noted). Contains now a) here (Contains-push ts (u, y.state)))
            where
              here : ◌≡◌ {A = Noted} (u, y.state) (t, x.state)
              here = ap {B = Noted} (λ (i : Id). (i, y.state)) (sym same)
                  ∙ ap {B = Noted} (λ (z : Task). (t, z.state)) (one_some (p.task t) y x (subst (λ (i : Id). p.task i ≡ Some y) (sym same) there) is)
          all t x is (inr (inr above)) = inr above

          below : (t v : Id) (s : TaskState) (x : Task) → Contains ts (t, s) ⊎ (◌≡◌ {A = Noted} (u, y.state) (t, s)) → p.task v ≡ Some x
              → name_cmp (name.Task u) (name.Task v) ≡ Less → id_cmp t v ≡ Less
          below t v s x (inl among) is above = has.below t v s x among is (inr above)
          below t v s x (inr same) is above = subst (λ (i : Id). id_cmp i v ≡ Less) (ap (λ (a : Noted). a.0) same)
              (id_less u v (bytes_of u y there) (bytes_of v x is) above)

-- ---- whole steps

-- what is known of the next listing
next_knows : (next : TaskListing) (sd : Id) (stage : Stage) (ts : List Noted) (o : Option Task) (p : Pool) → domain_of next ≡ sd → stage_of next ≡ stage → tasks_of next ≡ ts
    → open_of next ≡ o → p.master ≡ Some sd → HasListed stage ts o p → KnowsListing next p
next_knows next sd stage ts o p domain now tasks open_is master has = record {
  master = master ∙ ap (λ (i : Id). Some i) (sym domain);
  listed = subst (λ (s : Stage). HasListed s (tasks_of next) (open_of next) p) (sym now)
      (subst (λ (xs : List Noted). HasListed stage xs (open_of next) p) (sym tasks) (subst (λ (x : Option Task). HasListed stage ts x p) (sym open_is) has));
}

-- what a call answered, where it did its work
pub asked : (d e : Content) (sd : Id) (after o : Option Name) (answer : Result (Option Name) DiskAnswer) → answer ≡ Ok o → NextName d (dir.Tasks sd) after answer e
    → IsSame d e × IsNextName d (dir.Tasks sd) after o
asked d e sd after o answer is call = let got = subst (λ (a : Result (Option Name) DiskAnswer). NextName d (dir.Tasks sd) after a e) is call in (got.0, got.2)

module _ (up : Hosts) (d : Content) (p : Pool) (l : TaskListing) (stands : Stands up d p) (ids : HaveIds (domain_of l) d) (knows : KnowsListing l p) where
  was : (stage : Stage) → stage_of l ≡ stage → HasListed stage (tasks_of l) (open_of l) p
  was stage is = subst (λ (s : Stage). HasListed s (tasks_of l) (open_of l) p) is knows.listed

  pub ask_some : (next : TaskListing) (after : Option Name) (n : Name) (stage : Stage) → stage_of l ≡ Asking after → IsNextName d (dir.Tasks (domain_of l)) after (Some n)
      → stage ≡ stage_for n → IsAt l stage next → KnowsListing next p
  ask_some next after n stage is found stage_is at =
      next_knows next (domain_of l) (stage_for n) (tasks_of l) (open_of l) p at.domain (at.now_in ∙ stage_is) at.tasks at.same_open knows.master
      (met_name up d p (domain_of l) stands knows.master ids (tasks_of l) (open_of l) after n (was (Asking after) is) found)

  pub ask_none : (after : Option Name) → stage_of l ≡ Asking after → IsNextName d (dir.Tasks (domain_of l)) after None → HasAll (tasks_of l) (open_of l) p
  ask_none after is found = listed_all up d p (domain_of l) stands knows.master ids (tasks_of l) (open_of l) after (was (Asking after) is) found

  module _ (u : Id) (host faults : ℕ) (reading : stage_of l ≡ Reading u) where
    here : TaskAt d (domain_of l) u (p.task u)
    here = task_at up d p (domain_of l) stands knows.master ids u

    pub read_none : (next : TaskListing) → IsAt l (Asking (Some (name.Task u))) next → d.file (task_place (domain_of l) u) ≡ None → KnowsListing next p
    read_none next at none =
        next_knows next (domain_of l) (Asking (Some (name.Task u))) (tasks_of l) (open_of l) p at.domain at.now_in at.tasks at.same_open knows.master
        (passed_none up d p (domain_of l) stands knows.master ids (tasks_of l) (open_of l) u (was (Reading u) reading)
        (no_file_no_task d (domain_of l) u host (p.task u) none here))

    module _ (y : Task) (finds : Finds (Ok (Some y)) host (task_place (domain_of l) u) u faults d) where
      there : p.task u ≡ Some y
      there = found_task d (domain_of l) u host y finds (p.task u) here

      id_is : y.id ≡ u
      id_is = let at = subst (λ (o : Option Task). TaskAt d (domain_of l) u o) there here in id_asked u at.text y at.reads

      pub read_some : (turn : ListingTurn) → HasNoted l u y turn → After faults turn p
      read_some (More next) at =
          next_knows next (domain_of l) (Asking (Some (name.Task u))) _ _ p at.domain at.now_in at.tasks at.now_open knows.master
          (noted_task up d p (domain_of l) stands knows.master ids (tasks_of l) (open_of l) u y (was (Reading u) reading) there id_is)
      read_some (Done listed) at = absurd at
      read_some (Ended b r) at = inl at

    pub read_ended : (r : Refusal) → Finds (Err r) host (task_place (domain_of l) u) u faults d → (r ≡ OutOfMemory) ⊎ (r ≡ DiskFault faults)
    read_ended r finds = read_refused d (domain_of l) u host (p.task u) r faults here finds

-- ---- the begin

pub begun_knows : (sd : Id) (l : TaskListing) (p : Pool) → IsBegun sd l → p.master ≡ Some sd → KnowsListing l p
begun_knows sd l p begun master = next_knows l sd (Asking None) [] None p begun.domain begun.stage begun.tasks begun.none master (record {
  order = none_rise;
  each = λ t s among. absurd (nothing_in (t, s) among);
  all = λ t x is. inr tt;
  below = λ t u s x among is to_come. absurd (nothing_in (t, s) among);
  opened = λ t s among. absurd (nothing_in (t, s) among);
})
