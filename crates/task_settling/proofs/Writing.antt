-- While the text of the task that is settled is written, the disk stands for the same pool; and once the task's file has it, for the
-- pool with the task settled.
use Rattle.std.proofs.Common.{◌≡◌, ◌≢◌, ◌⊎◌, ℕ, ◌≤◌, Bool, true, false, if◌then◌else◌, length, Option, Some, None, refl, sym, ap, subst, ◌∙◌, inl, inr}
use Rattle.std.proofs.lemmas.List.{length-map}
use Rattle.std.proofs.lemmas.List.Elements.{All-contains}
use Rattle.std.specs.Prelude.{All, Contains}
use Rattle.sd_names.specs.UpSet.{Hosts}
use Rattle.sd_names.specs.declared.id.Id.{Id}
use Rattle.sd_names.specs.declared.place.Dir.{Dir}
use Rattle.sd_names.specs.declared.place.Dir.TheVariants as dir
use Rattle.sd_names.specs.declared.place.Name.{Name}
use Rattle.sd_names.specs.declared.place.Name.TheVariants as name
use Rattle.sd_names.specs.declared.place.Place.{Place}
use Rattle.sd_names.specs.declared.task_state.TaskState.{TaskState}
use Rattle.sd_names.specs.declared.task_state.TaskState.TheVariants as state
use Rattle.shared_disk.specs.Content.{Content, File}
use Rattle.shared_disk.specs.NameCalls.{place_in}
use Rattle.shared_disk.specs.Places.{id_is}
use Rattle.shared_disk.proofs.Places.{id_is-itself, id_is-same}
use Rattle.folder_layout.specs.Layout.{HoldsName}
use Rattle.domain_meta.specs.declared.record.DomainRecord.{DomainRecord}
use Rattle.task_store.specs.ReadTask.{task_of}
use Rattle.task_store.specs.TaskText.{text_of}
use Rattle.task_store.specs.declared.task.Task.{Task}
use Rattle.task_store.specs.declared.undo.Undo.{Undo}
use Rattle.task_store.specs.declared.undo.Undo.TheVariants as undo
use Rattle.task_files.specs.TaskFile.{HasTask as HasTaskText, task_place, volatile_place}
use Rattle.whole_file.specs.Replace.{IsApart as IsTextApart}
use Rattle.whole_file.specs.Text.{HasNoZero, longest}
use Rattle.lease_area.specs.declared.sector.LeaseRecord.{LeaseRecord}
use Rattle.chain_model.proofs.Settled.{is_one}
use Rattle.chain_model.proofs.Texts.{text_whole}
use Rattle.pool_model.specs.Laws.{AreAlive, LeavesImage}
use Rattle.pool_model.specs.Leases.{Holds, IsNamed, NamesAt}
use Rattle.pool_model.specs.Pool.{Image, Pool, put_task}
use Rattle.pool_model.specs.Standing.{HasTask, ImageStands, IsHeldFile, IsVolumeName, LeasesStand, Stands, TaskAt, TasksStand}
use Rattle.pool_model.specs.Tasks.{AreTasks, IsMaking, IsOpen, IsRemoved, IsStepDone, MakesImage, NoneOpen, ended_task}
use Rattle.pool_model.proofs.Frames.{image_stays}
use Rattle.pool_model.proofs.OneDomain.{listed_here}
use Rattle.pool_model.proofs.Roles.{id_apart, is_place}
use Rattle.task_settling.proofs.Frame.{KeepsDomains, frame}
use Rattle.task_settling.proofs.Marked.{Listed, mark_one, marked, marked_back, marked_in, rising_marked}
use Rattle.task_settling.proofs.Places.{none_some}

own_apart : (sd i m : Id) → dir.Image sd i ≡ dir.Tasks m → ⊥
own_apart sd i m e = cc

removed_apart : (sd i m : Id) → dir.Removed sd i ≡ dir.Tasks m → ⊥
removed_apart sd i m e = cc

md_apart : (sd m : Id) → dir.DomMd sd ≡ dir.Tasks m → ⊥
md_apart sd m e = cc

not_new : (u t : Id) → name.Task u ≡ name.TaskNew t → ⊥
not_new u t e = cc

one_name : (u t : Id) → name.Task u ≡ name.Task t → u ≡ t
one_name u t e = cc

one_folder : (a m : Id) → dir.Tasks a ≡ dir.Tasks m → a ≡ m
one_folder a m e = cc

one_master : (o : Option Id) (a b : Id) → o ≡ Some a → o ≡ Some b → a ≡ b
one_master o a b e f = cc

one_task : (o : Option Task) (x y : Task) → o ≡ Some x → o ≡ Some y → x ≡ y
one_task o x y e f = cc

-- ---- nothing changes but the task's file and the one beside it

module _ (up : Hosts) (d e : Content) (p : Pool) (m t : Id) (stands : Stands up d p) (master : p.master ≡ Some m) (apart : IsTextApart (task_place m t) (volatile_place m t) d e)
    (alive : AreAlive up e) where
  elsewhere : (at : Dir) (n : Name) → at ≢ dir.Tasks m → e.file (place_in at n) ≡ d.file (place_in at n)
  elsewhere at n other = apart.files (place_in at n) (λ same. other (ap (λ (x : Place). x.dir) same)) (λ same. other (ap (λ (x : Place). x.dir) same))

  pub domains_kept : KeepsDomains d e p p.sector p.image
  domains_kept = record {
    md = λ a n _. elsewhere (dir.DomMd a) n (md_apart a m);
    dirs = λ at _ _. apart.dirs at;
    leases = λ a r is. subst (λ (o : Option File). LeasesStand (p.sector a) o) (sym (elsewhere (dir.DomMd a) name.Leases (md_apart a m))) (listed_here up d p a r stands is).leases;
    unlisted = λ a none. record {
      leases = elsewhere (dir.DomMd a) name.Leases (md_apart a m);
      sector = λ k. refl;
      image = λ j. refl;
      own = λ j. apart.dirs (dir.Image a j);
      removed = λ j. apart.dirs (dir.Removed a j);
    };
  }

  other_task : (a u : Id) → ((a ≡ m) → (u ≡ t) → ⊥) → e.file (place_in (dir.Tasks a) (name.Task u)) ≡ d.file (place_in (dir.Tasks a) (name.Task u))
  other_task a u other = apart.files (place_in (dir.Tasks a) (name.Task u))
      (λ same. other (one_folder a m (ap (λ (x : Place). x.dir) same)) (one_name u t (ap (λ (x : Place). x.name) same)))
      (λ same. not_new u t (ap (λ (x : Place). x.name) same))

  at_same : (a u : Id) (o : Option Task) → e.file (place_in (dir.Tasks a) (name.Task u)) ≡ d.file (place_in (dir.Tasks a) (name.Task u)) → TaskAt d a u o → TaskAt e a u o
  at_same a u None same x = same ∙ x
  at_same a u (Some y) same x = record {
    text = x.text;
    stored = record { file = x.stored.file; there = same ∙ x.stored.there; settled = x.stored.settled; stored = x.stored.stored };
    short = x.short;
    reads = x.reads;
  }

  laid : (at : Place) (f : File) → e.file at ≡ Some f → HoldsName at.dir at.name
  laid at f there = go (is_place at (task_place m t)) (is_place at (volatile_place m t))
    where
      go : (at ≡ task_place m t) ⊎ (at ≢ task_place m t) → (at ≡ volatile_place m t) ⊎ (at ≢ volatile_place m t) → HoldsName at.dir at.name
      go (inl same) other = subst (λ (x : Place). HoldsName x.dir x.name) (sym same) tt
      go (inr one) (inl same) = subst (λ (x : Place). HoldsName x.dir x.name) (sym same) tt
      go (inr one) (inr other) = stands.layout at f (sym (apart.files at one other) ∙ there)

  -- ---- the task's file is as it was

  module _ (same : e.file (task_place m t) ≡ d.file (task_place m t)) where
    task_same : (a u : Id) → e.file (place_in (dir.Tasks a) (name.Task u)) ≡ d.file (place_in (dir.Tasks a) (name.Task u))
    task_same a u = go (is_place (place_in (dir.Tasks a) (name.Task u)) (task_place m t))
      where
        go : (place_in (dir.Tasks a) (name.Task u) ≡ task_place m t) ⊎ (place_in (dir.Tasks a) (name.Task u) ≢ task_place m t)
            → e.file (place_in (dir.Tasks a) (name.Task u)) ≡ d.file (place_in (dir.Tasks a) (name.Task u))
        go (inl is) = subst (λ (x : Place). e.file x ≡ d.file x) (sym is) same
        go (inr other) = apart.files (place_in (dir.Tasks a) (name.Task u)) other (λ is. not_new u t (ap (λ (x : Place). x.name) is))

    tasks_stay : TasksStand d p → TasksStand e p
    tasks_stay x = record {
      each = λ a u is. at_same a u (p.task u) (task_same a u) (x.each a u is);
      elsewhere = λ a u other. task_same a u ∙ x.elsewhere a u other;
      unmade = x.unmade;
      listed = x.listed;
      are = x.are;
      few = x.few;
      one = x.one;
      built = x.built;
      inside = x.inside;
    }

    leaves_all : (a j : Id) → LeavesImage up d e p p a j
    leaves_all a j = record {
      image = refl;
      folder = apart.dirs (dir.Image a j);
      removed = apart.dirs (dir.Removed a j);
      files = λ n. elsewhere (dir.Image a j) n (own_apart a j m);
      removed_files = λ n. elsewhere (dir.Removed a j) n (removed_apart a j m);
      named = λ k r x. x;
      was_named = λ k r x. x;
      making = λ x. x;
      was_making = λ x. x;
      holds = λ h up_is x. x;
    }

    pub writing_stands : Stands up e p
    writing_stands = frame up d e p p.sector p.image p.task stands domains_kept (tasks_stay stands.tasks)
        (λ a r is j. image_stays up d e p p a j r.version stands.alive (leaves_all a j) (stands.image a r is j)) (λ a r is j. stands.unasked a r is j) alive laid

  -- ---- it has the text of the task that is settled

  module _ (x : Task) (s : TaskState) (opened : IsOpen p t x) (same_id : x.id ≡ t) (ends : s ≢ state.Open) (done : All (IsStepDone p) x.steps)
      (has : HasTaskText (task_place m t) (Some (ended_task s x)) e) (no_zero : HasNoZero (text_of (ended_task s x))) (short : length (text_of (ended_task s x)) ≤ longest)
      (reads : task_of (ended_task s x).id (text_of (ended_task s x)) ≡ Some (ended_task s x)) where
    abbrev settled : Task
    settled = ended_task s x

    abbrev q : Pool
    q = put_task p t (Some settled)

    pub this_task : q.task t ≡ Some settled
    this_task = ap (λ (b : Bool). if b then Some settled else p.task t) (id_is-itself t)

    pub other_stays : (u : Id) → u ≢ t → q.task u ≡ p.task u
    other_stays u other = ap (λ (b : Bool). if b then Some settled else p.task u) (id_apart u t other)

    -- no task is open any more
    pub none_opened : NoneOpen q
    none_opened u y is = go (is_one u t)
      where
        go : (u ≡ t) ⊎ (u ≢ t) → ⊥
        go (inl same) = ends (ap (λ (z : Task). z.state) (one_task (q.task t) settled y this_task (subst (λ (a : Id). q.task a ≡ Some y) same is.0)) ∙ is.1)
        go (inr other) = other (stands.tasks.one u t y x (sym (other_stays u other) ∙ is.0, is.1) opened)

    none_making : (a j : Id) → IsMaking q a j → ⊥
    none_making a j making = none_opened making.0 making.1.0 making.1.1

    -- what the task made or removed is gone
    step_done : (step : Undo) (a j : Id) → IsStepDone p step → MakesImage step a j → IsRemoved a j p
    step_done (undo.RemoveImage sd i) a j is makes = subst (λ (b : Id). IsRemoved b j p) makes.0 (subst (λ (b : Id). IsRemoved sd b p) makes.1 is)
    step_done (undo.FinishRemove sd i) a j is makes = subst (λ (b : Id). IsRemoved b j p) makes.0 (subst (λ (b : Id). IsRemoved sd b p) makes.1 is)
    step_done (undo.RemoveVolume sd i v) a j is makes = absurd makes
    step_done (undo.SetLeaf sd i v) a j is makes = absurd makes
    step_done (undo.DropDomain sd) a j is makes = absurd makes
    step_done (undo.FinishDelete sd i v parent) a j is makes = absurd makes
    step_done (undo.FinishExtend sd i v capacity) a j is makes = absurd makes
    step_done (undo.FinishDescribe sd i v text) a j is makes = absurd makes

    made_gone : (a j : Id) → IsMaking p a j → IsRemoved a j p
    made_gone a j (u, (y, is, (step, among, makes))) =
        let same : u ≡ t = stands.tasks.one u t y x is opened in
        let alike : y ≡ x = one_task (p.task t) y x (subst (λ (b : Id). p.task b ≡ Some y) same is.0) opened.0 in
        step_done step a j (All-contains (IsStepDone p) x.steps step done (subst (λ (z : Task). Contains z.steps step) alike among)) makes

    -- tasks
    now_there : HasTask e m t settled
    now_there = record {
      text = text_of settled;
      stored = record { file = has.0; there = has.1; settled = has.2.settled; stored = text_whole (text_of settled) has.0 no_zero has.2 };
      short = short;
      reads = subst (λ (i : Id). task_of i (text_of settled) ≡ Some settled) same_id reads;
    }

    -- the state that is listed is the task's, where the settled one has its new one
    each_marked : (u : Id) (old : TaskState) (b : Bool) → id_is u t ≡ b → (y : Task) × (p.task u ≡ Some y) × (y.state ≡ old)
        → (z : Task) × (q.task u ≡ Some z) × (z.state ≡ (if b then s else old))
    each_marked u old true test is =
        (settled, ap (λ (b : Bool). if b then Some settled else p.task u) test, refl)
    each_marked u old false test is = (is.0, ap (λ (b : Bool). if b then Some settled else p.task u) test ∙ is.1, is.2)

    all_marked : (u : Id) (z : Task) (b : Bool) → id_is u t ≡ b → ((y : Task) → p.task u ≡ Some y → Contains stands.tasks.listed (u, y.state)) → q.task u ≡ Some z
        → (old : TaskState) × (Contains stands.tasks.listed (u, old) × ((if b then s else old) ≡ z.state))
    all_marked u z true test all is =
        let here : u ≡ t = id_is-same u t test in
        let now : settled ≡ z = one_task (q.task u) settled z (ap (λ (b : Bool). if b then Some settled else p.task u) test) is in
        (x.state, (all x (subst (λ (a : Id). p.task a ≡ Some x) (sym here) opened.0), ap (λ (y : Task). y.state) now))
    all_marked u z false test all is =
        let was : p.task u ≡ Some z = sym (ap (λ (b : Bool). if b then Some settled else p.task u) test) ∙ is in
        (z.state, (all z was, refl))

    are_settled : AreTasks p stands.tasks.listed → AreTasks q (marked t s stands.tasks.listed)
    are_settled are = record {
      rising = rising_marked t s stands.tasks.listed are.rising;
      each = λ u now among.
          let back = marked_back t s (u, now) stands.tasks.listed among in
          let here : back.0.0 ≡ u = ap (λ (a : Listed). a.0) back.1.1 in
          let found = each_marked back.0.0 back.0.1 (id_is back.0.0 t) refl (are.each back.0.0 back.0.1 back.1.0) in
          (found.0, subst (λ (i : Id). q.task i ≡ Some found.0) here found.1, found.2 ∙ ap (λ (a : Listed). a.1) back.1.1);
      all = λ u z is.
          let found = all_marked u z (id_is u t) refl (λ y there. are.all u y there) is in
          subst (λ (o : TaskState). Contains (marked t s stands.tasks.listed) (u, o)) found.1.1 (marked_in t s (u, found.0) stands.tasks.listed found.1.0);
    }

    tasks_settle : TasksStand d p → TasksStand e q
    tasks_settle z = record {
      each = λ a u is. at a u is (is_one u t);
      elsewhere = λ a u other. other_task a u (λ same _. other (subst (λ (b : Id). p.master ≡ Some b) (sym same) master)) ∙ z.elsewhere a u other;
      unmade = λ none. absurd (none_some p.master m none master);
      listed = marked t s stands.tasks.listed;
      are = are_settled stands.tasks.are;
      few = subst (λ (n : ℕ). n ≤ 128) (sym (length-map stands.tasks.listed (mark_one t s))) stands.tasks.few;
      one = λ u v y w is other. absurd (none_opened u y is);
      built = λ u y is. absurd (none_opened u y is);
      inside = λ a j making. absurd (none_making a j making);
    }
      where
        at : (a u : Id) → p.master ≡ Some a → (u ≡ t) ⊎ (u ≢ t) → TaskAt e a u (q.task u)
        at a u is (inl same) = subst (λ (b : Id). TaskAt e a b (q.task b)) (sym same) (subst (λ (o : Option Task). TaskAt e a t o) (sym this_task)
            (subst (λ (b : Id). HasTask e b t settled) (one_master p.master m a master is) now_there))
        at a u is (inr other) = subst (λ (o : Option Task). TaskAt e a u o) (sym (other_stays u other)) (at_same a u (p.task u) (other_task a u (λ _ same. other same)) (z.each a u is))

    -- images
    to_now : (a j : Id) (k : ℕ) (r : LeaseRecord) → NamesAt p a j k r → NamesAt q a j k r
    to_now a j k r y = record { slot = y.slot; lease = y.lease; image = y.image }

    to_then : (a j : Id) (k : ℕ) (r : LeaseRecord) → NamesAt q a j k r → NamesAt p a j k r
    to_then a j k r y = record { slot = y.slot; lease = y.lease; image = y.image }

    holds_now : (h : ℕ) (a j : Id) → Holds p h a j → Holds q h a j
    holds_now h a j (inl (k, (r, y, is, owner))) = inl (k, (r, to_now a j k r y, is, owner))
    holds_now h a j (inr (lead, (k, (r, y, is)))) = inr (lead, (k, (r, to_now a j k r y, is)))

    leaves_idle : (a j : Id) → (IsMaking p a j → ⊥) → LeavesImage up d e p q a j
    leaves_idle a j idle = record {
      image = refl;
      folder = apart.dirs (dir.Image a j);
      removed = apart.dirs (dir.Removed a j);
      files = λ n. elsewhere (dir.Image a j) n (own_apart a j m);
      removed_files = λ n. elsewhere (dir.Removed a j) n (removed_apart a j m);
      named = to_now a j;
      was_named = to_then a j;
      making = λ making. absurd (idle making);
      was_making = λ making. absurd (none_making a j making);
      holds = λ h up_is y. holds_now h a j y;
    }

    -- no task made an image that has a sector, or that the pool has
    idle_named : (a j : Id) → IsNamed q a j → IsMaking p a j → ⊥
    idle_named a j named making = (made_gone a j making).1 named.0 named.1.0 (to_then a j named.0 named.1.0 named.1.1)

    idle_there : (a j : Id) (i : Image) → p.image a j ≡ Some i → IsMaking p a j → ⊥
    idle_there a j i there making = none_some (p.image a j) i (made_gone a j making).0 there

    image_stands : (a : Id) (r : DomainRecord) → p.domain a ≡ Some r → (j : Id) → ImageStands up e q a r.version j
    image_stands a r is j = record {
      gone = λ none. let gone = was.gone (λ k y names. none k y (to_now a j k y names)) in record {
        image = gone.image;
        folder = apart.dirs (dir.Image a j) ∙ gone.folder;
        removed = apart.dirs (dir.Removed a j) ∙ gone.removed;
      };
      there = λ named idle. (image_stays up d e p q a j r.version stands.alive (leaves_idle a j (idle_named a j named)) was).there named idle;
      making = λ making. absurd (none_making a j making);
      held = λ n f is_name at. held n f is_name at;
    }
      where
        was : ImageStands up d p a r.version j
        was = stands.image a r is j

        held_then : (n : Name) (f : File) → IsVolumeName n → (e.file (place_in (dir.Image a j) n) ≡ Some f) ⊎ (e.file (place_in (dir.Removed a j) n) ≡ Some f) → IsHeldFile p a j f
        held_then n f is_name (inl at) = was.held n f is_name (inl (sym (elsewhere (dir.Image a j) n (own_apart a j m)) ∙ at))
        held_then n f is_name (inr at) = was.held n f is_name (inr (sym (elsewhere (dir.Removed a j) n (removed_apart a j m)) ∙ at))

        held : (n : Name) (f : File) → IsVolumeName n → (e.file (place_in (dir.Image a j) n) ≡ Some f) ⊎ (e.file (place_in (dir.Removed a j) n) ≡ Some f) → IsHeldFile q a j f
        held n f is_name at = let before = held_then n f is_name at in
            record { loose = λ l among. holds_now l.host a j (before.loose l among); fresh = λ h made. holds_now h a j (before.fresh h made) }

    pub settled_stands : Stands up e (put_task p t (Some (ended_task s x)))
    settled_stands = frame up d e p p.sector p.image q.task stands domains_kept (tasks_settle stands.tasks) image_stands
        (λ a r is j. record { none = λ i v fault idle there. (stands.unasked a r is j).none i v fault (idle_there a j i there) there }) alive laid
