-- A task that isn't open goes: its file is removed, and all else that the disk has to say stays.
use Rattle.std.proofs.Common.{◌≡◌, ◌≢◌, ◌⊎◌, ℕ, ◌≤◌, Bool, true, false, not, List, [], ◌∷◌, length, Option, Some, None, Result, Ok, refl, sym, ap, subst, ◌∙◌, inl, inr, arith}
use Rattle.std.proofs.lemmas.Bool.{false≢true}
use Rattle.std.proofs.lemmas.List.Kept.{IsStrictlySortedBy-filter}
use Rattle.std.specs.List.{filter}
use Rattle.std.specs.List.Sorted.{IsStrictlySortedBy}
use Rattle.std.specs.Prelude.{Contains, if◌then◌else◌}
use Rattle.sd_names.specs.UpSet.{Hosts, is_up}
use Rattle.sd_names.specs.declared.id.Id.{Id}
use Rattle.sd_names.specs.declared.place.Dir.{Dir}
use Rattle.sd_names.specs.declared.place.Dir.TheVariants as dir
use Rattle.sd_names.specs.declared.place.Name.{Name}
use Rattle.sd_names.specs.declared.place.Name.TheVariants as name
use Rattle.sd_names.specs.declared.place.Place.{Place}
use Rattle.sd_names.specs.declared.task_state.TaskState.{TaskState}
use Rattle.shared_disk.specs.Calls.{IsPut}
use Rattle.shared_disk.specs.Content.{Content, File}
use Rattle.shared_disk.specs.NameCalls.{place_in}
use Rattle.shared_disk.specs.Places.{id_is}
use Rattle.shared_disk.proofs.Outcomes.{cons_cases, contains_here, contains_more, nothing_in}
use Rattle.shared_disk.proofs.Places.{id_is-itself, id_is-same}
use Rattle.folder_layout.specs.Layout.{HoldsName}
use Rattle.domain_meta.specs.declared.record.DomainRecord.{DomainRecord}
use Rattle.task_store.specs.declared.task.Task.{Task}
use Rattle.chain_model.specs.Opening.{id_cmp}
use Rattle.chain_model.proofs.Settled.{is_one}
use Rattle.pool_model.specs.Knows.{KnowsLists}
use Rattle.pool_model.specs.Laws.{LeavesImage, tasks_without}
use Rattle.pool_model.specs.Leases.{Holds, IsGuest, Leads}
use Rattle.pool_model.specs.Owned.{MayChange, OwnedChange, OwnedPool}
use Rattle.pool_model.specs.Pool.{Box, Pool, inbox, outbox, put_task}
use Rattle.pool_model.specs.Standing.{BoxesStand, DomainStands, HasDomainText, HasFolders, ImageStands, IsAlive, IsBare, IsUnasked, IsZeroFile, LeasesStand, ListedStands, MasterStands, ShowsImage, Stands, TaskAt, TasksStand, file_in, metadata_of}
use Rattle.pool_model.specs.Tasks.{AreTasks, IsMaking, IsOpen, NoneOpen}
use Rattle.pool_model.specs.Verb.{Verb}
use Rattle.pool_model.proofs.Frames.{image_stays}
use Rattle.pool_model.proofs.OneDomain.{Said, one_text}
use Rattle.pool_model.proofs.Roles.{id_apart, is_place}

-- ---- the list without a task

abbrev Listed : Type 0
Listed = Id × TaskState

one_id : (t : Id) (a : Listed) → not (id_is a.0 t) ≡ true → a.0 ≢ t
one_id t a kept same = false≢true (sym (ap (λ (b : Bool). not b) (ap (λ (i : Id). id_is i t) same ∙ id_is-itself t)) ∙ kept)

-- of a list with one more element, where the rest is known
kept_by : (t : Id) (a b : Listed) (ts : List Listed) (c : Bool) → not (id_is b.0 t) ≡ c → (Contains (tasks_without t ts) a → Contains ts a × (a.0 ≢ t))
    → Contains (if c then b ∷ tasks_without t ts else tasks_without t ts) a → Contains (b ∷ ts) a × (a.0 ≢ t)
kept_by t a b ts false e rest among = let was = rest among in (contains_more b a ts was.0, was.1)
kept_by t a b ts true e rest among = first (cons_cases b a (tasks_without t ts) among)
  where
    first : (b ≡ a) ⊎ Contains (tasks_without t ts) a → Contains (b ∷ ts) a × (a.0 ≢ t)
    first (inl same) = (subst (λ (x : Listed). Contains (b ∷ ts) x) same (contains_here b ts), subst (λ (x : Listed). x.0 ≢ t) same (one_id t b e))
    first (inr more) = let was = rest more in (contains_more b a ts was.0, was.1)

kept_in : (t : Id) (a : Listed) (ts : List Listed) → Contains (tasks_without t ts) a → Contains ts a × (a.0 ≢ t)
kept_in t a [] among = absurd (nothing_in a among)
kept_in t a (b ∷ ts) among = kept_by t a b ts (not (id_is b.0 t)) refl (kept_in t a ts) among

stays_by : (t : Id) (a b : Listed) (ts : List Listed) (c : Bool) → not (id_is b.0 t) ≡ c → a.0 ≢ t → (Contains ts a → Contains (tasks_without t ts) a)
    → (b ≡ a) ⊎ Contains ts a → Contains (if c then b ∷ tasks_without t ts else tasks_without t ts) a
stays_by t a b ts true e apart rest (inl same) = subst (λ (x : Listed). Contains (b ∷ tasks_without t ts) x) same (contains_here b (tasks_without t ts))
stays_by t a b ts true e apart rest (inr more) = contains_more b a (tasks_without t ts) (rest more)
stays_by t a b ts false e apart rest (inl same) = absurd (false≢true (sym e
    ∙ ap (λ (c : Bool). not c) (id_apart b.0 t (λ is. apart (ap (λ (x : Listed). x.0) (sym same) ∙ is)))))
stays_by t a b ts false e apart rest (inr more) = rest more

stays_in : (t : Id) (a : Listed) (ts : List Listed) → a.0 ≢ t → Contains ts a → Contains (tasks_without t ts) a
stays_in t a [] apart among = absurd (nothing_in a among)
stays_in t a (b ∷ ts) apart among = stays_by t a b ts (not (id_is b.0 t)) refl apart (stays_in t a ts apart) (cons_cases b a ts among)

no_longer : (t : Id) (ts : List Listed) → length (tasks_without t ts) ≤ length ts
no_longer t [] = omega arith
no_longer t (b ∷ ts) = by_test (not (id_is b.0 t)) (no_longer t ts)
  where
    by_test : (c : Bool) → length (tasks_without t ts) ≤ length ts → length (if c then b ∷ tasks_without t ts else tasks_without t ts) ≤ length (b ∷ ts)
    by_test true less = omega (arith, less)
    by_test false less = omega (arith, less)

tasks_apart : (sd m : Id) → dir.DomMd sd ≡ dir.Tasks m → ⊥
tasks_apart sd m e = cc

image_apart : (sd i m : Id) → dir.Image sd i ≡ dir.Tasks m → ⊥
image_apart sd i m e = cc

removed_apart : (sd i m : Id) → dir.Removed sd i ≡ dir.Tasks m → ⊥
removed_apart sd i m e = cc

one_task_name : (a b : Id) → name.Task a ≡ name.Task b → a ≡ b
one_task_name a b e = cc

one_master : (o : Option Id) (a b : Id) → o ≡ Some a → o ≡ Some b → a ≡ b
one_master o a b e f = cc

none_some : {A : Type 0} (o : Option A) (a : A) → o ≡ None → o ≡ Some a → ⊥
none_some o a e f = cc

-- ---- the frame

module _ (up : Hosts) (d e : Content) (p : Pool) (m t : Id) (stands : Stands up d p) (master : p.master ≡ Some m) (idle : NoneOpen p)
    (put : IsPut d (place_in (dir.Tasks m) (name.Task t)) None e) where
  abbrev q : Pool
  q = put_task p t None

  elsewhere : (at : Dir) (n : Name) → at ≢ dir.Tasks m → e.file (place_in at n) ≡ d.file (place_in at n)
  elsewhere at n apart = put.others (place_in at n) (λ same. apart (ap (λ (x : Place). x.dir) same))

  md_same : (sd : Id) (n : Name) → e.file (place_in (dir.DomMd sd) n) ≡ d.file (place_in (dir.DomMd sd) n)
  md_same sd n = elsewhere (dir.DomMd sd) n (tasks_apart sd m)

  other_task : (u : Id) → u ≢ t → q.task u ≡ p.task u
  other_task u apart = ap (λ (b : Bool). if b then None else p.task u) (id_apart u t apart)

  this_task : q.task t ≡ None
  this_task = ap (λ (b : Bool). if b then None else p.task t) (id_is-itself t)

  still_task : (u : Id) (x : Task) → q.task u ≡ Some x → (p.task u ≡ Some x) × (u ≢ t)
  still_task u x is = go (is_one u t)
    where
      go : (u ≡ t) ⊎ (u ≢ t) → (p.task u ≡ Some x) × (u ≢ t)
      go (inl same) = absurd (none_some (q.task t) x this_task (subst (λ (a : Id). q.task a ≡ Some x) same is))
      go (inr apart) = (sym (other_task u apart) ∙ is, apart)

  pub none_opened : NoneOpen q
  none_opened u x is = idle u x ((still_task u x is.0).0, is.1)

  none_making : (r : Pool) → NoneOpen r → (sd i : Id) → IsMaking r sd i → ⊥
  none_making r none sd i making = none making.0 making.1.0 making.1.1

  text_stays : (sd : Id) (said : Said) → HasDomainText d sd said → HasDomainText e sd said
  text_stays sd said x = (x.0, record { file = x.1.file; there = md_same sd name.Metadata ∙ x.1.there; settled = x.1.settled; stored = x.1.stored }, x.2)

  text_stood : (sd : Id) (said : Said) → HasDomainText e sd said → HasDomainText d sd said
  text_stood sd said x = (x.0, record { file = x.1.file; there = sym (md_same sd name.Metadata) ∙ x.1.there; settled = x.1.settled; stored = x.1.stored }, x.2)

  folders_stay : (sd : Id) → HasFolders d sd → HasFolders e sd
  folders_stay sd x = record {
    own = put.dirs (dir.Domain sd) ∙ x.own;
    md = put.dirs (dir.DomMd sd) ∙ x.md;
    images = put.dirs (dir.Images sd) ∙ x.images;
    master = put.dirs (dir.Master sd) ∙ x.master;
    tasks = put.dirs (dir.Tasks sd) ∙ x.tasks;
  }

  shows_stay : (sd : Id) → ShowsImage d sd → ShowsImage e sd
  shows_stay sd (i, inl there) = (i, inl (put.dirs (dir.Image sd i) ∙ there))
  shows_stay sd (i, inr there) = (i, inr (put.dirs (dir.Removed sd i) ∙ there))

  shows_stood : (sd : Id) → ShowsImage e sd → ShowsImage d sd
  shows_stood sd (i, inl there) = (i, inl (sym (put.dirs (dir.Image sd i)) ∙ there))
  shows_stood sd (i, inr there) = (i, inr (sym (put.dirs (dir.Removed sd i)) ∙ there))

  bare_stays : (sd : Id) → IsBare d p sd → IsBare e q sd
  bare_stays sd x = record {
    sector = x.sector;
    box = x.box;
    image = x.image;
    shown = λ is. shows_stay sd (x.shown is);
    hidden = λ is shows. x.hidden is (shows_stood sd shows);
  }

  leases_stay : (sd : Id) → LeasesStand (p.sector sd) (file_in sd name.Leases d) → LeasesStand (p.sector sd) (file_in sd name.Leases e)
  leases_stay sd x = subst (λ (o : Option File). LeasesStand (p.sector sd) o) (sym (md_same sd name.Leases)) x

  boxes_stay : (b : ℕ → Box) (sd : Id) (n : Name) → BoxesStand up b (file_in sd n d) → BoxesStand up b (file_in sd n e)
  boxes_stay b sd n x = subst (λ (o : Option File). BoxesStand up b o) (sym (md_same sd n)) x

  zeros_stay : (size : ℕ) (sd : Id) (n : Name) → IsZeroFile size (file_in sd n d) → IsZeroFile size (file_in sd n e)
  zeros_stay size sd n x = subst (λ (o : Option File). IsZeroFile size o) (sym (md_same sd n)) x

  domain_stays : (sd : Id) (o : Option DomainRecord) (s : Option Said) → DomainStands up d p sd o s → DomainStands up e q sd o s
  domain_stays sd (Some r) s x = record {
    text = text_stays sd (Ok r) x.text;
    version = x.version;
    folders = folders_stay sd x.folders;
    leases = leases_stay sd x.leases;
    inboxes = boxes_stay (p.box inbox sd) sd name.Inbox x.inboxes;
    outboxes = boxes_stay (p.box outbox sd) sd name.Outbox x.outboxes;
    stray = x.stray;
    shows = x.shows;
  }
  domain_stays sd None (Some said) x = record {
    text = text_stays sd said x.text;
    role = x.role;
    leases = zeros_stay _ sd name.Leases x.leases;
    inboxes = zeros_stay _ sd name.Inbox x.inboxes;
    outboxes = zeros_stay _ sd name.Outbox x.outboxes;
    none = x.none;
    bare = bare_stays sd x.bare;
  }
  domain_stays sd None None x = record { text = md_same sd name.Metadata ∙ x.text; bare = bare_stays sd x.bare }

  master_stays : (o : Option Id) → MasterStands p o → MasterStands q o
  master_stays None x = record { domain = x.domain; stray = x.stray }
  master_stays (Some a) x = record { is = x.is; listed = x.listed; role = x.role; lists = x.lists; others = x.others }

  -- tasks
  moved_task : (sd u : Id) → (sd ≡ m → u ≢ t) → e.file (place_in (dir.Tasks sd) (name.Task u)) ≡ d.file (place_in (dir.Tasks sd) (name.Task u))
  moved_task sd u apart = put.others (place_in (dir.Tasks sd) (name.Task u)) (λ same. apart (one_tasks (ap (λ (x : Place). x.dir) same)) (one_task_name u t (ap (λ (x : Place). x.name) same)))
    where
      one_tasks : dir.Tasks sd ≡ dir.Tasks m → sd ≡ m
      one_tasks e = cc

  task_stays : (sd u : Id) (o : Option Task) → (sd ≡ m → u ≢ t) → TaskAt d sd u o → TaskAt e sd u o
  task_stays sd u None apart x = moved_task sd u apart ∙ x
  task_stays sd u (Some y) apart x = record {
    text = x.text;
    stored = record { file = x.stored.file; there = moved_task sd u apart ∙ x.stored.there; settled = x.stored.settled; stored = x.stored.stored };
    short = x.short;
    reads = x.reads;
  }

  are_without : (ts : List Listed) → AreTasks p ts → AreTasks q (tasks_without t ts)
  are_without ts x = record {
    rising = IsStrictlySortedBy-filter _ _ ts x.rising;
    each = λ u s among. let was = kept_in t (u, s) ts among in let is = x.each u s was.0 in (is.0, other_task u was.1 ∙ is.1, is.2);
    all = λ u y is. let was = still_task u y is in stays_in t (u, y.state) ts was.1 (x.all u y was.0);
  }

  tasks_stay : TasksStand d p → TasksStand e q
  tasks_stay x = record {
    each = λ a u is. at a u is (is_one u t);
    elsewhere = λ sd u apart. moved_task sd u (λ same. absurd (apart (subst (λ (b : Id). p.master ≡ Some b) (sym same) master))) ∙ x.elsewhere sd u apart;
    unmade = λ none. absurd (none_some p.master m none master);
    listed = tasks_without t x.listed;
    are = are_without x.listed x.are;
    few = less (no_longer t x.listed) x.few;
    one = λ u v y z opened other. absurd (none_opened u y opened);
    built = λ u y opened. absurd (none_opened u y opened);
    inside = λ sd i making. absurd (none_making q none_opened sd i making);
  }
    where
      less : {a b : ℕ} → a ≤ b → b ≤ 128 → a ≤ 128
      less u v = omega (arith, u, v)

      at : (a u : Id) → p.master ≡ Some a → (u ≡ t) ⊎ (u ≢ t) → TaskAt e a u (q.task u)
      at a u is (inl same) = subst (λ (b : Id). TaskAt e a b (q.task b)) (sym same) (subst (λ (o : Option Task). TaskAt e a t o) (sym this_task)
          (subst (λ (b : Id). e.file (place_in (dir.Tasks b) (name.Task t)) ≡ None) (one_master p.master m a master is) put.here))
      at a u is (inr apart) = subst (λ (o : Option Task). TaskAt e a u o) (sym (other_task u apart)) (task_stays a u (p.task u) (λ same. apart) (x.each a u is))

  -- images
  leaves : (sd i : Id) → LeavesImage up d e p q sd i
  leaves sd i = record {
    image = refl;
    folder = put.dirs (dir.Image sd i);
    removed = put.dirs (dir.Removed sd i);
    files = λ n. elsewhere (dir.Image sd i) n (image_apart sd i m);
    removed_files = λ n. elsewhere (dir.Removed sd i) n (removed_apart sd i m);
    named = λ k r x. record { slot = x.slot; lease = x.lease; image = x.image };
    was_named = λ k r x. record { slot = x.slot; lease = x.lease; image = x.image };
    making = λ x. absurd (none_making p idle sd i x);
    was_making = λ x. absurd (none_making q none_opened sd i x);
    holds = λ h alive x. held x;
  }
    where
      guest : (h : ℕ) → IsGuest p sd i h → IsGuest q sd i h
      guest h (k, (r, x, is, owner)) = (k, (r, record { slot = x.slot; lease = x.lease; image = x.image }, is, owner))

      held : {h : ℕ} → Holds p h sd i → Holds q h sd i
      held {h} (inl is) = inl (guest h is)
      held {h} (inr (lead, (k, (r, x, is)))) = inr (lead, (k, (r, record { slot = x.slot; lease = x.lease; image = x.image }, is)))

  pub clear_stands : Stands up e (put_task p t None)
  clear_stands = record {
    master = master_stays p.master stands.master;
    domain = λ sd. domain_stays sd (p.domain sd) (p.stray sd) (stands.domain sd);
    tasks = tasks_stay stands.tasks;
    image = λ sd r listed i. image_stays up d e p q sd i r.version stands.alive (leaves sd i) (stands.image sd r listed i);
    unasked = λ sd r listed i. record { none = λ x v fault free. (stands.unasked sd r listed i).none x v fault (λ making. none_making p idle sd i making) };
    alive = λ at f there. stands.alive at f (was at f there);
    layout = λ at f there. stands.layout at f (was at f there);
  }
    where
      was : (at : Place) (f : File) → e.file at ≡ Some f → d.file at ≡ Some f
      was at f there = go (is_place at (place_in (dir.Tasks m) (name.Task t)))
        where
          go : (at ≡ place_in (dir.Tasks m) (name.Task t)) ⊎ (at ≢ place_in (dir.Tasks m) (name.Task t)) → d.file at ≡ Some f
          go (inl same) = absurd (none_some (e.file at) f (subst (λ (x : Place). e.file x ≡ None) (sym same) put.here) there)
          go (inr apart) = sym (put.others at apart) ∙ there

  pub clear_owned : (h : ℕ) (v : Verb) → Leads p h → OwnedChange h up v p d e
  clear_owned h v lead = record {
    files = λ at. changed at (is_place at (place_in (dir.Tasks m) (name.Task t)));
    dirs = λ at. inl (put.dirs at);
    texts = λ sd f there. (f, md_same sd name.Metadata ∙ there);
    lists = λ a sd r s has is among gone. absurd (gone (subst (λ (x : DomainRecord). Contains x.domains sd) (alike r s (one_text d a (Ok r) (Ok s) has (text_stood a (Ok s) is))) among));
  }
    where
      alike : (r s : DomainRecord) → ◌≡◌ {A = Said} (Ok r) (Ok s) → r ≡ s
      alike r s e = cc

      changed : (at : Place) → (at ≡ place_in (dir.Tasks m) (name.Task t)) ⊎ (at ≢ place_in (dir.Tasks m) (name.Task t))
          → (e.file at ≡ d.file at) ⊎ MayChange h up v p at.dir at.name (d.file at) (e.file at)
      changed at (inl same) = inr (subst (λ (x : Place). MayChange h up v p x.dir x.name (d.file x) (e.file x)) (sym same) (master, lead))
      changed at (inr apart) = inl (put.others at apart)

-- ---- the pool, and what the manager keeps of it

pub clear_changed : (h : ℕ) (up : Hosts) (p : Pool) (t : Id) → Leads p h → OwnedPool h up p (put_task p t None)
clear_changed h up p t lead = record {
  sectors = λ sd k. inl refl;
  tasks = inr lead;
  master = inl refl;
  domains = inl (λ sd. refl);
  lists = λ sd r listed. inl (r, listed);
  texts = λ sd some. some;
  boxes = λ side sd g w among. inl among;
  images = λ sd i. inl refl;
}
