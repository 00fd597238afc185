-- A pool that is being made, and the moment in which it is there.
use Rattle.std.proofs.Common.{◌≡◌, ◌≢◌, ◌⊎◌, ℕ, Bool, true, false, List, [], ◌∷◌, Option, Some, None, refl, sym, ap, subst, ◌∙◌, inl, inr, arith}
use Rattle.std.proofs.lemmas.Bool.{false≢true}
use Rattle.std.specs.Prelude.{Contains, if◌then◌else◌}
use Rattle.sd_names.specs.UpSet.{Hosts}
use Rattle.sd_names.specs.declared.id.Id.{Id}
use Rattle.sd_names.specs.declared.place.Dir.{Dir}
use Rattle.sd_names.specs.declared.place.Dir.TheVariants as dir
use Rattle.sd_names.specs.declared.place.Name.{Name}
use Rattle.sd_names.specs.declared.place.Name.TheVariants as name
use Rattle.sd_names.specs.declared.place.Place.{Place}
use Rattle.shared_disk.specs.Content.{Content, File}
use Rattle.shared_disk.specs.NameCalls.{place_in}
use Rattle.shared_disk.specs.Places.{dir_is, id_is}
use Rattle.shared_disk.proofs.Outcomes.{cons_cases, contains_here, nothing_in}
use Rattle.shared_disk.proofs.Places.{dir_is-decides, dir_is-same, id_is-itself}
use Rattle.folder_layout.specs.Layout.{HoldsName}
use Rattle.domain_meta.specs.declared.record.DomainRecord.{DomainRecord}
use Rattle.task_store.specs.declared.task.Task.{Task}
use Rattle.lease_area.specs.declared.sector.LeaseRecord.{LeaseRecord}
use Rattle.lease_area.specs.declared.sector.Sector.{Sector}
use Rattle.lease_area.specs.declared.sector.Sector.TheVariants.{Empty, Lease}
use Rattle.chain_model.proofs.Settled.{is_one}
use Rattle.pool_model.specs.Laws.{ChangesDomain, HoldsNewMaster}
use Rattle.pool_model.specs.Leases.{NamesAt}
use Rattle.pool_model.specs.Made.{master_pool}
use Rattle.pool_model.specs.Pool.{Pool, Side, empty_box, inbox, outbox}
use Rattle.pool_model.specs.Standing.{DomainStands, ImageStands, IsAlive, IsBare, IsUnmade, ListedStands, MasterLists, MasterStands, ShowsImage, Stands, TaskAt, TasksStand, metadata_of}
use Rattle.pool_model.proofs.Empty.{none_rises}
use Rattle.pool_model.proofs.MadePool.{zero_boxes, zero_leases}
use Rattle.pool_model.proofs.OneDomain.{Said, bare_here}
use Rattle.pool_model.proofs.Roles.{id_apart, one_dom_md}

none_some : {A : Type 0} (o : Option A) (a : A) → o ≡ None → o ≡ Some a → ⊥
none_some o a e f = cc

is_dir : (p q : Dir) → (p ≡ q) ⊎ (p ≢ q)
is_dir p q = go (dir_is p q) refl
  where
    go : (b : Bool) → dir_is p q ≡ b → (p ≡ q) ⊎ (p ≢ q)
    go true e = inl (dir_is-same p q e)
    go false e = inr (λ same. false≢true (sym e ∙ (dir_is-decides p q).1 same))

not_leased : (s : Sector) (r : LeaseRecord) → s ≡ Empty → s ≡ Lease r → ⊥
not_leased s r e f = cc

not_shown : (b : Bool) → (b ≡ true → ⊥) → b ≡ false
not_shown true none = absurd (none refl)
not_shown false none = refl

image_apart : (sd i m : Id) → dir.Image sd i ≡ dir.DomMd m → ⊥
image_apart sd i m e = cc

removed_apart : (sd i m : Id) → dir.Removed sd i ≡ dir.DomMd m → ⊥
removed_apart sd i m e = cc

tasks_apart : (sd m : Id) → dir.Tasks sd ≡ dir.DomMd m → ⊥
tasks_apart sd m e = cc

-- a pool that isn't made
module _ (up : Hosts) (d : Content) (p : Pool) (stands : Stands up d p) (master : p.master ≡ None) where
  unmade : IsUnmade p
  unmade = subst (λ (o : Option Id). MasterStands p o) master stands.master

  bare_in : (a : Id) → IsBare d p a
  bare_in a = bare_here up d p a stands (unmade.domain a)

  no_text : (a : Id) → d.file (metadata_of a) ≡ None
  no_text a = go (p.domain a) (p.stray a) (unmade.domain a) (unmade.stray a) (stands.domain a)
    where
      go : (o : Option DomainRecord) (s : Option Said) → o ≡ None → s ≡ None → DomainStands up d p a o s → d.file (metadata_of a) ≡ None
      go (Some r) s e f x = absurd (none_some (Some r) r e refl)
      go None (Some t) e f x = absurd (none_some (Some t) t f refl)
      go None None e f x = x.text

  no_task : (a t : Id) → d.file (place_in (dir.Tasks a) (name.Task t)) ≡ None
  no_task a t = stands.tasks.elsewhere a t (λ is. none_some p.master a master is)

  -- ---- what a making leaves as it was

  module _ (e : Content) (sd : Id) (changes : ChangesDomain up d e sd) where
    elsewhere : (at : Dir) (n : Name) → at ≢ dir.DomMd sd → e.file (place_in at n) ≡ d.file (place_in at n)
    elsewhere at n apart = changes.files (place_in at n) apart

    shown : (a : Id) → ShowsImage d a → ShowsImage e a
    shown a (i, inl there) = (i, inl ((changes.dirs a i).0 ∙ there))
    shown a (i, inr there) = (i, inr ((changes.dirs a i).1 ∙ there))

    showed : (a : Id) → ShowsImage e a → ShowsImage d a
    showed a (i, inl there) = (i, inl (sym (changes.dirs a i).0 ∙ there))
    showed a (i, inr there) = (i, inr (sym (changes.dirs a i).1 ∙ there))

    bare_stays : (a : Id) → IsBare e p a
    bare_stays a = let x = bare_in a in record {
      sector = x.sector;
      box = x.box;
      image = x.image;
      shown = λ is. shown a (x.shown is);
      hidden = λ is shows. x.hidden is (showed a shows);
    }

    alive_stays : (at : Place) (f : File) → e.file at ≡ Some f → IsAlive up f
    alive_stays at f there = go (is_dir at.dir (dir.DomMd sd))
      where
        go : (at.dir ≡ dir.DomMd sd) ⊎ (at.dir ≢ dir.DomMd sd) → IsAlive up f
        go (inl same) = (changes.own at f same there).0
        go (inr apart) = stands.alive at f (sym (changes.files at apart) ∙ there)

    layout_stays : (at : Place) (f : File) → e.file at ≡ Some f → HoldsName at.dir at.name
    layout_stays at f there = go (is_dir at.dir (dir.DomMd sd))
      where
        go : (at.dir ≡ dir.DomMd sd) ⊎ (at.dir ≢ dir.DomMd sd) → HoldsName at.dir at.name
        go (inl same) = (changes.own at f same there).1
        go (inr apart) = stands.layout at f (sym (changes.files at apart) ∙ there)

    -- the domain has no text yet
    pub making_stands : e.file (metadata_of sd) ≡ None → Stands up e p
    making_stands none = record {
      master = stands.master;
      domain = λ a. go a (p.domain a) (p.stray a) (unmade.domain a) (unmade.stray a);
      tasks = record {
        each = λ m t is. absurd (none_some p.master m master is);
        elsewhere = λ a t apart. elsewhere (dir.Tasks a) (name.Task t) (tasks_apart a sd) ∙ no_task a t;
        unmade = stands.tasks.unmade;
        listed = stands.tasks.listed;
        are = stands.tasks.are;
        few = stands.tasks.few;
        one = stands.tasks.one;
        built = stands.tasks.built;
        inside = stands.tasks.inside;
      };
      image = λ a r listed i. absurd (none_some (p.domain a) r (unmade.domain a) listed);
      unasked = λ a r listed i. absurd (none_some (p.domain a) r (unmade.domain a) listed);
      alive = alive_stays;
      layout = layout_stays;
    }
      where
        text : (a : Id) → (a ≡ sd) ⊎ (a ≢ sd) → e.file (metadata_of a) ≡ None
        text a (inl same) = subst (λ (b : Id). e.file (metadata_of b) ≡ None) (sym same) none
        text a (inr apart) = elsewhere (dir.DomMd a) name.Metadata (λ same. apart (one_dom_md a sd same)) ∙ no_text a

        go : (a : Id) (o : Option DomainRecord) (s : Option Said) → o ≡ None → s ≡ None → DomainStands up e p a o s
        go a (Some r) s h f = absurd (none_some (Some r) r h refl)
        go a None (Some t) h f = absurd (none_some (Some t) t f refl)
        go a None None h f = record { text = text a (is_one a sd); bare = bare_stays a }

  -- ---- the pool is there

  module _ (e : Content) (r : DomainRecord) (changes : ChangesDomain up d e r.sduuid) (new : HoldsNewMaster e r) where
    abbrev sd : Id
    sd = r.sduuid

    abbrev q : Pool
    q = master_pool r p

    here : q.domain sd ≡ Some r
    here = ap (λ (b : Bool). if b then Some r else p.domain sd) (id_is-itself sd)

    other_domain : (a : Id) → a ≢ sd → q.domain a ≡ None
    other_domain a apart = ap (λ (b : Bool). if b then Some r else p.domain a) (id_apart a sd apart) ∙ unmade.domain a

    listed_only : (a : Id) (s : DomainRecord) → q.domain a ≡ Some s → a ≡ sd
    listed_only a s listed = go (is_one a sd)
      where
        go : (a ≡ sd) ⊎ (a ≢ sd) → a ≡ sd
        go (inl same) = same
        go (inr apart) = absurd (none_some (q.domain a) s (other_domain a apart) listed)

    no_sector : (a : Id) (k : ℕ) → q.sector a k ≡ Empty
    no_sector a k = go (id_is a sd)
      where
        go : (b : Bool) → (if b then (λ (j : ℕ). Empty) else p.sector a) k ≡ Empty
        go true = refl
        go false = (bare_in a).sector k

    no_box : (side : Side) (a : Id) (g : ℕ) → q.box side a g ≡ empty_box
    no_box side a g = go (id_is a sd)
      where
        go : (b : Bool) → (if b then (λ (j : ℕ). empty_box) else p.box side a) g ≡ empty_box
        go true = refl
        go false = (bare_in a).box side g

    no_image : (a i : Id) → q.image a i ≡ None
    no_image a i = go (id_is a sd)
      where
        go : (b : Bool) → (if b then (λ (j : Id). None) else p.image a) i ≡ None
        go true = refl
        go false = (bare_in a).image i

    bare_new : (a : Id) → IsBare e q a
    bare_new a = let x = bare_in a in record {
      sector = no_sector a;
      box = λ side g. no_box side a g;
      image = no_image a;
      shown = λ is. shown e sd changes a (x.shown is);
      hidden = λ is shows. x.hidden is (showed e sd changes a shows);
    }

    no_shows : p.shows sd ≡ false
    no_shows = not_shown (p.shows sd) (λ is. new.unseen (shown e sd changes sd ((bare_in sd).shown is)))

    listed_stands : ListedStands up e q sd r
    listed_stands = record {
      text = new.text;
      version = new.version;
      folders = new.folders;
      leases = zero_leases (q.sector sd) _ (no_sector sd) new.leases;
      inboxes = zero_boxes up (q.box inbox sd) _ (no_box inbox sd) new.inboxes;
      outboxes = zero_boxes up (q.box outbox sd) _ (no_box outbox sd) new.outboxes;
      stray = unmade.stray sd;
      shows = no_shows;
    }

    domain_new : (a : Id) → DomainStands up e q a (q.domain a) (q.stray a)
    domain_new a = go (is_one a sd)
      where
        absent : (o : Option DomainRecord) (s : Option Said) → o ≡ None → s ≡ None → a ≢ sd → DomainStands up e q a o s
        absent (Some x) s h f apart = absurd (none_some (Some x) x h refl)
        absent None (Some t) h f apart = absurd (none_some (Some t) t f refl)
        absent None None h f apart = record {
          text = elsewhere e sd changes (dir.DomMd a) name.Metadata (λ same. apart (one_dom_md a sd same)) ∙ no_text a;
          bare = bare_new a;
        }

        go : (a ≡ sd) ⊎ (a ≢ sd) → DomainStands up e q a (q.domain a) (q.stray a)
        go (inl same) = subst (λ (b : Id). DomainStands up e q b (q.domain b) (q.stray b)) (sym same)
            (subst (λ (o : Option DomainRecord). DomainStands up e q sd o (q.stray sd)) (sym here) listed_stands)
        go (inr apart) = absent (q.domain a) (q.stray a) (other_domain a apart) (unmade.stray a) apart

    master_lists : MasterLists q sd
    master_lists = record {
      is = r;
      listed = here;
      role = new.role;
      lists = λ a. (λ among. back a (cons_cases sd a [] (subst (λ (ids : List Id). Contains ids a) new.lists among)), λ listed. there a listed);
      others = λ a s other listed. absurd (other (listed_only a s listed));
    }
      where
        back : (a : Id) → (sd ≡ a) ⊎ Contains [] a → (s : DomainRecord) × (q.domain a ≡ Some s)
        back a (inl same) = subst (λ (b : Id). (s : DomainRecord) × (q.domain b ≡ Some s)) same (r, here)
        back a (inr rest) = absurd (nothing_in a rest)

        there : (a : Id) → ((s : DomainRecord) × (q.domain a ≡ Some s)) → Contains r.domains a
        there a (s, listed) = subst (λ (ids : List Id). Contains ids a) (sym new.lists)
            (subst (λ (b : Id). Contains (sd ∷ []) b) (sym (listed_only a s listed)) (contains_here sd []))

    task_none : (t : Id) → p.task t ≡ None
    task_none t = stands.tasks.unmade master t

    tasks_new : TasksStand e q
    tasks_new = record {
      each = λ m t is. subst (λ (o : Option Task). TaskAt e m t o) (sym (task_none t)) (elsewhere e sd changes (dir.Tasks m) (name.Task t) (tasks_apart m sd) ∙ no_task m t);
      elsewhere = λ a t apart. elsewhere e sd changes (dir.Tasks a) (name.Task t) (tasks_apart a sd) ∙ no_task a t;
      unmade = λ is t. task_none t;
      listed = [];
      are = record {
        rising = none_rises;
        each = λ t s among. absurd (nothing_in (t, s) among);
        all = λ t x is. absurd (none_some (p.task t) x (task_none t) is);
      };
      few = omega arith;
      one = λ t u x y opened other. absurd (none_some (p.task t) x (task_none t) opened.0);
      built = λ t x opened. absurd (none_some (p.task t) x (task_none t) opened.0);
      inside = λ a i making. absurd (none_some (p.task making.0) making.1.0 (task_none making.0) making.1.1.0);
    }

    image_new : (a i : Id) (version : ℕ) → a ≡ sd → ImageStands up e q a version i
    image_new a i version same = subst (λ (b : Id). ImageStands up e q b version i) (sym same) (record {
      gone = λ none. record { image = no_image sd i; folder = unfolded (dir.Image sd i) (λ is. new.unseen (i, inl is)); removed = unfolded (dir.Removed sd i) (λ is. new.unseen (i, inr is)) };
      there = λ named idle. absurd (unnamed named.0 named.1.0 named.1.1);
      making = λ making k l names. absurd (unnamed k l names);
      held = λ n f is at. absurd (no_file n f at);
    })
      where
        unfolded : (at : Dir) → (e.dir at ≡ true → ⊥) → e.dir at ≡ false
        unfolded at none = not_shown (e.dir at) none

        unnamed : (k : ℕ) (l : LeaseRecord) → NamesAt q sd i k l → ⊥
        unnamed k l names = not_leased (q.sector sd k) l (no_sector sd k) names.lease

        no_file : (n : Name) (f : File) → (e.file (place_in (dir.Image sd i) n) ≡ Some f) ⊎ (e.file (place_in (dir.Removed sd i) n) ≡ Some f) → ⊥
        no_file n f (inl is) = new.unseen (i, inl (new.folder_of (place_in (dir.Image sd i) n) f is))
        no_file n f (inr is) = new.unseen (i, inr (new.folder_of (place_in (dir.Removed sd i) n) f is))

    pub made_pool_stands : Stands up e (master_pool r p)
    made_pool_stands = record {
      master = master_lists;
      domain = domain_new;
      tasks = tasks_new;
      image = λ a s listed i. image_new a i s.version (listed_only a s listed);
      unasked = λ a s listed i. record { none = λ m v fault idle has. absurd (none_some (q.image a i) m (no_image a i) has) };
      alive = alive_stays e sd changes;
      layout = layout_stays e sd changes;
    }
