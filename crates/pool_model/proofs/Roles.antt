-- A move of sector 0 of the master leaves all that the disk has to say of the rest of the pool.
use Rattle.std.proofs.Common.{◌≡◌, ◌≢◌, ◌⊎◌, ℕ, ◌<◌, ◌≤◌, ◌==◌, Bool, true, false, List, Option, Some, None, refl, sym, ap, subst, ◌∙◌, inl, inr, arith}
use Rattle.std.proofs.lemmas.Bool.{eqb-true, false≢true}
use Rattle.std.specs.Prelude.{Contains, if◌then◌else◌, Result, Ok}
use Rattle.sd_names.specs.UpSet.{Hosts, is_up}
use Rattle.sd_names.specs.declared.fault.DomainFault.{DomainFault}
use Rattle.sd_names.specs.declared.id.Id.{Id}
use Rattle.sd_names.specs.declared.place.Dir.{Dir}
use Rattle.sd_names.specs.declared.place.Dir.TheVariants as dir
use Rattle.sd_names.specs.declared.place.Name.{Name}
use Rattle.sd_names.specs.declared.place.Name.TheVariants as name
use Rattle.sd_names.specs.declared.place.Place.{Place}
use Rattle.shared_disk.specs.Changes.{exchanged}
use Rattle.shared_disk.specs.Content.{Content, File, Loose}
use Rattle.shared_disk.specs.Crash.{IsAlso, IsSettled}
use Rattle.shared_disk.specs.NameCalls.{place_in}
use Rattle.shared_disk.specs.Places.{id_is, place_is}
use Rattle.shared_disk.proofs.AtPlace.{one_file}
use Rattle.shared_disk.proofs.Outcomes.{nothing_in}
use Rattle.shared_disk.proofs.Places.{id_is-itself, id_is-same, not_false, place_is-decides, place_is-same}
use Rattle.shared_disk.proofs.Toolkit.{exchanged_settled}
use Rattle.folder_layout.specs.Layout.{HoldsName}
use Rattle.domain_meta.specs.declared.record.DomainRecord.{DomainRecord}
use Rattle.task_store.specs.declared.task.Task.{Task}
use Rattle.lease_area.specs.Hold.{IsMoved, leases_of}
use Rattle.lease_area.specs.Move.{LeaseMove}
use Rattle.lease_area.specs.Record.{IsImageSlot}
use Rattle.lease_area.specs.Sector.{IsRecord, IsSector, sector_bytes}
use Rattle.lease_area.specs.declared.sector.Kind.TheVariants as kind
use Rattle.lease_area.specs.declared.sector.LeaseRecord.{LeaseRecord}
use Rattle.lease_area.specs.declared.sector.Sector.{Sector}
use Rattle.lease_area.specs.declared.sector.Sector.TheVariants.{Lease}
use Rattle.lease_area.proofs.Moves.{not_zero}
use Rattle.chain_model.proofs.Settled.{is_one}
use Rattle.pool_model.specs.Laws.{AreAlive, LeavesImage, with_role}
use Rattle.pool_model.specs.Leases.{Holds, NamesAt}
use Rattle.pool_model.specs.Pool.{Box, Pool, at_number}
use Rattle.pool_model.specs.Standing.{BoxesStand, DomainStands, HasDomainText, HasFolders, HasStored, IsAlive, IsBare, IsUnasked, IsZeroFile, LeasesStand, MasterLists, MasterStands, ShowsImage, Stands, TaskAt, TasksStand, file_in, lease_sectors}
use Rattle.pool_model.proofs.Frames.{image_stays}
use Rattle.pool_model.specs.Owned.{IsLeasesChange, MayChange, OwnedChange, OwnedPool, OwnedSector}
use Rattle.pool_model.specs.Verb.{Verb}
use Rattle.pool_model.proofs.OneDomain.{listed_here, one_text}

-- ---- places

pub id_apart : (a b : Id) → a ≢ b → id_is a b ≡ false
id_apart a b apart = not_false (id_is a b) (λ e. apart (id_is-same a b e))

pub is_place : (p q : Place) → (p ≡ q) ⊎ (p ≢ q)
is_place p q = go (place_is p q) refl
  where
    go : (b : Bool) → place_is p q ≡ b → (p ≡ q) ⊎ (p ≢ q)
    go true e = inl (place_is-same p q e)
    go false e = inr (λ same. false≢true (sym e ∙ (place_is-decides p q).1 same))

pub one_dom_md : (a b : Id) → dir.DomMd a ≡ dir.DomMd b → a ≡ b
one_dom_md a b e = cc

image_apart : (sd i m : Id) → dir.Image sd i ≡ dir.DomMd m → ⊥
image_apart sd i m e = cc

removed_apart : (sd i m : Id) → dir.Removed sd i ≡ dir.DomMd m → ⊥
removed_apart sd i m e = cc

tasks_apart : (sd m : Id) → dir.Tasks sd ≡ dir.DomMd m → ⊥
tasks_apart sd m e = cc

metadata_apart : name.Metadata ≡ name.Leases → ⊥
metadata_apart e = cc

inbox_apart : name.Inbox ≡ name.Leases → ⊥
inbox_apart e = cc

outbox_apart : name.Outbox ≡ name.Leases → ⊥
outbox_apart e = cc

-- ---- sectors

pub past_first : (k : ℕ) → IsImageSlot k → (k == 0) ≡ false
past_first k slot = not_zero k (λ e. first e slot.low)
  where
    first : k ≡ 0 → 0 < k → ⊥
    first e low = omega (arith, e, low)

one_lease : (a b : LeaseRecord) → Lease a ≡ Lease b → a ≡ b
one_lease a b e = cc

no_domain : (o : Option DomainRecord) (r : DomainRecord) → o ≡ None → o ≡ Some r → ⊥
no_domain o r e f = cc

-- ---- a file in which nothing is unsynced

pub settled_alive : (up : Hosts) (f : File) → IsSettled f → IsAlive up f
settled_alive up f settled = record {
  loose = λ l among. absurd (nothing_in l (subst (λ (ls : List Loose). Contains ls l) settled.loose among));
  fresh = λ h is. absurd (none f.fresh h settled.fresh is);
}
  where
    none : (o : Option ℕ) (h : ℕ) → o ≡ None → o ≡ Some h → ⊥
    none o h e g = cc

-- ---- the sectors of images stay

module _ (p : Pool) (m : Id) (new : LeaseRecord) where
  other_sectors : (sd : Id) → sd ≢ m → (with_role p m new).sector sd ≡ p.sector sd
  other_sectors sd apart = ap (λ (b : Bool). if b then at_number (p.sector m) 0 (Lease new) else p.sector sd) (id_apart sd m apart)

  here_sectors : (with_role p m new).sector m ≡ at_number (p.sector m) 0 (Lease new)
  here_sectors = ap (λ (b : Bool). if b then at_number (p.sector m) 0 (Lease new) else p.sector m) (id_is-itself m)

  -- in the master, those of images
  same_slot : (k : ℕ) → IsImageSlot k → at_number (p.sector m) 0 (Lease new) k ≡ p.sector m k
  same_slot k slot = ap (λ (b : Bool). if b then Lease new else p.sector m k) (past_first k slot)

  pub image_sector : (sd : Id) (k : ℕ) → IsImageSlot k → (with_role p m new).sector sd k ≡ p.sector sd k
  image_sector sd k slot = go (is_one sd m)
    where
      go : (sd ≡ m) ⊎ (sd ≢ m) → (with_role p m new).sector sd k ≡ p.sector sd k
      go (inl same) = subst (λ (x : Id). (with_role p m new).sector x k ≡ p.sector x k) (sym same) (ap (λ (s : ℕ → Sector). s k) here_sectors ∙ same_slot k slot)
      go (inr apart) = ap (λ (s : ℕ → Sector). s k) (other_sectors sd apart)

  pub names_stay : (sd i : Id) (k : ℕ) (r : LeaseRecord) → NamesAt p sd i k r → NamesAt (with_role p m new) sd i k r
  names_stay sd i k r x = record { slot = x.slot; lease = image_sector sd k x.slot ∙ x.lease; image = x.image }

  pub names_stood : (sd i : Id) (k : ℕ) (r : LeaseRecord) → NamesAt (with_role p m new) sd i k r → NamesAt p sd i k r
  names_stood sd i k r x = record { slot = x.slot; lease = sym (image_sector sd k x.slot) ∙ x.lease; image = x.image }

-- ---- the frame

module _ (up : Hosts) (d e : Content) (p : Pool) (m : Id) (new : LeaseRecord) (stands : Stands up d p) (master : p.master ≡ Some m)
    (moved : IsMoved d m 0 (Lease new) e) (fits : IsRecord new) (other_kind : new.kind ≢ kind.Task)
    (holds : (sd i : Id) (h : ℕ) → is_up up h ≡ true → Holds p h sd i → Holds (with_role p m new) h sd i) where
  abbrev q : Pool
  q = with_role p m new

  lists : MasterLists p m
  lists = subst (λ (o : Option Id). MasterStands p o) master stands.master

  -- files
  keeps : (at : Dir) (n : Name) → n ≢ name.Leases → e.file (place_in at n) ≡ d.file (place_in at n)
  keeps at n apart = moved.2.others (place_in at n) (λ same. apart (ap (λ (x : Place). x.name) same))

  elsewhere : (at : Dir) (n : Name) → at ≢ dir.DomMd m → e.file (place_in at n) ≡ d.file (place_in at n)
  elsewhere at n apart = moved.2.others (place_in at n) (λ same. apart (ap (λ (x : Place). x.dir) same))

  stored_stays : (at : Dir) (n : Name) (text : List ℕ) → n ≢ name.Leases → HasStored d (place_in at n) text → HasStored e (place_in at n) text
  stored_stays at n text apart x = record { file = x.file; there = keeps at n apart ∙ x.there; settled = x.settled; stored = x.stored }

  text_stays : (sd : Id) (t : Result DomainRecord DomainFault) → HasDomainText d sd t → HasDomainText e sd t
  text_stays sd t x = (x.0, stored_stays (dir.DomMd sd) name.Metadata x.0 metadata_apart x.1, x.2)

  -- the leases of the master
  spelled : (t : Bool) (s : Sector) (bytes : List ℕ) → bytes ≡ sector_bytes s
      → (if t then sector_bytes (Lease new) else bytes) ≡ sector_bytes (if t then Lease new else s)
  spelled true s bytes is = refl
  spelled false s bytes is = is

  fits_by : (t : Bool) (s : Sector) → IsSector s → IsSector (if t then Lease new else s)
  fits_by true s is = fits
  fits_by false s is = is

  master_leases : LeasesStand (at_number (p.sector m) 0 (Lease new)) (file_in m name.Leases e)
  master_leases = record {
    file = exchanged 0 (sector_bytes (Lease new)) moved.0;
    there = moved.2.here;
    settled = exchanged_settled 0 (sector_bytes (Lease new)) moved.0 (subst (λ (f : File). IsSettled f) same old.settled);
    size = subst (λ (f : File). f.size ≡ lease_sectors) same old.size;
    each = λ k within. spelled (k == 0) (p.sector m k) (moved.0.stable k) (subst (λ (f : File). f.stable k ≡ sector_bytes (p.sector m k)) same (old.each k within));
    fits = λ k. fits_by (k == 0) (p.sector m k) (old.fits k);
    past = λ k beyond. ap (λ (b : Bool). if b then Lease new else p.sector m k) (not_zero k (λ zero. far k zero beyond)) ∙ old.past k beyond;
    role = λ r is. subst (λ (x : LeaseRecord). x.kind ≢ kind.Task) (one_lease new r is) other_kind;
    once = λ j k r s at on is so one. old.once j k r s at on (sym (same_slot p m new j at) ∙ is) (sym (same_slot p m new k on) ∙ so) one;
    set = λ k r at is. old.set k r at (sym (same_slot p m new k at) ∙ is);
  }
    where
      old : LeasesStand (p.sector m) (file_in m name.Leases d)
      old = (listed_here up d p m lists.is stands lists.listed).leases

      same : old.file ≡ moved.0
      same = one_file old.file moved.0 (d.file (leases_of m)) old.there moved.1

      far : (k : ℕ) → k ≡ 0 → lease_sectors ≤ k → ⊥
      far k zero beyond = omega (arith, zero, beyond)

  leases_stay : (sd : Id) → LeasesStand (p.sector sd) (file_in sd name.Leases d) → LeasesStand (q.sector sd) (file_in sd name.Leases e)
  leases_stay sd x = go (is_one sd m)
    where
      go : (sd ≡ m) ⊎ (sd ≢ m) → LeasesStand (q.sector sd) (file_in sd name.Leases e)
      go (inl same) = subst (λ (a : Id). LeasesStand (q.sector a) (file_in a name.Leases e)) (sym same)
          (subst (λ (s : ℕ → Sector). LeasesStand s (file_in m name.Leases e)) (sym (here_sectors p m new)) master_leases)
      go (inr apart) = subst (λ (s : ℕ → Sector). LeasesStand s (file_in sd name.Leases e)) (sym (other_sectors p m new sd apart))
          (subst (λ (o : Option File). LeasesStand (p.sector sd) o) (sym (elsewhere (dir.DomMd sd) name.Leases (λ is. apart (one_dom_md sd m is)))) x)

  -- domains
  folders_stay : (sd : Id) → HasFolders d sd → HasFolders e sd
  folders_stay sd x = record {
    own = moved.2.dirs (dir.Domain sd) ∙ x.own;
    md = moved.2.dirs (dir.DomMd sd) ∙ x.md;
    images = moved.2.dirs (dir.Images sd) ∙ x.images;
    master = moved.2.dirs (dir.Master sd) ∙ x.master;
    tasks = moved.2.dirs (dir.Tasks sd) ∙ x.tasks;
  }

  boxes_stay : (b : ℕ → Box) (sd : Id) (n : Name) → n ≢ name.Leases → BoxesStand up b (file_in sd n d) → BoxesStand up b (file_in sd n e)
  boxes_stay b sd n apart x = subst (λ (o : Option File). BoxesStand up b o) (sym (keeps (dir.DomMd sd) n apart)) x

  zeros_stay : (size : ℕ) (sd : Id) (n : Name) → e.file (place_in (dir.DomMd sd) n) ≡ d.file (place_in (dir.DomMd sd) n) → IsZeroFile size (file_in sd n d)
      → IsZeroFile size (file_in sd n e)
  zeros_stay size sd n same x = subst (λ (o : Option File). IsZeroFile size o) (sym same) x

  shows_stay : (sd : Id) → ShowsImage d sd → ShowsImage e sd
  shows_stay sd (i, inl there) = (i, inl (moved.2.dirs (dir.Image sd i) ∙ there))
  shows_stay sd (i, inr there) = (i, inr (moved.2.dirs (dir.Removed sd i) ∙ there))

  shows_stood : (sd : Id) → ShowsImage e sd → ShowsImage d sd
  shows_stood sd (i, inl there) = (i, inl (sym (moved.2.dirs (dir.Image sd i)) ∙ there))
  shows_stood sd (i, inr there) = (i, inr (sym (moved.2.dirs (dir.Removed sd i)) ∙ there))

  unlisted_apart : (sd : Id) → p.domain sd ≡ None → sd ≢ m
  unlisted_apart sd none same = no_domain (p.domain sd) lists.is none (subst (λ (x : Id). p.domain x ≡ Some lists.is) (sym same) lists.listed)

  bare_stays : (sd : Id) → sd ≢ m → IsBare d p sd → IsBare e q sd
  bare_stays sd apart x = record {
    sector = λ k. ap (λ (s : ℕ → Sector). s k) (other_sectors p m new sd apart) ∙ x.sector k;
    box = x.box;
    image = x.image;
    shown = λ is. shows_stay sd (x.shown is);
    hidden = λ is shows. x.hidden is (shows_stood sd shows);
  }

  domain_stays : (sd : Id) (o : Option DomainRecord) (s : Option (Result DomainRecord DomainFault)) → p.domain sd ≡ o → DomainStands up d p sd o s
      → DomainStands up e q sd o s
  domain_stays sd (Some r) s is x = record {
    text = text_stays sd (Ok r) x.text;
    version = x.version;
    folders = folders_stay sd x.folders;
    leases = leases_stay sd x.leases;
    inboxes = boxes_stay _ sd name.Inbox inbox_apart x.inboxes;
    outboxes = boxes_stay _ sd name.Outbox outbox_apart x.outboxes;
    stray = x.stray;
    shows = x.shows;
  }
  domain_stays sd None (Some t) is x = record {
    text = text_stays sd t x.text;
    role = x.role;
    leases = zeros_stay lease_sectors sd name.Leases (elsewhere (dir.DomMd sd) name.Leases (λ same. unlisted_apart sd is (one_dom_md sd m same))) x.leases;
    inboxes = zeros_stay _ sd name.Inbox (keeps (dir.DomMd sd) name.Inbox inbox_apart) x.inboxes;
    outboxes = zeros_stay _ sd name.Outbox (keeps (dir.DomMd sd) name.Outbox outbox_apart) x.outboxes;
    none = x.none;
    bare = bare_stays sd (unlisted_apart sd is) x.bare;
  }
  domain_stays sd None None is x = record {
    text = keeps (dir.DomMd sd) name.Metadata metadata_apart ∙ x.text;
    bare = bare_stays sd (unlisted_apart sd is) x.bare;
  }

  master_stays : (o : Option Id) → MasterStands p o → MasterStands q o
  master_stays None x = record { domain = x.domain; stray = x.stray }
  master_stays (Some a) x = record { is = x.is; listed = x.listed; role = x.role; lists = x.lists; others = x.others }

  -- tasks
  task_stays : (sd t : Id) (o : Option Task) → TaskAt d sd t o → TaskAt e sd t o
  task_stays sd t None x = elsewhere (dir.Tasks sd) (name.Task t) (tasks_apart sd m) ∙ x
  task_stays sd t (Some y) x = record {
    text = x.text;
    stored = record {
      file = x.stored.file;
      there = elsewhere (dir.Tasks sd) (name.Task t) (tasks_apart sd m) ∙ x.stored.there;
      settled = x.stored.settled;
      stored = x.stored.stored;
    };
    short = x.short;
    reads = x.reads;
  }

  tasks_stay : TasksStand d p → TasksStand e q
  tasks_stay x = record {
    each = λ a t is. task_stays a t (p.task t) (x.each a t is);
    elsewhere = λ sd t apart. elsewhere (dir.Tasks sd) (name.Task t) (tasks_apart sd m) ∙ x.elsewhere sd t apart;
    unmade = x.unmade;
    listed = x.listed;
    are = record { rising = x.are.rising; each = x.are.each; all = x.are.all };
    few = x.few;
    one = x.one;
    built = x.built;
    inside = x.inside;
  }

  -- images
  leaves : (sd i : Id) → LeavesImage up d e p q sd i
  leaves sd i = record {
    image = refl;
    folder = moved.2.dirs (dir.Image sd i);
    removed = moved.2.dirs (dir.Removed sd i);
    files = λ n. elsewhere (dir.Image sd i) n (image_apart sd i m);
    removed_files = λ n. elsewhere (dir.Removed sd i) n (removed_apart sd i m);
    named = names_stay p m new sd i;
    was_named = names_stood p m new sd i;
    making = λ x. x;
    was_making = λ x. x;
    holds = holds sd i;
  }

  unasked_stays : (sd i : Id) → IsUnasked p sd i → IsUnasked q sd i
  unasked_stays sd i x = record { none = x.none }

  alive_stays : AreAlive up e
  alive_stays at f there = go (is_place at (leases_of m))
    where
      old : LeasesStand (at_number (p.sector m) 0 (Lease new)) (file_in m name.Leases e)
      old = master_leases

      go : (at ≡ leases_of m) ⊎ (at ≢ leases_of m) → IsAlive up f
      go (inl same) = subst (λ (x : File). IsAlive up x)
          (one_file old.file f (e.file (leases_of m)) old.there (subst (λ (x : Place). e.file x ≡ Some f) same there)) (settled_alive up old.file old.settled)
      go (inr apart) = stands.alive at f (sym (moved.2.others at apart) ∙ there)

  pub role_frame : Stands up e (with_role p m new)
  role_frame = record {
    master = master_stays p.master stands.master;
    domain = λ sd. domain_stays sd (p.domain sd) (p.stray sd) refl (stands.domain sd);
    tasks = tasks_stay stands.tasks;
    image = λ sd r listed i. image_stays up d e p q sd i r.version stands.alive (leaves sd i) (stands.image sd r listed i);
    unasked = λ sd r listed i. unasked_stays sd i (stands.unasked sd r listed i);
    alive = alive_stays;
    layout = λ at f there. laid at f (is_place at (leases_of m)) there;
  }
    where
      laid : (at : Place) (f : File) → (at ≡ leases_of m) ⊎ (at ≢ leases_of m) → e.file at ≡ Some f → HoldsName at.dir at.name
      laid at f (inl same) there = subst (λ (x : Place). HoldsName x.dir x.name) (sym same) (stands.layout (leases_of m) moved.0 moved.1)
      laid at f (inr apart) there = stands.layout at f (sym (moved.2.others at apart) ∙ there)

  -- ---- who may do so

  text_stood : (sd : Id) (t : Result DomainRecord DomainFault) → HasDomainText e sd t → HasDomainText d sd t
  text_stood sd t x = (
    x.0,
    record {
      file = x.1.file;
      there = sym (keeps (dir.DomMd sd) name.Metadata metadata_apart) ∙ x.1.there;
      settled = x.1.settled;
      stored = x.1.stored;
    },
    x.2,
  )

  leases_change : (h : ℕ) → LeaseMove up h false 0 (p.sector m 0) (Lease new) → IsLeasesChange h up p m moved.0 (exchanged 0 (sector_bytes (Lease new)) moved.0)
  unfolding master_leases
  leases_change h move = record {
    at = 0;
    settled = master_leases.settled;
    size = refl;
    here = record {
      new = Lease new;
      spm = false;
      leads = λ is. absurd (false≢true is);
      move = move;
      fresh = λ r slot empty is. absurd (no_slot slot.low);
      is = refl;
    };
    others = λ k apart. ap (λ (b : Bool). if b then sector_bytes (Lease new) else moved.0.stable k) (not_zero k apart);
  }
    where
      no_slot : 0 < 0 → ⊥
      no_slot low = omega (arith, low)

  pub role_owned : (h : ℕ) (v : Verb) → LeaseMove up h false 0 (p.sector m 0) (Lease new) → OwnedChange h up v p d e
  role_owned h v move = record {
    files = λ at. changed at (is_place at (leases_of m));
    dirs = λ at. inl (moved.2.dirs at);
    texts = λ sd f there. (f, keeps (dir.DomMd sd) name.Metadata metadata_apart ∙ there);
    lists = λ a sd r s was is among gone. absurd (gone (subst (λ (x : DomainRecord). Contains x.domains sd) (said_alike r s (one_text d a (Ok r) (Ok s) was (text_stood a (Ok s) is))) among));
  }
    where
      said_alike : (r s : DomainRecord) → ◌≡◌ {A = Result DomainRecord DomainFault} (Ok r) (Ok s) → r ≡ s
      said_alike r s e = cc

      also : (a b : Option File) (f g : File) → a ≡ Some f → b ≡ Some g → IsLeasesChange h up p m f g → IsAlso (IsLeasesChange h up p m) a b
      also a b f g was is change =
          subst (λ (o : Option File). IsAlso (IsLeasesChange h up p m) o b) (sym was)
          (subst (λ (o : Option File). IsAlso (IsLeasesChange h up p m) (Some f) o) (sym is) change)

      changed : (at : Place) → (at ≡ leases_of m) ⊎ (at ≢ leases_of m) → (e.file at ≡ d.file at) ⊎ MayChange h up v p at.dir at.name (d.file at) (e.file at)
      changed at (inl same) = inr (subst (λ (x : Place). MayChange h up v p x.dir x.name (d.file x) (e.file x)) (sym same)
          (inl ((lists.is, lists.listed), also (d.file (leases_of m)) (e.file (leases_of m)) moved.0 _ moved.1 moved.2.here (leases_change h move))))
      changed at (inr apart) = inl (moved.2.others at apart)

-- nothing has changed
pub nothing_owned : (h : ℕ) (up : Hosts) (v : Verb) (p : Pool) (d : Content) → OwnedChange h up v p d d
nothing_owned h up v p d = record {
  files = λ at. inl refl;
  dirs = λ at. inl refl;
  texts = λ sd f there. (f, there);
  lists = λ a sd r s was is among gone. absurd (gone (subst (λ (x : DomainRecord). Contains x.domains sd) (said_alike r s (one_text d a (Ok r) (Ok s) was is)) among));
}
  where
    said_alike : (r s : DomainRecord) → ◌≡◌ {A = Result DomainRecord DomainFault} (Ok r) (Ok s) → r ≡ s
    said_alike r s e = cc

-- ---- the same of the pool

-- the pool is as it was
pub nothing_changed : (h : ℕ) (up : Hosts) (p : Pool) → OwnedPool h up p p
nothing_changed h up p = record {
  sectors = λ sd k. inl refl;
  tasks = inl (λ t. refl);
  master = inl refl;
  domains = inl (λ sd. refl);
  lists = λ sd r listed. inl (r, listed);
  texts = λ sd some. some;
  boxes = λ side sd g w among. inl among;
  images = λ sd i. inl refl;
}

-- sector 0 of the master made a move of the host's
pub role_changed : (h : ℕ) (up : Hosts) (p : Pool) (m : Id) (new : LeaseRecord) → LeaseMove up h false 0 (p.sector m 0) (Lease new)
    → OwnedPool h up p (with_role p m new)
role_changed h up p m new move = record {
  sectors = λ sd k. at sd k (is_one sd m);
  tasks = inl (λ t. refl);
  master = inl refl;
  domains = inl (λ sd. refl);
  lists = λ sd r listed. inl (r, listed);
  texts = λ sd some. some;
  boxes = λ side sd g w among. inl among;
  images = λ sd i. inl refl;
}
  where
    here_at : (k : ℕ) (b : Bool) → (k == 0) ≡ b → OwnedSector h up p m k ((with_role p m new).sector m k)
    here_at k true e = subst (λ (n : ℕ). OwnedSector h up p m n ((with_role p m new).sector m n)) (sym (eqb-true k 0 e))
        (subst (λ (s : Sector). OwnedSector h up p m 0 s) (sym (ap (λ (s : ℕ → Sector). s 0) (here_sectors p m new)))
        (inr (false, (λ is. absurd (false≢true is), move))))
    here_at k false e =
        inl (ap (λ (s : ℕ → Sector). s k) (here_sectors p m new) ∙ ap (λ (b : Bool). if b then Lease new else p.sector m k) e)

    at : (sd : Id) (k : ℕ) → (sd ≡ m) ⊎ (sd ≢ m) → OwnedSector h up p sd k ((with_role p m new).sector sd k)
    at sd k (inl same) = subst (λ (a : Id). OwnedSector h up p a k ((with_role p m new).sector a k)) (sym same) (here_at k (k == 0) refl)
    at sd k (inr apart) = inl (ap (λ (s : ℕ → Sector). s k) (other_sectors p m new sd apart))
