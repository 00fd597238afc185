-- Once the image is gone its sector is emptied: the disk stands for the pool without both.
use Rattle.std.proofs.Common.{◌≡◌, ◌≢◌, ◌⊎◌, ℕ, ◌<◌, ◌==◌, Bool, true, false, if◌then◌else◌, List, Option, Some, None, refl, sym, ap, subst, ◌∙◌, inl, inr, arith}
use Rattle.std.proofs.lemmas.Bool.{eqb-true, false≢true}
use Rattle.std.proofs.lemmas.Bool.Decides.{nat_tests}
use Rattle.sd_names.specs.UpSet.{Hosts}
use Rattle.sd_names.specs.declared.id.Id.{Id}
use Rattle.sd_names.specs.declared.place.Dir.{Dir}
use Rattle.sd_names.specs.declared.place.Dir.TheVariants as dir
use Rattle.sd_names.specs.declared.place.Name.{Name}
use Rattle.sd_names.specs.declared.place.Name.TheVariants as name
use Rattle.sd_names.specs.declared.place.Place.{Place}
use Rattle.shared_disk.specs.Changes.{exchanged}
use Rattle.shared_disk.specs.Content.{Content, File}
use Rattle.shared_disk.specs.Crash.{IsSettled}
use Rattle.shared_disk.specs.NameCalls.{place_in}
use Rattle.shared_disk.specs.WellFormed.{IsWellFormed}
use Rattle.shared_disk.proofs.AtPlace.{one_file}
use Rattle.shared_disk.proofs.Places.{id_is-itself}
use Rattle.shared_disk.proofs.Toolkit.{exchanged_settled}
use Rattle.folder_layout.specs.Layout.{HoldsName}
use Rattle.domain_meta.specs.declared.record.DomainRecord.{DomainRecord}
use Rattle.task_store.specs.declared.task.Task.{Task}
use Rattle.lease_area.specs.Hold.{IsMoved, leases_of}
use Rattle.lease_area.specs.Sector.{IsSector, sector_bytes}
use Rattle.lease_area.specs.declared.sector.LeaseRecord.{LeaseRecord}
use Rattle.lease_area.specs.declared.sector.Sector.{Sector}
use Rattle.lease_area.specs.declared.sector.Sector.TheVariants.{Empty, Lease}
use Rattle.chain_model.proofs.Settled.{is_one}
use Rattle.image_removing.specs.Steps.{IsGone as HasNoFolder}
use Rattle.pool_model.specs.Laws.{AreAlive, LeavesImage}
use Rattle.pool_model.specs.Leases.{Holds, IsUnnamed, Leads, NamesAt}
use Rattle.pool_model.specs.Pool.{Image, Pool, at_id, at_number, put_image, put_sector}
use Rattle.pool_model.specs.Standing.{ImageStands, IsAlive, IsUnasked, LeasesStand, Stands, TaskAt, TasksStand, file_in, lease_sectors}
use Rattle.pool_model.specs.Tasks.{IsMaking}
use Rattle.pool_model.proofs.Frames.{image_stays}
use Rattle.pool_model.proofs.OneDomain.{listed_here}
use Rattle.pool_model.proofs.Roles.{id_apart, is_place, one_dom_md, settled_alive}
use Rattle.task_settling.proofs.Frame.{KeepsDomains, frame}
use Rattle.task_settling.proofs.Places.{none_some}

own_apart : (sd i m : Id) → dir.Image sd i ≡ dir.DomMd m → ⊥
own_apart sd i m e = cc

removed_apart : (sd i m : Id) → dir.Removed sd i ≡ dir.DomMd m → ⊥
removed_apart sd i m e = cc

tasks_apart : (sd m : Id) → dir.Tasks sd ≡ dir.DomMd m → ⊥
tasks_apart sd m e = cc

not_lease : (s : Sector) (r : LeaseRecord) → s ≡ Empty → s ≡ Lease r → ⊥
not_lease s r e f = cc

one_lease : (s : Sector) (a b : LeaseRecord) → s ≡ Lease a → s ≡ Lease b → a ≡ b
one_lease s a b e f = cc

pub differs : (j k : ℕ) → j ≢ k → (j == k) ≡ false
differs j k apart = go (j == k) refl
  where
    go : (b : Bool) → (j == k) ≡ b → (j == k) ≡ false
    go false e = e
    go true e = absurd (apart (eqb-true j k e))

-- the pool without the image and its sector
abbrev pub without_image : Pool → Id → Id → ℕ → Pool
without_image p sd i k = put_sector (put_image p sd i None) sd k Empty

-- ---- the pool

module _ (p : Pool) (sd i : Id) (k : ℕ) (r : LeaseRecord) (names : NamesAt p sd i k r) where
  abbrev q : Pool
  q = without_image p sd i k

  other_sectors : (a : Id) → a ≢ sd → q.sector a ≡ p.sector a
  other_sectors a apart = ap (λ (b : Bool). if b then at_number (p.sector sd) k Empty else p.sector a) (id_apart a sd apart)

  here_sectors : q.sector sd ≡ at_number (p.sector sd) k Empty
  here_sectors = ap (λ (b : Bool). if b then at_number (p.sector sd) k Empty else p.sector sd) (id_is-itself sd)

  other_images : (a : Id) → a ≢ sd → q.image a ≡ p.image a
  other_images a apart = ap (λ (b : Bool). if b then at_id (p.image sd) i None else p.image a) (id_apart a sd apart)

  here_images : q.image sd ≡ at_id (p.image sd) i None
  here_images = ap (λ (b : Bool). if b then at_id (p.image sd) i None else p.image sd) (id_is-itself sd)

  pub image_gone : q.image sd i ≡ None
  image_gone = ap (λ (f : Id → Option Image). f i) here_images ∙ ap (λ (b : Bool). if b then None else p.image sd i) (id_is-itself i)

  pub image_same : (a j : Id) → ((a ≡ sd) → (j ≡ i) → ⊥) → q.image a j ≡ p.image a j
  image_same a j other = go (is_one a sd)
    where
      go : (a ≡ sd) ⊎ (a ≢ sd) → q.image a j ≡ p.image a j
      go (inr apart) = ap (λ (f : Id → Option Image). f j) (other_images a apart)
      go (inl same) = subst (λ (b : Id). q.image b j ≡ p.image b j) (sym same)
          (ap (λ (f : Id → Option Image). f j) here_images ∙ ap (λ (b : Bool). if b then None else p.image sd j) (id_apart j i (other same)))

  pub slot_empty : q.sector sd k ≡ Empty
  slot_empty = ap (λ (f : ℕ → Sector). f k) here_sectors ∙ ap (λ (b : Bool). if b then Empty else p.sector sd k) (same_test k)
    where
      same_test : (n : ℕ) → (n == n) ≡ true
      same_test n = grind (arith, nat_tests)

  pub slot_same : (a : Id) (j : ℕ) → ((a ≡ sd) → (j ≡ k) → ⊥) → q.sector a j ≡ p.sector a j
  slot_same a j other = go (is_one a sd)
    where
      go : (a ≡ sd) ⊎ (a ≢ sd) → q.sector a j ≡ p.sector a j
      go (inr apart) = ap (λ (f : ℕ → Sector). f j) (other_sectors a apart)
      go (inl same) = subst (λ (b : Id). q.sector b j ≡ p.sector b j) (sym same)
          (ap (λ (f : ℕ → Sector). f j) here_sectors ∙ ap (λ (b : Bool). if b then Empty else p.sector sd j) (differs j k (other same)))

  -- whatever lease stands there stood there
  pub still_lease : (a : Id) (j : ℕ) (s : LeaseRecord) → q.sector a j ≡ Lease s → p.sector a j ≡ Lease s
  still_lease a j s is = sym (slot_same a j not_it) ∙ is
    where
      not_it : (a ≡ sd) → (j ≡ k) → ⊥
      not_it same at = not_lease (q.sector sd k) s slot_empty (subst (λ (n : ℕ). q.sector sd n ≡ Lease s) at (subst (λ (b : Id). q.sector b j ≡ Lease s) same is))

  -- and another image's lease stays
  pub other_lease : (a j : Id) (n : ℕ) (s : LeaseRecord) → ((a ≡ sd) → (j ≡ i) → ⊥) → NamesAt p a j n s → q.sector a n ≡ Lease s
  other_lease a j n s other x = slot_same a n not_it ∙ x.lease
    where
      not_it : (a ≡ sd) → (n ≡ k) → ⊥
      not_it same at = other same (sym x.image ∙ ap (λ (l : LeaseRecord). l.image)
          (one_lease (p.sector sd k) s r (subst (λ (m : ℕ). p.sector sd m ≡ Lease s) at (subst (λ (b : Id). p.sector b n ≡ Lease s) same x.lease)) names.lease) ∙ names.image)

  pub named_other : (a j : Id) → ((a ≡ sd) → (j ≡ i) → ⊥) → (n : ℕ) (s : LeaseRecord) → NamesAt p a j n s → NamesAt q a j n s
  named_other a j other n s x = record { slot = x.slot; lease = other_lease a j n s other x; image = x.image }

  pub was_named : (a j : Id) (n : ℕ) (s : LeaseRecord) → NamesAt q a j n s → NamesAt p a j n s
  was_named a j n s x = record { slot = x.slot; lease = still_lease a n s x.lease; image = x.image }

  -- the role stays
  pub role_sector : (m : Id) → q.sector m 0 ≡ p.sector m 0
  role_sector m = slot_same m 0 (λ _ at. first k at names.slot.low)
    where
      first : (k : ℕ) → 0 ≡ k → 0 < k → ⊥
      first k at low = omega (arith, at, low)

  pub leads_stay : (h : ℕ) → Leads p h → Leads q h
  leads_stay h (m, (s, master, sector, owner)) = (m, (s, master, role_sector m ∙ sector, owner))

  holds_stay : (a j : Id) → ((a ≡ sd) → (j ≡ i) → ⊥) → (h : ℕ) → Holds p h a j → Holds q h a j
  holds_stay a j other h (inl (n, (s, x, is, owner))) = inl (n, (s, named_other a j other n s x, is, owner))
  holds_stay a j other h (inr (lead, (n, (s, x, is)))) = inr (leads_stay h lead, (n, (s, named_other a j other n s x, is)))

-- ---- the disk

module _ (up : Hosts) (d e : Content) (p : Pool) (sd i : Id) (k : ℕ) (r : LeaseRecord) (stands : Stands up d p) (making : IsMaking p sd i) (names : NamesAt p sd i k r)
    (moved : IsMoved d sd k Empty e) (gone : HasNoFolder sd i e) (well : IsWellFormed e) where
  abbrev q_now : Pool
  q_now = without_image p sd i k

  listed : (x : DomainRecord) × (p.domain sd ≡ Some x)
  listed = stands.tasks.inside sd i making

  unlisted_apart : (a : Id) → p.domain a ≡ None → a ≢ sd
  unlisted_apart a none same = none_some (p.domain sd) listed.0 (subst (λ (x : Id). p.domain x ≡ None) same none) listed.1

  elsewhere : (at : Dir) (n : Name) → at ≢ dir.DomMd sd → e.file (place_in at n) ≡ d.file (place_in at n)
  elsewhere at n apart = moved.2.others (place_in at n) (λ same. apart (ap (λ (x : Place). x.dir) same))

  spelled : (t : Bool) (s : Sector) (bytes : List ℕ) → bytes ≡ sector_bytes s → (if t then sector_bytes Empty else bytes) ≡ sector_bytes (if t then Empty else s)
  spelled true s bytes is = refl
  spelled false s bytes is = is

  fits_by : (t : Bool) (s : Sector) → IsSector s → IsSector (if t then Empty else s)
  fits_by true s is = tt
  fits_by false s is = is

  empty_by : (t : Bool) (s : Sector) → s ≡ Empty → (if t then Empty else s) ≡ Empty
  empty_by true s is = refl
  empty_by false s is = is

  lease_by : (t : Bool) (s : Sector) (x : LeaseRecord) → (if t then Empty else s) ≡ Lease x → s ≡ Lease x
  lease_by true s x is = let none : Empty ≡ Lease x = is in cc
  lease_by false s x is = is

  new_leases : LeasesStand (at_number (p.sector sd) k Empty) (file_in sd name.Leases e)
  new_leases = record {
    file = exchanged k (sector_bytes Empty) moved.0;
    there = moved.2.here;
    settled = exchanged_settled k (sector_bytes Empty) moved.0 (subst (λ (f : File). IsSettled f) same old.settled);
    size = subst (λ (f : File). f.size ≡ lease_sectors) same old.size;
    each = λ n within. spelled (n == k) (p.sector sd n) (moved.0.stable n) (subst (λ (f : File). f.stable n ≡ sector_bytes (p.sector sd n)) same (old.each n within));
    fits = λ n. fits_by (n == k) (p.sector sd n) (old.fits n);
    past = λ n beyond. empty_by (n == k) (p.sector sd n) (old.past n beyond);
    role = λ x is. old.role x (lease_by (0 == k) (p.sector sd 0) x is);
    once = λ m n x y at on is so one. old.once m n x y at on (lease_by (m == k) (p.sector sd m) x is) (lease_by (n == k) (p.sector sd n) y so) one;
    set = λ n x at is. old.set n x at (lease_by (n == k) (p.sector sd n) x is);
  }
    where
      old : LeasesStand (p.sector sd) (file_in sd name.Leases d)
      old = (listed_here up d p sd listed.0 stands listed.1).leases

      same : old.file ≡ moved.0
      same = one_file old.file moved.0 (d.file (leases_of sd)) old.there moved.1

  leases_stand : (a : Id) (x : DomainRecord) → p.domain a ≡ Some x → LeasesStand (q_now.sector a) (file_in a name.Leases e)
  leases_stand a x is = go (is_one a sd)
    where
      go : (a ≡ sd) ⊎ (a ≢ sd) → LeasesStand (q_now.sector a) (file_in a name.Leases e)
      go (inl same) = subst (λ (b : Id). LeasesStand (q_now.sector b) (file_in b name.Leases e)) (sym same)
          (subst (λ (s : ℕ → Sector). LeasesStand s (file_in sd name.Leases e)) (sym (here_sectors p sd i k r names)) new_leases)
      go (inr apart) = subst (λ (s : ℕ → Sector). LeasesStand s (file_in a name.Leases e)) (sym (other_sectors p sd i k r names a apart))
          (subst (λ (o : Option File). LeasesStand (p.sector a) o) (sym (elsewhere (dir.DomMd a) name.Leases (λ same. apart (one_dom_md a sd same)))) (listed_here up d p a x stands is).leases)

  pub domains_kept : KeepsDomains d e p q_now.sector q_now.image
  domains_kept = record {
    md = λ a n other. moved.2.others (place_in (dir.DomMd a) n) (λ same. other (ap (λ (x : Place). x.name) same));
    dirs = λ at _ _. moved.2.dirs at;
    leases = leases_stand;
    unlisted = λ a none. record {
      leases = elsewhere (dir.DomMd a) name.Leases (λ same. unlisted_apart a none (one_dom_md a sd same));
      sector = λ n. slot_same p sd i k r names a n (λ same _. unlisted_apart a none same);
      image = λ j. image_same p sd i k r names a j (λ same _. unlisted_apart a none same);
      own = λ j. moved.2.dirs (dir.Image a j);
      removed = λ j. moved.2.dirs (dir.Removed a j);
    };
  }

  -- tasks
  task_stays : (a t : Id) (o : Option Task) → TaskAt d a t o → TaskAt e a t o
  task_stays a t None x = elsewhere (dir.Tasks a) (name.Task t) (tasks_apart a sd) ∙ x
  task_stays a t (Some y) x = record {
    text = x.text;
    stored = record {
      file = x.stored.file;
      there = elsewhere (dir.Tasks a) (name.Task t) (tasks_apart a sd) ∙ x.stored.there;
      settled = x.stored.settled;
      stored = x.stored.stored;
    };
    short = x.short;
    reads = x.reads;
  }

  tasks_stay : TasksStand d p → TasksStand e q_now
  tasks_stay x = record {
    each = λ a t is. task_stays a t (p.task t) (x.each a t is);
    elsewhere = λ a t apart. elsewhere (dir.Tasks a) (name.Task t) (tasks_apart a sd) ∙ x.elsewhere a t apart;
    unmade = x.unmade;
    listed = x.listed;
    are = record { rising = x.are.rising; each = x.are.each; all = x.are.all };
    few = x.few;
    one = x.one;
    built = x.built;
    inside = x.inside;
  }

  -- images
  leaves : (a j : Id) → ((a ≡ sd) → (j ≡ i) → ⊥) → LeavesImage up d e p q_now a j
  leaves a j other = record {
    image = image_same p sd i k r names a j other;
    folder = moved.2.dirs (dir.Image a j);
    removed = moved.2.dirs (dir.Removed a j);
    files = λ n. elsewhere (dir.Image a j) n (own_apart a j sd);
    removed_files = λ n. elsewhere (dir.Removed a j) n (removed_apart a j sd);
    named = named_other p sd i k r names a j other;
    was_named = was_named p sd i k r names a j;
    making = λ x. x;
    was_making = λ x. x;
    holds = λ h alive x. holds_stay p sd i k r names a j other h x;
  }

  -- no other sector names the image
  pub unnamed_now : IsUnnamed q_now sd i
  unnamed_now n s x = not_lease (q_now.sector sd n) s (subst (λ (m : ℕ). q_now.sector sd m ≡ Empty) (sym same) (slot_empty p sd i k r names)) x.lease
    where
      was : NamesAt p sd i n s
      was = was_named p sd i k r names sd i n s x

      same : n ≡ k
      same = (listed_here up d p sd listed.0 stands listed.1).leases.once n k s r was.slot names.slot was.lease names.lease (was.image ∙ sym names.image)

  this_image : (version : ℕ) → ImageStands up e q_now sd version i
  this_image version = record {
    gone = λ none. record { image = image_gone p sd i k r names; folder = gone.own; removed = gone.removed };
    there = λ is idle. absurd (unnamed_now is.0 is.1.0 is.1.1);
    making = λ _ n s x. absurd (unnamed_now n s x);
    held = λ n f is at. absurd (no_file n f at);
  }
    where
      no_file : (n : Name) (f : File) → (e.file (place_in (dir.Image sd i) n) ≡ Some f) ⊎ (e.file (place_in (dir.Removed sd i) n) ≡ Some f) → ⊥
      no_file n f (inl at) = false≢true (sym gone.own ∙ well.folders (place_in (dir.Image sd i) n) f at)
      no_file n f (inr at) = false≢true (sym gone.removed ∙ well.folders (place_in (dir.Removed sd i) n) f at)

  by_image : (P : Id → Id → Type 0) (a j : Id) → P sd i → (((a ≡ sd) → (j ≡ i) → ⊥) → P a j) → P a j
  by_image P a j here other = go (is_one a sd) (is_one j i)
    where
      go : (a ≡ sd) ⊎ (a ≢ sd) → (j ≡ i) ⊎ (j ≢ i) → P a j
      go (inr unlike) one = other (λ same _. unlike same)
      go (inl same) (inr unlike) = other (λ _ alike. unlike alike)
      go (inl same) (inl alike) = subst (λ (b : Id). P b j) (sym same) (subst (λ (b : Id). P sd b) (sym alike) here)

  image_stands : (a : Id) (x : DomainRecord) → p.domain a ≡ Some x → (j : Id) → ImageStands up e q_now a x.version j
  image_stands a x is j = by_image (λ b l. ImageStands up e q_now b x.version l) a j (this_image x.version)
      (λ other. image_stays up d e p q_now a j x.version stands.alive (leaves a j other) (stands.image a x is j))

  unasked_stays : (a : Id) (x : DomainRecord) → p.domain a ≡ Some x → (j : Id) → IsUnasked q_now a j
  unasked_stays a x is j = by_image (λ b l. IsUnasked q_now b l) a j
      (record { none = λ m v fault idle there. absurd (none_some (q_now.image sd i) m (image_gone p sd i k r names) there) })
      (λ other. record { none = λ m v fault idle there. (stands.unasked a x is j).none m v fault idle (sym (image_same p sd i k r names a j other) ∙ there) })

  alive_stays : AreAlive up e
  alive_stays at f there = go (is_place at (leases_of sd))
    where
      go : (at ≡ leases_of sd) ⊎ (at ≢ leases_of sd) → IsAlive up f
      go (inl same) = subst (λ (x : File). IsAlive up x)
          (one_file new_leases.file f (e.file (leases_of sd)) new_leases.there (subst (λ (x : Place). e.file x ≡ Some f) same there)) (settled_alive up new_leases.file new_leases.settled)
      go (inr apart) = stands.alive at f (sym (moved.2.others at apart) ∙ there)

  pub emptying_stands : Stands up e (without_image p sd i k)
  emptying_stands = frame up d e p q_now.sector q_now.image p.task stands domains_kept (tasks_stay stands.tasks) image_stands unasked_stays alive_stays
      (λ at f there. laid at f there (is_place at (leases_of sd)))
    where
      laid : (at : Place) (f : File) → e.file at ≡ Some f → (at ≡ leases_of sd) ⊎ (at ≢ leases_of sd) → HoldsName at.dir at.name
      laid at f there (inl same) = subst (λ (x : Place). HoldsName x.dir x.name) (sym same) (stands.layout (leases_of sd) moved.0 moved.1)
      laid at f there (inr apart) = stands.layout at f (sym (moved.2.others at apart) ∙ there)
