-- Once an image's sector is freed, the disk stands for the pool with that sector free.
use Rattle.std.proofs.Common.{◌≡◌, ◌≢◌, ◌⊎◌, ℕ, ◌<◌, ◌≤◌, ◌==◌, Bool, true, false, if◌then◌else◌, List, Option, Some, None, refl, sym, ap, subst, ◌∙◌, inl, inr, eq-eqb, arith}
use Rattle.std.proofs.lemmas.Bool.{false≢true}
use Rattle.sd_names.specs.UpSet.{Hosts}
use Rattle.sd_names.specs.declared.id.Id.{Id}
use Rattle.sd_names.specs.declared.place.Dir.{Dir}
use Rattle.sd_names.specs.declared.place.Dir.TheVariants as dir
use Rattle.sd_names.specs.declared.place.Name.{Name}
use Rattle.sd_names.specs.declared.place.Name.TheVariants as name
use Rattle.sd_names.specs.declared.place.Place.{Place}
use Rattle.shared_disk.specs.Changes.{exchanged}
use Rattle.shared_disk.specs.Content.{Content, File}
use Rattle.shared_disk.specs.Crash.{IsAlso, IsSettled}
use Rattle.shared_disk.specs.NameCalls.{place_in}
use Rattle.shared_disk.specs.WellFormed.{IsWellFormed}
use Rattle.shared_disk.proofs.AtPlace.{one_file}
use Rattle.shared_disk.proofs.Toolkit.{exchanged_settled}
use Rattle.folder_layout.specs.Layout.{HoldsName}
use Rattle.domain_meta.specs.declared.record.DomainRecord.{DomainRecord}
use Rattle.lease_area.specs.Hold.{IsMoved, leases_of}
use Rattle.lease_area.specs.Move.{freed}
use Rattle.lease_area.specs.Sector.{IsRecord, IsSector, sector_bytes}
use Rattle.lease_area.specs.declared.sector.Kind.TheVariants as kind
use Rattle.lease_area.specs.declared.sector.LeaseRecord.{LeaseRecord}
use Rattle.lease_area.specs.declared.sector.Sector.{Sector}
use Rattle.lease_area.specs.declared.sector.Sector.TheVariants.{Empty, Lease}
use Rattle.chain_model.specs.Folder.{Folder, folder_of}
use Rattle.chain_model.proofs.Settled.{is_one}
use Rattle.pool_model.specs.ImageStands.{FolderMeans}
use Rattle.pool_model.specs.Laws.{AreAlive, LeavesImage}
use Rattle.pool_model.specs.Leases.{Holds, IsGuest, Leads, NamesAt}
use Rattle.pool_model.specs.Owned.{IsLeasesChange, MayChange, OwnedChange}
use Rattle.pool_model.specs.Pool.{Image, Pool, Torn, at_number}
use Rattle.pool_model.specs.Rules.{IsListed}
use Rattle.pool_model.specs.Standing.{ImageStands, IsAlive, IsHeldFile, IsThere, IsTornBy, IsUnasked, IsVolumeName, LeasesStand, Stands, file_in, lease_sectors}
use Rattle.pool_model.specs.Tasks.{IsMaking, NoneOpen}
use Rattle.pool_model.specs.Verb.{Verb}
use Rattle.pool_model.proofs.Frames.{image_stays}
use Rattle.pool_model.proofs.OneDomain.{listed_here}
use Rattle.pool_model.proofs.Roles.{is_place, one_dom_md, settled_alive}
use Rattle.task_settling.proofs.Emptying.{differs}
use Rattle.task_settling.proofs.Frame.{KeepsDomains, frame}
use Rattle.task_settling.proofs.Owned.{owned_so}
use Rattle.task_settling.proofs.Places.{none_some}
use Rattle.task_settling.proofs.Stable.{one_leader}
use Rattle.sector_freeing.specs.Knowing.{AreSynced}
use Rattle.sector_freeing.proofs.Elsewhere.{by_image, tasks_stay}
use Rattle.sector_freeing.proofs.Liberated.{free_move, here_sectors, holds_stay, lease_was, liberated, named_other, other_sectors, slot_same, still_named, was_named}

own_apart : (sd i m : Id) → dir.Image sd i ≡ dir.DomMd m → ⊥
own_apart sd i m e = cc

removed_apart : (sd i m : Id) → dir.Removed sd i ≡ dir.DomMd m → ⊥
removed_apart sd i m e = cc

tasks_apart : (sd m : Id) → dir.Tasks sd ≡ dir.DomMd m → ⊥
tasks_apart sd m e = cc

one_lease : (s : Sector) (a b : LeaseRecord) → s ≡ Lease a → s ≡ Lease b → a ≡ b
one_lease s a b e f = cc

one_sector : (s : Sector) (a : LeaseRecord) → s ≡ Lease a → IsSector s → IsRecord a
one_sector s a is fits = subst IsSector is fits

guest_or_task : kind.Guest ≡ kind.Task → ⊥
guest_or_task e = cc

-- ---- who holds an image that is held for a task

module _ (up : Hosts) (d : Content) (p : Pool) (sd i : Id) (k : ℕ) (r : LeaseRecord) (x : DomainRecord) (stands : Stands up d p) (listed : p.domain sd ≡ Some x) (names : NamesAt p sd i k r) (held : r.kind ≡ kind.Task) where
  leases_of_it : LeasesStand (p.sector sd) (file_in sd name.Leases d)
  leases_of_it = (listed_here up d p sd x stands listed).leases

  pub no_guest : (h : ℕ) → IsGuest p sd i h → ⊥
  no_guest h (n, (s, y, is, owner)) =
      let same = leases_of_it.once n k s r y.slot names.slot y.lease names.lease (y.image ∙ sym names.image) in
      guest_or_task (sym is ∙ ap (λ (l : LeaseRecord). l.kind) (one_lease (p.sector sd k) s r (subst (λ (m : ℕ). p.sector sd m ≡ Lease s) same y.lease) names.lease) ∙ held)

  -- the manager alone
  pub holder_leads : (h g : ℕ) → Leads p h → Holds p g sd i → g ≡ h
  holder_leads h g lead (inl guest) = absurd (no_guest g guest)
  holder_leads h g lead (inr (other, tasked)) = one_leader p g h other lead

  -- and no write to it was cut
  pub not_torn : (o : Option Torn) → IsTornBy up p sd i o → o ≡ None
  not_torn None torn = refl
  not_torn (Some t) (h, guest, here) = absurd (no_guest h guest)

-- nothing is made or removed where no task is open
pub none_making : (p : Pool) (sd i : Id) → NoneOpen p → IsMaking p sd i → ⊥
none_making p sd i idle (t, (x, opened, step)) = idle t x opened

-- ---- the disk

module _ (h : ℕ) (up : Hosts) (d e : Content) (p : Pool) (sd i : Id) (k : ℕ) (r : LeaseRecord) (stands : Stands up d p) (listed : IsListed p sd) (idle : NoneOpen p) (lead : Leads p h) (names : NamesAt p sd i k r)
    (held : r.kind ≡ kind.Task) (moved : IsMoved d sd k (Lease (freed r)) e) (are : AreSynced h sd i e) (well : IsWellFormed e) where
  abbrev q : Pool
  q = liberated p sd k r

  old : LeasesStand (p.sector sd) (file_in sd name.Leases d)
  old = (listed_here up d p sd listed.0 stands listed.1).leases

  same_old : old.file ≡ moved.0
  same_old = one_file old.file moved.0 (d.file (leases_of sd)) old.there moved.1

  unlisted_apart : (a : Id) → p.domain a ≡ None → a ≢ sd
  unlisted_apart a none same = none_some (p.domain sd) listed.0 (subst (λ (x : Id). p.domain x ≡ None) same none) listed.1

  elsewhere : (at : Dir) (n : Name) → at ≢ dir.DomMd sd → e.file (place_in at n) ≡ d.file (place_in at n)
  elsewhere at n apart = moved.2.others (place_in at n) (λ same. apart (ap (λ (x : Place). x.dir) same))

  -- ---- the leases

  spelled : (t : Bool) (s : Sector) (bytes : List ℕ) → bytes ≡ sector_bytes s → (if t then sector_bytes (Lease (freed r)) else bytes) ≡ sector_bytes (if t then Lease (freed r) else s)
  spelled true s bytes is = refl
  spelled false s bytes is = is

  record_of : IsRecord r
  record_of = one_sector (p.sector sd k) r names.lease (old.fits k)

  fits_by : (t : Bool) (s : Sector) → IsSector s → IsSector (if t then Lease (freed r) else s)
  fits_by true s is = record { owner = refl; version = record_of.version; image = record_of.image }
  fits_by false s is = is

  was : (n : ℕ) (y : LeaseRecord) → at_number (p.sector sd) k (Lease (freed r)) n ≡ Lease y → (z : LeaseRecord) × ((p.sector sd n ≡ Lease z) × (z.image ≡ y.image))
  was n y is = lease_was p sd i k r names sd n y (ap (λ (f : ℕ → Sector). f n) (here_sectors p sd i k r names) ∙ is)

  new_leases : LeasesStand (at_number (p.sector sd) k (Lease (freed r))) (file_in sd name.Leases e)
  new_leases = record {
    file = exchanged k (sector_bytes (Lease (freed r))) moved.0;
    there = moved.2.here;
    settled = exchanged_settled k (sector_bytes (Lease (freed r))) moved.0 (subst (λ (f : File). IsSettled f) same_old old.settled);
    size = subst (λ (f : File). f.size ≡ lease_sectors) same_old old.size;
    each = λ n within. spelled (n == k) (p.sector sd n) (moved.0.stable n) (subst (λ (f : File). f.stable n ≡ sector_bytes (p.sector sd n)) same_old (old.each n within));
    fits = λ n. fits_by (n == k) (p.sector sd n) (old.fits n);
    past = λ n beyond. ap (λ (b : Bool). if b then Lease (freed r) else p.sector sd n) (differs n k (far n k beyond names.slot.high)) ∙ old.past n beyond;
    role = λ x is. old.role x (sym (ap (λ (b : Bool). if b then Lease (freed r) else p.sector sd 0) (differs 0 k (first k names.slot.low))) ∙ is);
    once = λ m n x y at on is so one.
        let before = was m x is in
        let behind = was n y so in
        old.once m n before.0 behind.0 at on before.1.0 behind.1.0 (before.1.1 ∙ one ∙ sym behind.1.1);
    set = λ n x at is zeros. let before = was n x is in old.set n before.0 at before.1.0 (before.1.1 ∙ zeros);
  }
    where
      far : (n k : ℕ) → 1024 ≤ n → k < 1024 → n ≢ k
      far n k beyond high same = omega (arith, beyond, high, same)

      first : (k : ℕ) → 0 < k → 0 ≢ k
      first k low same = omega (arith, low, same)

  leases_stand : (a : Id) (x : DomainRecord) → p.domain a ≡ Some x → LeasesStand (q.sector a) (file_in a name.Leases e)
  leases_stand a x is = go (is_one a sd)
    where
      go : (a ≡ sd) ⊎ (a ≢ sd) → LeasesStand (q.sector a) (file_in a name.Leases e)
      go (inl same) = subst (λ (b : Id). LeasesStand (q.sector b) (file_in b name.Leases e)) (sym same)
          (subst (λ (s : ℕ → Sector). LeasesStand s (file_in sd name.Leases e)) (sym (here_sectors p sd i k r names)) new_leases)
      go (inr apart) = subst (λ (s : ℕ → Sector). LeasesStand s (file_in a name.Leases e)) (sym (other_sectors p sd i k r names a apart))
          (subst (λ (o : Option File). LeasesStand (p.sector a) o) (sym (elsewhere (dir.DomMd a) name.Leases (λ same. apart (one_dom_md a sd same)))) (listed_here up d p a x stands is).leases)

  domains_kept : KeepsDomains d e p q.sector q.image
  domains_kept = record {
    md = λ a n other. moved.2.others (place_in (dir.DomMd a) n) (λ same. other (ap (λ (x : Place). x.name) same));
    dirs = λ at _ _. moved.2.dirs at;
    leases = leases_stand;
    unlisted = λ a none. record {
      leases = elsewhere (dir.DomMd a) name.Leases (λ same. unlisted_apart a none (one_dom_md a sd same));
      sector = λ n. slot_same p sd i k r names a n (λ same _. unlisted_apart a none same);
      image = λ j. refl;
      own = λ j. moved.2.dirs (dir.Image a j);
      removed = λ j. moved.2.dirs (dir.Removed a j);
    };
  }

  -- ---- images

  leaves : (a j : Id) → ((a ≡ sd) → (j ≡ i) → ⊥) → LeavesImage up d e p q a j
  leaves a j other = record {
    image = refl;
    folder = moved.2.dirs (dir.Image a j);
    removed = moved.2.dirs (dir.Removed a j);
    files = λ n. elsewhere (dir.Image a j) n (own_apart a j sd);
    removed_files = λ n. elsewhere (dir.Removed a j) n (removed_apart a j sd);
    named = named_other p sd i k r names a j other;
    was_named = was_named p sd i k r names a j other;
    making = λ x. x;
    was_making = λ x. x;
    holds = λ g alive x. holds_stay p sd i k r names a j other g x;
  }

  making_was : (a j : Id) → IsMaking q a j → IsMaking p a j
  making_was a j x = x

  there_still : (version : ℕ) (m : Image) → IsThere up d p sd version i m → IsThere up e q sd version i m
  there_still version m x = record {
    image = x.image;
    folder = moved.2.dirs (dir.Image sd i) ∙ x.folder;
    removed = moved.2.dirs (dir.Removed sd i) ∙ x.removed;
    means = subst (λ (F : Folder). FolderMeans (record { domain = sd; id = i; version = version }) m F) (sym same) x.means;
    texts = λ v f is. let text = x.texts v f (sym (file (name.Volume v)) ∙ is) in (text.0, file (name.Meta v) ∙ text.1);
    zeros = λ n f zero is. x.zeros n f zero (sym (file n) ∙ is);
    torn = subst (λ (o : Option Torn). IsTornBy up q sd i o) (sym (not_torn up d p sd i k r listed.0 stands listed.1 names held m.torn x.torn)) tt;
  }
    where
      file : (n : Name) → e.file (place_in (dir.Image sd i) n) ≡ d.file (place_in (dir.Image sd i) n)
      file n = elsewhere (dir.Image sd i) n (own_apart sd i sd)

      same : folder_of (dir.Image sd i) e ≡ folder_of (dir.Image sd i) d
      same j n = file n j

  this_image : (version : ℕ) → ImageStands up d p sd version i → ImageStands up e q sd version i
  this_image version x = record {
    gone = λ none. absurd (none (still_named p sd i k r names).0 (still_named p sd i k r names).1.0 (still_named p sd i k r names).1.1);
    there = λ is not_made. let here = x.there (k, (r, names)) (none_making p sd i idle) in (here.0, there_still version here.0 here.1);
    making = λ made. absurd (none_making p sd i idle (making_was sd i made));
    held = λ n f is at. held_now n f is at;
  }
    where
      here : (m : Image) × IsThere up d p sd version i m
      here = x.there (k, (r, names)) (none_making p sd i idle)

      -- whoever has something unsynced in it is the manager, who has not
      nobody : (g : ℕ) → Holds p g sd i → g ≡ h
      nobody g holds = holder_leads up d p sd i k r listed.0 stands listed.1 names held h g lead holds

      own : (n : Name) (f : File) → IsVolumeName n → e.file (place_in (dir.Image sd i) n) ≡ Some f → IsHeldFile q sd i f
      own n f is at =
          let was_held = x.held n f is (inl (sym (elsewhere (dir.Image sd i) n (own_apart sd i sd)) ∙ at)) in
          let settled = are n f at in
          record {
            loose = λ l among. absurd (settled.loose l among (nobody l.host (was_held.loose l among)));
            fresh = λ g made. absurd (settled.fresh (made ∙ ap (λ (a : ℕ). Some a) (nobody g (was_held.fresh g made))));
          }

      held_now : (n : Name) (f : File) → IsVolumeName n → (e.file (place_in (dir.Image sd i) n) ≡ Some f) ⊎ (e.file (place_in (dir.Removed sd i) n) ≡ Some f) → IsHeldFile q sd i f
      held_now n f is (inl at) = own n f is at
      held_now n f is (inr at) = absurd (false≢true (sym (moved.2.dirs (dir.Removed sd i) ∙ here.1.removed) ∙ well.folders (place_in (dir.Removed sd i) n) f at))

  image_stands : (a : Id) (x : DomainRecord) → p.domain a ≡ Some x → (j : Id) → ImageStands up e q a x.version j
  image_stands a x is j = by_image sd i (λ b l. ImageStands up d p b x.version l → ImageStands up e q b x.version l) a j (this_image x.version)
      (λ other. image_stays up d e p q a j x.version stands.alive (leaves a j other)) (stands.image a x is j)

  unasked_stays : (a : Id) (x : DomainRecord) → p.domain a ≡ Some x → (j : Id) → IsUnasked q a j
  unasked_stays a x is j = record { none = λ m v fault not_made there. (stands.unasked a x is j).none m v fault not_made there }

  alive_stays : AreAlive up e
  alive_stays at f there = go (is_place at (leases_of sd))
    where
      go : (at ≡ leases_of sd) ⊎ (at ≢ leases_of sd) → IsAlive up f
      go (inl same) = subst (λ (x : File). IsAlive up x)
          (one_file new_leases.file f (e.file (leases_of sd)) new_leases.there (subst (λ (x : Place). e.file x ≡ Some f) same there)) (settled_alive up new_leases.file new_leases.settled)
      go (inr apart) = stands.alive at f (sym (moved.2.others at apart) ∙ there)

  pub freeing_stands : Stands up e (liberated p sd k r)
  freeing_stands = frame up d e p q.sector q.image p.task stands domains_kept (tasks_stay d e (λ a t. elsewhere (dir.Tasks a) (name.Task t) (tasks_apart a sd)) p q.sector stands.tasks) image_stands unasked_stays alive_stays
      (λ at f there. laid at f there (is_place at (leases_of sd)))
    where
      laid : (at : Place) (f : File) → e.file at ≡ Some f → (at ≡ leases_of sd) ⊎ (at ≢ leases_of sd) → HoldsName at.dir at.name
      laid at f there (inl same) = subst (λ (x : Place). HoldsName x.dir x.name) (sym same) (stands.layout (leases_of sd) moved.0 moved.1)
      laid at f there (inr apart) = stands.layout at f (sym (moved.2.others at apart) ∙ there)

  -- ---- what is owned

  pub freeing_owned : (v : Verb) → OwnedChange h up v p d e
  freeing_owned v = owned_so up d e p q.sector q.image stands domains_kept h v (λ at. changed at (is_place at (leases_of sd))) (λ at. inl (moved.2.dirs at))
    where
      change : IsLeasesChange h up p sd moved.0 (exchanged k (sector_bytes (Lease (freed r))) moved.0)
      change = record {
        at = k;
        settled = exchanged_settled k (sector_bytes (Lease (freed r))) moved.0 (subst (λ (f : File). IsSettled f) same_old old.settled);
        size = refl;
        here = record {
          new = Lease (freed r);
          spm = true;
          leads = λ _. lead;
          move = free_move p sd i k r names held up h;
          fresh = λ x slot empty no. absurd (no_lease (p.sector sd k) empty names.lease);
          is = rw (eq-eqb k k refl) refl;
        };
        others = λ n other. ap (λ (b : Bool). if b then sector_bytes (Lease (freed r)) else moved.0.stable n) (differs n k other);
      }
        where
          no_lease : (s : Sector) → s ≡ Empty → s ≡ Lease r → ⊥
          no_lease s is so = cc

      also : (a b : Option File) (f g : File) → a ≡ Some f → b ≡ Some g → IsLeasesChange h up p sd f g → IsAlso (IsLeasesChange h up p sd) a b
      also a b f g before now it =
          subst (λ (o : Option File). IsAlso (IsLeasesChange h up p sd) o b) (sym before)
          (subst (λ (o : Option File). IsAlso (IsLeasesChange h up p sd) (Some f) o) (sym now) it)

      changed : (at : Place) → (at ≡ leases_of sd) ⊎ (at ≢ leases_of sd) → (e.file at ≡ d.file at) ⊎ MayChange h up v p at.dir at.name (d.file at) (e.file at)
      changed at (inl same) = inr (subst (λ (x : Place). MayChange h up v p x.dir x.name (d.file x) (e.file x)) (sym same)
          (inl (listed, also (d.file (leases_of sd)) (e.file (leases_of sd)) moved.0 _ moved.1 moved.2.here change)))
      changed at (inr apart) = inl (moved.2.others at apart)
