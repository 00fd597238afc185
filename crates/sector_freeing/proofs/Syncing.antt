-- While a file of an image is synced that is held for a task, the disk stands for the same pool.
use Rattle.std.proofs.Common.{◌≡◌, ◌≢◌, ◌⊎◌, ℕ, Option, Some, None, refl, sym, ap, subst, ◌∙◌, inl, inr}
use Rattle.sd_names.specs.UpSet.{Hosts}
use Rattle.sd_names.specs.declared.id.Id.{Id}
use Rattle.sd_names.specs.declared.place.Dir.TheVariants as dir
use Rattle.sd_names.specs.declared.place.Name.{Name}
use Rattle.sd_names.specs.declared.place.Name.TheVariants as name
use Rattle.sd_names.specs.declared.place.Place.{Place}
use Rattle.shared_disk.specs.Calls.{IsPut, synced}
use Rattle.shared_disk.specs.Content.{Content, File}
use Rattle.shared_disk.specs.Crash.{IsAlso, IsFileOutcome}
use Rattle.shared_disk.specs.NameCalls.{place_in}
use Rattle.shared_disk.proofs.AtPlace.{one_file}
use Rattle.shared_disk.proofs.Outcomes.{synced_file, unless_some, without_among}
use Rattle.folder_layout.specs.Layout.{HoldsName}
use Rattle.domain_meta.specs.declared.record.DomainRecord.{DomainRecord}
use Rattle.chain_model.specs.Folder.{Folder, IsFolderOutcome, folder_of}
use Rattle.pool_model.specs.Laws.{AreAlive, LeavesImage}
use Rattle.pool_model.specs.Leases.{Holds, IsNamed}
use Rattle.pool_model.specs.Owned.{MayChange, OwnedChange}
use Rattle.pool_model.specs.Pool.{Image, Pool}
use Rattle.pool_model.specs.Rules.{IsListed}
use Rattle.pool_model.specs.Standing.{ImageStands, IsAlive, IsHeldFile, IsThere, IsVolumeName, LeasesStand, Stands}
use Rattle.pool_model.specs.Verb.{Verb}
use Rattle.pool_model.proofs.Frames.{image_stays}
use Rattle.pool_model.proofs.OneDomain.{listed_here}
use Rattle.pool_model.proofs.Roles.{is_place}
use Rattle.task_settling.proofs.Frame.{KeepsDomains, frame}
use Rattle.task_settling.proofs.Owned.{may_own, owned_so}
use Rattle.task_settling.proofs.Places.{none_some}
use Rattle.sector_freeing.proofs.Elsewhere.{by_image, tasks_stay}
use Rattle.sector_freeing.proofs.Files.{shown_before}

md_not_own : (a b i : Id) → dir.DomMd a ≡ dir.Image b i → ⊥
md_not_own a b i e = cc

tasks_not_own : (a b i : Id) → dir.Tasks a ≡ dir.Image b i → ⊥
tasks_not_own a b i e = cc

removed_not_own : (a j b i : Id) → dir.Removed a j ≡ dir.Image b i → ⊥
removed_not_own a j b i e = cc

one_image : (a b j i : Id) → dir.Image a j ≡ dir.Image b i → (a ≡ b) × (j ≡ i)
one_image a b j i e = (cc, cc)

-- a file that is synced is the same for whoever has something unsynced in it still
alive_synced : (up : Hosts) (h : ℕ) (f : File) → IsAlive up f → IsAlive up (synced h f)
alive_synced up h f x = record { loose = λ l among. x.loose l (without_among h f.loose l among); fresh = λ g made. x.fresh g (unless_some h g f.fresh made) }

held_synced : (p : Pool) (sd i : Id) (h : ℕ) (f : File) → IsHeldFile p sd i f → IsHeldFile p sd i (synced h f)
held_synced p sd i h f x = record { loose = λ l among. x.loose l (without_among h f.loose l among); fresh = λ g made. x.fresh g (unless_some h g f.fresh made) }

module _ (h : ℕ) (up : Hosts) (d e : Content) (p : Pool) (sd i : Id) (n : Name) (f : File) (stands : Stands up d p) (listed : IsListed p sd) (named : IsNamed p sd i) (was : d.file (place_in (dir.Image sd i) n) ≡ Some f)
    (put : IsPut d (place_in (dir.Image sd i) n) (Some (synced h f)) e) where
  abbrev here : Place
  here = place_in (dir.Image sd i) n

  outside : (at : Place) → at.dir ≢ dir.Image sd i → e.file at ≡ d.file at
  outside at apart = put.others at (λ same. apart (ap (λ (x : Place). x.dir) same))

  unlisted_apart : (a : Id) → p.domain a ≡ None → a ≢ sd
  unlisted_apart a none same = none_some (p.domain sd) listed.0 (subst (λ (x : Id). p.domain x ≡ None) same none) listed.1

  domains_kept : KeepsDomains d e p p.sector p.image
  domains_kept = record {
    md = λ a m _. outside (place_in (dir.DomMd a) m) (md_not_own a sd i);
    dirs = λ at _ _. put.dirs at;
    leases = λ a r is. subst (λ (o : Option File). LeasesStand (p.sector a) o) (sym (outside (place_in (dir.DomMd a) name.Leases) (md_not_own a sd i))) (listed_here up d p a r stands is).leases;
    unlisted = λ a none. record {
      leases = outside (place_in (dir.DomMd a) name.Leases) (md_not_own a sd i);
      sector = λ k. refl;
      image = λ j. refl;
      own = λ j. put.dirs (dir.Image a j);
      removed = λ j. put.dirs (dir.Removed a j);
    };
  }

  -- ---- tasks

  task_same : (a t : Id) → e.file (place_in (dir.Tasks a) (name.Task t)) ≡ d.file (place_in (dir.Tasks a) (name.Task t))
  task_same a t = outside (place_in (dir.Tasks a) (name.Task t)) (tasks_not_own a sd i)

  -- ---- the image's files

  -- each one is as it was, or it is the one that was synced
  file_was : (at : Place) (g : File) → e.file at ≡ Some g → (d.file at ≡ Some g) ⊎ ((at ≡ here) × (g ≡ synced h f))
  file_was at g there = go (is_place at here)
    where
      go : (at ≡ here) ⊎ (at ≢ here) → (d.file at ≡ Some g) ⊎ ((at ≡ here) × (g ≡ synced h f))
      go (inl same) = inr (same, one_file g (synced h f) (e.file here) (subst (λ (x : Place). e.file x ≡ Some g) same there) put.here)
      go (inr apart) = inl (sym (put.others at apart) ∙ there)

  still_there : (at : Place) (g : File) → d.file at ≡ Some g → (x : File) × (e.file at ≡ Some x)
  still_there at g there = go (is_place at here)
    where
      go : (at ≡ here) ⊎ (at ≢ here) → (x : File) × (e.file at ≡ Some x)
      go (inl same) = (synced h f, ap (λ (x : Place). e.file x) same ∙ put.here)
      go (inr apart) = (g, put.others at apart ∙ there)

  -- no outcome of the folder is new
  outcome_was : (G : Folder) → IsFolderOutcome (folder_of (dir.Image sd i) e) G → IsFolderOutcome (folder_of (dir.Image sd i) d) G
  outcome_was G out m = go (is_place (place_in (dir.Image sd i) m) here)
    where
      one : (o : Option File) → IsAlso IsFileOutcome (Some (synced h f)) o → IsAlso IsFileOutcome (Some f) o
      one None w = w
      one (Some g) w = synced_file h f g w

      go : (place_in (dir.Image sd i) m ≡ here) ⊎ (place_in (dir.Image sd i) m ≢ here) → IsAlso IsFileOutcome (d.file (place_in (dir.Image sd i) m)) (G m)
      go (inl same) =
          let now : e.file (place_in (dir.Image sd i) m) ≡ Some (synced h f) = ap (λ (x : Place). e.file x) same ∙ put.here in
          let before : d.file (place_in (dir.Image sd i) m) ≡ Some f = ap (λ (x : Place). d.file x) same ∙ was in
          subst (λ (o : Option File). IsAlso IsFileOutcome o (G m)) (sym before) (one (G m) (subst (λ (o : Option File). IsAlso IsFileOutcome o (G m)) now (out m)))
      go (inr apart) = subst (λ (o : Option File). IsAlso IsFileOutcome o (G m)) (put.others (place_in (dir.Image sd i) m) apart) (out m)

  there_still : (version : ℕ) (m : Image) → IsThere up d p sd version i m → IsThere up e p sd version i m
  there_still version m x = record {
    image = x.image;
    folder = put.dirs (dir.Image sd i) ∙ x.folder;
    removed = put.dirs (dir.Removed sd i) ∙ x.removed;
    means = λ G out. x.means G (outcome_was G out);
    texts = λ v g is.
        let before = shown_before d e here (place_in (dir.Image sd i) (name.Volume v)) f (synced h f) g was put is in
        let text = x.texts v before.0 before.1 in
        still_there (place_in (dir.Image sd i) (name.Meta v)) text.0 text.1;
    zeros = λ m g zero is. let before = shown_before d e here (place_in (dir.Image sd i) m) f (synced h f) g was put is in x.zeros m before.0 zero before.1;
    torn = x.torn;
  }

  this_image : (version : ℕ) → ImageStands up d p sd version i → ImageStands up e p sd version i
  this_image version x = record {
    gone = λ none. absurd (none named.0 named.1.0 named.1.1);
    there = λ is idle. let there = x.there is idle in (there.0, there_still version there.0 there.1);
    making = x.making;
    held = λ m g is at. held m g is at;
  }
    where
      held : (m : Name) (g : File) → IsVolumeName m → (e.file (place_in (dir.Image sd i) m) ≡ Some g) ⊎ (e.file (place_in (dir.Removed sd i) m) ≡ Some g) → IsHeldFile p sd i g
      held m g is (inr at) = x.held m g is (inr (sym (outside (place_in (dir.Removed sd i) m) (removed_not_own sd i sd i)) ∙ at))
      held m g is (inl at) = own (file_was (place_in (dir.Image sd i) m) g at)
        where
          own : (d.file (place_in (dir.Image sd i) m) ≡ Some g) ⊎ ((place_in (dir.Image sd i) m ≡ here) × (g ≡ synced h f)) → IsHeldFile p sd i g
          own (inl before) = x.held m g is (inl before)
          own (inr (same, now)) =
              subst (λ (z : File). IsHeldFile p sd i z) (sym now) (held_synced p sd i h f (x.held m f is (inl (ap (λ (z : Place). d.file z) same ∙ was))))

  leaves : (a j : Id) → ((a ≡ sd) → (j ≡ i) → ⊥) → LeavesImage up d e p p a j
  leaves a j other = record {
    image = refl;
    folder = put.dirs (dir.Image a j);
    removed = put.dirs (dir.Removed a j);
    files = λ m. outside (place_in (dir.Image a j) m) (λ same. let is = one_image a sd j i same in other is.0 is.1);
    removed_files = λ m. outside (place_in (dir.Removed a j) m) (removed_not_own a j sd i);
    named = λ k r x. x;
    was_named = λ k r x. x;
    making = λ x. x;
    was_making = λ x. x;
    holds = λ g alive x. x;
  }

  image_stands : (a : Id) (r : DomainRecord) → p.domain a ≡ Some r → (j : Id) → ImageStands up e p a r.version j
  image_stands a r is j = by_image sd i (λ b l. ImageStands up d p b r.version l → ImageStands up e p b r.version l) a j (this_image r.version)
      (λ other. image_stays up d e p p a j r.version stands.alive (leaves a j other)) (stands.image a r is j)

  alive_stays : AreAlive up e
  alive_stays at g there = go (file_was at g there)
    where
      go : (d.file at ≡ Some g) ⊎ ((at ≡ here) × (g ≡ synced h f)) → IsAlive up g
      go (inl before) = stands.alive at g before
      go (inr (same, now)) = subst (λ (z : File). IsAlive up z) (sym now) (alive_synced up h f (stands.alive here f was))

  pub syncing_stands : Stands up e p
  syncing_stands = frame up d e p p.sector p.image p.task stands domains_kept (tasks_stay d e task_same p p.sector stands.tasks) image_stands (λ a r is j. stands.unasked a r is j) alive_stays laid
    where
      laid : (at : Place) (g : File) → e.file at ≡ Some g → HoldsName at.dir at.name
      laid at g there = let before = shown_before d e here at f (synced h f) g was put there in stands.layout at before.0 before.1

  pub syncing_owned : (v : Verb) → Holds p h sd i → OwnedChange h up v p d e
  syncing_owned v held = owned_so up d e p p.sector p.image stands domains_kept h v (λ at. changed at (is_place at here)) (λ at. inl (put.dirs at))
    where
      changed : (at : Place) → (at ≡ here) ⊎ (at ≢ here) → (e.file at ≡ d.file at) ⊎ MayChange h up v p at.dir at.name (d.file at) (e.file at)
      changed at (inl same) = inr (subst (λ (x : Place). MayChange h up v p x.dir x.name (d.file x) (e.file x)) (sym same) (may_own h p sd i n (d.file here) (e.file here) held))
      changed at (inr apart) = inl (put.others at apart)
