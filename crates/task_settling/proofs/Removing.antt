-- While the files go of an image that an open task makes or removes, the disk stands for the same pool.
use Rattle.std.proofs.Common.{◌≡◌, ◌≢◌, ◌⊎◌, ℕ, Option, Some, None, refl, sym, subst, ◌∙◌, inl, inr}
use Rattle.sd_names.specs.UpSet.{Hosts}
use Rattle.sd_names.specs.declared.id.Id.{Id}
use Rattle.sd_names.specs.declared.place.Dir.TheVariants as dir
use Rattle.sd_names.specs.declared.place.Name.{Name}
use Rattle.sd_names.specs.declared.place.Name.TheVariants as name
use Rattle.sd_names.specs.declared.place.Place.{Place}
use Rattle.shared_disk.specs.Content.{Content, File}
use Rattle.shared_disk.specs.NameCalls.{place_in}
use Rattle.folder_layout.specs.Layout.{HoldsName}
use Rattle.domain_meta.specs.declared.record.DomainRecord.{DomainRecord}
use Rattle.task_store.specs.declared.task.Task.{Task}
use Rattle.lease_area.specs.Hold.{leases_of}
use Rattle.chain_model.proofs.Settled.{is_one}
use Rattle.image_clearing.specs.Steps.{IsApart}
use Rattle.pool_model.specs.Laws.{AreAlive, LeavesImage}
use Rattle.pool_model.specs.Leases.{IsNamed}
use Rattle.pool_model.specs.Pool.{Pool}
use Rattle.pool_model.specs.Standing.{ImageStands, IsAlive, IsHeldFile, IsVolumeName, LeasesStand, Stands, TaskAt, TasksStand}
use Rattle.pool_model.specs.Tasks.{IsMaking}
use Rattle.pool_model.proofs.Frames.{image_stays}
use Rattle.pool_model.proofs.OneDomain.{listed_here}
use Rattle.pool_model.proofs.Roles.{is_place}
use Rattle.task_settling.proofs.Frame.{KeepsDomains, frame}
use Rattle.task_settling.proofs.Places.{none_some, still_holds, stood_at}

one_image : (a b i j : Id) → dir.Image a i ≡ dir.Image b j → (a ≡ b) × (i ≡ j)
one_image a b i j e = (cc, cc)

one_removed : (a b i j : Id) → dir.Removed a i ≡ dir.Removed b j → (a ≡ b) × (i ≡ j)
one_removed a b i j e = (cc, cc)

own_not_removed : (a b i j : Id) → dir.Image a i ≡ dir.Removed b j → ⊥
own_not_removed a b i j e = cc

removed_not_own : (a b i j : Id) → dir.Removed a i ≡ dir.Image b j → ⊥
removed_not_own a b i j e = cc

md_not_own : (a b i : Id) → dir.DomMd a ≡ dir.Image b i → ⊥
md_not_own a b i e = cc

md_not_removed : (a b i : Id) → dir.DomMd a ≡ dir.Removed b i → ⊥
md_not_removed a b i e = cc

tasks_not_own : (a b i : Id) → dir.Tasks a ≡ dir.Image b i → ⊥
tasks_not_own a b i e = cc

tasks_not_removed : (a b i : Id) → dir.Tasks a ≡ dir.Removed b i → ⊥
tasks_not_removed a b i e = cc

module _ (up : Hosts) (d e : Content) (p : Pool) (sd i : Id) (stands : Stands up d p) (making : IsMaking p sd i) (named : IsNamed p sd i) (apart : IsApart sd i d e)
    (leases : e.file (leases_of sd) ≡ d.file (leases_of sd)) where
  listed : (r : DomainRecord) × (p.domain sd ≡ Some r)
  listed = stands.tasks.inside sd i making

  outside : (at : Place) → at.dir ≢ dir.Image sd i → at.dir ≢ dir.Removed sd i → e.file at ≡ d.file at
  outside at own removed = go (is_place at (leases_of sd))
    where
      go : (at ≡ leases_of sd) ⊎ (at ≢ leases_of sd) → e.file at ≡ d.file at
      go (inl same) = subst (λ (x : Place). e.file x ≡ d.file x) (sym same) leases
      go (inr other) = apart.files at own removed other

  unlisted_apart : (a : Id) → p.domain a ≡ None → a ≢ sd
  unlisted_apart a none same = none_some (p.domain sd) listed.0 (subst (λ (x : Id). p.domain x ≡ None) same none) listed.1

  pub domains_kept : KeepsDomains d e p p.sector p.image
  domains_kept = record {
    md = λ a n _. outside (place_in (dir.DomMd a) n) (md_not_own a sd i) (md_not_removed a sd i);
    dirs = λ at own removed. apart.dirs at (own sd i) (removed sd i);
    leases = λ a r is. subst (λ (o : Option File). LeasesStand (p.sector a) o)
        (sym (outside (place_in (dir.DomMd a) name.Leases) (md_not_own a sd i) (md_not_removed a sd i))) (listed_here up d p a r stands is).leases;
    unlisted = λ a none. record {
      leases = outside (place_in (dir.DomMd a) name.Leases) (md_not_own a sd i) (md_not_removed a sd i);
      sector = λ k. refl;
      image = λ j. refl;
      own = λ j. apart.dirs (dir.Image a j) (λ same. unlisted_apart a none (one_image a sd j i same).0) (own_not_removed a sd j i);
      removed = λ j. apart.dirs (dir.Removed a j) (removed_not_own a sd j i) (λ same. unlisted_apart a none (one_removed a sd j i same).0);
    };
  }

  -- tasks
  task_same : (a t : Id) → e.file (place_in (dir.Tasks a) (name.Task t)) ≡ d.file (place_in (dir.Tasks a) (name.Task t))
  task_same a t = outside (place_in (dir.Tasks a) (name.Task t)) (tasks_not_own a sd i) (tasks_not_removed a sd i)

  task_stays : (a t : Id) (o : Option Task) → TaskAt d a t o → TaskAt e a t o
  task_stays a t None x = task_same a t ∙ x
  task_stays a t (Some y) x = record {
    text = x.text;
    stored = record { file = x.stored.file; there = task_same a t ∙ x.stored.there; settled = x.stored.settled; stored = x.stored.stored };
    short = x.short;
    reads = x.reads;
  }

  tasks_stay : TasksStand d p → TasksStand e p
  tasks_stay x = record {
    each = λ a t is. task_stays a t (p.task t) (x.each a t is);
    elsewhere = λ a t other. task_same a t ∙ x.elsewhere a t other;
    unmade = x.unmade;
    listed = x.listed;
    are = x.are;
    few = x.few;
    one = x.one;
    built = x.built;
    inside = x.inside;
  }

  -- images
  leaves : (a j : Id) → ((a ≡ sd) → (j ≡ i) → ⊥) → LeavesImage up d e p p a j
  leaves a j other = record {
    image = refl;
    folder = apart.dirs (dir.Image a j) (λ same. let is = one_image a sd j i same in other is.0 is.1) (own_not_removed a sd j i);
    removed = apart.dirs (dir.Removed a j) (removed_not_own a sd j i) (λ same. let is = one_removed a sd j i same in other is.0 is.1);
    files = λ n. outside (place_in (dir.Image a j) n) (λ same. let is = one_image a sd j i same in other is.0 is.1) (own_not_removed a sd j i);
    removed_files = λ n. outside (place_in (dir.Removed a j) n) (removed_not_own a sd j i) (λ same. let is = one_removed a sd j i same in other is.0 is.1);
    named = λ k r x. x;
    was_named = λ k r x. x;
    making = λ x. x;
    was_making = λ x. x;
    holds = λ h alive x. x;
  }

  -- of the image itself its sector is claimed, and whose unsynced writes its files have
  this_image : (version : ℕ) → ImageStands up d p sd version i → ImageStands up e p sd version i
  this_image version x = record {
    gone = λ none. absurd (none named.0 named.1.0 named.1.1);
    there = λ is idle. absurd (idle making);
    making = x.making;
    held = λ n f is at. held n f is at;
  }
    where
      held : (n : Name) (f : File) → IsVolumeName n → (e.file (place_in (dir.Image sd i) n) ≡ Some f) ⊎ (e.file (place_in (dir.Removed sd i) n) ≡ Some f) → IsHeldFile p sd i f
      held n f is (inl at) = own (apart.own n)
        where
          own : (e.file (place_in (dir.Image sd i) n) ≡ d.file (place_in (dir.Image sd i) n)) ⊎ (e.file (place_in (dir.Image sd i) n) ≡ None) → IsHeldFile p sd i f
          own (inl same) = x.held n f is (inl (sym same ∙ at))
          own (inr none) = absurd (none_some (e.file (place_in (dir.Image sd i) n)) f none at)
      held n f is (inr at) = removed (apart.removed n)
        where
          removed : (e.file (place_in (dir.Removed sd i) n) ≡ d.file (place_in (dir.Removed sd i) n))
              ⊎ ((e.file (place_in (dir.Removed sd i) n) ≡ None) ⊎ (e.file (place_in (dir.Removed sd i) n) ≡ d.file (place_in (dir.Image sd i) n))) → IsHeldFile p sd i f
          removed (inl same) = x.held n f is (inr (sym same ∙ at))
          removed (inr (inl none)) = absurd (none_some (e.file (place_in (dir.Removed sd i) n)) f none at)
          removed (inr (inr moved)) = x.held n f is (inl (sym moved ∙ at))

  image_stands : (a : Id) (r : DomainRecord) → p.domain a ≡ Some r → (j : Id) → ImageStands up e p a r.version j
  image_stands a r is j = go (is_one a sd) (is_one j i)
    where
      other : ((a ≡ sd) → (j ≡ i) → ⊥) → ImageStands up e p a r.version j
      other apart_is = image_stays up d e p p a j r.version stands.alive (leaves a j apart_is) (stands.image a r is j)

      go : (a ≡ sd) ⊎ (a ≢ sd) → (j ≡ i) ⊎ (j ≢ i) → ImageStands up e p a r.version j
      go (inr unlike) one = other (λ same _. unlike same)
      go (inl same) (inr unlike) = other (λ _ alike. unlike alike)
      go (inl same) (inl alike) =
          subst (λ (b : Id). ImageStands up e p b r.version j) (sym same)
          (subst (λ (b : Id). ImageStands up e p sd r.version b) (sym alike)
          (this_image r.version (subst (λ (b : Id). ImageStands up d p sd r.version b) alike (subst (λ (b : Id). ImageStands up d p b r.version j) same (stands.image a r is j)))))

  was_there : (at : Place) (f : File) → at ≡ leases_of sd → e.file at ≡ Some f → d.file at ≡ Some f
  was_there at f same there = sym (subst (λ (x : Place). e.file x ≡ d.file x) (sym same) leases) ∙ there

  alive_stays : AreAlive up e
  alive_stays at f there = go (is_place at (leases_of sd))
    where
      go : (at ≡ leases_of sd) ⊎ (at ≢ leases_of sd) → IsAlive up f
      go (inl same) = stands.alive at f (was_there at f same there)
      go (inr other) = let stood = stood_at sd i d e apart at f other there in stands.alive stood.was f stood.there

  pub removing_stands : Stands up e p
  removing_stands = frame up d e p p.sector p.image p.task stands domains_kept (tasks_stay stands.tasks) image_stands (λ a r is j. stands.unasked a r is j) alive_stays laid
    where
      laid : (at : Place) (f : File) → e.file at ≡ Some f → HoldsName at.dir at.name
      laid at f there = go (is_place at (leases_of sd))
        where
          go : (at ≡ leases_of sd) ⊎ (at ≢ leases_of sd) → HoldsName at.dir at.name
          go (inl same) = stands.layout at f (was_there at f same there)
          go (inr other) = let stood = stood_at sd i d e apart at f other there in still_holds sd i at f d stood (stands.layout stood.was f stood.there)
