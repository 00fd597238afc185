-- A settling changes only what the manager may, of the disk and of the pool.
use Rattle.std.proofs.Common.{◌≡◌, ◌≢◌, ◌⊎◌, ℕ, ◌==◌, Bool, true, false, if◌then◌else◌, Option, Some, Ok, eq-eqb, refl, sym, ap, subst, ◌∙◌, inl, inr}
use Rattle.std.proofs.lemmas.Bool.{eqb-true, false≢true}
use Rattle.std.specs.Prelude.{Contains, MatchBool}
use Rattle.sd_names.specs.UpSet.{Hosts}
use Rattle.sd_names.specs.declared.id.Id.{Id}
use Rattle.sd_names.specs.declared.place.Dir.{Dir}
use Rattle.sd_names.specs.declared.place.Dir.TheVariants as dir
use Rattle.sd_names.specs.declared.place.Name.{Name}
use Rattle.sd_names.specs.declared.place.Name.TheVariants as name
use Rattle.sd_names.specs.declared.place.Place.{Place}
use Rattle.shared_disk.specs.Changes.{exchanged}
use Rattle.shared_disk.specs.Content.{Content, File}
use Rattle.shared_disk.specs.Crash.{IsAlso, IsSettled}
use Rattle.shared_disk.specs.NameCalls.{place_in}
use Rattle.shared_disk.proofs.AtPlace.{one_file}
use Rattle.shared_disk.proofs.Toolkit.{exchanged_settled}
use Rattle.domain_meta.specs.declared.record.DomainRecord.{DomainRecord}
use Rattle.task_store.specs.declared.task.Task.{Task}
use Rattle.task_files.specs.TaskFile.{task_place, volatile_place}
use Rattle.whole_file.specs.Replace.{IsApart as IsTextApart}
use Rattle.lease_area.specs.Hold.{IsMoved, leases_of}
use Rattle.lease_area.specs.Move.{IsFreed, IsTaken, LeaseMove, RoleMove, TaskMove}
use Rattle.lease_area.specs.Sector.{sector_bytes}
use Rattle.lease_area.specs.declared.sector.Kind.TheVariants as kind
use Rattle.lease_area.specs.declared.sector.LeaseRecord.{LeaseRecord}
use Rattle.lease_area.specs.declared.sector.Sector.{Sector}
use Rattle.lease_area.specs.declared.sector.Sector.TheVariants.{Empty, Lease}
use Rattle.chain_model.proofs.Settled.{is_one}
use Rattle.image_clearing.specs.Steps.{IsApart}
use Rattle.pool_model.specs.Leases.{Holds, Leads, NamesAt}
use Rattle.pool_model.specs.Owned.{AlsoLonger, IsLeasesChange, MayChange, MayChangeDir, MayChangeImage, OwnedChange, OwnedPool, OwnedSector}
use Rattle.pool_model.specs.Pool.{Image, Pool, put_task}
use Rattle.pool_model.specs.Rules.{IsListed}
use Rattle.pool_model.specs.Standing.{LeasesStand, Stands, file_in}
use Rattle.pool_model.specs.Verb.{Verb}
use Rattle.pool_model.proofs.OneDomain.{Said, listed_here, one_text}
use Rattle.pool_model.proofs.Roles.{is_place, past_first}
use Rattle.task_settling.proofs.Emptying.{differs, image_same, slot_empty, slot_same, without_image}
use Rattle.task_settling.proofs.Frame.{KeepsDomains, text_stood}

-- ---- the disk

-- which folder this is
pub dir_is : (q x : Dir) → (q ≡ x) ⊎ (q ≢ x)
dir_is q x = go (is_place (place_in q name.Leases) (place_in x name.Leases))
  where
    go : (place_in q name.Leases ≡ place_in x name.Leases) ⊎ (place_in q name.Leases ≢ place_in x name.Leases) → (q ≡ x) ⊎ (q ≢ x)
    go (inl same) = inl (ap (λ (p : Place). p.dir) same)
    go (inr apart) = inr (λ same. apart (ap (λ (y : Dir). place_in y name.Leases) same))

-- whoever holds an image may change each file of its folder
pub may_own : (h : ℕ) (p : Pool) (sd i : Id) (n : Name) (a b : Option File) → Holds p h sd i → MayChangeImage h p sd i n a b
may_own h p sd i name.Metadata a b held = held
may_own h p sd i name.MetadataNew a b held = held
may_own h p sd i name.Leases a b held = held
may_own h p sd i name.Inbox a b held = held
may_own h p sd i name.Outbox a b held = held
may_own h p sd i (name.Volume v) a b held = inl held
may_own h p sd i (name.Meta v) a b held = held
may_own h p sd i (name.MetaNew v) a b held = held
may_own h p sd i (name.MetaVolatile v) a b held = held
may_own h p sd i (name.VolumeLease v) a b held = held
may_own h p sd i (name.Task t) a b held = held
may_own h p sd i (name.TaskNew t) a b held = held

metadata_apart : name.Metadata ≡ name.Leases → ⊥
metadata_apart e = cc

module _ (up : Hosts) (d e : Content) (p : Pool) (sectors : Id → ℕ → Sector) (images : Id → Id → Option Image) (stands : Stands up d p) (keeps : KeepsDomains d e p sectors images) where
  -- what is owned of files and folders is all, where domains are kept
  pub owned_so : (h : ℕ) (v : Verb) → ((q : Place) → (e.file q ≡ d.file q) ⊎ MayChange h up v p q.dir q.name (d.file q) (e.file q)) → ((q : Dir) → (e.dir q ≡ d.dir q) ⊎ MayChangeDir h v p q)
      → OwnedChange h up v p d e
  owned_so h v files dirs = record {
    files = files;
    dirs = dirs;
    texts = λ sd f there. (f, keeps.md sd name.Metadata metadata_apart ∙ there);
    lists = λ a sd r s was is among gone. absurd (gone (subst (λ (x : DomainRecord). Contains x.domains sd)
        (alike r s (one_text d a (Ok r) (Ok s) was (text_stood up d e p sectors images p.task stands keeps a (Ok s) is))) among));
  }
    where
      alike : (r s : DomainRecord) → ◌≡◌ {A = Said} (Ok r) (Ok s) → r ≡ s
      alike r s e = cc

-- files of the image go
pub removing_owned : (up : Hosts) (d e : Content) (p : Pool) (sd i : Id) (h : ℕ) (v : Verb) → Stands up d p → KeepsDomains d e p p.sector p.image → IsApart sd i d e
    → e.file (leases_of sd) ≡ d.file (leases_of sd) → Holds p h sd i → OwnedChange h up v p d e
removing_owned up d e p sd i h v stands keeps apart leases held = owned_so up d e p p.sector p.image stands keeps h v files dirs
  where
    outside : (at : Place) → at.dir ≢ dir.Image sd i → at.dir ≢ dir.Removed sd i → (at ≡ leases_of sd) ⊎ (at ≢ leases_of sd) → e.file at ≡ d.file at
    outside at own removed (inl same) = subst (λ (x : Place). e.file x ≡ d.file x) (sym same) leases
    outside at own removed (inr other) = apart.files at own removed other

    files : (at : Place) → (e.file at ≡ d.file at) ⊎ MayChange h up v p at.dir at.name (d.file at) (e.file at)
    files at = go (dir_is at.dir (dir.Image sd i)) (dir_is at.dir (dir.Removed sd i))
      where
        go : (at.dir ≡ dir.Image sd i) ⊎ (at.dir ≢ dir.Image sd i) → (at.dir ≡ dir.Removed sd i) ⊎ (at.dir ≢ dir.Removed sd i)
            → (e.file at ≡ d.file at) ⊎ MayChange h up v p at.dir at.name (d.file at) (e.file at)
        go (inl own) other = inr (subst (λ (x : Dir). MayChange h up v p x at.name (d.file at) (e.file at)) (sym own) (may_own h p sd i at.name (d.file at) (e.file at) held))
        go (inr own) (inl removed) = inr (subst (λ (x : Dir). MayChange h up v p x at.name (d.file at) (e.file at)) (sym removed) held)
        go (inr own) (inr removed) = inl (outside at own removed (is_place at (leases_of sd)))

    dirs : (at : Dir) → (e.dir at ≡ d.dir at) ⊎ MayChangeDir h v p at
    dirs at = go (dir_is at (dir.Image sd i)) (dir_is at (dir.Removed sd i))
      where
        go : (at ≡ dir.Image sd i) ⊎ (at ≢ dir.Image sd i) → (at ≡ dir.Removed sd i) ⊎ (at ≢ dir.Removed sd i) → (e.dir at ≡ d.dir at) ⊎ MayChangeDir h v p at
        go (inl own) other = inr (subst (λ (x : Dir). MayChangeDir h v p x) (sym own) held)
        go (inr own) (inl removed) = inr (subst (λ (x : Dir). MayChangeDir h v p x) (sym removed) held)
        go (inr own) (inr removed) = inl (apart.dirs at own removed)

-- ---- the sector is emptied

-- the manager may empty a sector that is held for a task
empty_move : (up : Hosts) (h : ℕ) (p : Pool) (sd i : Id) (k : ℕ) (r : LeaseRecord) → NamesAt p sd i k r → r.kind ≡ kind.Task → LeaseMove up h true k (p.sector sd k) Empty
empty_move up h p sd i k r names is = subst (λ (b : Bool). MatchBool b
    (RoleMove up h (p.sector sd k) Empty)
    (IsTaken up h kind.Guest (p.sector sd k) Empty ⊎ (IsFreed h kind.Guest (p.sector sd k) Empty ⊎ ((true ≡ true) × TaskMove up h (p.sector sd k) Empty))))
    (sym (past_first k names.slot)) (inr (inr (refl, inr (inr (r, names.lease, is, inr refl)))))

pub emptying_owned : (up : Hosts) (d e : Content) (p : Pool) (sd i : Id) (k : ℕ) (r : LeaseRecord) (listed : IsListed p sd) (h : ℕ) (v : Verb) → Stands up d p
    → KeepsDomains d e p (without_image p sd i k).sector (without_image p sd i k).image → IsMoved d sd k Empty e → NamesAt p sd i k r → r.kind ≡ kind.Task → Leads p h → OwnedChange h up v p d e
emptying_owned up d e p sd i k r listed h v stands keeps moved names is lead =
    owned_so up d e p (without_image p sd i k).sector (without_image p sd i k).image stands keeps h v (λ at. changed at (is_place at (leases_of sd))) (λ at. inl (moved.2.dirs at))
  where
    old : LeasesStand (p.sector sd) (file_in sd name.Leases d)
    old = (listed_here up d p sd listed.0 stands listed.1).leases

    same_old : old.file ≡ moved.0
    same_old = one_file old.file moved.0 (d.file (leases_of sd)) old.there moved.1

    change : IsLeasesChange h up p sd moved.0 (exchanged k (sector_bytes Empty) moved.0)
    change = record {
      at = k;
      settled = exchanged_settled k (sector_bytes Empty) moved.0 (subst (λ (f : File). IsSettled f) same_old old.settled);
      size = refl;
      here = record {
        new = Empty;
        spm = true;
        leads = λ _. lead;
        move = empty_move up h p sd i k r names is;
        fresh = λ x slot empty no. absurd (no_lease x no);
        is = rw (eq-eqb k k refl) refl;
      };
      others = λ n other. ap (λ (b : Bool). if b then sector_bytes Empty else moved.0.stable n) (differs n k other);
    }
      where
        no_lease : (x : LeaseRecord) → Empty ≡ Lease x → ⊥
        no_lease x e = cc

    also : (a b : Option File) (f g : File) → a ≡ Some f → b ≡ Some g → IsLeasesChange h up p sd f g → IsAlso (IsLeasesChange h up p sd) a b
    also a b f g was now it =
        subst (λ (o : Option File). IsAlso (IsLeasesChange h up p sd) o b) (sym was)
        (subst (λ (o : Option File). IsAlso (IsLeasesChange h up p sd) (Some f) o) (sym now) it)

    changed : (at : Place) → (at ≡ leases_of sd) ⊎ (at ≢ leases_of sd) → (e.file at ≡ d.file at) ⊎ MayChange h up v p at.dir at.name (d.file at) (e.file at)
    changed at (inl same) = inr (subst (λ (x : Place). MayChange h up v p x.dir x.name (d.file x) (e.file x)) (sym same)
        (inl (listed, also (d.file (leases_of sd)) (e.file (leases_of sd)) moved.0 _ moved.1 moved.2.here change)))
    changed at (inr apart) = inl (moved.2.others at apart)

-- ---- the text is written

pub writing_owned : (up : Hosts) (d e : Content) (p : Pool) (m t : Id) (h : ℕ) (v : Verb) → Stands up d p → KeepsDomains d e p p.sector p.image → p.master ≡ Some m
    → IsTextApart (task_place m t) (volatile_place m t) d e → Leads p h → OwnedChange h up v p d e
writing_owned up d e p m t h v stands keeps master apart lead =
    owned_so up d e p p.sector p.image stands keeps h v (λ at. changed at (is_place at (task_place m t)) (is_place at (volatile_place m t))) (λ at. inl (apart.dirs at))
  where
    may : (at : Place) (n : Name) → at ≡ place_in (dir.Tasks m) n → MayChange h up v p at.dir at.name (d.file at) (e.file at)
    may at n same = subst (λ (x : Place). MayChange h up v p x.dir x.name (d.file x) (e.file x)) (sym same) (master, lead)

    changed : (at : Place) → (at ≡ task_place m t) ⊎ (at ≢ task_place m t) → (at ≡ volatile_place m t) ⊎ (at ≢ volatile_place m t)
        → (e.file at ≡ d.file at) ⊎ MayChange h up v p at.dir at.name (d.file at) (e.file at)
    changed at (inl same) other = inr (may at (name.Task t) same)
    changed at (inr one) (inl same) = inr (may at (name.TaskNew t) same)
    changed at (inr one) (inr other) = inl (apart.files at one other)

-- ---- the pool

pub number_is : (j k : ℕ) → (j ≡ k) ⊎ (j ≢ k)
number_is j k = go (j == k) refl
  where
    go : (b : Bool) → (j == k) ≡ b → (j ≡ k) ⊎ (j ≢ k)
    go true e = inl (eqb-true j k e)
    go false e = inr (λ same. false≢true (sym e ∙ eq-eqb j k same))

pub emptying_changed : (up : Hosts) (h : ℕ) (p : Pool) (sd i : Id) (k : ℕ) (r : LeaseRecord) → NamesAt p sd i k r → r.kind ≡ kind.Task → Leads p h → OwnedPool h up p (without_image p sd i k)
emptying_changed up h p sd i k r names is lead = record {
  sectors = sectors;
  tasks = inl (λ t. refl);
  master = inl refl;
  domains = inl (λ a. refl);
  lists = λ a x listed. inl (x, listed);
  texts = λ a some. some;
  boxes = λ side a g w among. inl among;
  images = images;
}
  where
    sectors : (a : Id) (j : ℕ) → OwnedSector h up p a j ((without_image p sd i k).sector a j)
    sectors a j = go (is_one a sd) (number_is j k)
      where
        go : (a ≡ sd) ⊎ (a ≢ sd) → (j ≡ k) ⊎ (j ≢ k) → OwnedSector h up p a j ((without_image p sd i k).sector a j)
        go (inr unlike) one = inl (slot_same p sd i k r names a j (λ same _. unlike same))
        go (inl same) (inr unlike) = inl (slot_same p sd i k r names a j (λ _ alike. unlike alike))
        go (inl same) (inl alike) =
            subst (λ (b : Id). OwnedSector h up p b j ((without_image p sd i k).sector b j)) (sym same)
            (subst (λ (n : ℕ). OwnedSector h up p sd n ((without_image p sd i k).sector sd n)) (sym alike)
            (subst (λ (s : Sector). OwnedSector h up p sd k s) (sym (slot_empty p sd i k r names)) (inr (true, ((λ _. lead), empty_move up h p sd i k r names is)))))

    images : (a j : Id) → ((without_image p sd i k).image a j ≡ p.image a j) ⊎ (Holds p h a j ⊎ (Leads p h × AlsoLonger (p.image a j) ((without_image p sd i k).image a j)))
    images a j = go (is_one a sd) (is_one j i)
      where
        go : (a ≡ sd) ⊎ (a ≢ sd) → (j ≡ i) ⊎ (j ≢ i) → ((without_image p sd i k).image a j ≡ p.image a j) ⊎ (Holds p h a j ⊎ (Leads p h × AlsoLonger (p.image a j) ((without_image p sd i k).image a j)))
        go (inr unlike) one = inl (image_same p sd i k r names a j (λ same _. unlike same))
        go (inl same) (inr unlike) = inl (image_same p sd i k r names a j (λ _ alike. unlike alike))
        go (inl same) (inl alike) = inr (inl (subst (λ (b : Id). Holds p h b j) (sym same) (subst (λ (b : Id). Holds p h sd b) (sym alike) (inr (lead, (k, (r, names, is)))))))

pub settled_changed : (up : Hosts) (h : ℕ) (p : Pool) (t : Id) (x : Task) → Leads p h → OwnedPool h up p (put_task p t (Some x))
settled_changed up h p t x lead = record {
  sectors = λ sd k. inl refl;
  tasks = inr lead;
  master = inl refl;
  domains = inl (λ sd. refl);
  lists = λ sd r listed. inl (r, listed);
  texts = λ sd some. some;
  boxes = λ side sd g w among. inl among;
  images = λ sd i. inl refl;
}
