-- What the manager of a pool knows while it settles a task stays true beside other hosts.
use Rattle.std.proofs.Common.{◌≡◌, ◌≢◌, ◌⊎◌, ℕ, Bool, true, List, [], Option, Some, None, refl, sym, ap, subst, ◌∙◌, inl, inr}
use Rattle.std.proofs.lemmas.Bool.{false≢true}
use Rattle.std.proofs.lemmas.List.Elements.{Contains-append_cases}
use Rattle.std.specs.Prelude.{Contains, MatchBool, drop, length}
use Rattle.sd_names.specs.UpSet.{Hosts}
use Rattle.sd_names.specs.declared.id.Id.{Id}
use Rattle.sd_names.specs.declared.place.Dir.{Dir}
use Rattle.sd_names.specs.declared.place.Dir.TheVariants as dir
use Rattle.sd_names.specs.declared.place.Name.{Name}
use Rattle.sd_names.specs.declared.place.Name.TheVariants as name
use Rattle.sd_names.specs.declared.place.Place.{Place}
use Rattle.shared_disk.specs.Calls.{created, sectors_in, wrote}
use Rattle.shared_disk.specs.Content.{Content, File, Loose, writes}
use Rattle.shared_disk.specs.Crash.{DownLeaves, IsSettled, IsSettledFor}
use Rattle.shared_disk.proofs.AtPlace.{one_file}
use Rattle.shared_disk.proofs.Outcomes.{nothing_in, writes_among}
use Rattle.shared_disk.proofs.Toolkit.{down_leaves_file, down_leaves_none}
use Rattle.domain_meta.specs.declared.record.DomainRecord.{DomainRecord}
use Rattle.task_store.specs.TaskText.{text_of}
use Rattle.task_store.specs.declared.task.Task.{Task}
use Rattle.task_files.specs.TaskFile.{volatile_place}
use Rattle.task_files.specs.Write.{Knows as KnowsWrite, file_of, volatile_of}
use Rattle.task_files.specs.declared.write.TaskWrite.{TaskWrite}
use Rattle.whole_file.specs.Replace.{IsReady as IsReplaceReady, stage_of as replace_stage}
use Rattle.whole_file.specs.Text.{padded, sectors_for}
use Rattle.whole_file.specs.declared.replace.Stage.{Stage as ReplaceStage}
use Rattle.whole_file.specs.declared.replace.Stage.TheVariants as replacing
use Rattle.lease_area.specs.Hold.{leases_of}
use Rattle.lease_area.specs.Move.{IsFreed, IsTaken, RoleMove, TaskMove, freed, image_of as image_in, may_take, taken_by}
use Rattle.lease_area.specs.Record.{IsImageSlot}
use Rattle.lease_area.specs.Sector.{sector_bytes, sector_in}
use Rattle.lease_area.specs.declared.sector.Kind.{Kind}
use Rattle.lease_area.specs.declared.sector.Kind.TheVariants as kind
use Rattle.lease_area.specs.declared.sector.LeaseRecord.{LeaseRecord}
use Rattle.lease_area.specs.declared.sector.Sector.{Sector}
use Rattle.lease_area.specs.declared.sector.Sector.TheVariants.{Empty, Lease}
use Rattle.lease_area.proofs.Fields.{sector_back}
use Rattle.image_clearing.specs.Clearing.{domain_of, image_of, stage_of as clearing_stage}
use Rattle.image_clearing.specs.Others.{IsImageFile, IsKeptByOthers, KeepsImage}
use Rattle.image_clearing.specs.declared.clearing.ImageClearing.{ImageClearing}
use Rattle.image_clearing.proofs.Others.{kept_at_down, ready_kept}
use Rattle.pool_model.specs.Downs.{DownPool}
use Rattle.pool_model.specs.Leases.{Holds, Leads}
use Rattle.pool_model.specs.Owned.{AlsoLonger, MayChange, MayChangeDir, MayChangeImage, OwnedSector}
use Rattle.pool_model.specs.Pool.{Pool}
use Rattle.pool_model.specs.Standing.{LeasesStand, MasterLists, MasterStands, Stands, file_in}
use Rattle.pool_model.specs.Tasks.{IsMaking, IsRemoved}
use Rattle.pool_model.specs.Verb.{Verb}
use Rattle.pool_model.proofs.OneDomain.{listed_here}
use Rattle.pool_model.proofs.Roles.{past_first}
use Rattle.pool_model.proofs.Stable.{role_sector}
use Rattle.task_settling.specs.Knowing.{ClearsLast, Knows, KnowsStage, KnowsTask, WritesSettled}
use Rattle.task_settling.specs.Laws.{IsBeside}
use Rattle.task_settling.specs.Settling.{master_of, settled_of, stage_of, task_of}
use Rattle.task_settling.specs.declared.settling.Stage.{Stage}
use Rattle.task_settling.specs.declared.settling.Stage.TheVariants.{Clearing, Writing}
use Rattle.task_settling.specs.declared.settling.TaskSettling.{TaskSettling}
use Rattle.task_settling.proofs.Facts.{making_of}
use Rattle.task_settling.proofs.Machine.{all_done_stay}

one_record : (s : Sector) (a b : LeaseRecord) → s ≡ Lease a → s ≡ Lease b → a ≡ b
one_record s a b e f = cc

not_empty : (s : Sector) (r : LeaseRecord) → s ≡ Empty → s ≡ Lease r → ⊥
not_empty s r e f = cc

one_sector : (s t : Sector) → Some s ≡ Some t → s ≡ t
one_sector s t e = cc

one_master : (o : Option Id) (a b : Id) → o ≡ Some a → o ≡ Some b → a ≡ b
one_master o a b e f = cc

no_master : (o : Option Id) (a : Id) → o ≡ None → o ≡ Some a → ⊥
no_master o a e f = cc

guest_or_task : kind.Guest ≡ kind.Task → ⊥
guest_or_task e = cc

-- two hosts that lead are one
pub one_leader : (p : Pool) (g h : ℕ) → Leads p g → Leads p h → g ≡ h
one_leader p g h (m, (r, is, sector, owner)) (n, (s, so, other, holder)) =
    let here = subst (λ (i : Id). p.sector i 0 ≡ Lease s) (one_master p.master n m so is) other in
    sym owner ∙ ap (λ (y : LeaseRecord). y.owner) (one_record (p.sector m 0) r s sector here) ∙ holder

-- ---- the leases file of a listed domain

module _ (up : Hosts) (d : Content) (p : Pool) (sd : Id) (r : DomainRecord) (stands : Stands up d p) (listed : p.domain sd ≡ Some r) where
  pub leases_at : LeasesStand (p.sector sd) (file_in sd name.Leases d)
  leases_at = (listed_here up d p sd r stands listed).leases

  pub read_lease : (f : File) → d.file (leases_of sd) ≡ Some f → (k : ℕ) (x : LeaseRecord) → IsImageSlot k → sector_in (f.stable k) ≡ Some (Lease x) → p.sector sd k ≡ Lease x
  read_lease f there k x slot reads =
      let same : leases_at.file ≡ f = one_file leases_at.file f (d.file (leases_of sd)) leases_at.there there in
      one_sector (p.sector sd k) (Lease x) (sym (sector_back (p.sector sd k) (leases_at.fits k)) ∙ ap sector_in (sym (leases_at.each k slot.high)) ∙ ap (λ (g : File). sector_in (g.stable k)) same ∙ reads)

  pub lease_reads : (f : File) → d.file (leases_of sd) ≡ Some f → (k : ℕ) (x : LeaseRecord) → IsImageSlot k → p.sector sd k ≡ Lease x → sector_in (f.stable k) ≡ Some (Lease x)
  lease_reads f there k x slot is =
      let same : leases_at.file ≡ f = one_file leases_at.file f (d.file (leases_of sd)) leases_at.there there in
      ap (λ (g : File). sector_in (g.stable k)) (sym same) ∙ ap sector_in (leases_at.each k slot.high) ∙ sector_back (p.sector sd k) (leases_at.fits k) ∙ ap (λ (s : Sector). Some s) is

  pub bytes_at : (f : File) → d.file (leases_of sd) ≡ Some f → (k : ℕ) → IsImageSlot k → f.stable k ≡ sector_bytes (p.sector sd k)
  bytes_at f there k slot =
      let same : leases_at.file ≡ f = one_file leases_at.file f (d.file (leases_of sd)) leases_at.there there in
      ap (λ (g : File). g.stable k) (sym same) ∙ leases_at.each k slot.high

-- whoever may change a file of an image's folder holds the image, or is the manager
pub may_is : (h : ℕ) (p : Pool) (sd i : Id) (n : Name) (a b : Option File) → MayChangeImage h p sd i n a b → Holds p h sd i ⊎ Leads p h
may_is h p sd i name.Metadata a b may = inl may
may_is h p sd i name.MetadataNew a b may = inl may
may_is h p sd i name.Leases a b may = inl may
may_is h p sd i name.Inbox a b may = inl may
may_is h p sd i name.Outbox a b may = inl may
may_is h p sd i (name.Volume v) a b (inl held) = inl held
may_is h p sd i (name.Volume v) a b (inr longer) = inr longer.0
may_is h p sd i (name.Meta v) a b may = inl may
may_is h p sd i (name.MetaNew v) a b may = inl may
may_is h p sd i (name.MetaVolatile v) a b may = inl may
may_is h p sd i (name.VolumeLease v) a b may = inl may
may_is h p sd i (name.Task t) a b may = inl may
may_is h p sd i (name.TaskNew t) a b may = inl may

-- the law of the write: what it knows survives others
abbrev pub TextLaw : Type 0
TextLaw = (w : TaskWrite) (host : ℕ) (t : Task) (d e : Content) → e.dir (file_of w).dir ≡ d.dir (file_of w).dir → e.file (volatile_of w) ≡ d.file (volatile_of w) → KnowsWrite w host t d → KnowsWrite w host t e

-- ---- another host changes only what it may

module _ (texts : TextLaw) (up : Hosts) (v : Verb) (h g : ℕ) (d e : Content) (p q : Pool) (beside : IsBeside up v h g d e p q) (leads : Leads p g) where
  not_lead : Leads p h → ⊥
  not_lead other = beside.apart (one_leader p g h leads other)

  master_stays : (m : Id) → p.master ≡ Some m → q.master ≡ Some m
  master_stays m is = go beside.owned.master
    where
      go : (q.master ≡ p.master) ⊎ (p.master ≡ None) → q.master ≡ Some m
      go (inl same) = same ∙ is
      go (inr none) = absurd (no_master p.master m none is)

  leads_now : Leads q g
  leads_now = (
    leads.0,
    (
      leads.1.0,
      master_stays leads.0 leads.1.1,
      role_sector up d p q h g beside.stands beside.apart beside.owned beside.some beside.alive leads.0 leads.1.0 leads.1.2 leads.1.3 (beside.owned.sectors leads.0 0) ∙ leads.1.2,
      leads.1.3,
    ),
  )

  tasks_stay : (t : Id) → q.task t ≡ p.task t
  tasks_stay t = go beside.owned.tasks
    where
      go : ((u : Id) → q.task u ≡ p.task u) ⊎ Leads p h → q.task t ≡ p.task t
      go (inl same) = same t
      go (inr other) = absurd (not_lead other)

  domain_stays : (a : Id) → q.domain a ≡ p.domain a
  domain_stays a = go beside.owned.domains
    where
      go : ((b : Id) → q.domain b ≡ p.domain b) ⊎ (Leads p h ⊎ (p.master ≡ None)) → q.domain a ≡ p.domain a
      go (inl same) = same a
      go (inr (inl other)) = absurd (not_lead other)
      go (inr (inr none)) = absurd (no_master p.master leads.0 none leads.1.1)

  known_stays : (master : Id) (task : Task) → KnowsTask g master task p → KnowsTask g master task q
  known_stays master task known = record { master_is = master_stays master known.master_is; leads = leads_now; opened = (tasks_stay task.id ∙ known.opened.0, known.opened.1) }

  -- ---- sectors

  abbrev MovesAt : Id → ℕ → Bool → Type 0
  MovesAt a k spm = IsTaken up h kind.Guest (p.sector a k) (q.sector a k) ⊎ (IsFreed h kind.Guest (p.sector a k) (q.sector a k) ⊎ ((spm ≡ true) × TaskMove up h (p.sector a k) (q.sector a k)))

  -- what names an image now named it before
  was_lease : (a : Id) (k : ℕ) (r : LeaseRecord) → IsImageSlot k → q.sector a k ≡ Lease r → OwnedSector h up p a k (q.sector a k) → (s : LeaseRecord) × (p.sector a k ≡ Lease s) × (s.image ≡ r.image)
  was_lease a k r slot is (inl same) = (r, sym same ∙ is, refl)
  was_lease a k r slot is (inr (spm, (leads_is, move))) = go (subst (λ (b : Bool). MatchBool b (RoleMove up h (p.sector a k) (q.sector a k)) (MovesAt a k spm)) (past_first k slot) move)
    where
      go : MovesAt a k spm → (s : LeaseRecord) × (p.sector a k ≡ Lease s) × (s.image ≡ r.image)
      go (inl (s, was, may, now)) = (s, was, ap image_in (sym was) ∙ ap (λ (l : LeaseRecord). l.image) (one_record (q.sector a k) (taken_by h kind.Guest (p.sector a k)) r now is))
      go (inr (inl (s, was, held, owner, now))) = (s, was, ap (λ (l : LeaseRecord). l.image) (one_record (q.sector a k) (freed s) r now is))
      go (inr (inr (led, moves))) = absurd (not_lead (leads_is led))

  -- a sector that is held for a task stays
  task_sector : (a : Id) (k : ℕ) (r : LeaseRecord) → IsImageSlot k → p.sector a k ≡ Lease r → r.kind ≡ kind.Task → OwnedSector h up p a k (q.sector a k) → q.sector a k ≡ p.sector a k
  task_sector a k r slot is held (inl same) = same
  task_sector a k r slot is held (inr (spm, (leads_is, move))) =
      absurd (go (subst (λ (b : Bool). MatchBool b (RoleMove up h (p.sector a k) (q.sector a k)) (MovesAt a k spm)) (past_first k slot) move))
    where
      go : MovesAt a k spm → ⊥
      go (inl (s, was, may, now)) =
          let same : r ≡ s = one_record (p.sector a k) r s is was in
          false≢true (sym (ap (λ (w : Kind). may_take up h w r.owner) held) ∙ ap (λ (l : LeaseRecord). may_take up h l.kind l.owner) same ∙ may)
      go (inr (inl (s, was, guest, owner, now))) = guest_or_task (sym guest ∙ ap (λ (l : LeaseRecord). l.kind) (one_record (p.sector a k) s r was is) ∙ held)
      go (inr (inr (led, moves))) = not_lead (leads_is led)

  -- ---- what is gone stays gone

  removed_stays : (a j : Id) → IsRemoved a j p → IsRemoved a j q
  removed_stays a j removed = (
    image (beside.owned.images a j),
    λ k r names. let was = was_lease a k r names.slot names.lease (beside.owned.sectors a k) in
        removed.1 k was.0 (record { slot = names.slot; lease = was.1; image = was.2 ∙ names.image }),
  )
    where
      held : Holds p h a j → ⊥
      held (inl (k, (r, names, is, owner))) = removed.1 k r names
      held (inr (other, tasked)) = not_lead other

      image : (q.image a j ≡ p.image a j) ⊎ (Holds p h a j ⊎ (Leads p h × AlsoLonger (p.image a j) (q.image a j))) → q.image a j ≡ None
      image (inl same) = same ∙ removed.0
      image (inr (inl holds)) = absurd (held holds)
      image (inr (inr longer)) = absurd (not_lead longer.0)

  -- ---- the image that is cleared away

  module _ (sd i : Id) (making : IsMaking p sd i) where
    listed : (r : DomainRecord) × (p.domain sd ≡ Some r)
    listed = beside.stands.tasks.inside sd i making

    listed_now : q.domain sd ≡ Some listed.0
    listed_now = domain_stays sd ∙ listed.1

    not_held : Holds p h sd i → ⊥
    not_held (inl (k, (r, names, is, owner))) = guest_or_task (sym is ∙ (beside.stands.image sd listed.0 listed.1 i).making making k r names)
    not_held (inr (other, tasked)) = not_lead other

    dir_same : (at : Dir) → (at ≡ dir.Image sd i) ⊎ (at ≡ dir.Removed sd i) → e.dir at ≡ d.dir at
    dir_same at which = go (beside.change.dirs at)
      where
        holds : (at ≡ dir.Image sd i) ⊎ (at ≡ dir.Removed sd i) → MayChangeDir h v p at → Holds p h sd i
        holds (inl own) may = subst (λ (x : Dir). MayChangeDir h v p x) own may
        holds (inr removed) may = subst (λ (x : Dir). MayChangeDir h v p x) removed may

        go : (e.dir at ≡ d.dir at) ⊎ MayChangeDir h v p at → e.dir at ≡ d.dir at
        go (inl same) = same
        go (inr may) = absurd (not_held (holds which may))

    file_was : (at : Place) (f : File) → IsImageFile sd i at → e.file at ≡ Some f → (x : File) × (d.file at ≡ Some x)
    file_was at f inside there = go (beside.change.files at)
      where
        neither : Holds p h sd i ⊎ Leads p h → ⊥
        neither (inl held) = not_held held
        neither (inr other) = not_lead other

        may_not : IsImageFile sd i at → MayChange h up v p at.dir at.name (d.file at) (e.file at) → ⊥
        may_not (inl own) may = neither (may_is h p sd i at.name (d.file at) (e.file at) (subst (λ (x : Dir). MayChange h up v p x at.name (d.file at) (e.file at)) own may))
        may_not (inr removed) may = not_held (subst (λ (x : Dir). MayChange h up v p x at.name (d.file at) (e.file at)) removed may)

        go : (e.file at ≡ d.file at) ⊎ MayChange h up v p at.dir at.name (d.file at) (e.file at) → (x : File) × (d.file at ≡ Some x)
        go (inl same) = (f, sym same ∙ there)
        go (inr may) = absurd (may_not inside may)

    leases_kept : (f : File) → d.file (leases_of sd) ≡ Some f → (x : File) × (e.file (leases_of sd) ≡ Some x) × KeepsImage i f x
    leases_kept f there =
        let old = leases_at up d p sd listed.0 beside.stands listed.1 in
        let new = leases_at up e q sd listed.0 beside.stands_now listed_now in (
          new.file,
          new.there,
          record {
            size = new.size ∙ sym old.size ∙ ap (λ (x : File). x.size) (one_file old.file f (d.file (leases_of sd)) old.there there);
            settled = λ _. new.settled;
            named = λ k slot names.
                let was = was_lease sd k names.0 slot (read_lease up e q sd listed.0 beside.stands_now listed_now new.file new.there k names.0 slot names.1) (beside.owned.sectors sd k) in
                (was.0, lease_reads up d p sd listed.0 beside.stands listed.1 f there k was.0 slot was.1, was.2 ∙ names.2);
            held = λ k r slot reads image_is held.
                let is = read_lease up d p sd listed.0 beside.stands listed.1 f there k r slot reads in
                bytes_at up e q sd listed.0 beside.stands_now listed_now new.file new.there k slot ∙ ap sector_bytes (task_sector sd k r slot is held (beside.owned.sectors sd k))
                ∙ sym (bytes_at up d p sd listed.0 beside.stands listed.1 f there k slot);
          },
        )

    kept : IsKeptByOthers sd i d e
    kept = record { own = dir_same (dir.Image sd i) (inl refl); removed = dir_same (dir.Removed sd i) (inr refl); files = file_was; leases = leases_kept }

  -- ---- each stage

  clears_still : (master : Id) (count : ℕ) (task : Task) (c : ImageClearing) → KnowsTask g master task p → ClearsLast count task c d p → ClearsLast count task c e q
  clears_still master count task c known clears = record {
    step = clears.step;
    last = clears.last;
    clears = clears.clears;
    behind = all_done_stay (drop count task.steps) p q removed_stays clears.behind;
    clearing = ready_kept (domain_of c) (image_of c) d e (kept (domain_of c) (image_of c) (making_of p task count clears.step (domain_of c) (image_of c) known.opened clears.last clears.clears)) (clearing_stage c)
        clears.clearing;
  }

  tasks_folder : (up : Hosts) (x : Content) (o : Pool) (master : Id) → Stands up x o → o.master ≡ Some master → x.dir (dir.Tasks master) ≡ true
  tasks_folder up x o master stood is =
      let lists : MasterLists o master = subst (λ (a : Option Id). MasterStands o a) is stood.master in
      (listed_here up x o master lists.is stood lists.listed).folders.tasks

  volatile_same : (master : Id) (t : Id) → p.master ≡ Some master → e.file (volatile_place master t) ≡ d.file (volatile_place master t)
  volatile_same master t is = go (beside.change.files (volatile_place master t))
    where
      go : (e.file (volatile_place master t) ≡ d.file (volatile_place master t)) ⊎ ((p.master ≡ Some master) × Leads p h) → e.file (volatile_place master t) ≡ d.file (volatile_place master t)
      go (inl same) = same
      go (inr may) = absurd (not_lead may.1)

  writes_still : (master : Id) (task settled : Task) (w : TaskWrite) → KnowsTask g master task p → WritesSettled g master task settled w d p → WritesSettled g master task settled w e q
  writes_still master task settled w known writes_it = record {
    file = writes_it.file;
    volatile = writes_it.volatile;
    behind = all_done_stay (drop 0 task.steps) p q removed_stays writes_it.behind;
    write = texts w g settled d e
        (ap (λ (x : Place). e.dir x.dir) writes_it.file ∙ tasks_folder up e q master beside.stands_now (master_stays master known.master_is) ∙ sym (tasks_folder up d p master beside.stands known.master_is)
        ∙ sym (ap (λ (x : Place). d.dir x.dir) writes_it.file))
        (ap (λ (x : Place). e.file x) writes_it.volatile ∙ volatile_same master settled.id known.master_is ∙ sym (ap (λ (x : Place). d.file x) writes_it.volatile)) writes_it.write;
  }

  stage_still : (s : Stage) (master : Id) (task settled : Task) → KnowsTask g master task p → KnowsStage s g master task settled d p → KnowsStage s g master task settled e q
  stage_still (Clearing count c) master task settled known knows = clears_still master count task c known knows
  stage_still (Writing w) master task settled known knows = writes_still master task settled w known knows

pub others_keep : TextLaw → (up : Hosts) (v : Verb) (h g : ℕ) (d e : Content) (p q : Pool) (t : TaskSettling) → IsBeside up v h g d e p q → Knows g t d p → Knows g t e q
others_keep texts up v h g d e p q t beside knows = (
  known_stays texts up v h g d e p q beside knows.0.leads (master_of t) (task_of t) knows.0,
  stage_still texts up v h g d e p q beside knows.0.leads (stage_of t) (master_of t) (task_of t) (settled_of t) knows.0 knows.1,
)

-- ---- another host goes down

pub settled_for : (h : ℕ) (f : File) → IsSettled f → IsSettledFor h f
settled_for h f settled = record {
  loose = λ l among. absurd (nothing_in l (subst (λ (ls : List Loose). Contains ls l) settled.loose among));
  fresh = λ made. no_maker f.fresh settled.fresh made;
}
  where
    no_maker : (o : Option ℕ) → o ≡ None → o ≡ Some h → ⊥
    no_maker o e f = cc

one_maker : (g h : ℕ) → ◌≡◌ {A = Option ℕ} (Some g) (Some h) → g ≡ h
one_maker g h e = cc

module _ (h g : ℕ) (apart : g ≢ h) (text : List ℕ) where
  made_for : IsSettledFor h (created g (sectors_for (length text)))
  made_for = record { loose = λ l among. absurd (nothing_in l among); fresh = λ made. apart (one_maker g h made) }

  written_for : IsSettledFor h (wrote (λ _. true) g 0 (padded text) (created g (sectors_for (length text))))
  written_for = record { loose = λ l among. own l (Contains-append_cases (writes (λ _. true) g 0 (padded text) (sectors_in (padded text))) [] l among); fresh = λ made. apart (one_maker g h made) }
    where
      own : (l : Loose) → Contains (writes (λ _. true) g 0 (padded text) (sectors_in (padded text))) l ⊎ Contains [] l → l.host ≢ h
      own l (inl among) is = apart (ap (λ (x : Loose). x.host) (writes_among (λ _. true) g 0 (padded text) (sectors_in (padded text)) l among).is ∙ is)
      own l (inr none) is = absurd (nothing_in l none)

  ready_down : (d e : Content) (at : Place) (s : ReplaceStage) → DownLeaves d h e → IsReplaceReady s g text at d → IsReplaceReady s g text at e
  ready_down d e at replacing.Begun down ready = tt
  ready_down d e at replacing.Cleared down ready = down_leaves_none d e h at down ready
  ready_down d e at replacing.Created down ready = down_leaves_file d e h at _ down ready made_for
  ready_down d e at replacing.Written down ready = down_leaves_file d e h at _ down ready written_for
  ready_down d e at replacing.Synced down ready = (ready.0, down_leaves_file d e h at ready.0 down ready.1 (settled_for h ready.0 ready.2.settled), ready.2)

module _ (up : Hosts) (h g : ℕ) (d e : Content) (p q : Pool) (stands : Stands up d p) (leaves : DownLeaves d h e) (down : DownPool h p q) (apart : g ≢ h) where
  sector_down : (a : Id) (k : ℕ) → q.sector a k ≡ p.sector a k
  sector_down a k = ap (λ (s : Id → ℕ → Sector). s a k) down.sector

  removed_down : (a j : Id) → IsRemoved a j p → IsRemoved a j q
  removed_down a j removed = (
    (down.image a j).other (λ guest. removed.1 guest.0 guest.1.0 guest.1.1) ∙ removed.0,
    λ k r names. removed.1 k r (record { slot = names.slot; lease = sym (sector_down a k) ∙ names.lease; image = names.image }),
  )

  known_down : (master : Id) (task : Task) → KnowsTask g master task p → KnowsTask g master task q
  known_down master task known = record {
    master_is = down.master ∙ known.master_is;
    leads = (known.leads.0, (known.leads.1.0, down.master ∙ known.leads.1.1, sector_down known.leads.0 0 ∙ known.leads.1.2, known.leads.1.3));
    opened = (ap (λ (f : Id → Option Task). f task.id) down.task ∙ known.opened.0, known.opened.1);
  }

  clears_down : (master : Id) (count : ℕ) (task : Task) (c : ImageClearing) → KnowsTask g master task p → ClearsLast count task c d p → ClearsLast count task c e q
  clears_down master count task c known clears =
      let making = making_of p task count clears.step (domain_of c) (image_of c) known.opened clears.last clears.clears in
      let listed = stands.tasks.inside (domain_of c) (image_of c) making in
      let leases = leases_at up d p (domain_of c) listed.0 stands listed.1 in
      record {
        step = clears.step;
        last = clears.last;
        clears = clears.clears;
        behind = all_done_stay (drop count task.steps) p q removed_down clears.behind;
        clearing = ready_kept (domain_of c) (image_of c) d e (kept_at_down (domain_of c) (image_of c) h d e leaves
            (λ f there. settled_for h f (subst (λ (x : File). IsSettled x) (one_file leases.file f (d.file (leases_of (domain_of c))) leases.there there) leases.settled))) (clearing_stage c) clears.clearing;
      }

  writes_down : (master : Id) (task settled : Task) (w : TaskWrite) → WritesSettled g master task settled w d p → WritesSettled g master task settled w e q
  writes_down master task settled w writes_it = record {
    file = writes_it.file;
    volatile = writes_it.volatile;
    behind = all_done_stay (drop 0 task.steps) p q removed_down writes_it.behind;
    write = record {
      folder = leaves.dirs (file_of w).dir ∙ writes_it.write.folder;
      ready = ready_down h g apart (text_of settled) d e (volatile_of w) (replace_stage w.replace) leaves writes_it.write.ready;
    };
  }

  stage_down : (s : Stage) (master : Id) (task settled : Task) → KnowsTask g master task p → KnowsStage s g master task settled d p → KnowsStage s g master task settled e q
  stage_down (Clearing count c) master task settled known knows = clears_down master count task c known knows
  stage_down (Writing w) master task settled known knows = writes_down master task settled w knows

  pub downs_keep : (t : TaskSettling) → Knows g t d p → Knows g t e q
  downs_keep t knows = (known_down (master_of t) (task_of t) knows.0, stage_down (stage_of t) (master_of t) (task_of t) (settled_of t) knows.0 knows.1)
