-- A disk with one domain and nothing else stands for the pool that was just made.
use Rattle.std.proofs.Common.{◌≡◌, ◌⊎◌, ℕ, ◌+◌, ◌*◌, Bool, true, false, List, [], ◌∷◌, Option, Some, None, refl, sym, ap, subst, ◌∙◌, inl, inr, arith}
use Rattle.std.specs.Prelude.{Contains, if◌then◌else◌}
use Rattle.std.proofs.lemmas.Bool.{false≢true}
use Rattle.sd_names.specs.UpSet.{Hosts}
use Rattle.sd_names.specs.declared.id.Id.{Id}
use Rattle.sd_names.specs.declared.place.Dir.TheVariants as dir
use Rattle.sd_names.specs.declared.place.Name.{Name}
use Rattle.shared_disk.specs.Content.{Content, File, Loose, zero_sector}
use Rattle.shared_disk.specs.Crash.{IsOutcomeSector}
use Rattle.shared_disk.specs.NameCalls.{place_in}
use Rattle.shared_disk.specs.Places.{id_is}
use Rattle.shared_disk.proofs.Outcomes.{contains_here, cons_cases, nothing_in}
use Rattle.shared_disk.proofs.Places.{id_is-itself, id_is-same}
use Rattle.domain_meta.specs.declared.record.DomainRecord.{DomainRecord}
use Rattle.lease_area.specs.Sector.{IsSector, sector_bytes}
use Rattle.lease_area.specs.declared.sector.LeaseRecord.{LeaseRecord}
use Rattle.lease_area.specs.declared.sector.Sector.{Sector}
use Rattle.lease_area.specs.declared.sector.Sector.TheVariants.{Empty, Lease}
use Rattle.pool_model.specs.Laws.{HoldsMaster}
use Rattle.pool_model.specs.Leases.{NamesAt}
use Rattle.pool_model.specs.Made.{master_pool}
use Rattle.pool_model.specs.Pool.{Box, History, Image, empty_box, inbox, no_pool, outbox}
use Rattle.pool_model.specs.Standing.{BoxesStand, DomainStands, ImageStands, IsBare, IsZeroFile, LeasesStand, ListedStands, MasterLists, ShowsImage, Stands, TasksStand, box_sectors, lease_sectors}
use Rattle.pool_model.proofs.Empty.{none_not_some, none_rises}

-- ---- files of zeros

empty_spelled : zero_sector ≡ sector_bytes Empty
unfolding zero_sector
empty_spelled = refl

not_leased : (s : Sector) (r : LeaseRecord) → s ≡ Empty → s ≡ Lease r → ⊥
not_leased s r e f = cc

pub zero_leases : (s : ℕ → Sector) (o : Option File) → ((k : ℕ) → s k ≡ Empty) → IsZeroFile lease_sectors o → LeasesStand s o
zero_leases s o empty zeros = record {
  file = zeros.file;
  there = zeros.there;
  settled = zeros.settled;
  size = zeros.size_is;
  each = λ k within. zeros.zeros k within ∙ empty_spelled ∙ sym (ap (λ (a : Sector). sector_bytes a) (empty k));
  fits = λ k. subst (λ (a : Sector). IsSector a) (sym (empty k)) tt;
  past = λ k beyond. empty k;
  role = λ r e. absurd (not_leased (s 0) r (empty 0) e);
  once = λ j k r t at on e f same. absurd (not_leased (s j) r (empty j) e);
  set = λ k r at e. absurd (not_leased (s k) r (empty k) e);
}

-- a sector of a file in which nothing is unsynced is what is on the medium
stored : (f : File) (k : ℕ) (bytes : List ℕ) → f.loose ≡ [] → f.fresh ≡ None → IsOutcomeSector f k bytes → bytes ≡ f.stable k
stored f k bytes loose fresh (inl e) = e
stored f k bytes loose fresh (inr (inl at)) = absurd (nothing_in at.0 (subst (λ (ls : List Loose). Contains ls at.0) loose at.1))
stored f k bytes loose fresh (inr (inr made)) = absurd (none_not_some f.fresh made.0.0 fresh made.0.1)

pub zero_boxes : (up : Hosts) (b : ℕ → Box) (o : Option File) → ((h : ℕ) → b h ≡ empty_box) → IsZeroFile box_sectors o → BoxesStand up b o
zero_boxes up b o empty zeros = record {
  file = zeros.file;
  there = zeros.there;
  made = zeros.settled.fresh;
  size = zeros.size_is;
  each = λ h k below within bytes is. inl (stored zeros.file (8 * h + k) bytes zeros.settled.loose zeros.settled.fresh is
      ∙ zeros.zeros (8 * h + k) (omega (arith, below, within)) ∙ sym (ap (λ (a : Box). a.sector k) (empty h)));
  past = λ h beyond. empty h;
  loose = λ l among. absurd (nothing_in l (subst (λ (ls : List Loose). Contains ls l) zeros.settled.loose among));
  up_is = λ h w among. absurd (nothing_in w (subst (λ (a : Box). Contains a.writings w) (empty h) among));
}

-- ---- the pool

shows_none : (up : Hosts) (d : Content) (r : DomainRecord) (sd : Id) → HoldsMaster up d r → ShowsImage d sd → ⊥
shows_none up d r sd h (i, inl there) = false≢true (sym (h.images sd i).0 ∙ there)
shows_none up d r sd h (i, inr there) = false≢true (sym (h.images sd i).1 ∙ there)

if_same : {A : Type 0} (b : Bool) (a : A) → (if b then a else a) ≡ a
if_same true a = refl
if_same false a = refl

bare : (up : Hosts) (d : Content) (r : DomainRecord) (history : History) (sd : Id) → HoldsMaster up d r → IsBare d (master_pool r (no_pool history)) sd
bare up d r history sd h = record {
  sector = λ k. ap (λ (f : ℕ → Sector). f k) (if_same (id_is sd r.sduuid) (λ (j : ℕ). Empty));
  box = λ side g. ap (λ (f : ℕ → Box). f g) (if_same (id_is sd r.sduuid) (λ (j : ℕ). empty_box));
  image = λ i. ap (λ (f : Id → Option Image). f i) (if_same (id_is sd r.sduuid) (λ (j : Id). None));
  shown = λ e. absurd (false≢true e);
  hidden = λ e shows. shows_none up d r sd h shows;
}

domain_by : (up : Hosts) (d : Content) (r : DomainRecord) (history : History) (sd : Id) (b : Bool) → HoldsMaster up d r → id_is sd r.sduuid ≡ b
    → DomainStands up d (master_pool r (no_pool history)) sd (if b then Some r else None) None
domain_by up d r history sd true h e = subst (λ (s : Id). ListedStands up d (master_pool r (no_pool history)) s r) (sym (id_is-same sd r.sduuid e)) (record {
  text = h.text;
  version = h.version;
  folders = h.folders;
  leases = zero_leases ((master_pool r (no_pool history)).sector r.sduuid) _ (bare up d r history r.sduuid h).sector h.leases;
  inboxes = zero_boxes up ((master_pool r (no_pool history)).box inbox r.sduuid) _ ((bare up d r history r.sduuid h).box inbox) h.inboxes;
  outboxes = zero_boxes up ((master_pool r (no_pool history)).box outbox r.sduuid) _ ((bare up d r history r.sduuid h).box outbox) h.outboxes;
  stray = refl;
  shows = refl;
})
domain_by up d r history sd false h e = record {
  text = h.texts sd (λ same. false≢true (sym e ∙ subst (λ (s : Id). id_is sd s ≡ true) same (id_is-itself sd)));
  bare = bare up d r history sd h;
}

listed_only : (r a : DomainRecord) (sd : Id) (b : Bool) → id_is sd r.sduuid ≡ b → (if b then Some r else None) ≡ Some a → sd ≡ r.sduuid
listed_only r a sd true e f = id_is-same sd r.sduuid e
listed_only r a sd false e f = absurd (none_not_some None a refl f)

master_lists : (up : Hosts) (d : Content) (r : DomainRecord) (history : History) → HoldsMaster up d r → MasterLists (master_pool r (no_pool history)) r.sduuid
master_lists up d r history h = record {
  is = r;
  listed = here;
  role = h.role;
  lists = λ sd. (λ among. back sd (cons_cases r.sduuid sd [] (subst (λ (ids : List Id). Contains ids sd) h.lists among)), λ listed. there sd listed);
  others = λ sd a other listed. absurd (other (listed_only r a sd (id_is sd r.sduuid) refl listed));
}
  where
    here : (master_pool r (no_pool history)).domain r.sduuid ≡ Some r
    here = ap (λ (b : Bool). if b then Some r else None) (id_is-itself r.sduuid)

    back : (sd : Id) → (r.sduuid ≡ sd) ⊎ Contains [] sd → (a : DomainRecord) × ((master_pool r (no_pool history)).domain sd ≡ Some a)
    back sd (inl same) = subst (λ (s : Id). (a : DomainRecord) × ((master_pool r (no_pool history)).domain s ≡ Some a)) same (r, here)
    back sd (inr rest) = absurd (nothing_in sd rest)

    there : (sd : Id) → ((a : DomainRecord) × ((master_pool r (no_pool history)).domain sd ≡ Some a)) → Contains r.domains sd
    there sd (a, listed) =
        subst (λ (ids : List Id). Contains ids sd) (sym h.lists)
        (subst (λ (s : Id). Contains (r.sduuid ∷ []) s) (sym (listed_only r a sd (id_is sd r.sduuid) refl listed)) (contains_here r.sduuid []))

no_tasks : (up : Hosts) (d : Content) (r : DomainRecord) (history : History) → HoldsMaster up d r → TasksStand d (master_pool r (no_pool history))
no_tasks up d r history h = record {
  each = λ m t e. h.tasks m t;
  elsewhere = λ sd t e. h.tasks sd t;
  unmade = λ e t. refl;
  listed = [];
  are = record {
    rising = none_rises;
    each = λ t s among. absurd (nothing_in (t, s) among);
    all = λ t x e. absurd (none_not_some None x refl e);
  };
  few = omega arith;
  one = λ t u x y opened other. absurd (none_not_some None x refl opened.0);
  built = λ t x opened. absurd (none_not_some None x refl opened.0);
  inside = λ sd i making. absurd (none_not_some None making.1.0 refl making.1.1.0);
}

image_by : (up : Hosts) (d : Content) (r : DomainRecord) (history : History) (sd i : Id) (version : ℕ) → HoldsMaster up d r
    → ImageStands up d (master_pool r (no_pool history)) sd version i
image_by up d r history sd i version h = record {
  gone = λ none. record { image = (bare up d r history sd h).image i; folder = (h.images sd i).0; removed = (h.images sd i).1 };
  there = λ named idle. absurd (unnamed named.0 named.1.0 named.1.1);
  making = λ making k l names. absurd (unnamed k l names);
  held = λ n f is at. absurd (no_file n f at);
}
  where
    unnamed : (k : ℕ) (l : LeaseRecord) → NamesAt (master_pool r (no_pool history)) sd i k l → ⊥
    unnamed k l names = not_leased ((master_pool r (no_pool history)).sector sd k) l ((bare up d r history sd h).sector k) names.lease

    no_file : (n : Name) (f : File) → (d.file (place_in (dir.Image sd i) n) ≡ Some f) ⊎ (d.file (place_in (dir.Removed sd i) n) ≡ Some f) → ⊥
    no_file n f (inl e) = none_not_some (d.file (place_in (dir.Image sd i) n)) f (h.no_files sd i n).0 e
    no_file n f (inr e) = none_not_some (d.file (place_in (dir.Removed sd i) n)) f (h.no_files sd i n).1 e

pub made_stands : (up : Hosts) (d : Content) (r : DomainRecord) (history : History) → HoldsMaster up d r → Stands up d (master_pool r (no_pool history))
made_stands up d r history h = record {
  master = master_lists up d r history h;
  domain = λ sd. domain_by up d r history sd (id_is sd r.sduuid) h refl;
  tasks = no_tasks up d r history h;
  image = λ sd a listed i. image_by up d r history sd i a.version h;
  unasked = λ sd a listed i. record {
    none = λ m v fault idle has. absurd (none_not_some ((master_pool r (no_pool history)).image sd i) m ((bare up d r history sd h).image i) has);
  };
  alive = h.alive;
  layout = h.layout;
}
