-- What the disk has to say of domains stays, where only images, their sectors and tasks change.
use Rattle.std.proofs.Common.{◌≡◌, ◌≢◌, ℕ, Option, Some, None, Ok, refl, sym, subst, ◌∙◌, inl, inr}
use Rattle.sd_names.specs.UpSet.{Hosts}
use Rattle.sd_names.specs.declared.id.Id.{Id}
use Rattle.sd_names.specs.declared.place.Dir.{Dir}
use Rattle.sd_names.specs.declared.place.Dir.TheVariants as dir
use Rattle.sd_names.specs.declared.place.Name.{Name}
use Rattle.sd_names.specs.declared.place.Name.TheVariants as name
use Rattle.sd_names.specs.declared.place.Place.{Place}
use Rattle.shared_disk.specs.Content.{Content, File}
use Rattle.shared_disk.specs.NameCalls.{place_in}
use Rattle.folder_layout.specs.Layout.{HoldsName}
use Rattle.domain_meta.specs.declared.record.DomainRecord.{DomainRecord}
use Rattle.task_store.specs.declared.task.Task.{Task}
use Rattle.lease_area.specs.declared.sector.Sector.{Sector}
use Rattle.pool_model.specs.Laws.{AreAlive}
use Rattle.pool_model.specs.Pool.{Box, Image, Pool, inbox, outbox}
use Rattle.pool_model.specs.Standing.{BoxesStand, DomainStands, HasDomainText, HasFolders, ImageStands, IsBare, IsUnasked, IsZeroFile, LeasesStand, MasterStands, ShowsImage, Stands, TasksStand, box_sectors, file_in, lease_sectors}
use Rattle.pool_model.proofs.OneDomain.{Said}

-- the pool with other sectors, images and tasks
abbrev pub with_parts : Pool → (Id → ℕ → Sector) → (Id → Id → Option Image) → (Id → Option Task) → Pool
with_parts p sectors images tasks = record p { sector = sectors; image = images; task = tasks }

-- of a domain that isn't listed nothing has changed
pub record IsUntouched (d e : Content) (p : Pool) (sectors : Id → ℕ → Sector) (images : Id → Id → Option Image) (sd : Id) : Type 0 where
  pub leases : e.file (place_in (dir.DomMd sd) name.Leases) ≡ d.file (place_in (dir.DomMd sd) name.Leases)
  pub sector : (k : ℕ) → sectors sd k ≡ p.sector sd k
  pub image : (i : Id) → images sd i ≡ p.image sd i
  pub own : (i : Id) → e.dir (dir.Image sd i) ≡ d.dir (dir.Image sd i)
  pub removed : (i : Id) → e.dir (dir.Removed sd i) ≡ d.dir (dir.Removed sd i)

-- from d to e nothing of domains has changed but the sectors of those that are listed
pub record KeepsDomains (d e : Content) (p : Pool) (sectors : Id → ℕ → Sector) (images : Id → Id → Option Image) : Type 0 where
  pub md : (sd : Id) (n : Name) → n ≢ name.Leases → e.file (place_in (dir.DomMd sd) n) ≡ d.file (place_in (dir.DomMd sd) n)
  pub dirs : (q : Dir) → ((sd i : Id) → q ≢ dir.Image sd i) → ((sd i : Id) → q ≢ dir.Removed sd i) → e.dir q ≡ d.dir q
  pub leases : (sd : Id) (r : DomainRecord) → p.domain sd ≡ Some r → LeasesStand (sectors sd) (file_in sd name.Leases e)
  pub unlisted : (sd : Id) → p.domain sd ≡ None → IsUntouched d e p sectors images sd

metadata_apart : name.Metadata ≡ name.Leases → ⊥
metadata_apart e = cc

inbox_apart : name.Inbox ≡ name.Leases → ⊥
inbox_apart e = cc

outbox_apart : name.Outbox ≡ name.Leases → ⊥
outbox_apart e = cc

module _ (up : Hosts) (d e : Content) (p : Pool) (sectors : Id → ℕ → Sector) (images : Id → Id → Option Image) (tasks : Id → Option Task) (stands : Stands up d p)
    (keeps : KeepsDomains d e p sectors images) where
  abbrev q : Pool
  q = with_parts p sectors images tasks

  text_stays : (sd : Id) (said : Said) → HasDomainText d sd said → HasDomainText e sd said
  text_stays sd said x = (x.0, record { file = x.1.file; there = keeps.md sd name.Metadata metadata_apart ∙ x.1.there; settled = x.1.settled; stored = x.1.stored }, x.2)

  pub text_stood : (sd : Id) (said : Said) → HasDomainText e sd said → HasDomainText d sd said
  text_stood sd said x = (x.0, record { file = x.1.file; there = sym (keeps.md sd name.Metadata metadata_apart) ∙ x.1.there; settled = x.1.settled; stored = x.1.stored }, x.2)

  folders_stay : (sd : Id) → HasFolders d sd → HasFolders e sd
  folders_stay sd x = record {
    own = keeps.dirs (dir.Domain sd) (λ a i is. cc) (λ a i is. cc) ∙ x.own;
    md = keeps.dirs (dir.DomMd sd) (λ a i is. cc) (λ a i is. cc) ∙ x.md;
    images = keeps.dirs (dir.Images sd) (λ a i is. cc) (λ a i is. cc) ∙ x.images;
    master = keeps.dirs (dir.Master sd) (λ a i is. cc) (λ a i is. cc) ∙ x.master;
    tasks = keeps.dirs (dir.Tasks sd) (λ a i is. cc) (λ a i is. cc) ∙ x.tasks;
  }

  shows_stay : (sd : Id) → IsUntouched d e p sectors images sd → ShowsImage d sd → ShowsImage e sd
  shows_stay sd same (i, inl there) = (i, inl (same.own i ∙ there))
  shows_stay sd same (i, inr there) = (i, inr (same.removed i ∙ there))

  shows_stood : (sd : Id) → IsUntouched d e p sectors images sd → ShowsImage e sd → ShowsImage d sd
  shows_stood sd same (i, inl there) = (i, inl (sym (same.own i) ∙ there))
  shows_stood sd same (i, inr there) = (i, inr (sym (same.removed i) ∙ there))

  bare_stays : (sd : Id) → IsUntouched d e p sectors images sd → IsBare d p sd → IsBare e q sd
  bare_stays sd same x = record {
    sector = λ k. same.sector k ∙ x.sector k;
    box = x.box;
    image = λ i. same.image i ∙ x.image i;
    shown = λ is. shows_stay sd same (x.shown is);
    hidden = λ is shows. x.hidden is (shows_stood sd same shows);
  }

  boxes_stay : (b : ℕ → Box) (sd : Id) (n : Name) → n ≢ name.Leases → BoxesStand up b (file_in sd n d) → BoxesStand up b (file_in sd n e)
  boxes_stay b sd n apart x = subst (λ (o : Option File). BoxesStand up b o) (sym (keeps.md sd n apart)) x

  zeros_stay : (size : ℕ) (sd : Id) (n : Name) → e.file (place_in (dir.DomMd sd) n) ≡ d.file (place_in (dir.DomMd sd) n) → IsZeroFile size (file_in sd n d) → IsZeroFile size (file_in sd n e)
  zeros_stay size sd n same x = subst (λ (o : Option File). IsZeroFile size o) (sym same) x

  domain_stays : (sd : Id) (o : Option DomainRecord) (s : Option Said) → p.domain sd ≡ o → DomainStands up d p sd o s → DomainStands up e q sd o s
  domain_stays sd (Some r) s is x = record {
    text = text_stays sd (Ok r) x.text;
    version = x.version;
    folders = folders_stay sd x.folders;
    leases = keeps.leases sd r is;
    inboxes = boxes_stay (p.box inbox sd) sd name.Inbox inbox_apart x.inboxes;
    outboxes = boxes_stay (p.box outbox sd) sd name.Outbox outbox_apart x.outboxes;
    stray = x.stray;
    shows = x.shows;
  }
  domain_stays sd None (Some said) is x = record {
    text = text_stays sd said x.text;
    role = x.role;
    leases = zeros_stay lease_sectors sd name.Leases (keeps.unlisted sd is).leases x.leases;
    inboxes = zeros_stay box_sectors sd name.Inbox (keeps.md sd name.Inbox inbox_apart) x.inboxes;
    outboxes = zeros_stay box_sectors sd name.Outbox (keeps.md sd name.Outbox outbox_apart) x.outboxes;
    none = x.none;
    bare = bare_stays sd (keeps.unlisted sd is) x.bare;
  }
  domain_stays sd None None is x = record { text = keeps.md sd name.Metadata metadata_apart ∙ x.text; bare = bare_stays sd (keeps.unlisted sd is) x.bare }

  master_stays : (o : Option Id) → MasterStands p o → MasterStands q o
  master_stays None x = record { domain = x.domain; stray = x.stray }
  master_stays (Some a) x = record { is = x.is; listed = x.listed; role = x.role; lists = x.lists; others = x.others }

  pub frame : TasksStand e q → ((sd : Id) (r : DomainRecord) → p.domain sd ≡ Some r → (i : Id) → ImageStands up e q sd r.version i)
      → ((sd : Id) (r : DomainRecord) → p.domain sd ≡ Some r → (i : Id) → IsUnasked q sd i) → AreAlive up e
      → ((at : Place) (f : File) → e.file at ≡ Some f → HoldsName at.dir at.name) → Stands up e q
  frame tasks_stand image unasked alive layout = record {
    master = master_stays p.master stands.master;
    domain = λ sd. domain_stays sd (p.domain sd) (p.stray sd) refl (stands.domain sd);
    tasks = tasks_stand;
    image = image;
    unasked = unasked;
    alive = alive;
    layout = layout;
  }
