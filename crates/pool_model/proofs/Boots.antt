-- A disk that stands for a pool still does once more hosts are up.
use Rattle.std.proofs.Common.{◌≡◌, ℕ, true, Option, Some, None}
use Rattle.sd_names.specs.UpSet.{Hosts, is_up}
use Rattle.sd_names.specs.declared.fault.DomainFault.{DomainFault}
use Rattle.sd_names.specs.declared.id.Id.{Id}
use Rattle.std.specs.Prelude.{Result}
use Rattle.shared_disk.specs.Content.{Content, File}
use Rattle.domain_meta.specs.declared.record.DomainRecord.{DomainRecord}
use Rattle.pool_model.specs.Pool.{Box, Image, Pool, Torn}
use Rattle.pool_model.specs.Standing.{BoxesStand, DomainStands, ImageStands, IsThere, IsTornBy, ListedStands, Stands}

abbrev More : Hosts → Hosts → Type 0
More up now = (h : ℕ) → is_up up h ≡ true → is_up now h ≡ true

more_boxes : (up now : Hosts) (b : ℕ → Box) (o : Option File) → More up now → BoxesStand up b o → BoxesStand now b o
more_boxes up now b o more x = record {
  file = x.file;
  there = x.there;
  made = x.made;
  size = x.size;
  each = x.each;
  past = x.past;
  loose = x.loose;
  up_is = λ h w among. more w.host (x.up_is h w among);
}

more_listed : (up now : Hosts) (d : Content) (p : Pool) (sd : Id) (r : DomainRecord) → More up now → ListedStands up d p sd r → ListedStands now d p sd r
more_listed up now d p sd r more x = record {
  text = x.text;
  version = x.version;
  folders = x.folders;
  leases = x.leases;
  inboxes = more_boxes up now _ _ more x.inboxes;
  outboxes = more_boxes up now _ _ more x.outboxes;
  stray = x.stray;
  shows = x.shows;
}

more_domain : (up now : Hosts) (d : Content) (p : Pool) (sd : Id) (o : Option DomainRecord) (s : Option (Result DomainRecord DomainFault)) → More up now
    → DomainStands up d p sd o s → DomainStands now d p sd o s
more_domain up now d p sd (Some r) s more x = more_listed up now d p sd r more x
more_domain up now d p sd None (Some t) more x = x
more_domain up now d p sd None None more x = x

more_torn : (up now : Hosts) (p : Pool) (sd i : Id) (o : Option Torn) → More up now → IsTornBy up p sd i o → IsTornBy now p sd i o
more_torn up now p sd i None more x = x
more_torn up now p sd i (Some t) more (h, guest, here) = (h, guest, more h here)

more_there : (up now : Hosts) (d : Content) (p : Pool) (sd : Id) (version : ℕ) (i : Id) (m : Image) → More up now → IsThere up d p sd version i m
    → IsThere now d p sd version i m
more_there up now d p sd version i m more x = record {
  image = x.image;
  folder = x.folder;
  removed = x.removed;
  means = x.means;
  texts = x.texts;
  zeros = x.zeros;
  torn = more_torn up now p sd i m.torn more x.torn;
}

more_image : (up now : Hosts) (d : Content) (p : Pool) (sd : Id) (version : ℕ) (i : Id) → More up now → ImageStands up d p sd version i
    → ImageStands now d p sd version i
more_image up now d p sd version i more x = record {
  gone = x.gone;
  there = λ named idle. let is = x.there named idle in (is.0, more_there up now d p sd version i is.0 more is.1);
  making = x.making;
  held = x.held;
}

pub more_stand : (up now : Hosts) (d : Content) (p : Pool) → More up now → Stands up d p → Stands now d p
more_stand up now d p more x = record {
  master = x.master;
  domain = λ sd. more_domain up now d p sd (p.domain sd) (p.stray sd) more (x.domain sd);
  tasks = x.tasks;
  image = λ sd r listed i. more_image up now d p sd r.version i more (x.image sd r listed i);
  unasked = x.unasked;
  alive = λ q f there. record {
    loose = λ l among. more l.host ((x.alive q f there).loose l among);
    fresh = λ h is. more h ((x.alive q f there).fresh h is);
  };
  layout = x.layout;
}
