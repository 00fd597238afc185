-- A host without a write under way goes down: the disk stands for the pool that it stood for.
use Rattle.std.proofs.Common.{◌≡◌, ◌≢◌, ◌⊎◌, ℕ, ◌+◌, ◌*◌, ◌==◌, not, Bool, true, false, List, [], ◌∷◌, Option, Some, None, Ok, eq-eqb, refl, sym, ap, subst, ◌∙◌, inl, inr}
use Rattle.std.proofs.lemmas.Bool.{eqb-true}
use Rattle.std.specs.List.{filter}
use Rattle.std.specs.Prelude.{Contains, if◌then◌else◌}
use Rattle.sd_names.specs.UpSet.{Hosts, is_up}
use Rattle.sd_names.specs.declared.id.Id.{Id}
use Rattle.sd_names.specs.declared.place.Dir.{Dir}
use Rattle.sd_names.specs.declared.place.Dir.TheVariants as dir
use Rattle.sd_names.specs.declared.place.Name.{Name}
use Rattle.sd_names.specs.declared.place.Name.TheVariants as name
use Rattle.sd_names.specs.declared.place.Place.{Place}
use Rattle.shared_disk.specs.Content.{Content, File, Loose, unless_by}
use Rattle.shared_disk.specs.Crash.{DownLeaves, IsAlso, IsDownFile, IsFileOutcome, IsSettled, IsSettledFor}
use Rattle.shared_disk.specs.NameCalls.{place_in}
use Rattle.shared_disk.proofs.AtPlace.{also_some}
use Rattle.shared_disk.proofs.Outcomes.{contains_here, contains_more, down_file, down_sector, nothing_in, unless_some, without_among, without_apart}
use Rattle.shared_disk.proofs.Toolkit.{down_leaves_file, down_leaves_none}
use Rattle.domain_meta.specs.declared.record.DomainRecord.{DomainRecord}
use Rattle.task_store.specs.declared.task.Task.{Task}
use Rattle.chain_model.specs.Folder.{Folder, IsFolderOutcome, folder_of}
use Rattle.pool_model.specs.Downs.{AlsoChosen, DownPool}
use Rattle.pool_model.specs.Laws.{IsQuiet}
use Rattle.pool_model.specs.Leases.{IsGuest}
use Rattle.pool_model.specs.Pool.{Box, Image, Pool, Torn, Writing, inbox, outbox}
use Rattle.pool_model.specs.Rules.{Chosen, ChosenBy}
use Rattle.pool_model.specs.Standing.{BoxesStand, DomainStands, HasDomainText, HasFolders, HasStored, ImageStands, IsAlive, IsBare, IsHeldFile, IsThere, IsTornBy, IsVolumeName, IsZeroFile, LeasesStand, ShowsImage, Stands, TaskAt, TasksStand, file_in}
use Rattle.pool_model.proofs.OneDomain.{Said}

-- ---- the pool stays

chosen_itself : (m : Image) (o : Option Torn) → m.torn ≡ o → o ≡ None → Chosen m m
chosen_itself m o is none = subst (λ (t : Option Torn). ChosenBy t m m) (sym (is ∙ none)) refl

all_kept : (h : ℕ) (ws : List Writing) → ((w : Writing) → Contains ws w → w.host ≢ h) → filter (λ w. not (w.host == h)) ws ≡ ws
all_kept h [] none = refl
all_kept h (w ∷ ws) none =
    ap (λ (b : Bool). if not b then w ∷ filter (λ v. not (v.host == h)) ws else filter (λ v. not (v.host == h)) ws) (other (w.host == h) refl)
    ∙ ap (λ (vs : List Writing). w ∷ vs) (all_kept h ws (λ v among. none v (contains_more w v ws among)))
  where
    other : (b : Bool) → (w.host == h) ≡ b → (w.host == h) ≡ false
    other false e = e
    other true e = absurd (none w (contains_here w ws) (eqb-true w.host h e))

also_chosen : (o : Option Image) → ((m : Image) → o ≡ Some m → m.torn ≡ None) → AlsoChosen o o
also_chosen None quiet = tt
also_chosen (Some m) quiet = chosen_itself m m.torn refl (quiet m refl)

pub down_pool : (h : ℕ) (p : Pool) → IsQuiet h p → DownPool h p p
down_pool h p quiet = record {
  master = refl;
  domain = refl;
  stray = refl;
  shows = refl;
  sector = refl;
  task = refl;
  history = refl;
  image = λ sd i. record { held = λ guest. also_chosen (p.image sd i) (λ m there. quiet.images sd i m guest there); other = λ none. refl };
  box = λ side sd g. record { sectors = λ k. inl refl; writings = sym (all_kept h (p.box side sd g).writings (quiet.boxes side sd g)) };
}

-- ---- files

none_some : {A : Type 0} (o : Option A) (a : A) → o ≡ None → o ≡ Some a → ⊥
none_some o a e f = cc

settled_for : (h : ℕ) (f : File) → IsSettled f → IsSettledFor h f
settled_for h f settled = record {
  loose = λ l among. absurd (nothing_in l (subst (λ (ls : List Loose). Contains ls l) settled.loose among));
  fresh = λ is. none_some f.fresh h settled.fresh is;
}

fresh_of_other : (h g : ℕ) (o : Option ℕ) → unless_by h o ≡ Some g → g ≢ h
fresh_of_other h g o is same = none_some (unless_by h (Some g)) g (ap (λ (b : Bool). if b then None else Some g) (eq-eqb g h same))
    (subst (λ (x : Option ℕ). unless_by h x ≡ Some g) (unless_some h g o is) is)

also_back : (h : ℕ) (a b : Option File) (g : File) → IsAlso (IsDownFile h) a b → b ≡ Some g → (f : File) × (a ≡ Some f) × IsDownFile h f g
also_back h None None g also is = absurd (none_some None g refl is)
also_back h None (Some b) g also is = absurd also
also_back h (Some a) None g also is = absurd also
also_back h (Some a) (Some b) g also is = (a, refl, subst (λ (f : File). IsDownFile h a f) (one b g is) also)
  where
    one : (x y : File) → Some x ≡ Some y → x ≡ y
    one x y e = cc

also_outcome : (h : ℕ) (a b c : Option File) → IsAlso (IsDownFile h) a b → IsAlso IsFileOutcome b c → IsAlso IsFileOutcome a c
also_outcome h None None c down out = out
also_outcome h None (Some b) c down out = absurd down
also_outcome h (Some a) None c down out = absurd down
also_outcome h (Some a) (Some b) None down out = absurd out
also_outcome h (Some a) (Some b) (Some c) down out = down_file h a b c down out

module _ (up now : Hosts) (d e : Content) (p : Pool) (h : ℕ) (stands : Stands up d p) (down : DownLeaves d h e)
    (others : (g : ℕ) → g ≢ h → is_up up g ≡ true → is_up now g ≡ true) (quiet : IsQuiet h p) where
  place_same : (at : Place) (f : File) → d.file at ≡ Some f → IsSettled f → e.file at ≡ d.file at
  place_same at f there settled = down_leaves_file d e h at f down there (settled_for h f settled) ∙ sym there

  was_file : (at : Place) (g : File) → e.file at ≡ Some g → (f : File) × (d.file at ≡ Some f) × IsDownFile h f g
  was_file at g is = also_back h (d.file at) (e.file at) g (down.files at) is

  is_file : (at : Place) (f : File) → d.file at ≡ Some f → (g : File) × (e.file at ≡ Some g) × IsDownFile h f g
  is_file at f is = also_some (IsDownFile h) (d.file at) (e.file at) f (down.files at) is

  stored_down : (at : Place) (text : List ℕ) → HasStored d at text → HasStored e at text
  stored_down at text x = record {
    file = x.file;
    there = place_same at x.file x.there x.settled ∙ x.there;
    settled = x.settled;
    stored = x.stored;
  }

  text_down : (sd : Id) (t : Said) → HasDomainText d sd t → HasDomainText e sd t
  text_down sd t x = (x.0, stored_down _ x.0 x.1, x.2)

  leases_down : (sd : Id) → LeasesStand (p.sector sd) (file_in sd name.Leases d) → LeasesStand (p.sector sd) (file_in sd name.Leases e)
  leases_down sd x = subst (λ (o : Option File). LeasesStand (p.sector sd) o) (sym (place_same (place_in (dir.DomMd sd) name.Leases) x.file x.there x.settled)) x

  zeros_down : (size : ℕ) (sd : Id) (n : Name) → IsZeroFile size (file_in sd n d) → IsZeroFile size (file_in sd n e)
  zeros_down size sd n x = subst (λ (o : Option File). IsZeroFile size o) (sym (place_same (place_in (dir.DomMd sd) n) x.file x.there x.settled)) x

  boxes_down : (b : ℕ → Box) (sd : Id) (n : Name) → ((a : ℕ) (w : Writing) → Contains (b a).writings w → w.host ≢ h) → BoxesStand up b (file_in sd n d)
      → BoxesStand now b (file_in sd n e)
  boxes_down b sd n none x =
      let is = is_file (place_in (dir.DomMd sd) n) x.file x.there in
      record {
        file = is.0;
        there = is.1;
        made = is.2.fresh ∙ ap (λ (o : Option ℕ). unless_by h o) x.made;
        size = is.2.size ∙ x.size;
        each = λ a k low within bytes out. x.each a k low within bytes (down_sector h (8 * a + k) x.file is.0 bytes is.2 out);
        past = x.past;
        loose = λ l among. x.loose l (without_among h x.file.loose l (subst (λ (ls : List Loose). Contains ls l) is.2.loose among));
        up_is = λ a w among. others w.host (none a w among) (x.up_is a w among);
      }

  folders_down : (sd : Id) → HasFolders d sd → HasFolders e sd
  folders_down sd x = record {
    own = down.dirs (dir.Domain sd) ∙ x.own;
    md = down.dirs (dir.DomMd sd) ∙ x.md;
    images = down.dirs (dir.Images sd) ∙ x.images;
    master = down.dirs (dir.Master sd) ∙ x.master;
    tasks = down.dirs (dir.Tasks sd) ∙ x.tasks;
  }

  shows_down : (sd : Id) → ShowsImage d sd → ShowsImage e sd
  shows_down sd (i, inl there) = (i, inl (down.dirs (dir.Image sd i) ∙ there))
  shows_down sd (i, inr there) = (i, inr (down.dirs (dir.Removed sd i) ∙ there))

  showed : (sd : Id) → ShowsImage e sd → ShowsImage d sd
  showed sd (i, inl there) = (i, inl (sym (down.dirs (dir.Image sd i)) ∙ there))
  showed sd (i, inr there) = (i, inr (sym (down.dirs (dir.Removed sd i)) ∙ there))

  bare_down : (sd : Id) → IsBare d p sd → IsBare e p sd
  bare_down sd x = record {
    sector = x.sector;
    box = x.box;
    image = x.image;
    shown = λ is. shows_down sd (x.shown is);
    hidden = λ is shows. x.hidden is (showed sd shows);
  }

  domain_down : (sd : Id) (o : Option DomainRecord) (s : Option Said) → DomainStands up d p sd o s → DomainStands now e p sd o s
  domain_down sd (Some r) s x = record {
    text = text_down sd (Ok r) x.text;
    version = x.version;
    folders = folders_down sd x.folders;
    leases = leases_down sd x.leases;
    inboxes = boxes_down (p.box inbox sd) sd name.Inbox (quiet.boxes inbox sd) x.inboxes;
    outboxes = boxes_down (p.box outbox sd) sd name.Outbox (quiet.boxes outbox sd) x.outboxes;
    stray = x.stray;
    shows = x.shows;
  }
  domain_down sd None (Some t) x = record {
    text = text_down sd t x.text;
    role = x.role;
    leases = zeros_down _ sd name.Leases x.leases;
    inboxes = zeros_down _ sd name.Inbox x.inboxes;
    outboxes = zeros_down _ sd name.Outbox x.outboxes;
    none = x.none;
    bare = bare_down sd x.bare;
  }
  domain_down sd None None x = record { text = down_leaves_none d e h _ down x.text; bare = bare_down sd x.bare }

  task_down : (sd t : Id) (o : Option Task) → TaskAt d sd t o → TaskAt e sd t o
  task_down sd t None x = down_leaves_none d e h _ down x
  task_down sd t (Some y) x = record { text = x.text; stored = stored_down _ x.text x.stored; short = x.short; reads = x.reads }

  tasks_down : TasksStand d p → TasksStand e p
  tasks_down x = record {
    each = λ m t is. task_down m t (p.task t) (x.each m t is);
    elsewhere = λ sd t apart. down_leaves_none d e h _ down (x.elsewhere sd t apart);
    unmade = x.unmade;
    listed = x.listed;
    are = x.are;
    few = x.few;
    one = x.one;
    built = x.built;
    inside = x.inside;
  }

  torn_down : (sd i : Id) (m : Image) (o : Option Torn) → p.image sd i ≡ Some m → m.torn ≡ o → IsTornBy up p sd i o → IsTornBy now p sd i o
  torn_down sd i m None there is x = tt
  torn_down sd i m (Some t) there is (g, guest, alive) = (
    g,
    guest,
    others g (λ same. none_some (Some t) t
        (sym is ∙ quiet.images sd i m (subst (λ (a : ℕ). IsGuest p sd i a) same guest) there) refl) alive,
  )

  folder_down : (at : Dir) (G : Folder) → IsFolderOutcome (folder_of at e) G → IsFolderOutcome (folder_of at d) G
  folder_down at G out n = also_outcome h (d.file (place_in at n)) (e.file (place_in at n)) (G n) (down.files (place_in at n)) (out n)

  there_down : (sd : Id) (version : ℕ) (i : Id) (m : Image) → IsThere up d p sd version i m → IsThere now e p sd version i m
  there_down sd version i m x = record {
    image = x.image;
    folder = down.dirs (dir.Image sd i) ∙ x.folder;
    removed = down.dirs (dir.Removed sd i) ∙ x.removed;
    means = λ G out. x.means G (folder_down (dir.Image sd i) G out);
    texts = λ v f is.
        let was = was_file (place_in (dir.Image sd i) (name.Volume v)) f is in
        let text = x.texts v was.0 was.1 in
        let still = is_file (place_in (dir.Image sd i) (name.Meta v)) text.0 text.1 in
        (still.0, still.1);
    zeros = λ n f zero is. let was = was_file (place_in (dir.Image sd i) n) f is in x.zeros n was.0 zero was.1;
    torn = torn_down sd i m m.torn x.image refl x.torn;
  }

  held_down : (sd i : Id) (f g : File) → IsDownFile h f g → IsHeldFile p sd i f → IsHeldFile p sd i g
  held_down sd i f g is x = record {
    loose = λ l among. x.loose l (without_among h f.loose l (subst (λ (ls : List Loose). Contains ls l) is.loose among));
    fresh = λ a made. x.fresh a (unless_some h a f.fresh (sym is.fresh ∙ made));
  }

  image_down : (sd : Id) (version : ℕ) (i : Id) → ImageStands up d p sd version i → ImageStands now e p sd version i
  image_down sd version i x = record {
    gone = λ none. let gone = x.gone none in record {
      image = gone.image;
      folder = down.dirs (dir.Image sd i) ∙ gone.folder;
      removed = down.dirs (dir.Removed sd i) ∙ gone.removed;
    };
    there = λ named idle. let there = x.there named idle in (there.0, there_down sd version i there.0 there.1);
    making = x.making;
    held = λ n f is at. held n f is at;
  }
    where
      held : (n : Name) (f : File) → IsVolumeName n → (e.file (place_in (dir.Image sd i) n) ≡ Some f) ⊎ (e.file (place_in (dir.Removed sd i) n) ≡ Some f) → IsHeldFile p sd i f
      held n f is (inl at) = let was = was_file (place_in (dir.Image sd i) n) f at in held_down sd i was.0 f was.2 (x.held n was.0 is (inl was.1))
      held n f is (inr at) = let was = was_file (place_in (dir.Removed sd i) n) f at in held_down sd i was.0 f was.2 (x.held n was.0 is (inr was.1))

  alive_down : (f g : File) → IsDownFile h f g → IsAlive up f → IsAlive now g
  alive_down f g is x = record {
    loose = λ l among.
        let kept = subst (λ (ls : List Loose). Contains ls l) is.loose among in
        others l.host (without_apart h f.loose l kept) (x.loose l (without_among h f.loose l kept));
    fresh = λ a made.
        let was = sym is.fresh ∙ made in
        others a (fresh_of_other h a f.fresh was) (x.fresh a (unless_some h a f.fresh was));
  }

  pub down_stands : Stands now e p
  down_stands = record {
    master = stands.master;
    domain = λ sd. domain_down sd (p.domain sd) (p.stray sd) (stands.domain sd);
    tasks = tasks_down stands.tasks;
    image = λ sd r listed i. image_down sd r.version i (stands.image sd r listed i);
    unasked = stands.unasked;
    alive = λ at f there. let was = was_file at f there in alive_down was.0 f was.2 (stands.alive at was.0 was.1);
    layout = λ at f there. let was = was_file at f there in stands.layout at was.0 was.1;
  }
