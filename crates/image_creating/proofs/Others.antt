-- What a creation knows, through changes of others.
use Rattle.std.proofs.Common.{◌≡◌, ℕ, ◌<◌, Option, Some, None, refl, sym, ap, ◌∙◌, subst, inl, inr}
use Rattle.sd_names.specs.declared.place.Dir.TheVariants.{Images}
use Rattle.sd_names.specs.declared.place.Place.{Place}
use Rattle.shared_disk.specs.Content.{Content, File}
use Rattle.shared_disk.specs.Crash.{DownLeaves, IsSettledFor}
use Rattle.shared_disk.proofs.Toolkit.{down_leaves_file, down_leaves_none}
use Rattle.lease_area.specs.Hold.{leases_of, slot_of}
use Rattle.lease_area.specs.Move.{made_by}
use Rattle.lease_area.specs.Scan.{seen_by, steps_made}
use Rattle.lease_area.specs.declared.lease.Lease.{Lease as Held}
use Rattle.lease_area.specs.declared.scan.Scan.{Scan}
use Rattle.task_store.specs.declared.task.Task.{Task}
use Rattle.task_files.specs.Write.{Knows as KnowsWrite, file_of, volatile_of}
use Rattle.task_files.specs.declared.write.TaskWrite.{TaskWrite}
use Rattle.image_making.specs.Making.{image_of as made_in}
use Rattle.image_making.specs.NewImage.{folder_of}
use Rattle.image_making.specs.Steps.{Knows as KnowsMaking}
use Rattle.image_making.specs.declared.making.ImageMaking.{ImageMaking}
use Rattle.image_making.specs.declared.making.NewImage.{NewImage}
use Rattle.image_creating.specs.ImageTask.{HasNone, IsDone, IsOpen, domain_of, image_of, new_place_of, place_of}
use Rattle.image_creating.specs.Knowing.{IsFresh, IsHeld, IsPlaced, IsReady, IsScanning, IsWriting}
use Rattle.image_creating.specs.Others.{IsKeptByOthers, IsOwnPlace}
use Rattle.image_creating.specs.declared.creating.Stage.{Stage}
use Rattle.image_creating.specs.declared.creating.Stage.TheVariants.{Asking, Scanning, Opening, Taking, Making, Ending, Releasing}
use Rattle.image_creating.specs.declared.image_task.ImageTask.{ImageTask}
use Rattle.image_creating.proofs.Apart.{image_left}
use Rattle.image_creating.proofs.Reading.{read_kept}
use Rattle.image_creating.proofs.Sectors.{area_kept, keeps_itself, least_kept, unnamed_kept}

-- the laws of the work below: what it knows survives others
abbrev pub TextLaw : Type 0
TextLaw = (w : TaskWrite) (host : ℕ) (t : Task) (d e : Content) → e.dir (file_of w).dir ≡ d.dir (file_of w).dir → e.file (volatile_of w) ≡ d.file (volatile_of w) → KnowsWrite w host t d → KnowsWrite w host t e

abbrev pub ImageLaw : Type 0
ImageLaw =
    (m : ImageMaking) (host : ℕ) (d e : Content) → e.dir (Images (made_in m).says.domain) ≡ d.dir (Images (made_in m).says.domain) → e.dir (folder_of (made_in m)) ≡ d.dir (folder_of (made_in m))
    → ((q : Place) → q.dir ≡ folder_of (made_in m) → e.file q ≡ d.file q) → KnowsMaking m host d → KnowsMaking m host e

module _ (texts : TextLaw) (images : ImageLaw) (t : ImageTask) (x : NewImage) (host : ℕ) (d e : Content) (kept : IsKeptByOthers t x d e) where
  fresh_kept : (m : ImageMaking) → IsFresh t x m d → IsFresh t x m e
  fresh_kept m is = record { same = is.same; making = is.making; images = kept.images ∙ is.images; tasks = kept.tasks ∙ is.tasks }

  placed_kept : (m : ImageMaking) (slot : ℕ) → IsPlaced t x m slot d → IsPlaced t x m slot e
  placed_kept m slot is =
      let one = kept.leases is.unnamed.0 is.unnamed.1 in
      let two = kept.leases is.empty.0 is.empty.1 in
      record {
        fresh = fresh_kept m is.fresh;
        none = kept.folder ∙ is.none;
        unnamed = (one.0, one.1, area_kept is.unnamed.0 one.0 one.2 is.unnamed.2, unnamed_kept (image_of t) is.unnamed.0 one.0 one.2 is.unnamed.3);
        empty = (two.0, two.1, least_kept slot is.empty.0 two.0 two.2 is.empty.2);
      }

  none_kept : HasNone t d → HasNone t e
  none_kept is = kept.place ∙ is

  open_kept : IsOpen t d → IsOpen t e
  open_kept is = (is.0, kept.place ∙ is.1, is.2)

  done_kept : IsDone t d → IsDone t e
  done_kept is = (is.0, kept.place ∙ is.1, is.2)

  writing_kept : (text : Task) (w : TaskWrite) → IsWriting t text w host d → IsWriting t text w host e
  writing_kept text w is = record {
    file = is.file;
    volatile = is.volatile;
    write = texts w host text d e (ap (λ (p : Place). e.dir p.dir) is.file ∙ kept.tasks ∙ sym (ap (λ (p : Place). d.dir p.dir) is.file))
        (ap (λ (p : Place). e.file p) is.volatile ∙ kept.new_place ∙ sym (ap (λ (p : Place). d.file p) is.volatile)) is.write;
  }

  held_kept : (lease : Held) → IsHeld t lease host d → IsHeld t lease host e
  held_kept lease is =
      let one = kept.leases is.stands.file is.stands.there in
      record {
        domain = is.domain;
        lease_is = is.lease_is;
        stands = record {
          file = one.0;
          there = one.1;
          within = subst (λ (n : ℕ). slot_of lease < n) (sym one.2.size) is.stands.within;
          settled = one.2.settled is.stands.settled;
          bytes_are = one.2.held (slot_of lease) (made_by host (image_of t)) is.stands.bytes_are refl ∙ is.stands.bytes_are;
        };
      }

  scanning_kept : (m : ImageMaking) (s : Scan) → IsScanning t x m s host d → IsScanning t x m s host e
  scanning_kept m s is =
      let one = kept.leases is.file is.there in
      record {
        fresh = fresh_kept m is.fresh;
        none = kept.folder ∙ is.none;
        task = none_kept is.task;
        domain = is.domain;
        image = is.image;
        file = one.0;
        there = one.1;
        area = area_kept is.file one.0 one.2 is.area;
        read = read_kept (steps_made s) host (domain_of t) (image_of t) (seen_by s) is.file one.0 one.2 is.read;
      }

  making_kept : (m : ImageMaking) → made_in m ≡ x → KnowsMaking m host d → KnowsMaking m host e
  making_kept m is knows =
      images m host d e (ap (λ (y : NewImage). e.dir (Images y.says.domain)) is ∙ kept.images ∙ sym (ap (λ (y : NewImage). d.dir (Images y.says.domain)) is))
      (ap (λ (y : NewImage). e.dir (folder_of y)) is ∙ kept.folder ∙ sym (ap (λ (y : NewImage). d.dir (folder_of y)) is))
      (λ q inside. kept.files q (inside ∙ ap (λ (y : NewImage). folder_of y) is)) knows

  pub ready_kept : (s : Stage) → IsReady s t x host d → IsReady s t x host e
  ready_kept (Asking m) is =
      let one = kept.leases is.area.0 is.area.1 in
      record { fresh = fresh_kept m is.fresh; task = none_kept is.task; area = (one.0, one.1, area_kept is.area.0 one.0 one.2 is.area.2) }
  ready_kept (Scanning m s) is = scanning_kept m s is
  ready_kept (Opening m slot w) is = record { placed = placed_kept m slot is.placed; task = none_kept is.task; writing = writing_kept t.begun w is.writing }
  ready_kept (Taking m slot) is = record { placed = placed_kept m slot is.placed; task = open_kept is.task }
  ready_kept (Making m lease) is = record {
    same = is.same;
    image = is.image;
    tasks = kept.tasks ∙ is.tasks;
    task = open_kept is.task;
    held = held_kept lease is.held;
    making = making_kept m is.image is.making;
  }
  ready_kept (Ending lease w) is = record {
    same = is.same;
    task = open_kept is.task;
    held = held_kept lease is.held;
    writing = writing_kept t.done w is.writing;
    image = image_left x d e kept.folder kept.files is.image;
  }
  ready_kept (Releasing lease) is =
      record { same = is.same; task = done_kept is.task; held = held_kept lease is.held; image = image_left x d e kept.folder kept.files is.image }

-- ---- another host goes down

module _ (t : ImageTask) (x : NewImage) (other : ℕ) (d e : Content) (down : DownLeaves d other e)
    (settled : (q : Place) (f : File) → IsOwnPlace t x q → d.file q ≡ Some f → IsSettledFor other f) where
  file_at : (q : Place) (o : Option File) → IsOwnPlace t x q → d.file q ≡ o → e.file q ≡ o
  file_at q None own is = down_leaves_none d e other q down is
  file_at q (Some f) own is = down_leaves_file d e other q f down is (settled q f own is)

  own_file : (q : Place) → IsOwnPlace t x q → e.file q ≡ d.file q
  own_file q own = file_at q (d.file q) own refl

  pub kept_at_down : IsKeptByOthers t x d e
  kept_at_down = record {
    tasks = down.dirs _;
    images = down.dirs _;
    folder = down.dirs _;
    place = own_file (place_of t) (inl refl);
    new_place = own_file (new_place_of t) (inr (inl refl));
    files = λ q inside. own_file q (inr (inr (inr inside)));
    leases = λ f there. (f, own_file (leases_of (domain_of t)) (inr (inr (inl refl))) ∙ there, keeps_itself f);
  }
