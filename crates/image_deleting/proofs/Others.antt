-- What a deletion knows, through changes of others.
use Rattle.std.proofs.Common.{◌≡◌, ◌⊎◌, ℕ, ◌<◌, Option, Some, None, refl, sym, ap, ◌∙◌, subst, inl, inr}
use Rattle.sd_names.specs.declared.place.Dir.{Dir}
use Rattle.sd_names.specs.declared.place.Place.{Place}
use Rattle.shared_disk.specs.Content.{Content, File}
use Rattle.shared_disk.specs.Crash.{DownLeaves, IsSettledFor}
use Rattle.shared_disk.proofs.Toolkit.{down_leaves_file, down_leaves_none}
use Rattle.lease_area.specs.Hold.{leases_of, record_of, slot_of}
use Rattle.lease_area.specs.Scan.{seen_by, steps_made}
use Rattle.lease_area.specs.declared.lease.Lease.{Lease as Held}
use Rattle.task_store.specs.declared.task.Task.{Task}
use Rattle.task_files.specs.Write.{Knows as KnowsWrite, file_of, volatile_of}
use Rattle.task_files.specs.declared.write.TaskWrite.{TaskWrite}
use Rattle.image_creating.specs.Sectors.{KeepsSectors}
use Rattle.image_creating.proofs.Reading.{read_kept}
use Rattle.image_creating.proofs.Sectors.{area_kept, keeps_itself, names_back, names_kept, unnamed_kept}
use Rattle.image_removing.specs.Removing.{own_folder as own_of, removed_folder as removed_of}
use Rattle.image_removing.specs.Steps.{IsGone, Knows as KnowsRemoving}
use Rattle.image_removing.specs.declared.removing.ImageRemoving.{ImageRemoving}
use Rattle.image_deleting.specs.Knowing.{IsFresh, IsHeld, IsOf, IsReady, IsWriting}
use Rattle.image_deleting.specs.Others.{IsImageKept, IsKeptByOthers, IsOwnPlace}
use Rattle.image_deleting.specs.RemovalTask.{IsOpen, domain_of, image_of, new_place_of, place_of}
use Rattle.image_deleting.specs.Sectors.{IsOnceIn, IsOnlyAt}
use Rattle.image_deleting.specs.Steps.{IsUntouched}
use Rattle.image_deleting.specs.declared.deleting.Stage.{Stage}
use Rattle.image_deleting.specs.declared.deleting.Stage.TheVariants.{Scanning, Taking, Opening, Removing, Clearing, Ending}
use Rattle.image_deleting.specs.declared.removal_task.RemovalTask.{RemovalTask}
use Rattle.image_deleting.proofs.Apart.{ids_same}

-- the laws of the work below: what it knows survives others
abbrev pub TextLaw : Type 0
TextLaw = (w : TaskWrite) (host : ℕ) (t : Task) (d e : Content) → e.dir (file_of w).dir ≡ d.dir (file_of w).dir → e.file (volatile_of w) ≡ d.file (volatile_of w) → KnowsWrite w host t d → KnowsWrite w host t e

abbrev pub FilesLaw : Type 0
FilesLaw =
    (r : ImageRemoving) (d e : Content) → e.dir (own_of r) ≡ d.dir (own_of r) → e.dir (removed_of r) ≡ d.dir (removed_of r)
    → ((q : Place) → (q.dir ≡ own_of r) ⊎ (q.dir ≡ removed_of r) → e.file q ≡ d.file q) → KnowsRemoving r d → KnowsRemoving r e

module _ (texts : TextLaw) (files : FilesLaw) (t : RemovalTask) (host : ℕ) (d e : Content) (kept : IsKeptByOthers t d e) where
  once_kept : (f g : File) → KeepsSectors f g → IsOnceIn (image_of t) f → IsOnceIn (image_of t) g
  once_kept f g keeps once j k j_is k_is first second =
      once j k j_is k_is (names_back (image_of t) (f.stable j) (g.stable j) (keeps.each j) first) (names_back (image_of t) (f.stable k) (g.stable k) (keeps.each k) second)

  only_kept : (slot : ℕ) (f g : File) → KeepsSectors f g → IsOnlyAt (image_of t) slot f → IsOnlyAt (image_of t) slot g
  only_kept slot f g keeps only k k_is names = only k k_is (names_back (image_of t) (f.stable k) (g.stable k) (keeps.each k) names)

  fresh_kept : IsFresh t d → IsFresh t e
  fresh_kept is = record { tasks = kept.tasks ∙ is.tasks; ids = kept.ids is.ids; task = kept.place ∙ is.task }

  open_kept : IsOpen t d → IsOpen t e
  open_kept is = (is.0, kept.place ∙ is.1, is.2)

  writing_kept : (text : Task) (w : TaskWrite) → IsWriting t text w host d → IsWriting t text w host e
  writing_kept text w is = record {
    file = is.file;
    volatile = is.volatile;
    write = texts w host text d e (ap (λ (p : Place). e.dir p.dir) is.file ∙ kept.tasks ∙ sym (ap (λ (p : Place). d.dir p.dir) is.file))
        (ap (λ (p : Place). e.file p) is.volatile ∙ kept.new_place ∙ sym (ap (λ (p : Place). d.file p) is.volatile)) is.write;
  }

  held_kept : (lease : Held) → IsHeld t lease host d → IsHeld t lease host e
  held_kept lease is =
      let one = kept.leases is.stands.file is.stands.there in
      let two = kept.leases is.only.0 is.only.1 in
      record {
        domain = is.domain;
        lease_is = is.lease_is;
        stands = record {
          file = one.0;
          there = one.1;
          within = subst (λ (n : ℕ). slot_of lease < n) (sym one.2.size) is.stands.within;
          settled = one.2.settled is.stands.settled;
          bytes_are = one.2.held (slot_of lease) (record_of lease) is.stands.bytes_are is.lease_is.kind_is ∙ is.stands.bytes_are;
        };
        only = (two.0, two.1, area_kept is.only.0 two.0 two.2 is.only.2, only_kept (slot_of lease) is.only.0 two.0 two.2 is.only.3);
      }

  removing_kept : (r : ImageRemoving) → IsOf t r → IsUntouched t d e → KnowsRemoving r d → KnowsRemoving r e
  removing_kept r is same knows =
      files r d e (ap (λ (q : Dir). e.dir q) is.own ∙ same.own ∙ sym (ap (λ (q : Dir). d.dir q) is.own))
      (ap (λ (q : Dir). e.dir q) is.removed ∙ same.removed ∙ sym (ap (λ (q : Dir). d.dir q) is.removed)) inside knows
    where
      inside : (q : Place) → (q.dir ≡ own_of r) ⊎ (q.dir ≡ removed_of r) → e.file q ≡ d.file q
      inside q (inl own) = same.files q (inl (own ∙ is.own))
      inside q (inr removed) = same.files q (inr (removed ∙ is.removed))

  gone_kept : IsUntouched t d e → IsGone (domain_of t) (image_of t) d → IsGone (domain_of t) (image_of t) e
  gone_kept same is = record { own = same.own ∙ is.own; removed = same.removed ∙ is.removed }

  pub ready_kept : (s : Stage) → IsImageKept s t d e → IsReady s t host d → IsReady s t host e
  ready_kept (Scanning s) image is =
      let one = kept.leases is.file is.there in
      record {
        fresh = fresh_kept is.fresh;
        domain = is.domain;
        image = is.image;
        file = one.0;
        there = one.1;
        area = area_kept is.file one.0 one.2 is.area;
        once = once_kept is.file one.0 one.2 is.once;
        read = read_kept (steps_made s) host (domain_of t) (image_of t) (seen_by s) is.file one.0 one.2 is.read;
      }
  ready_kept (Taking slot found) image is =
      let one = kept.leases is.file is.there in
      record {
        fresh = fresh_kept is.fresh;
        file = one.0;
        there = one.1;
        area = area_kept is.file one.0 one.2 is.area;
        only = only_kept slot is.file one.0 one.2 is.only;
        names = names_kept (image_of t) (is.file.stable slot) (one.0.stable slot) (one.2.each slot) is.names;
        found_is = is.found_is;
      }
  ready_kept (Opening lease w) image is = record { fresh = fresh_kept is.fresh; held = held_kept lease is.held; writing = writing_kept t.begun w is.writing }
  ready_kept (Removing lease r) image is = record {
    tasks = kept.tasks ∙ is.tasks;
    task = open_kept is.task;
    held = held_kept lease is.held;
    same = is.same;
    removing = removing_kept r is.same image is.removing;
  }
  ready_kept (Clearing lease) image is = record { tasks = kept.tasks ∙ is.tasks; task = open_kept is.task; held = held_kept lease is.held; gone = gone_kept image is.gone }
  ready_kept (Ending w) image is =
      let one = kept.leases is.unnamed.0 is.unnamed.1 in
      record {
        task = open_kept is.task;
        gone = gone_kept image is.gone;
        unnamed = (one.0, one.1, area_kept is.unnamed.0 one.0 one.2 is.unnamed.2, unnamed_kept (image_of t) is.unnamed.0 one.0 one.2 is.unnamed.3);
        writing = writing_kept t.done w is.writing;
      }

-- ---- another host goes down

module _ (t : RemovalTask) (other : ℕ) (d e : Content) (down : DownLeaves d other e) (settled : (q : Place) (f : File) → IsOwnPlace t q → d.file q ≡ Some f → IsSettledFor other f) where
  file_at : (q : Place) (o : Option File) → IsOwnPlace t q → d.file q ≡ o → e.file q ≡ o
  file_at q None own is = down_leaves_none d e other q down is
  file_at q (Some f) own is = down_leaves_file d e other q f down is (settled q f own is)

  own_file : (q : Place) → IsOwnPlace t q → e.file q ≡ d.file q
  own_file q own = file_at q (d.file q) own refl

  pub untouched_at_down : IsUntouched t d e
  untouched_at_down = record { own = down.dirs _; removed = down.dirs _; files = λ q inside. own_file q (inr (inr (inr inside))) }

  pub kept_at_down : IsKeptByOthers t d e
  kept_at_down = record {
    tasks = down.dirs _;
    place = own_file (place_of t) (inl refl);
    new_place = own_file (new_place_of t) (inr (inl refl));
    leases = λ f there. (f, own_file (leases_of (domain_of t)) (inr (inr (inl refl))) ∙ there, keeps_itself f);
    ids = ids_same t 0 d e untouched_at_down;
  }

  pub image_at_down : (s : Stage) → IsImageKept s t d e
  image_at_down (Scanning s) = tt
  image_at_down (Taking slot found) = tt
  image_at_down (Opening lease w) = untouched_at_down
  image_at_down (Removing lease r) = untouched_at_down
  image_at_down (Clearing lease) = untouched_at_down
  image_at_down (Ending w) = untouched_at_down
