-- What a clearing knows, through changes of others.
use Rattle.std.proofs.Common.{◌≡◌, ℕ, ◌*◌, ◌<◌, Option, Some, None, refl, sym, ap, ◌∙◌, subst, inl, inr, ◌≤◌, arith}
use Rattle.sd_names.specs.declared.id.Id.{Id}
use Rattle.sd_names.specs.declared.place.Dir.{Dir}
use Rattle.sd_names.specs.declared.place.Dir.TheVariants as dir
use Rattle.sd_names.specs.declared.place.Name.{Name}
use Rattle.shared_disk.specs.Content.{Content, File}
use Rattle.shared_disk.specs.Crash.{DownLeaves, IsAlso, IsDownFile, IsSettledFor}
use Rattle.shared_disk.specs.NameCalls.{ShowsName, place_in}
use Rattle.shared_disk.proofs.Toolkit.{down_leaves_file}
use Rattle.lease_area.specs.Hold.{leases_of}
use Rattle.lease_area.specs.Scan.{seen_by, steps_made}
use Rattle.lease_area.specs.Sector.{sector_in}
use Rattle.lease_area.specs.declared.scan.Scan.{Scan}
use Rattle.lease_area.specs.declared.sector.LeaseRecord.{LeaseRecord}
use Rattle.image_removing.specs.Removing.{own_folder, removed_folder, stage_of as removal_stage}
use Rattle.image_removing.specs.Steps.{HaveIds, IsOwnGone, IsReady as IsRemovalReady, KnowsIn}
use Rattle.image_removing.specs.declared.removing.ImageRemoving.{ImageRemoving}
use Rattle.image_removing.specs.declared.removing.Pass.{Pass}
use Rattle.image_removing.specs.declared.removing.Pass.TheVariants.{Earlier, Moved}
use Rattle.image_removing.specs.declared.removing.Stage.{Stage as RemovalStage}
use Rattle.image_removing.specs.declared.removing.Stage.TheVariants as removal
use Rattle.image_clearing.specs.Knowing.{AreTasked, HaveImageIds, IsEmptying, IsFound, IsHeld, IsReady, IsRemoving, IsScanning}
use Rattle.image_clearing.specs.Others.{IsKeptByOthers, KeepsImage}
use Rattle.image_clearing.specs.declared.clearing.Stage.{Stage}
use Rattle.image_clearing.specs.declared.clearing.Stage.TheVariants.{Scanning, Removing, Emptying}

-- ---- a removal, where no name joins

module _ (own removed : Dir) (d e : Content) (own_is : e.dir own ≡ d.dir own) (removed_is : e.dir removed ≡ d.dir removed) (shown_own : (n : Name) → ShowsName e own n → ShowsName d own n)
    (shown_removed : (n : Name) → ShowsName e removed n → ShowsName d removed n) where
  ids_stay : HaveIds own removed d → HaveIds own removed e
  ids_stay ids n (inl shows) = ids n (inl (shown_own n shows))
  ids_stay ids n (inr shows) = ids n (inr (shown_removed n shows))

  own_stays : (pass : Pass) → IsOwnGone pass own d → IsOwnGone pass own e
  own_stays Earlier gone = tt
  own_stays Moved gone = own_is ∙ gone

  removal_ready : (s : RemovalStage) → IsRemovalReady s own removed d → IsRemovalReady s own removed e
  removal_ready (removal.Listing pass after) k = (λ n shows. k.0 n (shown_removed n shows), own_stays pass k.1)
  removal_ready (removal.Removing pass n) k = (λ m shows. k.0 m (shown_removed m shows), own_stays pass k.1)
  removal_ready (removal.Ending pass) k = (λ n shows. k.0 n (shown_removed n shows), own_stays pass k.1)
  removal_ready removal.Moving k = removed_is ∙ k

  removal_kept : (s : RemovalStage) → KnowsIn s own removed d → KnowsIn s own removed e
  removal_kept s k = (ids_stay k.0, removal_ready s k.1)

-- ---- sectors

module _ (image : Id) (f g : File) (keeps : KeepsImage image f g) where
  tasked_kept : AreTasked image f → AreTasked image g
  tasked_kept tasked k r slot is image_is =
      let was = keeps.named k slot (r, is, image_is) in
      let same = keeps.held k was.0 slot was.1 was.2 (tasked k was.0 slot was.1 was.2) in
      tasked k r slot (ap sector_in (sym same) ∙ is) image_is

  found_kept : (bound : ℕ) (o : Option (ℕ × LeaseRecord)) → (bound ≤ 1024) → IsFound image bound o f → IsFound image bound o g
  found_kept bound None few none = λ k some below names. none k some below (keeps.named k (record { low = some; high = lower k bound below few }) names)
    where
      lower : (k bound : ℕ) → k < bound → bound ≤ 1024 → k < 1024
      lower k bound less few = omega (arith, less, few)
  found_kept bound (Some a) few is = record {
    slot = is.slot;
    bytes = keeps.held a.0 a.1 is.slot (ap sector_in is.bytes ∙ is.reads) is.image_is is.held ∙ is.bytes;
    reads = is.reads;
    image_is = is.image_is;
    held = is.held;
  }

-- ---- each stage

module _ (sd image : Id) (d e : Content) (kept : IsKeptByOthers sd image d e) where
  shows_own : (n : Name) → ShowsName e (dir.Image sd image) n → ShowsName d (dir.Image sd image) n
  shows_own n shows = kept.files (place_in (dir.Image sd image) n) shows.0 (inl refl) shows.1

  shows_removed : (n : Name) → ShowsName e (dir.Removed sd image) n → ShowsName d (dir.Removed sd image) n
  shows_removed n shows = kept.files (place_in (dir.Removed sd image) n) shows.0 (inr refl) shows.1

  ids_kept : HaveImageIds sd image d → HaveImageIds sd image e
  ids_kept ids = ids_stay (dir.Image sd image) (dir.Removed sd image) d e kept.own kept.removed shows_own shows_removed ids

  scanning_kept : (s : Scan) → IsScanning sd image s d → IsScanning sd image s e
  scanning_kept s is =
      let one = kept.leases is.file is.there in
      record {
        domain = is.domain;
        image_is = is.image_is;
        ids = ids_kept is.ids;
        file = one.0;
        there = one.1;
        sectors = record {
          area = record { size = one.2.size ∙ is.sectors.area.size; settled = one.2.settled is.sectors.area.settled };
          tasked = tasked_kept image is.file one.0 one.2 is.sectors.tasked;
        };
        found = found_kept image is.file one.0 one.2 (128 * steps_made s) (seen_by s).found is.few is.found;
        few = is.few;
      }

  held_kept : (slot : ℕ) (r : LeaseRecord) → IsHeld sd image slot r d → IsHeld sd image slot r e
  held_kept slot r is =
      let one = kept.leases is.stands.file is.stands.there in
      record {
        stands = record {
          file = one.0;
          there = one.1;
          within = subst (λ (n : ℕ). slot < n) (sym one.2.size) is.stands.within;
          settled = one.2.settled is.stands.settled;
          bytes_are = one.2.held slot r is.slot_is (ap sector_in is.stands.bytes_are ∙ is.reads) is.image_is is.held ∙ is.stands.bytes_are;
        };
        slot_is = is.slot_is;
        reads = is.reads;
        image_is = is.image_is;
        held = is.held;
      }

  removing_kept : (slot : ℕ) (r : LeaseRecord) (m : ImageRemoving) → IsRemoving sd image slot r m d → IsRemoving sd image slot r m e
  removing_kept slot r m is =
      let own : own_folder m ≡ dir.Image sd image = ap (λ (a : Id). dir.Image a m.image) is.domain ∙ ap (λ (i : Id). dir.Image sd i) is.image_is in
      let gone : removed_folder m ≡ dir.Removed sd image = ap (λ (a : Id). dir.Removed a m.image) is.domain ∙ ap (λ (i : Id). dir.Removed sd i) is.image_is in
      record {
        domain = is.domain;
        image_is = is.image_is;
        sector = held_kept slot r is.sector;
        removal = subst (λ (q : Dir). KnowsIn (removal_stage m) q (removed_folder m) e) (sym own)
            (subst (λ (q : Dir). KnowsIn (removal_stage m) (dir.Image sd image) q e) (sym gone)
            (removal_kept (dir.Image sd image) (dir.Removed sd image) d e kept.own kept.removed shows_own shows_removed (removal_stage m)
            (subst (λ (q : Dir). KnowsIn (removal_stage m) (dir.Image sd image) q d) gone (subst (λ (q : Dir). KnowsIn (removal_stage m) q (removed_folder m) d) own is.removal))));
      }

  emptying_kept : (slot : ℕ) (r : LeaseRecord) → IsEmptying sd image slot r d → IsEmptying sd image slot r e
  emptying_kept slot r is = record {
    sector = held_kept slot r is.sector;
    gone = record { own = kept.own ∙ is.gone.own; removed = kept.removed ∙ is.gone.removed };
  }

  pub ready_kept : (s : Stage) → IsReady s sd image d → IsReady s sd image e
  ready_kept (Scanning s) is = scanning_kept s is
  ready_kept (Removing slot r m) is = removing_kept slot r m is
  ready_kept (Emptying slot r) is = emptying_kept slot r is

-- ---- another host goes down

keeps_itself : (image : Id) (f : File) → KeepsImage image f f
keeps_itself image f = record { size = refl; settled = λ is. is; named = λ k slot names. names; held = λ k r slot is image_is held. refl }

still_file : (R : File → File → Type 0) (a b : Option File) (f : File) → IsAlso R a b → b ≡ Some f → (g : File) × (a ≡ Some g)
still_file R (Some g) b f also is = (g, refl)
still_file R None (Some g) f also is = absurd also
still_file R None None f also is = absurd (nothing f is)
  where
    nothing : (f : File) → ◌≡◌ {A = Option File} None (Some f) → ⊥
    nothing f e = cc

module _ (sd image : Id) (other : ℕ) (d e : Content) (down : DownLeaves d other e) (settled : (f : File) → d.file (leases_of sd) ≡ Some f → IsSettledFor other f) where
  pub kept_at_down : IsKeptByOthers sd image d e
  kept_at_down = record {
    own = down.dirs (dir.Image sd image);
    removed = down.dirs (dir.Removed sd image);
    files = λ q f inside there. still_file (IsDownFile other) (d.file q) (e.file q) f (down.files q) there;
    leases = λ f there. (f, down_leaves_file d e other (leases_of sd) f down there (settled f there), keeps_itself image f);
  }
