-- What a disk that stands for a pool has of an image that the open task makes or removes.
use Rattle.std.proofs.Common.{◌≡◌, ◌≢◌, ◌⊎◌, ℕ, List, [], ◌∷◌, Option, Some, None, sym, ap, subst, ◌∙◌, inl, inr}
use Rattle.std.specs.Prelude.{Contains}
use Rattle.sd_names.specs.Place.{NameHasIds}
use Rattle.sd_names.specs.UpSet.{Hosts}
use Rattle.sd_names.specs.declared.id.Id.{Id}
use Rattle.sd_names.specs.declared.place.Dir.TheVariants as dir
use Rattle.sd_names.specs.declared.place.Name.{Name}
use Rattle.sd_names.specs.declared.place.Name.TheVariants as name
use Rattle.sd_names.specs.declared.place.Place.{Place}
use Rattle.sd_names.specs.declared.verb.VerbName.{VerbName}
use Rattle.sd_names.specs.declared.verb.VerbName.TheVariants as word
use Rattle.shared_disk.specs.Content.{Content, File}
use Rattle.shared_disk.specs.NameCalls.{ShowsName, place_in}
use Rattle.shared_disk.proofs.AtPlace.{one_file}
use Rattle.shared_disk.proofs.Outcomes.{cons_cases, nothing_in}
use Rattle.domain_meta.specs.declared.record.DomainRecord.{DomainRecord}
use Rattle.task_store.specs.declared.task.Task.{Task}
use Rattle.task_store.specs.declared.undo.Undo.{Undo}
use Rattle.task_store.specs.declared.undo.Undo.TheVariants as undo
use Rattle.lease_area.specs.Hold.{leases_of}
use Rattle.lease_area.specs.Sector.{sector_bytes, sector_in}
use Rattle.lease_area.specs.declared.sector.LeaseRecord.{LeaseRecord}
use Rattle.lease_area.specs.declared.sector.Sector.{Sector}
use Rattle.lease_area.specs.declared.sector.Sector.TheVariants.{Lease}
use Rattle.lease_area.proofs.Fields.{sector_back}
use Rattle.image_creating.specs.Sectors.{IsUnnamed as IsUnnamedOn}
use Rattle.image_clearing.specs.Knowing.{IsHeld, KnowsImage}
use Rattle.image_clearing.specs.Steps.{IsApart}
use Rattle.pool_model.specs.Leases.{IsUnnamed, NamesAt}
use Rattle.pool_model.specs.Pool.{Pool}
use Rattle.pool_model.specs.Standing.{LeasesStand, Stands, file_in}
use Rattle.pool_model.specs.Tasks.{IsBuiltOpen, IsMaking, IsOpen, IsRemoved}
use Rattle.pool_model.proofs.OneDomain.{listed_here}
use Rattle.pool_model.proofs.Roles.{is_place}
use Rattle.task_settling.specs.Knowing.{HaveIds}
use Rattle.task_settling.specs.Settling.{IsLastOf, cleared_by}
use Rattle.task_settling.proofs.Lists.{last_among}
use Rattle.task_settling.proofs.Machine.{makes_by}
use Rattle.task_settling.proofs.Places.{stood_at}

one_sector : (s t : Sector) → Some s ≡ Some t → s ≡ t
one_sector s t e = cc

-- the image of a step is one that the task makes or removes
pub making_of : (p : Pool) (x : Task) (count : ℕ) (s : Undo) (sd i : Id) → IsOpen p x.id x → IsLastOf x.steps count s → cleared_by s ≡ Some (sd, i) → IsMaking p sd i
making_of p x count s sd i opened last clears = (x.id, (x, opened, (s, last_among x.steps last.0 count s last.1, makes_by s sd i clears)))

module _ (up : Hosts) (d : Content) (p : Pool) (sd i : Id) (stands : Stands up d p) (making : IsMaking p sd i) where
  listed : (r : DomainRecord) × (p.domain sd ≡ Some r)
  listed = stands.tasks.inside sd i making

  leases : LeasesStand (p.sector sd) (file_in sd name.Leases d)
  leases = (listed_here up d p sd listed.0 stands listed.1).leases

  -- a lease that was read in a sector of the file is the pool's
  lease_read : (k : ℕ) (r : LeaseRecord) → leases.file.stable k ≡ sector_bytes (p.sector sd k) → sector_in (leases.file.stable k) ≡ Some (Lease r) → p.sector sd k ≡ Lease r
  lease_read k r spelled reads = one_sector (p.sector sd k) (Lease r) (sym (sector_back (p.sector sd k) (leases.fits k)) ∙ ap sector_in (sym spelled) ∙ reads)

  pub held_names : (slot : ℕ) (r : LeaseRecord) → IsHeld sd i slot r d → NamesAt p sd i slot r
  held_names slot r held =
      let same : held.stands.file ≡ leases.file = one_file held.stands.file leases.file (d.file (leases_of sd)) held.stands.there leases.there in
      record {
        slot = held.slot_is;
        lease = lease_read slot r (leases.each slot held.slot_is.high)
            (ap sector_in (ap (λ (f : File). f.stable slot) (sym same) ∙ held.stands.bytes_are) ∙ held.reads);
        image = held.image_is;
      }

  pub unnamed_in : IsUnnamedOn sd i d → IsUnnamed p sd i
  unnamed_in (f, there, area, none) k r names =
      let same : leases.file ≡ f = one_file leases.file f (d.file (leases_of sd)) leases.there there in
      none k names.slot (
        r,
        ap sector_in (ap (λ (g : File). g.stable k) (sym same) ∙ leases.each k names.slot.high ∙ ap sector_bytes names.lease)
            ∙ subst (λ (s : Sector). sector_in (sector_bytes s) ≡ Some s) names.lease (sector_back (p.sector sd k) (leases.fits k)),
        names.image,
      )

  pub removed_in : IsUnnamedOn sd i d → IsRemoved sd i p
  removed_in none = let unnamed = unnamed_in none in (((stands.image sd listed.0 listed.1 i).gone unnamed).image, unnamed)

  -- what a clearing of it has to know at its beginning
  pub knows_image : HaveIds d → KnowsImage sd i d
  knows_image ids = record {
    ids = λ n shows. shown n shows;
    file = leases.file;
    there = leases.there;
    sectors = record {
      area = record { size = leases.size; settled = leases.settled };
      tasked = λ k r slot reads image_is. (stands.image sd listed.0 listed.1 i).making making k r
          (record { slot = slot; lease = lease_read k r (leases.each k slot.high) reads; image = image_is });
    };
  }
    where
      shown : (n : Name) → ShowsName d (dir.Image sd i) n ⊎ ShowsName d (dir.Removed sd i) n → NameHasIds n
      shown n (inl shows) = ids (dir.Image sd i) n shows
      shown n (inr shows) = ids (dir.Removed sd i) n shows

-- ---- names

leases_ids : NameHasIds name.Leases
leases_ids = tt

pub ids_after : (sd i : Id) (d e : Content) → IsApart sd i d e → HaveIds d → HaveIds e
ids_after sd i d e apart ids q n (f, there) = go (is_place (place_in q n) (leases_of sd))
  where
    go : (place_in q n ≡ leases_of sd) ⊎ (place_in q n ≢ leases_of sd) → NameHasIds n
    go (inl same) = subst NameHasIds (sym (ap (λ (x : Place). x.name) same)) leases_ids
    go (inr other) = let stood = stood_at sd i d e apart (place_in q n) f other there in
        subst NameHasIds stood.name (ids stood.was.dir stood.was.name (f, stood.there))

-- ---- the tasks of the verbs that are built clear images

one_of : (s x : Undo) → Contains (x ∷ []) s → x ≡ s
one_of s x among = go (cons_cases x s [] among)
  where
    go : (x ≡ s) ⊎ Contains [] s → x ≡ s
    go (inl same) = same
    go (inr more) = absurd (nothing_in s more)

clears_removed : (sd i : Id) (s : Undo) → undo.RemoveImage sd i ≡ s → cleared_by s ≡ None → ⊥
clears_removed sd i s same none = some_none (ap cleared_by same ∙ none)
  where
    some_none : ◌≡◌ {A = Option (Id × Id)} (Some (sd, i)) None → ⊥
    some_none e = cc

clears_finished : (sd i : Id) (s : Undo) → undo.FinishRemove sd i ≡ s → cleared_by s ≡ None → ⊥
clears_finished sd i s same none = some_none (ap cleared_by same ∙ none)
  where
    some_none : ◌≡◌ {A = Option (Id × Id)} (Some (sd, i)) None → ⊥
    some_none e = cc

pub built_clears : (w : VerbName) (steps : List Undo) (s : Undo) → IsBuiltOpen w steps → Contains steps s → cleared_by s ≡ None → ⊥
built_clears word.Create steps s (sd, (i, is)) among none = clears_removed sd i s (one_of s (undo.RemoveImage sd i) (subst (λ (l : List Undo). Contains l s) is among)) none
built_clears word.DeleteImage steps s (sd, (i, is)) among none = clears_finished sd i s (one_of s (undo.FinishRemove sd i) (subst (λ (l : List Undo). Contains l s) is among)) none
built_clears word.Snapshot steps s built among none = built
built_clears word.DeleteVolume steps s built among none = built
built_clears word.Copy steps s built among none = built
built_clears word.Extend steps s built among none = built
built_clears word.Describe steps s built among none = built
built_clears word.AddDomain steps s built among none = built
