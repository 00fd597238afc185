-- The flat lists of a standing image are what its files read as, on each outcome.
use Rattle.std.proofs.Common.{◌≡◌, ◌⊎◌, ℕ, true, List, Option, Some, None, Result, Ok, Err, refl, sym, ap, subst, ◌∙◌, inl, inr}
use Rattle.std.specs.Prelude.{◌≢◌, option_and_then}
use Rattle.sd_names.specs.UpSet.{Hosts}
use Rattle.sd_names.specs.declared.fault.VolumeFault.{VolumeFault}
use Rattle.sd_names.specs.declared.id.Id.{Id}
use Rattle.sd_names.specs.declared.kinds.Legality.TheVariants.{Legal}
use Rattle.sd_names.specs.declared.place.Dir.TheVariants as dir
use Rattle.sd_names.specs.declared.refusal.Refusal.{Refusal}
use Rattle.shared_disk.specs.Content.{Content}
use Rattle.shared_disk.specs.Crash.{IsOutcome}
use Rattle.volume_meta.specs.declared.record.VolumeRecord.{VolumeRecord}
use Rattle.domain_meta.specs.declared.record.DomainRecord.{DomainRecord}
use Rattle.chain_model.specs.Folder.{Volumes, folder_of}
use Rattle.chain_model.specs.Records.{Image as ImageIn, Records, holds_in, legal_in, record_in, records_of, text_of}
use Rattle.chain_model.proofs.Flats.{folder_outcome}
use Rattle.chain_model.proofs.Settled.{is_one}
use Rattle.chain_model.proofs.Whole.{chains}
use Rattle.pool_model.specs.ImageStands.{IsImage, MayRead, OpensAs, ReadsWhole, SaysAs, VolumeAt, flat_in, flats_in, settled_record}
use Rattle.pool_model.specs.Laws.{IsClaimed, ReadsThrough, image_in, volumes_in}
use Rattle.pool_model.specs.Pool.{Image, Pool, Torn, Volume}
use Rattle.pool_model.specs.Standing.{Stands}
use Rattle.pool_model.proofs.Settles.{same_image}

-- ---- a volume that is LEGAL in the pool is LEGAL in its text

pub legal_by : (z : VolumeRecord) → z.legality ≡ Legal → legal_in z ≡ true
legal_by z e = rw e refl

same_record : (says : Result VolumeRecord VolumeFault) (y z : VolumeRecord) → says ≡ Ok z → says ≡ Ok y → z ≡ y
same_record says y z e f = cc

no_record : (says : Result VolumeRecord VolumeFault) (y : VolumeRecord) (fault : VolumeFault) → says ≡ Err fault → says ≡ Ok y → ⊥
no_record says y fault e f = cc

pub legal_of : (r : Records) (v : Id) (t : Option (Result VolumeRecord VolumeFault)) (says : Result VolumeRecord VolumeFault) (y : VolumeRecord)
    → SaysAs r v t says → says ≡ Ok y → y.legality ≡ Legal → holds_in legal_in (option_and_then record_in t) ≡ true
legal_of r v None says y said is legal = absurd said
legal_of r v (Some (Err fault)) says y said is legal = absurd (no_record says y fault said is)
legal_of r v (Some (Ok z)) says y said is legal =
    legal_by z (ap (λ (x : VolumeRecord). x.legality) (same_record says y (settled_record said.0 z) said.2 is) ∙ legal)

-- ---- what it reads as

untorn_flat : (t : Option Torn) (old is : ℕ → List ℕ) → t ≡ None → MayRead t old is → is ≡ old
untorn_flat None old is e may = may
untorn_flat (Some t) old is e may = absurd (cc)

flats_are : (i : ImageIn) (x : Volumes) (m : Image) (whole : ReadsWhole i x m) → m.torn ≡ None → (v : Id) → whole.flats v ≡ flats_in m v
flats_are i x m whole untorn v = go (is_one v whole.reading)
  where
    go : (v ≡ whole.reading) ⊎ (v ≢ whole.reading) → whole.flats v ≡ flats_in m v
    go (inl e) =
        subst (λ (u : Id). whole.flats u ≡ flats_in m u) (sym e) (untorn_flat m.torn (flats_in m whole.reading) (whole.flats whole.reading) untorn whole.here)
    go (inr other) = whole.others v other

pub volume_reads : (i : ImageIn) (x : Volumes) (m : Image) (v : Id) (w : Volume) (y : VolumeRecord) → IsImage i x m → m.fault ≡ None → m.torn ≡ None
    → m.volume v ≡ Some w → w.says ≡ Ok y → y.legality ≡ Legal → ReadsThrough i x v w.flat
volume_reads i x m v w y is sound untorn has says legal =
    let whole = subst (λ (o : Option Refusal). OpensAs i x m o) sound is.opens in
    let at = subst (λ (o : Option Volume). VolumeAt i x m v o) has (is.volumes v) in
    let below = chains i x whole.reading whole.below v whole.opens in
    let is_so = legal_of (records_of i x) v (text_of i x v) w.says y at.says says legal in (
      below.0,
      below.1,
      λ k within. whole.read v below.0 is_so below.1 k within
          ∙ ap (λ (f : ℕ → List ℕ). f k) (flats_are i x m whole untorn v) ∙ ap (λ (o : Option Volume). flat_in o k) has,
    )

pub flats_read : (up : Hosts) (d o : Content) (p : Pool) (sd i v : Id) (r : DomainRecord) (m : Image) (w : Volume) (y : VolumeRecord) → Stands up d p
    → IsClaimed p sd i r m → m.fault ≡ None → m.torn ≡ None → m.volume v ≡ Some w → w.says ≡ Ok y → y.legality ≡ Legal → IsOutcome d o
    → ReadsThrough (image_in sd i r) (volumes_in o sd i) v w.flat
flats_read up d o p sd i v r m w y stands claimed sound untorn has says legal outcome =
    let is = (stands.image sd r claimed.listed i).there claimed.named claimed.idle in
    let same = same_image (p.image sd i) m is.0 claimed.image is.1.image in
    let means = is.1.means (folder_of (dir.Image sd i) o) (folder_outcome (dir.Image sd i) d o outcome) in
    volume_reads (image_in sd i r) (volumes_in o sd i) m v w y (subst (λ (n : Image). IsImage (image_in sd i r) (volumes_in o sd i) n) same means)
    sound untorn has says legal
