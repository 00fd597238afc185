-- An image that reads alike does so on each outcome.
use Rattle.std.proofs.Common.{◌≡◌, ◌⊎◌, ℕ, List, Option, Some, None, refl, sym, ◌∙◌, subst}
use Rattle.sd_names.specs.declared.id.Id.{Id}
use Rattle.sd_names.specs.declared.place.Dir.{Dir}
use Rattle.shared_disk.specs.Content.{Content, File}
use Rattle.shared_disk.specs.Crash.{IsAlso, IsFileOutcome, IsOutcome, IsSettled, OnEach}
use Rattle.shared_disk.proofs.AtPlace.{also_none, settled_stays}
use Rattle.volume_meta.specs.declared.record.VolumeRecord.{VolumeRecord}
use Rattle.chain_gathering.specs.Knowing.{volumes_in}
use Rattle.chain_model.specs.Flat.{IsFlat}
use Rattle.chain_model.specs.Folder.{Volumes}
use Rattle.chain_model.specs.Own.{own, own_by}
use Rattle.chain_model.specs.Reading.{IsReading}
use Rattle.chain_model.specs.Records.{Image, Records, records_of}
use Rattle.chain_model.proofs.Flats.{flat_alike}
use Rattle.chain_records.specs.Paths.{HasChain}
use Rattle.chain_records.specs.Settling.{ArePartlyRewritten, IsRewritten}
use Rattle.chain_records.proofs.Partly.{flats_alike, reading_alike}
use Rattle.chain_settling.specs.Alike.{HasTypeOf, HoldsAlike, ReadsAlike}
use Rattle.chain_settling.specs.Was.{file_in, text_in}
use Rattle.chain_settling.proofs.Alike.{said_same}

pub text_on : (i : Image) (dir : Dir) (r : Records) (x : Volumes) (d o : Content) → ReadsAlike i dir r x d → IsOutcome d o → (v : Id) → o.file (text_in dir v) ≡ d.file (text_in dir v)
text_on i dir r x d o a out v = go (x.text v) (d.file (text_in dir v)) refl (a.texts v)
  where
    go : (t f : Option File) → d.file (text_in dir v) ≡ f → IsAlso (λ f g. IsSettled g) t f → o.file (text_in dir v) ≡ d.file (text_in dir v)
    go None None e also = also_none IsFileOutcome (d.file (text_in dir v)) (o.file (text_in dir v)) (out.files (text_in dir v)) e ∙ sym e
    go None (Some f) e also = absurd also
    go (Some t) None e also = absurd also
    go (Some t) (Some f) e also = settled_stays d o (text_in dir v) f e also out ∙ sym e

pub records_on : (i : Image) (dir : Dir) (r : Records) (x : Volumes) (d o : Content) → ReadsAlike i dir r x d → IsOutcome d o → ArePartlyRewritten r (records_of i (volumes_in dir o))
records_on i dir r x d o a out v =
    subst (λ (y : Option VolumeRecord). (y ≡ r v) ⊎ IsRewritten r v (r v) y) (sym (said_same i dir v d o (text_on i dir r x d o a out v))) (a.partly v)

pub types_on : (i : Image) (dir : Dir) (r : Records) (x : Volumes) (d o : Content) → ReadsAlike i dir r x d → IsOutcome d o → (v : Id) → HasTypeOf r v (records_of i (volumes_in dir o) v)
types_on i dir r x d o a out v = subst (HasTypeOf r v) (sym (said_same i dir v d o (text_on i dir r x d o a out v))) (a.types v)

pub reading_on : (i : Image) (dir : Dir) (r : Records) (x : Volumes) (d o : Content) (v : Id) (vs : List Id) → ReadsAlike i dir r x d → IsOutcome d o
    → IsReading r v vs → (ws : List Id) × IsReading (records_of i (volumes_in dir o)) v ws
reading_on i dir r x d o v vs a out reads = reading_alike r (records_of i (volumes_in dir o)) v vs (records_on i dir r x d o a out) reads

-- each volume's file holds on an outcome what it held
own_on : (i : Image) (dir : Dir) (r : Records) (x : Volumes) (d o : Content) → ReadsAlike i dir r x d → IsOutcome d o → (v : Id) (k : ℕ) → own r (volumes_in dir o) v k ≡ own r x v k
own_on i dir r x d o a out v k = go (x.file v) (d.file (file_in dir v)) (o.file (file_in dir v)) (a.files v) (out.files (file_in dir v))
  where
    go : (t f g : Option File) → IsAlso (λ f g. OnEach g (HoldsAlike (r v) f)) t f → IsAlso IsFileOutcome f g → own_by (r v) g k ≡ own_by (r v) t k
    go None None None also is = refl
    go None None (Some g) also is = absurd is
    go None (Some f) g also is = absurd also
    go (Some t) None g also is = absurd also
    go (Some t) (Some f) None also is = absurd is
    go (Some t) (Some f) (Some g) also is = also g is k

pub flats_on : (i : Image) (dir : Dir) (r : Records) (x : Volumes) (d o : Content) (flats : Id → ℕ → List ℕ) → ReadsAlike i dir r x d → IsOutcome d o
    → ((v : Id) → HasChain r v) → IsFlat r flats x → IsFlat (records_of i (volumes_in dir o)) flats (volumes_in dir o)
flats_on i dir r x d o flats a out chains reads =
    flats_alike r (records_of i (volumes_in dir o)) flats (volumes_in dir o) (records_on i dir r x d o a out) chains
    (λ u us legal below k at. flat_alike r x (volumes_in dir o) u us k (λ w. own_on i dir r x d o a out w k) ∙ reads u us legal below k at)
