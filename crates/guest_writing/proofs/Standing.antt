-- A volume of the path stands open, and its place on the path is where it stands.
use Rattle.std.proofs.Common.{◌≡◌, ◌⊎◌, ℕ, zero, suc, ◌+◌, ◌^◌, ◌<◌, ◌≤◌, Bool, true, false, List, [], ◌∷◌, length, slice_get, slice_set, Some, refl, sym, ap, ◌∙◌, subst, inl, inr, arith}
use Rattle.std.specs.Prelude.{if◌then◌else◌, ◌≢◌}
use Rattle.std.specs.List.{Contains}
use Rattle.std.proofs.lemmas.Bool.{false≢true}
use Rattle.sd_names.specs.declared.id.Id.{Id}
use Rattle.shared_disk.specs.Places.{id_is}
use Rattle.shared_disk.proofs.Outcomes.{cons_cases, nothing_in}
use Rattle.shared_disk.proofs.Places.{id_is-itself, id_is-same}
use Rattle.volume_meta.specs.declared.record.VolumeRecord.{VolumeRecord}
use Rattle.qcow_layer.specs.declared.layer.Layer.{Layer}
use Rattle.layer_laws.proofs.Positions.{same_or_not}
use Rattle.chain_records.specs.Records.{records_in}
use Rattle.volume_chain.specs.Chain.{IsShaped}
use Rattle.volume_chain.specs.Layers.{IsLayerAt}
use Rattle.volume_chain.specs.declared.chain.Chain.{Chain}
use Rattle.volume_chain.specs.declared.volumes.OpenVolume.{OpenVolume}
use Rattle.volume_chain.specs.declared.volumes.OpenVolume.TheVariants.{Cow}
use Rattle.volume_chain.proofs.Along.{next_inside}
use Rattle.chain_reading.specs.Knowing.{place_on}
use Rattle.guest_laws.proofs.Paths.{set_here, set_length, set_there}
use Rattle.guest_steps.specs.Preparing.{IsLent}
use Rattle.guest_writing.specs.Way.{StageKeeps, StandsOpen}
use Rattle.guest_writing.specs.declared.stage.Stage.{Stage}
use Rattle.guest_writing.specs.declared.stage.Stage.TheVariants.{Begun, Raw, Preparing, Filling, Linking}

pub place_there : (v : Id) (path : List Id) → Contains path v → slice_get path (place_on v path) ≡ Some v
place_there v [] h = absurd (nothing_in v h)
place_there v (w ∷ ws) h = go (id_is w v) refl (place_there v ws)
  where
    go : (b : Bool) → id_is w v ≡ b → (Contains ws v → slice_get ws (place_on v ws) ≡ Some v) → slice_get (w ∷ ws) (if b then 0 else suc (place_on v ws)) ≡ Some v
    go true e rest = ap Some (id_is-same w v e)
    go false e rest = rest (later (cons_cases w v ws h))
      where
        later : (w ≡ v) ⊎ Contains ws v → Contains ws v
        later (inl same) = absurd (false≢true (sym e ∙ subst (λ (z : Id). id_is w z ≡ true) same (id_is-itself w)))
        later (inr more) = more

opened_at : (os : List OpenVolume) (k : ℕ) → k < length os → (o : OpenVolume) × (slice_get os k ≡ Some o)
opened_at [] k less = absurd (omega (arith, less))
opened_at (p ∷ ps) zero less = (p, refl)
opened_at (p ∷ ps) (suc k) less = opened_at ps k (omega (arith, less))

-- all volumes of the path are open
pub stands_in_all : (c : Chain) (v : Id) (at count : ℕ) → length c.volumes ≡ length c.path → Contains c.path v → at + count ≤ 2 ^ 62 → StandsOpen c v at count
stands_in_all c v at count all among ends =
    let inside = next_inside c.path (place_on v c.path) v (place_there v c.path among) in
    let is = opened_at c.volumes (place_on v c.path) (omega (arith, inside, all)) in
    record { opened = is.0; there = is.1; ends = ends }

pub stands : (c : Chain) (v : Id) (x : VolumeRecord) (at count : ℕ) → IsShaped c → length c.volumes ≡ length c.path → Contains c.path v → records_in c.records v ≡ Some x → at + count ≤ x.capacity → StandsOpen c v at count
stands c v x at count shape all among says within = stands_in_all c v at count all among (fits at count x.capacity within (shape.valid v x says).capacity.most)
  where
    fits : (a n m : ℕ) → a + n ≤ m → m ≤ 2 ^ 40 → a + n ≤ 2 ^ 62
    fits a n m le low = omega (arith, le, low)

-- a step of a write keeps the path, and how many of its volumes are open
pub path_kept : (stage : Stage) (c next : Chain) → StageKeeps stage c next → (next.path ≡ c.path) × (length next.volumes ≡ length c.volumes)
path_kept Begun c next kept = (ap (λ (z : Chain). z.path) kept, ap (λ (z : Chain). length z.volumes) kept)
path_kept (Raw w) c next kept = (ap (λ (z : Chain). z.path) kept, ap (λ (z : Chain). length z.volumes) kept)
path_kept (Preparing i p) c next kept = (ap (λ (z : Chain). z.path) kept.is, ap (λ (z : Chain). length z.volumes) kept.is ∙ set_length c.volumes i (Cow kept.after))
path_kept (Filling i w) c next kept = (ap (λ (z : Chain). z.path) kept, ap (λ (z : Chain). length z.volumes) kept)
path_kept (Linking i w) c next kept = (ap (λ (z : Chain). z.path) kept, ap (λ (z : Chain). length z.volumes) kept)

-- a chain with another layer has all volumes open still
still_there : (os : List OpenVolume) (index k : ℕ) (w next : Layer) (o : OpenVolume) → slice_get os index ≡ Some (Cow w) → slice_get os k ≡ Some o → (p : OpenVolume) × (slice_get (slice_set os index (Cow next)) k ≡ Some p)
still_there os index k w next o was at = go (same_or_not k index)
  where
    go : (k ≡ index) ⊎ (k ≢ index) → (p : OpenVolume) × (slice_get (slice_set os index (Cow next)) k ≡ Some p)
    go (inl same) = (Cow next, subst (λ (n : ℕ). slice_get (slice_set os index (Cow next)) n ≡ Some (Cow next)) (sym same) (set_here os index (Cow next) (Cow w) was))
    go (inr other) = (o, set_there os index k (Cow next) other ∙ at)

-- the layer that was lent is one still
pub layer_still : (c next : Chain) (index : ℕ) → IsLent c next index → IsLayerAt next.volumes index
layer_still c next index lent = subst (λ (z : Chain). IsLayerAt z.volumes index) (sym lent.is) (lent.after, set_here c.volumes index (Cow lent.after) (Cow lent.before) lent.was)

stands_lent : (c next : Chain) (index : ℕ) (v : Id) (at count : ℕ) → IsLent c next index → StandsOpen c v at count → StandsOpen next v at count
stands_lent c next index v at count lent s =
    let is = still_there c.volumes index (place_on v c.path) lent.before lent.after s.opened lent.was s.there in
    subst (λ (z : Chain). StandsOpen z v at count) (sym lent.is) (record { opened = is.0; there = is.1; ends = s.ends })

pub stands_still : (stage : Stage) (c next : Chain) (v : Id) (at count : ℕ) → StageKeeps stage c next → StandsOpen c v at count → StandsOpen next v at count
stands_still Begun c next v at count kept s = subst (λ (z : Chain). StandsOpen z v at count) (sym kept) s
stands_still (Raw w) c next v at count kept s = subst (λ (z : Chain). StandsOpen z v at count) (sym kept) s
stands_still (Preparing i p) c next v at count kept s = stands_lent c next i v at count kept s
stands_still (Filling i w) c next v at count kept s = subst (λ (z : Chain). StandsOpen z v at count) (sym kept) s
stands_still (Linking i w) c next v at count kept s = subst (λ (z : Chain). StandsOpen z v at count) (sym kept) s
