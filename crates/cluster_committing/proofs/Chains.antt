-- A chain of which a layer was lent to a write.
use Rattle.std.proofs.Common.{◌≡◌, ◌⊎◌, ℕ, ◌*◌, ◌/◌, ◌^◌, slice_get, slice_set, Some, List, refl, sym, ap, ◌∙◌, subst, inl, inr, arith}
use Rattle.std.specs.Prelude.{◌≢◌}
use Rattle.sd_names.specs.declared.id.Id.{Id}
use Rattle.qcow_layer.specs.Opening.{header_kept}
use Rattle.qcow_layer.specs.declared.layer.Layer.{Layer}
use Rattle.layer_laws.proofs.Positions.{same_or_not}
use Rattle.volume_chain.specs.Layers.{IsLayerAt}
use Rattle.volume_chain.specs.declared.chain.Chain.{Chain}
use Rattle.volume_chain.specs.declared.subchain.Subchain.{Subchain}
use Rattle.volume_chain.specs.declared.volumes.OpenVolume.{OpenVolume}
use Rattle.volume_chain.specs.declared.volumes.OpenVolume.TheVariants.{Cow}
use Rattle.chain_reading.specs.Knowing.{place_on}
use Rattle.chain_reading.specs.Asked.{sectors_by, sectors_in}
use Rattle.chain_records.specs.Records.{records_in}
use Rattle.chain_records.specs.declared.volume.Volume.{Volume}
use Rattle.commit_reading.specs.Pieces.{IsInside, count_of, end_in, first_of, width_by, width_in}
use Rattle.commit_reading.specs.declared.pieces.Pieces.{Pieces}
use Rattle.guest_writing.proofs.Standing.{stands_still}
use Rattle.commit_steps.specs.Knowing.{IsSameFor}
use Rattle.guest_laws.proofs.Paths.{set_here, set_there}
use Rattle.guest_steps.specs.Preparing.{IsLent}
use Rattle.guest_writing.specs.Guest.{IsWrittenChain}
use Rattle.guest_writing.specs.Way.{StageKeeps, StandsOpen}
use Rattle.guest_writing.specs.declared.guest.GuestWrite.{GuestWrite}
use Rattle.guest_writing.specs.declared.stage.Stage.{Stage}
use Rattle.guest_writing.specs.declared.stage.Stage.TheVariants.{Begun, Raw, Preparing, Filling, Linking}

pub same_itself : (sub : Subchain) (c : Chain) → IsSameFor sub c c
same_itself sub c = record { target = refl; path = refl; records = refl; width = refl }

pub same_through : (sub : Subchain) (a b c : Chain) → IsSameFor sub a b → IsSameFor sub b c → IsSameFor sub a c
same_through sub a b c first second = record { target = second.target ∙ first.target; path = second.path ∙ first.path; records = second.records ∙ first.records; width = second.width ∙ first.width }

lent_width : (os : List OpenVolume) (i j : ℕ) (before after : Layer) → slice_get os i ≡ Some (Cow before) → (header_kept after).cluster_bits ≡ (header_kept before).cluster_bits → (j ≡ i) ⊎ (j ≢ i)
    → width_by (slice_get (slice_set os i (Cow after)) j) ≡ width_by (slice_get os j)
lent_width os i j before after was bits (inl same) =
    ap (λ n. width_by (slice_get (slice_set os i (Cow after)) n)) same ∙ ap width_by (set_here os i (Cow after) (Cow before) was) ∙ ap (λ n. 2 ^ n / 512) bits ∙ sym (ap width_by was) ∙ sym (ap (λ n. width_by (slice_get os n)) same)
lent_width os i j before after was bits (inr other) = ap width_by (set_there os i j (Cow after) other)

lent_same : (sub : Subchain) (c next : Chain) (i : ℕ) → IsLent c next i → IsSameFor sub c next
lent_same sub c next i lent = subst (λ (z : Chain). IsSameFor sub c z) (sym lent.is)
    (record { target = refl; path = refl; records = refl; width = lent_width c.volumes i (place_on sub.top c.path) lent.before lent.after lent.was lent.same.bits (same_or_not (place_on sub.top c.path) i) })

same_kept : (sub : Subchain) (c next : Chain) → next ≡ c → IsSameFor sub c next
same_kept sub c next e = subst (λ (z : Chain). IsSameFor sub c z) (sym e) (same_itself sub c)

stage_same : (stage : Stage) (sub : Subchain) (c next : Chain) → StageKeeps stage c next → IsSameFor sub c next
stage_same Begun sub c next kept = same_kept sub c next kept
stage_same (Raw w) sub c next kept = same_kept sub c next kept
stage_same (Preparing i p) sub c next kept = lent_same sub c next i kept
stage_same (Filling i s) sub c next kept = same_kept sub c next kept
stage_same (Linking i s) sub c next kept = same_kept sub c next kept

pub written_same : (g : GuestWrite) (sub : Subchain) (c next : Chain) → IsWrittenChain g c next → IsSameFor sub c next
written_same g sub c next kept = stage_same g.stage sub c next kept

-- a layer of the path is one still
lent_layer : (os : List OpenVolume) (i j : ℕ) (before after : Layer) → slice_get os i ≡ Some (Cow before) → IsLayerAt os j → (j ≡ i) ⊎ (j ≢ i) → IsLayerAt (slice_set os i (Cow after)) j
lent_layer os i j before after was at (inl same) = (after, ap (λ n. slice_get (slice_set os i (Cow after)) n) same ∙ set_here os i (Cow after) (Cow before) was)
lent_layer os i j before after was at (inr other) = (at.0, set_there os i j (Cow after) other ∙ at.1)

layer_kept : (c next : Chain) (j : ℕ) → next ≡ c → IsLayerAt c.volumes j → IsLayerAt next.volumes j
layer_kept c next j e at = subst (λ (z : Chain). IsLayerAt z.volumes j) (sym e) at

stage_layer : (stage : Stage) (c next : Chain) (j : ℕ) → StageKeeps stage c next → IsLayerAt c.volumes j → IsLayerAt next.volumes j
stage_layer Begun c next j kept at = layer_kept c next j kept at
stage_layer (Raw w) c next j kept at = layer_kept c next j kept at
stage_layer (Preparing i p) c next j kept at = subst (λ (z : Chain). IsLayerAt z.volumes j) (sym kept.is) (lent_layer c.volumes i j kept.before kept.after kept.was at (same_or_not j i))
stage_layer (Filling i s) c next j kept at = layer_kept c next j kept at
stage_layer (Linking i s) c next j kept at = layer_kept c next j kept at

pub written_layer : (g : GuestWrite) (c next : Chain) (j : ℕ) → IsWrittenChain g c next → IsLayerAt c.volumes j → IsLayerAt next.volumes j
written_layer g c next j kept at = stage_layer g.stage c next j kept at

-- ---- the way goes on

sectors_same : (sub : Subchain) (c next : Chain) (v : Id) → IsSameFor sub c next → sectors_in next v ≡ sectors_in c v
sectors_same sub c next v same = ap (λ (xs : List Volume). sectors_by (records_in xs v)) same.records

ends_same : (sub : Subchain) (c next : Chain) (cluster : ℕ) → IsSameFor sub c next → end_in next sub cluster ≡ end_in c sub cluster
ends_same sub c next cluster same =
    let a = sectors_same sub c next sub.top same in
    let b = sectors_same sub c next sub.base same in
    let w = same.width in
    let m : cluster * width_in next sub.top ≡ cluster * width_in c sub.top = ap (λ n. cluster * n) w in
    omega (arith, a, b, w, m)

pub inside_next : (sub : Subchain) (c next : Chain) (cluster : ℕ) (p : Pieces) → IsSameFor sub c next → IsInside c sub cluster p → IsInside next sub cluster p
inside_next sub c next cluster p same inside =
    let e = ends_same sub c next cluster same in
    let m : cluster * width_in next sub.top ≡ cluster * width_in c sub.top = ap (λ n. cluster * n) same.width in
    let first = inside.first in
    record { first = omega (arith, e, m, first); end = inside.end ∙ sym e }

pub stands_next : (g : GuestWrite) (sub : Subchain) (c next : Chain) → IsWrittenChain g c next → StandsOpen c sub.base 0 (512 * sectors_in c sub.base) → StandsOpen next sub.base 0 (512 * sectors_in next sub.base)
stands_next g sub c next kept stood =
    subst (λ n. StandsOpen next sub.base 0 (512 * n)) (sym (sectors_same sub c next sub.base (written_same g sub c next kept))) (stands_still g.stage c next sub.base 0 (512 * sectors_in c sub.base) kept stood)

-- a piece of the base stands open where all its sectors do
pub piece_open : (sub : Subchain) (c : Chain) (cluster : ℕ) (p : Pieces) → IsInside c sub cluster p → StandsOpen c sub.base 0 (512 * sectors_in c sub.base) → StandsOpen c sub.base (512 * first_of p) (512 * count_of p)
piece_open sub c cluster p inside stood = record {
  opened = stood.opened;
  there = stood.there;
  ends = let ends = stood.ends in let end = inside.end in let order = p.order in omega (arith, ends, end, order);
}
