-- One volume more is open: what a chain is made of fits, and fewer steps are left.
use Rattle.std.proofs.Common.{◌≡◌, ℕ, ◌+◌, ◌*◌, ◌/◌, ◌^◌, ◌<◌, List, [], ◌∷◌, ◌++◌, length, drop, Option, Some, None, refl, sym, ap, ◌∙◌, subst, arith, length-append}
use Rattle.std.specs.Prelude.{sum_by}
use Rattle.std.proofs.lemmas.List.Sums.{sum_by-cons}
use Rattle.sd_names.specs.declared.id.Id.{Id}
use Rattle.sd_names.specs.declared.turn.Turn.TheVariants.{More, Done, Ended}
use Rattle.volume_meta.specs.declared.record.VolumeRecord.{VolumeRecord}
use Rattle.qcow_format.specs.declared.header.Header.{Header}
use Rattle.qcow_layer.specs.Opening as layer
use Rattle.qcow_layer.specs.declared.layer.Layer as layers
use Rattle.qcow_layer.specs.declared.opening.Opening.{Opening}
use Rattle.chain_records.specs.Records.{records_in}
use Rattle.volume_chain.specs.Chain.{IsOpenAs, IsShaped, kind_of, next_of, opened, opened_by}
use Rattle.volume_chain.specs.Checking.{StageTurn}
use Rattle.volume_chain.specs.Knowing.{IsNextLayer, StageShaped}
use Rattle.volume_chain.specs.Stages.{AddsLayer, AsksLength, BeginsLayer, Falls, KeepsShape, StageFalls, left_along, target_at, volume_cost}
use Rattle.volume_chain.specs.declared.chain.Chain.{Chain}
use Rattle.volume_chain.specs.declared.chain.Kind.TheVariants as kind
use Rattle.volume_chain.specs.declared.stages.Stage.{Stage}
use Rattle.volume_chain.specs.declared.stages.Stage.TheVariants as stages
use Rattle.volume_chain.specs.declared.volumes.OpenVolume.{OpenVolume}
use Rattle.volume_chain.specs.declared.volumes.OpenVolume.TheVariants.{Raw, Cow}
use Rattle.volume_chain.proofs.Along.{next_begins}
use Rattle.volume_chain.proofs.Shapes.{cow_next, raw_next, shaped_more}

-- the chain with this volume behind the others
abbrev pub with_one : Chain → OpenVolume → Chain
with_one c o = record c { volumes = c.volumes ++ o ∷ [] }

pub opened_is : (c : Chain) (o : OpenVolume) (v : Id) → next_of c ≡ Some v → opened c o ≡ with_one c o
opened_is c o v next = ap (opened_by c o) next

pub same_target : (c : Chain) (o : OpenVolume) (q : Option Id) → (opened_by c o q).target ≡ c.target
same_target c o None = refl
same_target c o (Some v) = refl

abbrev Keeps : Chain → Stage → Type 0
Keeps c s = (target_at s ≡ c.target) × (IsShaped c → StageShaped s)

pub raw_open : (c : Chain) (v : Id) (n : ℕ) (q : Option VolumeRecord) (x : VolumeRecord) → q ≡ Some x → IsOpenAs c.target v (Some x) (Raw n) → IsOpenAs c.target v q (Raw n)
raw_open c v n q x e is = subst (λ o. IsOpenAs c.target v o (Raw n)) (sym e) is

pub raw_shape : (c : Chain) (v : Id) (turn : StageTurn) → kind_of (records_in c.records) (next_of c) ≡ Some (kind.Raw v) → AsksLength c turn → KeepsShape (stages.Along c) turn
raw_shape c v (More next) k is =
    let raw = raw_next (records_in c.records) (next_of c) v k in
    subst (Keeps c) (sym is.1) (
      same_target c (Raw is.0) (next_of c),
      λ shaped. shaped_more c v (Raw is.0) shaped raw.0 (raw_open c v is.0 (records_in c.records v) raw.1.0 raw.1.1 raw.1.2),
    )
raw_shape c v (Done d) k is = absurd is
raw_shape c v (Ended b e) k is = tt

-- ---- fewer steps are left

snoc_length : (os : List OpenVolume) (o : OpenVolume) → length (os ++ o ∷ []) ≡ length os + 1
snoc_length os o = length-append os (o ∷ [])

pub one_fewer : (cost : Id → ℕ) (path : List Id) (os : List OpenVolume) (o : OpenVolume) (v : Id) → drop (length os) path ≡ v ∷ drop (length os + 1) path
    → sum_by cost (drop (length os) path) ≡ cost v + sum_by cost (drop (length (os ++ o ∷ [])) path)
one_fewer cost path os o v e = ap (sum_by cost) e ∙ sum_by-cons cost v (drop (length os + 1) path) ∙ ap (λ (n : ℕ). cost v + sum_by cost (drop n path)) (sym (snoc_length os o))

pub raw_falls : (c : Chain) (v : Id) (turn : StageTurn) → kind_of (records_in c.records) (next_of c) ≡ Some (kind.Raw v) → AsksLength c turn → StageFalls (stages.Along c) turn
raw_falls c v (More next) k is =
    let raw = raw_next (records_in c.records) (next_of c) v k in
    let begins = next_begins c.path (length c.volumes) v raw.0 in
    subst (λ (s : Stage). Falls (stages.Along c) s) (sym (is.1 ∙ ap stages.Along (opened_is c (Raw is.0) v raw.0)))
    (λ heads tables shaped. let sums = one_fewer (volume_cost heads tables) c.path c.volumes (Raw is.0) v begins in omega (arith, sums))
raw_falls c v (Done d) k is = absurd is
raw_falls c v (Ended b e) k is = tt

-- a layer that begins has two steps less than its volume costs, and the chain goes on behind it
begin_fewer : (left cost rest before : ℕ) → left ≡ 2 * cost + 5 → before ≡ (2 * cost + 7) + rest → left + 1 + rest + 1 < before + 1
begin_fewer left cost rest before e f = omega (arith, e, f)

pub begin_falls : (c : Chain) (v : Id) (capacity : ℕ) (turn : StageTurn) → kind_of (records_in c.records) (next_of c) ≡ Some (kind.Cow v capacity) → BeginsLayer c v capacity turn
    → StageFalls (stages.Along c) turn
begin_falls c v capacity turn k begins = subst (λ (t : StageTurn). StageFalls (stages.Along c) t) (sym begins.2) fewer
  where
    fewer : Falls (stages.Along c) (stages.Layer c begins.0)
    fewer heads tables anti shaped fits =
        let cow = cow_next (records_in c.records) (next_of c) v capacity k in
        let w : Id = (layer.target_of begins.0).volume in
        let rest : List Id = drop (length c.volumes + 1) c.path in
        let sums = ap (sum_by (volume_cost heads tables)) (next_begins c.path (length c.volumes) v cow.0) ∙ sum_by-cons (volume_cost heads tables) v rest in
        begin_fewer (layer.steps_left (heads w) (tables w) begins.0) (2 ^ (heads v).cluster_bits / 512 * tables v 0) (sum_by (volume_cost heads tables) rest)
        (sum_by (volume_cost heads tables) (drop (length c.volumes) c.path))
        (begins.1.left (heads w) (tables w) ∙ ap (λ (u : Id). 2 * (2 ^ (heads u).cluster_bits / 512 * tables u 0) + 5) begins.1.volume) sums

pub named_shape : (c : Chain) (o : Opening) (l : layers.Layer) (turn : StageTurn) → layer.target_kept l ≡ layer.target_of o → AddsLayer c l turn → KeepsShape (stages.Layer c o) turn
named_shape c o l (More next) same is =
    subst (λ (s : Stage). (target_at s ≡ c.target) × (StageShaped (stages.Layer c o) → StageShaped s)) (sym is) (
      same_target c (Cow l) (next_of c),
      λ shaped.
          shaped_more c shaped.1.volume (Cow l) shaped.0 shaped.1.next
          (subst (λ q. IsOpenAs c.target shaped.1.volume q (Cow l)) (sym shaped.1.is) (shaped.1.cow, same ∙ shaped.1.target)),
    )
named_shape c o l (Done d) same is = absurd is
named_shape c o l (Ended b e) same is = tt

pub named_falls : (c : Chain) (o : Opening) (l : layers.Layer) (turn : StageTurn) → AddsLayer c l turn → StageFalls (stages.Layer c o) turn
named_falls c o l (More next) is = subst (λ (s : Stage). Falls (stages.Layer c o) s) (sym is) (λ heads tables shaped. fewer heads tables shaped.1)
  where
    fewer : (heads : Id → Header) (tables : Id → ℕ → ℕ) → IsNextLayer c o → left_along heads tables (stages.Along (opened c (Cow l))) < left_along heads tables (stages.Layer c o)
    fewer heads tables next =
        let sums = ap (λ (n : ℕ). sum_by (volume_cost heads tables) (drop n c.path)) (snoc_length c.volumes (Cow l)) in
        subst (λ (d : Chain). left_along heads tables (stages.Along d) < left_along heads tables (stages.Layer c o)) (sym (opened_is c (Cow l) next.volume next.next))
        (omega (arith, sums))
named_falls c o l (Done d) is = absurd is
named_falls c o l (Ended b e) is = tt
