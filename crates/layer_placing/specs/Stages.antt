-- The stages of a placing, and how many steps are left.
use Rattle.std.specs.Prelude.{◌≡◌, ◌≢◌, ◌⊎◌, ℕ, ◌+◌, ◌-◌, ◌*◌, ◌/◌, ◌%◌, ◌<◌, ◌≤◌, ◌^◌, min, true, false, List, length, slice_index}
use Rattle.qcow_format.specs.Bytes.{number}
use Rattle.std.specs.Int.{div_ceil}
use Rattle.sd_names.specs.declared.refusal.Refusal.{Refusal}
use Rattle.sd_names.specs.declared.refusal.Refusal.TheVariants.{NoRoom}
use Rattle.sd_names.specs.declared.turn.Turn.{Turn}
use Rattle.sd_names.specs.Turn.{MatchTurn}
use Rattle.shared_disk.specs.Step.{IsDiskRefusal, NearsEnd}
use Rattle.qcow_layer.specs.Knowing.{is_free}
use Rattle.qcow_layer.specs.Mapping.{IsSameButMap}
use Rattle.qcow_layer.specs.Opening.{header_kept, volume_kept}
use Rattle.qcow_layer.specs.declared.layer.Layer.{Layer}
use Rattle.layer_placing.specs.Chosen.{listed}
use Rattle.layer_placing.specs.declared.clusters.Clusters.{Clusters}
use Rattle.layer_placing.specs.declared.stage.Stage.{Stage}
use Rattle.layer_placing.specs.declared.stage.Stage.TheVariants.{Begun, Finding, Counting, Raising, Zeroing, Zeroed, Settled, Entered}
use Rattle.layer_placing.specs.declared.stage.Work.{Work}

-- the cluster that is counted next
abbrev pub current_of : Work → ℕ
current_of w = slice_index (listed w.chosen) w.done

-- how many clusters a block of the layer counts
abbrev pub span_of : Layer → ℕ
span_of layer = 2 ^ (header_kept layer).cluster_bits / 2

-- where the entry of a cluster's range stands in the refcount table, at most what 64 bits hold
abbrev pub entry_place_of : Layer → ℕ → ℕ
entry_place_of layer x = min ((header_kept layer).refcount_table_offset + 8 * (x / span_of layer)) (2 ^ 64 - 1)

-- where the block stands that the first cluster of a cluster's range becomes
abbrev pub block_place_of : Layer → ℕ → ℕ
block_place_of layer x = min (x / span_of layer * span_of layer * 2 ^ (header_kept layer).cluster_bits) (2 ^ 64 - 1)

-- a sector of counts, with those of the chosen clusters from the next one up to `upto` at 1, all of which stand in it
pub record RaisesTo (w : Work) (sector counts : List ℕ) (upto : ℕ) : Type 0 where
  pub row : (i : ℕ) → w.done ≤ i → i < upto → slice_index (listed w.chosen) i / 256 ≡ current_of w / 256
  pub ones : (i : ℕ) → w.done ≤ i → i < upto → number 2 (slice_index (listed w.chosen) i % 256 * 2) counts ≡ 1
  pub others : (m : ℕ) → m < 256 → ((i : ℕ) → w.done ≤ i → i < upto → slice_index (listed w.chosen) i % 256 ≢ m) → number 2 (m * 2) counts ≡ number 2 (m * 2) sector

-- so many of them, the next one at least
pub record IsRaised (w : Work) (sector counts : List ℕ) (upto : ℕ) : Type 0 where
  pub ahead : w.done < upto
  pub fits : upto ≤ length (listed w.chosen)
  pub raises : RaisesTo w sector counts upto

-- the chosen clusters up to `upto` are taken in a layer's map
pub record TakesUpTo (layer : Layer) (w : Work) (upto : ℕ) (next : Layer) : Type 0 where
  pub same : IsSameButMap layer next
  pub taken : (i : ℕ) → w.done ≤ i → i < upto → is_free next (slice_index (listed w.chosen) i) ≡ false
  pub others : (c : ℕ) → ((i : ℕ) → w.done ≤ i → i < upto → slice_index (listed w.chosen) i ≢ c) → is_free next c ≡ is_free layer c
  pub fewer : (c : ℕ) → is_free next c ≡ true → is_free layer c ≡ true

-- in how many pieces a cluster of the layer is written, of at most 65,536 bytes
abbrev pub pieces_of : Layer → ℕ
pieces_of layer = div_ceil (2 ^ (header_kept layer).cluster_bits) 65536

-- ---- the steps that are left at the most, where a cluster has p pieces

-- of the clusters behind the next one
abbrev pub rest_left : ℕ → Work → ℕ
rest_left p w = (length (listed w.chosen) - w.done - 1) * (7 + p)

abbrev pub stage_left : ℕ → Stage → ℕ
stage_left p (Begun asked) = 1 + asked.count * (7 + p)
stage_left p (Finding w) = rest_left p w + (7 + p)
stage_left p (Counting w block) = rest_left p w + 2
stage_left p (Raising r) = rest_left p r.work + 1
stage_left p (Zeroing w table piece) = rest_left p w + 6 + (p - piece)
stage_left p (Zeroed w table) = rest_left p w + 5
stage_left p (Settled w table) = rest_left p w + 4
stage_left p (Entered w block) = rest_left p w + 3

-- once the chosen clusters up to `upto` have their counts, the next one is looked at, or all are done
abbrev pub IsAfterRaise : Work → ℕ → Turn Stage Clusters (Unit {0}) → Type 0
IsAfterRaise w upto turn = MatchTurn turn
    (λ next. (later : Work) × (next ≡ Finding later) × (listed later.chosen ≡ listed w.chosen) × (later.done ≡ upto))
    (λ chosen. (listed chosen ≡ listed w.chosen) × (upto ≡ length (listed w.chosen)))
    (λ _ _. ⊥)

-- whatever the disk tells, a stage comes nearer to its end
abbrev pub Falls : ℕ → Stage → Turn Stage Clusters (Unit {0}) → Type 0
Falls p stage turn = NearsEnd (λ next. Unit {0}) (stage_left p) (stage_left p stage) turn

-- ---- on every disk

-- the layer stays as it is but for its map, in which clusters are taken alone
pub record OnlyTakes (layer next : Layer) : Type 0 where
  pub same : IsSameButMap layer next
  pub fewer : (c : ℕ) → is_free next c ≡ true → is_free layer c ≡ true

-- the refusals that end a step: those of the disk, and want of room where the clusters are chosen
abbrev pub IsWantOfRoom : Layer → Stage → Refusal → Type 0
IsWantOfRoom layer (Begun asked) (NoRoom v room wanted) = v ≡ volume_kept layer
IsWantOfRoom layer _ _ = ⊥

abbrev pub IsPlacingRefusal : Layer → Stage → Refusal → Type 0
IsPlacingRefusal layer stage refusal = IsDiskRefusal refusal ⊎ IsWantOfRoom layer stage refusal
