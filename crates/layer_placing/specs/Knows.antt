-- What a placing knows of the layer's file in each stage, and what a step leaves.
use Rattle.std.specs.Prelude.{◌≡◌, ◌≢◌, ◌⊎◌, ℕ, ◌+◌, ◌*◌, ◌/◌, ◌%◌, ◌<◌, ◌≤◌, ◌^◌, min, Bool, true, false, List, [], length, slice_index, None, Some, ◌==◌, if◌then◌else◌}
use Rattle.sd_names.specs.declared.refusal.Refusal.{Refusal}
use Rattle.sd_names.specs.declared.refusal.Refusal.TheVariants.{DiskFault, NoRoom}
use Rattle.sd_names.specs.declared.turn.Turn.{Turn}
use Rattle.sd_names.specs.Turn.{MatchTurn}
use Rattle.shared_disk.specs.Calls.{IsPut, synced}
use Rattle.shared_disk.specs.Content.{Content, File, seen}
use Rattle.shared_disk.specs.Crash.{IsAlone, IsSettled, OnEach}
use Rattle.qcow_format.specs.Bytes.{number}
use Rattle.qcow_format.specs.declared.header.Header.{Header}
use Rattle.image_model.specs.Layer.{block_place, l1_entry}
use Rattle.image_model.specs.Room.{end_of_room, room_of}
use Rattle.image_model.specs.Soundness.{IsSound}
use Rattle.layer_laws.specs.Laws as laws
use Rattle.qcow_layer.specs.Knowing.{is_free, mapped}
use Rattle.qcow_layer.specs.Opening.{capacity_kept, header_kept, place_kept, volume_kept}
use Rattle.qcow_layer.specs.declared.layer.Layer.{Layer}
use Rattle.layer_writing.specs.Holding.{ComesBy, HoldSame, IsSpare, as_seen, on_medium}
use Rattle.layer_writing.specs.Writer.{IsLeft, KnowsWriter, seen_tables}
use Rattle.layer_placing.specs.Chosen.{AreLeast, IsShort, listed}
use Rattle.layer_placing.specs.Stages.{RaisesTo, current_of, entry_place_of, span_of}
use Rattle.layer_placing.specs.declared.clusters.Clusters.{Clusters}
use Rattle.layer_placing.specs.declared.stage.Stage.{Stage}
use Rattle.layer_placing.specs.declared.stage.Stage.TheVariants.{Begun, Finding, Counting, Raising, Zeroing, Zeroed, Settled, Entered}
use Rattle.layer_placing.specs.declared.stage.Work.{Work}
use Rattle.layer_placing.specs.declared.stage.Raise.{Raise}

abbrev pub width_of : Layer → ℕ
width_of layer = 2 ^ (header_kept layer).cluster_bits

-- The chosen clusters lie in the file, at places that entries can name, and are covered by the refcount table. Those before
-- `done` are spare, and taken in the map; the others are free in it.
pub record ServesAs (h : Header) (capacity : ℕ) (free : ℕ → Bool) (room host : ℕ) (f : File) (xs : List ℕ) (done : ℕ) : Type 0 where
  pub inside : (i : ℕ) → i < length xs → slice_index xs i * 2 ^ h.cluster_bits + 2 ^ h.cluster_bits ≤ 512 * f.size
  pub low : (i : ℕ) → i < length xs → slice_index xs i * 2 ^ h.cluster_bits + 2 ^ h.cluster_bits ≤ 2 ^ 56
  pub counted : (i : ℕ) → i < length xs → slice_index xs i / (2 ^ h.cluster_bits / 2) < h.refcount_table_clusters * (2 ^ h.cluster_bits / 8)
  pub rising : (i j : ℕ) → i < j → j < length xs → slice_index xs i < slice_index xs j
  pub spare : (i : ℕ) → i < done → i < length xs → IsSpare (laws.layer h (as_seen host f)) capacity (slice_index xs i * 2 ^ h.cluster_bits)
  pub taken : (i : ℕ) → i < done → i < length xs → free (slice_index xs i) ≡ false
  pub left : (i : ℕ) → done ≤ i → i < length xs → (free (slice_index xs i) ≡ true) × (slice_index xs i < room)

abbrev pub Serves : Layer → ℕ → File → List ℕ → ℕ → Type 0
Serves layer host f xs done = ServesAs (header_kept layer) (capacity_kept layer) (is_free layer) (mapped layer) host f xs done

-- the file is known to its writer, and serves the chosen clusters
pub record Ready (layer : Layer) (host : ℕ) (f : File) (w : Work) : Type 0 where
  pub writer : KnowsWriter layer host f
  pub serves : Serves layer host f (listed w.chosen) w.done

-- which range the next cluster is in
abbrev pub range_of : Layer → Work → ℕ
range_of layer w = current_of w / span_of layer

-- the range has its block there
pub record HasBlock (layer : Layer) (host : ℕ) (f : File) (w : Work) (block : ℕ) : Type 0 where
  pub ready : Ready layer host f w
  pub place : block_place (seen_tables layer host f) (range_of layer w) ≡ block
  pub there : block ≢ 0

-- the sector of the next cluster's count
abbrev pub count_sector : Layer → Work → ℕ → ℕ
count_sector layer w block = (block / 2 + current_of w % span_of layer) / 256

-- a sector of counts is as it is to be
pub record HasCounts (layer : Layer) (host : ℕ) (f : File) (r : Raise) : Type 0 where
  pub block : ℕ
  pub has : HasBlock layer host f r.work block
  pub at : r.at ≡ 512 * count_sector layer r.work block
  pub raises : RaisesTo r.work (seen host f (r.at / 512)) r.counts r.upto

-- the count with index m in sector i of a block that counts itself alone
abbrev pub own_count : ℕ → ℕ → ℕ
own_count i m = if i + m == 0 then 1 else 0

-- the room of a piece: zeros, and in the first piece a count of 1 in front
pub record IsRoom (first : Bool) (room : List ℕ) : Type 0 where
  pub own : first ≡ true → slice_index room 1 ≡ 1
  pub zeros : (i : ℕ) → (first ≡ false) ⊎ (i ≢ 1) → slice_index room i ≡ 0

-- where the first cluster of the next cluster's range stands, in bytes
abbrev pub first_place : Layer → Work → ℕ
first_place layer w = range_of layer w * span_of layer * width_of layer

-- The range has no block. The sector of its entry is kept, and the first so many sectors of the cluster that becomes the block
-- are those of a block that counts itself.
pub record LacksBlock (layer : Layer) (host : ℕ) (f : File) (w : Work) (table : List ℕ) (sectors : ℕ) : Type 0 where
  pub ready : Ready layer host f w
  pub none : block_place (seen_tables layer host f) (range_of layer w) ≡ 0
  pub entry : table ≡ seen host f (entry_place_of layer (current_of w) / 512)
  pub written : (i m : ℕ) → i < sectors → m < 256 → number 2 (m * 2) (seen host f (first_place layer w / 512 + i)) ≡ own_count i m

-- The block was entered, and the entry isn't synced: each outcome is a sound layer, and once the host has synced the file the
-- range has its block.
pub record EntersBlock (layer : Layer) (host : ℕ) (f : File) (w : Work) (block : ℕ) : Type 0 where
  pub alone : IsAlone host f
  pub made : f.fresh ≡ None
  pub sound : OnEach f (λ g. IsSound (on_medium g) (capacity_kept layer))
  pub after : HasBlock layer host (synced host f) w block

abbrev pub KnowsIn : Layer → ℕ → File → Stage → Type 0
KnowsIn layer host f (Begun asked) = KnowsWriter layer host f
KnowsIn layer host f (Finding w) = Ready layer host f w
KnowsIn layer host f (Counting w block) = HasBlock layer host f w block
KnowsIn layer host f (Raising r) = HasCounts layer host f r
KnowsIn layer host f (Zeroing w table piece) = LacksBlock layer host f w table (piece * (min (width_of layer) 65536 / 512)) × (piece * min (width_of layer) 65536 < width_of layer)
KnowsIn layer host f (Zeroed w table) = LacksBlock layer host f w table (width_of layer / 512)
KnowsIn layer host f (Settled w table) = LacksBlock layer host f w table (width_of layer / 512) × IsSettled f
KnowsIn layer host f (Entered w block) = EntersBlock layer host f w block

-- ---- what a step leaves

-- the clusters that were chosen
abbrev pub chosen_in : Stage → List ℕ
chosen_in (Begun asked) = []
chosen_in (Finding w) = listed w.chosen
chosen_in (Counting w block) = listed w.chosen
chosen_in (Raising r) = listed r.work.chosen
chosen_in (Zeroing w table piece) = listed w.chosen
chosen_in (Zeroed w table) = listed w.chosen
chosen_in (Settled w table) = listed w.chosen
chosen_in (Entered w block) = listed w.chosen

-- the first step chooses as many as were asked for, and further steps keep them
abbrev pub KeepsList : Stage → List ℕ → Type 0
KeepsList (Begun asked) xs = length xs ≡ asked.count
KeepsList stage xs = xs ≡ chosen_in stage

abbrev pub KeepsChosen : Stage → Turn Stage Clusters (Unit {0}) → Type 0
KeepsChosen stage turn = MatchTurn turn (λ next. KeepsList stage (chosen_in next)) (λ chosen. KeepsList stage (listed chosen)) (λ _ _. Unit {0})

-- in the first step, the least free clusters below the room are chosen
abbrev pub IsChoice : Layer → ℕ → File → Stage → List ℕ → Type 0
IsChoice layer host f (Begun asked) xs = AreLeast layer (end_of_room (room_of (seen_tables layer host f))) asked.count xs
IsChoice layer host f stage xs = Unit {0}

-- Each cluster is spare as the host sees it, named by nothing on any outcome, and taken in the map. They are different ones, at
-- places that entries can name.
pub record ArePlaced (layer : Layer) (host : ℕ) (f : File) (xs : List ℕ) : Type 0 where
  pub writer : KnowsWriter layer host f
  pub spare : (i : ℕ) → i < length xs → IsSpare (seen_tables layer host f) (capacity_kept layer) (slice_index xs i * width_of layer)
  pub unnamed : (i : ℕ) → i < length xs → OnEach f (λ g. laws.IsUnnamed (laws.layer (header_kept layer) (on_medium g)) (capacity_kept layer) (slice_index xs i * width_of layer))
  pub taken : (i : ℕ) → i < length xs → is_free layer (slice_index xs i) ≡ false
  pub rising : (i j : ℕ) → i < j → j < length xs → slice_index xs i < slice_index xs j
  pub low : (i : ℕ) → i < length xs → slice_index xs i * width_of layer < 2 ^ 56

-- want of room changes nothing, and says what would do
abbrev pub RefusesRoom : Layer → Layer → ℕ → Stage → File → File → Refusal → Type 0
RefusesRoom layer next host (Begun asked) f now refusal = (next ≡ layer) × (now ≡ f) × ((room : ℕ) × (wanted : ℕ)
    × (refusal ≡ NoRoom (volume_kept layer) room wanted) × IsShort layer (room_of (seen_tables layer host f)) asked.count room wanted)
RefusesRoom layer next host stage f now refusal = ⊥

-- or the disk failed
abbrev pub EndsBy : Layer → Layer → ℕ → ℕ → Stage → File → File → Refusal → Type 0
EndsBy layer next host faults stage f now refusal = ((refusal ≡ DiskFault faults) × IsLeft next host now) ⊎ RefusesRoom layer next host stage f now refusal

-- Places that were spare before a step, as those of an earlier placing that no entry names yet: they are spare as the host
-- sees the file then, and named by nothing on each outcome of it. Each L1 entry names the L2 table that it named.
pub record StaySpare (layer next : Layer) (host : ℕ) (f now : File) : Type 0 where
  pub spare : (place : ℕ) → IsSpare (seen_tables layer host f) (capacity_kept layer) place → IsSpare (seen_tables next host now) (capacity_kept next) place
  pub unnamed : (place : ℕ) → IsSpare (seen_tables layer host f) (capacity_kept layer) place → OnEach now (λ g. laws.IsUnnamed (laws.layer (header_kept next) (on_medium g)) (capacity_kept next) place)
  pub tables : (i : ℕ) → i < (header_kept layer).l1_size → l1_entry (seen_tables next host now) i ≡ l1_entry (seen_tables layer host f) i

-- So they stay unless the step is refused. Want of room changes nothing, and a fault may lose counts that weren't synced.
abbrev pub KeepsSpare : {S : Type 0} → Layer → Layer → ℕ → Turn S Clusters (Unit {0}) → File → File → Type 0
KeepsSpare layer next host turn f now = MatchTurn turn (λ _. StaySpare layer next host f now) (λ _. StaySpare layer next host f now) (λ _ _. Unit {0})

-- A step changes the layer's file alone. Each outcome holds what one from before held: own bytes, entries and backing file.
pub record StepsIn (layer next : Layer) (host faults : ℕ) (stage : Stage) (turn : Turn Stage Clusters (Unit {0})) (f : File) (d e : Content) : Type 0 where
  pub now : File
  pub put : IsPut d (place_kept layer) (Some now) e
  pub comes : ComesBy (HoldSame (header_kept layer) (capacity_kept layer)) f now
  pub after : MatchTurn turn
      (λ s. KnowsIn next host now s × IsChoice layer host f stage (chosen_in s))
      (λ chosen. ArePlaced next host now (listed chosen))
      (λ _ refusal. EndsBy layer next host faults stage f now refusal)
  pub spare : KeepsSpare layer next host turn f now

abbrev pub Steps : Layer → Layer → ℕ → ℕ → Stage → Turn Stage Clusters (Unit {0}) → Content → Content → Type 0
Steps layer next host faults stage turn d e = (f : File) → d.file (place_kept layer) ≡ Some f → KnowsIn layer host f stage → StepsIn layer next host faults stage turn f d e
