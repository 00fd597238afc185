-- Which clusters are chosen, and where there are too few.
use Rattle.std.specs.Prelude.{◌≡◌, ◌⊎◌, ℕ, ◌*◌, ◌/◌, ◌<◌, ◌≤◌, ◌^◌, min, true, List, Result, Ok, Err, length, slice_index}
use Rattle.sd_names.specs.declared.refusal.Refusal.{Refusal}
use Rattle.sd_names.specs.declared.refusal.Refusal.TheVariants.{NoRoom}
use Rattle.image_model.specs.File as image
use Rattle.layer_laws.specs.Laws as laws
use Rattle.image_model.specs.Room.{IsWanted, Room, end_of_room, free_below, how_many, room_of}
use Rattle.qcow_layer.specs.Knowing.{is_free, mapped}
use Rattle.qcow_layer.specs.declared.layer.Layer.{Layer}
use Rattle.qcow_layer.specs.Opening.{header_kept, volume_kept}
use Rattle.layer_writing.specs.Writer.{MapTells}
use Rattle.layer_placing.specs.declared.clusters.Clusters.{Clusters}

-- the clusters of a list, by their numbers
abbrev pub listed : Clusters → List ℕ
listed clusters = clusters.numbers.items

-- a free cluster with so many free ones below it
pub record IsNthFree (layer : Layer) (n cluster : ℕ) : Type 0 where
  pub free : is_free layer cluster ≡ true
  pub below : how_many (is_free layer) cluster ≡ n

-- The least free clusters below `end`, so many of them; all that the map has there, where those are fewer.
pub record AreLeast (layer : Layer) (end count : ℕ) (xs : List ℕ) : Type 0 where
  pub each : (i : ℕ) → i < length xs → IsNthFree layer i (slice_index xs i) × (slice_index xs i < end) × (slice_index xs i < mapped layer)
  pub many : length xs ≤ count
  pub few : length xs < count → how_many (is_free layer) (min end (mapped layer)) ≡ length xs

-- the clusters of a file at places that entries can name, and that the refcount table covers
abbrev pub most_clusters : Room → ℕ
most_clusters r = min r.covered (2 ^ 56) / r.cluster

-- What a refusal for want of room says: fewer clusters than are needed are free below the room; the room, in bytes; and the
-- length that as room would do, or 0 where none does of those that the map tells of.
pub record IsShort (layer : Layer) (r : Room) (need bytes length : ℕ) : Type 0 where
  pub few : free_below r (min (end_of_room r) (mapped layer)) < need
  pub room : bytes ≡ end_of_room r * r.cluster
  pub wanted : IsWanted r need length ⊎ ((length ≡ 0) × (mapped layer < most_clusters r) × (free_below r (mapped layer) < need))

-- ---- what the map tells by itself, before anything is known of the file

-- the least length of whole clusters, below so many bytes, with so many free clusters; or 0 where the map has fewer there
abbrev pub IsWantedLength : Layer → ℕ → ℕ → ℕ → Type 0
IsWantedLength layer count most wanted =
    ((end : ℕ) × (wanted ≡ end * 2 ^ (header_kept layer).cluster_bits) × (wanted ≤ most) × (end ≤ mapped layer)
    × (count ≤ how_many (is_free layer) end) × ((less : ℕ) → less < end → how_many (is_free layer) less < count))
    ⊎ ((wanted ≡ 0) × (how_many (is_free layer) (min (most / 2 ^ (header_kept layer).cluster_bits) (mapped layer)) < count))

-- A choice for a file of so many bytes: the least free clusters below the room, or a refusal that says what room there is.
abbrev pub Chooses : Layer → ℕ → ℕ → Result Clusters Refusal → Type 0
Chooses layer count bytes (Ok chosen) =
    ((file : image.File) → file.size ≡ bytes → AreLeast layer (end_of_room (room_of (laws.layer (header_kept layer) file))) count (listed chosen)) × (length (listed chosen) ≡ count)
Chooses layer count bytes (Err refusal) = (room : ℕ) × (wanted : ℕ) × (refusal ≡ NoRoom (volume_kept layer) room wanted)
    × ((file : image.File) → file.size ≡ bytes → MapTells layer (laws.layer (header_kept layer) file)
    → IsShort layer (room_of (laws.layer (header_kept layer) file)) count room wanted)
