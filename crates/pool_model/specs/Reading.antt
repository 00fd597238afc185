-- What an image of a pool reads as, and whether a write finds room in it.
use Rattle.std.specs.Prelude.{◌≡◌, ◌⊎◌, ℕ, ◌+◌, ◌-◌, ◌*◌, ◌/◌, ◌<◌, ◌&&◌, ◌||◌, nat_lt, nat_le, Bool, if◌then◌else◌, List, length, Option, Some, None, Ok}
use Rattle.std.specs.Option.{option_map, option_and_then}
use Rattle.sd_names.specs.declared.id.Id.{Id}
use Rattle.sd_names.specs.declared.kinds.Format.{Format}
use Rattle.sd_names.specs.declared.kinds.Format.TheVariants.{Raw, Cow}
use Rattle.sd_names.specs.declared.refusal.Refusal.{Refusal}
use Rattle.sd_names.specs.declared.refusal.Refusal.TheVariants.{NoRoom}
use Rattle.shared_disk.specs.Content.{sector_of}
use Rattle.shared_disk.specs.Places.{id_is}
use Rattle.volume_meta.specs.declared.record.VolumeRecord.{VolumeRecord}
use Rattle.image_model.specs.Room.{Need, Placed, Room, Short, free_below}
use Rattle.chain_model.specs.Records.{Records, record_in}
use Rattle.chain_model.specs.Reading.{IsReading}
use Rattle.pool_model.specs.Pool.{Image, Torn, Volume}

-- the records of an image's volumes: their parents are those that count
abbrev pub records_in : Image → Records
records_in m v = option_and_then (λ x. record_in x.says) (m.volume v)

-- The volume that guests read and write, with its record.
pub record ReadsAs (m : Image) (v : Id) (x : Volume) (y : VolumeRecord) : Type 0 where
  pub below : List Id
  pub reading : IsReading (records_in m) v below
  pub volume : m.volume v ≡ Some x
  pub says : x.says ≡ Ok y

-- the bytes of so many sectors of a flat list, from a sector on
pub record AreBytesOf (flat : ℕ → List ℕ) (at count : ℕ) (bytes : List ℕ) : Type 0 where
  pub len : length bytes ≡ 512 * count
  pub sectors : (k : ℕ) → k < count → sector_of bytes k ≡ flat (at + k)

-- ---- a write

-- a flat list with bytes laid over it from a sector on
abbrev pub laid : ℕ → List ℕ → (ℕ → List ℕ) → ℕ → List ℕ
laid at bytes flat k = if nat_le at k && nat_lt k (at + length bytes / 512) then sector_of bytes (k - at) else flat k

-- the clusters that some bytes meet, from the first up to the one behind the last
abbrev pub first_cluster : Room → ℕ → ℕ
first_cluster r at = at / r.cluster

abbrev pub end_cluster : Room → ℕ → ℕ → ℕ
end_cluster r at count = (at + count + (r.cluster - 1)) / r.cluster

-- how many clusters a write of so many bytes takes
abbrev pub need_of : Room → ℕ → ℕ → ℕ
need_of r at count = Need r (first_cluster r at) (end_cluster r at count)

-- A write of so many bytes from a byte on finds no room in the volume: a raw file ends before it, or a layer has too few
-- free clusters.
abbrev pub IsShort : Format → Id → Volume → ℕ → ℕ → Refusal → Type 0
IsShort Raw v x at count e = (n : ℕ) × (x.length ≡ Some n) × (n < at + count) × (e ≡ NoRoom v n (at + count))
IsShort Cow v x at count e =
    (r : Room) × (x.room ≡ Some r) × ((room : ℕ) × ((wanted : ℕ) × Short r (need_of r at count) room wanted × (e ≡ NoRoom v room wanted)))

-- cluster k stands under the same L2 table as one of those from `first` up to `end`
abbrev pub shares_table : Room → ℕ → ℕ → ℕ → Bool
shares_table r first end k = nat_le (first / (r.cluster / 8)) (k / (r.cluster / 8)) && nat_le (k / (r.cluster / 8)) ((end - 1) / (r.cluster / 8))

-- The room once a write is done that wasn't short: its clusters have places, and their tables are there; the least clusters
-- that weren't used are, as many as it needed.
abbrev pub filled : Room → ℕ → ℕ → Room
filled r first end = record r {
  kind = λ k. if nat_le first k && nat_lt k end then Placed else r.kind k;
  table = λ k. r.table k || shares_table r first end k;
  used = λ c. r.used c || nat_lt (free_below r c) (Need r first end);
}

abbrev pub filled_by : ℕ → ℕ → Room → Room
filled_by at count r = filled r (first_cluster r at) (end_cluster r at count)

-- the write of some bytes from a byte on to the reading volume v: the room of its layer is the one that changes
abbrev pub torn_by : Id → Volume → ℕ → List ℕ → Torn
torn_by v x at bytes = record {
  at = at / 512;
  bytes = bytes;
  room = λ w. if id_is w v then option_map (filled_by at (length bytes)) x.room else None;
}

-- the room that a write leaves; the length is the file's, which may have become longer meanwhile
abbrev pub instead : Option Room → Option Room → Option Room
instead (Some new) (Some old) = Some (record new { length = old.length })
instead (Some new) None = None
instead None room = room

-- a volume, and an image whose reading volume is v, once the write is done
abbrev pub done_volume : Id → Torn → Id → Volume → Volume
done_volume v t w x = record x {
  room = instead (t.room w) x.room;
  flat = if id_is w v then laid t.at t.bytes x.flat else x.flat;
}

abbrev pub done_image : Id → Torn → Image → Image
done_image v t m = record { fault = m.fault; volume = λ w. option_map (done_volume v t w) (m.volume w); torn = None }

-- ---- a write that was cut

-- each sector is the old list's or the one's with the bytes laid over it
abbrev pub IsMixed : Torn → (ℕ → List ℕ) → (ℕ → List ℕ) → Type 0
IsMixed t old is = (k : ℕ) → (is k ≡ old k) ⊎ (is k ≡ laid t.at t.bytes old k)

-- a room on the way from one to another: of each cluster either holds, and all else is as it was
pub record IsOnTheWay (old new is : Room) : Type 0 where
  pub length : is.length ≡ old.length
  pub version : is.version ≡ old.version
  pub cluster : is.cluster ≡ old.cluster
  pub mapped : is.mapped ≡ old.mapped
  pub covered : is.covered ≡ old.covered
  pub kind : (k : ℕ) → (is.kind k ≡ old.kind k) ⊎ (is.kind k ≡ new.kind k)
  pub table : (k : ℕ) → (is.table k ≡ old.table k) ⊎ (is.table k ≡ new.table k)
  pub used : (c : ℕ) → (is.used c ≡ old.used c) ⊎ (is.used c ≡ new.used c)

-- the room of a file that a write changes, or not
abbrev pub MayHaveRoom : Option Room → Option Room → Option Room → Type 0
MayHaveRoom (Some new) (Some old) (Some is) = IsOnTheWay old new is
MayHaveRoom (Some new) (Some old) None = ⊥
MayHaveRoom (Some new) None is = is ≡ None
MayHaveRoom None old is = is ≡ old
