-- What a read knows between its steps.
use Rattle.std.specs.Prelude.{◌≡◌, ℕ, suc, ◌+◌, ◌-◌, ◌*◌, ◌/◌, ◌%◌, ◌^◌, ◌<◌, ◌≤◌, max, nat_lt, if◌then◌else◌, MatchBool, List, [], ◌∷◌, length, drop, slice_get, Contains, Option, Some, None}
use Rattle.sd_names.specs.declared.id.Id.{Id}
use Rattle.shared_disk.specs.Content.{Content, File, sector_of, zero_sector}
use Rattle.shared_disk.specs.Crash.{IsAlso, IsSettled}
use Rattle.shared_disk.specs.Places.{id_is}
use Rattle.qcow_format.specs.declared.entry.Entry.{Entry}
use Rattle.qcow_format.specs.declared.entry.Entry.TheVariants.{Absent, Zero, Data}
use Rattle.image_model.specs.File.{file_of, sector_in}
use Rattle.image_model.specs.Layer.{Tables}
use Rattle.layer_walk.specs.Known.{tables_of}
use Rattle.qcow_layer.specs.Looking.{KnowsTable, cluster_of, table_of}
use Rattle.qcow_layer.specs.Opening.{work_kept}
use Rattle.qcow_layer.specs.declared.layer.Layer.{Layer}
use Rattle.qcow_layer.specs.declared.looking.Looking as looks
use Rattle.chain_model.specs.Chain.{IsBelow}
use Rattle.chain_model.specs.Flat.{first_of, flat}
use Rattle.chain_model.specs.Folder.{Volumes}
use Rattle.chain_model.specs.Growth.{IsLonger}
use Rattle.chain_model.specs.Own.{own}
use Rattle.chain_model.specs.Records.{Records}
use Rattle.chain_records.specs.Records.{records_in}
use Rattle.volume_chain.specs.Chain.{IsShaped, open_in, path_in, place_in, records_kept, target_of}
use Rattle.volume_chain.specs.Knowing.{IsKnown}
use Rattle.volume_chain.specs.declared.chain.Chain.{Chain}
use Rattle.volume_chain.specs.declared.volumes.OpenVolume.{OpenVolume}
use Rattle.volume_chain.specs.declared.volumes.OpenVolume.TheVariants.{Cow}
use Rattle.chain_reading.specs.Asked.{cluster_number, cluster_sectors, sectors_in}
use Rattle.chain_reading.specs.Laying.{is_missing}
use Rattle.chain_reading.specs.declared.part.ReadPart.{ReadPart}
use Rattle.chain_reading.specs.declared.part.Stage.{Stage}
use Rattle.chain_reading.specs.declared.part.Stage.TheVariants.{Begun, Asking, Looking, Found}

-- how many volumes of a path stand before this one
abbrev pub place_on : Id → List Id → ℕ
place_on v [] = 0
place_on v (w ∷ ws) = if id_is w v then 0 else suc (place_on v ws)

abbrev pub records_of : Chain → Records
records_of c = records_in (records_kept c)

-- a sector as the volumes of the path read from the one with this index on
abbrev pub read_from : Chain → Volumes → ℕ → ℕ → List ℕ
read_from c x i k = first_of (records_of c) x (drop i (path_in c)) k

-- a sector as a volume of the path reads, and what a sector of the part is to be
abbrev pub reads_as : Chain → Volumes → Id → ℕ → List ℕ
reads_as c x v k = read_from c x (place_on v (path_in c)) k

abbrev pub wanted : ReadPart → Chain → Volumes → ℕ → List ℕ
wanted p c x j = reads_as c x p.volume (p.first + j)

-- the volume that is asked next for a sector of the part
abbrev pub next_for : ReadPart → ℕ → ℕ
next_for p j = if nat_lt j p.run.from then p.index + 1 else p.index

-- A sector that is missing is to be what the volumes read that are still to be asked; any other is what it is to be.
abbrev pub IsStanding : ReadPart → Chain → Volumes → List ℕ → ℕ → Type 0
IsStanding p c x part j =
    MatchBool (is_missing p.missing j) (read_from c x (next_for p j) (p.first + j) ≡ wanted p c x j) (sector_of part j ≡ wanted p c x j)

-- the volume that is asked, with its file
pub record IsAsked (p : ReadPart) (c : Chain) (x : Volumes) (v : Id) (f : File) : Type 0 where
  pub volume : slice_get (path_in c) p.index ≡ Some v
  pub file : x.file v ≡ Some f

-- the sectors of the run are what the volume that is asked holds
abbrev pub RunStands : ReadPart → Chain → Volumes → Type 0
RunStands p c x = (v : Id) (f : File) → IsAsked p c x v f → (j : ℕ) → p.run.from ≤ j → j < p.run.to
    → own (records_of c) x v (p.first + j) ≡ Some (sector_in f.size f.stable (p.run.sector + (j - p.run.from)))

-- the layer that is asked, as its file has it
pub record IsLayerAsked (p : ReadPart) (c : Chain) (x : Volumes) (l : Layer) (f : File) : Type 0 where
  pub volume : Id
  pub is : IsAsked p c x volume f
  pub layer : slice_get (open_in c) p.index ≡ Some (Cow l)

abbrev pub tables_in : Layer → File → Tables
tables_in l f = tables_of (work_kept l) (file_of f.size f.stable)

-- the number of the cluster that has the first sector behind the run
abbrev pub number : ReadPart → Layer → ℕ
number p l = cluster_number (Some (cluster_sectors l)) p.first p.run.to

pub record KnowsLooking (p : ReadPart) (c : Chain) (x : Volumes) (looking : looks.Looking) : Type 0 where
  pub layer : Layer
  pub file : File
  pub asked : IsLayerAsked p c x layer file
  pub cluster : cluster_of looking ≡ number p layer
  pub table : KnowsTable (tables_in layer file) (number p layer) (table_of looking)

-- A sector of a cluster as a volume holds it by the cluster's entry: of zeros, or the one that stands `at` sectors behind
-- the cluster's place in the file.
abbrev pub held_by : Entry → File → ℕ → Option (List ℕ)
held_by Absent f at = None
held_by (Zero place) f at = Some zero_sector
held_by (Data place) f at = Some (sector_in f.size f.stable (place / 512 + at))

-- an entry's place is below 2^56
abbrev pub IsLow : Entry → Type 0
IsLow Absent = Unit {0}
IsLow (Zero place) = Unit {0}
IsLow (Data place) = place < 2 ^ 56

-- the entry of the cluster that has the first sector behind the run says what the volume holds of the cluster
pub record KnowsEntry (p : ReadPart) (c : Chain) (x : Volumes) (entry : Entry) : Type 0 where
  pub layer : Layer
  pub file : File
  pub asked : IsLayerAsked p c x layer file
  pub low : IsLow entry
  pub held : (k : ℕ) → k < sectors_in c asked.volume → k / max (cluster_sectors layer) 1 ≡ number p layer
      → own (records_of c) x asked.volume k ≡ held_by entry file (k % max (cluster_sectors layer) 1)

-- what is known of the part, once the volume was found on the path
pub record KnowsPart (p : ReadPart) (c : Chain) (x : Volumes) (part : List ℕ) : Type 0 where
  pub each : (j : ℕ) → 512 * (j + 1) ≤ length part → IsStanding p c x part j
  pub run : RunStands p c x
  pub low : p.run.from < p.run.to → p.run.sector < 2 ^ 55
  pub inside : 512 * p.run.to ≤ length part
  pub from : place_on p.volume (path_in c) ≤ p.index

-- what is known by the stage
abbrev pub KnowsSoFar : Stage → ReadPart → Chain → Volumes → List ℕ → Type 0
KnowsSoFar Begun p c x part = Unit {0}
KnowsSoFar Asking p c x part = KnowsPart p c x part
KnowsSoFar (Looking looking) p c x part = KnowsPart p c x part × KnowsLooking p c x looking
KnowsSoFar (Found entry) p c x part = KnowsPart p c x part × KnowsEntry p c x entry

-- a volume of the path, at the index of this one or behind it, with its open file
pub record IsFrom (c : Chain) (v : Id) (i : ℕ) (w : Id) (o : OpenVolume) : Type 0 where
  pub from : place_on v (path_in c) ≤ i
  pub volume : slice_get (path_in c) i ≡ Some w
  pub opened : slice_get (open_in c) i ≡ Some o

-- A volume that can be read: its file is what the chain knows of it, nothing is unsynced in it, and it is this one or longer.
pub record IsReadable (c : Chain) (host : ℕ) (x : Volumes) (d : Content) (w : Id) (o : OpenVolume) : Type 0 where
  pub known : IsKnown (target_of c) host d w o
  pub settled : (f : File) → d.file (place_in (target_of c) w) ≡ Some f → IsSettled f
  pub longer : IsAlso IsLonger (x.file w) (d.file (place_in (target_of c) w))

-- What is known of the image to read this volume: the volumes of the path from it on can be read, which are all that are
-- asked. Those before it may be written.
pub record KnowsImage (c : Chain) (v : Id) (host : ℕ) (x : Volumes) (d : Content) : Type 0 where
  pub shape : IsShaped c
  pub all : length (open_in c) ≡ length (path_in c)
  pub each : (i : ℕ) (w : Id) (o : OpenVolume) → IsFrom c v i w o → IsReadable c host x d w o

-- What a read knows in a stage: the image, that its volume is one of the path, that the part ends at 2^64 at the latest, and
-- what the part has so far.
pub record KnowsIn (stage : Stage) (p : ReadPart) (c : Chain) (host : ℕ) (x : Volumes) (part : List ℕ) (d : Content) : Type 0 where
  pub image : KnowsImage c p.volume host x d
  pub volume : Contains (path_in c) p.volume
  pub ends : 512 * p.first + length part ≤ 2 ^ 64
  pub so_far : KnowsSoFar stage p c x part

abbrev pub Knows : ReadPart → Chain → ℕ → Volumes → List ℕ → Content → Type 0
Knows p c host x part d = KnowsIn p.stage p c host x part d

-- each sector of the part is the volume's there, as the files read
abbrev pub IsReadAs : ReadPart → Chain → Volumes → List ℕ → Type 0
IsReadAs p c x part = (us : List Id) → IsBelow (records_of c) p.volume us → (j : ℕ) → 512 * (j + 1) ≤ length part
    → sector_of part j ≡ flat (records_of c) x p.volume us (p.first + j)
