-- What is known between the steps of the read of a cluster.
use Rattle.std.specs.Prelude.{◌≡◌, ℕ, ◌+◌, ◌<◌, ◌≤◌, List, Contains, slice_get, Some, None}
use Rattle.shared_disk.specs.Content.{Content, File, sector_of}
use Rattle.qcow_layer.specs.Looking.{KnowsTable, cluster_of, table_of}
use Rattle.qcow_layer.specs.declared.layer.Layer.{Layer}
use Rattle.qcow_layer.specs.declared.looking.Looking as looks
use Rattle.chain_model.specs.Folder.{Volumes}
use Rattle.chain_model.specs.Own.{own}
use Rattle.chain_records.specs.Settling.{IsOver}
use Rattle.volume_chain.specs.Chain.{open_in, path_in}
use Rattle.volume_chain.specs.Layers.{IsLayerAt}
use Rattle.volume_chain.specs.declared.chain.Chain.{Chain}
use Rattle.volume_chain.specs.declared.subchain.Subchain.{Subchain}
use Rattle.volume_chain.specs.declared.volumes.OpenVolume.TheVariants.{Cow}
use Rattle.chain_reading.specs.Knowing.{KnowsImage, place_on, records_of, tables_in}
use Rattle.chain_reading.specs.Knowing as reading
use Rattle.chain_reading.specs.Reading.{first_sector, volume_of}
use Rattle.chain_reading.specs.declared.part.ReadPart.{ReadPart}
use Rattle.commit_reading.specs.Pieces.{count_of, end_in, end_of, first_in, first_of, front}
use Rattle.commit_reading.specs.declared.pieces.Pieces.{Pieces}
use Rattle.commit_reading.specs.declared.reading.CommitReading.{CommitReading}
use Rattle.commit_reading.specs.declared.reading.Stage.{Stage}
use Rattle.commit_reading.specs.declared.reading.Stage.TheVariants.{Begun, Looking, Next, Reading}

-- The top can be read: it is a layer of the path, over the base as its parent that counts, and the files of the volumes from it on
-- are those of the begin or longer.
pub record KnowsTop (c : Chain) (sub : Subchain) (host : ℕ) (x : Volumes) (d : Content) : Type 0 where
  pub image : KnowsImage c sub.top host x d
  pub path : Contains (path_in c) sub.top
  pub layer : IsLayerAt (open_in c) (place_on sub.top (path_in c))
  pub over : IsOver (records_of c) sub.top sub.base

-- the top itself holds each of these sectors
abbrev pub HoldsFrom : Chain → Subchain → Volumes → ℕ → ℕ → Type 0
HoldsFrom c sub x first end = (k : ℕ) → first ≤ k → k < end → (s : List ℕ) × (own (records_of c) x sub.top k ≡ Some s)

-- it holds none of the cluster's
abbrev pub HoldsNone : Chain → Subchain → ℕ → Volumes → Type 0
HoldsNone c sub cluster x = (k : ℕ) → first_in c sub cluster ≤ k → k < end_in c sub cluster → own (records_of c) x sub.top k ≡ None

-- The top holds all that is left of the cluster, and the next piece stands in front of the part as the top holds it.
pub record HasPiece (c : Chain) (sub : Subchain) (x : Volumes) (p : Pieces) (part : List ℕ) : Type 0 where
  pub held : HoldsFrom c sub x (first_of p) (end_of p)
  pub piece : (j : ℕ) → j < count_of p → own (records_of c) x sub.top (first_of p + j) ≡ Some (sector_of (front p part) j)

-- the look-up is of this cluster, and the table that was found is the one that the layer has for it
abbrev pub KnowsLooking : Chain → Subchain → ℕ → Volumes → looks.Looking → Type 0
KnowsLooking c sub cluster x looking = (cluster_of looking ≡ cluster)
    × ((l : Layer) (f : File) → slice_get (open_in c) (place_on sub.top (path_in c)) ≡ Some (Cow l) → x.file sub.top ≡ Some f → KnowsTable (tables_in l f) cluster (table_of looking))

-- the piece of the top that is read
pub record IsReadOf (sub : Subchain) (p : Pieces) (read : ReadPart) : Type 0 where
  pub volume : volume_of read ≡ sub.top
  pub first : first_sector read ≡ first_of p

-- what is known by the stage
abbrev pub KnowsSoFar : Stage → Subchain → ℕ → Chain → ℕ → Volumes → List ℕ → Content → Type 0
KnowsSoFar Begun sub cluster c host x part d = Unit {0}
KnowsSoFar (Looking looking) sub cluster c host x part d = KnowsLooking c sub cluster x looking
KnowsSoFar (Next p) sub cluster c host x part d = HoldsFrom c sub x (first_of p) (end_of p)
KnowsSoFar (Reading p read) sub cluster c host x part d = HoldsFrom c sub x (first_of p) (end_of p) × IsReadOf sub p read × reading.Knows read c host x (front p part) d

pub record KnowsIn (stage : Stage) (w : CommitReading) (c : Chain) (host : ℕ) (x : Volumes) (part : List ℕ) (d : Content) : Type 0 where
  pub top : KnowsTop c w.sub host x d
  pub so_far : KnowsSoFar stage w.sub w.cluster c host x part d

-- What a read of a cluster knows, of the volumes `x` as they were at its begin, by what stands in the part.
abbrev pub Knows : CommitReading → Chain → ℕ → Volumes → List ℕ → Content → Type 0
Knows w c host x part d = KnowsIn w.stage w c host x part d
