-- What a filling knows between its steps, and what a step leaves.
use Rattle.std.specs.Prelude.{◌≡◌, ◌≢◌, ◌⊎◌, ℕ, ◌+◌, ◌*◌, ◌/◌, ◌%◌, ◌<◌, ◌≤◌, List, length, replicate, take, Contains, Option, Some, None, Result}
use Rattle.sd_names.specs.Turn.{MatchTurn}
use Rattle.sd_names.specs.declared.absence.Absence.TheVariants as absence
use Rattle.sd_names.specs.declared.id.Id.{Id}
use Rattle.sd_names.specs.declared.place.Place.{Place}
use Rattle.sd_names.specs.declared.refusal.Refusal.{Refusal}
use Rattle.sd_names.specs.declared.refusal.Refusal.TheVariants.{Vanished}
use Rattle.sd_names.specs.declared.turn.Turn.{Turn}
use Rattle.sd_names.specs.declared.turn.Turn.TheVariants.{More, Done, Ended}
use Rattle.shared_disk.specs.Calls.{IsSame, PartWritten, WriteAt, sectors_in}
use Rattle.shared_disk.specs.Content.{Content, File, seen, sector_of}
use Rattle.shared_disk.specs.Crash.{IsAlone}
use Rattle.shared_disk.specs.Step.{GoesOn, TurnFollows}
use Rattle.shared_disk.specs.declared.disk.DiskAnswer.{DiskAnswer}
use Rattle.qcow_layer.specs.Looking.{IsFault}
use Rattle.chain_model.specs.Folder.{Volumes}
use Rattle.volume_chain.specs.Chain.{path_in, place_in, target_of}
use Rattle.volume_chain.specs.declared.chain.Chain.{Chain}
use Rattle.chain_reading.specs.Knowing.{KnowsImage}
use Rattle.chain_reading.specs.Knowing as reading
use Rattle.chain_reading.specs.Reading.{IsAskedFrom, IsOnPath, KeepsPart, PartTurn, ReadsOn, first_sector, volume_of}
use Rattle.chain_reading.specs.Reading as reads
use Rattle.chain_reading.specs.declared.part.ReadPart.{ReadPart}
use Rattle.cluster_filling.specs.Cluster.{IsClusterOf, IsIn, IsWanted, ReadsBelow, piece_at}
use Rattle.cluster_filling.specs.Laying.{IsLaid}
use Rattle.cluster_filling.specs.Left.{cluster_steps, steps_left}
use Rattle.cluster_filling.specs.declared.cluster.Cluster.{Cluster}
use Rattle.cluster_filling.specs.declared.cluster.NewCluster.{NewCluster}
use Rattle.cluster_filling.specs.declared.filling.Filling.{Filling}
use Rattle.cluster_filling.specs.declared.filling.Stage.{Stage}
use Rattle.cluster_filling.specs.declared.filling.Stage.TheVariants.{Begun, Reading, Read}

abbrev pub FillTurn : Type 0
FillTurn = Turn Filling (Unit {0}) (Unit {0})

-- the cluster that is written
abbrev pub cluster_of : Filling → Cluster
cluster_of p = p.cluster

-- how many of its sectors are written
abbrev pub done_of : Filling → ℕ
done_of p = p.done

-- the place of its volume's file
abbrev pub file_at : Cluster → Chain → Place
file_at k c = place_in (target_of c) k.volume

-- how many sectors the piece has that is written next
abbrev pub piece_of : Filling → ℕ
piece_of p = piece_at p.cluster p.done

-- the sector of the virtual disk with which it begins
abbrev pub here : Filling → ℕ
here p = p.cluster.first + p.done

abbrev pub KeepsCluster : Filling → FillTurn → Type 0
KeepsCluster p turn = MatchTurn turn (λ next. cluster_of next ≡ cluster_of p) (λ _. Unit {0}) (λ _ _. Unit {0})

-- ---- what is known

-- The volume that is read is one of the path, its files can be read, and the volume that is written isn't among those.
pub record KnowsSource (k : Cluster) (c : Chain) (host : ℕ) (x : Volumes) (u : Id) (d : Content) : Type 0 where
  pub image : KnowsImage c u host x d
  pub volume : Contains (path_in c) u
  pub apart : (w : Id) → IsAskedFrom c u w → w ≢ k.volume

-- The volume's file, in which no other host writes, and which has room for the cluster. This host sees its first sectors, so
-- many, as they are to be.
pub record KnowsFile (k : Cluster) (c : Chain) (host : ℕ) (x : Volumes) (part : List ℕ) (done : ℕ) (d : Content) : Type 0 where
  pub file : File
  pub there : d.file (file_at k c) ≡ Some file
  pub alone : IsAlone host file
  pub inside : k.target + k.count ≤ file.size
  pub filled : (j : ℕ) → j < done → IsWanted k c x part (k.first + j) (seen host file (k.target + j))

-- what is known of a cluster of which so many sectors are written
pub record KnowsCluster (k : Cluster) (c : Chain) (host : ℕ) (x : Volumes) (part : List ℕ) (done : ℕ) (d : Content) : Type 0 where
  pub source : (u : Id) → k.below ≡ Some u → KnowsSource k c host x u d
  pub file : KnowsFile k c host x part done d

-- The piece that begins so many sectors into the cluster: its sectors that are neither the part's nor past the capacity are what
-- the volumes below read.
abbrev pub HasBelow : Cluster → ℕ → Chain → Volumes → List ℕ → List ℕ → Type 0
HasBelow k done c x part piece = (j : ℕ) → j < piece_at k done → (IsIn k (sectors_in part) (k.first + done + j) → ⊥) → k.first + done + j < k.capacity → ReadsBelow c x k.below (k.first + done + j) (sector_of piece j)

-- the read of that piece
pub record KnowsRead (k : Cluster) (done : ℕ) (read : ReadPart) (c : Chain) (host : ℕ) (x : Volumes) (piece : List ℕ) (d : Content) : Type 0 where
  pub below : k.below ≡ Some (volume_of read)
  pub first : first_sector read ≡ k.first + done
  pub knows : reading.Knows read c host x piece d

abbrev pub KnowsPiece : Stage → Cluster → ℕ → Chain → ℕ → Volumes → List ℕ → List ℕ → Content → Type 0
KnowsPiece Begun k done c host x part piece d = Unit {0}
KnowsPiece (Reading read) k done c host x part piece d = KnowsRead k done read c host x piece d
KnowsPiece Read k done c host x part piece d = HasBelow k done c x part piece

-- What a filling knows in a stage, by what is in front of the room.
pub record KnowsIn (stage : Stage) (p : Filling) (c : Chain) (host : ℕ) (x : Volumes) (part piece : List ℕ) (d : Content) : Type 0 where
  pub cluster : KnowsCluster p.cluster c host x part p.done d
  pub so_far : KnowsPiece stage p.cluster p.done c host x part piece d

abbrev pub front : Filling → List ℕ → List ℕ
front p room = take (512 * piece_of p) room

abbrev pub Knows : Filling → Chain → ℕ → Volumes → List ℕ → List ℕ → Content → Type 0
Knows p c host x part room d = KnowsIn p.stage p c host x part (front p room) d

-- once all is written
abbrev pub IsFilled : Cluster → Chain → ℕ → Volumes → List ℕ → Content → Type 0
IsFilled k c host x part d = KnowsCluster k c host x part k.count d

-- a filling that was begun
pub record IsBegun (n : NewCluster) (p : Filling) : Type 0 where
  pub cluster : IsClusterOf n (cluster_of p)
  pub left : (c : Chain) → steps_left p c ≡ cluster_steps (cluster_of p) c
  pub knows : (c : Chain) (host : ℕ) (x : Volumes) (part room : List ℕ) (d : Content) → KnowsCluster (cluster_of p) c host x part 0 d → Knows p c host x part room d

-- ---- what a step leaves

-- nothing has changed, or some sectors of the cluster were written, unsynced, and may be so in part
abbrev pub WritesInside : Cluster → Chain → ℕ → Content → Content → Type 0
WritesInside k c host d e =
    IsSame d e ⊎ ((at : ℕ) × (bytes : List ℕ) × (k.target ≤ at) × (at + sectors_in bytes ≤ k.target + k.count) × (length bytes % 512 ≡ 0) × PartWritten d host (file_at k c) at bytes e)

-- 122 comes only where the file of a volume isn't there, or the volume's own file ends inside the cluster
abbrev pub IsGone : Cluster → Chain → Refusal → Content → Type 0
IsGone k c (Vanished a) d =
    ((a ≡ absence.NoFile) × ((q : Place) × (IsOnPath c q ⊎ (q ≡ file_at k c)) × (d.file q ≡ None)))
    ⊎ ((a ≡ absence.OutOfFile) × ((f : File) × (d.file (file_at k c) ≡ Some f) × (f.size < k.target + k.count)))
IsGone k c _ d = Unit {0}

-- A step by its stage: it changes nothing but sectors of the cluster. Where the cluster is known, it is so still, or all of it is
-- as it is to be, or the disk failed.
pub record FillsIn (stage : Stage) (p : Filling) (c : Chain) (host : ℕ) (part before : List ℕ) (after : Filling → List ℕ) (turn : FillTurn) (d e : Content) : Type 0 where
  pub writes : WritesInside p.cluster c host d e
  pub gone : MatchTurn turn (λ _. Unit {0}) (λ _. Unit {0}) (λ _ refusal. IsGone p.cluster c refusal d)
  pub leaves : (x : Volumes) → KnowsIn stage p c host x part before d → MatchTurn turn
      (λ next. KnowsIn next.stage next c host x part (after next) e)
      (λ _. IsFilled p.cluster c host x part e)
      (λ _ refusal. IsFault refusal)

abbrev pub FillsOn : Filling → Chain → ℕ → List ℕ → List ℕ → List ℕ → FillTurn → Content → Content → Type 0
FillsOn p c host part before after turn d e = FillsIn p.stage p c host part (front p before) (λ next. front next after) turn d e

-- A step in front of the room: so it is of each room that has then what stands there.
abbrev pub FillsPiece : Filling → Chain → ℕ → List ℕ → List ℕ → List ℕ → FillTurn → Content → Content → Type 0
FillsPiece p c host part before after turn d e =
    (room : Filling → List ℕ) → ((next : Filling) → next.cluster ≡ p.cluster → next.done ≡ p.done → room next ≡ after) → FillsIn p.stage p c host part before room turn d e

-- ---- of its parts

-- the same cluster and piece in a stage
pub record IsAt (p : Filling) (stage : Stage) (next : Filling) : Type 0 where
  pub cluster : next.cluster ≡ p.cluster
  pub done : next.done ≡ p.done
  pub stage_is : next.stage ≡ stage

-- the next piece is begun, or none is left
pub record IsNext (p next : Filling) : Type 0 where
  pub cluster : next.cluster ≡ p.cluster
  pub done : next.done ≡ p.done + piece_of p
  pub stage_is : next.stage ≡ Begun

abbrev pub IsAdvanced : Filling → FillTurn → Type 0
IsAdvanced p turn = MatchTurn turn (IsNext p) (λ _. p.cluster.count ≤ p.done + piece_of p) (λ _ _. ⊥)

-- where no volume is read for the piece, it is the part's and past the capacity, or no volume stands below
abbrev pub Skips : Filling → ℕ → Option Id → Type 0
Skips p part None = ((j : ℕ) → j < piece_of p → IsIn p.cluster part (here p + j) ⊎ (p.cluster.capacity ≤ here p + j)) ⊎ (p.cluster.below ≡ None)
Skips p part (Some u) = p.cluster.below ≡ Some u

-- the piece, with the part laid over it, is written
abbrev pub WritesPiece : Filling → Chain → ℕ → List ℕ → List ℕ → List ℕ → ℕ → FillTurn → Content → Content → Type 0
WritesPiece p c host part before after faults turn d e =
    IsLaid p.cluster (here p) part (length before / 512) before after × ((answer : Result (Unit {0}) DiskAnswer) × WriteAt d host (file_at p.cluster c) (p.cluster.target + p.done) after answer e
    × TurnFollows answer faults turn (λ _. IsAdvanced p turn))

-- the read goes on, or all was read
abbrev pub GoesWith : Filling → PartTurn → FillTurn → Type 0
GoesWith p (More next) turn = GoesOn (IsAt p (Reading next)) turn
GoesWith p (Done _) turn = GoesOn (IsAt p Read) turn
GoesWith p (Ended _ refusal) turn = turn ≡ Ended tt refusal

abbrev pub ReadsPiece : Filling → ReadPart → Chain → ℕ → List ℕ → List ℕ → FillTurn → Content → Content → Type 0
ReadsPiece p read c host before after turn d e =
    (length after ≡ length before) × ((t : PartTurn) × KeepsPart read t × ReadsOn read c host before after t d e × GoesWith p t turn)

-- the read of the piece is begun
abbrev pub BeginsRead : Filling → FillTurn → Type 0
BeginsRead p turn = GoesOn (λ next. (u : Id) × (read : ReadPart) × (p.cluster.below ≡ Some u) × reads.IsBegun read u (512 * here p) × IsAt p (Reading read) next) turn

-- the piece was made zeros, which are what the volumes below read where none is read, and written with the part laid over it
pub record WritesZeros (p : Filling) (c : Chain) (host : ℕ) (part before after : List ℕ) (faults : ℕ) (turn : FillTurn) (d e : Content) : Type 0 where
  pub skips : Skips p (length part / 512) None
  pub writes : WritesPiece p c host part (replicate (length before) 0) after faults turn d e

abbrev pub BeginsPiece : Filling → Chain → ℕ → List ℕ → List ℕ → List ℕ → ℕ → FillTurn → Content → Content → Type 0
BeginsPiece p c host part before after faults turn d e = (IsSame d e × BeginsRead p turn) ⊎ WritesZeros p c host part before after faults turn d e
