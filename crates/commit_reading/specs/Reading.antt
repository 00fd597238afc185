-- What a step of the read of a cluster leaves.
use Rattle.std.specs.Prelude.{◌≡◌, ◌⊎◌, ℕ, ◌+◌, ◌*◌, ◌<◌, ◌≤◌, List, Option, Some, None}
use Rattle.sd_names.specs.Turn.{MatchTurn}
use Rattle.sd_names.specs.declared.turn.Turn.{Turn}
use Rattle.shared_disk.specs.Calls.{IsSame}
use Rattle.shared_disk.specs.Content.{Content}
use Rattle.qcow_layer.specs.Looking.{IsFault, cluster_of, table_of}
use Rattle.qcow_layer.specs.declared.looking.Looking as looks
use Rattle.chain_model.specs.Folder.{Volumes}
use Rattle.volume_chain.specs.declared.chain.Chain.{Chain}
use Rattle.volume_chain.specs.declared.subchain.Subchain.{Subchain}
use Rattle.chain_reading.specs.Reading as reads
use Rattle.chain_reading.specs.declared.part.ReadPart.{ReadPart}
use Rattle.commit_reading.specs.Knowing.{HasPiece, HoldsFrom, HoldsNone, IsReadOf, Knows, KnowsIn, KnowsTop}
use Rattle.commit_reading.specs.Left.{cluster_steps, piece_steps, steps_left}
use Rattle.commit_reading.specs.Pieces.{IsCluster, IsInside, count_of, end_in, end_of, first_in, first_of, front}
use Rattle.commit_reading.specs.declared.pieces.Pieces.{Pieces}
use Rattle.commit_reading.specs.declared.reading.CommitReading.{CommitReading}
use Rattle.commit_reading.specs.declared.reading.Stage.{Stage}
use Rattle.commit_reading.specs.declared.reading.Stage.TheVariants.{Begun, Looking, Next, Reading}

abbrev pub CommitTurn : Type 0
CommitTurn = Turn CommitReading (Option Pieces) (Unit {0})

-- which two volumes, and which cluster of the top
abbrev pub sub_of : CommitReading → Subchain
sub_of w = w.sub

abbrev pub number_of : CommitReading → ℕ
number_of w = w.cluster

abbrev pub stage_of : CommitReading → Stage
stage_of w = w.stage

-- the sector with which the next piece begins
abbrev pub from_in : Stage → CommitReading → Chain → ℕ
from_in Begun w c = first_in c w.sub w.cluster
from_in (Looking looking) w c = first_in c w.sub w.cluster
from_in (Next p) w c = first_of p
from_in (Reading p read) w c = first_of p

abbrev pub from_of : CommitReading → Chain → ℕ
from_of w c = from_in w.stage w c

-- what is read is what is left of the cluster
abbrev pub IsOnWayIn : Stage → CommitReading → Chain → Type 0
IsOnWayIn Begun w c = Unit {0}
IsOnWayIn (Looking looking) w c = Unit {0}
IsOnWayIn (Next p) w c = IsInside c w.sub w.cluster p
IsOnWayIn (Reading p read) w c = IsInside c w.sub w.cluster p × (0 < count_of p) × IsReadOf w.sub p read

abbrev pub IsOnWay : CommitReading → Chain → Type 0
IsOnWay w c = IsOnWayIn w.stage w c

-- the same cluster of the same volumes
pub record IsSameCluster (w next : CommitReading) : Type 0 where
  pub sub : sub_of next ≡ sub_of w
  pub cluster : number_of next ≡ number_of w

pub record GoesOnWay (stage : Stage) (w : CommitReading) (c : Chain) (next : CommitReading) : Type 0 where
  pub same : IsSameCluster w next
  pub way : IsOnWay next c
  pub from : from_of next c ≡ from_in stage w c

-- the next piece of the cluster has a sector, and begins where the read did
pub record IsNextPiece (from : ℕ) (sub : Subchain) (cluster : ℕ) (c : Chain) (p : Pieces) : Type 0 where
  pub first : first_of p ≡ from
  pub inside : IsInside c sub cluster p
  pub some : 0 < count_of p

abbrev pub IsNextOf : ℕ → Subchain → ℕ → Chain → Option Pieces → Type 0
IsNextOf from sub cluster c None = Unit {0}
IsNextOf from sub cluster c (Some p) = IsNextPiece from sub cluster c p

-- On every disk the read stays one of the same cluster, and what it gives is the next piece of it.
abbrev pub StaysIn : Stage → CommitReading → Chain → CommitTurn → Type 0
StaysIn stage w c turn = MatchTurn turn (GoesOnWay stage w c) (λ o. IsNextOf (from_in stage w c) w.sub w.cluster c o) (λ _ _. Unit {0})

abbrev pub StaysOnWay : CommitReading → Chain → CommitTurn → Type 0
StaysOnWay w c turn = StaysIn w.stage w c turn

-- At the end the part has the next piece as the top holds it; or the top holds nothing of the cluster, or nothing of it is left.
abbrev pub IsRead : ℕ → Subchain → ℕ → Chain → Volumes → List ℕ → Option Pieces → Type 0
IsRead from sub cluster c x part None = HoldsNone c sub cluster x ⊎ (end_in c sub cluster ≤ from)
IsRead from sub cluster c x part (Some p) = HasPiece c sub x p part

-- What a step leaves, by its stage. It changes nothing on the disk.
pub record ReadsIn (stage : Stage) (w : CommitReading) (c : Chain) (host : ℕ) (before after : List ℕ) (turn : CommitTurn) (d e : Content) : Type 0 where
  pub same : IsSame d e
  pub leaves : (x : Volumes) → IsOnWayIn stage w c → KnowsIn stage w c host x before d → MatchTurn turn
      (λ next. Knows next c host x after e)
      (λ o. IsRead (from_in stage w c) w.sub w.cluster c x after o)
      (λ _ refusal. IsFault refusal)

abbrev pub ReadsOn : CommitReading → Chain → ℕ → List ℕ → List ℕ → CommitTurn → Content → Content → Type 0
ReadsOn w c host before after turn d e = ReadsIn w.stage w c host before after turn d e

-- a read that was begun
pub record IsBegun (sub : Subchain) (cluster : ℕ) (w : CommitReading) : Type 0 where
  pub sub_is : sub_of w ≡ sub
  pub cluster_is : number_of w ≡ cluster
  pub way : (c : Chain) → IsOnWay w c
  pub from : (c : Chain) → from_of w c ≡ first_in c sub cluster
  pub left : (c : Chain) → steps_left w c ≡ 3 + cluster_steps c sub cluster
  pub knows : (c : Chain) (host : ℕ) (x : Volumes) (part : List ℕ) (d : Content) → KnowsTop c sub host x d → Knows w c host x part d

-- a read that was begun behind the next one of these pieces
pub record IsBehind (sub : Subchain) (cluster : ℕ) (p : Pieces) (w : CommitReading) : Type 0 where
  pub sub_is : sub_of w ≡ sub
  pub cluster_is : number_of w ≡ cluster
  pub way : (c : Chain) → IsInside c sub cluster p → IsOnWay w c
  pub from : (c : Chain) → from_of w c ≡ first_of p + count_of p
  pub left : (c : Chain) → steps_left w c ≡ piece_steps c sub (first_of p + count_of p) (end_of p)
  pub knows : (c : Chain) (host : ℕ) (x : Volumes) (part : List ℕ) (d : Content) → KnowsTop c sub host x d → HoldsFrom c sub x (first_of p + count_of p) (end_of p) → Knows w c host x part d

-- ---- of its parts

-- the same read in another stage
abbrev pub at_stage : CommitReading → Stage → CommitReading
at_stage w stage = record w { stage = stage }

-- the look-up was begun
pub record Asks (w next : CommitReading) : Type 0 where
  pub looking : looks.Looking
  pub is : next ≡ at_stage w (Looking looking)
  pub cluster : cluster_of looking ≡ w.cluster
  pub table : table_of looking ≡ None

-- the whole cluster is to be read
pub record IsFound (w : CommitReading) (c : Chain) (next : CommitReading) : Type 0 where
  pub pieces : Pieces
  pub is : next ≡ at_stage w (Next pieces)
  pub all : IsCluster c w.sub w.cluster pieces

-- the read of the next piece was begun
pub record BeginsPiece (w : CommitReading) (p : Pieces) (next : CommitReading) : Type 0 where
  pub some : 0 < count_of p
  pub read : ReadPart
  pub is : next ≡ at_stage w (Reading p read)
  pub begun : reads.IsBegun read w.sub.top (512 * first_of p)

abbrev pub BeginsRead : CommitReading → Pieces → CommitTurn → Type 0
BeginsRead w p turn = MatchTurn turn (BeginsPiece w p) (λ o. (o ≡ None) × (count_of p ≡ 0)) (λ _ _. ⊥)

-- A step of the read in front of the part: so it is of each part that has there what the step had.
abbrev pub ReadsFront : CommitReading → Pieces → ReadPart → Chain → ℕ → List ℕ → List ℕ → CommitTurn → Content → Content → Type 0
ReadsFront w p read c host before after turn d e = (part now : List ℕ) → front p part ≡ before → front p now ≡ after → ReadsIn (Reading p read) w c host part now turn d e
