-- The commit of a cluster in public words.
use Rattle.std.specs.Prelude.{◌≡◌, ℕ, List, Contains}
use Rattle.sd_names.specs.Turn.{MatchTurn}
use Rattle.sd_names.specs.declared.refusal.Refusal.{Refusal}
use Rattle.sd_names.specs.declared.turn.Turn.{Turn}
use Rattle.shared_disk.specs.Content.{Content}
use Rattle.volume_meta.specs.declared.record.VolumeRecord.{VolumeRecord}
use Rattle.chain_model.specs.Folder.{Folder, folder_of}
use Rattle.chain_laws.specs.Laid.{Laying, Reads}
use Rattle.chain_gathering.specs.Knowing.{volumes_in}
use Rattle.volume_chain.specs.Chain.{dir_in, open_in, path_in, place_in, target_of}
use Rattle.volume_chain.specs.Layers.{IsLayerAt}
use Rattle.volume_chain.specs.declared.chain.Chain.{Chain}
use Rattle.volume_chain.specs.declared.subchain.Subchain.{Subchain}
use Rattle.chain_reading.specs.Knowing.{place_on}
use Rattle.chain_laws.specs.Written.{ComesWritten}
use Rattle.raw_writing.specs.Image.{OnlyChanges}
use Rattle.commit_steps.specs.Knowing.{IsAsHeld, IsCommitOf}
use Rattle.guest_writing.specs.Knowing.{MayBeWritten}
use Rattle.cluster_committing.specs.Committing.{IsCommitted, IsRefused, KnowsStage, OthersStay, SameIn}
use Rattle.cluster_committing.specs.Way.{IsNearer, IsOnWayIn, StageKeeps, StageRefusal, StandsOpenFor}
use Rattle.cluster_committing.specs.declared.commit.CommitCluster.{CommitCluster}

abbrev pub CommitTurn : Type 0
CommitTurn = Turn CommitCluster (Unit {0}) (Unit {0})

-- which two volumes, and which cluster of the top
abbrev pub sub_of : CommitCluster → Subchain
sub_of w = w.sub

abbrev pub number_of : CommitCluster → ℕ
number_of w = w.cluster

-- ---- on every disk

-- the base stands open on the chain's path, and the stage fits the cluster
pub record IsOnWay (w : CommitCluster) (c : Chain) : Type 0 where
  pub base : StandsOpenFor c w.sub
  pub stage : IsOnWayIn w.stage w.sub w.cluster c

pub record GoesOn (w : CommitCluster) (c : Chain) (next : CommitCluster) : Type 0 where
  pub sub_is : sub_of next ≡ sub_of w
  pub cluster_is : number_of next ≡ number_of w
  pub way : IsOnWay next c

abbrev pub StaysOnWay : CommitCluster → Chain → CommitTurn → Type 0
StaysOnWay w c turn = MatchTurn turn (GoesOn w c) (λ _. Unit {0}) (λ _ _. Unit {0})

abbrev pub IsCommittedChain : CommitCluster → Chain → Chain → Type 0
IsCommittedChain w c next = StageKeeps w.stage c next

abbrev pub IsCommitRefusal : CommitCluster → Chain → Refusal → Type 0
IsCommitRefusal w c e = StageRefusal w.stage c e

abbrev pub Falls : CommitCluster → Chain → CommitTurn → Type 0
Falls w c turn = MatchTurn turn (λ next. IsNearer w.stage c next.stage) (λ _. Unit {0}) (λ _ _. Unit {0})

-- ---- what is known

abbrev pub Knows : CommitCluster → Laying → Chain → VolumeRecord → ℕ → Folder → List ℕ → List ℕ → Content → Type 0
Knows w l c x host start part room d = KnowsStage w.stage w.sub w.cluster l c x host start part room d

-- A commit may begin: the image may be written, the top is a layer of the path, and the part is all sectors of the cluster that both
-- volumes have, as the top holds them where it does.
pub record MayBegin (sub : Subchain) (cluster : ℕ) (l : Laying) (c : Chain) (x : VolumeRecord) (host : ℕ) (d : Content) : Type 0 where
  pub of : IsCommitOf l c sub cluster x
  pub may : MayBeWritten c host d
  pub reads : Reads l l.reads (volumes_in (dir_in (target_of c)) d)
  pub held : IsAsHeld l sub.top (volumes_in (dir_in (target_of c)) d)
  pub path : Contains (path_in c) sub.top
  pub layer : IsLayerAt (open_in c) (place_on sub.top (path_in c))

-- a commit that was begun
pub record IsBegun (sub : Subchain) (cluster : ℕ) (w : CommitCluster) : Type 0 where
  pub sub_is : sub_of w ≡ sub
  pub cluster_is : number_of w ≡ cluster
  pub way : (c : Chain) → StandsOpenFor c sub → IsOnWay w c
  pub knows : (l : Laying) (c : Chain) (x : VolumeRecord) (host : ℕ) (part room : List ℕ) (d : Content) → MayBegin sub cluster l c x host d → Knows w l c x host (folder_of (dir_in (target_of c)) d) part room d

-- ---- what a step leaves

-- No folder and no file but the base's is changed; each outcome comes from one of the begin, over which sectors of the cluster may be
-- laid in the base; and each other LEGAL volume reads as it did: after a step that failed too.
pub record CommitLeaves (w : CommitCluster) (l : Laying) (c next : Chain) (x : VolumeRecord) (host : ℕ) (start : Folder) (part room : List ℕ) (turn : CommitTurn) (d e : Content) : Type 0 where
  pub only : OnlyChanges (place_in (target_of c) w.sub.base) d e
  pub same : SameIn w.stage d e
  pub comes : ComesWritten l start (folder_of (dir_in (target_of c)) e)
  pub others : OthersStay l w.sub start (folder_of (dir_in (target_of c)) e)
  pub after : MatchTurn turn
      (λ more. Knows more l next x host start part room e)
      (λ _. IsCommitted w.sub w.cluster l next host e)
      (λ _ refusal. IsRefused w.stage w.sub c next host refusal d e)

abbrev pub Commits : CommitCluster → Chain → Chain → ℕ → List ℕ → List ℕ → List ℕ → List ℕ → CommitTurn → Content → Content → Type 0
Commits w c next host before after room_before room_after turn d e = (l : Laying) (x : VolumeRecord) (start : Folder) → Knows w l c x host start before room_before d
    → CommitLeaves w l c next x host start after room_after turn d e
