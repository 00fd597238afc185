-- What a commit knows between its steps, stage by stage, and what a step leaves.
use Rattle.std.specs.Prelude.{◌≡◌, ◌≢◌, ◌⊎◌, ℕ, ◌*◌, ◌<◌, ◌≤◌, true, List, length, Contains}
use Rattle.sd_names.specs.Turn.{MatchTurn}
use Rattle.sd_names.specs.declared.id.Id.{Id}
use Rattle.sd_names.specs.declared.refusal.Refusal.{Refusal}
use Rattle.shared_disk.specs.Calls.{IsSame}
use Rattle.shared_disk.specs.Content.{Content}
use Rattle.volume_meta.specs.declared.record.VolumeRecord.{VolumeRecord}
use Rattle.qcow_layer.specs.Looking.{IsFault}
use Rattle.chain_model.specs.Chain.{IsBelow}
use Rattle.chain_model.specs.Flat.{IsFlat, IsSectorOf, flat}
use Rattle.chain_model.specs.Folder.{Folder, IsFolderOutcome, OnEachFolder, folder_of, volumes_of}
use Rattle.chain_model.specs.Reading.{IsReading}
use Rattle.chain_model.specs.Records.{is_legal}
use Rattle.chain_laws.specs.Laid.{Laying}
use Rattle.chain_laws.specs.Written.{ComesWritten, HoldsPart}
use Rattle.chain_gathering.specs.Knowing.{volumes_in}
use Rattle.commit_laws.specs.Commit.{IsHeldBy}
use Rattle.volume_chain.specs.Chain.{dir_in, open_in, path_in, place_in, target_of}
use Rattle.volume_chain.specs.Layers.{IsLayerAt}
use Rattle.volume_chain.specs.declared.chain.Chain.{Chain}
use Rattle.volume_chain.specs.declared.subchain.Subchain.{Subchain}
use Rattle.chain_reading.specs.Knowing.{place_on}
use Rattle.commit_reading.specs.Knowing.{HoldsNone}
use Rattle.commit_reading.specs.Knowing as reading
use Rattle.commit_reading.specs.Pieces.{count_of, first_in, first_of, front}
use Rattle.commit_reading.specs.Reading.{from_of}
use Rattle.commit_reading.specs.declared.pieces.Pieces.{Pieces}
use Rattle.commit_reading.specs.declared.reading.CommitReading.{CommitReading}
use Rattle.commit_steps.specs.Knowing.{AreLaid, IsSameFor, KnowsCommit}
use Rattle.raw_writing.specs.Image.{OnlyChanges}
use Rattle.guest_writing.specs.Guest as guest
use Rattle.guest_writing.specs.Knowing.{AreQuiet, MayBeWritten}
use Rattle.guest_writing.specs.Writing.{LacksRoom}
use Rattle.guest_writing.specs.declared.guest.GuestWrite.{GuestWrite}
use Rattle.cluster_committing.specs.Way.{StageTurn}
use Rattle.cluster_committing.specs.declared.stage.Stage.{Stage}
use Rattle.cluster_committing.specs.declared.stage.Stage.TheVariants.{Reading, Writing}

-- the top held the cluster at the begin
abbrev pub HeldAtBegin : Laying → Subchain → Folder → Type 0
HeldAtBegin l sub start = OnEachFolder start (λ O. IsHeldBy l sub.top (volumes_of O))

-- While the next piece is read the image may be written. Behind the first piece the top is known to hold the cluster; before it
-- nothing was changed.
pub record KnowsReading (w : CommitReading) (sub : Subchain) (cluster : ℕ) (l : Laying) (c : Chain) (x : VolumeRecord) (host : ℕ) (start : Folder) (part : List ℕ) (d : Content) : Type 0 where
  pub commit : KnowsCommit l c sub cluster x host start (from_of w c) d
  pub quiet : AreQuiet c host d
  pub read : reading.Knows w c host (volumes_in (dir_in (target_of c)) d) part d
  pub held : first_in c sub cluster < from_of w c → HeldAtBegin l sub start
  pub still : from_of w c ≤ first_in c sub cluster → (O : Folder) → IsFolderOutcome (folder_of (dir_in (target_of c)) d) O → IsFolderOutcome start O

-- While a piece is written: what was known when its write began, of the chain and the content then, and what the write knows.
pub record KnowsWriting (p : Pieces) (g : GuestWrite) (sub : Subchain) (cluster : ℕ) (l : Laying) (c : Chain) (x : VolumeRecord) (host : ℕ) (start : Folder) (piece_bytes room : List ℕ) (d : Content) : Type 0 where
  pub chain : Chain
  pub before : Content
  pub commit : KnowsCommit l chain sub cluster x host start (first_of p) before
  pub same : IsSameFor sub chain c
  pub piece : Laying
  pub laid : AreLaid piece l (folder_of (dir_in (target_of chain)) before)
  pub at : piece.part.at ≡ first_of p
  pub bytes : piece.part.bytes ≡ piece_bytes
  pub volume : piece.volume ≡ l.volume
  pub write : guest.Knows g c piece x (volumes_in (dir_in (target_of chain)) before) host (folder_of (dir_in (target_of chain)) before) room d
  pub held : HeldAtBegin l sub start
  pub path : Contains (path_in c) sub.top
  pub layer : IsLayerAt (open_in c) (place_on sub.top (path_in c))

abbrev pub KnowsStage : Stage → Subchain → ℕ → Laying → Chain → VolumeRecord → ℕ → Folder → List ℕ → List ℕ → Content → Type 0
KnowsStage (Reading w) sub cluster l c x host start part room d = KnowsReading w sub cluster l c x host start part d
KnowsStage (Writing p g) sub cluster l c x host start part room d = KnowsWriting p g sub cluster l c x host start (front p part) room d

-- ---- what a step leaves

-- a read changes nothing
abbrev pub SameIn : Stage → Content → Content → Type 0
SameIn (Reading w) d e = IsSame d e
SameIn (Writing p g) d e = Unit {0}

-- On each outcome each LEGAL volume but the base reads as on each of the begin.
abbrev pub OthersStay : Laying → Subchain → Folder → Folder → Type 0
OthersStay l sub start F = (v : Id) (vs : List Id) (flats : Id → ℕ → List ℕ) → IsReading l.records v vs → OnEachFolder start (λ O. IsFlat l.records flats (volumes_of O))
    → OnEachFolder F (λ O. (u : Id) (us : List Id) → u ≢ sub.base → is_legal l.records u ≡ true → IsBelow l.records u us → (k : ℕ) → IsSectorOf l.records u k → flat l.records (volumes_of O) u us k ≡ flats u k)

-- The image may be written again; the top holds nothing of the cluster that both have, or the base holds all of it on each outcome.
pub record IsCommitted (sub : Subchain) (cluster : ℕ) (l : Laying) (c : Chain) (host : ℕ) (e : Content) : Type 0 where
  pub may : MayBeWritten c host e
  pub done : HoldsNone c sub cluster (volumes_in (dir_in (target_of c)) e) ⊎ OnEachFolder (folder_of (dir_in (target_of c)) e) (λ O. HoldsPart l (volumes_of O))

-- the next of these pieces, laid over the base
pub record IsNextLaid (sub : Subchain) (p : Pieces) (piece : Laying) : Type 0 where
  pub volume : piece.volume ≡ sub.base
  pub at : piece.part.at ≡ first_of p
  pub length_is : length piece.part.bytes ≡ 512 * count_of p

-- the disk's fault; or want of room for the piece that is written, which changes nothing
abbrev pub IsRefused : Stage → Subchain → Chain → Chain → ℕ → Refusal → Content → Content → Type 0
IsRefused (Reading w) sub c next host refusal d e = IsFault refusal
IsRefused (Writing p g) sub c next host refusal d e = IsFault refusal ⊎ ((piece : Laying) × IsNextLaid sub p piece × LacksRoom c next piece host refusal d e)

-- No folder and no file but the base's is changed; each outcome comes from one of the begin, over which sectors of the cluster may be
-- laid in the base; and each other LEGAL volume reads as it did: after a step that failed too.
pub record Leaves (stage : Stage) (sub : Subchain) (cluster : ℕ) (l : Laying) (c next : Chain) (x : VolumeRecord) (host : ℕ) (start : Folder) (part room : List ℕ) (turn : StageTurn) (d e : Content) : Type 0 where
  pub only : OnlyChanges (place_in (target_of c) sub.base) d e
  pub same : SameIn stage d e
  pub comes : ComesWritten l start (folder_of (dir_in (target_of c)) e)
  pub others : OthersStay l sub start (folder_of (dir_in (target_of c)) e)
  pub after : MatchTurn turn
      (λ s. KnowsStage s sub cluster l next x host start part room e)
      (λ _. IsCommitted sub cluster l next host e)
      (λ _ refusal. IsRefused stage sub c next host refusal d e)

abbrev pub CommitsIn : Stage → Subchain → ℕ → Chain → Chain → ℕ → List ℕ → List ℕ → List ℕ → List ℕ → StageTurn → Content → Content → Type 0
CommitsIn stage sub cluster c next host before after room_before room_after turn d e = (l : Laying) (x : VolumeRecord) (start : Folder) → KnowsStage stage sub cluster l c x host start before room_before d
    → Leaves stage sub cluster l c next x host start after room_after turn d e

-- A step of the write of a piece: so it is of each part that has the piece in front.
abbrev pub CommitsPiece : Pieces → GuestWrite → Subchain → ℕ → Chain → Chain → ℕ → List ℕ → List ℕ → List ℕ → StageTurn → Content → Content → Type 0
CommitsPiece p g sub cluster c next host piece room_before room_after turn d e = (part : List ℕ) → front p part ≡ piece → CommitsIn (Writing p g) sub cluster c next host part part room_before room_after turn d e
