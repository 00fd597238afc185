-- A commit on every disk: what each stage needs, and how much nearer its end each step brings it.
use Rattle.std.specs.Prelude.{◌≡◌, ℕ, ◌+◌, ◌*◌, ◌<◌}
use Rattle.sd_names.specs.Turn.{MatchTurn}
use Rattle.sd_names.specs.declared.refusal.Refusal.{Refusal}
use Rattle.sd_names.specs.declared.turn.Turn.{Turn}
use Rattle.sd_names.specs.declared.turn.Turn.TheVariants.{More}
use Rattle.shared_disk.specs.Step.{IsDiskRefusal}
use Rattle.volume_chain.specs.declared.chain.Chain.{Chain}
use Rattle.volume_chain.specs.declared.subchain.Subchain.{Subchain}
use Rattle.chain_reading.specs.Asked.{sectors_in}
use Rattle.commit_reading.specs.Left.{steps_left}
use Rattle.commit_reading.specs.Pieces.{IsInside, count_of, first_of}
use Rattle.commit_reading.specs.Reading.{from_of, number_of, sub_of}
use Rattle.commit_reading.specs.Reading as reading
use Rattle.commit_reading.specs.declared.pieces.Pieces.{Pieces}
use Rattle.commit_reading.specs.declared.reading.CommitReading.{CommitReading}
use Rattle.guest_writing.specs.Guest.{IsGuestRefusal, IsWrittenChain}
use Rattle.guest_writing.specs.Guest as guest
use Rattle.guest_writing.specs.Way.{StandsOpen}
use Rattle.guest_writing.specs.declared.guest.GuestWrite.{GuestWrite}
use Rattle.cluster_committing.specs.declared.stage.Stage.{Stage}
use Rattle.cluster_committing.specs.declared.stage.Stage.TheVariants.{Reading, Writing}

abbrev pub StageTurn : Type 0
StageTurn = Turn Stage (Unit {0}) (Unit {0})

-- the base stands open, for parts of all its sectors
abbrev pub StandsOpenFor : Chain → Subchain → Type 0
StandsOpenFor c sub = StandsOpen c sub.base 0 (512 * sectors_in c sub.base)

-- the read of this cluster goes on
pub record IsReadingOf (w : CommitReading) (sub : Subchain) (cluster : ℕ) (c : Chain) : Type 0 where
  pub sub_is : sub_of w ≡ sub
  pub cluster_is : number_of w ≡ cluster
  pub way : reading.IsOnWay w c

-- a piece of this cluster is written, inside both volumes
pub record IsWritingOf (p : Pieces) (g : GuestWrite) (sub : Subchain) (cluster : ℕ) (c : Chain) : Type 0 where
  pub inside : IsInside c sub cluster p
  pub some : 0 < count_of p
  pub way : guest.IsOnWay g c (512 * count_of p)

abbrev pub IsOnWayIn : Stage → Subchain → ℕ → Chain → Type 0
IsOnWayIn (Reading w) sub cluster c = IsReadingOf w sub cluster c
IsOnWayIn (Writing p g) sub cluster c = IsWritingOf p g sub cluster c

abbrev pub KeepsWay : Subchain → ℕ → Chain → StageTurn → Type 0
KeepsWay sub cluster c turn = MatchTurn turn (λ s. IsOnWayIn s sub cluster c × StandsOpenFor c sub) (λ _. Unit {0}) (λ _ _. Unit {0})

-- a read leaves the chain as it was, and a write keeps it as a guest's does
abbrev pub StageKeeps : Stage → Chain → Chain → Type 0
StageKeeps (Reading w) c next = next ≡ c
StageKeeps (Writing p g) c next = IsWrittenChain g c next

-- 71 with the base, 120 and 122 alone
abbrev pub StageRefusal : Stage → Chain → Refusal → Type 0
StageRefusal (Reading w) c e = IsDiskRefusal e
StageRefusal (Writing p g) c e = IsGuestRefusal g c (512 * count_of p) e

-- fewer steps are left of the same piece; or the piece was read and has a sector, or it was written and the read goes on behind it
abbrev pub IsNearer : Stage → Chain → Stage → Type 0
IsNearer (Reading w) c (Reading v) = (from_of v c ≡ from_of w c) × (steps_left v c < steps_left w c)
IsNearer (Reading w) c (Writing p g) = (first_of p ≡ from_of w c) × (0 < count_of p)
IsNearer (Writing p g) c (Writing q h) = (q ≡ p) × guest.Falls g c (More h)
IsNearer (Writing p g) c (Reading w) = (b : Chain) → from_of w b ≡ first_of p + count_of p

abbrev pub StageFalls : Stage → Chain → StageTurn → Type 0
StageFalls stage c turn = MatchTurn turn (IsNearer stage c) (λ _. Unit {0}) (λ _ _. Unit {0})
