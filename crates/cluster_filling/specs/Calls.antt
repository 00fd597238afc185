-- The call of a filling's step, whatever is known of the cluster.
-- Claim: a piece is written once it was read, or where no volume is read for it, by one write of it at its place.
use Rattle.std.specs.Prelude.{ℕ, List}
use Rattle.shared_disk.specs.Content.{Content}
use Rattle.volume_chain.specs.declared.chain.Chain.{Chain}
use Rattle.cluster_filling.specs.Filling.{BeginsPiece, FillTurn, ReadsPiece, WritesPiece, front}
use Rattle.cluster_filling.specs.declared.filling.Filling.{Filling}
use Rattle.cluster_filling.specs.declared.filling.Stage.{Stage}
use Rattle.cluster_filling.specs.declared.filling.Stage.TheVariants.{Begun, Reading, Read}

-- The call by the stage, and the turn that follows from its answer: the next piece comes exactly where the write was done.
abbrev pub StepsIn : Stage → Filling → Chain → ℕ → List ℕ → List ℕ → List ℕ → ℕ → FillTurn → Content → Content → Type 0
StepsIn Begun p c host part before after faults turn d e = BeginsPiece p c host part before after faults turn d e
StepsIn (Reading read) p c host part before after faults turn d e = ReadsPiece p read c host before after turn d e
StepsIn Read p c host part before after faults turn d e = WritesPiece p c host part before after faults turn d e

-- in front of a room
abbrev pub StepsBy : Filling → Chain → ℕ → List ℕ → List ℕ → List ℕ → ℕ → FillTurn → Content → Content → Type 0
StepsBy p c host part before after faults turn d e = StepsIn p.stage p c host part (front p before) (front p after) faults turn d e
