-- The call of a step in front of the room is one of the room.
use Rattle.std.proofs.Common.{◌≡◌, ℕ, ◌*◌, List, ◌++◌, length, take, refl, sym, ap, ◌∙◌, subst}
use Rattle.shared_disk.specs.Content.{Content}
use Rattle.volume_chain.specs.declared.chain.Chain.{Chain}
use Rattle.cluster_filling.specs.Calls.{StepsBy, StepsIn}
use Rattle.cluster_filling.specs.Filling.{FillTurn, front, piece_of}
use Rattle.cluster_filling.specs.declared.filling.Filling.{Filling}
use Rattle.cluster_filling.proofs.Steps.{front_is}

-- so many sectors long
pub call_on : (p : Filling) (c : Chain) (host : ℕ) (part room piece rest : List ℕ) (n faults : ℕ) (turn : FillTurn) (d e : Content) → n ≡ piece_of p → length piece ≡ 512 * n
    → StepsIn p.stage p c host part (take (512 * n) room) piece faults turn d e → StepsBy p c host part room (piece ++ rest) faults turn d e
call_on p c host part room piece rest n faults turn d e count size call =
    subst (λ m. StepsIn p.stage p c host part (take (512 * m) room) (front p (piece ++ rest)) faults turn d e) count
    (subst (λ (r : List ℕ). StepsIn p.stage p c host part (take (512 * n) room) r faults turn d e) (sym (front_is p p piece rest refl refl (size ∙ ap (λ m. 512 * m) count))) call)
