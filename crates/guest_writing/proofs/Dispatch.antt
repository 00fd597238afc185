-- A step by its stage is one of the write.
use Rattle.std.proofs.Common.{◌≡◌, ℕ, List, refl, sym, subst}
use Rattle.sd_names.specs.declared.id.Id.{Id}
use Rattle.sd_names.specs.declared.turn.Turn.TheVariants.{More}
use Rattle.shared_disk.specs.Content.{Content}
use Rattle.volume_chain.specs.declared.chain.Chain.{Chain}
use Rattle.guest_writing.specs.Left.{StageNears}
use Rattle.guest_writing.specs.Way.{StageFalls, StageTurn}
use Rattle.guest_writing.specs.Writing.{KnowsBehind, WritesIn}
use Rattle.guest_writing.specs.declared.stage.Stage.{Stage}
use Rattle.guest_writing.specs.declared.stage.Stage.TheVariants.{Begun}
use Rattle.guest_writing.proofs.Known.{all_come}

pub in_stage : (s t : Stage) (v : Id) (at : ℕ) (c next : Chain) (host faults : ℕ) (part before after : List ℕ) (turn : StageTurn) (d e : Content) → s ≡ t → WritesIn t v at c next host faults part before after turn d e
    → WritesIn s v at c next host faults part before after turn d e
in_stage s t v at c next host faults part before after turn d e is step = subst (λ (a : Stage). WritesIn a v at c next host faults part before after turn d e) (sym is) step

pub falls_in : (s t : Stage) (c : Chain) (turn : StageTurn) → s ≡ t → StageFalls t c turn → StageFalls s c turn
falls_in s t c turn is falls = subst (λ (a : Stage). StageFalls a c turn) (sym is) falls

pub nears_in : (s t : Stage) (v : Id) (at : ℕ) (c next : Chain) (count : ℕ) (turn : StageTurn) → s ≡ t → StageNears t v at c next count turn → StageNears s v at c next count turn
nears_in s t v at c next count turn is nears = subst (λ (a : Stage). StageNears a v at c next count turn) (sym is) nears

-- nothing is called where the volume is found
pub found_on : (next : Stage) (v : Id) (at : ℕ) (c : Chain) (host faults : ℕ) (part room : List ℕ) (d : Content) → KnowsBehind Begun v at c part next → WritesIn Begun v at c c host faults part room room (More next) d d
found_on next v at c host faults part room d knows l x old start of k same = record {
  leaves = record { only = record { dirs = λ q. refl; files = λ q other. refl }; comes = all_come Begun c l x old host start room d k };
  after = knows l x old host start room d of k same;
}
