-- A step of the replacement, of the bytes that were written as the domain's text.
use Rattle.std.proofs.Common.{◌≡◌, ◌≢◌, ℕ, List, Option, Some, sym, ap, subst, ◌∙◌}
use Rattle.std.proofs.lemmas.Option.{same_Some}
use Rattle.sd_names.specs.declared.place.Place.{Place}
use Rattle.sd_names.specs.declared.turn.Turn.{Turn}
use Rattle.sd_names.specs.declared.turn.Turn.TheVariants.{More}
use Rattle.shared_disk.specs.Content.{Content}
use Rattle.whole_file.specs.Replace.{CallOf as ReplaceCall, Knows as KnowsReplace, IsSameReplace, Steps as ReplaceSteps, stage_of as replace_stage, target_of, volatile_of}
use Rattle.whole_file.specs.declared.replace.Replace.{Replace}
use Rattle.task_files.proofs.Calls.{target_kept}
use Rattle.pool_making.specs.Making.{text_of}
use Rattle.pool_making.specs.Steps.{IsKept, IsWritten, StepsText, WritesText}
use Rattle.pool_making.specs.declared.making.MakePool.{MakePool}

pub writes : (m : MakePool) (r : Replace) (host faults : ℕ) (text : List ℕ) (step : Turn Replace (Unit {0}) (Unit {0})) (turn : Turn MakePool (Unit {0}) (Unit {0})) (d e : Content) → text ≡ text_of m
    → ReplaceCall (replace_stage r) r host faults text step d e → IsWritten m step turn → WritesText m r host faults turn d e
writes m r host faults text step turn d e is call follows =
    (step, subst (λ (xs : List ℕ). ReplaceCall (replace_stage r) r host faults xs step d e) is call, follows)

pub steps : (m : MakePool) (r : Replace) (host faults : ℕ) (text : List ℕ) (step : Turn Replace (Unit {0}) (Unit {0})) (turn : Turn MakePool (Unit {0}) (Unit {0})) (d e : Content) → text ≡ text_of m
    → (KnowsReplace r host text d → ReplaceSteps r host faults text step d e) → IsKept r step d e → IsWritten m step turn → KnowsReplace r host (text_of m) d → StepsText m r host faults turn d e
steps m r host faults text step turn d e is leaves kept follows knows =
    (step, subst (λ (xs : List ℕ). ReplaceSteps r host faults xs step d e) is (leaves (subst (λ (xs : List ℕ). KnowsReplace r host xs d) (sym is) knows)), kept, follows)

-- a replacement that goes on has left its target as it was
pub kept : (r next : Replace) (host faults : ℕ) (text : List ℕ) (d e f : Content) (told : Option Content) → (target_of r).name ≢ (volatile_of r).name → IsSameReplace r next
    → told ≡ Some f → ReplaceCall (replace_stage r) r host faults text (More next) d f → told ≡ Some e → IsKept r (More next) d e
kept r next host faults text d e f told other same first call second =
    let one : f ≡ e = same_Some f e (sym first ∙ second) in
    (same, ap (λ (c : Content). c.file (target_of r)) (sym one) ∙ target_kept (replace_stage r) r next host faults text d f (λ is. other (ap (λ (p : Place). p.name) is)) call)
