-- Fewer steps are left once the image of a step is gone.
use Rattle.std.proofs.Common.{◌≡◌, None, ℕ, zero, suc, ◌+◌, ◌-◌, ◌<◌, ◌≤◌, ap, sym, ◌∙◌, arith, subst}
use Rattle.sd_names.specs.declared.id.Id.{Id}
use Rattle.lease_area.specs.Scan.{steps_made}
use Rattle.task_store.specs.declared.task.Task.{Task}
use Rattle.whole_file.specs.Replace.{left_of as replace_left}
use Rattle.whole_file.specs.declared.replace.Stage.{Stage as ReplaceStage}
use Rattle.image_removing.specs.Falls.{Costs, left_of as removal_left}
use Rattle.image_removing.specs.declared.removing.Pass.TheVariants.{Earlier}
use Rattle.image_removing.specs.declared.removing.Stage.TheVariants.{Listing}
use Rattle.image_clearing.specs.Clearing.{IsBegun, stage_of as clearing_stage}
use Rattle.image_clearing.specs.Falls.{left_of as clearing_left}
use Rattle.image_clearing.specs.declared.clearing.ImageClearing.{ImageClearing}
use Rattle.image_clearing.specs.declared.clearing.Stage.{Stage as ClearingStage}
use Rattle.task_settling.specs.Falls.{left_behind, left_of, left_whole}
use Rattle.task_settling.specs.Settling.{IsStageBehind}
use Rattle.task_settling.specs.declared.settling.Stage.{Stage}
use Rattle.task_settling.specs.declared.settling.Stage.TheVariants.{Clearing, Writing}
use Rattle.task_settling.proofs.Lists.{none_last}

begun_whole : (cost : Costs) (sd image : Id) (c : ImageClearing) → IsBegun sd image c → clearing_left cost (clearing_stage c) ≡ left_whole cost
begun_whole cost sd image c (s, at, begun) =
    ap (λ (z : ClearingStage). clearing_left cost z) at.now_in ∙ ap (λ (n : ℕ). n + removal_left cost (Listing Earlier None) + 1) (eight (steps_made s) begun.made)
  where
    eight : (n : ℕ) → n ≡ 0 → 8 - n ≡ 8
    eight n is = omega (arith, is)

five : (cost : Costs) (n : ℕ) → 5 ≤ left_behind cost n
five cost zero = omega arith
five cost (suc n) = omega arith

begun_after : (cost : Costs) (m left : ℕ) → 0 < left → left_whole cost + left_behind cost (suc m) < left + left_behind cost (suc (suc m))
begun_after cost m left some = omega (arith, some)

pub behind_nears : (cost : Costs) (master : Id) (task settled : Task) (m left : ℕ) (s : Stage) → 0 < left → IsStageBehind master task settled m s → left_of cost s < left + left_behind cost (suc m)
behind_nears cost master task settled zero left (Clearing n c) some (same, last) = absurd (none_last task.steps last.last.0 last.step last.last.1)
behind_nears cost master task settled (suc m) left (Clearing n c) some (same, last) =
    subst (λ (k : ℕ). clearing_left cost (clearing_stage c) + left_behind cost k < left + left_behind cost (suc (suc m))) (sym same)
    (subst (λ (k : ℕ). k + left_behind cost (suc m) < left + left_behind cost (suc (suc m))) (sym (begun_whole cost last.sd last.image c last.begun)) (begun_after cost m left some))
behind_nears cost master task settled m left (Writing w) some (none, begun) =
    subst (λ (z : ReplaceStage). replace_left z < left + left_behind cost (suc m)) (sym begun.stage) (text_after (left_behind cost (suc m)) left some (five cost (suc m)))
  where
    text_after : (more left : ℕ) → 0 < left → 5 ≤ more → 5 < left + more
    text_after more left some least = omega (arith, some, least)

pub one_less : (cost : Costs) (master : Id) (task settled : Task) (count left : ℕ) (s : Stage) → 0 < count → 0 < left → IsStageBehind master task settled (count - 1) s
    → left_of cost s < left + left_behind cost count
one_less cost master task settled zero left s some more behind = absurd (omega (arith, some))
one_less cost master task settled (suc m) left s some more behind =
    behind_nears cost master task settled m left s more (subst (λ (k : ℕ). IsStageBehind master task settled k s) (before m) behind)
  where
    before : (m : ℕ) → suc m - 1 ≡ m
    before m = omega arith
