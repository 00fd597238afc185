use Rattle.std.proofs.Common.{◌≡◌, ◌<◌, ◌+◌, ◌++◌, ℕ, Bool, [], true, false, List, drop, get_or, length, take, sym, ap, subst, ◌∙◌}
use Rattle.std.proofs.Math.Seq.{take-append_seam}
use Rattle.std.specs.Prelude.{if◌then◌else◌, map}
use Rattle.sd_names.specs.declared.id.Id.{Id}
use Rattle.sd_names.specs.declared.task_state.TaskState.{TaskState}
use Rattle.sd_names.specs.declared.task_state.TaskState.TheVariants.{Open}
use Rattle.shared_disk.specs.Places.{id_is}
use Rattle.spm_role.specs.Lists.{with_state}
use Rattle.spm_role.proofs.Setting.{IsSetUpTo, all_set, set_next}
use Rattle.spm_role.proofs.lists.TaskList.set.Goals as goal
use Rattle.spm_role.proofs.lists.TaskList.set.Goals.{then-is_of, else-is_of}

low : {i n m : ℕ} → n ≡ m → i < m → i < n
low {i} same less = subst (λ (k : ℕ). i < k) (sym same) less

-- the value of a pair, by whether it is the task's
by_test : (t : Id) (s : TaskState) (a : Id × TaskState) (b : Bool) → id_is a.0 t ≡ b → (a.0, if b then s else a.1) ≡ with_state t s a
by_test t s a b is = ap {B = Id × TaskState} (λ (x : Bool). (a.0, if x then s else a.1)) (sym is)

pub returns : goal.returns
returns c =
    ap (λ (n : _). take n (c.loop-pair.pair-items ++ drop (length c.loop-pair.pair-items) c.self.inside.tasks.items)) (sym c.deref_mut-pair-items.ensures.len ∙ sym c.loop-pair.auto.pair-items)
    ∙ take-append_seam c.loop-pair.pair-items (drop (length c.loop-pair.pair-items) c.self.inside.tasks.items)
    ∙ all_set (with_state c.args.task.now c.args.state) c.deref_mut-pair-items.result.now c.loop-pair.pair-items c.loop-pair.pair-index c.loop-pair.invariant c.loop-pair-test.false
    ∙ ap (λ (ts : List (Id × TaskState)). map (with_state c.args.task.now c.args.state) ts) (c.deref_mut-pair-items.ensures.value ∙ c.self.view_is)

pub loop-pair-preserved : goal.loop-pair-preserved
loop-pair-preserved c = elim c.if-is_of.branch [
  | then-is_of w ↦ subst (λ (ys : List (Id × TaskState)). IsSetUpTo (with_state c.args.task.now c.args.state) c.deref_mut-pair-items.result.now ys (c.loop-pair.pair-index + 1)) (sym w.pair-items-is)
      (set_next (with_state c.args.task.now c.args.state) _ c.loop-pair.pair-items c.loop-pair.pair-index c.loop-pair.invariant _ _
      (low c.loop-pair.auto.pair-items c.loop-pair-test.true)
      (by_test c.args.task.now c.args.state (get_or c.loop-pair.pair-items c.loop-pair.pair-index (record { 0 = [] }, Open)) true (sym c.is_of.ensures ∙ w.if-is_of.true)))
  | else-is_of w ↦ subst (λ (ys : List (Id × TaskState)). IsSetUpTo (with_state c.args.task.now c.args.state) c.deref_mut-pair-items.result.now ys (c.loop-pair.pair-index + 1)) (sym w.pair-items-is)
      (set_next (with_state c.args.task.now c.args.state) _ c.loop-pair.pair-items c.loop-pair.pair-index c.loop-pair.invariant _ _
      (low c.loop-pair.auto.pair-items c.loop-pair-test.true)
      (by_test c.args.task.now c.args.state (get_or c.loop-pair.pair-items c.loop-pair.pair-index (record { 0 = [] }, Open)) false (sym c.is_of.ensures ∙ w.if-is_of.false)))
]
