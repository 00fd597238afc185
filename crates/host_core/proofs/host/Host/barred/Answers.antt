use Rattle.std.proofs.Common.{[], ◌∷◌, ◌≡◌, Option, Some, None, inl, refl, sym, subst}
use Rattle.std.specs.Prelude.{IfNone}
use Rattle.sd_names.specs.declared.refusal.Refusal.{Refusal}
use Rattle.sd_names.specs.declared.verb.Verb.{Verb as Said}
use Rattle.sd_names.specs.declared.verb.Verb.TheVariants as said
use Rattle.pool_model.specs.Bars.{FirstBar, alone, bars_of, leading, none_begun, not_leading}
use Rattle.pool_model.specs.Verb.{verb_said}
use Rattle.host_core.specs.Bars.{AreBarred, BarsAsk, IsBarred, IsDecided, IsReady}
use Rattle.host_core.specs.Memory.{IsStopping}
use Rattle.host_core.specs.State.{state_of}
use Rattle.host_core.proofs.Barred.{last_bar, next_bar}
use Rattle.host_core.proofs.Beginning.{some_kept, some_pool, stopping}
use Rattle.host_core.proofs.host.Host.barred.Goals as goal

pub returns-in-MakePool-clause-barred : goal.returns-in-MakePool-clause-barred
returns-in-MakePool-clause-barred c k p ask =
    let x = state_of k c.args.self.now in
    subst (λ (v : Said). AreBarred c.args.self.now.id c.args.up.now x (bars_of (verb_said v)) p c.beside_others.result) (sym c.in-MakePool.is)
    (last_bar c.args.self.now.id c.args.up.now x alone p c.beside_others.result (c.beside_others.ensures k p))

pub returns-in-SpmStart-clause-barred : goal.returns-in-SpmStart-clause-barred
returns-in-SpmStart-clause-barred c k p ask =
    let x = state_of k c.args.self.now in
    subst (λ (v : Said). AreBarred c.args.self.now.id c.args.up.now x (bars_of (verb_said v)) p c.leading_already.result) (sym c.in-SpmStart.is)
    (last_bar c.args.self.now.id c.args.up.now x not_leading p c.leading_already.result (c.leading_already.ensures k p c.args.up.now))

pub returns-in-Some-clause-barred : goal.returns-in-Some-clause-barred
returns-in-Some-clause-barred c k p ask =
    let x = state_of k c.args.self.now in
    subst (λ (v : Said). FirstBar c.args.self.now.id c.args.up.now x (bars_of (verb_said v)) c.in-Some.refusal p) (sym c.in-SpmStop.is)
    (inl (subst (λ (o : Option Refusal). IsBarred c.args.self.now.id c.args.up.now x leading p o) c.in-Some.is (c.not_leading.ensures.barred k p c.args.up.now)))

pub returns-in-None-clause-barred : goal.returns-in-None-clause-barred
returns-in-None-clause-barred c k p ask =
    let x = state_of k c.args.self.now in
    subst (λ (v : Said). AreBarred c.args.self.now.id c.args.up.now x (bars_of (verb_said v)) p c.with_open_task.result) (sym c.in-SpmStop.is)
    (next_bar c.args.self.now.id c.args.up.now x leading (none_begun ∷ []) p c.with_open_task.result
    (subst (λ (o : Option Refusal). IsBarred c.args.self.now.id c.args.up.now x leading p o) c.in-None.is (c.not_leading.ensures.barred k p c.args.up.now))
    (last_bar c.args.self.now.id c.args.up.now x none_begun p c.with_open_task.result (c.with_open_task.ensures k p c.args.up.now)))

pub returns-in_default-clause-barred : goal.returns-in_default-clause-barred
returns-in_default-clause-barred c k p ask = go c.args.verb.now refl
  where
    role : AreBarred c.args.self.now.id c.args.up.now (state_of k c.args.self.now) (leading ∷ []) p c.not_leading-in_default.result
    role = last_bar c.args.self.now.id c.args.up.now (state_of k c.args.self.now) leading p c.not_leading-in_default.result (c.not_leading-in_default.ensures.barred k p c.args.up.now)

    at : (v : Said) → c.args.verb.now ≡ v → AreBarred c.args.self.now.id c.args.up.now (state_of k c.args.self.now) (bars_of (verb_said v)) p c.not_leading-in_default.result
        → AreBarred c.args.self.now.id c.args.up.now (state_of k c.args.self.now) (bars_of (verb_said c.args.verb.now)) p c.not_leading-in_default.result
    at v is barred = subst (λ (w : Said). AreBarred c.args.self.now.id c.args.up.now (state_of k c.args.self.now) (bars_of (verb_said w)) p c.not_leading-in_default.result) (sym is) barred

    go : (v : Said) → c.args.verb.now ≡ v
        → AreBarred c.args.self.now.id c.args.up.now (state_of k c.args.self.now) (bars_of (verb_said c.args.verb.now)) p c.not_leading-in_default.result
    go (said.MakePool pool sd n text) is = absurd (c.in_default.not-MakePool pool sd n text is)
    go (said.SpmStart sd prev lver) is = absurd (c.in_default.not-SpmStart sd prev lver is)
    go said.SpmStop is = absurd (c.in_default.not-SpmStop is)
    go said.Tasks is = absurd (c.in_default.not-Tasks is)
    go (said.ClearTask t) is = absurd (c.in_default.not-ClearTask t is)
    go said.Recover is = at said.Recover is role
    go v is = absurd (subst (λ (w : Said). IsDecided w) is c.requires.decided)

pub returns-in-ClearTask-clause-barred : goal.returns-in-ClearTask-clause-barred
returns-in-ClearTask-clause-barred c k p ask =
    subst (λ (v : Said). AreBarred c.args.self.now.id c.args.up.now (state_of k c.args.self.now) (bars_of (verb_said v)) p c.without_task.result) (sym c.in-ClearTask.is)
    (c.without_task.ensures.barred k p c.args.up.now (subst (λ (v : Said). BarsAsk v k c.args.self.now p) c.in-ClearTask.is ask))

pub returns-in-ClearTask-clause-ready : goal.returns-in-ClearTask-clause-ready
returns-in-ClearTask-clause-ready c =
    subst (λ (v : Said). IfNone c.without_task.result (IsReady v c.args.self.now.leading)) (sym c.in-ClearTask.is) c.without_task.ensures.ready

pub returns-in-None-clause-ready : goal.returns-in-None-clause-ready
returns-in-None-clause-ready c =
    subst (λ (v : Said). IfNone c.with_open_task.result (IsReady v c.args.self.now.leading)) (sym c.in-SpmStop.is) (go c.with_open_task.result refl)
  where
    go : (o : Option Refusal) → c.with_open_task.result ≡ o → IfNone o (IsStopping c.args.self.now.leading)
    go (Some e) is = tt
    go None is = stopping c.args.self.now.id c.args.up.now c.args.self.now some_kept some_pool c.args.self.now.leading
        (subst (λ (o : Option Refusal). IsBarred c.args.self.now.id c.args.up.now (state_of some_kept c.args.self.now) leading some_pool o) c.in-None.is
        (c.not_leading.ensures.barred some_kept some_pool c.args.up.now))
        (subst (λ (o : Option Refusal). IsBarred c.args.self.now.id c.args.up.now (state_of some_kept c.args.self.now) none_begun some_pool o) is
        (c.with_open_task.ensures some_kept some_pool c.args.up.now))

pub returns-in-Tasks-clause-barred : goal.returns-in-Tasks-clause-barred
returns-in-Tasks-clause-barred c k p ask =
    subst (λ (v : Said). AreBarred c.args.self.now.id c.args.up.now (state_of k c.args.self.now) (bars_of (verb_said v)) p c.not_leading-in-Tasks.result) (sym c.in-Tasks.is)
    (last_bar c.args.self.now.id c.args.up.now (state_of k c.args.self.now) leading p c.not_leading-in-Tasks.result (c.not_leading-in-Tasks.ensures.barred k p c.args.up.now))

pub returns-in-Tasks-clause-ready : goal.returns-in-Tasks-clause-ready
returns-in-Tasks-clause-ready c =
    subst (λ (v : Said). IfNone c.not_leading-in-Tasks.result (IsReady v c.args.self.now.leading)) (sym c.in-Tasks.is) c.not_leading-in-Tasks.ensures.ready
