use Rattle.std.proofs.Common.{ℕ, Option, Some, sym, ap, subst}
use Rattle.std.specs.Option.{option_map}
use Rattle.std.specs.Prelude.{IfNone}
use Rattle.sd_names.specs.declared.refusal.Refusal.{Refusal}
use Rattle.pool_model.specs.Bars.{IsBegun, bars_of}
use Rattle.pool_model.specs.Kept.{IsKept}
use Rattle.pool_model.specs.Verb.{verb_said}
use Rattle.host_core.specs.Bars.{AreBarred, IsReady}
use Rattle.host_core.specs.Knows.{HostKnows}
use Rattle.host_core.specs.Memory.{IsFit, Leader, Memory, leader_of}
use Rattle.host_core.specs.State.{state_of}
use Rattle.host_core.proofs.Beginning.{asked, begin_refused, fit_of, hosted_built, verb_begun, work_known}
use Rattle.host_core.proofs.host.Host.begin.Goals as goal

pub invariant_of-self : goal.invariant_of-self
invariant_of-self c = record {
  own = c.self.invariant.own;
  fit = subst (λ (o : Option Leader). IsFit (Some c.work_of.result) o) (sym (ap (λ (m : Memory). m.leading) c.self.view_is))
      (fit_of c.args.verb.now c.work_of.result c.args.self.now.leading c.requires.hosted c.work_of.ensures
      (subst (λ (o : Option Refusal). IfNone o (IsReady c.args.verb.now c.args.self.now.leading)) c.in-None.is c.barred.ensures.ready));
}

pub returns-in-Some-clause-begins : goal.returns-in-Some-clause-begins
returns-in-Some-clause-begins c k p knows keeps =
    begin_refused c.args.self.now.id c.args.up.now c.args.self.now.moment (state_of k c.args.self.now) p c.args.verb.now c.in-Some.refusal c.requires.hosted
    (subst (λ (o : Option Refusal). AreBarred c.args.self.now.id c.args.up.now (state_of k c.args.self.now) (bars_of (verb_said c.args.verb.now)) p o) c.in-Some.is
    (c.barred.ensures.barred k p (asked c.args.verb.now k c.args.self.now p c.requires.hosted knows)))

pub returns-in-None-clause-begins : goal.returns-in-None-clause-begins
returns-in-None-clause-begins c k p knows keeps =
    let ready = subst (λ (o : Option Refusal). IfNone o (IsReady c.args.verb.now c.args.self.now.leading)) c.in-None.is c.barred.ensures.ready in
    let fit = fit_of c.args.verb.now c.work_of.result c.args.self.now.leading c.requires.hosted c.work_of.ensures ready in (
      hosted_built c.args.verb.now c.requires.hosted,
      subst (λ (o : Option Refusal). AreBarred c.args.self.now.id c.args.up.now (state_of k c.args.self.now) (bars_of (verb_said c.args.verb.now)) p o) c.in-None.is
          (c.barred.ensures.barred k p (asked c.args.verb.now k c.args.self.now p c.requires.hosted knows)),
      subst (λ (m : Memory). IsBegun m.id m.moment (verb_said c.args.verb.now) (state_of k m) p (state_of k (record {
        id = c.self.inside.id;
        moment = c.self.inside.moment;
        leading = option_map leader_of c.self.inside.leading;
        work = Some c.work_of.result;
        steps = 0;
        bytes = c.clear.new.self.items;
      }))) c.self.view_is
          (verb_begun c.self.inside.id c.self.inside.moment c.self.inside.steps c.self.inside.bytes.items c.clear.new.self.items c.self.inside.work
          c.work_of.result k p (subst (λ (n : ℕ). IsKept n p k) (sym (ap (λ (m : Memory). m.id) c.self.view_is)) keeps)
          (option_map leader_of c.self.inside.leading) c.args.verb.now c.work_of.ensures
          (subst (λ (o : Option Leader). IsFit (Some c.work_of.result) o) (sym (ap (λ (m : Memory). m.leading) c.self.view_is)) fit)),
    )

pub returns-in-None-clause-knows : goal.returns-in-None-clause-knows
returns-in-None-clause-knows c k p knows keeps =
    work_known c.self.inside.id c.self.inside.moment c.self.inside.steps c.self.inside.bytes.items c.clear.new.self.items c.self.inside.work
    c.work_of.result k p (subst (λ (n : ℕ). IsKept n p k) (sym (ap (λ (m : Memory). m.id) c.self.view_is)) keeps)
    (option_map leader_of c.self.inside.leading) (subst (λ (m : Memory). HostKnows k m p) (sym c.self.view_is) knows)
