use Rattle.std.proofs.Common.{◌≡◌, ◌%◌, ◌∙◌, refl, subst, sym}
use Rattle.place_writing.specs.Calls.{StepsAt}
use Rattle.place_writing.proofs.Steps.{passes, writes}
use Rattle.place_writing.proofs.Targets.{kept_apart, new_apart}
use Rattle.place_writing.proofs.places.PlaceWriting.step.Goals as goal

pub returns-in-InPlace-clause-content : goal.returns-in-InPlace-clause-content
returns-in-InPlace-clause-content g c d tells =
    let call = c.write.ensures.content d tells in (
      call.0,
      call.1,
      λ l x f there k same.
          writes c.args.self c.args.layer.now l x c.args.host _ f d there k c.in-InPlace.place c.write.result _ call.0 (sym c.target.ensures ∙ c.in-InPlace.is) (g.met.D.SharedDisk.well_formed c.args.disk.now d tells)
          (g.met.D.SharedDisk.well_formed c.write.new.disk call.0 call.1) same (subst (λ n. n % 512 ≡ 0) (sym c.requires.part) c.requires.length) call.2,
    )

pub returns-in-Kept-clause-content : goal.returns-in-Kept-clause-content
returns-in-Kept-clause-content g c d tells =
    (d, tells, λ l x f there k same. passes c.args.self c.args.layer.now l x c.args.host _ f d there k c.pass.result c.pass.ensures (kept_apart c.args.self.plan c.args.self.index c.in-Kept.field-0 (sym c.target.ensures ∙ c.in-Kept.is)))

pub returns-in-New-clause-content : goal.returns-in-New-clause-content
returns-in-New-clause-content g c d tells =
    (d, tells, λ l x f there k same. passes c.args.self c.args.layer.now l x c.args.host _ f d there k c.pass-in-New.result c.pass-in-New.ensures (new_apart c.args.self.plan c.args.self.index c.in-New.field-0 (sym c.target.ensures ∙ c.in-New.is)))

pub returns-in-InPlace-clause-steps : goal.returns-in-InPlace-clause-steps
returns-in-InPlace-clause-steps g c d tells =
    let call = c.write.ensures.content d tells in (
      call.0,
      call.1,
      subst (λ t. StepsAt t c.args.self c.args.layer.now c.args.host (g.D.SharedDisk.faults c.write.new.disk) c.args.part.now c.write.result d call.0) (sym c.in-InPlace.is ∙ c.target.ensures) call.2,
    )

pub returns-in-Kept-clause-steps : goal.returns-in-Kept-clause-steps
returns-in-Kept-clause-steps g c d tells =
    (d, tells, subst (λ t. StepsAt t c.args.self c.args.layer.now c.args.host (g.D.SharedDisk.faults c.args.disk.now) c.args.part.now c.pass.result d d) (sym c.in-Kept.is ∙ c.target.ensures) refl)

pub returns-in-New-clause-steps : goal.returns-in-New-clause-steps
returns-in-New-clause-steps g c d tells =
    (d, tells, subst (λ t. StepsAt t c.args.self c.args.layer.now c.args.host (g.D.SharedDisk.faults c.args.disk.now) c.args.part.now c.pass-in-New.result d d) (sym c.in-New.is ∙ c.target.ensures) refl)
