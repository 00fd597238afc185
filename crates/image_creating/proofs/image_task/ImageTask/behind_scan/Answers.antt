use Rattle.std.proofs.Common.{ℕ, Option, None, sym, ap, subst, ◌∙◌}
use Rattle.lease_area.specs.declared.scanned.Scanned.{Scanned}
use Rattle.sd_names.specs.declared.turn.Turn.TheVariants.{More}
use Rattle.lease_area.specs.declared.sector.LeaseRecord.{LeaseRecord}
use Rattle.image_creating.specs.Calls.{SeenBy}
use Rattle.image_creating.proofs.image_task.ImageTask.behind_scan.Goals as goal

pub returns-in-Some-empty-clause-seen : goal.returns-in-Some-empty-clause-seen
returns-in-Some-empty-clause-seen c =
    let begun = c.begin-write.ensures in
    subst (λ (found : Option (ℕ × LeaseRecord)). SeenBy c.args.self c.args.making found c.args.seen.empty (More c.at.result)) (sym (sym (ap (λ (s : Scanned). s.found) c.seen.view_is) ∙ c.in-None.is))
    (subst (λ (empty : Option ℕ). SeenBy c.args.self c.args.making None empty (More c.at.result)) (sym (sym (ap (λ (s : Scanned). s.empty) c.seen.view_is) ∙ c.in-Some-empty.is))
    (c.begin-write.result, c.at.ensures, record { file = begun.file; volatile = begun.volatile; stage = begun.stage }))
