use Rattle.std.proofs.Common.{◌+◌, ◌-◌, ◌*◌, sym, subst, arith}
use Rattle.image_model.specs.File.{file_of}
use Rattle.sd_names.specs.declared.fault.LayerFault.TheVariants.{LowRefcount}
use Rattle.layer_walk.specs.Known.{HeadKnown, ThenKnows, tables_of}
use Rattle.layer_walk.specs.Left.{BelowBy, then_left}
use Rattle.layer_walk.specs.declared.walk.Then.TheVariants.{Entries}
use Rattle.layer_walk.proofs.Asks.{entry_low, head_low}
use Rattle.layer_walk.proofs.Falls.{asks_fewer, below_more}
use Rattle.layer_walk.proofs.lookup.without_count.Goals as goal

pub returns-in-Head-clause-next : goal.returns-in-Head-clause-next
returns-in-Head-clause-next c capacity count sectors fits known =
    let t = tables_of c.args.work (file_of count sectors) in
    let here = subst (λ x. ThenKnows t capacity c.args.work.marks c.args.ask.place x) c.in-Head.is known.known in
    head_low t capacity c.in-Head.field-0 c.in-Head.field-1 c.args.ask.place c.in-Head.field-2 here.0 here.1 here.2 known.none

pub returns-in-Entries-clause-falls : goal.returns-in-Entries-clause-falls
returns-in-Entries-clause-falls c =
    subst (λ x. BelowBy c.args.work.header (λ h tables. 1 + then_left h tables x) c.ask_head.result) (sym c.in-Entries.is)
    (below_more c.args.work.header (λ h tables. 1 + 2 * (c.head_clusters-end.result - 0)) (λ h tables. 1 + then_left h tables (Entries c.in-Entries.field-0 c.in-Entries.field-1)) c.ask_head.result
    (λ tables rule. let few = asks_fewer c.args.work.header tables c.args.work.low in omega (arith, few, c.head_clusters-end.ensures.value)) c.ask_head.ensures.falls)

pub returns-in-Entries-clause-next : goal.returns-in-Entries-clause-next
returns-in-Entries-clause-next c capacity count sectors fits known =
    let t = tables_of c.args.work (file_of count sectors) in
    let here = subst (λ x. ThenKnows t capacity c.args.work.marks c.args.ask.place x) c.in-Entries.is known.known in
    c.ask_head.ensures.next capacity count sectors fits
    (subst (λ n. HeadKnown t capacity 0 n (LowRefcount c.args.ask.place)) (sym c.head_clusters-end.ensures.value)
    (entry_low t capacity c.args.work.marks c.args.ask.place c.in-Entries.field-0 c.in-Entries.field-1 here known.none))
