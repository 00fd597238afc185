use Rattle.std.proofs.Common.{sym, ◌∙◌}
use Rattle.layer_walk.proofs.Sectors.{notes_found, notes_kept, notes_none}
use Rattle.layer_walk.proofs.Ranges.{none_is}
use Rattle.layer_walk.proofs.counted.note_uncounted.Goals as goal

pub returns-then-is_some : goal.returns-then-is_some
returns-then-is_some c = notes_kept c.args.first c.args.sector.now c.args.marks.now c.args.marks.now (sym c.is_some.ensures ∙ c.if-is_some.true)

pub returns-in-Some : goal.returns-in-Some
returns-in-Some c =
    notes_found c.args.first c.args.sector.now c.args.marks.now c.note.new.self c.in-Some.c (none_is c.args.marks.now.noted (sym c.is_some.ensures ∙ c.if-is_some.false)) c.in-Some.ensures c.note.ensures

pub returns-in_default : goal.returns-in_default
returns-in_default c =
    notes_none c.args.first c.args.sector.now c.args.marks.now c.args.marks.now (none_is c.args.marks.now.noted (sym c.is_some.ensures ∙ c.if-is_some.false)) c.in_default.ensures
