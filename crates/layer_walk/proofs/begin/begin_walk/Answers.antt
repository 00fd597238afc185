use Rattle.std.proofs.Common.{◌+◌, ◌-◌, ◌*◌, ◌/◌, refl}
use Rattle.image_model.specs.File.{file_of}
use Rattle.layer_walk.specs.Counting.{table_rows}
use Rattle.layer_walk.specs.Known.{tables_of}
use Rattle.layer_walk.specs.Left.{blocks_of, first_left}
use Rattle.layer_walk.proofs.Begins.{all_fewer, begin_passes, begin_stops, begins_below, stops_fewer}
use Rattle.layer_walk.proofs.Moves.{fits_after}
use Rattle.layer_walk.proofs.begin.begin_walk.Goals as goal

pub returns-in-Some-clause-falls : goal.returns-in-Some-clause-falls
returns-in-Some-clause-falls c =
    let lt = c.in-Some.ensures.inside c.in-Some.stop refl in
    begins_below c.args.work.header (λ h tables. 1 + 2 * (c.in-Some.stop.at - 0)) c.ask_head.result c.args.work.low
    (λ tables rule head. stops_fewer c.args.work.header tables c.in-Some.stop.at c.args.work.low head lt) c.ask_head.ensures.falls

pub returns-in-Some-clause-next : goal.returns-in-Some-clause-next
returns-in-Some-clause-next c capacity count sectors fits known =
    c.ask_head.ensures.next capacity count sectors (fits_after (tables_of c.args.work (file_of count sectors)) c.args.work.marks c.check_head.new.marks c.in-Some.ensures.keeps fits)
    (begin_stops c.args.work (file_of count sectors) capacity c.check_head.new.marks fits known c.in-Some.stop c.in-Some.ensures)

pub returns-in-None-clause-falls : goal.returns-in-None-clause-falls
returns-in-None-clause-falls c =
    begins_below c.args.work.header (λ h tables. 1 + (table_rows h - 0 / 64) + 2 * blocks_of h tables 0 + first_left h tables) c.next_entries.result c.args.work.low
    (λ tables rule head. all_fewer c.args.work.header tables rule c.args.work.low head) c.next_entries.ensures.falls

pub returns-in-None-clause-next : goal.returns-in-None-clause-next
returns-in-None-clause-next c capacity count sectors fits known =
    c.next_entries.ensures.next capacity count sectors (fits_after (tables_of c.args.work (file_of count sectors)) c.args.work.marks c.check_head.new.marks c.in-None.ensures.keeps fits)
    (begin_passes c.args.work (file_of count sectors) capacity c.check_head.new.marks fits known c.in-None.ensures)
