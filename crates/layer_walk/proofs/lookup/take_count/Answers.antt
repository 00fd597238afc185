use Rattle.std.proofs.Common.{◌*◌, ◌/◌, ◌<◌, ap, sym, ◌∙◌, subst, arith}
use Rattle.image_model.specs.File.{file_of}
use Rattle.layer_walk.specs.Known.{BlockKnown, IsRead, tables_of}
use Rattle.layer_walk.specs.Walking.{IsNear, asked_place}
use Rattle.layer_walk.proofs.Asks.{asked_block, asked_count, asked_none}
use Rattle.layer_walk.proofs.lookup.take_count.Goals as goal

pub returns-then-block-eq0-clause-next : goal.returns-then-block-eq0-clause-next
returns-then-block-eq0-clause-next c capacity count sectors fits read known block =
    let near = subst (λ b. IsNear (asked_place c.args.work.header c.args.ask.place b) c.wanted_count-at.result) c.in-None.is c.wanted_count-at.ensures in
    let read' = subst (λ b. IsRead count sectors (asked_place c.args.work.header c.args.ask.place b) c.args.sector.now) c.in-None.is read in
    let here = asked_block c.args.work count c.args.ask.place sectors c.args.sector.now fits c.wanted_count-at.result c.block_index.result c.block_index.ensures.value (subst (λ n. c.block_index.result < n) c.table_entries.ensures c.if-block_index-table_entries.false) near read' in
    c.without_count-then-block-eq0.ensures.next capacity count sectors fits (record {
      known = known;
      none = asked_none c.args.work count c.args.ask.place sectors c.args.sector.now fits (here ∙ ap (λ n. n / 512 * 512) (sym c.word_at.ensures) ∙ c.if-block-eq0.true);
    })

pub returns-else-block-eq0-clause-next : goal.returns-else-block-eq0-clause-next
returns-else-block-eq0-clause-next c capacity count sectors fits read known block =
    let near = subst (λ b. IsNear (asked_place c.args.work.header c.args.ask.place b) c.wanted_count-at.result) c.in-None.is c.wanted_count-at.ensures in
    let read' = subst (λ b. IsRead count sectors (asked_place c.args.work.header c.args.ask.place b) c.args.sector.now) c.in-None.is read in
    let here = asked_block c.args.work count c.args.ask.place sectors c.args.sector.now fits c.wanted_count-at.result c.block_index.result c.block_index.ensures.value (subst (λ n. c.block_index.result < n) c.table_entries.ensures c.if-block_index-table_entries.false) near read' in
    (known, (here ∙ ap (λ n. n / 512 * 512) (sym c.word_at.ensures), omega (arith, c.if-block-eq0.false)))

pub returns-then-half_at-eq0-clause-next : goal.returns-then-half_at-eq0-clause-next
returns-then-half_at-eq0-clause-next c capacity count sectors fits read known block =
    let near = subst (λ b. IsNear (asked_place c.args.work.header c.args.ask.place b) c.wanted_count-at.result) c.in-Some.is c.wanted_count-at.ensures in
    let read' = subst (λ b. IsRead count sectors (asked_place c.args.work.header c.args.ask.place b) c.args.sector.now) c.in-Some.is read in
    let at = subst (λ b. BlockKnown (tables_of c.args.work (file_of count sectors)) c.args.ask.place b) c.in-Some.is block in
    let here = asked_count c.args.work count c.args.ask.place sectors c.args.sector.now fits c.wanted_count-at.result c.in-Some.field-0 at.0 at.1 near read' in
    c.without_count-then-half_at-eq0.ensures.next capacity count sectors fits (record { known = known; none = here ∙ sym c.half_at.ensures ∙ c.if-half_at-eq0.true })

pub returns-else-half_at-eq0-clause-next : goal.returns-else-half_at-eq0-clause-next
returns-else-half_at-eq0-clause-next c capacity count sectors fits read known block =
    let near = subst (λ b. IsNear (asked_place c.args.work.header c.args.ask.place b) c.wanted_count-at.result) c.in-Some.is c.wanted_count-at.ensures in
    let read' = subst (λ b. IsRead count sectors (asked_place c.args.work.header c.args.ask.place b) c.args.sector.now) c.in-Some.is read in
    let at = subst (λ b. BlockKnown (tables_of c.args.work (file_of count sectors)) c.args.ask.place b) c.in-Some.is block in
    let here = asked_count c.args.work count c.args.ask.place sectors c.args.sector.now fits c.wanted_count-at.result c.in-Some.field-0 at.0 at.1 near read' in
    c.with_count.ensures.next capacity count sectors fits (record { known = known; some = omega (arith, here, c.half_at.ensures, c.if-half_at-eq0.false) })
