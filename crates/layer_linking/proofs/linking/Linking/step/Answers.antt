use Rattle.std.proofs.Common.{subst}
use Rattle.layer_linking.specs.Linking.{KnowsStage}
use Rattle.layer_linking.specs.declared.linking.Stage.{Stage}
use Rattle.layer_linking.proofs.Ends as ends
use Rattle.layer_linking.proofs.Fills as fills
use Rattle.layer_linking.proofs.Finds as finds
use Rattle.layer_linking.proofs.Outcomes.{read_others, sync_others, write_others}
use Rattle.layer_linking.proofs.linking.Linking.step.Goals as goal

pub returns-in-Begun-clause-content : goal.returns-in-Begun-clause-content
returns-in-Begun-clause-content g c d tells =
    let call = c.find_table.ensures.content d tells in (
      call.0,
      call.1,
      (
        read_others d call.0 c.args.host _ _ _ call.2.0 call.2.1,
        λ start knows.
            let now = subst (λ (s : Stage). KnowsStage s c.args.layer.now c.args.self c.args.host start d) c.in-Begun.is knows.now in
            finds.find_step c.args.layer.now c.args.self c.args.host _ start d call.0 _ knows.began now.0 now.1 call.2,
      ),
    )

pub returns-in-Found-clause-content : goal.returns-in-Found-clause-content
returns-in-Found-clause-content g c d tells =
    let call = c.lay_entries.ensures.content d tells in (
      call.0,
      call.1,
      (
        read_others d call.0 c.args.host _ _ _ call.2.0 call.2.1,
        λ start knows.
            let now = subst (λ (s : Stage). KnowsStage s c.args.layer.now c.args.self c.args.host start d) c.in-Found.is knows.now in
            finds.lay_step c.args.layer.now c.args.self c.args.host _ start d call.0 _ knows.began c.in-Found.table now.0 now.1 now.2 call.2,
      ),
    )

pub returns-in-Filling-clause-content : goal.returns-in-Filling-clause-content
returns-in-Filling-clause-content g c d tells =
    let call = c.zero_piece.ensures.content d tells in (
      call.0,
      call.1,
      (
        write_others d call.0 c.args.host _ _ _ call.2.0 call.2.1,
        λ start knows.
            let now = subst (λ (s : Stage). KnowsStage s c.args.layer.now c.args.self c.args.host start d) c.in-Filling.is knows.now in
            fills.zero_step c.args.layer.now c.args.self c.args.host _ start d call.0 _ knows.began c.in-Filling.table now.1.given c.in-Filling.piece now.0 now.1 call.2,
      ),
    )

pub returns-in-Zeroed-clause-content : goal.returns-in-Zeroed-clause-content
returns-in-Zeroed-clause-content g c d tells =
    let call = c.write_entries.ensures.content d tells in (
      call.0,
      call.1,
      (
        write_others d call.0 c.args.host _ _ _ call.2.0 call.2.1,
        λ start knows.
            let now = subst (λ (s : Stage). KnowsStage s c.args.layer.now c.args.self c.args.host start d) c.in-Zeroed.is knows.now in
            fills.entries_step c.args.layer.now c.args.self c.args.host _ start d call.0 _ knows.began c.in-Zeroed.table now.given now call.2,
      ),
    )

pub returns-in-Filled-clause-content : goal.returns-in-Filled-clause-content
returns-in-Filled-clause-content g c d tells =
    let call = c.sync_table.ensures.content d tells in (
      call.0,
      call.1,
      (
        sync_others d call.0 c.args.host _ call.2.0 call.2.1,
        λ start knows.
            let now = subst (λ (s : Stage). KnowsStage s c.args.layer.now c.args.self c.args.host start d) c.in-Filled.is knows.now in
            fills.sync_step c.args.layer.now c.args.self c.args.host _ start d call.0 _ knows.began c.in-Filled.table now.given now call.2,
      ),
    )

pub returns-in-Synced-clause-content : goal.returns-in-Synced-clause-content
returns-in-Synced-clause-content g c d tells =
    let call = c.lay_table.ensures.content d tells in (
      call.0,
      call.1,
      (
        read_others d call.0 c.args.host _ _ _ call.2.0 call.2.1,
        λ start knows.
            let now = subst (λ (s : Stage). KnowsStage s c.args.layer.now c.args.self c.args.host start d) c.in-Synced.is knows.now in
            finds.name_step c.args.layer.now c.args.self c.args.host _ start d call.0 _ knows.began c.in-Synced.table now call.2,
      ),
    )

pub returns-in-Laid-clause-content : goal.returns-in-Laid-clause-content
returns-in-Laid-clause-content g c d tells =
    let call = c.write_laid.ensures.content d tells in (
      call.0,
      call.1,
      (
        write_others d call.0 c.args.host _ _ _ call.2.0 call.2.1,
        λ start knows.
            let now = subst (λ (s : Stage). KnowsStage s c.args.layer.now c.args.self c.args.host start d) c.in-Laid.is knows.now in
            ends.write_step c.args.layer.now c.args.self c.args.host _ start d call.0 _ knows.began c.in-Laid.at c.in-Laid.sector now call.2,
      ),
    )

pub returns-in-Entered-clause-content : goal.returns-in-Entered-clause-content
returns-in-Entered-clause-content g c d tells =
    let call = c.sync_entered.ensures.content d tells in (
      call.0,
      call.1,
      (
        sync_others d call.0 c.args.host _ call.2.0 call.2.1,
        λ start knows.
            let now = subst (λ (s : Stage). KnowsStage s c.args.layer.now c.args.self c.args.host start d) c.in-Entered.is knows.now in
            ends.sync_step c.args.layer.now c.args.self c.args.host _ start d call.0 _ knows.began now call.2,
      ),
    )
