use Rattle.std.proofs.Common.{arith}
use Rattle.whole_file.proofs.Steps.{clear_step, create_step, write_step, sync_step, rename_step, written_by_stage, written_when_empty}
use Rattle.whole_file.proofs.replace.Replace.step.Goals as goal

pub returns-in-Begun-clause-content : goal.returns-in-Begun-clause-content
returns-in-Begun-clause-content g c d tells =
    let call = c.clear.ensures.content d tells in
    (call.0, call.1, λ knows. clear_step c.args.self c.args.host _ c.args.text.now _ d call.0 c.args.self.other knows call.2.0 call.2.1 call.2.2)

pub returns-in-Cleared-clause-content : goal.returns-in-Cleared-clause-content
returns-in-Cleared-clause-content g c d tells =
    let call = c.create.ensures.content d tells in
    (call.0, call.1, λ knows. create_step c.args.self c.args.host _ c.args.text.now _ d call.0 c.args.self.other c.requires.same c.in-Cleared.is knows call.2.0 call.2.1 call.2.2)

pub returns-then-self-eq0-clause-content : goal.returns-then-self-eq0-clause-content
returns-then-self-eq0-clause-content g c d tells =
    let call = c.sync.ensures.content d tells in
    (call.0, call.1, λ knows. sync_step c.args.self c.args.host _ c.args.text.now _ d call.0 c.args.self.other (written_when_empty c.args.self c.args.host c.args.text.now d c.in-Created.is (omega (arith, c.requires.same, c.if-self-eq0.true)) knows) knows call.2.0 call.2.1 call.2.2)

pub returns-else-self-eq0-clause-content : goal.returns-else-self-eq0-clause-content
returns-else-self-eq0-clause-content g c d tells =
    let call = c.write.ensures.content d tells in
    (call.0, call.1, λ knows. write_step c.args.self c.args.host _ c.args.text.now _ d call.0 c.args.self.other c.in-Created.is knows call.2.0 call.2.1 call.2.2)

pub returns-in-Written-clause-content : goal.returns-in-Written-clause-content
returns-in-Written-clause-content g c d tells =
    let call = c.sync-in-Written.ensures.content d tells in
    (call.0, call.1, λ knows. sync_step c.args.self c.args.host _ c.args.text.now _ d call.0 c.args.self.other (written_by_stage c.args.self c.args.host c.args.text.now d c.in-Written.is knows) knows call.2.0 call.2.1 call.2.2)

pub returns-in-Synced-clause-content : goal.returns-in-Synced-clause-content
returns-in-Synced-clause-content g c d tells =
    let call = c.rename.ensures.content d tells in
    (call.0, call.1, λ knows. rename_step c.args.self c.args.host _ c.args.text.now _ d call.0 c.in-Synced.is knows call.2.0 call.2.1 call.2.2)
