use Rattle.std.proofs.Common.{sym, ap, ◌∙◌}
use Rattle.std.specs.Prelude.{option_copied}
use Rattle.std.proofs.lemmas.Bool.{false≢true}
use Rattle.chain_records.specs.Records.{records_in}
use Rattle.volume_chain.proofs.Checked.{expected_none, expected_up}
use Rattle.volume_chain.proofs.chain.Chain.is_expected.Goals as goal

pub returns-in-Some-up : goal.returns-in-Some-up
returns-in-Some-up c vs below =
    let is = sym c.get.ensures ∙ ap option_copied c.in-Some.is in
    let e =
    expected_up (records_in c.args.self.now.records) c.args.id.now vs c.args.named.now c.in-Some-up.up c.in-Some.record.now is (λ q. false≢true (sym c.if-is.false ∙ c.is.ensures.1 q))
    c.in-Some-up.ensures.some below in
    (λ t. e.0 (c.is-in-Some-up.ensures.0 t), λ w. c.is-in-Some-up.ensures.1 (e.1 w))

pub returns-in-None : goal.returns-in-None
returns-in-None c vs below =
    let is = sym c.get.ensures ∙ ap option_copied c.in-Some.is in
    let e =
    expected_none (records_in c.args.self.now.records) c.args.id.now vs c.args.named.now c.in-Some.record.now is (λ q. false≢true (sym c.if-is.false ∙ c.is.ensures.1 q)) c.in-None.ensures.none below in
    (λ t. e.0 (c.is_zero.ensures.0 t), λ w. c.is_zero.ensures.1 (e.1 w))
