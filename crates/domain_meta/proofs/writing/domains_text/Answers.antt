use Rattle.std.proofs.Common.{◌∙◌, sym, ap, arith, take}
use Rattle.std.proofs.lemmas.List.{take_more, take_all}
use Rattle.domain_meta.specs.Text.{domains_text}
use Rattle.domain_meta.proofs.OwnText.{domains_text-push}
use Rattle.domain_meta.proofs.writing.domains_text.Goals as goal

pub push_domain-requires : goal.push_domain-requires
push_domain-requires c = omega (arith, c.loop-id.invariant.short)

pub loop-id-preserved : goal.loop-id-preserved
loop-id-preserved c =
    let ids = c.args.ids.now in let i = c.loop-id.id-index in
    let pushed = c.push_domain.ensures.items in
    let written = rw c.loop-id.invariant.written at pushed in
    record {
      written = written ∙ sym (ap domains_text (take_more ids i _ c.loop-id-test.true) ∙ domains_text-push (take i ids) _);
      short = omega (arith, c.push_domain.ensures.left, c.loop-id.invariant.short);
    }

pub returns : goal.returns
returns c =
    let all = take_all c.loop-id.id-index c.args.ids.now c.loop-id-test.false in
    c.loop-id.invariant.written ∙ ap domains_text all
