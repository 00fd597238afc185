use Rattle.std.proofs.Common.{◌≡◌, ◌-◌, ◌∙◌, sym, refl, arith, length, take, drop, [], codes, true, false}
use Rattle.std.specs.Str.{bytes_eq}
use Rattle.std.proofs.lemmas.List.{drop_all, take_all, length-drop}
use Rattle.domain_meta.specs.Values.{domain_of}
use Rattle.domain_meta.proofs.Domains.{not_true, not_false}
use Rattle.domain_meta.proofs.listed.domain.Goals as goal
use Rattle.domain_meta.proofs.listed.domain.Goals.{After-ne}

pub returns-then-word-lt36 : goal.returns-then-word-lt36
unfolding domain_of
returns-then-word-lt36 c =
    let none : drop 36 c.args.word.now ≡ [] = drop_all 36 c.args.word.now (omega arith) in
    rw none refl

-- what stands behind the identifier is compared whole
whole : (c : After-ne) → take (length c.args.word.now - 36) (drop 36 c.args.word.now) ≡ drop 36 c.args.word.now
whole c =
    take_all (length c.args.word.now - 36) (drop 36 c.args.word.now) (omega (arith, length-drop 36 c.args.word.now))

pub returns-then-ne : goal.returns-then-ne
unfolding domain_of
returns-then-ne c =
    let e = rw (whole (goal.at.returns-then-ne c).After-ne) at c.ne.ensures in
    let other : bytes_eq (drop 36 c.args.word.now) (codes ":Active") ≡ false = not_true _ (sym e ∙ c.if-ne.true) in
    rw other refl

pub returns : goal.returns
unfolding domain_of
returns c =
    let e = rw (whole (goal.at.returns c).After-ne) at c.ne.ensures in
    let same : bytes_eq (drop 36 c.args.word.now) (codes ":Active") ≡ true = not_false _ (sym e ∙ c.if-ne.false) in
    rw same c.read.ensures.value
