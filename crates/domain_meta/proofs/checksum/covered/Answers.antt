use Rattle.std.proofs.Common.{◌≡◌, ◌<◌, ◌++◌, ◌∙◌, ℕ, List, true, false, ap, sym, arith, length, length-set, map, take, Bor}
use Rattle.std.proofs.lemmas.List.{take_more_set}
use Rattle.kv_text.specs.Text.{is_eof, lines}
use Rattle.domain_meta.specs.Checksum.{covered_of, is_covered}
use Rattle.domain_meta.proofs.Covered.{covered_first, other_first, more_found, covered_some, first_short, first_within}
use Rattle.domain_meta.proofs.checksum.covered.Goals as goal

pub loop-rest-preserved-then-is_covered : goal.loop-rest-preserved-then-is_covered
loop-rest-preserved-then-is_covered c =
    let rest = c.loop-rest.rest.now in let line = c.first_line.result.0 in let behind = c.first_line.result.1.now in
    let known = c.loop-rest.invariant in
    let e = rw c.as_slice.ensures at c.eq.ensures in
    let other : is_eof line.now ≡ false = sym e ∙ c.if-eq.false in
    let here : is_covered line.now ≡ true = sym c.is_covered.ensures ∙ c.if-is_covered.true in
    let step = covered_first rest line.now behind c.first_line.ensures.line c.first_line.ensures.rest other here in
    let some = covered_some line.now here in
    let full : 0 < length rest = omega (arith, some, first_within rest line.now c.first_line.ensures.line) in
    let room = known.room full in
    record {
      lines = ap (λ (ls : List (Bor (List ℕ))). map (λ l. l.now) ls ++ covered_of (lines behind)) (take_more_set c.loop-rest.found c.loop-rest.count line (omega (arith, room, full, c.requires.short, known.size)))
          ∙ more_found (take c.loop-rest.count c.loop-rest.found) line (covered_of (lines rest)) (covered_of (lines behind)) (covered_of (lines c.args.text.now)) known.lines step;
      room = λ more. omega (arith, first_short rest line.now behind c.first_line.ensures.line c.first_line.ensures.rest more, room, some);
      count = omega (arith, room, full, c.requires.short);
      size = length-set c.loop-rest.found c.loop-rest.count line ∙ known.size;
    }

pub loop-rest-preserved : goal.loop-rest-preserved
loop-rest-preserved c =
    let rest = c.loop-rest.rest.now in let line = c.first_line.result.0.now in let behind = c.first_line.result.1.now in
    let known = c.loop-rest.invariant in
    let e = rw c.as_slice.ensures at c.eq.ensures in
    let other : is_eof line ≡ false = sym e ∙ c.if-eq.false in
    let here : is_covered line ≡ false = sym c.is_covered.ensures ∙ c.if-is_covered.false in
    record {
      lines = ap (λ (ls : List (List ℕ)). map (λ l. l.now) (take c.loop-rest.count c.loop-rest.found) ++ ls) (sym (other_first rest line behind c.first_line.ensures.line c.first_line.ensures.rest other here)) ∙ known.lines;
      room = λ more.
          let short = first_short rest line behind c.first_line.ensures.line c.first_line.ensures.rest more in
          omega (arith, short, known.room (omega (arith, short)));
      count = known.count;
      size = known.size;
    }
