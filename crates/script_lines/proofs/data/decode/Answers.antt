use Rattle.std.proofs.Common.{length, take, arith, []}
use Rattle.std.specs.List.{slice_split}
use Rattle.std.proofs.lemmas.List.{length-take-le}
use Rattle.script_lines.specs.Data.{is_plus, parts_of}
use Rattle.script_lines.proofs.DataLemmas.{appended_first, more_laid, all_laid, not_laid}
use Rattle.script_lines.proofs.data.decode.Goals as goal

pub parts-init : goal.parts-init
parts-init c = record { within = omega arith; room = c.requires; laid = appended_first (parts_of (slice_split is_plus c.args.word.now)) }

pub returns-in_err-count-clause-decoded : goal.returns-in_err-count-clause-decoded
returns-in_err-count-clause-decoded c =
    let seen = c.parts.invariant in
    rw c.from_residual.ensures (
    not_laid c.args.word.now c.split_part.result.0.now (take c.parts.count c.parts.into) _ _ (length c.parts.into)
    c.parts.count seen.room (length-take-le c.parts.count c.parts.into (omega arith)) seen.laid c.split_part.ensures.parts
    c.in_err-count.ensures.refused)

pub parts-preserved : goal.parts-preserved
parts-preserved c =
    let seen = c.parts.invariant in
    let lays = c.in_ok-count.ensures.laid in
    let rest = rw c.in-Some.is at c.split_part.ensures.parts in
    record {
      within = omega (arith, lays.within);
      room = omega (arith, c.decode_part.auto.into);
      laid = more_laid _ _ c.split_part.result.0.now c.parts.into c.decode_part.new.into c.parts.count c.in_ok-count.count _
          seen.laid rest lays;
    }

pub returns-in-None-clause-decoded : goal.returns-in-None-clause-decoded
returns-in-None-clause-decoded c =
    let seen = c.parts.invariant in
    let lays = c.in_ok-count.ensures.laid in
    let rest = rw c.in-None.is at c.split_part.ensures.parts in
    all_laid c.args.word.now c.decode_part.new.into c.in_ok-count.count
    (more_laid _ _ c.split_part.result.0.now c.parts.into c.decode_part.new.into c.parts.count c.in_ok-count.count [] seen.laid rest lays)
    (omega (arith, lays.within))
