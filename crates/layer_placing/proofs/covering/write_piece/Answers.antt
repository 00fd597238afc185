use Rattle.std.proofs.Common.{ℕ, ◌≡◌, ◌+◌, ◌*◌, ◌/◌, ◌^◌, ◌<◌, ◌≤◌, ◌==◌, min, true, false, take, Ok, Err, sym, ap, ◌∙◌, subst, arith, eqb-true}
use Rattle.std.proofs.lemmas.Bool.{eqb-false}
use Rattle.sd_names.specs.declared.place.Place.{Place}
use Rattle.sd_names.specs.declared.turn.Turn.TheVariants.{Ended}
use Rattle.shared_disk.specs.Calls.{WriteAt}
use Rattle.layer_placing.specs.Knows.{StepsIn}
use Rattle.layer_placing.specs.Stages.{block_place_of}
use Rattle.layer_placing.specs.declared.stage.Stage.TheVariants.{Zeroing}
use Rattle.layer_placing.proofs.Zeros.{last_piece, more_pieces, piece_at, piece_fails, writes_last, writes_more}
use Rattle.layer_placing.proofs.covering.write_piece.Goals as goal

first_is : (piece : ℕ) → (piece == 0) ≡ true → piece ≡ 0
first_is piece e = eqb-true piece 0 e

later_is : (piece : ℕ) → (piece == 0) ≡ false → 0 < piece
later_is piece e = let some = eqb-false piece 0 e in omega (arith, some)

pub returns-in-Err-clause-content : goal.returns-in-Err-clause-content
returns-in-Err-clause-content g c d tells =
    let call = c.in-Err.ensures.call d tells in (
      call.0,
      call.1,
      λ f there known.
          let size : c.min-size.result ≡ min (2 ^ c.args.layer.now.work.header.cluster_bits) 65536 = c.min-size.ensures ∙ ap (λ n. min n 65536) c.cluster_width-cluster.ensures.value in
          subst (λ r. StepsIn c.args.layer.now c.args.layer.now c.args.host (g.D.SharedDisk.faults c.write_at.new.self) (Zeroing c.args.work c.args.table c.args.piece) (Ended tt r) f d call.0) (sym c.refusal_for.ensures)
          (piece_fails c.args.layer.now c.args.host (g.D.SharedDisk.faults c.write_at.new.self) c.args.piece (c.saturating_add-at.result / 512 * 512 / 512) c.min-size.result c.args.work c.args.table c.mark_own.new.room (c.args.piece == 0) f d call.0 there known
          ((g.met.D.SharedDisk.well_formed c.args.disk.now d tells).files c.args.layer.now.target.place f there) c.mark_own.ensures (first_is c.args.piece) (later_is c.args.piece) (omega arith) size
          (piece_at c.args.layer.now c.args.host c.args.piece c.min-size.result c.block_place.result c.saturating_mul.result c.saturating_add-at.result c.args.work c.args.table f known size (c.block_place.ensures ∙ ap (block_place_of c.args.layer.now) c.current.ensures) c.saturating_mul.ensures c.saturating_add-at.ensures)
          c.in-Err.answer
          (subst (λ (p : Place). WriteAt d c.args.host p (c.saturating_add-at.result / 512 * 512 / 512) (take c.min-size.result c.mark_own.new.room) (Err c.in-Err.answer) call.0) c.place.ensures call.2)),
    )

pub returns-then-piece-div_ceil-clause-content : goal.returns-then-piece-div_ceil-clause-content
returns-then-piece-div_ceil-clause-content g c d tells =
    let call = c.in-Ok.ensures.call d tells in (
      call.0,
      call.1,
      λ f there known.
          let size : c.min-size.result ≡ min (2 ^ c.args.layer.now.work.header.cluster_bits) 65536 = c.min-size.ensures ∙ ap (λ n. min n 65536) c.cluster_width-cluster.ensures.value in
          writes_more c.args.layer.now c.args.host (g.D.SharedDisk.faults c.write_at.new.self) c.args.piece (c.saturating_add-at.result / 512 * 512 / 512) c.min-size.result c.args.work c.args.table c.mark_own.new.room (c.args.piece == 0) f d call.0 there known
          ((g.met.D.SharedDisk.well_formed c.args.disk.now d tells).files c.args.layer.now.target.place f there) c.mark_own.ensures (first_is c.args.piece) (later_is c.args.piece) (omega arith) size
          (piece_at c.args.layer.now c.args.host c.args.piece c.min-size.result c.block_place.result c.saturating_mul.result c.saturating_add-at.result c.args.work c.args.table f known size (c.block_place.ensures ∙ ap (block_place_of c.args.layer.now) c.current.ensures) c.saturating_mul.ensures c.saturating_add-at.ensures)
          (subst (λ (p : Place). WriteAt d c.args.host p (c.saturating_add-at.result / 512 * 512 / 512) (take c.min-size.result c.mark_own.new.room) (Ok tt) call.0) c.place.ensures call.2)
          (subst (λ n. (c.args.piece + 1) * c.min-size.result < n) c.cluster_width-cluster.ensures.value (more_pieces c.cluster_width-cluster.result c.min-size.result c.args.piece c.div_ceil.result c.min-size.ensures c.div_ceil.ensures c.if-piece-div_ceil.true)),
    )

pub returns-else-piece-div_ceil-clause-content : goal.returns-else-piece-div_ceil-clause-content
returns-else-piece-div_ceil-clause-content g c d tells =
    let call = c.in-Ok.ensures.call d tells in (
      call.0,
      call.1,
      λ f there known.
          let size : c.min-size.result ≡ min (2 ^ c.args.layer.now.work.header.cluster_bits) 65536 = c.min-size.ensures ∙ ap (λ n. min n 65536) c.cluster_width-cluster.ensures.value in
          writes_last c.args.layer.now c.args.host (g.D.SharedDisk.faults c.write_at.new.self) c.args.piece (c.saturating_add-at.result / 512 * 512 / 512) c.min-size.result c.args.work c.args.table c.mark_own.new.room (c.args.piece == 0) f d call.0 there known
          ((g.met.D.SharedDisk.well_formed c.args.disk.now d tells).files c.args.layer.now.target.place f there) c.mark_own.ensures (first_is c.args.piece) (later_is c.args.piece) (omega arith) size
          (piece_at c.args.layer.now c.args.host c.args.piece c.min-size.result c.block_place.result c.saturating_mul.result c.saturating_add-at.result c.args.work c.args.table f known size (c.block_place.ensures ∙ ap (block_place_of c.args.layer.now) c.current.ensures) c.saturating_mul.ensures c.saturating_add-at.ensures)
          (subst (λ (p : Place). WriteAt d c.args.host p (c.saturating_add-at.result / 512 * 512 / 512) (take c.min-size.result c.mark_own.new.room) (Ok tt) call.0) c.place.ensures call.2)
          (subst (λ n. n ≤ (c.args.piece + 1) * c.min-size.result) c.cluster_width-cluster.ensures.value (last_piece c.cluster_width-cluster.result c.min-size.result c.args.piece c.div_ceil.result c.min-size.ensures c.div_ceil.ensures c.if-piece-div_ceil.false)),
    )
