use Rattle.folder_layout.proofs.ListingLemmas.{seen_plain, seen_name}
use Rattle.folder_layout.proofs.listing.least_in_piece.Goals as goal
use Rattle.folder_layout.proofs.listing.least_in_piece.Goals.{then-piece-end-eq0, else-piece-end-eq0}

pub loop-end-preserved : goal.loop-end-preserved
loop-end-preserved g c =
    let seen = c.loop-end.invariant in
    elim c.if-piece-end-eq0.branch [
      | then-piece-end-eq0 w ↦
          let w0 = w.least_with-least.ensures in
          rw (w.least-is, w.start-is)
          (seen_name g.E.Entry.order (g.E.Entry.stands c.args.dir.now) c.args.after.now c.args.piece.now c.args.least c.loop-end.least c.loop-end.start c.loop-end.end seen
          w.least_with-least.result c.loop-end-test.true w.if-piece-end-eq0.true w0.kept w0.below w0.from)
      | else-piece-end-eq0 w ↦
          rw (w.least-is, w.start-is)
          (seen_plain g.E.Entry.order (g.E.Entry.stands c.args.dir.now) c.args.after.now c.args.piece.now c.args.least c.loop-end.least c.loop-end.start c.loop-end.end seen
          w.if-piece-end-eq0.false)
    ]
