use Rattle.std.proofs.Common.{sym, ◌∙◌}
use Rattle.std.proofs.lemmas.Bool.{false≢true}
use Rattle.memory_disk.proofs.Listed.{dir_more, dir_same}
use Rattle.memory_disk.proofs.listing.with_dir.Goals as goal
use Rattle.memory_disk.proofs.listing.with_dir.Goals.{else-not-is-via-then-not-is+then-is+else-is_dir_above, else-not-is-via-then-not-is+else-is, else-not-is-via-else-not-is}

pub returns-then-is_dir_above : goal.returns-then-is_dir_above
returns-then-is_dir_above c = λ front was.
    dir_more front c.args.made c.args.dir c.args.after c.args.least c.lesser_dir.result (λ e. false≢true (sym c.if-not-is.true ∙ c.is.ensures.1 e)) (sym c.parent.ensures ∙ c.is-then-not-is.ensures.0 c.if-is.true)
    (c.is_dir_above.ensures.0 c.if-is_dir_above.true) c.lesser_dir.ensures was

pub returns-else-not-is : goal.returns-else-not-is
returns-else-not-is c = λ front was.
    dir_same front c.args.made c.args.dir c.args.after c.args.least (λ other at above. elim c.else-not-is.branch [
      | else-not-is-via-then-not-is+then-is+else-is_dir_above w ↦ false≢true (w.if-is_dir_above.ensures.1 above)
      | else-not-is-via-then-not-is+else-is w ↦ false≢true (w.if-is.ensures.1 (w.parent.ensures ∙ at))
      | else-not-is-via-else-not-is w ↦ other (c.is.ensures.0 w.if-not-is.false)
    ]) was
