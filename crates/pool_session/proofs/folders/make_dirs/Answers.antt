use Rattle.std.proofs.Common.{◌≡◌, List, Err, sym, ◌∙◌, ap, subst, inr, refl, arith, rules}
use Rattle.sd_names.specs.declared.place.Dir.{Dir}
use Rattle.shared_disk.specs.Refusal.{IsRisen}
use Rattle.pool_session.specs.Folders.{HasSome, IsAmong, with_made}
use Rattle.pool_session.proofs.FaultLemmas.{fault_since}
use Rattle.pool_session.proofs.FolderLemmas.{among_rest, left_at, not_gone, some_one}
use Rattle.pool_session.proofs.ProgressLemmas.{Progress, Rooted, one_made, one_rooted, next_refused}
use Rattle.pool_session.proofs.folders.make_dirs.Goals as goal

pub loop-dir-preserved : goal.loop-dir-preserved
loop-dir-preserved g c =
    let known = c.loop-dir.invariant.0 in
    let left = left_at c.args.dirs.now c.loop-dir.dir-index (omega arith) in
    let orderly = rw left at c.loop-dir.invariant.1 in (
      _,
      orderly.3,
      sym (ap (with_made known) left) ∙ c.loop-dir.invariant.2,
      c.in_ok-make_dir.ensures.faults ∙ c.loop-dir.invariant.3,
      λ e some. c.loop-dir.invariant.4 e (subst (λ (dirs : List Dir). HasSome known dirs e) (sym left) (inr some)),
      λ d tells root.
          let before = c.loop-dir.invariant.5 d tells root in
          let after = c.in_ok-make_dir.ensures.content before.0 known before.1 before.2 orderly.1 orderly.2 in
          (after.0, after.1, after.2),
      λ d tells.
          let before = c.loop-dir.invariant.6 d tells in
          let after = c.in_ok-make_dir.ensures.made before.0 before.1 in (
            after.0,
            after.1,
            λ q absent. before.2 q (not_gone before.0 after.0 _ q (before.0.dir q) refl after.2 absent),
            λ rest q among. before.3 (λ p among_left. among_rest d before.0 after.0 _ _ p after.2 before.2 rest (subst (λ (dirs : List Dir). IsAmong dirs p) left among_left)) q among,
          ),
      λ d tells.
          let before = c.loop-dir.invariant.7 d tells in
          let after = c.in_ok-make_dir.ensures.made before.0 before.1 in
          let progress = subst (λ (dirs : List Dir). Progress c.args.dirs.now dirs d before.0) left before.2 in
          let rooted = subst (λ (dirs : List Dir). Rooted c.args.dirs.now known dirs d before.0) left before.3 in
          (after.0, after.1, one_made c.args.dirs.now _ _ d before.0 after.0 progress after.2, one_rooted c.args.dirs.now known _ _ d before.0 after.0 rooted orderly.2 c.requires.under after.2),
    )

pub returns-in_err-make_dir-clause-content : goal.returns-in_err-make_dir-clause-content
returns-in_err-make_dir-clause-content g c d tells root =
    let known = c.loop-dir.invariant.0 in
    let left = left_at c.args.dirs.now c.loop-dir.dir-index (omega arith) in
    let orderly = rw left at c.loop-dir.invariant.1 in
    let before = c.loop-dir.invariant.5 d tells root in
    let failed = c.in_err-make_dir.ensures.content before.0 known before.1 before.2 orderly.1 orderly.2 in
    let some = c.loop-dir.invariant.4 failed.0 (subst (λ (dirs : List Dir). HasSome known dirs failed.0) (sym left) (some_one known _ _ failed.0 failed.2.1)) in
    let is : c.from_residual.result ≡ Err c.in_err-make_dir.field-0.0 = search rules in (
      failed.0,
      failed.1,
      rw is (
        fault_since (g.D.SharedDisk.faults c.args.disk.now) (g.D.SharedDisk.faults c.loop-dir.disk) (g.D.SharedDisk.faults c.make_dir.new.disk) _ (omega (arith, c.loop-dir.invariant.3)) failed.2.0,
        some,
      ),
    )

pub returns-in_err-make_dir-clause-made : goal.returns-in_err-make_dir-clause-made
returns-in_err-make_dir-clause-made g c =
    let known = c.loop-dir.invariant.0 in
    let well = g.met.D.SharedDisk.well_formed in
    let left = left_at c.args.dirs.now c.loop-dir.dir-index (omega arith) in
    let orderly = rw left at c.loop-dir.invariant.1 in
    let is : c.from_residual.result ≡ Err c.in_err-make_dir.field-0.0 = search rules in
    rw is (λ d tells.
    let before = c.loop-dir.invariant.7 d tells in
    let after = c.in_err-make_dir.ensures.refused before.0 before.1 in
    let progress = subst (λ (dirs : List Dir). Progress c.args.dirs.now dirs d before.0) left before.2 in
    let rooted = subst (λ (dirs : List Dir). Rooted c.args.dirs.now known dirs d before.0) left before.3 in (
      after.0,
      after.1,
      next_refused c.args.dirs.now known _ _ d before.0 after.0 rooted orderly.2 c.in_err-make_dir.field-0.0 (well c.args.disk.now d tells) (well c.loop-dir.disk before.0 before.1) orderly.1 progress after.2,
    ))

pub returns-in_err-make_dir-clause-faults : goal.returns-in_err-make_dir-clause-faults
returns-in_err-make_dir-clause-faults g c =
    let is : c.from_residual.result ≡ Err c.in_err-make_dir.field-0.0 = search rules in
    rw is (subst (λ n. IsRisen n (g.D.SharedDisk.faults c.make_dir.new.disk) c.in_err-make_dir.field-0.0) c.loop-dir.invariant.3 c.in_err-make_dir.ensures.faults)
