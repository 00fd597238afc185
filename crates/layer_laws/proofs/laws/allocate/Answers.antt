use Rattle.std.proofs.Common.{ℕ, ◌/◌, ◌^◌, ◌<◌, sym, ◌∙◌, subst, arith}
use Rattle.image_model.specs.File.{file_of}
use Rattle.image_model.specs.Layer.{count_of, entries}
use Rattle.layer_laws.specs.Laws.{IsNamedOnlyAt, IsUnnamed, entry_position, layer}
use Rattle.layer_laws.proofs.Enters.{entered}
use Rattle.layer_laws.proofs.Frames.{frame}
use Rattle.layer_laws.proofs.Recounts.{recounted}
use Rattle.layer_laws.proofs.Sound.{clean_of}
use Rattle.layer_laws.proofs.laws.allocate.Goals as goal

pub returns : goal.returns
returns c n capacity k table place s a b d h are areA areB is sound low l1 inside begins fits none there half positive outside word new =
    let x : ℕ = place / 2 ^ h.cluster_bits in
    let free : IsUnnamed (layer h (file_of n s)) capacity place = λ m e. let some = (clean_of (file_of n s) capacity h is sound m).counted place e in omega (arith, some, none) in
    let first = recounted n capacity x s a h are is sound there half (λ m p e at. positive) in
    let freeA : IsUnnamed (layer h (file_of n a)) capacity place = λ m e. free m (sym (first.same.named m) ∙ e) in
    let second = frame n capacity place a b h areA first.same.header first.same.sound begins outside freeA in
    let freeB : IsNamedOnlyAt (layer h (file_of n b)) capacity (entry_position (layer h (file_of n b)) k) place = λ m e. absurd (freeA m (sym (second.same.named m) ∙ e)) in
    let i : ℕ = k / entries (layer h (file_of n s)) in
    let counted : 0 < count_of (layer h (file_of n b)) x = subst (λ y. 0 < y) (sym (second.counts x ∙ first.count_now)) positive in
    let third = entered n capacity k table place b d h areB second.same.header second.same.sound low (second.same.tables i low ∙ first.same.tables i low ∙ l1) inside word new begins fits counted freeB in
    (first.same.sound, second.same.sound, third.sound, third.entry, λ j ne. third.bytes_kept j ne ∙ second.bytes j ∙ first.bytes j)
