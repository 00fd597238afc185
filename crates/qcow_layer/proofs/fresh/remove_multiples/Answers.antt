use Rattle.std.proofs.Common.{◌≡◌, ◌≢◌, ℕ, ◌*◌, ◌+◌, ◌&&◌, ◌∙◌, Bool, true, false, ap, sym, refl, eqb, eqb-true, eq-eqb}
use Rattle.std.specs.Prelude.{not}
use Rattle.std.proofs.lemmas.Bool.{false≢true}
use Rattle.layer_walk.specs.Bits.{has}
use Rattle.qcow_layer.proofs.Multiples.{gone, is_out, kept, next_out, others_out}
use Rattle.qcow_layer.proofs.fresh.remove_multiples.Goals as goal

pub loop-k-preserved : goal.loop-k-preserved
loop-k-preserved c = (λ n. go n (eqb n (c.args.of * c.loop-k.k)) refl, c.remove.ensures.room ∙ c.loop-k.invariant.1)
  where
    go : (n : ℕ) (b : Bool) → eqb n (c.args.of * c.loop-k.k) ≡ b → has c.remove.new.self n ≡ (has c.args.bits.now n && not (is_out c.args.of (c.loop-k.k + 1) n))
    go n true e =
        let at = eqb-true n (c.args.of * c.loop-k.k) e in
        gone (has c.args.bits.now n) c.args.of c.loop-k.k n (has c.remove.new.self n) (ap (has c.remove.new.self) at ∙ c.remove.ensures.here) (next_out c.args.of c.loop-k.k n c.requires.some at)
    go n false e =
        let apart : n ≢ c.args.of * c.loop-k.k = λ at. false≢true (sym e ∙ eq-eqb n (c.args.of * c.loop-k.k) at) in
        kept (has c.args.bits.now n) c.args.of c.loop-k.k n (has c.remove.new.self n) (c.remove.ensures.others n apart ∙ c.loop-k.invariant.0 n) (others_out c.args.of c.loop-k.k n c.requires.some apart)
