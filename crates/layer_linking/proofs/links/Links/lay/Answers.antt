use Rattle.std.proofs.Common.{◌*◌, ◌∙◌, sym, ap, ℕ, Some, None}
use Rattle.qcow_format.specs.Bytes.{bytes_of, put}
use Rattle.link_laws.proofs.Words.{laid_none}
use Rattle.layer_linking.specs.Links.{to_of}
use Rattle.layer_linking.proofs.Places.{laid_next}
use Rattle.layer_linking.proofs.links.Links.lay.Goals as goal
use Rattle.layer_linking.proofs.links.Links.lay.Goals.{in-Some, in_default}

pub loop-m-init : goal.loop-m-init
loop-m-init c = sym (laid_none (to_of c.args.self.now) (64 * c.args.self.now.group) c.args.sector)

pub loop-m-preserved : goal.loop-m-preserved
loop-m-preserved c = elim c.match-self-m.branch [
  | in-Some w ↦ w.sector-is ∙ w.put_word.ensures ∙ ap (λ (word : ℕ). put (c.loop-m.m * 8) (bytes_of 8 word) c.loop-m.sector) w.entry_bits.ensures
      ∙ laid_next c.args.self.now c.loop-m.m (Some w.in-Some.place) c.args.sector c.loop-m.sector c.loop-m-test.true w.in-Some.is c.loop-m.invariant
  | in_default w ↦ w.sector-is ∙ laid_next c.args.self.now c.loop-m.m None c.args.sector c.loop-m.sector c.loop-m-test.true w.in_default.is c.loop-m.invariant
]
