use Rattle.std.proofs.Common.{◌≡◌, List, length, rules, not, ap, sym, ◌∙◌, arith}
use Rattle.std.proofs.lemmas.Fn.{filter_same}
use Rattle.shared_disk.specs.Content.{own_of}
use Rattle.memory_disk.specs.declared.entry.Write.{Write}
use Rattle.memory_disk.specs.Leaving.{is_leaving, key_of, left_of}
use Rattle.memory_disk.specs.Store.{loose_of}
use Rattle.memory_disk.proofs.log.forget.Goals as goal

pub returns-clause-items : goal.returns-clause-items
returns-clause-items c = filter_same _ (λ (w : Write). not (is_leaving c.args.leaving (key_of w))) _ (λ x b f' k. search rules) _ _ c.retain.ensures.filtered

pub returns-clause-at : goal.returns-clause-at
returns-clause-at c = λ h n k.
    let left : c.retain.new.self.items ≡ left_of c.args.leaving c.args.log.now.items = filter_same _ (λ (w : Write). not (is_leaving c.args.leaving (key_of w))) _ (λ x b f' k. search rules) _ _ c.retain.ensures.filtered in
    c.disown.ensures.at h n k ∙ ap (λ (ws : List Write). own_of h k (loose_of n (left_of c.args.leaving ws))) c.deref.ensures.value ∙ ap (λ (ws : List Write). own_of h k (loose_of n ws)) (sym left)

pub returns-clause-count : goal.returns-clause-count
returns-clause-count c =
    let left : c.retain.new.self.items ≡ left_of c.args.leaving c.args.log.now.items = filter_same _ (λ (w : Write). not (is_leaving c.args.leaving (key_of w))) _ (λ x b f' k. search rules) _ _ c.retain.ensures.filtered in
    let same : length c.retain.new.self.items ≡ length (left_of c.args.leaving c.deref.result.now) = ap length left ∙ ap (λ (ws : List Write). length (left_of c.args.leaving ws)) (sym c.deref.ensures.value) in
    omega (arith, c.disown.ensures.count, same, c.retain.new.self.ok.0)
