use Rattle.std.proofs.Common.{◌∙◌, ap, List, ℕ}
use Rattle.std.specs.List.{concat}
use Rattle.sha1.specs.Sha1.{sha1}
use Rattle.domain_meta.proofs.Sorting.{in_order-sorted}
use Rattle.domain_meta.proofs.checksum.digest_in_order.Goals as goal

pub returns : goal.returns
returns c =
    let sorted = in_order-sorted c.args.lines.now c.sort_unstable.new.self c.sort_unstable.ensures.permutation c.sort_unstable.ensures.sorted in
    c.digest_of.ensures ∙ ap (λ (ls : List (List ℕ)). sha1 (concat ls)) sorted
