use Rattle.std.proofs.Common.{◌∙◌, ℕ, List, ap, length}
use Rattle.sd_names.specs.declared.id.Id.{Id}
use Rattle.chain_records.proofs.Finding.{counted_more, found_full, found_more, is_full, not_full}
use Rattle.chain_records.proofs.found.FoundVolumes.push.Goals as goal

pub returns-then-not-is_full : goal.returns-then-not-is_full
returns-then-not-is_full c = λ vs found.
    let ids = ap (λ (f : List Id × ℕ). f.0) c.self.view_is ∙ found.0 in
    let count = ap (λ (f : List Id × ℕ). f.1) c.self.view_is ∙ found.1 in (
      c.push.ensures.items ∙ found_more vs c.self.inside.ids.items c.args.id ids (not_full (length c.self.inside.ids.items) c.if-not-is_full.ensures.value),
      counted_more vs c.args.id c.self.inside.count c.saturating_add-self-inside.result 18446744073709551615 count c.saturating_add-self-inside.ensures,
    )

pub returns-else-not-is_full : goal.returns-else-not-is_full
returns-else-not-is_full c = λ vs found.
    let ids = ap (λ (f : List Id × ℕ). f.0) c.self.view_is ∙ found.0 in
    let count = ap (λ (f : List Id × ℕ). f.1) c.self.view_is ∙ found.1 in (
      found_full vs c.self.inside.ids.items c.args.id ids (is_full (length c.self.inside.ids.items) c.if-not-is_full.ensures.value),
      counted_more vs c.args.id c.self.inside.count c.saturating_add-self-inside.result 18446744073709551615 count c.saturating_add-self-inside.ensures,
    )
