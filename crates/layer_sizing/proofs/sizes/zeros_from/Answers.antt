use Rattle.std.proofs.Common.{◌≡◌, ℕ, ◌-◌, ◌≤◌, List, [], ◌++◌, take, drop, length, replicate, ap, ◌∙◌, arith}
use Rattle.std.proofs.Math.ListN.{drop_of_length-le}
use Rattle.std.proofs.lemmas.List.{append-nil, length-drop}
use borrow.Rule.Slice.PartMut.{post_of, put_mid}
use Rattle.layer_sizing.specs.Stages.{zeros_from}
use Rattle.layer_sizing.proofs.Spans.{zeros_taken}
use Rattle.layer_sizing.proofs.sizes.zeros_from.Goals as goal

end_zeros : (from : ℕ) (xs ys : List ℕ) → from ≤ 512 → length xs ≡ 512 → ys ≡ replicate (512 - from) 0 → put_mid from (512 - from) xs ys ≡ zeros_from from xs
end_zeros from xs ys le long is = ap (λ zs. take from xs ++ zs) (ap (λ zs. ys ++ zs) none ∙ append-nil ys ∙ is)
  where
    none : post_of from (512 - from) xs ≡ []
    none = drop_of_length-le (drop from xs) (omega (arith, le, long, length-drop from xs))

pub returns : goal.returns
returns c =
    let after : c.copy_from_slice.new.self ≡ take (512 - c.args.from) (drop c.args.from (replicate {A = ℕ} 512 0)) = c.copy_from_slice.ensures.after in
    let long : length c.args.sector ≡ 512 = search in
    end_zeros c.args.from c.args.sector c.copy_from_slice.new.self c.requires long (after ∙ zeros_taken c.args.from)
