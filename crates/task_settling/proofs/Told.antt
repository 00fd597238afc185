-- Two things that are told of one call are told of one content.
use Rattle.std.proofs.Common.{◌≡◌, Option, Some, subst}
use Rattle.shared_disk.specs.Calls.{Told}
use Rattle.shared_disk.specs.Content.{Content}

one_content : (o : Option Content) (a b : Content) → o ≡ Some a → o ≡ Some b → a ≡ b
one_content o a b e f = cc

pub both_told : (before after : Option Content) (R S : Content → Content → Type 0) → Told before after R → Told before after S → Told before after (λ d e. R d e × S d e)
both_told before after R S first second d tells =
    let one = first d tells in
    let two = second d tells in
    (one.0, one.1, (one.2, subst (λ (e : Content). S d e) (one_content after two.0 one.0 two.1 one.1) two.2))
