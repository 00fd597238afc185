-- A chain of which a layer was changed fits as it did.
use Rattle.std.proofs.Common.{◌≡◌, ◌<◌, ◌^◌, ℕ, List, length, sym, ap, ◌∙◌, subst}
use Rattle.layer_heading.specs.declared.rebasing.Rebasing.{Rebasing}
use Rattle.chain_records.specs.Records.{records_in}
use Rattle.chain_records.specs.declared.volume.Volume.{Volume}
use Rattle.volume_chain.specs.Chain.{records_kept}
use Rattle.volume_chain.specs.declared.chain.Chain.{Chain}
use Rattle.chain_settling.specs.Fit.{AreValid, IsFit, IsSameChain}
use Rattle.chain_settling.specs.declared.stages.Stage.TheVariants.{Headers, Heading}

valid_same : (c next : Chain) → records_kept next ≡ records_kept c → AreValid c → AreValid next
valid_same c next same valid v x e = valid v x (ap (λ (xs : List Volume). records_in xs v) (sym same) ∙ e)

pub heading_fits : (c next : Chain) (at : ℕ) (r more : Rebasing) → IsSameChain c next → records_kept next ≡ records_kept c → IsFit (Heading c at r) → IsFit (Heading next at more)
heading_fits c next at r more is same fit = record {
  valid = valid_same c next same fit.valid;
  few = subst (λ (n : ℕ). n < 2 ^ 64) (sym is.opened) fit.few;
  short = subst (λ (xs : List Volume). length xs < 2 ^ 64) (sym same) fit.short;
  inside = subst (λ (n : ℕ). at < n) (sym is.opened) fit.inside;
}

pub headers_fits : (c next : Chain) (at n : ℕ) (r : Rebasing) → IsSameChain c next → records_kept next ≡ records_kept c → IsFit (Heading c at r) → IsFit (Headers next n)
headers_fits c next at n r is same fit = record {
  valid = valid_same c next same fit.valid;
  few = subst (λ (n : ℕ). n < 2 ^ 64) (sym is.opened) fit.few;
  short = subst (λ (xs : List Volume). length xs < 2 ^ 64) (sym same) fit.short;
  inside = tt;
}
