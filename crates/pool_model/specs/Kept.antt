-- What a claim on a running verb takes from the moment of its begin.
use Rattle.std.specs.Prelude.{◌≡◌, ℕ}
use Rattle.std.specs.Option.{is_some}
use Rattle.sd_names.specs.declared.id.Id.{Id}
use Rattle.pool_model.specs.Pool.{Pool}
use Rattle.pool_model.specs.Rules.{text_of}
use Rattle.pool_model.specs.State.{Kept}

-- what a verb that a host begins in this pool keeps
pub record IsKept (h : ℕ) (p : Pool) (k : Kept) : Type 0 where
  pub named : k.named ≡ p.history.named
  pub foreign : (sd i : Id) → k.foreign sd i ≡ p.history.foreign sd i h
  pub texts : (sd : Id) → k.texts sd ≡ is_some (text_of p sd)

-- it keeps this in each step; what the bound on steps counts is taken anew where it takes its lease
pub record StillKept (k l : Kept) : Type 0 where
  pub named : l.named ≡ k.named
  pub foreign : l.foreign ≡ k.foreign
  pub texts : l.texts ≡ k.texts
