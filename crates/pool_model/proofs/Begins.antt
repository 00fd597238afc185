-- What a verb keeps of the moment of its begin is a function of the pool.
use Rattle.std.specs.Prelude.{ℕ, refl}
use Rattle.std.specs.Option.{is_some}
use Rattle.pool_model.specs.Laws.{BeginsKeep}
use Rattle.pool_model.specs.Pool.{Pool}
use Rattle.pool_model.specs.Rules.{text_of}
use Rattle.pool_model.specs.Sizes.{Sizes}
use Rattle.pool_model.specs.State.{Kept}

abbrev kept_in : ℕ → Pool → Sizes → Kept
kept_in h p s = record {
  named = p.history.named;
  foreign = λ sd i. p.history.foreign sd i h;
  texts = λ sd. is_some (text_of p sd);
  sizes = s;
}

pub keeps_what_there_is : BeginsKeep
keeps_what_there_is h p s = (kept_in h p s, record { named = refl; foreign = λ sd i. refl; texts = λ sd. refl }, refl)
