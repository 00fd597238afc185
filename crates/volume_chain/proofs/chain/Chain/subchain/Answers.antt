use Rattle.std.proofs.Common.{◌≡◌, Option, Some, None, Result, Err}
use Rattle.sd_names.specs.declared.refusal.Refusal.{Refusal}
use Rattle.volume_chain.specs.declared.subchain.Subchain.{Subchain}
use Rattle.volume_chain.proofs.chain.Chain.subchain.Goals as goal

same_error : (o : Option Refusal) (a b : Refusal) → o ≡ Some a → o ≡ Some b → ◌≡◌ {A = Result Subchain Refusal} (Err a) (Err b)
same_error o a b e f = cc

no_error : (o : Option Refusal) (a : Refusal) → o ≡ Some a → o ≡ None → ⊥
no_error o a e f = cc

pub returns-in-Some : goal.returns-in-Some
returns-in-Some c = record {
  no_base = λ e. same_error c.subchain_refusal.result c.in-Some.refusal _ c.in-Some.is (c.subchain_refusal.ensures.no_base e);
  no_top = λ x a b. same_error c.subchain_refusal.result c.in-Some.refusal _ c.in-Some.is (c.subchain_refusal.ensures.no_top x a b);
  other = λ x y vs a b below up. same_error c.subchain_refusal.result c.in-Some.refusal _ c.in-Some.is (c.subchain_refusal.ensures.other x y vs a b below up);
  ringed = λ x y a b ring. same_error c.subchain_refusal.result c.in-Some.refusal _ c.in-Some.is (c.subchain_refusal.ensures.ringed x y a b ring);
  illegal = λ x a over no. same_error c.subchain_refusal.result c.in-Some.refusal _ c.in-Some.is (c.subchain_refusal.ensures.illegal x a over no);
  may = λ x a over yes. absurd (no_error c.subchain_refusal.result c.in-Some.refusal c.in-Some.is (c.subchain_refusal.ensures.none x a over yes));
}
