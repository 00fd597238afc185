-- What the end of a listing does on every disk.
use Rattle.std.proofs.Common.{◌≡◌, ℕ, List, Option, Some, None, refl, sym, ap, subst, ◌∙◌, inl, inr}
use Rattle.sd_names.specs.declared.id.Id.{Id}
use Rattle.sd_names.specs.declared.refusal.Refusal.{Refusal}
use Rattle.sd_names.specs.declared.turn.Turn.TheVariants.{More, Done, Ended}
use Rattle.shared_disk.specs.Refusal.{IsRisen}
use Rattle.shared_disk.specs.Step.{EndsOnlyBy, TurnFaults}
use Rattle.task_store.specs.declared.task.Task.{Task}
use Rattle.task_listing.specs.Listing.{Noted}
use Rattle.task_listing.specs.declared.listing.TaskListing.{TaskListing}
use Rattle.pool_recovering.specs.Recovering.{Advances, HasListed, IsListed, KeepsList, MayRefuse, RecoveryTurn}
use Rattle.pool_recovering.specs.declared.recovering.PoolRecovery.TheVariants.{Listing, Settling}

module _ (l : TaskListing) (master : Id) (ts : List Noted) (before : List Noted) (after : List Noted) where
  listed_advances : (o : Option Task) (turn : RecoveryTurn) → IsListed master ts o before turn after → Advances (Listing l) turn
  listed_advances None (More next) is = absurd is
  listed_advances None (Done n) is = tt
  listed_advances None (Ended u refusal) is = tt
  listed_advances (Some x) (More (Listing next)) is = absurd is.0
  listed_advances (Some x) (More (Settling t s)) is = ap (λ (y : Task). y.id) is.0.1.task_is ∙ sym is.0.0
  listed_advances (Some x) (Done n) is = tt
  listed_advances (Some x) (Ended u refusal) is = tt

  listed_keeps : (o : Option Task) (turn : RecoveryTurn) → IsListed master ts o before turn after → KeepsList (Listing l) before turn after
  listed_keeps None (More next) is = absurd is
  listed_keeps None (Done n) is = tt
  listed_keeps None (Ended u refusal) is = absurd is
  listed_keeps (Some x) (More (Listing next)) is = absurd is.0
  listed_keeps (Some x) (More (Settling t s)) is = tt
  listed_keeps (Some x) (Done n) is = tt
  listed_keeps (Some x) (Ended u refusal) is = is.1

  listed_refuses : (o : Option Task) (turn : RecoveryTurn) → IsListed master ts o before turn after → EndsOnlyBy (MayRefuse (Listing l)) turn
  listed_refuses None (More next) is = tt
  listed_refuses None (Done n) is = tt
  listed_refuses None (Ended u refusal) is = absurd is
  listed_refuses (Some x) (More next) is = tt
  listed_refuses (Some x) (Done n) is = tt
  listed_refuses (Some x) (Ended u refusal) is = inr (inr is.0.is)

  module _ (faults faults' : ℕ) (same : faults' ≡ faults) where
    listed_counts : (o : Option Task) (turn : RecoveryTurn) → IsListed master ts o before turn after → TurnFaults faults faults' turn
    listed_counts None (More next) is = same
    listed_counts None (Done n) is = same
    listed_counts None (Ended u refusal) is = absurd is
    listed_counts (Some x) (More next) is = same
    listed_counts (Some x) (Done n) is = same
    listed_counts (Some x) (Ended u refusal) is = subst (λ (r : Refusal). IsRisen faults faults' r) (sym is.0.is) same

    pub counts_behind : (o : Option Task) (turn : RecoveryTurn) → HasListed master ts o before turn after → TurnFaults faults faults' turn
    counts_behind o turn (inl is) = listed_counts o turn is
    counts_behind o turn (inr many) = subst (λ (z : RecoveryTurn). TurnFaults faults faults' z) (sym many.1) same

  pub advances_behind : (o : Option Task) (turn : RecoveryTurn) → HasListed master ts o before turn after → Advances (Listing l) turn
  advances_behind o turn (inl is) = listed_advances o turn is
  advances_behind o turn (inr many) = subst (λ (z : RecoveryTurn). Advances (Listing l) z) (sym many.1) tt

  pub keeps_behind : (o : Option Task) (turn : RecoveryTurn) → HasListed master ts o before turn after → KeepsList (Listing l) before turn after
  keeps_behind o turn (inl is) = listed_keeps o turn is
  keeps_behind o turn (inr many) = subst (λ (z : RecoveryTurn). KeepsList (Listing l) before z after) (sym many.1) many.2

  pub refuses_behind : (o : Option Task) (turn : RecoveryTurn) → HasListed master ts o before turn after → EndsOnlyBy (MayRefuse (Listing l)) turn
  refuses_behind o turn (inl is) = listed_refuses o turn is
  refuses_behind o turn (inr many) = subst (λ (z : RecoveryTurn). EndsOnlyBy (MayRefuse (Listing l)) z) (sym many.1) (inr (inl refl))
