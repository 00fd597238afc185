-- What the names of a folder cost.
use Rattle.std.proofs.Common.{◌≡◌, ◌⊎◌, ℕ, ◌+◌, ◌≤◌, Bool, true, false, if◌then◌else◌, List, [], ◌∷◌, Option, Some, None, refl, sym, ap, subst, inl, inr, arith}
use Rattle.std.specs.List.{Contains, sum_by}
use Rattle.std.specs.Ordering.{is_lt}
use Rattle.std.specs.declared.cmp.Ordering.{Ordering}
use Rattle.std.specs.declared.cmp.Ordering.TheVariants.{Less, Equal, Greater}
use Rattle.std.proofs.lemmas.Bool.{false≢true}
use Rattle.std.proofs.lemmas.List.Sums.{sum_by-cons}
use Rattle.sd_names.specs.Place.{name_cmp}
use Rattle.sd_names.specs.declared.place.Name.{Name}
use Rattle.sd_names.specs.declared.turn.Turn.TheVariants.{More, Done, Ended}
use Rattle.shared_disk.specs.Content.{Content}
use Rattle.shared_disk.specs.NameCalls.{IsNameAbove}
use Rattle.shared_disk.proofs.Outcomes.{nothing_in, cons_cases}
use Rattle.chain_gathering.specs.Gathering.{Meets, folder}
use Rattle.chain_gathering.specs.Names.{IsCost, cost_by, is_above}
use Rattle.chain_gathering.specs.Stages.{GatheringTurn}
use Rattle.chain_gathering.specs.Steps.{IsPaid, IsRise, IsShown, MeetsAt}
use Rattle.chain_gathering.specs.declared.gathering.Gathering.{Gathering}
use Rattle.chain_gathering.specs.declared.stages.Stage.{Stage}
use Rattle.chain_gathering.specs.declared.stages.Stage.TheVariants.{Listing, Syncing, Reading}
use Rattle.chain_gathering.proofs.Orders.{passed_itself}
use Rattle.sd_names.proofs.PlaceLemmas.{name_cmp-total}

above_is : (before : Option Name) (n : Name) → IsNameAbove before n → is_above before n ≡ true
above_is None n above = refl
above_is (Some b) n above = ap is_lt above

is_less : (o : Ordering) → is_lt o ≡ true → o ≡ Less
is_less Less e = refl
is_less Equal e = absurd (false≢true e)
is_less Greater e = absurd (false≢true e)

above_on : (before : Option Name) (n m : Name) → IsNameAbove before n → is_above (Some n) m ≡ true → is_above before m ≡ true
above_on None n m above e = refl
above_on (Some b) n m above e = ap is_lt (name_cmp-total.trans b n m above (is_less (name_cmp n m) e))

module _ (priced : Name → ℕ) where
  -- the cost of one name of the list
  abbrev own_cost : Option Name → Name → ℕ
  own_cost before n = if is_above before n then priced n else 0

  own_less : (before : Option Name) (n m : Name) → IsNameAbove before n → own_cost (Some n) m ≤ own_cost before m
  own_less before n m above = go (is_above (Some n) m) refl
    where
      go : (t : Bool) → is_above (Some n) m ≡ t → (if t then priced m else 0) ≤ own_cost before m
      go true t = let on = above_on before n m above t in rw on (omega arith)
      go false t = omega arith

  cost_less : (ns : List Name) (before : Option Name) (n : Name) → IsNameAbove before n → cost_by priced ns (Some n) ≤ cost_by priced ns before
  cost_less [] before n above = omega arith
  cost_less (m ∷ ns) before n above = omega (arith, own_less before n m above, cost_less ns before n above)

  own_none : (n : Name) → own_cost (Some n) n ≡ 0
  own_none n = go (is_above (Some n) n) refl
    where
      go : (t : Bool) → is_above (Some n) n ≡ t → (if t then priced n else 0) ≡ 0
      go true t = absurd (passed_itself n (is_less (name_cmp n n) t))
      go false t = refl

  own_whole : (before : Option Name) (n : Name) → IsNameAbove before n → own_cost before n ≡ priced n
  own_whole before n above = let is = above_is before n above in rw is refl

  pub cost_by_shown : (ns : List Name) (before : Option Name) (n : Name) → Contains ns n → IsNameAbove before n → cost_by priced ns (Some n) + priced n ≤ cost_by priced ns before
  cost_by_shown [] before n h above = absurd (nothing_in n h)
  cost_by_shown (m ∷ ns) before n h above = go (cons_cases m n ns h) (λ c. cost_by_shown ns before n c above)
    where
      here : own_cost (Some n) n + cost_by priced ns (Some n) + priced n ≤ own_cost before n + cost_by priced ns before
      here = omega (arith, own_none n, own_whole before n above, cost_less ns before n above)

      go : (m ≡ n) ⊎ Contains ns n → (Contains ns n → cost_by priced ns (Some n) + priced n ≤ cost_by priced ns before) → own_cost (Some n) m + cost_by priced ns (Some n) + priced n ≤ own_cost before m + cost_by priced ns before
      go (inl e) more = subst (λ (k : Name). own_cost (Some n) k + cost_by priced ns (Some n) + priced n ≤ own_cost before k + cost_by priced ns before) (sym e) here
      go (inr c) more = omega (arith, own_less before n m above, more c)

  pub cost_by_all : (ns : List Name) → cost_by priced ns None ≡ sum_by priced ns
  cost_by_all [] = refl
  cost_by_all (n ∷ ns) = omega (arith, cost_by_all ns, sum_by-cons priced n ns)

-- ---- the name that a step lists is paid for

paid : (g : Gathering) (cost : Option Name → ℕ) (d : Content) (before after : Option Name) → IsCost (folder g) d cost → IsRise before after → IsShown (folder g) d before after → IsPaid cost before after
paid g cost d before None is rises shown = absurd rises
paid g cost d before (Some n) is rises shown = is before n shown rises.0

paid_at : (g : Gathering) (cost : Option Name → ℕ) (d : Content) (s t : Stage) → IsCost (folder g) d cost → MeetsAt IsRise s t → MeetsAt (IsShown (folder g) d) s t → MeetsAt (IsPaid cost) s t
paid_at g cost d (Listing seen) (Listing next) is rises shown = paid g cost d seen.after next.after is rises shown
paid_at g cost d (Listing seen) (Syncing next o) is rises shown = is seen.after _ shown rises.0
paid_at g cost d (Listing seen) Reading is rises shown = tt
paid_at g cost d (Syncing seen o) t is rises shown = tt
paid_at g cost d Reading t is rises shown = tt

pub meets_paid : (g : Gathering) (turn : GatheringTurn) (cost : Option Name → ℕ) (d : Content) → IsCost (folder g) d cost → Meets IsRise g turn → Meets (IsShown (folder g) d) g turn → Meets (IsPaid cost) g turn
meets_paid g (More next) cost d is rises shown = paid_at g cost d g.stage next.stage is rises shown
meets_paid g (Done kept) cost d is rises shown = tt
meets_paid g (Ended b refusal) cost d is rises shown = tt
