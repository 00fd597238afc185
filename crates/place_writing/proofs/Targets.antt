-- A cluster that gets a place isn't written in place.
use Rattle.std.proofs.Common.{◌≡◌, ℕ, sym, ◌∙◌}
use Rattle.write_planning.specs.Plan.{target_at}
use Rattle.write_planning.specs.declared.plan.Target.TheVariants.{InPlace, Kept, New}
use Rattle.write_planning.specs.declared.plan.WritePlan.{WritePlan}

pub kept_apart : (p : WritePlan) (j kept : ℕ) → target_at p j ≡ Kept kept → (place : ℕ) → target_at p j ≡ InPlace place → ⊥
kept_apart p j kept is place other = let h : Kept kept ≡ InPlace place = sym is ∙ other in absurd cc

pub new_apart : (p : WritePlan) (j new : ℕ) → target_at p j ≡ New new → (place : ℕ) → target_at p j ≡ InPlace place → ⊥
new_apart p j new is place other = let h : New new ≡ InPlace place = sym is ∙ other in absurd cc
