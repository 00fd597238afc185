-- What a change elsewhere leaves: the tasks of a pool, and its images one after the other.
use Rattle.std.proofs.Common.{◌≡◌, ◌≢◌, ◌⊎◌, ℕ, Option, Some, None, sym, subst, ◌∙◌, inl, inr}
use Rattle.sd_names.specs.declared.id.Id.{Id}
use Rattle.sd_names.specs.declared.place.Dir.TheVariants as dir
use Rattle.sd_names.specs.declared.place.Name.TheVariants as name
use Rattle.shared_disk.specs.Content.{Content}
use Rattle.shared_disk.specs.NameCalls.{place_in}
use Rattle.task_store.specs.declared.task.Task.{Task}
use Rattle.lease_area.specs.declared.sector.Sector.{Sector}
use Rattle.chain_model.proofs.Settled.{is_one}
use Rattle.pool_model.specs.Pool.{Pool}
use Rattle.pool_model.specs.Standing.{TaskAt, TasksStand}

-- ---- tasks

module _ (d e : Content) (same : (a t : Id) → e.file (place_in (dir.Tasks a) (name.Task t)) ≡ d.file (place_in (dir.Tasks a) (name.Task t))) where
  task_stays : (a t : Id) (o : Option Task) → TaskAt d a t o → TaskAt e a t o
  task_stays a t None x = same a t ∙ x
  task_stays a t (Some y) x = record {
    text = x.text;
    stored = record { file = x.stored.file; there = same a t ∙ x.stored.there; settled = x.stored.settled; stored = x.stored.stored };
    short = x.short;
    reads = x.reads;
  }

  -- whatever the sectors are
  pub tasks_stay : (p : Pool) (sectors : Id → ℕ → Sector) → TasksStand d p → TasksStand e (record p { sector = sectors })
  tasks_stay p sectors x = record {
    each = λ a t is. task_stays a t (p.task t) (x.each a t is);
    elsewhere = λ a t apart. same a t ∙ x.elsewhere a t apart;
    unmade = x.unmade;
    listed = x.listed;
    are = record { rising = x.are.rising; each = x.are.each; all = x.are.all };
    few = x.few;
    one = x.one;
    built = x.built;
    inside = x.inside;
  }

-- ---- images

-- an image is this one, or another
pub by_image : (sd i : Id) (P : Id → Id → Type 0) (a j : Id) → P sd i → (((a ≡ sd) → (j ≡ i) → ⊥) → P a j) → P a j
by_image sd i P a j here other = go (is_one a sd) (is_one j i)
  where
    go : (a ≡ sd) ⊎ (a ≢ sd) → (j ≡ i) ⊎ (j ≢ i) → P a j
    go (inr unlike) one = other (λ same _. unlike same)
    go (inl same) (inr unlike) = other (λ _ alike. unlike alike)
    go (inl same) (inl alike) = subst (λ (b : Id). P b j) (sym same) (subst (λ (b : Id). P sd b) (sym alike) here)
