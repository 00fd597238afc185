-- What a change of a settling leaves of the pool.
use Rattle.std.proofs.Common.{◌≡◌, ◌≢◌, ◌⊎◌, ℕ, Bool, Option, Some, None, refl, sym, ap, subst, ◌∙◌, inl, inr}
use Rattle.std.specs.Prelude.{if◌then◌else◌}
use Rattle.sd_names.specs.declared.id.Id.{Id}
use Rattle.sd_names.specs.declared.task_state.TaskState.{TaskState}
use Rattle.task_store.specs.declared.task.Task.{Task}
use Rattle.lease_area.specs.declared.sector.LeaseRecord.{LeaseRecord}
use Rattle.chain_model.proofs.Settled.{is_one}
use Rattle.pool_model.specs.Leases.{IsGuest, IsTasked, NamesAt}
use Rattle.pool_model.specs.Pool.{Image, Pool, put_task}
use Rattle.pool_model.specs.Tasks.{IsOpen, ended_task}
use Rattle.pool_model.proofs.Roles.{id_apart}
use Rattle.task_settling.specs.Steps.{IsSettlingChange}
use Rattle.task_settling.proofs.Emptying.{image_gone, image_same, role_sector, was_named, without_image}
use Rattle.pool_recovering.specs.Steps.{Leaves}

no_image : (o : Option Image) (m : Image) → o ≡ None → o ≡ Some m → ⊥
no_image o m e f = cc

pub left_same : (p : Pool) → Leaves p p
left_same p = record {
  master = refl;
  role = λ sd. refl;
  domains = λ sd. refl;
  strays = λ sd. refl;
  boxes = λ side sd g. refl;
  tasks = λ t. inl refl;
  guests = λ sd i g some guest. guest;
  tasked = λ sd i tasked. tasked;
  images = λ sd i m there. there;
}

module _ (p : Pool) (sd i : Id) (k : ℕ) (r : LeaseRecord) (names : NamesAt p sd i k r) where
  abbrev dropped : Pool
  dropped = without_image p sd i k

  was_guest : (a j : Id) (g : ℕ) → IsGuest dropped a j g → IsGuest p a j g
  was_guest a j g (n, (s, x, is, owner)) = (n, (s, was_named p sd i k r names a j n s x, is, owner))

  was_tasked : (a j : Id) → IsTasked dropped a j → IsTasked p a j
  was_tasked a j (n, (s, x, is)) = (n, (s, was_named p sd i k r names a j n s x, is))

  was_image : (a j : Id) (m : Image) → dropped.image a j ≡ Some m → p.image a j ≡ Some m
  was_image a j m there = go (is_one a sd) (is_one j i)
    where
      go : (a ≡ sd) ⊎ (a ≢ sd) → (j ≡ i) ⊎ (j ≢ i) → p.image a j ≡ Some m
      go (inr apart) one = sym (image_same p sd i k r names a j (λ same _. apart same)) ∙ there
      go (inl same) (inr apart) = sym (image_same p sd i k r names a j (λ _ alike. apart alike)) ∙ there
      go (inl same) (inl alike) = absurd (no_image (dropped.image sd i) m (image_gone p sd i k r names)
          (subst (λ (b : Id). dropped.image b i ≡ Some m) same (subst (λ (b : Id). dropped.image a b ≡ Some m) alike there)))

  left_dropped : Leaves p dropped
  left_dropped = record {
    master = refl;
    role = λ a. role_sector p sd i k r names a;
    domains = λ a. refl;
    strays = λ a. refl;
    boxes = λ side a g. refl;
    tasks = λ t. inl refl;
    guests = λ a j g some guest. was_guest a j g guest;
    tasked = was_tasked;
    images = was_image;
  }

module _ (p : Pool) (x : Task) (s : TaskState) (opened : IsOpen p x.id x) where
  abbrev settled : Pool
  settled = put_task p x.id (Some (ended_task s x))

  task_left : (t : Id) → (t ≡ x.id) ⊎ (t ≢ x.id) → (settled.task t ≡ p.task t) ⊎ ((y : Task) × IsOpen p t y)
  task_left t (inl same) = inr (x, subst (λ (u : Id). IsOpen p u x) (sym same) opened)
  task_left t (inr apart) = inl (ap (λ (b : Bool). if b then Some (ended_task s x) else p.task t) (id_apart t x.id apart))

  left_settled : Leaves p settled
  left_settled = record {
    master = refl;
    role = λ sd. refl;
    domains = λ sd. refl;
    strays = λ sd. refl;
    boxes = λ side sd g. refl;
    tasks = λ t. task_left t (is_one t x.id);
    guests = λ sd i g some guest. (guest.0, (guest.1.0, record { slot = guest.1.1.slot; lease = guest.1.1.lease; image = guest.1.1.image }, guest.1.2, guest.1.3));
    tasked = λ sd i tasked. (tasked.0, (tasked.1.0, record { slot = tasked.1.1.slot; lease = tasked.1.1.lease; image = tasked.1.1.image }, tasked.1.2));
    images = λ sd i m there. there;
  }

pub left_by : (x : Task) (p q : Pool) → IsOpen p x.id x → IsSettlingChange x p q → Leaves p q
left_by x p q opened (inl same) = subst (λ (o : Pool). Leaves p o) (sym same) (left_same p)
left_by x p q opened (inr (inl (sd, (i, (k, (r, names, same)))))) = subst (λ (o : Pool). Leaves p o) (sym same) (left_dropped p sd i k r names)
left_by x p q opened (inr (inr (s, same))) = subst (λ (o : Pool). Leaves p o) (sym same) (left_settled p x s opened)
