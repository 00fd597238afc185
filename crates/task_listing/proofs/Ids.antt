-- A task that a text gives has the identifier that was asked for.
use Rattle.std.proofs.Common.{◌≡◌, List, ℕ, Option, Some, None, refl, sym, ap, ◌∙◌}
use Rattle.std.specs.List.{slice_split}
use Rattle.sd_names.specs.declared.id.Id.{Id}
use Rattle.sd_names.specs.declared.task_state.TaskState.{TaskState}
use Rattle.task_store.specs.Parts.{is_byte}
use Rattle.task_store.specs.ReadTask.{body_in, first_number, first_state, task_from, task_in, task_of}
use Rattle.task_store.specs.declared.task.Task.{Task}
use Rattle.std.specs.Option.{option_map}

none_some : (x : Task) → ◌≡◌ {A = Option Task} None (Some x) → ⊥
none_some x e = cc

same_task : (x y : Task) → ◌≡◌ {A = Option Task} (Some x) (Some y) → x ≡ y
same_task x y e = cc

of_body : {B : Type 0} (t : Id) (f : B → Task) → ((b : B) → (f b).id ≡ t) → (o : Option B) (x : Task) → option_map f o ≡ Some x → x.id ≡ t
of_body t f from None x is = absurd (none_some x is)
of_body t f from (Some b) x is = ap (λ (y : Task). y.id) (sym (same_task (f b) x is)) ∙ from b

of_state : (t : Id) (o : Option (TaskState × List (List ℕ))) (x : Task) → task_in t o ≡ Some x → x.id ≡ t
of_state t None x is = absurd (none_some x is)
of_state t (Some (s, lines)) x is = of_body t (task_from t s) (λ b. refl) (body_in (first_number s) lines) x is

pub id_asked : (t : Id) (text : List ℕ) (x : Task) → task_of t text ≡ Some x → x.id ≡ t
unfolding task_of
id_asked t text x is = of_state t (first_state (slice_split (is_byte 10) text)) x is
