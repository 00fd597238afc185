-- The file of a task, as a host reads it on a disk that stands for a pool.
use Rattle.std.proofs.Common.{◌≡◌, ◌⊎◌, ℕ, ◌<◌, List, [], Option, Some, None, Err, length, refl, sym, ap, subst, ◌∙◌, inl, inr, arith}
use Rattle.sd_names.specs.declared.id.Id.{Id}
use Rattle.sd_names.specs.declared.refusal.Refusal.{Refusal}
use Rattle.sd_names.specs.declared.refusal.Refusal.TheVariants.{DiskFault, OutOfMemory, TaskCorrupt}
use Rattle.shared_disk.specs.Content.{Content, File, Loose, without}
use Rattle.task_store.specs.declared.task.Task.{Task}
use Rattle.task_store.specs.ReadTask.{task_of}
use Rattle.task_files.specs.Read.{Finds, SeesNone, SeesTask}
use Rattle.task_files.specs.TaskFile.{task_place}
use Rattle.whole_file.specs.Text.{longest, text_of}
use Rattle.chain_model.proofs.Texts.{text_seen}
use Rattle.pool_model.specs.Standing.{HasTask, TaskAt}

one_file : (o : Option File) (f g : File) → o ≡ Some f → o ≡ Some g → f ≡ g
one_file o f g e h = cc

none_file : (o : Option File) (f : File) → o ≡ None → o ≡ Some f → ⊥
none_file o f e h = cc

one_task : (o : Option Task) (a b : Task) → o ≡ Some a → o ≡ Some b → a ≡ b
one_task o a b e f = cc

no_task : (o : Option Task) (a : Task) → o ≡ None → o ≡ Some a → ⊥
no_task o a e f = cc

module _ (d : Content) (sd t : Id) (host : ℕ) where
  -- the file of a task that is there is the one that is read, and its text is the one that is seen
  seen_text : (y : Task) (at : HasTask d sd t y) (f : File) → d.file (task_place sd t) ≡ Some f → (without host f.loose ≡ []) × (text_of host f ≡ at.text)
  seen_text y at f is = subst (λ (g : File). (without host g.loose ≡ []) × (text_of host g ≡ at.text))
      (one_file (d.file (task_place sd t)) at.stored.file f at.stored.there is)
      (ap (λ (ls : List Loose). without host ls) at.stored.settled.loose, text_seen host at.stored.file at.stored.settled ∙ at.stored.stored)

  pub found_task : (x : Task) → (f : File) × (d.file (task_place sd t) ≡ Some f) × (without host f.loose ≡ [] → SeesTask host t f x)
      → (o : Option Task) → TaskAt d sd t o → o ≡ Some x
  found_task x (f, is, sees) None none = absurd (none_file (d.file (task_place sd t)) f none is)
  found_task x (f, is, sees) (Some y) at =
      let seen = seen_text y at f is in
      ap (λ (z : Task). Some z) (sym (one_task (task_of t at.text) x y (ap (λ (xs : List ℕ). task_of t xs) (sym seen.1) ∙ (sees seen.0).task) at.reads))

  pub no_file_no_task : (o : Option Task) → d.file (task_place sd t) ≡ None → TaskAt d sd t o → o ≡ None
  no_file_no_task None none at = refl
  no_file_no_task (Some y) none at = absurd (none_file (d.file (task_place sd t)) at.stored.file none at.stored.there)

  pub is_readable : (f : File) → d.file (task_place sd t) ≡ Some f → (without host f.loose ≡ [] → SeesNone host t f) → (o : Option Task) → TaskAt d sd t o → ⊥
  is_readable f is sees None none = none_file (d.file (task_place sd t)) f none is
  is_readable f is sees (Some y) at = let seen = seen_text y at f is in go seen.1 (sees seen.0)
    where
      go : text_of host f ≡ at.text → (longest < length (text_of host f)) ⊎ (task_of t (text_of host f) ≡ None) → ⊥
      go text (inl long) = omega (arith, long, ap (λ (xs : List ℕ). length xs) text, at.short)
      go text (inr none) = no_task (task_of t at.text) y (ap (λ (xs : List ℕ). task_of t xs) (sym text) ∙ none) at.reads

  -- what is refused: for want of memory and at a fault alone
  pub read_refused : (o : Option Task) (r : Refusal) (faults : ℕ) → TaskAt d sd t o → Finds (Err r) host (task_place sd t) t faults d
      → (r ≡ OutOfMemory) ⊎ (r ≡ DiskFault faults)
  read_refused o (TaskCorrupt u) faults at (f, is, sees) = absurd (is_readable f is sees o at)
  read_refused o OutOfMemory faults at finds = inl refl
  read_refused o r faults at finds = inr finds
