-- The empty disk stands for the pool that isn't made.
use Rattle.std.proofs.Common.{◌≡◌, [], Option, Some, None, refl, sym, ◌∙◌, inl, inr, arith}
use Rattle.std.specs.List.Sorted.{IsStrictlySortedBy}
use Rattle.std.proofs.lemmas.Bool.{false≢true}
use Rattle.sd_names.specs.UpSet.{Hosts}
use Rattle.sd_names.specs.declared.id.Id.{Id}
use Rattle.sd_names.specs.declared.place.Dir.TheVariants as dir
use Rattle.sd_names.specs.declared.place.Name.TheVariants as name
use Rattle.sd_names.specs.declared.task_state.TaskState.{TaskState}
use Rattle.shared_disk.specs.Content.{Content, IsEmpty}
use Rattle.shared_disk.specs.NameCalls.{place_in}
use Rattle.shared_disk.proofs.Outcomes.{nothing_in}
use Rattle.chain_model.specs.Opening.{id_cmp}
use Rattle.pool_model.specs.Pool.{History, no_pool}
use Rattle.pool_model.specs.Standing.{IsBare, ShowsImage, Stands, TasksStand, metadata_of}

pub none_not_some : {A : Type 0} (o : Option A) (a : A) → o ≡ None → o ≡ Some a → ⊥
none_not_some o a e f = cc

shows_none : (d : Content) (sd : Id) → IsEmpty d → ShowsImage d sd → ⊥
shows_none d sd empty (i, inl there) = false≢true (sym (empty.dirs (dir.Image sd i) (λ e. cc)) ∙ there)
shows_none d sd empty (i, inr there) = false≢true (sym (empty.dirs (dir.Removed sd i) (λ e. cc)) ∙ there)

bare : (d : Content) (history : History) (sd : Id) → IsEmpty d → IsBare d (no_pool history) sd
bare d history sd empty = record {
  sector = λ k. refl;
  box = λ side h. refl;
  image = λ i. refl;
  shown = λ e. absurd (false≢true e);
  hidden = λ e shows. shows_none d sd empty shows;
}

pub none_rises : IsStrictlySortedBy (λ (a b : Id × TaskState). id_cmp a.0 b.0) []
unfolding IsStrictlySortedBy
none_rises = tt

no_tasks : (d : Content) (history : History) → IsEmpty d → TasksStand d (no_pool history)
no_tasks d history empty = record {
  each = λ m t e. absurd (none_not_some (no_pool history).master m refl e);
  elsewhere = λ sd t e. empty.files (place_in (dir.Tasks sd) (name.Task t));
  unmade = λ e t. refl;
  listed = [];
  are = record {
    rising = none_rises;
    each = λ t s among. absurd (nothing_in (t, s) among);
    all = λ t x e. absurd (none_not_some ((no_pool history).task t) x refl e);
  };
  few = omega arith;
  one = λ t u x y opened other. absurd (none_not_some ((no_pool history).task t) x refl opened.0);
  built = λ t x opened. absurd (none_not_some ((no_pool history).task t) x refl opened.0);
  inside = λ sd i making. absurd (none_not_some ((no_pool history).task making.0) making.1.0 refl making.1.1.0);
}

pub empty_stands : (up : Hosts) (d : Content) (history : History) → IsEmpty d → Stands up d (no_pool history)
empty_stands up d history empty = record {
  master = record { domain = λ sd. refl; stray = λ sd. refl };
  domain = λ sd. record { text = empty.files (metadata_of sd); bare = bare d history sd empty };
  tasks = no_tasks d history empty;
  image = λ sd r e. absurd (none_not_some ((no_pool history).domain sd) r refl e);
  unasked = λ sd r e. absurd (none_not_some ((no_pool history).domain sd) r refl e);
  alive = λ q f there. absurd (none_not_some (d.file q) f (empty.files q) there);
  layout = λ q f there. absurd (none_not_some (d.file q) f (empty.files q) there);
}
