-- The verbs of a script as a host keeps them while they run: the words of `sd_names`, with their texts as lists of bytes.
use Rattle.std.specs.Prelude.{ℕ, List}
use Rattle.sd_names.specs.declared.id.Id.{Id}
use Rattle.sd_names.specs.declared.kinds.AllocKind.{AllocKind}
use Rattle.sd_names.specs.declared.kinds.Format.{Format}
use Rattle.sd_names.specs.declared.verb.Verb.{Verb as Said}
use Rattle.sd_names.specs.declared.verb.Verb.TheVariants as said

-- a description is empty for `-`; lengths and capacities are in bytes
pub data Verb : Type 0 where
  make_pool : (pool sd : Id) (version : ℕ) (text : List ℕ) → Verb
  spm_start : (sd : Id) (prev lver : ℕ) → Verb
  spm_stop : Verb
  add_domain : (task sd : Id) (version : ℕ) (text : List ℕ) → Verb
  create : (task sd image v : Id) (format : Format) (kind : AllocKind) (capacity : ℕ) (text : List ℕ) → Verb
  snapshot : (task sd image v w : Id) (capacity : ℕ) (text : List ℕ) → Verb
  delete_volume : (task sd image v : Id) → Verb
  delete_image : (task sd image : Id) → Verb
  copy : (task sd image v to_sd to_image w : Id) (format : Format) (kind : AllocKind) → Verb
  extend : (task sd image v : Id) (capacity : ℕ) → Verb
  describe : (task sd image v : Id) (text : List ℕ) → Verb
  open_image : (sd image : Id) → Verb
  close_image : (sd image : Id) → Verb
  read : (sd image : Id) (at count : ℕ) → Verb
  write : (sd image : Id) (at : ℕ) (bytes : List ℕ) → Verb
  prepare_merge : (sd image v w : Id) → Verb
  merge : (sd image v w : Id) (generation : ℕ) → Verb
  finalize_merge : (sd image v w : Id) → Verb
  live_start : (sd image v w : Id) → Verb
  live_fill : (sd image : Id) (count : ℕ) → Verb
  live_sync : (sd image : Id) → Verb
  live_pivot : (sd image : Id) → Verb
  box_post : (sd image v : Id) (count mark : ℕ) → Verb
  box_serve : (sd : Id) (of : ℕ) → Verb
  box_collect : (sd : Id) → Verb
  tasks : Verb
  clear_task : (task : Id) → Verb
  recover : Verb

-- the verb that a line says
abbrev pub verb_said : Said → Verb
verb_said (said.MakePool pool sd version text) = make_pool pool sd version text.now
verb_said (said.SpmStart sd prev lver) = spm_start sd prev lver
verb_said said.SpmStop = spm_stop
verb_said (said.AddDomain task sd version text) = add_domain task sd version text.now
verb_said (said.Create task sd image v format kind capacity text) = create task sd image v format kind capacity text.now
verb_said (said.Snapshot task sd image v w capacity text) = snapshot task sd image v w capacity text.now
verb_said (said.DeleteVolume task sd image v) = delete_volume task sd image v
verb_said (said.DeleteImage task sd image) = delete_image task sd image
verb_said (said.Copy task sd image v to_sd to_image w format kind) = copy task sd image v to_sd to_image w format kind
verb_said (said.Extend task sd image v capacity) = extend task sd image v capacity
verb_said (said.Describe task sd image v text) = describe task sd image v text.now
verb_said (said.Open sd image) = open_image sd image
verb_said (said.Close sd image) = close_image sd image
verb_said (said.Read sd image at count) = read sd image at count
verb_said (said.Write sd image at bytes) = write sd image at bytes.now
verb_said (said.PrepareMerge sd image v w) = prepare_merge sd image v w
verb_said (said.Merge sd image v w generation) = merge sd image v w generation
verb_said (said.FinalizeMerge sd image v w) = finalize_merge sd image v w
verb_said (said.LiveStart sd image v w) = live_start sd image v w
verb_said (said.LiveFill sd image count) = live_fill sd image count
verb_said (said.LiveSync sd image) = live_sync sd image
verb_said (said.LivePivot sd image) = live_pivot sd image
verb_said (said.BoxPost sd image v count mark) = box_post sd image v count mark
verb_said (said.BoxServe sd of) = box_serve sd of
verb_said (said.BoxCollect sd) = box_collect sd
verb_said said.Tasks = tasks
verb_said (said.ClearTask task) = clear_task task
verb_said said.Recover = recover

-- The verbs that the machine has. Each of the others is unknown to a script, and the machine makes no move for it.
abbrev pub IsBuilt : Verb → Type 0
IsBuilt (make_pool pool sd version text) = Unit {0}
IsBuilt (spm_start sd prev lver) = Unit {0}
IsBuilt spm_stop = Unit {0}
IsBuilt (create task sd image v format kind capacity text) = Unit {0}
IsBuilt (delete_image task sd image) = Unit {0}
IsBuilt (open_image sd image) = Unit {0}
IsBuilt (close_image sd image) = Unit {0}
IsBuilt (read sd image at count) = Unit {0}
IsBuilt (write sd image at bytes) = Unit {0}
IsBuilt tasks = Unit {0}
IsBuilt (clear_task task) = Unit {0}
IsBuilt recover = Unit {0}
IsBuilt (add_domain task sd version text) = ⊥
IsBuilt (snapshot task sd image v w capacity text) = ⊥
IsBuilt (delete_volume task sd image v) = ⊥
IsBuilt (copy task sd image v to_sd to_image w format kind) = ⊥
IsBuilt (extend task sd image v capacity) = ⊥
IsBuilt (describe task sd image v text) = ⊥
IsBuilt (prepare_merge sd image v w) = ⊥
IsBuilt (merge sd image v w generation) = ⊥
IsBuilt (finalize_merge sd image v w) = ⊥
IsBuilt (live_start sd image v w) = ⊥
IsBuilt (live_fill sd image count) = ⊥
IsBuilt (live_sync sd image) = ⊥
IsBuilt (live_pivot sd image) = ⊥
IsBuilt (box_post sd image v count mark) = ⊥
IsBuilt (box_serve sd of) = ⊥
IsBuilt (box_collect sd) = ⊥

-- The verbs that may find no memory. The others take none, neither at their begin nor in a step.
abbrev pub TakesMemory : Verb → Type 0
TakesMemory (make_pool pool sd version text) = Unit {0}
TakesMemory (spm_start sd prev lver) = Unit {0}
TakesMemory (create task sd image v format kind capacity text) = Unit {0}
TakesMemory (delete_image task sd image) = Unit {0}
TakesMemory (open_image sd image) = Unit {0}
TakesMemory tasks = Unit {0}
TakesMemory recover = Unit {0}
TakesMemory _ = ⊥
