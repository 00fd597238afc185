-- The marks of each verb, in their order: what it decides and what it changes. A mark has the values that it speaks of.
-- Claim: a verb makes its marks in this order, each at one moment, and none but these.
use Rattle.std.specs.Prelude.{◌≡◌, ℕ, false, List, [], ◌∷◌, codes}
use Rattle.sd_names.specs.Id.{zero_id}
use Rattle.sd_names.specs.declared.id.Id.{Id}
use Rattle.sd_names.specs.declared.kinds.AllocKind.{AllocKind}
use Rattle.sd_names.specs.declared.kinds.Format.{Format}
use Rattle.sd_names.specs.declared.kinds.Legality.TheVariants.{Legal}
use Rattle.sd_names.specs.declared.kinds.Role.TheVariants.{Master}
use Rattle.sd_names.specs.declared.kinds.VolType.TheVariants.{Leaf}
use Rattle.sd_names.specs.declared.verb.VerbName.TheVariants as word
use Rattle.volume_meta.specs.declared.record.VolumeRecord.{VolumeRecord}
use Rattle.domain_meta.specs.declared.record.DomainRecord.{DomainRecord}
use Rattle.task_store.specs.declared.task.Task.{Task}
use Rattle.task_store.specs.declared.undo.Undo.TheVariants as undo
use Rattle.lease_area.specs.declared.sector.Kind.{Kind}
use Rattle.lease_area.specs.declared.sector.Kind.TheVariants as kind
use Rattle.pool_model.specs.Role.{Role, leads, outside}
use Rattle.pool_model.specs.Tasks.{new_task}
use Rattle.pool_model.specs.Verb.{Verb}
use Rattle.pool_model.specs.Verb as verb

-- What a verb decides, with the number of its refusal. That a lease sector 0 reads (58) and that each task's text does (104)
-- holds in every pool, so no check stands for them.
pub data Check : Type 0 where
  no_pool : Check  -- 31
  new_domain : (sd : Id) → Check  -- 33
  has_text : (sd : Id) → Check  -- 32
  readable : (sd : Id) → Check  -- 34
  known_version : (sd : Id) → Check  -- 35
  is_master : (sd : Id) → Check  -- 30
  unled : (sd : Id) → Check  -- 41
  owner_is : (sd : Id) (prev : ℕ) → Check  -- 43
  version_is : (sd : Id) (lver : ℕ) → Check  -- 42
  still_leads : (sd : Id) (version : ℕ) → Check  -- 41
  unused : (sd image : Id) → Check  -- 51
  has_sector : (sd : Id) → Check  -- 54
  named : (sd image : Id) → Check  -- 50
  unheld : (sd image : Id) → Check  -- 52
  openable : (sd image : Id) → Check  -- 57, 60, 65, 67, 68, 80
  has_room : (sd image : Id) (at : ℕ) (bytes : List ℕ) → Check  -- 71

-- What it changes, each at one moment.
pub data Change : Type 0 where
  make_master : DomainRecord → Change
  lead : (sd : Id) (prev lver : ℕ) → Change
  yield : (sd : Id) (version : ℕ) → Change
  begin_task : Task → Change
  end_task : (task : Id) → Change
  clear : (task : Id) → Change
  name_image : (sd image : Id) → Change
  make_image : (sd image : Id) → VolumeRecord → (v : Id) → Change
  drop_image : (sd image : Id) → Change
  drop_sector : (sd image : Id) → Change
  take : Kind → (sd image : Id) → Change
  release : Kind → (sd image : Id) → Change
  choose : (sd image : Id) → Change
  tear : (sd image : Id) (at : ℕ) (bytes : List ℕ) → Change
  lay : (sd image : Id) → Change

-- What it changes again and again, until nothing is left to do.
pub data Repeat : Type 0 where
  settle : Repeat
  liberate : Repeat
  grow : (sd image : Id) → Repeat

pub data Mark : Type 0 where
  check : Check → Mark
  change : Change → Mark
  repeat : Repeat → Mark

-- ---- what verbs make

-- the record of a new master
abbrev pub master_record : Id → Id → ℕ → List ℕ → DomainRecord
master_record pool sd version text = record {
  version = version;
  role = Master;
  sduuid = sd;
  pool = pool;
  domains = sd ∷ [];
  master_version = 1;
  description = text;
}

-- the record of a new volume without a parent
abbrev pub base_record : ℕ → Id → Id → Format → AllocKind → ℕ → List ℕ → VolumeRecord
base_record moment sd image format alloc capacity text = record {
  capacity = capacity;
  ctime = moment;
  description = text;
  disk_type = codes "DATA";
  domain = sd;
  format = format;
  generation = 0;
  image = image;
  legality = Legal;
  merged = false;
  parent = zero_id;
  kind = alloc;
  voltype = Leaf;
}

-- ---- the marks of each verb

-- an image's lease is taken, and the image opened: the refusal of `openable` gives the lease back
abbrev pub opening : Kind → Id → Id → List Mark → List Mark
opening held sd image marks =
    check (named sd image) ∷ check (unheld sd image) ∷ change (take held sd image) ∷ check (openable sd image) ∷ repeat (grow sd image) ∷ marks

-- what a text of a domain has to be
abbrev pub domain_read : Id → List Mark → List Mark
domain_read sd marks = check (has_text sd) ∷ check (readable sd) ∷ check (known_version sd) ∷ marks

abbrev pub recovery : List Mark
recovery = repeat settle ∷ repeat liberate ∷ []

-- the manager gives its role back
abbrev pub IsStop : Role → List Mark → Type 0
IsStop outside ms = ⊥
IsStop (leads m) ms = ms ≡ check (still_leads m.master m.version) ∷ change (yield m.master m.version) ∷ []

-- The marks of a verb that a host of this role begins at this moment. The verbs that aren't built have none, and begin in no machine.
abbrev pub HasMarks : ℕ → Role → Verb → List Mark → Type 0
HasMarks moment role (verb.make_pool pool sd version text) ms =
    ms ≡ check no_pool ∷ check (new_domain sd) ∷ change (make_master (master_record pool sd version text)) ∷ []
HasMarks moment role (verb.spm_start sd prev lver) ms =
    ms ≡ domain_read sd
    (check (is_master sd) ∷ check (unled sd) ∷ check (owner_is sd prev) ∷ check (version_is sd lver) ∷ change (lead sd prev lver) ∷ recovery)
HasMarks moment role verb.spm_stop ms = IsStop role ms
HasMarks moment role (verb.create task sd image v format alloc capacity text) ms =
    ms ≡ check (unused sd image) ∷ check (has_sector sd) ∷ change (begin_task (new_task task word.Create (undo.RemoveImage sd image ∷ [])))
    ∷ change (name_image sd image) ∷ change (make_image sd image (base_record moment sd image format alloc capacity text) v)
    ∷ change (end_task task) ∷ change (release kind.Task sd image) ∷ []
HasMarks moment role (verb.delete_image task sd image) ms =
    ms ≡ check (named sd image) ∷ check (unheld sd image) ∷ change (take kind.Task sd image)
    ∷ change (begin_task (new_task task word.DeleteImage (undo.FinishRemove sd image ∷ [])))
    ∷ change (drop_image sd image) ∷ change (drop_sector sd image) ∷ change (end_task task) ∷ []
HasMarks moment role (verb.open_image sd image) ms = ms ≡ domain_read sd (opening kind.Guest sd image [])
HasMarks moment role (verb.close_image sd image) ms = ms ≡ change (choose sd image) ∷ change (release kind.Guest sd image) ∷ []
HasMarks moment role (verb.read sd image at count) ms = ms ≡ []
HasMarks moment role (verb.write sd image at bytes) ms =
    ms ≡ check (has_room sd image at bytes) ∷ change (tear sd image at bytes) ∷ change (lay sd image) ∷ []
HasMarks moment role verb.tasks ms = ms ≡ []
HasMarks moment role (verb.clear_task task) ms = ms ≡ change (clear task) ∷ []
HasMarks moment role verb.recover ms = ms ≡ recovery
HasMarks moment role (verb.add_domain task sd version text) ms = ⊥
HasMarks moment role (verb.snapshot task sd image v w capacity text) ms = ⊥
HasMarks moment role (verb.delete_volume task sd image v) ms = ⊥
HasMarks moment role (verb.copy task sd image v to_sd to_image w format alloc) ms = ⊥
HasMarks moment role (verb.extend task sd image v capacity) ms = ⊥
HasMarks moment role (verb.describe task sd image v text) ms = ⊥
HasMarks moment role (verb.prepare_merge sd image v w) ms = ⊥
HasMarks moment role (verb.merge sd image v w generation) ms = ⊥
HasMarks moment role (verb.finalize_merge sd image v w) ms = ⊥
HasMarks moment role (verb.live_start sd image v w) ms = ⊥
HasMarks moment role (verb.live_fill sd image count) ms = ⊥
HasMarks moment role (verb.live_sync sd image) ms = ⊥
HasMarks moment role (verb.live_pivot sd image) ms = ⊥
HasMarks moment role (verb.box_post sd image v count mark) ms = ⊥
HasMarks moment role (verb.box_serve sd of) ms = ⊥
HasMarks moment role (verb.box_collect sd) ms = ⊥
