-- What a new layer's file says.
use Rattle.std.specs.Prelude.{◌≡◌, ℕ, Option, Ok}
use Rattle.qcow_format.specs.declared.entry.Entry.TheVariants.{Absent}
use Rattle.qcow_format.specs.Name.{backing_id}
use Rattle.image_model.specs.File.{File}
use Rattle.image_model.specs.Layer.{entry_at, is_used}
use Rattle.image_model.specs.Soundness.{IsSound, layer_header}
use Rattle.layer_laws.specs.Laws.{layer}
use Rattle.layer_creating.specs.New.{is_used_new, new_header, parent_of}
use Rattle.layer_creating.specs.declared.backing.Backing.{Backing}

pub record SaysNew (capacity : ℕ) (backing : Option Backing) (file : File) : Type 0 where
  pub header : layer_header file capacity ≡ Ok (new_header capacity backing)
  pub parent : backing_id (new_header capacity backing) file.head ≡ parent_of backing
  pub sound : IsSound file capacity
  pub absent : (k : ℕ) → entry_at (layer (new_header capacity backing) file) k ≡ Absent
  pub used : (c : ℕ) → is_used (layer (new_header capacity backing) file) c ≡ is_used_new c
