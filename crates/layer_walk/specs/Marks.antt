-- The map of a file's clusters.
use Rattle.std.specs.Prelude.{◌≡◌, ℕ, ◌*◌, ◌<◌, max, nat_lt, not, ◌&&◌, Bool, true, Option, Some, None}
use Rattle.std.specs.Int.{div_ceil}
use Rattle.sd_names.specs.declared.fault.LayerFault.{LayerFault}
use Rattle.image_model.specs.Layer.{Tables, cluster_size}
use Rattle.image_model.specs.Soundness.{Item}
use Rattle.layer_walk.specs.Bits.{has, room_of}
use Rattle.layer_walk.specs.Checked.{against, free_after}
use Rattle.layer_walk.specs.declared.marks.Marks.{Marks}

-- the clusters that are free
abbrev pub free_by : Marks → ℕ → Bool
free_by m c = has m.free c

-- the clusters that aren't free: in the first walk those that were named
abbrev pub used_by : Marks → ℕ → Bool
used_by m c = nat_lt c (room_of m.free) && not (free_by m c)

-- how many clusters the map has for a file of so many bytes: whole sectors of counts
abbrev pub map_size : ℕ → ℕ → ℕ
map_size bytes cluster = div_ceil (div_ceil bytes cluster) 256 * 256

-- the map at the begin
pub record IsNew (bytes width roof : ℕ) (m : Marks) : Type 0 where
  pub size : m.size ≡ bytes
  pub cluster : m.cluster ≡ width
  pub room : room_of m.free ≡ map_size (max bytes roof) width
  pub noted : m.noted ≡ None
  pub free : (c : ℕ) → c < room_of m.free → free_by m c ≡ true

-- the map is of the same file, and has the same clusters
pub record KeepsFile (before after : Marks) : Type 0 where
  pub size : after.size ≡ before.size
  pub cluster : after.cluster ≡ before.cluster
  pub room : room_of after.free ≡ room_of before.free

-- and the walk is the same, the first or the second
pub record KeepsWalk (before after : Marks) : Type 0 where
  pub file : KeepsFile before after
  pub noted : after.noted ≡ before.noted

-- one item is admitted, or something is wrong with it
pub record Admits (before after : Marks) (x : Item) (result : Option LayerFault) : Type 0 where
  pub keeps : KeepsWalk before after
  pub verdict : result ≡ against before.noted before.size before.cluster (free_by before) x
  pub marks : result ≡ None → (c : ℕ) → free_by after c ≡ free_after before.noted before.cluster (free_by before) x.name c
  pub same : (fault : LayerFault) → result ≡ Some fault → (c : ℕ) → free_by after c ≡ free_by before c

-- the map is of this layer's file
pub record MarksFile (m : Marks) (t : Tables) : Type 0 where
  pub size : m.size ≡ t.file.size
  pub cluster : m.cluster ≡ cluster_size t
