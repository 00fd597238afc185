-- What the bound on a verb's steps counts, and how it is counted on a disk.
use Rattle.std.specs.Prelude.{◌≡◌, ◌⊎◌, ℕ, ◌+◌, ◌-◌, ◌*◌, ◌/◌, ◌%◌, ◌<◌, List, length, Contains, Option, Some, None, Result, Ok}
use Rattle.std.specs.List.Sorted.{IsStrictlySortedBy}
use Rattle.std.specs.Ordering.{nat_cmp}
use Rattle.sd_names.specs.Place.{dir_cmp, name_cmp}
use Rattle.sd_names.specs.declared.fault.LayerFault.{LayerFault}
use Rattle.sd_names.specs.declared.id.Id.{Id}
use Rattle.sd_names.specs.declared.kinds.Format.{Format}
use Rattle.sd_names.specs.declared.kinds.Format.TheVariants.{Raw, Cow}
use Rattle.sd_names.specs.declared.place.Dir.{Dir}
use Rattle.sd_names.specs.declared.place.Dir.TheVariants as dir
use Rattle.sd_names.specs.declared.place.Name.{Name}
use Rattle.shared_disk.specs.Content.{Content, File}
use Rattle.shared_disk.specs.NameCalls.{ShowsDir, ShowsName}
use Rattle.qcow_format.specs.declared.header.Header.{Header}
use Rattle.volume_meta.specs.declared.record.VolumeRecord.{VolumeRecord}
use Rattle.image_model.specs.File.{file_of}
use Rattle.image_model.specs.Layer.{Tables, cluster_size, entries}
use Rattle.image_model.specs.Soundness.{before_mapping, names}
use Rattle.chain_model.specs.Own.{header_in}

-- Counts of the disk in the moment in which a verb took its lease, or began where it takes none.
pub record Sizes : Type 0 where
  -- of its image: the names in its folders, its volumes, the sectors of clusters that their headers, refcount tables and L1
  -- entries name, each once, and the clusters along the path from the reading volume down
  pub names : ℕ
  pub volumes : ℕ
  pub tables : ℕ
  pub path : List (Option ℕ)
  -- folders under the root, domains of the pool, and names of tasks
  pub folders : ℕ
  pub domains : ℕ
  pub tasks : ℕ
  -- what recovery finds: for each sector held for a task the names in its image's folders, and for each step of an open task
  -- the bounds of an opening and of writing zeros
  pub held : List ℕ
  pub open_steps : List ℕ

-- ---- how each is counted

-- exactly the names that a folder shows, and the folders in it
pub record AreNames (d : Content) (q : Dir) (ns : List Name) : Type 0 where
  pub rising : IsStrictlySortedBy name_cmp ns
  pub each : (n : Name) → Contains ns n → ShowsName d q n
  pub all : (n : Name) → ShowsName d q n → Contains ns n

pub record AreFolders (d : Content) (q : Dir) (qs : List Dir) : Type 0 where
  pub rising : IsStrictlySortedBy dir_cmp qs
  pub each : (r : Dir) → Contains qs r → ShowsDir d q r
  pub all : (r : Dir) → ShowsDir d q r → Contains qs r

-- the names in both folders of an image
abbrev pub HasNames : Content → Id → Id → ℕ → Type 0
HasNames d sd i n =
    (ns : List Name) × ((ms : List Name) × AreNames d (dir.Image sd i) ns × AreNames d (dir.Removed sd i) ms × (n ≡ length ns + length ms))

-- a position that stands for the header, a table of counts or an L1 entry, and not for an L2 entry
abbrev pub IsTablePosition : Tables → ℕ → Type 0
IsTablePosition t n = (n < before_mapping t) ⊎ ((n - before_mapping t) % (1 + entries t) ≡ 0)

-- the clusters that such positions name, each once
pub record AreTables (t : Tables) (capacity : ℕ) (cs : List ℕ) : Type 0 where
  pub rising : IsStrictlySortedBy nat_cmp cs
  pub each : (c : ℕ) → Contains cs c → (n : ℕ) × IsTablePosition t n × (names t capacity n ≡ Some (c * cluster_size t))
  pub all : (c n : ℕ) → IsTablePosition t n → names t capacity n ≡ Some (c * cluster_size t) → Contains cs c

-- the sectors of those clusters; none of a raw volume, or of a layer whose header can't be read
abbrev pub TablesBehind : VolumeRecord → File → Result Header LayerFault → ℕ → Type 0
TablesBehind y f (Ok h) n =
    (cs : List ℕ) × AreTables (record { header = h; file = file_of f.size f.stable }) y.capacity cs
    × (n ≡ length cs * (cluster_size (record { header = h; file = file_of f.size f.stable }) / 512))
TablesBehind y f _ n = n ≡ 0

abbrev pub HasTables : Format → VolumeRecord → File → ℕ → Type 0
HasTables Raw y f n = n ≡ 0
HasTables Cow y f n = TablesBehind y f (header_in y f) n

-- the size of a volume's clusters in bytes, where it has clusters
abbrev pub clusters_by : VolumeRecord → File → Result Header LayerFault → Option ℕ
clusters_by y f (Ok h) = Some (cluster_size (record { header = h; file = file_of f.size f.stable }))
clusters_by y f _ = None

abbrev pub clusters_of : Format → VolumeRecord → File → Option ℕ
clusters_of Raw y f = None
clusters_of Cow y f = clusters_by y f (header_in y f)
