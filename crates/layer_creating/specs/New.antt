-- A layer as this store makes it: version 3, clusters of 65,536 bytes, no features. What its header says (qcow2
-- specification, "Header"), and the sectors of its file.
use Rattle.std.specs.Prelude.{◌≡◌, ℕ, ◌+◌, ◌/◌, ◌%◌, ◌^◌, ◌==◌, ◌≤◌, ◌||◌, max, nat_lt, Bool, if◌then◌else◌, List, ◌++◌, Option, Some, None, IfSome}
use Rattle.std.specs.Option.{option_map}
use Rattle.sd_names.specs.Id.{IsIdBytes, id_text}
use Rattle.sd_names.specs.declared.id.Id.{Id}
use Rattle.qcow_format.specs.declared.header.Header.{Header}
use Rattle.qcow_format.specs.Bytes.{bytes_of, put}
use Rattle.qcow_format.specs.Numbers.{magic}
use Rattle.qcow_format.specs.Written.{written}
use Rattle.shared_disk.specs.Content.{File, zero_sector}
use Rattle.shared_disk.specs.Crash.{IsSettled}
use Rattle.layer_creating.specs.declared.backing.Backing.{Backing}

-- An L2 table of one cluster maps 512 MiB. There is one L1 entry at least.
abbrev pub l1_size_for : ℕ → ℕ
l1_size_for capacity = max 1 ((capacity + 536_870_911) / 536_870_912)

-- what is said of a backing file, or 0 where there is none
abbrev pub of_backing : Option Backing → ℕ → ℕ
of_backing None number = 0
of_backing (Some backing) number = number

-- Over a backing file its format stands at 104, directly behind the header, and its name, 36 bytes, at 64,512.
abbrev pub new_header : ℕ → Option Backing → Header
new_header capacity backing = record {
  magic = magic;
  version = 3;
  backing_file_offset = of_backing backing 64_512;
  backing_file_size = of_backing backing 36;
  cluster_bits = 16;
  size = capacity;
  crypt_method = 0;
  l1_size = l1_size_for capacity;
  l1_table_offset = 196_608;
  refcount_table_offset = 65_536;
  refcount_table_clusters = 1;
  nb_snapshots = 0;
  snapshots_offset = 0;
  incompatible_features = 0;
  compatible_features = 0;
  autoclear_features = 0;
  refcount_order = 4;
  header_length = 104;
  name = (of_backing backing 64_512, of_backing backing 36);
  format_at = option_map (λ _. 104) backing;
  format = option_map (λ b. b.format) backing;
}

-- the volume that the layer lies over
abbrev pub parent_of : Option Backing → Option Id
parent_of backing = option_map (λ b. b.parent) backing

-- a sector of zeros that begins with these bytes
abbrev pub beginning : List ℕ → List ℕ
beginning bytes = put 0 bytes zero_sector

abbrev pub name_sector : Option Backing → List ℕ
name_sector None = zero_sector
name_sector (Some backing) = beginning (id_text backing.parent.0)

-- the refcount table's first entry: the block stands at 131,072
abbrev pub table_sector : List ℕ
table_sector = beginning (bytes_of 8 131_072)

-- the block counts clusters 0 to 3, once each
abbrev pub block_sector : List ℕ
block_sector = beginning (bytes_of 2 1 ++ (bytes_of 2 1 ++ (bytes_of 2 1 ++ bytes_of 2 1)))

abbrev pub header_sector : ℕ → Option Backing → List ℕ
header_sector capacity backing = written (new_header capacity backing) zero_sector

-- Cluster 0 is the header's, with the parent's name in sector 126; cluster 1 is the refcount table, cluster 2 its first
-- block, and cluster 3 the L1 table, in which no entry names a table. All else is zeros.
unfoldable pub new_sector : ℕ → Option Backing → ℕ → List ℕ
new_sector capacity backing k =
    if k == 0 then header_sector capacity backing
    else if k == 126 then name_sector backing
    else if k == 128 then table_sector
    else if k == 256 then block_sector
    else zero_sector

-- the capacity of a volume: 512 bytes to 1 TiB
abbrev pub IsCapacity : ℕ → Type 0
IsCapacity capacity = (512 ≤ capacity) × (capacity ≤ 2 ^ 40)

-- the length of a new layer's file: whole clusters, 20 at least
abbrev pub IsLength : ℕ → Type 0
IsLength length = (length % 65_536 ≡ 0) × (1_310_720 ≤ length)

-- an identifier has sixteen bytes
abbrev pub HasBytes : Option Backing → Type 0
HasBytes backing = IfSome backing (λ b. IsIdBytes b.parent.0)

-- the clusters that are used: those four, and the first of each range without a block, which a range's block will be
abbrev pub is_used_new : ℕ → Bool
is_used_new c = nat_lt c 4 || c % 32_768 == 0

-- the file on the medium
pub record IsNewLayer (capacity : ℕ) (backing : Option Backing) (length : ℕ) (f : File) : Type 0 where
  pub size : f.size ≡ length / 512
  pub sectors : (k : ℕ) → f.stable k ≡ new_sector capacity backing k
  pub settled : IsSettled f
