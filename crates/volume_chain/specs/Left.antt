-- How many steps an opening takes at the most, from its start on.
use Rattle.std.specs.Prelude.{◌≡◌, ℕ, ◌+◌, ◌*◌, ◌/◌, ◌^◌, ◌≤◌, sum_by, List, Option, Some, Ok}
use Rattle.sd_names.specs.declared.id.Id.{Id}
use Rattle.sd_names.specs.declared.place.Name.{Name}
use Rattle.qcow_format.specs.declared.header.Header.{Header}
use Rattle.shared_disk.specs.Content.{File}
use Rattle.volume_meta.specs.declared.record.VolumeRecord.{VolumeRecord}
use Rattle.image_model.specs.File.{file_of}
use Rattle.image_model.specs.Soundness.{layer_header}
use Rattle.layer_walk.specs.Items.{layer_of}
use Rattle.layer_walk.specs.Steps.{IsStop, named_from}
use Rattle.qcow_layer.specs.Opening as layer
use Rattle.chain_model.specs.Folder.{Volumes}
use Rattle.chain_model.specs.Records.{Image, records_of}
use Rattle.chain_gathering.specs.Gathering as gather
use Rattle.volume_chain.specs.Stages.{left_along, volume_cost}
use Rattle.volume_chain.specs.declared.opening.ChainOpening.{ChainOpening}
use Rattle.volume_chain.specs.declared.stages.Stage.{Stage}
use Rattle.volume_chain.specs.declared.stages.Stage.TheVariants.{Gathering, Along, Layer}

-- what a whole path costs, and what the tables of one layer do
abbrev pub path_left : (Id → Header) → (Id → ℕ → ℕ) → List Id → ℕ
path_left heads tables path = sum_by (volume_cost heads tables) path + 1

abbrev pub tables_left : (Id → Header) → (Id → ℕ → ℕ) → Id → ℕ
tables_left heads tables v = 2 * (2 ^ (heads v).cluster_bits / 512 * tables v 0)

-- the steps that are left: while names are listed by what the names cost, and by what the path that is opened then costs
abbrev pub left_at : (Option Name → ℕ) → (Id → Header) → (Id → ℕ → ℕ) → ℕ → Stage → ℕ
left_at cost heads tables along (Gathering t volumes g) = gather.steps_left cost g + along
left_at cost heads tables along (Along c) = left_along heads tables (Along c)
left_at cost heads tables along (Layer c o) = left_along heads tables (Layer c o)

abbrev pub steps_left : (Option Name → ℕ) → (Id → Header) → (Id → ℕ → ℕ) → ℕ → ChainOpening → ℕ
steps_left cost heads tables along o = left_at cost heads tables along o.stage

-- the path of the chain that the gathering hands over costs so many steps at the most
abbrev pub EntersFrom : (Id → Header) → (Id → ℕ → ℕ) → ℕ → Stage → Stage → Type 0
EntersFrom heads tables along (Gathering t volumes g) (Along c) = path_left heads tables c.path ≤ along
EntersFrom heads tables along s next = Unit {0}

abbrev pub Enters : (Id → Header) → (Id → ℕ → ℕ) → ℕ → ChainOpening → ChainOpening → Type 0
Enters heads tables along o next = EntersFrom heads tables along o.stage next.stage

-- a layer that is being opened has this header and so many tables
abbrev pub OpensTablesAt : (Id → Header) → (Id → ℕ → ℕ) → Stage → Type 0
OpensTablesAt heads tables (Gathering t volumes g) = Unit {0}
OpensTablesAt heads tables (Along c) = Unit {0}
OpensTablesAt heads tables (Layer c o) = layer.OpensFile (heads (layer.target_of o).volume) (tables (layer.target_of o).volume) o

abbrev pub OpensTables : (Id → Header) → (Id → ℕ → ℕ) → ChainOpening → Type 0
OpensTables heads tables o = OpensTablesAt heads tables o.stage

-- on every disk: the header that is known is this
abbrev pub HasHeaderAt : (Id → Header) → Stage → Type 0
HasHeaderAt heads (Gathering t volumes g) = Unit {0}
HasHeaderAt heads (Along c) = Unit {0}
HasHeaderAt heads (Layer c o) = layer.OpensHeader (heads (layer.target_of o).volume) o

abbrev pub HasHeader : (Id → Header) → ChainOpening → Type 0
HasHeader heads o = HasHeaderAt heads o.stage

-- where the files are known: the layer of each volume has this header, and its tables are those that its positions name, of
-- those before the first that has a fault by itself or names a place a second time
abbrev pub HaveTables : Image → Volumes → (Id → Header) → (Id → ℕ → ℕ) → Type 0
HaveTables i x heads tables =
    (v : Id) (y : VolumeRecord) (f : File) (h : Header) → records_of i x v ≡ Some y → x.file v ≡ Some f → layer_header (file_of f.size f.stable) y.capacity ≡ Ok h
    → (heads v ≡ h) × (stop : ℕ) × IsStop (layer_of h (file_of f.size f.stable)) y.capacity stop × (tables v ≡ named_from (layer_of h (file_of f.size f.stable)) y.capacity stop)
