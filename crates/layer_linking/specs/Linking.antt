-- What a linking knows between its steps, and what each step leaves on each outcome of the layer's file.
use Rattle.std.specs.Prelude.{◌≡◌, ◌≢◌, ◌⊎◌, ℕ, ◌+◌, ◌*◌, ◌/◌, ◌%◌, ◌^◌, ◌<◌, ◌≤◌, List, length, replicate, Option, Some, None, Ok}
use Rattle.sd_names.specs.declared.place.Dir.{Dir}
use Rattle.sd_names.specs.declared.place.Place.{Place}
use Rattle.sd_names.specs.declared.turn.Turn.{Turn}
use Rattle.sd_names.specs.Turn.{MatchTurn}
use Rattle.shared_disk.specs.Content.{Content, File, seen}
use Rattle.shared_disk.specs.Crash.{IsAlone, IsSettled, OnEach}
use Rattle.shared_disk.specs.WellFormed.{IsWellFormedFile}
use Rattle.qcow_format.specs.Name.{backing_id}
use Rattle.image_model.specs.File as image
use Rattle.image_model.specs.File.{file_of}
use Rattle.image_model.specs.Layer.{Tables, l1_entry}
use Rattle.layer_laws.specs.Laws as laws
use Rattle.layer_laws.specs.Laws.{SameContent, SameOutside}
use Rattle.link_laws.specs.Links.{AreLinks, IsFilled, IsNewTable, Linked, no_table, one_table, row_of}
use Rattle.layer_writing.specs.Holding.{IsBetween, on_medium, with_sector}
use Rattle.layer_writing.specs.Writer.{KnowsWriter}
use Rattle.qcow_layer.specs.Looking.{IsFault}
use Rattle.qcow_layer.specs.Opening.{capacity_kept, header_kept, place_kept}
use Rattle.qcow_layer.specs.declared.layer.Layer.{Layer}
use Rattle.layer_linking.specs.Calls.{group_of, piece_size, pieces, stage_of, table_of, to_of}
use Rattle.layer_linking.specs.declared.linking.Linking.{Linking}
use Rattle.layer_linking.specs.declared.linking.Stage.{Stage}
use Rattle.layer_linking.specs.declared.linking.Stage.TheVariants.{Begun, Found, Filling, Zeroed, Filled, Synced, Laid, Entered}

-- ---- where a linking begins

-- the layer in a file without unsynced writes
abbrev pub tables_on : Layer → File → Tables
tables_on layer f = laws.layer (header_kept layer) (on_medium f)

-- the L2 table of the entries is there, or a place is given for a new one
abbrev pub HasTable : Tables → ℕ → ℕ → (ℕ → Option ℕ) → Option ℕ → Type 0
HasTable t capacity group to None = (place : ℕ) × (l1_entry t (row_of t group) ≡ Ok (Some place))
HasTable t capacity group to (Some table) = (l1_entry t (row_of t group) ≡ Ok None) × IsNewTable t capacity to table

-- What is asked of the file in which a linking begins: a writer knows it, nothing in it is unsynced, each place is that of a
-- cluster with a count which nothing but its entry names, and the table is there or has a place.
pub record IsLinkable (layer : Layer) (l : Linking) (host : ℕ) (f : File) : Type 0 where
  pub knows : KnowsWriter layer host f
  pub settled : IsSettled f
  pub well : IsWellFormedFile f
  pub row : row_of (tables_on layer f) (group_of l) < (header_kept layer).l1_size
  pub links : AreLinks (tables_on layer f) (capacity_kept layer) (group_of l) (to_of l)
  pub table : HasTable (tables_on layer f) (capacity_kept layer) (group_of l) (to_of l) (table_of l)

-- ---- an outcome: as it was, or with all entries

-- the layer says the same, and its file is as long
pub record IsAsBefore (layer : Layer) (f g : image.File) : Type 0 where
  pub size : g.size ≡ f.size
  pub content : SameContent (header_kept layer) (capacity_kept layer) f g
  pub parent : backing_id (header_kept layer) g.head ≡ backing_id (header_kept layer) f.head

-- which L1 entries get a table
abbrev pub tables_to : Option ℕ → ℕ → ℕ → Option ℕ
tables_to None row = no_table
tables_to (Some table) row = one_table row table

abbrev pub behind_of : Layer → Linking → ℕ → Option ℕ
behind_of layer l = tables_to (table_of l) (64 * group_of l / (2 ^ (header_kept layer).cluster_bits / 8))

-- all entries are made
abbrev pub IsLinked : Layer → Linking → image.File → image.File → Type 0
IsLinked layer l f g = Linked (header_kept layer) (capacity_kept layer) (to_of l) (behind_of layer l) f g

-- No other host writes in the file. Each outcome is the layer as it was in the file `start`, or that with all the entries.
pub record IsOldOrNew (layer : Layer) (l : Linking) (host : ℕ) (start f : File) : Type 0 where
  pub alone : IsAlone host f
  pub made : f.fresh ≡ None
  pub each : OnEach f (λ g. IsAsBefore layer (on_medium start) (on_medium g) ⊎ IsLinked layer l (on_medium start) (on_medium g))

-- ---- between the steps

abbrev pub cluster_of : Layer → ℕ
cluster_of layer = 2 ^ (header_kept layer).cluster_bits

-- all that is unsynced stands in the cluster of the new table
pub record IsFilling (layer : Layer) (table host : ℕ) (start f : File) : Type 0 where
  pub alone : IsAlone host f
  pub made : f.fresh ≡ None
  pub size : f.size ≡ start.size
  pub each : OnEach f (λ g. SameOutside table (cluster_of layer) start.stable g.stable)
  pub sees : SameOutside table (cluster_of layer) start.stable (seen host f)

-- the host sees zeros in so many of the table's sectors
abbrev pub SeesZeros : ℕ → ℕ → ℕ → File → Type 0
SeesZeros host table count f = (k : ℕ) → table / 512 ≤ k → k < table / 512 + count → seen host f k ≡ replicate 512 0

-- the table with its entries, in these sectors
abbrev pub IsTable : Layer → Linking → ℕ → (ℕ → List ℕ) → Type 0
IsTable layer l table sectors =
    IsFilled (to_of l) (64 * group_of l) ((table + 8 * (64 * group_of l % (cluster_of layer / 8))) / 512) table (cluster_of layer) sectors

-- the file is there, being filled, and this holds of it
pub record Fills (layer : Layer) (l : Linking) (table host : ℕ) (start : File) (d : Content) (P : File → Type 0) : Type 0 where
  pub given : table_of l ≡ Some table
  pub file : File
  pub there : d.file (place_kept layer) ≡ Some file
  pub filling : IsFilling layer table host start file
  pub holds : P file

-- the new table is on the medium
pub record HasFilled (layer : Layer) (l : Linking) (table host : ℕ) (start : File) (d : Content) : Type 0 where
  pub given : table_of l ≡ Some table
  pub file : File
  pub there : d.file (place_kept layer) ≡ Some file
  pub settled : IsSettled file
  pub size : file.size ≡ start.size
  pub outside : SameOutside table (cluster_of layer) start.stable file.stable
  pub full : IsTable layer l table file.stable

-- nothing is unsynced, and one sector makes all entries
pub record HasLaid (layer : Layer) (l : Linking) (at : ℕ) (sector : List ℕ) (start : File) (d : Content) : Type 0 where
  pub file : File
  pub there : d.file (place_kept layer) ≡ Some file
  pub settled : IsSettled file
  pub old : IsAsBefore layer (on_medium start) (on_medium file)
  pub inside : at / 512 < file.size
  pub long : length sector ≡ 512
  pub new : IsLinked layer l (on_medium start) (file_of file.size (with_sector (at / 512) sector file.stable))

-- that sector is written, and not yet synced
pub record HasEntered (layer : Layer) (l : Linking) (host : ℕ) (start : File) (d : Content) : Type 0 where
  pub file : File
  pub there : d.file (place_kept layer) ≡ Some file
  pub sectors : ℕ → List ℕ
  pub sectors' : ℕ → List ℕ
  pub between : IsBetween host sectors sectors' file
  pub size : file.size ≡ start.size
  pub old : IsAsBefore layer (on_medium start) (file_of file.size sectors)
  pub new : IsLinked layer l (on_medium start) (file_of file.size sectors')

abbrev pub KnowsStage : Stage → Layer → Linking → ℕ → File → Content → Type 0
KnowsStage Begun layer l host start d = (table_of l ≡ None) × (d.file (place_kept layer) ≡ Some start)
KnowsStage (Found table) layer l host start d =
    (table_of l ≡ None) × (d.file (place_kept layer) ≡ Some start) × (l1_entry (tables_on layer start) (row_of (tables_on layer start) (group_of l)) ≡ Ok (Some table))
KnowsStage (Filling table piece) layer l host start d =
    (piece < pieces (header_kept layer)) × Fills layer l table host start d (SeesZeros host table (piece * (piece_size (header_kept layer) / 512)))
KnowsStage (Zeroed table) layer l host start d = Fills layer l table host start d (SeesZeros host table (cluster_of layer / 512))
KnowsStage (Filled table) layer l host start d = Fills layer l table host start d (λ f. IsTable layer l table (seen host f))
KnowsStage (Synced table) layer l host start d = HasFilled layer l table host start d
KnowsStage (Laid at sector) layer l host start d = HasLaid layer l at sector start d
KnowsStage Entered layer l host start d = HasEntered layer l host start d

-- what a linking knows that began in the file `start`
pub record KnowsLinking (l : Linking) (layer : Layer) (host : ℕ) (start : File) (d : Content) : Type 0 where
  pub began : IsLinkable layer l host start
  pub now : KnowsStage (stage_of l) layer l host start d

-- ---- a step

-- all but the layer's file is as it was
pub record LeavesOthers (place : Place) (d e : Content) : Type 0 where
  pub dirs : (q : Dir) → e.dir q ≡ d.dir q
  pub files : (q : Place) → q ≢ place → e.file q ≡ d.file q

-- the entries are on the medium, and a writer knows the file
pub record IsDone (layer : Layer) (l : Linking) (host : ℕ) (start : File) (e : Content) : Type 0 where
  pub file : File
  pub there : e.file (place_kept layer) ≡ Some file
  pub settled : IsSettled file
  pub linked : IsLinked layer l (on_medium start) (on_medium file)
  pub knows : KnowsWriter layer host file

-- the file is there, and each of its outcomes is old or new
pub record IsLeftSo (layer : Layer) (l : Linking) (host : ℕ) (start : File) (e : Content) : Type 0 where
  pub file : File
  pub there : e.file (place_kept layer) ≡ Some file
  pub size : file.size ≡ start.size
  pub either : IsOldOrNew layer l host start file

-- What a step leaves, also where it ends by a fault: each outcome has none of the entries, or all.
pub record LinksOn (l : Linking) (layer : Layer) (host : ℕ) (start : File) (turn : Turn Linking (Unit {0}) (Unit {0})) (e : Content) : Type 0 where
  pub left : IsLeftSo layer l host start e
  pub after : MatchTurn turn (λ next. KnowsLinking next layer host start e) (λ _. IsDone layer l host start e) (λ _ refusal. IsFault refusal)

abbrev pub Steps : Linking → Layer → ℕ → Turn Linking (Unit {0}) (Unit {0}) → Content → Content → Type 0
Steps l layer host turn d e = LeavesOthers (place_kept layer) d e × ((start : File) → KnowsLinking l layer host start d → LinksOn l layer host start turn e)
