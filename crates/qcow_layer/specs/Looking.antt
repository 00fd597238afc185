-- The looking up of a cluster, and what it finds.
use Rattle.std.specs.Prelude.{◌≡◌, ℕ, ◌*◌, ◌/◌, ◌^◌, ◌<◌, List, Option, Some, None, Ok}
use Rattle.sd_names.specs.declared.refusal.Refusal.{Refusal}
use Rattle.sd_names.specs.declared.refusal.Refusal.TheVariants.{DiskFault}
use Rattle.sd_names.specs.declared.turn.Turn.{Turn}
use Rattle.sd_names.specs.Turn.{MatchTurn}
use Rattle.shared_disk.specs.Content.{Content}
use Rattle.shared_disk.specs.Calls.{IsSame}
use Rattle.image_model.specs.File.{file_of}
use Rattle.image_model.specs.Layer.{Tables, entries, entry_at, has_table, l1_entry}
use Rattle.layer_walk.specs.Known.{tables_of}
use Rattle.qcow_layer.specs.Knowing.{KnowsLayerOn, KnowsNumbers}
use Rattle.qcow_layer.specs.Stages.{IsGone}
use Rattle.qcow_layer.specs.Seen.{IsSeen}
use Rattle.qcow_layer.specs.declared.layer.Layer.{Layer}
use Rattle.qcow_layer.specs.declared.looking.Looked.{Looked}
use Rattle.qcow_layer.specs.declared.looking.Looking.{Looking}

-- which cluster is looked up, and its L2 table, once that is known
abbrev pub cluster_of : Looking → ℕ
cluster_of looking = looking.cluster

abbrev pub table_of : Looking → Option ℕ
table_of looking = looking.table

-- the L2 table of a cluster is at this place
abbrev pub IsTable : Tables → ℕ → ℕ → Type 0
IsTable t k table = (k / entries t < t.header.l1_size) × (l1_entry t (k / entries t) ≡ Ok (Some table))

-- what was looked up is what the layer says
pub record IsLookedUp (t : Tables) (k : ℕ) (looked : Looked) : Type 0 where
  pub entry : looked.entry ≡ entry_at t k
  pub table : looked.table ≡ has_table t k

-- the table that is known is that of the cluster
abbrev pub KnowsTable : Tables → ℕ → Option ℕ → Type 0
KnowsTable t k None = Unit {0}
KnowsTable t k (Some table) = IsTable t k table

-- no refusal but a fault of the disk
abbrev pub IsFault : Refusal → Type 0
IsFault (DiskFault n) = Unit {0}
IsFault _ = ⊥

-- What a step does: it changes nothing, and what is known of the layer stays known. Where the host sees a file of which the
-- layer's numbers are known, what it finds is what the layer says.
pub record LooksUp (layer : Layer) (host k : ℕ) (table : Option ℕ) (turn : Turn Looking Looked (Unit {0})) (d e : Content) : Type 0 where
  pub same : IsSame d e
  pub gone : MatchTurn turn (λ _. Unit {0}) (λ _. Unit {0}) (λ _ refusal. IsGone layer.target refusal d)
  pub kept : KnowsLayerOn layer host d → KnowsLayerOn layer host e
  pub after : (count : ℕ) (sectors : ℕ → List ℕ) → IsSeen host layer.target.place count sectors d → 512 * count < 2 ^ 64 → KnowsNumbers layer (file_of count sectors)
      → KnowsTable (tables_of layer.work (file_of count sectors)) k table → MatchTurn turn
      (λ next. (cluster_of next ≡ k) × KnowsTable (tables_of layer.work (file_of count sectors)) k (table_of next))
      (λ looked. IsLookedUp (tables_of layer.work (file_of count sectors)) k looked)
      (λ _ refusal. IsFault refusal)

abbrev pub FindsTable : Layer → ℕ → ℕ → Turn Looking Looked (Unit {0}) → Content → Content → Type 0
FindsTable layer host k turn d e = LooksUp layer host k None turn d e

abbrev pub FindsEntry : Layer → ℕ → ℕ → ℕ → Turn Looking Looked (Unit {0}) → Content → Content → Type 0
FindsEntry layer host k table turn d e = LooksUp layer host k (Some table) turn d e

abbrev pub LooksOn : Looking → Layer → ℕ → Turn Looking Looked (Unit {0}) → Content → Content → Type 0
LooksOn looking layer host turn d e = LooksUp layer host (cluster_of looking) (table_of looking) turn d e

-- a second step is the last
abbrev pub looks_left : Option ℕ → ℕ
looks_left None = 2
looks_left (Some table) = 1

abbrev pub FewerLooks : Option ℕ → Turn Looking Looked (Unit {0}) → Type 0
FewerLooks table turn = MatchTurn turn (λ next. looks_left (table_of next) < looks_left table) (λ _. Unit {0}) (λ _ _. Unit {0})
