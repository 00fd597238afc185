-- A placing between its steps, and what a step leaves.
use Rattle.std.specs.Prelude.{◌≡◌, ℕ, List, Some}
use Rattle.sd_names.specs.declared.turn.Turn.{Turn}
use Rattle.sd_names.specs.Turn.{MatchTurn}
use Rattle.shared_disk.specs.Calls.{IsPut}
use Rattle.shared_disk.specs.Content.{Content, File}
use Rattle.qcow_layer.specs.Opening.{capacity_kept, header_kept, place_kept}
use Rattle.qcow_layer.specs.declared.layer.Layer.{Layer}
use Rattle.layer_writing.specs.Holding.{ComesBy, HoldSame}
use Rattle.layer_placing.specs.Chosen.{listed}
use Rattle.layer_placing.specs.Knows.{ArePlaced, EndsBy, IsChoice, KeepsList, KeepsSpare, KnowsIn, chosen_in}
use Rattle.layer_placing.specs.Stages.{stage_left}
use Rattle.layer_placing.specs.declared.clusters.Clusters.{Clusters}
use Rattle.layer_placing.specs.declared.placing.Placing.{Placing}
use Rattle.layer_placing.specs.declared.stage.Asked.{Asked}
use Rattle.layer_placing.specs.declared.stage.Stage.{Stage}
use Rattle.layer_placing.specs.declared.stage.Stage.TheVariants.{Begun}

abbrev pub stage_of : Placing → Stage
stage_of placing = placing.stage

-- the clusters that were chosen: none before the first step
abbrev pub chosen_by : Placing → List ℕ
chosen_by placing = chosen_in placing.stage

-- a placing of so many clusters that has not asked anything
abbrev pub IsBegun : ℕ → Placing → Type 0
IsBegun count placing = (asked : Asked) × (placing.stage ≡ Begun asked) × (asked.count ≡ count)

-- how many more steps it takes at the most, where a cluster has so many pieces of 65,536 bytes
abbrev pub placing_left : ℕ → Placing → ℕ
placing_left pieces placing = stage_left pieces placing.stage

-- the first step chooses as many clusters as were asked for, and each further step keeps them
abbrev pub KeepsClusters : Placing → Turn Placing Clusters (Unit {0}) → Type 0
KeepsClusters placing turn = MatchTurn turn (λ next. KeepsList placing.stage (chosen_by next)) (λ chosen. KeepsList placing.stage (listed chosen)) (λ _ _. Unit {0})

-- what it knows of the layer's file
abbrev pub KnowsFile : Placing → Layer → ℕ → File → Type 0
KnowsFile placing layer host f = KnowsIn layer host f placing.stage

-- A step changes the layer's file alone, and each outcome holds what one from before held: own bytes, entries and the backing
-- file. What is known leads on; at the end the clusters are placed; a step ends early for want of room, which changes nothing,
-- or by a fault of the disk, which leaves a sound layer on each outcome. What was spare before a step that isn't refused, as
-- what an earlier placing gave, is spare behind it.
pub record Places (placing : Placing) (layer next : Layer) (host faults : ℕ) (turn : Turn Placing Clusters (Unit {0})) (f : File) (d e : Content) : Type 0 where
  pub now : File
  pub put : IsPut d (place_kept layer) (Some now) e
  pub comes : ComesBy (HoldSame (header_kept layer) (capacity_kept layer)) f now
  pub after : MatchTurn turn
      (λ s. KnowsFile s next host now × IsChoice layer host f placing.stage (chosen_by s))
      (λ chosen. ArePlaced next host now (listed chosen))
      (λ _ refusal. EndsBy layer next host faults placing.stage f now refusal)
  pub spare : KeepsSpare layer next host turn f now

abbrev pub PlacesOn : Placing → Layer → Layer → ℕ → ℕ → Turn Placing Clusters (Unit {0}) → Content → Content → Type 0
PlacesOn placing layer next host faults turn d e = (f : File) → d.file (place_kept layer) ≡ Some f → KnowsFile placing layer host f → Places placing layer next host faults turn f d e
