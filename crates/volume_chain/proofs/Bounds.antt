-- How many steps an opening takes at the most.
use Rattle.std.proofs.Common.{◌≡◌, ℕ, zero, suc, ◌+◌, ◌*◌, ◌<◌, ◌≤◌, List, [], ◌∷◌, length, drop, Option, Some, None, Ok, refl, sym, ap, ◌∙◌, subst, arith}
use Rattle.std.specs.Prelude.{sum_by}
use Rattle.std.proofs.lemmas.List.Sums.{sum_by-cons}
use Rattle.sd_names.specs.declared.id.Id.{Id}
use Rattle.sd_names.specs.declared.place.Name.{Name}
use Rattle.sd_names.specs.declared.place.Name.TheVariants as name
use Rattle.sd_names.specs.declared.turn.Turn.TheVariants.{More}
use Rattle.qcow_format.specs.declared.header.Header.{Header}
use Rattle.shared_disk.specs.Content.{Content, File}
use Rattle.image_model.specs.File.{file_of}
use Rattle.image_model.specs.Soundness.{layer_header}
use Rattle.layer_walk.specs.Items.{layer_of}
use Rattle.layer_walk.specs.Known.{work_of}
use Rattle.layer_walk.specs.Left.{Antitone, positions_from}
use Rattle.layer_walk.specs.Steps.{IsStop, named_from}
use Rattle.layer_walk.specs.declared.walk.Walk.{Walk}
use Rattle.qcow_layer.specs.Left.{IsOf}
use Rattle.qcow_layer.specs.Opening as layer
use Rattle.qcow_layer.specs.Stages as layer_knows
use Rattle.qcow_layer.specs.declared.opening.Opening.{Opening}
use Rattle.qcow_layer.specs.declared.stages.Stage as layer_stage
use Rattle.qcow_layer.specs.declared.stages.Stage.TheVariants.{Begun, Sized, Walking}
use Rattle.qcow_layer.specs.declared.stages.Target as layers
use Rattle.qcow_layer.proofs.Known.{bounds, inside_bounds}
use Rattle.chain_model.specs.Folder.{Volumes}
use Rattle.chain_model.specs.Records.{records_of}
use Rattle.chain_gathering.specs.Names.{cost_of, price}
use Rattle.chain_gathering.specs.Steps.{IsPaid}
use Rattle.chain_gathering.proofs.Costs.{cost_by_all}
use Rattle.volume_chain.specs.Chain.{image_in}
use Rattle.volume_chain.specs.Knowing.{IsNextLayer, StageKnows, StageShaped}
use Rattle.volume_chain.specs.Left.{EntersFrom, HasHeaderAt, HaveTables, OpensTablesAt, left_at, path_left, steps_left, tables_left}
use Rattle.volume_chain.specs.Opening.{IsBegun}
use Rattle.volume_chain.specs.Stages.{Falls, StageMeets, target_at, volume_cost}
use Rattle.volume_chain.specs.declared.chain.Chain.{Chain}
use Rattle.volume_chain.specs.declared.opening.ChainOpening.{ChainOpening}
use Rattle.volume_chain.specs.declared.stages.Stage.{Stage}
use Rattle.volume_chain.specs.declared.stages.Stage.TheVariants.{Gathering, Along, Layer}

-- the rest of a path costs no more than all of it
rest_cost : (heads : Id → Header) (tables : Id → ℕ → ℕ) (n : ℕ) (path : List Id) → sum_by (volume_cost heads tables) (drop n path) ≤ sum_by (volume_cost heads tables) path
rest_cost heads tables zero path = omega arith
rest_cost heads tables (suc n) [] = omega arith
rest_cost heads tables (suc n) (v ∷ vs) = omega (arith, rest_cost heads tables n vs, sum_by-cons (volume_cost heads tables) v vs)

module _ (cost : Option Name → ℕ) (heads : Id → Header) (tables : Id → ℕ → ℕ) (along : ℕ) (fewer : (v : Id) → Antitone (tables v)) where
  pub stage_falls : (s next : Stage) → Falls s next → StageMeets (IsPaid cost) s (More next) → StageShaped s → EntersFrom heads tables along s next → OpensTablesAt heads tables next
      → left_at cost heads tables along next < left_at cost heads tables along s
  stage_falls (Gathering t vols g) (Gathering u more h) falls meets shaped enters opens = omega (arith, falls cost meets)
  stage_falls (Gathering t vols g) (Along c) falls meets shaped enters opens = omega (arith, falls cost, enters, rest_cost heads tables (length c.volumes) c.path)
  stage_falls (Gathering t vols g) (Layer c o) falls meets shaped enters opens = absurd falls
  stage_falls (Along b) (Gathering u more h) falls meets shaped enters opens = absurd falls
  stage_falls (Layer b p) (Gathering u more h) falls meets shaped enters opens = absurd falls
  stage_falls (Along b) (Along c) falls meets shaped enters opens = falls heads tables shaped
  stage_falls (Layer b p) (Along c) falls meets shaped enters opens = falls heads tables shaped
  stage_falls (Along b) (Layer c o) falls meets shaped enters opens = falls heads tables fewer shaped opens
  stage_falls (Layer b p) (Layer c o) falls meets shaped enters opens = falls heads tables fewer shaped opens

-- ---- from the start

cheap : (n : Name) → price n ≤ 3
cheap (name.Volume v) = omega arith
cheap (name.Meta v) = omega arith
cheap _ = omega arith

names_cost : (ns : List Name) → sum_by price ns ≤ 3 * length ns
names_cost [] = omega arith
names_cost (n ∷ ns) = omega (arith, sum_by-cons price n ns, names_cost ns, cheap n)

pub path_cost : (heads : Id → Header) (tables : Id → ℕ → ℕ) (path : List Id) → sum_by (volume_cost heads tables) path ≡ sum_by (tables_left heads tables) path + 7 * length path
path_cost heads tables [] = refl
path_cost heads tables (v ∷ vs) = omega (arith, sum_by-cons (volume_cost heads tables) v vs, sum_by-cons (tables_left heads tables) v vs, path_cost heads tables vs)

in_all : (left cost along tables names path n : ℕ) → left ≡ cost + 2 + (along + 1) → cost ≤ 3 * names → along ≡ tables + 7 * path → path ≤ n → left ≤ 64 + 4 * names + 32 * n + tables
in_all left cost along tables names path n a b c d = omega (arith, a, b, c, d)

pub begun_short : (o : ChainOpening) (sd id : Id) (version n : ℕ) (ns : List Name) (heads : Id → Header) (tables : Id → ℕ → ℕ) (path : List Id) → IsBegun o sd id version → length path ≤ n
    → steps_left (cost_of ns) heads tables (path_left heads tables path) o ≤ 64 + 4 * length ns + 32 * n + sum_by (tables_left heads tables) path
begun_short o sd id version n ns heads tables path begun short =
    let names : cost_of ns None ≤ 3 * length ns = omega (arith, cost_by_all price ns, names_cost ns) in
    in_all (steps_left (cost_of ns) heads tables (path_left heads tables path) o) (cost_of ns None) (sum_by (volume_cost heads tables) path) (sum_by (tables_left heads tables) path) (length ns) (length path) n
    (begun.left (cost_of ns) heads tables (path_left heads tables path)) names (path_cost heads tables path) short

-- ---- the tables of the layer that is being opened

pub positions : (s : Stage) (heads : Id → Header) → StageShaped s → HasHeaderAt heads s → OpensTablesAt heads (λ v. positions_from (heads v)) s
positions (Gathering t vols g) heads shaped has = tt
positions (Along c) heads shaped has = tt
positions (Layer c o) heads shaped has = inside_bounds (heads (layer.target_of o).volume) o.stage has shaped.2

module _ (c : Chain) (o : Opening) (host : ℕ) (x : Volumes) (d : Content) (heads : Id → Header) (tables : Id → ℕ → ℕ) (knows : StageKnows (Layer c o) host x d)
    (have : HaveTables (image_in c.target) x heads tables) where
  abbrev v : Id
  v = (layer.target_of o).volume

  abbrev f : File
  f = knows.2.0

  abbrev next : IsNextLayer c o
  next = knows.1

  volume_is : v ≡ next.volume
  volume_is = ap (λ (t : layers.Target). t.volume) next.target

  bytes_is : (layer.target_of o).capacity ≡ next.says.capacity
  bytes_is = ap (λ (t : layers.Target). t.capacity) next.target

  says : records_of (image_in c.target) x v ≡ Some next.says
  says = subst (λ (u : Id). records_of (image_in c.target) x u ≡ Some next.says) (sym volume_is) (knows.0.shown.read.records next.volume ∙ next.is)

  walks : (w : Walk) → o.stage ≡ Walking w → OpensTablesAt heads tables (Layer c o)
  walks w is =
      let walking = subst (λ (s : layer_stage.Stage). layer_knows.Knows (layer.target_of o) host f.size f.stable s d) is knows.2.2 in
      let h : Header = (work_of w).header in
      let reads : layer_header (file_of f.size f.stable) (layer.target_of o).capacity ≡ Ok h = walking.holds.0.header.0 in
      let at = have v next.says f h says knows.2.1 (subst (λ (n : ℕ). layer_header (file_of f.size f.stable) n ≡ Ok h) bytes_is reads) in
      let stops = subst (λ (n : ℕ). IsStop (layer_of h (file_of f.size f.stable)) n at.1) (sym bytes_is) at.2 in
      let bound = bounds (layer.target_of o) host f.size at.1 f.stable o.stage h d knows.2.2 reads stops in
      subst (λ (k : Header). IsOf k (tables v) o.stage) (sym at.0)
      (subst (λ (t : ℕ → ℕ). IsOf h t o.stage) (sym (at.3 ∙ ap (λ (n : ℕ). named_from (layer_of h (file_of f.size f.stable)) n at.1) (sym bytes_is))) bound)

  pub layer_tables : OpensTablesAt heads tables (Layer c o)
  layer_tables = go o.stage refl
    where
      go : (s : layer_stage.Stage) → o.stage ≡ s → OpensTablesAt heads tables (Layer c o)
      go Begun is = subst (λ (s : layer_stage.Stage). IsOf (heads v) (tables v) s) (sym is) tt
      go (Sized length) is = subst (λ (s : layer_stage.Stage). IsOf (heads v) (tables v) s) (sym is) tt
      go (Walking w) is = walks w is

pub known_tables : (s : Stage) (host : ℕ) (x : Volumes) (d : Content) (heads : Id → Header) (tables : Id → ℕ → ℕ) → StageKnows s host x d → HaveTables (image_in (target_at s)) x heads tables
    → OpensTablesAt heads tables s
known_tables (Gathering t vols g) host x d heads tables knows have = tt
known_tables (Along c) host x d heads tables knows have = tt
known_tables (Layer c o) host x d heads tables knows have = layer_tables c o host x d heads tables knows have
