-- What an opening knows between its steps stays known whatever others do.
use Rattle.std.proofs.Common.{◌≡◌, ◌≢◌, ℕ, ◌+◌, List, length, drop, Option, Some, None, refl, sym, ap, ◌∙◌, subst, inl}
use Rattle.sd_names.specs.declared.id.Id.{Id}
use Rattle.sd_names.specs.declared.place.Dir.{Dir}
use Rattle.sd_names.specs.declared.place.Name.TheVariants as name
use Rattle.sd_names.specs.declared.place.Place.{Place}
use Rattle.shared_disk.specs.Content.{Content, File}
use Rattle.shared_disk.specs.Crash.{DownLeaves, IsAlone, IsAlso}
use Rattle.shared_disk.specs.NameCalls as names
use Rattle.qcow_layer.specs.Opening as layer
use Rattle.qcow_layer.specs.Seen.{IsSeen}
use Rattle.qcow_layer.specs.declared.opening.Opening.{Opening}
use Rattle.qcow_layer.specs.declared.stages.Stage as layer_stage
use Rattle.qcow_layer.specs.declared.stages.Stage.TheVariants.{Begun, Sized, Walking}
use Rattle.qcow_layer.specs.declared.stages.Target as target
use Rattle.qcow_layer.proofs.Known.{survives}
use Rattle.qcow_layer.proofs.Knowing.{settled_alone}
use Rattle.chain_model.specs.Folder.{HoldSameVolumes, Volumes, folder_of}
use Rattle.chain_model.specs.Growth.{IsLonger, MayGrow, MayHaveGrown}
use Rattle.chain_records.specs.Records.{records_in}
use Rattle.chain_gathering.specs.Gathering as gather
use Rattle.chain_gathering.specs.Knowing.{AreSettled, IsThere, KnowsFolder, KnowsStage}
use Rattle.chain_gathering.specs.Names.{name_of}
use Rattle.chain_gathering.specs.Stages as gathering
use Rattle.chain_gathering.specs.declared.gathered.Gathered.{Gathered}
use Rattle.chain_gathering.specs.declared.gathering.Gathering.{Gathering}
use Rattle.chain_gathering.specs.declared.names.VolumeName.{VolumeName}
use Rattle.chain_gathering.specs.declared.names.VolumeName.TheVariants.{Data, Text}
use Rattle.chain_gathering.specs.declared.stages.Stage as gather_stage
use Rattle.chain_gathering.specs.declared.stages.Stage.TheVariants.{Listing, Syncing, Reading}
use Rattle.chain_gathering.specs.declared.stages.Target as gather_target
use Rattle.chain_gathering.proofs.Survival.{knows_survives}
use Rattle.volume_chain.specs.Chain.{dir_in, place_in}
use Rattle.volume_chain.specs.Knowing.{HaveLengths, IsNextLayer, IsOfImage, KnowsLayerFile, KnowsPath, StageKnows}
use Rattle.volume_chain.specs.Stages.{target_at}
use Rattle.volume_chain.specs.declared.chain.Chain.{Chain}
use Rattle.volume_chain.specs.declared.chain.Target.{Target}
use Rattle.volume_chain.specs.declared.stages.Stage.{Stage}
use Rattle.volume_chain.specs.declared.stages.Stage.TheVariants as stages
use Rattle.volume_chain.proofs.Stays.{alone_same, known_on, same_layers, same_lengths}

abbrev pub HoldsSame : Target → Content → Content → Type 0
HoldsSame t d e = HoldSameVolumes (folder_of (dir_in t) d) (folder_of (dir_in t) e)

abbrev pub HasGrown : Target → Content → Content → Type 0
HasGrown t d e = MayHaveGrown (folder_of (dir_in t) d) (folder_of (dir_in t) e)

-- ---- the gathering

same_grows : (a b : Option File) → b ≡ a → IsAlso MayGrow a b
same_grows a b e = subst (λ (o : Option File). IsAlso MayGrow a o) (sym e) (itself a)
  where
    itself : (o : Option File) → IsAlso MayGrow o o
    itself None = tt
    itself (Some f) = inl refl

same_grown : (t : Target) (d e : Content) → HoldsSame t d e → HasGrown t d e
same_grown t d e same = record { text = same.text; file = λ v. same_grows (d.file (place_in t v)) (e.file (place_in t v)) (same.file v) }

pub gather_on : (t : Target) (g : Gathering) (host : ℕ) (d e : Content) → IsOfImage t g → e.dir (dir_in t) ≡ d.dir (dir_in t) → HasGrown t d e → gather.Knows g host d → gather.Knows g host e
gather_on t g host d e of there grown knows =
    knows_survives g.target g.kept host d e g.stage (subst (λ (q : Dir). e.dir q ≡ d.dir q) (sym of.folder) there)
    (subst (λ (q : Dir). MayHaveGrown (folder_of q d) (folder_of q e)) (sym of.folder) grown) knows

-- ---- the files of the volumes are the same

lengths_on : (t : Target) (d e : Content) → HoldsSame t d e → HaveLengths t d → HaveLengths t e
lengths_on t d e same lengths v f there = lengths v f (sym (same.file v) ∙ there)

same_at : (t : Target) (d e : Content) → HoldsSame t d e → (o : VolumeName) → e.file (names.place_in (dir_in t) (name_of o)) ≡ d.file (names.place_in (dir_in t) (name_of o))
same_at t d e same (Data v) = same.file v
same_at t d e same (Text v) = same.text v

path_on : (c : Chain) (host : ℕ) (x : Volumes) (rest : List Id) (d e : Content) → HoldsSame c.target d e → KnowsPath c host x rest d → KnowsPath c host x rest e
path_on c host x rest d e same knows = record {
  settled = λ o f there. knows.settled o f (sym (same_at c.target d e same o) ∙ there);
  lengths = lengths_on c.target d e same knows.lengths;
  shown = knows.shown;
  longer = record {
    text = λ v. same.text v ∙ knows.longer.text v;
    file = λ v. subst (λ (o : Option File). IsAlso IsLonger (x.file v) o) (sym (same.file v)) (knows.longer.file v);
  };
  same = λ v h. same.file v ∙ knows.same v h;
  shape = knows.shape;
  passed = knows.passed;
  known = known_on c.target host d e (records_in c.records) c.path c.volumes (same_layers c.target host d e same) (same_lengths c.target d e same) knows.shape.each knows.known;
}

pub place_is : (c : Chain) (o : Opening) → (next : IsNextLayer c o) → (layer.target_of o).place ≡ place_in c.target next.volume
place_is c o next = ap (λ (t : target.Target). t.place) next.target

pub volume_is : (c : Chain) (o : Opening) → (next : IsNextLayer c o) → (layer.target_of o).volume ≡ next.volume
volume_is c o next = ap (λ (t : target.Target). t.volume) next.target

same_length : (s : layer_stage.Stage) (n : ℕ) → layer.SameLength s n n
same_length Begun n = refl
same_length (Sized length) n = tt
same_length (Walking w) n = tt

file_on : (c : Chain) (o : Opening) (host : ℕ) (x : Volumes) (d e : Content) → HoldsSame c.target d e → IsNextLayer c o → KnowsLayerFile o host x d → KnowsLayerFile o host x e
file_on c o host x d e same next file =
    let at : e.file (layer.target_of o).place ≡ d.file (layer.target_of o).place = subst (λ (p : Place). e.file p ≡ d.file p) (sym (place_is c o next)) (same.file next.volume) in
    let was = file.2.seen in
    let seen : IsSeen host (layer.target_of o).place file.0.size file.0.stable e = record { file = was.file; there = at ∙ was.there; long = was.long; alone = was.alone; same = was.same } in (
      file.0,
      file.1,
      survives (layer.target_of o) host file.0.size file.0.stable o.stage d e file.2 seen (same_length o.stage file.2.seen.file.size),
    )

pub stage_untouched : (s : Stage) (host : ℕ) (x : Volumes) (d e : Content) → e.dir (dir_in (target_at s)) ≡ d.dir (dir_in (target_at s)) → HoldsSame (target_at s) d e
    → StageKnows s host x d → StageKnows s host x e
stage_untouched (stages.Gathering t vols g) host x d e there same knows =
    (gather_on t g host d e knows.2 there (same_grown t d e same) knows.0, lengths_on t d e same knows.1, knows.2, knows.3)
stage_untouched (stages.Along c) host x d e there same knows = path_on c host x (drop (length c.volumes) c.path) d e same knows
stage_untouched (stages.Layer c o) host x d e there same knows =
    (path_on c host x (drop (length c.volumes + 1) c.path) d e same knows.0, knows.1, file_on c o host x d e same knows.1 knows.2)

-- ---- another host goes down

abbrev AreAlone : Target → ℕ → Content → Type 0
AreAlone t host d = (o : VolumeName) (f : File) → IsThere (dir_in t) o d f → IsAlone host f

down_same : (t : Target) (host other : ℕ) (d e : Content) → host ≢ other → DownLeaves d other e → AreAlone t host d → HoldsSame t d e
down_same t host other d e apart down alone = record {
  text = λ v. alone_same (names.place_in (dir_in t) (name.Meta v)) host other d e apart down (alone (Text v));
  file = λ v. alone_same (place_in t v) host other d e apart down (alone (Data v));
}

folder_known : (t : gather_target.Target) (kept : Gathered) (host : ℕ) (d : Content) (s : gather_stage.Stage) → KnowsStage t kept host d s → KnowsFolder (gathering.dir_in t) host d
folder_known t kept host d (Listing seen) knows = knows.folder
folder_known t kept host d (Syncing seen o) knows = knows.0.folder
folder_known t kept host d Reading knows = knows.0

gather_alone : (t : Target) (g : Gathering) (host : ℕ) (d : Content) → IsOfImage t g → gather.Knows g host d → AreAlone t host d
gather_alone t g host d of knows =
    subst (λ (q : Dir). (o : VolumeName) (f : File) → IsThere q o d f → IsAlone host f) of.folder (folder_known g.target g.kept host d g.stage knows).alone

settled_are_alone : (t : Target) (host : ℕ) (d : Content) → AreSettled (dir_in t) d → AreAlone t host d
settled_are_alone t host d settled o f there = settled_alone host f (settled o f there)

stage_alone : (s : Stage) (host : ℕ) (x : Volumes) (d : Content) → StageKnows s host x d → AreAlone (target_at s) host d
stage_alone (stages.Gathering t vols g) host x d knows = gather_alone t g host d knows.2 knows.0
stage_alone (stages.Along c) host x d knows = settled_are_alone c.target host d knows.settled
stage_alone (stages.Layer c o) host x d knows = settled_are_alone c.target host d knows.0.settled

pub stage_down : (s : Stage) (host other : ℕ) (x : Volumes) (d e : Content) → host ≢ other → DownLeaves d other e → StageKnows s host x d → StageKnows s host x e
stage_down s host other x d e apart down knows =
    stage_untouched s host x d e (down.dirs (dir_in (target_at s))) (down_same (target_at s) host other d e apart down (stage_alone s host x d knows)) knows
