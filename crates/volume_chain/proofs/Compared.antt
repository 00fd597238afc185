-- A layer was opened: what its header names is compared.
use Rattle.std.proofs.Common.{◌≡◌, ◌⊎◌, ℕ, ◌+◌, ◌*◌, ◌<◌, ◌^◌, List, length, drop, Option, Some, sym, ap, ◌∙◌, subst, inl, inr}
use Rattle.std.specs.Prelude.{unwrap_or}
use Rattle.sd_names.specs.Id.{zero_id}
use Rattle.sd_names.specs.Turn.{MatchTurn}
use Rattle.sd_names.specs.declared.id.Id.{Id}
use Rattle.sd_names.specs.declared.place.Place.{Place}
use Rattle.sd_names.specs.declared.refusal.Refusal.{Refusal}
use Rattle.sd_names.specs.declared.refusal.Refusal.TheVariants.{WrongParent}
use Rattle.sd_names.specs.declared.turn.Turn.TheVariants.{More, Done, Ended}
use Rattle.shared_disk.specs.Content.{Content, File}
use Rattle.shared_disk.specs.Crash.{IsSettled}
use Rattle.shared_disk.specs.Step.{EndsOnlyBy}
use Rattle.volume_meta.specs.declared.record.VolumeRecord.{VolumeRecord}
use Rattle.image_model.specs.File.{file_of}
use Rattle.image_model.specs.Soundness.{IsSound, layer_header}
use Rattle.qcow_layer.specs.Knowing.{KnowsLayerOn}
use Rattle.qcow_layer.specs.Opening as layer
use Rattle.qcow_layer.specs.Seen.{IsSeen}
use Rattle.qcow_layer.specs.Stages.{IsOpened}
use Rattle.qcow_layer.specs.declared.layer.Layer as layers
use Rattle.qcow_layer.specs.declared.opening.Opening.{Opening}
use Rattle.qcow_layer.specs.declared.stages.Target as target
use Rattle.qcow_layer.proofs.Knowing.{opened_known}
use Rattle.chain_model.specs.Chain.{IsBelow}
use Rattle.chain_model.specs.Folder.{Volumes}
use Rattle.chain_model.specs.Opening.{IsBadLayer, OpenFault, named_by_header}
use Rattle.chain_model.specs.Records.{Records, records_of}
use Rattle.chain_records.specs.Records.{records_in}
use Rattle.chain_records.proofs.Short.{has_chain}
use Rattle.chain_records.proofs.Opening.{same_records}
use Rattle.chain_gathering.specs.declared.names.VolumeName.TheVariants.{Data}
use Rattle.volume_chain.specs.Chain.{IsExpected, IsOpenAs, image_in, layer_of, opened, place_in}
use Rattle.volume_chain.specs.Checking.{StageTurn}
use Rattle.volume_chain.specs.Knowing.{IsNextLayer, KnowsLayerFile, KnowsPath, StageKnows}
use Rattle.volume_chain.specs.Stages.{IsNamed, IsNoFile, IsWrongParent, StageAfter, StageSteps}
use Rattle.volume_chain.specs.declared.chain.Chain.{Chain}
use Rattle.volume_chain.specs.declared.stages.Stage.{Stage}
use Rattle.volume_chain.specs.declared.stages.Stage.TheVariants as stages
use Rattle.volume_chain.specs.declared.volumes.OpenVolume.TheVariants.{Cow}
use Rattle.volume_chain.proofs.Named.{expected_passes, named_is, sound_passes, unexpected_refuses}
use Rattle.volume_chain.proofs.Opens.{path_more}
use Rattle.volume_chain.proofs.Refused.{path_refused}
use Rattle.volume_chain.proofs.Steps.{same_steps}

parent_no_file : (s : Stage) (d : Content) (e : Refusal) → IsWrongParent e → IsNoFile s d e
parent_no_file s d (WrongParent v named) is = tt
parent_no_file s d _ is = absurd is

gone : (s : Stage) (d : Content) (turn : StageTurn) → EndsOnlyBy IsWrongParent turn → MatchTurn turn (λ _. Unit {0}) (λ _. Unit {0}) (λ _ refusal. IsNoFile s d refusal)
gone s d (More next) ends = tt
gone s d (Done c) ends = tt
gone s d (Ended b e) ends = parent_no_file s d e ends

-- the layer of the path's next volume, opened from a file that is known
module _ (c : Chain) (o : Opening) (l : layers.Layer) (host : ℕ) (x : Volumes) (d : Content) (same : layer.target_kept l ≡ layer.target_of o)
    (knows : KnowsPath c host x (drop (length c.volumes + 1) c.path) d) (next : IsNextLayer c o) (file : KnowsLayerFile o host x d)
    (was : IsOpened (layer.target_of o) (file_of file.0.size file.0.stable) l.work) where
  abbrev v : Id
  v = next.volume

  abbrev f : File
  f = file.0

  abbrev r : Records
  r = records_of (image_in c.target) x

  layer_is : layer.target_kept l ≡ layer_of c.target v next.says
  layer_is = same ∙ next.target

  volume_is : (layer.target_of o).volume ≡ v
  volume_is = ap (λ (t : target.Target). t.volume) next.target

  kept_is : layer.volume_kept l ≡ v
  kept_is = ap (λ (t : target.Target). t.volume) layer_is

  place_is : (layer.target_of o).place ≡ place_in c.target v
  place_is = ap (λ (t : target.Target). t.place) next.target

  bytes_is : (layer.target_of o).capacity ≡ next.says.capacity
  bytes_is = ap (λ (t : target.Target). t.capacity) next.target

  says : r v ≡ Some next.says
  says = knows.shown.read.records v ∙ next.is

  there : x.file v ≡ Some f
  there = subst (λ (u : Id). x.file u ≡ Some f) volume_is file.1

  sound : IsSound (file_of f.size f.stable) next.says.capacity
  sound = subst (λ (n : ℕ). IsSound (file_of f.size f.stable) n) bytes_is was.sound

  -- what its header names
  named : named_by_header x r v ≡ unwrap_or (layer.parent_kept l) zero_id
  named =
      named_is x r v next.says f l.work.header l.work.parent says there next.cow
      (subst (λ (n : ℕ). layer_header (file_of f.size f.stable) n ≡ _) bytes_is was.is_work.header.0) was.is_work.header.1

  fine : (e : Refusal) → IsBadLayer x r v e → ⊥
  fine = sound_passes x r v next.says f says there sound

  seen : IsSeen host (layer.target_of o).place f.size f.stable d
  seen = file.2.seen

  at_place : d.file (place_in c.target v) ≡ Some seen.file
  at_place = subst (λ (p : Place). d.file p ≡ Some seen.file) place_is seen.there

  settled : IsSettled seen.file
  settled = knows.settled (Data v) seen.file at_place

  known : KnowsLayerOn l host d
  known = at_kept (sym same) seen settled (knows.lengths v seen.file at_place) was
    where
      at_kept : {t : target.Target} → t ≡ l.target → (s : IsSeen host t.place f.size f.stable d) → IsSettled s.file → 512 * s.file.size < 2 ^ 64
          → IsOpened t (file_of f.size f.stable) l.work → KnowsLayerOn l host d
      at_kept {t} e =
          subst (λ (u : target.Target). (s : IsSeen host u.place f.size f.stable d) → IsSettled s.file → 512 * s.file.size < 2 ^ 64 → IsOpened u (file_of f.size f.stable) l.work
          → KnowsLayerOn l host d) (sym e) (opened_known l host f.size f.stable d)

  -- what it names
  abbrev what : Id
  what = unwrap_or (layer.parent_kept l) zero_id

  records : r ≡ records_in c.records
  records = same_records (image_in c.target) x c.records knows.shown.read

  below_of : (vs : List Id) → IsBelow (records_in c.records) (layer.volume_kept l) vs → IsBelow r v vs
  below_of vs below = subst (λ (u : Id). IsBelow r u vs) kept_is (subst (λ (q : Records). IsBelow q (layer.volume_kept l) vs) (sym records) below)

  expected_of : (vs : List Id) → IsExpected (records_in c.records) (layer.volume_kept l) vs what → IsExpected r v vs what
  expected_of vs is = subst (λ (u : Id). IsExpected r u vs what) kept_is (subst (λ (q : Records). IsExpected q (layer.volume_kept l) vs what) (sym records) is)

  unexpected_of : (vs : List Id) → (IsExpected (records_in c.records) (layer.volume_kept l) vs what → ⊥) → IsExpected r v vs what → ⊥
  unexpected_of vs other is =
      other (subst (λ (q : Records). IsExpected q (layer.volume_kept l) vs what) records (subst (λ (u : Id). IsExpected r u vs what) (sym kept_is) is))

  open_as : IsOpenAs c.target v (records_in c.records v) (Cow l)
  open_as = subst (λ (q : Option VolumeRecord). IsOpenAs c.target v q (Cow l)) (sym next.is) (next.cow, layer_is)

  goes_on : (vs : List Id) → IsBelow (records_in c.records) (layer.volume_kept l) vs → IsExpected (records_in c.records) (layer.volume_kept l) vs what
      → StageKnows (stages.Along (opened c (Cow l))) host x d
  goes_on vs below is =
      path_more c v (Cow l) host x d next.next open_as (fine, expected_passes x r v vs what (below_of vs below) named (expected_of vs is)) known knows

  is_refused : (vs : List Id) → IsBelow (records_in c.records) (layer.volume_kept l) vs → (IsExpected (records_in c.records) (layer.volume_kept l) vs what → ⊥)
      → OpenFault (image_in c.target) x (WrongParent (layer.volume_kept l) what)
  is_refused vs below other =
      subst (λ (u : Id). OpenFault (image_in c.target) x (WrongParent u what)) (sym kept_is)
      (path_refused c host x (drop (length c.volumes + 1) c.path) d o (WrongParent v what) knows next
      (inr (fine, unexpected_refuses x r v next.says vs what says next.cow (below_of vs below) named (unexpected_of vs other))))

  pub after_named : (turn : StageTurn) → IsNamed c l turn → StageAfter c.target host x turn d
  after_named turn is = let chain = has_chain c.records (layer.volume_kept l) knows.shape.checked in go chain.0 chain.1 (is chain.0 chain.1)
    where
      go : (vs : List Id) → IsBelow (records_in c.records) (layer.volume_kept l) vs
          → (IsExpected (records_in c.records) (layer.volume_kept l) vs what × (turn ≡ More (stages.Along (opened c (Cow l)))))
          ⊎ ((IsExpected (records_in c.records) (layer.volume_kept l) vs what → ⊥) × (turn ≡ Ended tt (WrongParent (layer.volume_kept l) what))) → StageAfter c.target host x turn d
      go vs below (inl may) = subst (λ (t : StageTurn). StageAfter c.target host x t d) (sym may.1) (goes_on vs below may.0)
      go vs below (inr other) = subst (λ (t : StageTurn). StageAfter c.target host x t d) (sym other.1) (inr (knows.settled, inr (is_refused vs below other.0)))

pub named_steps : (c : Chain) (o : Opening) (l : layers.Layer) (host : ℕ) (turn : StageTurn) (d e : Content) → layer.target_kept l ≡ layer.target_of o → layer.OpensOn o host (Done l) d e
    → IsNamed c l turn → EndsOnlyBy IsWrongParent turn → StageSteps (stages.Layer c o) host turn d e
named_steps c o l host turn d e same on named ends =
    same_steps (stages.Layer c o) host turn d e on.same (gone (stages.Layer c o) d turn ends)
    (λ x knows. after_named c o l host x d same knows.0 knows.1 knows.2 (on.after knows.2.0.size knows.2.0.stable knows.2.2) turn named)
