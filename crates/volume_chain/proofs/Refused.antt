-- A layer of the path that is refused: the refusal is the image's first.
use Rattle.std.proofs.Common.{◌≡◌, ℕ, List, Some, None, refl, sym, ap, ◌∙◌, subst, inl, inr}
use Rattle.sd_names.specs.declared.fault.LayerFault.{LayerFault}
use Rattle.sd_names.specs.declared.id.Id.{Id}
use Rattle.sd_names.specs.declared.place.Place.{Place}
use Rattle.sd_names.specs.declared.refusal.Refusal.{Refusal}
use Rattle.sd_names.specs.declared.refusal.Refusal.TheVariants.{DiskFault, LayerRefused, OutOfMemory, Vanished}
use Rattle.sd_names.specs.declared.turn.Turn.TheVariants.{Ended}
use Rattle.shared_disk.specs.Content.{Content}
use Rattle.qcow_layer.specs.Opening as layer
use Rattle.qcow_layer.specs.Stages as stage
use Rattle.qcow_layer.specs.declared.opening.Opening.{Opening}
use Rattle.qcow_layer.specs.declared.stages.Target as layers
use Rattle.image_model.specs.File.{file_of}
use Rattle.image_model.specs.Soundness.{HasFault}
use Rattle.chain_model.specs.Folder.{Volumes}
use Rattle.chain_model.specs.Opening.{FirstRefusal, OpenFault, both, header, layer as layer_check}
use Rattle.chain_records.specs.Records.{ids_of}
use Rattle.chain_records.proofs.Opening.{refused_by_layers}
use Rattle.chain_gathering.specs.declared.names.VolumeName.TheVariants.{Data}
use Rattle.volume_chain.specs.Chain.{image_in}
use Rattle.volume_chain.specs.Knowing.{IsNextLayer, KnowsLayerFile, KnowsPath}
use Rattle.volume_chain.specs.Stages.{IsNoFile, IsRefused, StageSteps}
use Rattle.volume_chain.specs.declared.chain.Chain.{Chain}
use Rattle.volume_chain.specs.declared.stages.Stage.TheVariants as stages
use Rattle.volume_chain.proofs.PathChecks.{IsRefusedAt, all_fine, first_at}
use Rattle.volume_chain.proofs.Reaches.{layer_reached}
use Rattle.volume_chain.proofs.Steps.{same_steps}

-- where the next volume is refused, so is the image
pub path_refused : (c : Chain) (host : ℕ) (x : Volumes) (rest : List Id) (d : Content) (o : Opening) (e : Refusal) → KnowsPath c host x rest d → (next : IsNextLayer c o)
    → IsRefusedAt (image_in c.target) x next.volume e → OpenFault (image_in c.target) x e
path_refused c host x rest d o e knows next refused =
    let reading = knows.shape.reading in
    refused_by_layers (image_in c.target) x c.records reading.0 reading.1 e knows.shown knows.shape.checked reading.2
    (subst (λ (path : List Id). FirstRefusal (image_in c.target) x (ids_of c.records) (both layer_check header path) e) reading.3
    (first_at (image_in c.target) x (ids_of c.records) c.path c.volumes next.volume e (all_fine c host x rest d knows) next.next refused))

pub layer_fault : (c : Chain) (host : ℕ) (x : Volumes) (rest : List Id) (d : Content) (o : Opening) (fault : LayerFault) → KnowsPath c host x rest d → (next : IsNextLayer c o)
    → (file : KnowsLayerFile o host x d) → HasFault (file_of file.0.size file.0.stable) (layer.target_of o).capacity fault → OpenFault (image_in c.target) x (LayerRefused (layer.target_of o).volume fault)
layer_fault c host x rest d o fault knows next file has =
    let volume : (layer.target_of o).volume ≡ next.volume = ap (λ (t : layers.Target). t.volume) next.target in
    let bytes : (layer.target_of o).capacity ≡ next.says.capacity = ap (λ (t : layers.Target). t.capacity) next.target in
    subst (λ (v : Id). OpenFault (image_in c.target) x (LayerRefused v fault)) (sym volume)
    (path_refused c host x rest d o (LayerRefused next.volume fault) knows next (inl (
      next.says,
      knows.shown.read.records next.volume ∙ next.is,
      next.cow,
      file.0,
      subst (λ (v : Id). x.file v ≡ Some file.0) volume file.1,
      fault,
      subst (λ (n : ℕ). HasFault (file_of file.0.size file.0.stable) n fault) bytes has,
      refl,
    )))

no_file : (c : Chain) (o : Opening) (refusal : Refusal) (d : Content) → stage.IsGone (layer.target_of o) refusal d → IsNoFile (stages.Layer c o) d refusal
no_file c o (Vanished a) d gone =
    (gone.0, λ shaped. inr (Data shaped.1.volume, subst (λ (q : Place). d.file q ≡ None) (ap (λ (t : layers.Target). t.place) shaped.1.target) gone.1))
no_file c o _ d gone = tt

refused : (c : Chain) (host : ℕ) (x : Volumes) (rest : List Id) (d : Content) (o : Opening) (e : Refusal) → KnowsPath c host x rest d → IsNextLayer c o → (file : KnowsLayerFile o host x d)
    → stage.IsRefused (layer.target_of o) (file_of file.0.size file.0.stable) e → IsRefused c.target x e d
refused c host x rest d o (LayerRefused v fault) knows next file is =
    inr (knows.settled, inr (subst (λ (u : Id). OpenFault (image_in c.target) x (LayerRefused u fault)) (sym is.0) (layer_fault c host x rest d o fault knows next file is.1)))
refused c host x rest d o (DiskFault n) knows next file is = inl (n, refl)
refused c host x rest d o OutOfMemory knows next file is = inr (knows.settled, inl (layer_reached c o host x rest d knows next file is.0 is.1))
refused c host x rest d o _ knows next file is = absurd is

pub layer_ended : (c : Chain) (o : Opening) (host : ℕ) (e : Refusal) (d after : Content) → layer.OpensOn o host (Ended tt e) d after → StageSteps (stages.Layer c o) host (Ended tt e) d after
layer_ended c o host e d after on = same_steps (stages.Layer c o) host (Ended tt e) d after on.same (no_file c o e d on.gone)
    (λ x knows. refused c host x _ d o e knows.0 knows.1 knows.2 (on.after knows.2.0.size knows.2.0.stable knows.2.2))
