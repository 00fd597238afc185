-- The volumes below the one that is written can be read.
use Rattle.std.proofs.Common.{◌≡◌, ℕ, slice_get, Some, refl, ap, ◌∙◌, subst}
use Rattle.std.specs.Prelude.{◌≢◌}
use Rattle.sd_names.specs.declared.id.Id.{Id}
use Rattle.sd_names.specs.declared.place.Name.TheVariants as name
use Rattle.sd_names.specs.declared.place.Place.{Place}
use Rattle.shared_disk.specs.Calls.{IsPut}
use Rattle.shared_disk.specs.Content.{Content, File}
use Rattle.volume_meta.specs.declared.record.VolumeRecord.{VolumeRecord}
use Rattle.qcow_layer.specs.declared.layer.Layer.{Layer}
use Rattle.chain_model.specs.Folder.{Folder, Volumes}
use Rattle.chain_laws.specs.Laid.{Laying}
use Rattle.chain_laws.specs.Written.{FileWritten}
use Rattle.volume_chain.specs.Chain.{place_in}
use Rattle.volume_chain.specs.LendingChain.{with_layer_at}
use Rattle.volume_chain.specs.declared.chain.Chain.{Chain}
use Rattle.volume_chain.specs.declared.volumes.OpenVolume.TheVariants.{Cow}
use Rattle.chain_reading.specs.Knowing.{KnowsImage}
use Rattle.chain_reading.specs.Reading.{IsAskedFrom}
use Rattle.chain_reading.proofs.Survives.{image_untouched}
use Rattle.raw_writing.specs.Image.{OnlyChanges}
use Rattle.raw_writing.proofs.Image.{file_apart, others}
use Rattle.guest_laws.specs.Write.{KnowsWrite}
use Rattle.guest_laws.proofs.Paths.{set_length, set_there}
use Rattle.guest_laws.proofs.Writes.{layer_place, open_as, steps}

pub lower_known : (c : Chain) (index : ℕ) (w next : Layer) (l : Laying) (x : VolumeRecord) (host : ℕ) (start : Folder) (f now : File) (d e : Content) (u : Id) (y : Volumes)
    → KnowsWrite c index w l x host start f d → next.target ≡ w.target → IsPut d w.target.place (Some now) e → FileWritten l f now
    → ((z : Id) → IsAskedFrom c u z → z ≢ l.volume) → KnowsImage c u host y d → KnowsImage (with_layer_at c index next) u host y e
lower_known c index w next l x host start f now d e u y k target put written apart image =
    image_untouched c (with_layer_at c index next) u host y d e
    (record {
      shape = (steps c index w next l x host start f now d e k target put written).others.shape;
      target = refl;
      path = refl;
      all = set_length c.volumes index (Cow next);
      opened = λ i from. set_there c.volumes index i (Cow next) (λ same. apart l.volume (i, from, ap (λ (n : ℕ). slice_get c.path n) same ∙ k.path) refl);
    })
    (λ z asked. others c l.volume host d e only (name.Volume z) (file_apart z l.volume (apart z asked))) image
  where
    only : OnlyChanges (place_in c.target l.volume) d e
    only = subst (λ (p : Place). OnlyChanges p d e) (layer_place c l x w (open_as c l x index w k.of k.others.shape k.path k.layer)) (record { dirs = put.dirs; files = put.others })
