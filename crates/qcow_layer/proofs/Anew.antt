-- The layer of a file that was made anew.
use Rattle.std.proofs.Common.{◌≡◌, ℕ, ◌*◌, ◌/◌, ◌^◌, ◌≤◌, max, List, Option, Some, Ok, sym, ap, ◌∙◌, subst, arith}
use Rattle.std.specs.Prelude.{not}
use Rattle.sd_names.specs.declared.id.Id.{Id}
use Rattle.sd_names.specs.declared.place.Place.{Place}
use Rattle.shared_disk.specs.Content.{Content, File, seen}
use Rattle.shared_disk.proofs.Outcomes.{settled_file}
use Rattle.qcow_format.specs.declared.header.Header.{Header}
use Rattle.qcow_format.specs.Name.{backing_id}
use Rattle.image_model.specs.File.{file_of}
use Rattle.image_model.specs.Layer.{is_used}
use Rattle.image_model.specs.Soundness.{IsSound, layer_header}
use Rattle.layer_walk.specs.Marks.{map_size}
use Rattle.layer_creating.specs.New.{IsCapacity, IsLength, IsNewLayer, new_sector}
use Rattle.layer_creating.specs.Says.{SaysNew}
use Rattle.layer_creating.specs.declared.backing.Backing.{Backing}
use Rattle.layer_creating.proofs.New.{new_layer_says}
use Rattle.qcow_layer.specs.Fresh.{IsFresh}
use Rattle.qcow_layer.specs.Knowing.{KnowsLayerOn, KnowsNumbers}
use Rattle.qcow_layer.specs.Stages.{roof}
use Rattle.qcow_layer.specs.declared.layer.Layer.{Layer}
use Rattle.qcow_layer.proofs.Knowing.{settled_alone, settled_seen}

module _ (l : Layer) (id : Id) (at : Place) (capacity greatest : ℕ) (backing : Option Backing) (bytes host : ℕ) (d : Content) (f : File)
    (fresh : IsFresh l id at capacity greatest backing bytes) (fits : IsCapacity capacity) (long : IsLength bytes) (there : d.file at ≡ Some f) (made : IsNewLayer capacity backing bytes f) where
  abbrev sectors : ℕ → List ℕ
  sectors = new_sector capacity backing

  n_is : f.size ≡ bytes / 512
  n_is = made.size

  enough : 2560 ≤ f.size
  enough = omega (arith, made.size, long.1)

  whole : 512 * f.size ≡ bytes
  whole = omega (arith, made.size, long.0)

  stable_is : f.stable ≡ sectors
  stable_is = λ i k. made.sectors k i

  says : SaysNew capacity backing (file_of f.size sectors)
  says = new_layer_says capacity f.size backing fits fresh.bytes enough

  numbers : KnowsNumbers l (file_of f.size sectors)
  numbers = record {
    header = ap (layer_header (file_of f.size sectors)) fresh.capacity_is ∙ says.header ∙ ap (λ h. Ok h) (sym fresh.header);
    parent = fresh.parent ∙ sym says.parent ∙ ap (λ h. backing_id h (file_of f.size sectors).head) (sym fresh.header);
    sound = subst (λ (n : ℕ). IsSound (file_of f.size sectors) n) (sym fresh.capacity_is) says.sound;
    used = λ c lt. fresh.map.free c lt ∙ ap not (sym (ap (λ (h : Header). is_used (record { header = h; file = file_of f.size sectors }) c) fresh.header ∙ says.used c));
  }

  seen_is : seen host f ≡ sectors
  seen_is = settled_seen host f made.settled ∙ stable_is

  pub fresh_known : KnowsLayerOn l host d
  fresh_known = record {
    file = f;
    there = ap d.file fresh.place ∙ there;
    knows = record {
      alone = settled_alone host f made.settled;
      made = made.settled.fresh;
      numbers = subst (λ (s : ℕ → List ℕ). KnowsNumbers l (file_of f.size s)) (sym seen_is) numbers;
      each = λ g out.
          subst (λ (o : File). IsSound (file_of o.size o.stable) l.target.capacity) (sym (settled_file f g made.settled out))
          (subst (λ (s : ℕ → List ℕ). IsSound (file_of f.size s) l.target.capacity) (sym stable_is) numbers.sound);
      long = omega (arith, fresh.map.size, whole);
      fits = omega (arith, whole, fresh.fits);
      map = fresh.map.room ∙ ap (λ n. map_size (max n (roof greatest)) 65_536) (sym fresh.map.size)
          ∙ ap (λ n. map_size (max l.work.marks.size (roof n)) 65_536) (sym fresh.greatest_is)
          ∙ ap (λ (h : Header). map_size (max l.work.marks.size (roof l.target.greatest)) (2 ^ h.cluster_bits)) (sym fresh.header);
    };
  }
