-- Room that was found: it isn't short, and it is there still once the header has lost its features.
use Rattle.std.proofs.Common.{◌≡◌, ℕ, ◌+◌, ◌-◌, ◌*◌, ◌<◌, ◌≤◌, Bool, List, length, refl, sym, ap, ◌∙◌, subst, arith}
use Rattle.std.specs.Prelude.{min, slice_index}
use Rattle.shared_disk.specs.Content.{File}
use Rattle.image_model.specs.File as image
use Rattle.image_model.specs.Layer.{Tables}
use Rattle.image_model.specs.Room.{end_of_room, how_many, room_of}
use Rattle.qcow_format.specs.declared.header.Header.{Header}
use Rattle.layer_laws.specs.Laws.{layer}
use Rattle.layer_walk.specs.Bits as bits
use Rattle.layer_walk.specs.Marks.{free_by}
use Rattle.layer_walk.specs.declared.marks.Marks.{Marks}
use Rattle.qcow_layer.specs.Knowing.{is_free, mapped}
use Rattle.qcow_layer.specs.Mapping.{IsWithHeader}
use Rattle.qcow_layer.specs.Opening.{parent_kept}
use Rattle.qcow_layer.specs.declared.layer.Layer.{Layer}
use Rattle.layer_writing.specs.Holding.{as_seen}
use Rattle.layer_writing.specs.Writer.{MapTells}
use Rattle.layer_heading.specs.Cleared.{cleared}
use Rattle.layer_placing.specs.Chosen.{AreLeast, IsShort}
use Rattle.layer_placing.proofs.Least.{fewer_free, grows, next_counted}
use Rattle.write_preparing.specs.Preparing.{HasRoom}

pub seen_size : (host : ℕ) (f : File) → (as_seen host f).size ≡ 512 * f.size
unfolding image.file_of
seen_size host f = refl

-- where as many free clusters were chosen as are wanted, a refusal for want of room is none
pub not_short : (w : Layer) (t : Tables) (count bytes long : ℕ) (xs : List ℕ) → MapTells w t → AreLeast w (end_of_room (room_of t)) count xs → length xs ≡ count → 1 ≤ count → IsShort w (room_of t) count bytes long → ⊥
not_short w t count bytes long xs tells least all some short =
    let last : length xs - 1 < length xs = omega (arith, all, some) in
    let at = least.each (length xs - 1) last in
    let x : ℕ = slice_index xs (length xs - 1) in
    let end : ℕ = min (end_of_room (room_of t)) (mapped w) in
    let more = grows (is_free w) (x + 1) end (omega (arith, at.1, at.2)) in
    let next = next_counted (is_free w) x at.0.free in
    let same = fewer_free w t end tells (omega arith) in
    omega (arith, short.few, same, more, next, at.0.below, all, some)

module _ (w next : Layer) (is : IsWithHeader w (cleared w.work.header) (parent_kept w) next) where
  map_same : is_free next ≡ is_free w
  map_same = ap (λ (m : Marks). (λ (c : ℕ). free_by m c)) is.marks

  -- as much room is there with the header that has lost its features
  pub room_stays : (sectors wanted : ℕ) → HasRoom w sectors wanted → HasRoom next sectors wanted
  room_stays sectors wanted room = record {
    chosen = room.chosen;
    least = λ file size. go file (room.least file size);
    all = room.all;
  }
    where
      end_same : (file : image.File) → end_of_room (room_of (layer next.work.header file)) ≡ end_of_room (room_of (layer w.work.header file))
      end_same file = ap (λ (h : Header). end_of_room (room_of (layer h file))) is.header_is

      go : (file : image.File) → AreLeast w (end_of_room (room_of (layer w.work.header file))) wanted room.chosen → AreLeast next (end_of_room (room_of (layer next.work.header file))) wanted room.chosen
      go file least = subst (λ n. AreLeast next n wanted room.chosen) (sym (end_same file)) (record {
        each = λ i lt. let a = least.each i lt in (
          record {
            free = ap (λ (F : ℕ → Bool). F (slice_index room.chosen i)) map_same ∙ a.0.free;
            below = ap (λ (F : ℕ → Bool). how_many F (slice_index room.chosen i)) map_same ∙ a.0.below;
          },
          a.1,
          subst (λ n. slice_index room.chosen i < n) (sym mapped_same) a.2,
        );
        many = least.many;
        few = λ less. ap (λ n. how_many (is_free next) (min (end_of_room (room_of (layer w.work.header file))) n)) mapped_same
            ∙ ap (λ (F : ℕ → Bool). how_many F (min (end_of_room (room_of (layer w.work.header file))) (mapped w))) map_same ∙ least.few less;
      })
        where
          mapped_same : mapped next ≡ mapped w
          mapped_same = ap (λ (m : Marks). bits.room_of m.free) is.marks
